-- A directory that is both exclusive and shared.
use Rattle.std.proofs.Common.{◌≡◌, ◌↔◌, Bool, true, false, not, ◌&&◌, ◌||◌, IsTrue, List, [], ◌∷◌, refl, ap, sym, ◌∙◌}
use Rattle.std.specs.List.{Contains}
use Rattle.std.proofs.lemmas.Bool.{and_parts, not-true}
use Rattle.bx_tree.specs.Orders.{same_path_decides}
use Rattle.bx_tree.specs.Paths.{Atoms, same_path}
use Rattle.bx_tree.proofs.FoundByTest.{found_by_test}
use Rattle.pip_model_types.specs.declared.outputs.OutDir.{OutDir}
use Rattle.dscript_sdk_execute.specs.Execute.{has_other_sharing}

abbrev exclusive_of : OutDir → OutDir
exclusive_of d = record { path = d.path; shared = false }

abbrev shares_with : OutDir → OutDir → Bool
shares_with d e = same_path d.path e.path && d.shared && not e.shared

only_exclusive : (d e : OutDir) → shares_with d e ≡ true → e ≡ exclusive_of d
only_exclusive d e h =
    let outer = and_parts (same_path d.path e.path && d.shared) (not e.shared) h in
    let inner = and_parts (same_path d.path e.path) d.shared outer.0 in
    let with : Atoms → Bool → OutDir = λ p b. record { path = p; shared = b } in
    ap (λ p. with p e.shared) (sym ((same_path_decides d.path e.path).0 inner.0))
    ∙ ap (λ b. with d.path b) (not-true e.shared outer.1)

shares_exclusive_of : (d : OutDir) → d.shared ≡ true → shares_with d (exclusive_of d) ≡ true
shares_exclusive_of d e =
    ap (λ b. b && d.shared && true) ((same_path_decides d.path d.path).1 refl) ∙ ap (λ b. b && true) e

pub exclusive_found : (d : OutDir) (dirs : List OutDir) (answer : Bool) → d.shared ≡ true
    → IsTrue answer ↔ Contains dirs (exclusive_of d) → answer ≡ has_other_sharing dirs d
exclusive_found d dirs answer shared h =
    found_by_test (shares_with d) (exclusive_of d) dirs answer (shares_exclusive_of d shared) (only_exclusive d) h

never : (a b : Bool) → (a && false && b) ≡ false
never true b = refl
never false b = refl

pub none_shared : (d : OutDir) (dirs : List OutDir) → d.shared ≡ false → has_other_sharing dirs d ≡ false
none_shared d [] e = refl
none_shared d (x ∷ xs) e =
    ap (λ b. (same_path d.path x.path && b && not x.shared) || has_other_sharing xs d) e
    ∙ ap (λ b. b || has_other_sharing xs d) (never (same_path d.path x.path) (not x.shared))
    ∙ none_shared d xs e
