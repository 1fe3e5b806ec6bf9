-- Each pip that can produce a path has an output at the path or at a directory above it.
use Rattle.std.proofs.Common.{◌≡◌, ℕ, zero, suc, ◌+◌, ◌<◌, ◌==◌, true, false, not, ◌&&◌, ◌||◌, List, [], ◌∷◌, ◌++◌, length, take, get_or, Option, Some, None, ap, arith, codes, sym, refl, ◌∙◌, inl, inr, ◌⊎◌, option_to_list, subst, length-append}
use Rattle.std.specs.Prelude.{slice_get, Contains}
use Rattle.std.specs.List.{list_any}
use Rattle.std.specs.Option.{option_map_or}
use Rattle.std.specs.Str.{bytes_eq}
use Rattle.std.proofs.lemmas.Bool.{cases_Bool, cond-true, or_cases, and_parts}
use Rattle.std.proofs.lemmas.List.{get_or_at, take_at}
use Rattle.std.proofs.lemmas.List.Elements.{Contains-append_cases, Contains-append_left, Contains-append_right, Contains-push, Contains-push_cases, at_from_Contains}
use Rattle.std.proofs.lemmas.Slice.Eq.{bytes_eq-Decides}
use Rattle.bx_tree.specs.Orders.{same_path_decides}
use Rattle.bx_tree.specs.Paths.{Atoms, IsBelow, has_path, path_text}
use Rattle.bx_tree.proofs.PathTexts.{prefix_from_below}
use Rattle.pip_model_types.specs.declared.dir_inputs.DirInput.{DirInput}
use Rattle.pip_model_types.specs.declared.outputs.OutDir.{OutDir}
use Rattle.pip_model_types.specs.declared.pip.Pip.{Pip}
use Rattle.pip_model_types.specs.declared.pip.PipKind.{PipKind}
use Rattle.pip_model_types.specs.declared.pip.PipKind.TheVariants.{Process, Copy, Write, Seal}
use Rattle.pip_model.specs.Outputs.{number_at, numbers_at, numbers_from, output_paths}
use Rattle.bx_tree.proofs.BelowPaths.{below_decides}
use Rattle.bx_tree.proofs.FoundByTest.{has_path_decides}
use Rattle.bx_tree.specs.Below.{is_below}
use Rattle.violations.specs.Least.{Covers, CoversAbove, IsAtMost, is_producer}
use Rattle.violations.specs.Producing.{is_unseen_in, produces_unseen, takes_dir}
use Rattle.pip_model_types.specs.Outputs.{is_console, outdir_paths}

none_contained : {X : Type 0} (x : X) → Contains [] x → ⊥
none_contained x c = let (k, l, at) = at_from_Contains [] x c in absurd (omega (arith, l))

first_contained : {X : Type 0} (x : X) (xs : List X) → Contains (x ∷ xs) x
first_contained x xs = Contains-append_left (x ∷ []) xs x (Contains-push [] x)

later_contained : {X : Type 0} (y : X) (xs : List X) (x : X) → Contains xs x → Contains (y ∷ xs) x
later_contained y xs x c = Contains-append_right (y ∷ []) xs x c

-- ## Numbers by output

at_output : (j : ℕ) (paths : List Atoms) (q : Atoms) → Contains paths q → Contains (numbers_at j (path_text q) paths) j
at_output j [] q c = absurd (none_contained q c)
at_output j (p ∷ paths) q c = elim (Contains-append_cases (p ∷ []) paths q c) [
  | inl here ↦ elim (Contains-push_cases [] p q here) [
    | inl none ↦ absurd (none_contained q none)
    | inr same ↦
        let equal : bytes_eq (path_text p) (path_text q) ≡ true =
        (bytes_eq-Decides (path_text p) (path_text q)).1 (ap path_text same) in
        let is : number_at j (path_text q) p ≡ j ∷ [] = cond-true (bytes_eq (path_text p) (path_text q)) (j ∷ []) [] equal in
        Contains-append_left (number_at j (path_text q) p) (numbers_at j (path_text q) paths) j
        (subst (λ (ns : List ℕ). Contains ns j) (sym is) (first_contained j []))
  ]
  | inr later ↦ Contains-append_right (number_at j (path_text q) p) (numbers_at j (path_text q) paths) j (at_output j paths q later)
]

from_pip : (s : ℕ) (text : List ℕ) (pips : List Pip) (k : ℕ) (pip : Pip) → slice_get pips k ≡ Some pip
    → Contains (numbers_at (s + k) text (output_paths pip.kind)) (s + k) → Contains (numbers_from s text pips) (s + k)
from_pip s text [] k pip at c = absurd (cc)
from_pip s text (p ∷ pips) zero pip at c =
    let same : pip ≡ p = cc in
    let start : s + 0 ≡ s = omega arith in
    Contains-append_left (numbers_at s text (output_paths p.kind)) (numbers_from (s + 1) text pips) (s + 0)
    (subst (λ (q : Pip). Contains (numbers_at s text (output_paths q.kind)) (s + 0)) same
    (subst (λ n. Contains (numbers_at n text (output_paths pip.kind)) (s + 0)) start c))
from_pip s text (p ∷ pips) (suc k) pip at c =
    let moved : s + suc k ≡ (s + 1) + k = omega arith in
    let here : Contains (numbers_at ((s + 1) + k) text (output_paths pip.kind)) ((s + 1) + k) =
    subst (λ n. Contains (numbers_at n text (output_paths pip.kind)) n) moved c in
    Contains-append_right (numbers_at s text (output_paths p.kind)) (numbers_from (s + 1) text pips) (s + suc k)
    (subst (λ n. Contains (numbers_from (s + 1) text pips) n) (sym moved) (from_pip (s + 1) text pips k pip at here))

numbered : (pips : List Pip) (j : ℕ) (pip : Pip) (q : Atoms) → slice_get pips j ≡ Some pip → Contains (output_paths pip.kind) q
    → Contains (numbers_from 0 (path_text q) pips) j
numbered pips j pip q at c =
    let start : 0 + j ≡ j = omega arith in
    subst (λ n. Contains (numbers_from 0 (path_text q) pips) n) start
    (from_pip 0 (path_text q) pips j pip at
    (subst (λ n. Contains (numbers_at n (path_text q) (output_paths pip.kind)) n) (sym start)
    (at_output j (output_paths pip.kind) q c)))

-- ## The output by which a pip can produce a path

abbrev At : List Atoms → Atoms → Type 0
At paths path = (q : Atoms) × Contains paths q × ((q ≡ path) ⊎ IsBelow path q)

dir_at : (dirs : List DirInput) (j : ℕ) (path : Atoms) (outs : List OutDir) → list_any (is_unseen_in dirs j path) outs ≡ true
    → At (outdir_paths outs) path
dir_at dirs j path [] e = absurd (cc)
dir_at dirs j path (out ∷ outs) e = elim (cases_Bool (is_unseen_in dirs j path out)) [
  | inl t ↦ (out.path, first_contained out.path (outdir_paths outs), inr ((below_decides path out.path).0 (and_parts (is_below path out.path) (not (takes_dir dirs j out.path)) t).0))
  | inr f ↦
      let rest : list_any (is_unseen_in dirs j path) outs ≡ true = sym (ap (λ b. b || list_any (is_unseen_in dirs j path) outs) f) ∙ e in
      let (q, c, at) = dir_at dirs j path outs rest in
      (q, later_contained out.path (outdir_paths outs) q c, at)
]

console_at : (console : Option Atoms) (path : Atoms) → is_console console path ≡ true → At (option_to_list console) path
console_at None path e = absurd (cc)
console_at (Some file) path e = (file, first_contained file [], inl ((same_path_decides file path).0 e))

among_left : (xs ys : List Atoms) (path : Atoms) → At xs path → At (xs ++ ys) path
among_left xs ys path (q, c, at) = (q, Contains-append_left xs ys q c, at)

among_right : (xs ys : List Atoms) (path : Atoms) → At ys path → At (xs ++ ys) path
among_right xs ys path (q, c, at) = (q, Contains-append_right xs ys q c, at)

output_at : (dirs : List DirInput) (j : ℕ) (path : Atoms) (kind : PipKind) → produces_unseen dirs j path kind ≡ true
    → At (output_paths kind) path
output_at dirs j path (Process d) e =
    let files = d.outs ++ option_to_list d.console in
    elim (or_cases (has_path d.outs path || is_console d.console path) (list_any (is_unseen_in dirs j path) d.outdirs) e) [
      | inl file ↦ among_left files (outdir_paths d.outdirs) path
          (elim (or_cases (has_path d.outs path) (is_console d.console path) file) [
            | inl out ↦ among_left d.outs (option_to_list d.console) path (
              path,
              (has_path_decides d.outs path).0 out,
              inl refl,
            )
            | inr said ↦ among_right d.outs (option_to_list d.console) path (console_at d.console path said)
          ])
      | inr below ↦ among_right files (outdir_paths d.outdirs) path (dir_at dirs j path d.outdirs below)
    ]
output_at dirs j path (Copy d) e = (d.to, first_contained d.to [], inl ((same_path_decides d.to path).0 e))
output_at dirs j path (Write d) e = (d.to, first_contained d.to [], inl ((same_path_decides d.to path).0 e))
output_at dirs j path (Seal d) e = absurd (cc)

-- ## Where the pips that can produce a path are found

abbrev FoundAt : List Pip → Atoms → ℕ → Type 0
FoundAt pips path j =
    Contains (numbers_from 0 (path_text path) pips) j
    ⊎ (Contains (numbers_from 0 (codes ".") pips) j
    ⊎ ((k : ℕ) × (k < length (path_text path)) × (get_or (path_text path) k 0 ≡ 47)
    × Contains (numbers_from 0 (take k (path_text path)) pips) j))

above : (pips : List Pip) (path q : Atoms) (j : ℕ) → IsBelow path q → Contains (numbers_from 0 (path_text q) pips) j → FoundAt pips path j
above pips path [] j below c = inr (inl c)
above pips path (a ∷ as') j below c =
    let q : Atoms = a ∷ as' in
    let some : (q ≡ [] → ⊥) = λ e. absurd (cc) in
    let (rest, is) = prefix_from_below path q some below in
    let k = length (path_text q) in
    let within : k < length (path_text path) = omega (arith, simp length-append at (ap length is)) in
    let slash : get_or (path_text path) k 0 ≡ 47 =
    ap (λ (t : List ℕ). get_or t k 0) is ∙ get_or_at (path_text q) 47 rest 0 k refl in
    let cut : take k (path_text path) ≡ path_text q = ap (take k) is ∙ take_at (path_text q) (47 ∷ rest) k refl in
    inr (inr (k, within, slash, subst (λ (t : List ℕ). Contains (numbers_from 0 t pips) j) (sym cut) c))

producer_at : (dirs : List DirInput) (i : ℕ) (path : Atoms) (pips : List Pip) (j : ℕ) (o : Option Pip) → slice_get pips j ≡ o
    → option_map_or (λ (pip : Pip). not (j == i) && produces_unseen dirs j path pip.kind) o false ≡ true → FoundAt pips path j
producer_at dirs i path pips j None at e = absurd (cc)
producer_at dirs i path pips j (Some pip) at e =
    let right : produces_unseen dirs j path pip.kind ≡ true = (and_parts (not (j == i)) (produces_unseen dirs j path pip.kind) e).1 in
    let (q, c, is) = output_at dirs j path pip.kind right in
    let found : Contains (numbers_from 0 (path_text q) pips) j = numbered pips j pip q at c in
    elim is [
      | inl same ↦ inl (subst (λ (p : Atoms). Contains (numbers_from 0 (path_text p) pips) j) same found)
      | inr below ↦ above pips path q j below found
    ]

-- what is not greater than the pips found at the path and above it is not greater than any that can produce it
pub all_covered : (dirs : List DirInput) (i : ℕ) (path : Atoms) (pips : List Pip) (found : Option ℕ)
    → Covers (is_producer dirs i path pips) (numbers_from 0 (path_text path) pips) found
    → Covers (is_producer dirs i path pips) (numbers_from 0 (codes ".") pips) found
    → CoversAbove (is_producer dirs i path pips) pips (path_text path) (length (path_text path)) found
    → (j : ℕ) → is_producer dirs i path pips j ≡ true → IsAtMost found j
all_covered dirs i path pips found here root up j passes =
    elim (producer_at dirs i path pips j (slice_get pips j) refl passes) [
      | inl c ↦ here j c passes
      | inr others ↦ elim others [
        | inl c ↦ root j c passes
        | inr (k, l, slash, c) ↦ up k l slash j c passes
      ]
    ]
