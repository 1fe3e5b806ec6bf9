-- A process that does not clash shares no path that is nested in an earlier one's.
use Rattle.std.proofs.Common.{◌≡◌, ℕ, ◌+◌, zero, suc, Bool, true, false, ◌&&◌, ◌||◌, List, [], ◌∷◌, Option, Some, None, refl, ap, sym, ◌∙◌, subst, inl, inr}
use Rattle.std.specs.Prelude.{slice_get}
use Rattle.std.proofs.lemmas.Bool.{false≢true}
use Rattle.bx_tree.specs.Paths.{Atoms, IsBelow, same_path}
use Rattle.bx_tree.specs.Trees.{Files, paths_of}
use Rattle.bx_tree.specs.Members.{Has}
use Rattle.bx_tree.specs.Below.{is_below}
use Rattle.bx_tree.proofs.BelowPaths.{below_decides}
use Rattle.bx_tree.proofs.Members.{one_passes, none_passes, has_filter}
use Rattle.bx_tree.proofs.Options.{none_both}
use Rattle.pip_model_types.specs.declared.outputs.OutDir.{OutDir}
use Rattle.pip_model_types.specs.declared.pip.Pip.{Pip}
use Rattle.violations.specs.declared.verdict.Violation.{Violation}
use Rattle.violations.specs.DoubleWrites.{clash_of, first_clash, has_clash, is_clash, is_shared, least_clash, or_next, shared_paths}
use Rattle.pip_model_types.specs.Kinds.{outdirs_of}

-- ## Shared paths

-- a file in a directory that is shared
pub shared_has : (dirs : List OutDir) (files : Files) (dir : OutDir) (path : Atoms) → Has dirs dir → dir.shared ≡ true → IsBelow path dir.path
    → Has (paths_of files) path → Has (shared_paths dirs files) path
shared_has dirs files dir path h shared below there =
    has_filter (is_shared dirs) (paths_of files) path there
    (one_passes (λ (d : OutDir). d.shared && is_below path d.path) dirs dir h
    (ap (λ b. b && is_below path dir.path) shared ∙ (below_decides path dir.path).1 below))

-- ## Searching

no_clash_left : (path : Atoms) (o : Option ℕ) (next : Option Violation) → or_next path o next ≡ None → (o ≡ None) × (next ≡ None)
no_clash_left path None next e = (refl, e)
no_clash_left path (Some j) next e = cc

no_clash_at : (path : Atoms) (k : ℕ) (before : List Pip) (made : List Files) (j : ℕ) (pip : Pip) (files : Files) → least_clash path k before made ≡ None
    → slice_get before j ≡ Some pip → slice_get made j ≡ Some files → has_clash path pip.kind files ≡ false
no_clash_at path k [] made j pip files e at there = cc
no_clash_at path k (p ∷ before) [] j pip files e at there = cc
no_clash_at path k (p ∷ before) (f ∷ made) zero pip files e at there =
    let same : p ≡ pip = cc in let files_same : f ≡ files = cc in
    ap (λ (fs : Files). has_clash path pip.kind fs) (sym files_same)
    ∙ ap (λ (q : Pip). has_clash path q.kind f) (sym same)
    ∙ (none_both (has_clash path p.kind f) k (least_clash path (k + 1) before made) e).0
no_clash_at path k (p ∷ before) (f ∷ made) (suc j) pip files e at there =
    no_clash_at path (k + 1) before made j pip files (none_both (has_clash path p.kind f) k (least_clash path (k + 1) before made) e).1 at there

no_first_clash : (paths : List Atoms) (before : List Pip) (made : List Files) (path : Atoms) → first_clash paths before made ≡ None → Has paths path
    → least_clash path 0 before made ≡ None
no_first_clash [] before made path e h = absurd h
no_first_clash (p ∷ paths) before made path e h =
    let parts = no_clash_left p (least_clash p 0 before made) (first_clash paths before made) e in
    elim h [
      | inl same ↦ subst (λ (q : Atoms). least_clash q 0 before made ≡ None) same parts.0
      | inr more ↦ no_first_clash paths before made path parts.1 more
    ]

-- No shared path of a process that does not clash is related to a shared path of an earlier pip.
pub no_clash_between : (before : List Pip) (made : List Files) (dirs : List OutDir) (files : Files) (j : ℕ) (pip : Pip) (theirs : Files) (p q : Atoms)
    → clash_of before made dirs files ≡ None → slice_get before j ≡ Some pip → slice_get made j ≡ Some theirs → Has (shared_paths dirs files) p
    → Has (shared_paths (outdirs_of pip.kind) theirs) q → is_clash p q ≡ false
no_clash_between before made dirs files j pip theirs p q e at there h k =
    none_passes (is_clash p) (shared_paths (outdirs_of pip.kind) theirs) q
    (no_clash_at p 0 before made j pip theirs (no_first_clash (shared_paths dirs files) before made p e h) at there) k

below_clashes : (p q : Atoms) (a : Bool) → is_below p q ≡ true → (a || (is_below p q || is_below q p)) ≡ true
below_clashes p q true e = refl
below_clashes p q false e = ap (λ b. b || is_below q p) e

above_clashes : (p q : Atoms) (a b : Bool) → is_below q p ≡ true → (a || (b || is_below q p)) ≡ true
above_clashes p q true b e = refl
above_clashes p q false true e = refl
above_clashes p q false false e = e

pub clash_below : (p q : Atoms) → is_clash p q ≡ false → IsBelow p q → ⊥
clash_below p q e h = false≢true (sym e ∙ below_clashes p q (same_path p q) ((below_decides p q).1 h))

pub clash_above : (p q : Atoms) → is_clash p q ≡ false → IsBelow q p → ⊥
clash_above p q e h = false≢true (sym e ∙ above_clashes p q (same_path p q) (is_below p q) ((below_decides q p).1 h))
