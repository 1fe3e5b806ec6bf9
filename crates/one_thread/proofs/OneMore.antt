-- Files that keep to their pips, and those of one more pip.
use Rattle.std.proofs.Common.{◌≡◌, ◌⊎◌, inl, inr, ℕ, ◌+◌, ◌<◌, ◌≤◌, zero, suc, cond, List, [], ◌∷◌, ◌++◌, length, take, Option, Some, refl, ap, sym, ◌∙◌, subst, arith}
use Rattle.std.specs.Prelude.{slice_get}
use Rattle.std.proofs.lemmas.Option.{same_Some}
use Rattle.bx_tree.specs.Paths.{Atoms}
use Rattle.bx_tree.specs.Trees.{Files}
use Rattle.pip_model_types.specs.declared.pip.Pip.{Pip}
use Rattle.pip_model_types.specs.declared.pip.PipKind.{PipKind}
use Rattle.violations.specs.declared.verdict.Violation.{Violation}
use Rattle.violations.specs.DoubleWrites.{first_clash, has_clash, least_clash, or_next, shared_paths}
use Rattle.one_thread.specs.Keeping.{AreKept, AreOwnOutputs, KeptAt}
use Rattle.pip_model_types.specs.Kinds.{outdirs_of}

-- ## Clashes with the files of the first pips

least_more : (path : Atoms) (j : ℕ) (before : List Pip) (made more : List Files) → length before ≤ length made
    → least_clash path j before (made ++ more) ≡ least_clash path j before made
least_more path j [] made more l = refl
least_more path j (pip ∷ pips) [] more l = absurd (omega (arith, l))
least_more path j (pip ∷ pips) (files ∷ made) more l =
    ap (λ (o : Option ℕ). cond (has_clash path pip.kind files) (Some j) o) (least_more path (j + 1) pips made more (omega (arith, l)))

first_more : (paths : List Atoms) (before : List Pip) (made more : List Files) → length before ≤ length made
    → first_clash paths before (made ++ more) ≡ first_clash paths before made
first_more [] before made more l = refl
first_more (path ∷ paths) before made more l =
    ap (λ (o : Option ℕ). or_next path o (first_clash paths before (made ++ more))) (least_more path 0 before made more l)
    ∙ ap (λ (v : Option Violation). or_next path (least_clash path 0 before made) v) (first_more paths before made more l)

-- a prefix is no longer than it is asked to be
short : (i : ℕ) (pips : List Pip) → length (take i pips) ≤ i
short zero [] = omega arith
short zero (p ∷ ps) = omega arith
short (suc i) [] = omega arith
short (suc i) (p ∷ ps) = let rest = short i ps in omega (arith, rest)

keeps_more : (pips : List Pip) (made more : List Files) (i : ℕ) (kind : PipKind) (files : Files) → i ≤ length made → AreOwnOutputs pips made i kind files
    → AreOwnOutputs pips (made ++ more) i kind files
keeps_more pips made more i kind files l k = record {
  makes = k.makes;
  unnested = k.unnested;
  unclashed =
      (let s = short i pips in first_more (shared_paths (outdirs_of kind) files) (take i pips) made more (omega (arith, l, s))) ∙ k.unclashed;
}

kept_more : (pips : List Pip) (made more : List Files) (i : ℕ) (files : Files) → i ≤ length made → KeptAt pips made i files
    → KeptAt pips (made ++ more) i files
kept_more pips made more i files l k = record { pip = k.pip; at = k.at; keeps = keeps_more pips made more i k.pip.kind files l k.keeps }

-- ## One more pip

last_at : (made : List Files) (files : Files) (i : ℕ) (x : Files) → slice_get (made ++ files ∷ []) i ≡ Some x
    → ((i < length made) × (slice_get made i ≡ Some x)) ⊎ ((i ≡ length made) × (files ≡ x))
last_at [] files zero x e = inr (refl, same_Some files x e)
last_at [] files (suc i) x e = cc
last_at (f ∷ made) files zero x e = inl (omega arith, e)
last_at (f ∷ made) files (suc i) x e = elim (last_at made files i x e) [
  | inl h ↦ inl ((let l = h.0 in omega (arith, l)), h.1)
  | inr h ↦ inr ((let e = h.0 in omega (arith, e)), h.1)
]

none_there : (i : ℕ) (files : Files) → slice_get [] i ≡ Some files → ⊥
none_there zero files e = cc
none_there (suc i) files e = cc

-- none are kept
pub none_are_kept : (pips : List Pip) → AreKept pips []
none_are_kept pips = λ i files e. absurd (none_there i files e)

-- the files of the next pip too
pub one_more_kept : (pips : List Pip) (made : List Files) (files : Files) → AreKept pips made → KeptAt pips made (length made) files
    → AreKept pips (made ++ files ∷ [])
one_more_kept pips made files kept k = λ i x e. elim (last_at made files i x e) [
  | inl h ↦ kept_more pips made (files ∷ []) i x (let l = h.0 in omega (arith, l)) (kept i x h.1)
  | inr h ↦
      let here : KeptAt pips made (length made) x = subst (λ (f : Files). KeptAt pips made (length made) f) h.1 k in
      kept_more pips made (files ∷ []) i x (let l = h.0 in omega (arith, l)) (subst (λ (n : ℕ). KeptAt pips made n x) (sym h.0) here)
]
