-- Directories that are taken, whichever pips they are of.
use Rattle.std.proofs.Common.{◌≡◌, ℕ, ◌+◌, List, [], ◌∷◌, map, refl, ap, sym, ◌∙◌, arith}
use Rattle.bx_tree.specs.Paths.{Atoms}
use Rattle.pip_model_types.specs.Dirs.{dir_path, form_rank, seal_rank}
use Rattle.pip_model_types.specs.declared.dir_inputs.DirInput.{DirInput}
use Rattle.pip_model_types.specs.declared.dir_inputs.DirInput.TheVariants.{Sealed, Opaque}
use Rattle.pip_model_types.specs.declared.dir_inputs.SealForm.{SealForm}
use Rattle.pip_model_types.specs.declared.dir_inputs.SealForm.TheVariants.{Full, Partial, SourceTop, SourceAll}
use Rattle.prints.specs.Processes.{numbered_from, with_pip}

-- ## One directory

same_form : (f g : SealForm) → seal_rank f ≡ seal_rank g → f ≡ g
same_form Full Full e = refl
same_form Partial Partial e = refl
same_form SourceTop SourceTop e = refl
same_form SourceAll SourceAll e = refl
same_form f g e = absurd (omega (arith, e))

no_seal : (f : SealForm) → seal_rank f ≡ 4 → ⊥
no_seal Full e = omega (arith, e)
no_seal Partial e = omega (arith, e)
no_seal SourceTop e = omega (arith, e)
no_seal SourceAll e = omega (arith, e)

pub one_dir : (d e : DirInput) → form_rank d ≡ form_rank e → dir_path d ≡ dir_path e → with_pip 0 d ≡ with_pip 0 e
one_dir (Sealed i f p) (Sealed j g q) rank path = ap (λ (x : SealForm). Sealed 0 x p) (same_form f g rank) ∙ ap (Sealed 0 g) path
one_dir (Sealed i f p) (Opaque j q) rank path = absurd (no_seal f rank)
one_dir (Opaque i p) (Sealed j g q) rank path = absurd (no_seal g (sym rank))
one_dir (Opaque i p) (Opaque j q) rank path = ap (Opaque 0) path

rank_of : (d : DirInput) → form_rank (with_pip 0 d) ≡ form_rank d
rank_of (Sealed i f p) = refl
rank_of (Opaque i p) = refl

path_of : (d : DirInput) → dir_path (with_pip 0 d) ≡ dir_path d
path_of (Sealed i f p) = refl
path_of (Opaque i p) = refl

pub one_rank : (d e : DirInput) → with_pip 0 d ≡ with_pip 0 e → form_rank d ≡ form_rank e
one_rank d e same = sym (rank_of d) ∙ ap form_rank same ∙ rank_of e

pub one_path : (d e : DirInput) → with_pip 0 d ≡ with_pip 0 e → dir_path d ≡ dir_path e
one_path d e same = sym (path_of d) ∙ ap dir_path same ∙ path_of e

-- ## Lists of them

again : (k : ℕ) (d : DirInput) → with_pip k (with_pip 0 d) ≡ with_pip k d
again k (Sealed i f p) = refl
again k (Opaque i p) = refl

without : (k : ℕ) (d : DirInput) → with_pip 0 (with_pip k d) ≡ with_pip 0 d
without k (Sealed i f p) = refl
without k (Opaque i p) = refl

-- the numbers say nothing
renumbered : (k : ℕ) (ds : List DirInput) → numbered_from k (map (with_pip 0) ds) ≡ numbered_from k ds
renumbered k [] = refl
renumbered k (d ∷ ds) =
    ap (λ (x : DirInput). x ∷ numbered_from (k + 1) (map (with_pip 0) ds)) (again k d)
    ∙ ap (λ (xs : List DirInput). with_pip k d ∷ xs) (renumbered (k + 1) ds)

unnumbered : (k : ℕ) (ds : List DirInput) → map (with_pip 0) (numbered_from k ds) ≡ map (with_pip 0) ds
unnumbered k [] = refl
unnumbered k (d ∷ ds) =
    ap (λ (x : DirInput). x ∷ map (with_pip 0) (numbered_from (k + 1) ds)) (without k d)
    ∙ ap (λ (xs : List DirInput). with_pip 0 d ∷ xs) (unnumbered (k + 1) ds)

pub one_numbering : (ds es : List DirInput) → map (with_pip 0) ds ≡ map (with_pip 0) es → numbered_from 0 ds ≡ numbered_from 0 es
one_numbering ds es same = sym (renumbered 0 ds) ∙ ap (numbered_from 0) same ∙ renumbered 0 es

pub one_list : (ds es : List DirInput) → numbered_from 0 ds ≡ numbered_from 0 es → map (with_pip 0) ds ≡ map (with_pip 0) es
one_list ds es same = sym (unnumbered 0 ds) ∙ ap (map (with_pip 0)) same ∙ unnumbered 0 es
