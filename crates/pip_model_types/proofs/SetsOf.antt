-- A list in order, each element once up to an equality test that tells all elements apart, is a set of them.
use Rattle.std.proofs.Common.{◌≡◌, ◌==◌, true, false, Bool, List, refl, ap, sym, ◌∙◌, subst}
use Rattle.std.specs.Prelude.{Contains}
use Rattle.std.specs.declared.cmp.Ordering.{Ordering}
use Rattle.std.proofs.lemmas.Bool.{and_parts, eqb-true}
use Rattle.std.specs.Ordering.{is_eq}
use Rattle.std.specs.declared.cmp.Ordering.TheVariants.{Equal}
use Rattle.bx_tree.specs.Orders.{same_path_decides}
use Rattle.bx_tree.specs.Paths.{Atoms, same_path}
use Rattle.bx_tree.specs.Sets.{IsSetOf, IsSetUpTo}
use Rattle.pip_model_types.specs.Dirs.{same_dir, dir_path, dir_pip, form_rank, seal_rank, dir_cmp}
use Rattle.pip_model_types.specs.Outputs.{same_outdir, sharing_rank, outdir_cmp}
use Rattle.pip_model_types.specs.declared.dir_inputs.SealForm.{SealForm}
use Rattle.pip_model_types.specs.declared.dir_inputs.SealForm.TheVariants.{Full, Partial, SourceTop, SourceAll}
use Rattle.pip_model_types.specs.declared.dir_inputs.DirInput.{DirInput}
use Rattle.pip_model_types.specs.declared.dir_inputs.DirInput.TheVariants.{Sealed, Opaque}
use Rattle.pip_model_types.specs.declared.outputs.OutDir.{OutDir}
use Rattle.pip_model_types.specs.Orders.{dir_cmp_matches, outdir_cmp_matches}

pub set_from_up_to : {K : Type 0} (E : K → K → Bool) (R : K → K → Ordering) (given set : List K) → ((x y : K) → E x y ≡ true → x ≡ y)
    → IsSetUpTo E R given set → IsSetOf R given set
set_from_up_to E R given set exact h = record {
  rising = h.rising;
  members = λ x. (λ c. let y = h.all x c in subst (Contains set) (sym (exact x y.0 y.2)) y.1, λ c. h.kept x c);
}

pub same_path_exact : (x y : Atoms) → same_path x y ≡ true → x ≡ y
same_path_exact x y e = (same_path_decides x y).0 e

pub seal_rank-injective : (x y : SealForm) → seal_rank x ≡ seal_rank y → x ≡ y
seal_rank-injective Full Full e = refl
seal_rank-injective Partial Partial e = refl
seal_rank-injective SourceTop SourceTop e = refl
seal_rank-injective SourceAll SourceAll e = refl
seal_rank-injective _ _ e = cc

not_opaque : (x : SealForm) → seal_rank x ≡ 4 → ⊥
not_opaque Full e = cc
not_opaque Partial e = cc
not_opaque SourceTop e = cc
not_opaque SourceAll e = cc

-- directories with equal path, form and pip are equal
dir_parts : (x y : DirInput) → dir_path x ≡ dir_path y → form_rank x ≡ form_rank y → dir_pip x ≡ dir_pip y → x ≡ y
dir_parts (Sealed i f p) (Sealed j g q) a b c = let h = seal_rank-injective f g b in cc
dir_parts (Sealed i f p) (Opaque j q) a b c = absurd (not_opaque f b)
dir_parts (Opaque i p) (Sealed j g q) a b c = absurd (not_opaque g (sym b))
dir_parts (Opaque i p) (Opaque j q) a b c = cc

pub same_dir_exact : (x y : DirInput) → same_dir x y ≡ true → x ≡ y
same_dir_exact x y e =
    let h = and_parts (same_path (dir_path x) (dir_path y)) _ e in
    let k = and_parts (form_rank x == form_rank y) _ h.1 in
    dir_parts x y (same_path_exact _ _ h.0) (eqb-true _ _ k.0) (eqb-true _ _ k.1)

sharing_rank-injective : (a b : Bool) → sharing_rank a ≡ sharing_rank b → a ≡ b
sharing_rank-injective true true e = refl
sharing_rank-injective false false e = refl
sharing_rank-injective true false e = cc
sharing_rank-injective false true e = cc

pub same_outdir_exact : (x y : OutDir) → same_outdir x y ≡ true → x ≡ y
same_outdir_exact x y e =
    let h = and_parts (same_path x.path y.path) _ e in
    let path = same_path_exact _ _ h.0 in
    let shared = sharing_rank-injective x.shared y.shared (eqb-true _ _ h.1) in
    ap (λ (p : Atoms). let d : OutDir = record { path = p; shared = x.shared } in d) path
    ∙ ap (λ (s : Bool). let d : OutDir = record { path = y.path; shared = s } in d) shared

-- directories that tie in their order are equal
pub equal_dirs : (x y : DirInput) → dir_cmp x y ≡ Equal → x ≡ y
equal_dirs x y e = same_dir_exact x y (dir_cmp_matches x y ∙ ap is_eq e)

-- output directories that tie in their order are equal
pub equal_outdirs : (x y : OutDir) → outdir_cmp x y ≡ Equal → x ≡ y
equal_outdirs x y e = same_outdir_exact x y (outdir_cmp_matches x y ∙ ap is_eq e)
