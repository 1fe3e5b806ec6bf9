-- Directories are in one total order, and `==` on them is equality.
use Rattle.std.proofs.Common.{◌≡◌, ◌==◌, ◌&&◌, Bool, refl, ap, sym, ◌∙◌}
use Rattle.std.specs.Cmp.{IsTotalOrder, IsEquivalence, IsPartialEquivalence, IsPartialOrder, po}
use Rattle.std.specs.Cmp.{partial_equiv_from_equiv, unsigned_ties}
use Rattle.std.specs.Ordering.{eq_by_cmp, eq_of_both, nat_cmp, on, then_cmp, as_partial_cmp, ordering_then}
use Rattle.std.specs.Ordering.{is_eq}
use Rattle.std.specs.declared.cmp.Ordering.{Ordering}
use Rattle.std.specs.declared.cmp.Ordering.TheVariants.{Less, Equal, Greater}
use Rattle.std.proofs.lemmas.Cmp.{and_equiv, nat_cmp_total, nat_eq_equiv, on_equiv, on_total, then_total}
use Rattle.bx_tree.specs.Paths.{path_cmp, same_path}
use Rattle.bx_tree.specs.Orders.{path_cmp_total, path_cmp_matches, same_path_equiv}
use Rattle.pip_model_types.specs.Dirs.{dir_cmp, dir_path, dir_pip, form_rank, same_dir}
use Rattle.pip_model_types.specs.Outputs.{outdir_cmp, same_outdir, sharing_rank}
use Rattle.pip_model_types.specs.declared.dir_inputs.DirInput.{DirInput}
use Rattle.pip_model_types.specs.declared.outputs.OutDir.{OutDir}

-- two orders one after the other tie where both tie
ties_then : (o p : Ordering) → is_eq (ordering_then o p) ≡ (is_eq o && is_eq p)
ties_then Less p = refl
ties_then Equal p = refl
ties_then Greater p = refl

-- tests that agree with orders agree with the two orders one after the other
both_match : {K : Type 0} (E F : K → K → Bool) (R S : K → K → Ordering)
    → ((x y : K) → E x y ≡ eq_by_cmp R x y)
    → ((x y : K) → F x y ≡ eq_by_cmp S x y) → (x y : K) → eq_of_both E F x y ≡ eq_by_cmp (then_cmp R S) x y
both_match E F R S e f x y =
    ap (λ b. b && F x y) (e x y) ∙ ap (λ b. is_eq (R x y) && b) (f x y) ∙ sym (ties_then (R x y) (S x y))

pub dir_cmp_total : IsTotalOrder dir_cmp
dir_cmp_total =
    then_total (on_total dir_path path_cmp_total)
    (then_total (on_total form_rank nat_cmp_total) (on_total dir_pip nat_cmp_total))

pub same_dir_equiv : IsEquivalence same_dir
same_dir_equiv =
    and_equiv (on_equiv dir_path same_path_equiv)
    (and_equiv (on_equiv form_rank nat_eq_equiv) (on_equiv dir_pip nat_eq_equiv))

pub dir_cmp_matches : (x y : DirInput) → same_dir x y ≡ eq_by_cmp dir_cmp x y
dir_cmp_matches =
    both_match (on dir_path same_path) (eq_of_both (on form_rank ◌==◌) (on dir_pip ◌==◌))
    (on dir_path path_cmp) (then_cmp (on form_rank nat_cmp) (on dir_pip nat_cmp))
    (λ x y. path_cmp_matches (dir_path x) (dir_path y))
    (both_match (on form_rank ◌==◌) (on dir_pip ◌==◌) (on form_rank nat_cmp) (on dir_pip nat_cmp)
    (λ x y. unsigned_ties (form_rank x) (form_rank y)) (λ x y. unsigned_ties (dir_pip x) (dir_pip y)))

pub same_dir_partial : IsPartialEquivalence same_dir
same_dir_partial = partial_equiv_from_equiv same_dir_equiv

pub dir_cmp_partial : IsPartialOrder same_dir (as_partial_cmp dir_cmp)
dir_cmp_partial = po dir_cmp_total dir_cmp_matches

pub outdir_cmp_total : IsTotalOrder outdir_cmp
outdir_cmp_total =
    then_total (on_total (λ (d : OutDir). d.path) path_cmp_total)
    (on_total (λ (d : OutDir). sharing_rank d.shared) nat_cmp_total)

pub same_outdir_equiv : IsEquivalence same_outdir
same_outdir_equiv =
    and_equiv (on_equiv (λ (d : OutDir). d.path) same_path_equiv)
    (on_equiv (λ (d : OutDir). sharing_rank d.shared) nat_eq_equiv)

pub outdir_cmp_matches : (x y : OutDir) → same_outdir x y ≡ eq_by_cmp outdir_cmp x y
outdir_cmp_matches =
    both_match (on (λ (d : OutDir). d.path) same_path) (on (λ (d : OutDir). sharing_rank d.shared) ◌==◌)
    (on (λ (d : OutDir). d.path) path_cmp) (on (λ (d : OutDir). sharing_rank d.shared) nat_cmp)
    (λ x y. path_cmp_matches x.path y.path)
    (λ x y. unsigned_ties (sharing_rank x.shared) (sharing_rank y.shared))

pub same_outdir_partial : IsPartialEquivalence same_outdir
same_outdir_partial = partial_equiv_from_equiv same_outdir_equiv

pub outdir_cmp_partial : IsPartialOrder same_outdir (as_partial_cmp outdir_cmp)
outdir_cmp_partial = po outdir_cmp_total outdir_cmp_matches
