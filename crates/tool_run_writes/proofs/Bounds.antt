-- Where the paths below a directory come in the order of paths.
use Rattle.std.proofs.Common.{◌≡◌, ◌≢◌, ◌∙◌, ℕ, Bool, true, false, cond, ◌&&◌, not, true≢false, List, [], ◌∷◌, ◌++◌, None, refl, ap, sym, map, codes}
use Rattle.std.specs.List.{cons_option, filter, filter_map}
use Rattle.std.specs.Cmp.Lexicographic.{slice_cmp}
use Rattle.std.specs.Cmp.{nat_cmp_total}
use Rattle.std.specs.Ordering.{is_gt, is_le, nat_cmp, ordering_then}
use Rattle.std.specs.declared.cmp.Ordering.TheVariants.{Less, Greater}
use Rattle.std.specs.declared.ops.Bound.TheVariants.{Included, Excluded, Unbounded}
use Rattle.std.specs.BTreeMap.Range.{IsLeBy, range_contains}
use Rattle.std.proofs.lemmas.Cmp.{tied_itself}
use Rattle.std.proofs.lemmas.List.{append-nil}
use Rattle.bx_tree.specs.Paths.{Atoms, path_cmp, path_text}
use Rattle.bx_tree.specs.Trees.{Files}
use Rattle.bx_tree.proofs.PathTexts.{prefix_from_below}
use Rattle.bx_tree.specs.Below.{is_below, next_atom}
use Rattle.tool_run_writes.specs.Writes.{own_names}
use Rattle.bx_tree.proofs.BelowPaths.{below_decides}
use Rattle.bx_tree.proofs.AtomsBelow.{none_next}

-- ## Orders of texts

after_prefix_cmp : (d xs ys : List ℕ) → slice_cmp nat_cmp (d ++ xs) (d ++ ys) ≡ slice_cmp nat_cmp xs ys
after_prefix_cmp [] xs ys = refl
after_prefix_cmp (b ∷ bs) xs ys =
    ap (λ o. ordering_then o (slice_cmp nat_cmp (bs ++ xs) (bs ++ ys))) (tied_itself nat_cmp_total b) ∙ after_prefix_cmp bs xs ys

by_texts : (p q : Atoms) (d xs ys : List ℕ) → path_text p ≡ d ++ xs → path_text q ≡ d ++ ys
    → path_cmp p q ≡ ordering_then (slice_cmp nat_cmp xs ys) (slice_cmp (slice_cmp nat_cmp) p q)
by_texts p q d xs ys e f =
    ap (λ o. ordering_then o (slice_cmp (slice_cmp nat_cmp) p q))
    (ap (λ t. slice_cmp nat_cmp t (path_text q)) e ∙ ap (λ t. slice_cmp nat_cmp (d ++ xs) t) f ∙ after_prefix_cmp d xs ys)

-- a path whose text goes on comes later
pub comes_after : (dir q : Atoms) (b : ℕ) (more : List ℕ) → path_text q ≡ path_text dir ++ b ∷ more → path_cmp dir q ≡ Less
comes_after dir q b more e = by_texts dir q (path_text dir) [] (b ∷ more) (sym (append-nil (path_text dir))) e

past_slash : (next q dir : Atoms) (more : List ℕ) → path_text next ≡ path_text dir ++ codes "0" → path_text q ≡ path_text dir ++ 47 ∷ more
    → path_cmp next q ≡ Greater
past_slash next q dir more e f = by_texts next q (path_text dir) (48 ∷ []) (47 ∷ more) e f

-- ## Between bounds

pub forward_to : (dir next : Atoms) → path_text next ≡ path_text dir ++ codes "0" → IsLeBy path_cmp dir next
forward_to dir next e = ap is_gt (comes_after dir next 48 [] e)

pub within_both : (dir next q : Atoms) → path_text next ≡ path_text dir ++ codes "0" → dir ≢ [] → is_below q dir ≡ true
    → range_contains path_cmp (Included dir) (Excluded next) q ≡ true
within_both dir next q e some below =
    let text = prefix_from_below q dir some ((below_decides q dir).0 below) in
    ap (λ o. is_le o && not (is_le (path_cmp next q))) (comes_after dir q 47 text.0 text.1)
    ∙ ap (λ o. not (is_le o)) (past_slash next q dir text.0 e text.1)

pub within_start : (dir q : Atoms) → dir ≢ [] → is_below q dir ≡ true → range_contains path_cmp (Included dir) Unbounded q ≡ true
within_start dir q some below =
    let text = prefix_from_below q dir some ((below_decides q dir).0 below) in
    ap (λ o. is_le o && true) (comes_after dir q 47 text.0 text.1)

-- ## Names of files between bounds

pub names_within : (dir : Atoms) (inside : Atoms → Bool) (files : Files) → ((q : Atoms) → is_below q dir ≡ true → inside q ≡ true)
    → filter_map (next_atom dir) (map (λ (f : Atoms × List ℕ). f.0) (filter (λ (f : Atoms × List ℕ). inside f.0) files)) ≡ own_names files dir
names_within dir inside [] h = refl
names_within dir inside (f ∷ fs) h = by_test (inside f.0) refl (names_within dir inside fs h)
  where
    rest : Files
    rest = filter (λ (f : Atoms × List ℕ). inside f.0) fs

    outside : (t : Bool) → is_below f.0 dir ≡ t → inside f.0 ≡ false → next_atom dir f.0 ≡ None
    outside true below e = absurd (true≢false (sym (h f.0 below) ∙ e))
    outside false below e = none_next dir f.0 below

    by_test : (t : Bool) → inside f.0 ≡ t → filter_map (next_atom dir) (map (λ (f : Atoms × List ℕ). f.0) rest) ≡ own_names fs dir
        → filter_map (next_atom dir) (map (λ (f : Atoms × List ℕ). f.0) (cond t (f ∷ rest) rest)) ≡ cons_option (next_atom dir f.0) (own_names fs dir)
    by_test true e so_far = ap (cons_option (next_atom dir f.0)) so_far
    by_test false e so_far = so_far ∙ sym (ap (λ o. cons_option o (own_names fs dir)) (outside (is_below f.0 dir) refl e))
