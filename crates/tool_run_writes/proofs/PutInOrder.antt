-- Files that are put in the order of their paths stay in that order.
use Rattle.std.proofs.Common.{◌≡◌, ℕ, ◌<◌, ◌+◌, zero, suc, List, [], ◌∷◌, length, get_or, take, ap, sym, ◌∙◌, refl, arith, add-one}
use Rattle.std.specs.BTreeMap.{insert_entry}
use Rattle.std.specs.List.{AllByRecursion}
use Rattle.std.specs.List.Sorted.{IsStrictlySortedBy}
use Rattle.std.specs.Ordering.{match_ordering, ordering_reverse}
use Rattle.std.specs.declared.cmp.Ordering.{Ordering}
use Rattle.std.specs.declared.cmp.Ordering.TheVariants.{Less, Greater}
use Rattle.bx_tree.specs.Paths.{Atoms, path_cmp}
use Rattle.bx_tree.specs.Trees.{Files, paths_of}
use Rattle.bx_tree.specs.Orders.{path_cmp_total}
use Rattle.pip_model_types.specs.declared.made.MadeFile.{MadeFile}
use Rattle.pip_model_types.specs.Made.{RisingFiles, made_files}

below : (path : Atoms) (fs : List MadeFile) (i : ℕ) (d : MadeFile) → i < length fs → AllByRecursion (λ p. path_cmp path p ≡ Less) (paths_of (made_files fs))
    → path_cmp path (get_or fs i d).path ≡ Less
below path [] i d l h = absurd (omega (arith, l))
below path (f ∷ fs) zero d l h = h.0
below path (f ∷ fs) (suc i) d l h = below path fs i d (omega (arith, l)) h.1

pub greater : (a b : Atoms) → path_cmp a b ≡ Less → path_cmp b a ≡ Greater
greater a b less = turned (path_cmp b a) (path_cmp a b) (path_cmp_total.antisymm b a) less
  where
    turned : (o p : Ordering) → o ≡ ordering_reverse p → p ≡ Less → o ≡ Greater
    turned o p e less = e ∙ ap ordering_reverse less

put_at : (fs : List MadeFile) (i : ℕ) (d : MadeFile) → i < length fs → RisingFiles (made_files fs)
    → insert_entry path_cmp (made_files (take i fs)) (get_or fs i d).path (get_or fs i d).blob ≡ made_files (take (suc i) fs)
unfolding IsStrictlySortedBy
put_at [] i d l h = absurd (omega (arith, l))
put_at (f ∷ fs) zero d l h = refl
put_at (f ∷ fs) (suc i) d l h =
    let next : MadeFile = get_or fs i d in
    let here : Atoms × List ℕ = (f.path, f.blob) in
    let rest : Files = insert_entry path_cmp (made_files (take i fs)) next.path next.blob in
    ap (λ o. match_ordering o ((next.path, next.blob) ∷ here ∷ made_files (take i fs)) ((f.path, next.blob) ∷ made_files (take i fs)) (here ∷ rest))
    (greater f.path next.path (below f.path fs i d (omega (arith, l)) h.0))
    ∙ ap (λ gs. here ∷ gs) (put_at fs i d (omega (arith, l)) h.1)

-- the next of files that rise is put after those before it
put_next : (fs : List MadeFile) (i : ℕ) (d : MadeFile) → i < length fs → RisingFiles (made_files fs)
    → insert_entry path_cmp (made_files (take i fs)) (get_or fs i d).path (get_or fs i d).blob ≡ made_files (take (i + 1) fs)
put_next fs i d l h = put_at fs i d l h ∙ ap (λ n. made_files (take n fs)) (sym (add-one i))

pub put_item : (fs : List MadeFile) (i : ℕ) (d : MadeFile) (writes now : Files) (path : Atoms) (blob : List ℕ) → i < length fs → RisingFiles (made_files fs)
    → d ≡ get_or fs i d → writes ≡ made_files (take i fs) → path ≡ d.path → blob ≡ d.blob → now ≡ insert_entry path_cmp writes path blob
    → now ≡ made_files (take (i + 1) fs)
put_item fs i d writes now path blob l h is so_far path_is blob_is put =
    put
    ∙ ap (λ (gs : Files). insert_entry path_cmp gs path blob) so_far
    ∙ ap (λ (p : Atoms). insert_entry path_cmp (made_files (take i fs)) p blob) (path_is ∙ ap (λ (f : MadeFile). f.path) is)
    ∙ ap (λ (b : List ℕ). insert_entry path_cmp (made_files (take i fs)) (get_or fs i d).path b) (blob_is ∙ ap (λ (f : MadeFile). f.blob) is)
    ∙ put_next fs i d l h
