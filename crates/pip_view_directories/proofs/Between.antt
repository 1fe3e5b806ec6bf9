-- Directories whose paths have texts in a range are neighbours in their order.
use Rattle.std.proofs.Common.{◌≡◌, ℕ, ◌<◌, ◌≤◌, true, List, ◌++◌, ◌⊎◌, length, get_or, sym, subst, inl, inr, arith}
use Rattle.std.specs.Prelude.{Contains}
use Rattle.std.specs.Cmp.Lexicographic.{slice_cmp}
use Rattle.std.specs.List.Sorted.{IsPartitionedBy}
use Rattle.std.specs.Ordering.{nat_cmp, ordering_then}
use Rattle.std.specs.declared.cmp.Ordering.{Ordering}
use Rattle.std.specs.declared.cmp.Ordering.TheVariants.{Less, Equal, Greater}
use Rattle.std.proofs.lemmas.Bool.{cases_lt}
use Rattle.std.proofs.lemmas.List.Elements.{Contains-append_cases, Contains-append_left, Contains-append_right}
use Rattle.std.proofs.lemmas.Map.Keys.{Less-from_sorted}
use Rattle.bx_tree.specs.Paths.{path_text}
use Rattle.bx_tree.specs.Ranges.{comes_before}
use Rattle.bx_tree.proofs.SortedRanges.{earlier_text}
use Rattle.bx_tree_paths.specs.Searches.{RiseByText}
use Rattle.pip_model_types.specs.Dirs.{RiseByForm, dir_cmp, dir_path}
use Rattle.pip_model_types.specs.declared.dir_inputs.DirInput.{DirInput}
use Rattle.pip_view_directories.specs.Ranges.{AddsAll, IsWithin}

-- ## What comes before a text comes first

abbrev text_of : DirInput → List ℕ
text_of dir = path_text (dir_path dir)

not_after : (o p q : Ordering) → ordering_then (ordering_then o p) q ≡ Less → o ≡ Greater → ⊥
not_after Less p q e g = cc
not_after Equal p q e g = cc
not_after Greater p q e g = cc

earlier_before : (bound : List ℕ) (x y : DirInput) → dir_cmp x y ≡ Less → comes_before bound (dir_path y) ≡ true → comes_before bound (dir_path x) ≡ true
earlier_before bound x y less before =
    earlier_text bound (text_of x) (text_of y) (not_after (slice_cmp nat_cmp (text_of x) (text_of y)) _ _ less) before

partitioned : (bound : List ℕ) (dirs : List DirInput) → RiseByForm dirs → IsPartitionedBy (λ (d : DirInput). comes_before bound (dir_path d)) dirs
partitioned bound dirs rising i j d low high before = elim (cases_lt i j) [
  | inl less ↦ earlier_before bound (get_or dirs i d) (get_or dirs j d) (Less-from_sorted dir_cmp dirs i j d rising less high) before
  | inr same ↦
      let level : i ≡ j = omega (arith, low, same) in
      subst (λ k. comes_before bound (dir_path (get_or dirs k d)) ≡ true) (sym level) before
]

-- directories in their order rise by path
pub dirs_rise : (dirs : List DirInput) → RiseByForm dirs → RiseByText dir_path dirs
dirs_rise dirs rising text = partitioned text dirs rising

-- ## Directories that are added

pub adds_range : (low high : List ℕ) (dirs range old new : List DirInput) → ((d : DirInput) → Contains range d → Contains dirs d)
    → ((d : DirInput) → Contains dirs d → IsWithin low high d → Contains range d) → new ≡ old ++ range
    → AddsAll dirs (IsWithin low high) old new
adds_range low high dirs range old new only all e = record {
  kept = λ d c. subst (λ ds. Contains ds d) (sym e) (Contains-append_left old range d c);
  only = λ d c. elim (Contains-append_cases old range d (subst (λ ds. Contains ds d) e c)) [
    | inl before ↦ inl before
    | inr there ↦ inr (only d there)
  ];
  added = λ d c is. subst (λ ds. Contains ds d) (sym e) (Contains-append_right old range d (all d c is));
}

pub adds_fewer : (P Q : DirInput → Type 0) (dirs old new : List DirInput) → ((d : DirInput) → Q d → P d) → AddsAll dirs P old new
    → AddsAll dirs Q old new
adds_fewer P Q dirs old new weaker h = record {
  kept = h.kept;
  only = h.only;
  added = λ d c q. h.added d c (weaker d q);
}

pub adds_both : (P Q : DirInput → Type 0) (dirs old mid new : List DirInput) → AddsAll dirs P old mid → AddsAll dirs Q mid new
    → AddsAll dirs (λ d. P d ⊎ Q d) old new
adds_both P Q dirs old mid new h k = record {
  kept = λ d c. k.kept d (h.kept d c);
  only = λ d c. elim (k.only d c) [
    | inl before ↦ h.only d before
    | inr there ↦ inr there
  ];
  added = λ d c is. elim is [
    | inl p ↦ k.kept d (h.added d c p)
    | inr q ↦ k.added d c q
  ];
}

pub adds_none : (P : DirInput → Type 0) (dirs old : List DirInput) → ((d : DirInput) → P d → ⊥) → AddsAll dirs P old old
adds_none P dirs old never = record {
  kept = λ d c. c;
  only = λ d c. inl c;
  added = λ d c p. absurd (never d p);
}
