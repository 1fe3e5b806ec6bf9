use Rattle.std.proofs.Common.{◌∙◌, ap, string_bytes, sym}
use Rattle.std.specs.Cmp.Lexicographic.{texts_ties}
use Rattle.std.specs.Str.{bytes_eq}
use Rattle.std.specs.String.{string_cmp_total, string_eq}
use Rattle.std.proofs.lemmas.List.Filters.{All-dedup, dedup_is}
use Rattle.std.proofs.lemmas.List.Kept.{IsStrictlySortedBy-dedup}
use Rattle.std.proofs.lemmas.List.Sorted.{All-permutation, list_any-IsPermutation}
use Rattle.bx_io.specs.Names.{IsName}
use Rattle.bx_io_disk.specs.Files.{is_among}
use Rattle.bx_io_folder.proofs.Listing.{among-dedup}
use Rattle.bx_io_folder.proofs.ordered.in_order.Goals as goal
use Rattle.bx_io.proofs.Mapped.{rising_by_bytes}

pub returns-clause-names : goal.returns-clause-names
returns-clause-names c =
    let is = dedup_is string_eq _ _ c.dedup.ensures.filtered in
    rw is (
      All-dedup string_eq (λ name. IsName (string_bytes name)) _ (All-permutation (λ name. IsName (string_bytes name)) _ _ c.sort_unstable.ensures.permutation c.requires),
      rising_by_bytes _ (IsStrictlySortedBy-dedup string_cmp_total (λ x y. texts_ties (string_bytes x) (string_bytes y)) _ c.sort_unstable.ensures.sorted),
    )

pub returns-clause-same : goal.returns-clause-same
returns-clause-same c q =
    let is = dedup_is string_eq _ _ c.dedup.ensures.filtered in
    ap (is_among q) is ∙ among-dedup q _ ∙ sym (list_any-IsPermutation (λ name. bytes_eq q (string_bytes name)) _ _ c.sort_unstable.ensures.permutation)
