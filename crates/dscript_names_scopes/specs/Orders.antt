-- Dotted names are in one total order, and `==` on them is equality.
use Rattle.std.proofs.Common.{◌≡◌, true, ap, subst, ◌∙◌}
use Rattle.std.specs.Cmp.{IsPartialOrder, IsTotalOrder, both_ways, po}
use Rattle.std.specs.Cmp.Lexicographic.{lists_ties, slice_cmp, texts_ties}
use Rattle.std.specs.Ordering.{as_partial_cmp, eq_by_cmp, is_eq, nat_cmp, on, ordering_then, then_cmp}
use Rattle.std.specs.declared.cmp.Ordering.{Ordering}
use Rattle.std.specs.declared.cmp.Ordering.TheVariants.{Less, Equal, Greater}
use Rattle.std.proofs.lemmas.Cmp.{lists_total, nat_cmp_total, nat_list_cmp_total, on_total, then_total, tied_itself}
use Rattle.bx_tree.specs.Orders.{same_path_decides}
use Rattle.bx_tree.specs.Paths.{same_path}
use Rattle.dscript_program.specs.ProgramData.{Dotted}
use Rattle.dscript_names_scopes.specs.Hashes.{name_hash}

-- part by part, each by its bytes
abbrev pub parts_cmp : Dotted → Dotted → Ordering
parts_cmp = slice_cmp (slice_cmp nat_cmp)

-- by their hashes, so that few texts are read, and then by their parts
abbrev pub name_cmp : Dotted → Dotted → Ordering
name_cmp = then_cmp (on name_hash nat_cmp) parts_cmp

pub name_cmp_total : IsTotalOrder name_cmp
name_cmp_total = then_total (on_total name_hash nat_cmp_total) (lists_total nat_list_cmp_total)

-- a comparison by two orders answers Equal only if the second does
second_equal : (o p : Ordering) → is_eq (ordering_then o p) ≡ true → is_eq p ≡ true
second_equal Less p e = cc
second_equal Equal p e = e
second_equal Greater p e = cc

pub name_cmp_matches : (x y : Dotted) → same_path x y ≡ eq_by_cmp name_cmp x y
name_cmp_matches x y = both_ways (same_path x y) (eq_by_cmp name_cmp x y)
    (λ e. subst (λ z. is_eq (name_cmp x z) ≡ true) ((same_path_decides x y).0 e)
    (ap is_eq (tied_itself name_cmp_total x)))
    (λ e. lists_ties (slice_cmp nat_cmp) texts_ties x y
    ∙ second_equal (nat_cmp (name_hash x) (name_hash y)) (parts_cmp x y) e)

pub name_cmp_partial : IsPartialOrder same_path (as_partial_cmp name_cmp)
name_cmp_partial = po name_cmp_total name_cmp_matches
