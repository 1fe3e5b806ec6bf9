-- The asks of a list, in order and each once, are its one path set.
use Rattle.std.proofs.Common.{◌≡◌, List, [], ◌∷◌, inl, inr}
use Rattle.std.specs.List.Sorted.{IsStrictlySortedBy}
use Rattle.bx_tree.specs.Members.{Has}
use Rattle.bx_tree.proofs.Sets.{contains_has, has_contained, has_insert, insert_has, insert_sorted, never_both, unique}
use Rattle.bx_tree.specs.Sets.{IsSetOf}
use Rattle.observed.specs.declared.ask.Ask.{Ask}
use Rattle.observed.specs.Asks.{ask_cmp}
use Rattle.observed.specs.Orders.{ask_cmp_total, equal_asks}
use Rattle.observed.specs.PathSets.{set_of}

pub set_sorted : (asks : List Ask) → IsStrictlySortedBy ask_cmp (set_of asks)
unfolding IsStrictlySortedBy
set_sorted [] = tt
set_sorted (a ∷ as') = insert_sorted ask_cmp_total (set_of as') a (set_sorted as')

pub set_has : (asks : List Ask) (q : Ask) → Has asks q → Has (set_of asks) q
set_has [] q h = h
set_has (a ∷ as') q h =
    insert_has ask_cmp equal_asks (set_of as') a q (elim h [ inl e ↦ inl e | inr k ↦ inr (set_has as' q k) ])

pub has_set : (asks : List Ask) (q : Ask) → Has (set_of asks) q → Has asks q
has_set [] q h = h
has_set (a ∷ as') q h =
    elim (has_insert ask_cmp (set_of as') a q h) [ inl e ↦ inl e | inr k ↦ inr (has_set as' q k) ]

pub is_set_of : (asks : List Ask) → IsSetOf ask_cmp asks (set_of asks)
is_set_of asks = record {
  rising = set_sorted asks;
  members = λ q. (
    (λ h. contains_has (set_of asks) q (set_has asks q (has_contained asks q h))),
    (λ h. contains_has asks q (has_set asks q (has_contained (set_of asks) q h))),
  );
}

pub only_set : (asks set : List Ask) → IsSetOf ask_cmp asks set → set ≡ set_of asks
only_set asks set h = unique ask_cmp (never_both ask_cmp_total) set (set_of asks) h.rising (set_sorted asks)
    (λ q k. set_has asks q (has_contained asks q ((h.members q).1 (contains_has set q k))))
    (λ q k. has_contained set q ((h.members q).0 (contains_has asks q (has_set asks q k))))
