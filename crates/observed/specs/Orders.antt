-- Asks are in one total order, and `==` on them is equality.
use Rattle.std.proofs.Common.{◌≡◌, ◌==◌, ◌&&◌, ◌∙◌, true, refl, ap, subst}
use Rattle.std.specs.Cmp.Lexicographic.{slice_cmp}
use Rattle.std.specs.Str.{bytes_eq}
use Rattle.std.specs.Cmp.{IsTotalOrder, IsEquivalence, IsPartialEquivalence, IsPartialOrder, po}
use Rattle.std.specs.Cmp.{partial_equiv_from_equiv, Equal-is, both_ways}
use Rattle.std.specs.Ordering.{eq_by_cmp, as_partial_cmp, nat_cmp, is_eq, ordering_then}
use Rattle.std.specs.declared.cmp.Ordering.TheVariants.{Equal}
use Rattle.std.proofs.lemmas.Cmp.{then_total, on_total, on_equiv, and_equiv, nat_cmp_total, nat_eq_equiv}
use Rattle.std.proofs.lemmas.Cmp.{nat_list_cmp_total, nat_list_eq_equiv, tied_itself}
use Rattle.std.proofs.lemmas.Bool.{and_parts}
use Rattle.std.proofs.lemmas.Slice.Eq.{bytes_eq-Decides}
use Rattle.bx_tree.specs.Paths.{Atoms, path_cmp, same_path}
use Rattle.bx_tree.specs.Orders.{path_cmp_total, same_path_equiv, same_path_decides, equal_paths, equal_texts, both_equal}
use Rattle.observed.specs.declared.ask.AskKind.{AskKind}
use Rattle.observed.specs.declared.ask.AskKind.TheVariants as kinds
use Rattle.observed.specs.declared.ask.Ask.{Ask}
use Rattle.observed.specs.Asks.{ask_cmp, kind_pattern, kind_place, same_ask}

pub ask_cmp_total : IsTotalOrder ask_cmp
ask_cmp_total =
    then_total (on_total (λ (a : Ask). a.path) path_cmp_total)
    (then_total (on_total (λ (a : Ask). kind_place a.kind) nat_cmp_total)
    (on_total (λ (a : Ask). kind_pattern a.kind) nat_list_cmp_total))

pub same_ask_equiv : IsEquivalence same_ask
same_ask_equiv =
    and_equiv (on_equiv (λ (a : Ask). a.path) same_path_equiv)
    (and_equiv (on_equiv (λ (a : Ask). kind_place a.kind) nat_eq_equiv)
    (on_equiv (λ (a : Ask). kind_pattern a.kind) nat_list_eq_equiv))

pub same_ask_partial : IsPartialEquivalence same_ask
same_ask_partial = partial_equiv_from_equiv same_ask_equiv

-- kinds at one place with one pattern are one
one_kind : (j k : AskKind) → nat_cmp (kind_place j) (kind_place k) ≡ Equal → kind_pattern j ≡ kind_pattern k → j ≡ k
one_kind kinds.Read kinds.Read e f = refl
one_kind kinds.Read kinds.Probe e f = cc
one_kind kinds.Read kinds.List e f = cc
one_kind kinds.Read (kinds.Match q) e f = cc
one_kind kinds.Probe kinds.Read e f = cc
one_kind kinds.Probe kinds.Probe e f = refl
one_kind kinds.Probe kinds.List e f = cc
one_kind kinds.Probe (kinds.Match q) e f = cc
one_kind kinds.List kinds.Read e f = cc
one_kind kinds.List kinds.Probe e f = cc
one_kind kinds.List kinds.List e f = refl
one_kind kinds.List (kinds.Match q) e f = cc
one_kind (kinds.Match p) kinds.Read e f = cc
one_kind (kinds.Match p) kinds.Probe e f = cc
one_kind (kinds.Match p) kinds.List e f = cc
one_kind (kinds.Match p) (kinds.Match q) e f = ap kinds.Match f

abbrev ask_at : AskKind → Atoms → Ask
ask_at kind path = record { kind = kind; path = path }

same_parts : (j k : AskKind) (p q : Atoms) → j ≡ k → p ≡ q → ask_at j p ≡ ask_at k q
same_parts j k p q kind path = ap (λ i. ask_at i p) kind ∙ ap (ask_at k) path

-- asks that compare as equal are equal
pub equal_asks : (x y : Ask) → ask_cmp x y ≡ Equal → x ≡ y
equal_asks x y e =
    let places = nat_cmp (kind_place x.kind) (kind_place y.kind) in
    let patterns = slice_cmp nat_cmp (kind_pattern x.kind) (kind_pattern y.kind) in
    let parts = both_equal (path_cmp x.path y.path) (ordering_then places patterns) e in
    let kinds' = both_equal places patterns parts.1 in
    let path = equal_paths x.path y.path parts.0 in
    let pattern = equal_texts (kind_pattern x.kind) (kind_pattern y.kind) kinds'.1 in
    let kind = one_kind x.kind y.kind kinds'.0 pattern in
    same_parts x.kind y.kind x.path y.path kind path

-- two asks that are `==` are one
pub same_ask_is : (x y : Ask) → same_ask x y ≡ true → x ≡ y
same_ask_is x y e =
    let places = kind_place x.kind == kind_place y.kind in
    let patterns = bytes_eq (kind_pattern x.kind) (kind_pattern y.kind) in
    let parts = and_parts (same_path x.path y.path) (places && patterns) e in
    let both = and_parts places patterns parts.1 in
    let path = (same_path_decides x.path y.path).0 parts.0 in
    let pattern = (bytes_eq-Decides (kind_pattern x.kind) (kind_pattern y.kind)).0 both.1 in
    let kind = one_kind_eq x.kind y.kind both.0 pattern in
    same_parts x.kind y.kind x.path y.path kind path
  where
    one_kind_eq : (j k : AskKind) → (kind_place j == kind_place k) ≡ true → kind_pattern j ≡ kind_pattern k → j ≡ k
    one_kind_eq kinds.Read kinds.Read e f = refl
    one_kind_eq kinds.Read kinds.Probe e f = cc
    one_kind_eq kinds.Read kinds.List e f = cc
    one_kind_eq kinds.Read (kinds.Match q) e f = cc
    one_kind_eq kinds.Probe kinds.Read e f = cc
    one_kind_eq kinds.Probe kinds.Probe e f = refl
    one_kind_eq kinds.Probe kinds.List e f = cc
    one_kind_eq kinds.Probe (kinds.Match q) e f = cc
    one_kind_eq kinds.List kinds.Read e f = cc
    one_kind_eq kinds.List kinds.Probe e f = cc
    one_kind_eq kinds.List kinds.List e f = refl
    one_kind_eq kinds.List (kinds.Match q) e f = cc
    one_kind_eq (kinds.Match p) kinds.Read e f = cc
    one_kind_eq (kinds.Match p) kinds.Probe e f = cc
    one_kind_eq (kinds.Match p) kinds.List e f = cc
    one_kind_eq (kinds.Match p) (kinds.Match q) e f = ap kinds.Match f

pub same_ask_itself : (x : Ask) → same_ask x x ≡ true
same_ask_itself x = same_ask_equiv.refl x

pub ask_cmp_matches : (x y : Ask) → same_ask x y ≡ eq_by_cmp ask_cmp x y
ask_cmp_matches x y = both_ways (same_ask x y) (eq_by_cmp ask_cmp x y)
    (λ e. subst (λ (z : Ask). is_eq (ask_cmp x z) ≡ true) (same_ask_is x y e)
    (ap is_eq (tied_itself ask_cmp_total x)))
    (λ e. subst (λ (z : Ask). same_ask x z ≡ true)
    (equal_asks x y ((Equal-is (ask_cmp x y)).0 e)) (same_ask_itself x))

pub ask_cmp_partial : IsPartialOrder same_ask (as_partial_cmp ask_cmp)
ask_cmp_partial = po ask_cmp_total ask_cmp_matches
