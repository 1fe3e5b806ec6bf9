-- Asks that there were stand in the order in which they stood, and a set of them is the set that it was.
use Rattle.std.proofs.Common.{◌≡◌, Bool, ◌&&◌, List, [], ◌∷◌, refl, ap, ◌∙◌}
use Rattle.std.specs.Cmp.Lexicographic.{slice_cmp}
use Rattle.std.specs.BTreeSet.{insert_key}
use Rattle.std.specs.Ordering.{match_ordering, nat_cmp, ordering_then}
use Rattle.std.specs.Prelude.{nat_eq}
use Rattle.std.specs.Str.{bytes_eq}
use Rattle.std.specs.declared.cmp.Ordering.{Ordering}
use Rattle.std.specs.declared.cmp.Ordering.TheVariants.{Less, Equal, Greater}
use Rattle.bx_tree.specs.Paths.{path_cmp, same_path}
use Rattle.observed.specs.Asks as now
use Rattle.observed.specs.PathSets as now_sets
use Rattle.observed.specs.declared.ask.AskKind.{AskKind}
use Rattle.observed.specs.declared.ask.AskKind.TheVariants as kinds
use Rattle.observed.specs.declared.ask.Ask.{Ask}
use Rattle.before_patterns.specs.Asks.{WasKind, WereAsks, ask_cmp, kind_place, same_ask, set_of}

kinds_same : (o : Ordering) (j k : AskKind) → WasKind j → WasKind k
    → ordering_then o (nat_cmp (kind_place j) (kind_place k))
    ≡ ordering_then o (ordering_then (nat_cmp (now.kind_place j) (now.kind_place k)) (slice_cmp nat_cmp (now.kind_pattern j) (now.kind_pattern k)))
kinds_same o kinds.Read kinds.Read h g = refl
kinds_same o kinds.Read kinds.Probe h g = refl
kinds_same o kinds.Read kinds.List h g = refl
kinds_same o kinds.Read (kinds.Match q) h g = absurd g
kinds_same o kinds.Probe kinds.Read h g = refl
kinds_same o kinds.Probe kinds.Probe h g = refl
kinds_same o kinds.Probe kinds.List h g = refl
kinds_same o kinds.Probe (kinds.Match q) h g = absurd g
kinds_same o kinds.List kinds.Read h g = refl
kinds_same o kinds.List kinds.Probe h g = refl
kinds_same o kinds.List kinds.List h g = refl
kinds_same o kinds.List (kinds.Match q) h g = absurd g
kinds_same o (kinds.Match p) k h g = absurd h

pub cmp_same : (a b : Ask) → WasKind a.kind → WasKind b.kind → ask_cmp a b ≡ now.ask_cmp a b
cmp_same a b h g = kinds_same (path_cmp a.path b.path) a.kind b.kind h g

insert_same : (set : List Ask) (a : Ask) → WereAsks set → WasKind a.kind → insert_key ask_cmp set a ≡ insert_key now.ask_cmp set a
insert_same [] a h g = refl
insert_same (x ∷ xs) a h g =
    ap (λ (o : Ordering). match_ordering o (a ∷ x ∷ xs) (x ∷ xs) (x ∷ insert_key ask_cmp xs a)) (cmp_same a x g h.0)
    ∙ ap (λ (rest : List Ask). match_ordering (now.ask_cmp a x) (a ∷ x ∷ xs) (x ∷ xs) (x ∷ rest)) (insert_same xs a h.1 g)

insert_were : (set : List Ask) (a : Ask) → WereAsks set → WasKind a.kind → WereAsks (insert_key now.ask_cmp set a)
insert_were [] a h g = (g, tt)
insert_were (x ∷ xs) a h g = by_order (now.ask_cmp a x) (insert_key now.ask_cmp xs a) (insert_were xs a h.1 g)
  where
    by_order : (o : Ordering) (rest : List Ask) → WereAsks rest → WereAsks (match_ordering o (a ∷ x ∷ xs) (x ∷ xs) (x ∷ rest))
    by_order Less rest k = (g, h)
    by_order Equal rest k = h
    by_order Greater rest k = (h.0, k)

pub set_were : (asks : List Ask) → WereAsks asks → WereAsks (now_sets.set_of asks)
set_were [] h = tt
set_were (a ∷ as') h = insert_were (now_sets.set_of as') a (set_were as' h.1) h.0

pub set_same : (asks : List Ask) → WereAsks asks → set_of asks ≡ now_sets.set_of asks
set_same [] h = refl
set_same (a ∷ as') h =
    ap (λ (set : List Ask). insert_key ask_cmp set a) (set_same as' h.1) ∙ insert_same (now_sets.set_of as') a (set_were as' h.1) h.0

-- one ask is the other as it was
pub one_same : (a b : Ask) → WasKind a.kind → same_ask a b ≡ now.same_ask a b
one_same a b h = by_kinds (same_path a.path b.path) a.kind b.kind h
  where
    by_kinds : (p : Bool) (j k : AskKind) → WasKind j
        → (p && nat_eq (kind_place j) (kind_place k))
        ≡ (p && (nat_eq (now.kind_place j) (now.kind_place k) && bytes_eq (now.kind_pattern j) (now.kind_pattern k)))
    by_kinds p kinds.Read kinds.Read h = refl
    by_kinds p kinds.Read kinds.Probe h = refl
    by_kinds p kinds.Read kinds.List h = refl
    by_kinds p kinds.Read (kinds.Match q) h = refl
    by_kinds p kinds.Probe kinds.Read h = refl
    by_kinds p kinds.Probe kinds.Probe h = refl
    by_kinds p kinds.Probe kinds.List h = refl
    by_kinds p kinds.Probe (kinds.Match q) h = refl
    by_kinds p kinds.List kinds.Read h = refl
    by_kinds p kinds.List kinds.Probe h = refl
    by_kinds p kinds.List kinds.List h = refl
    by_kinds p kinds.List (kinds.Match q) h = refl
    by_kinds p (kinds.Match r) k h = absurd h
