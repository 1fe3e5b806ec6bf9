use Rattle.std.proofs.Common.{◌≡◌, ◌∙◌, sym, subst, map, string_bytes}
use Rattle.std.specs.Ordering.{nat_cmp}
use Rattle.std.specs.Cmp.Lexicographic.{slice_cmp}
use Rattle.std.specs.List.Sorted.{IsStrictlySortedBy}
use Rattle.std.specs.BTreeMap.{keys}
use Rattle.bx_io.proofs.Mapped.{keys-holdings_of, names_alike, rising_by_bytes, listed_more, listed_all}
use Rattle.bx_io.proofs.holdings.Holdings.names.Goals as goal

pub loop-name-preserved : goal.loop-name-preserved
loop-name-preserved c =
    listed_more c.loop-name.names.items c.push.new.self.items c.next.new.self c.loop-name.name-iterator c.in-Some.name.now c.in_ok-clone.field-0 _ c.in_ok-push.ensures.items c.in_ok-clone.ensures.cases c.in-Some.ensures.steps c.loop-name.invariant

listed : (c : goal.In-None) → map string_bytes c.loop-name.names.items ≡ map string_bytes (keys c.self.inside.map)
listed c =
    listed_all c.loop-name.names.items c.loop-name.name-iterator c.into_iter-name-iterator.result (keys c.self.inside.map) c.in-None.ensures.steps.0 (c.into_iter-name-iterator.ensures.into_iter_gives ∙ c.keys-name-items.ensures.rest) c.loop-name.invariant

pub returns-clause-held : goal.returns-clause-held
returns-clause-held c = listed c ∙ rw (← c.self.view_is) (sym (keys-holdings_of c.self.inside.map c.keys-name-items.ensures.ordered))

pub returns-clause-names : goal.returns-clause-names
returns-clause-names c = names_alike c.loop-name.names.items (keys c.self.inside.map) (listed c) c.self.invariant

pub returns-clause-rising : goal.returns-clause-rising
returns-clause-rising c =
    subst (IsStrictlySortedBy (slice_cmp nat_cmp)) (sym (listed c)) (rising_by_bytes (keys c.self.inside.map) c.keys-name-items.ensures.ordered)
