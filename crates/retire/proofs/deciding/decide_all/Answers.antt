use Rattle.std.proofs.Common.{◌≡◌, ◌+◌, ◌<◌, ◌≤◌, ◌++◌, ◌∷◌, [], ◌∙◌, List, Option, None, ap, arith, length, length-append, map, refl, subst, sym, take, inl, inr}
use Rattle.std.specs.Prelude.{IsSome, is_some, option_map, slice_get}
use Rattle.std.proofs.lemmas.Bool.{false≢true}
use Rattle.std.specs.List.{AllByRecursion}
use Rattle.std.specs.Option.{option_to_list}
use Rattle.std.specs.Vec.Iter.{into_iter_items}
use Rattle.pip_model_types.specs.declared.made.Slot.{Slot}
use Rattle.pip_model_types.specs.declared.pip.Pip.{Pip}
use Rattle.violations.specs.Slots.{slot_files}
use Rattle.one_thread.specs.Keeping.{AreKept}
use Rattle.one_thread.specs.Shared.{all_shared}
use Rattle.one_thread.proofs.Meeting.{kept_apart}
use Rattle.one_thread.proofs.OneMore.{none_are_kept}
use Rattle.one_thread.proofs.SharedSets.{next_shared, none_shared}
use Rattle.one_thread.specs.OneThread.{run_count}
use Rattle.sched_board_slots.specs.Slots.{slot_at}
use Rattle.sched_board_slots.specs.declared.held.Held.{Held}
use Rattle.two_phase.specs.Reading.{ReaderData, ReadsIfAny, reader_data}
use Rattle.two_phase.proofs.ReaderCalls.{more_read, none_read}
use Rattle.retire.specs.Deciding.{DecidesAt}
use Rattle.retire.specs.Saving.{IsSuccess}
use Rattle.retire.specs.declared.deciding.Ways.{Ways}
use Rattle.retire.proofs.Counts.{count_at_most, count_few, counted_at, counted_sum, good_at, none_counted, ran_more}
use Rattle.retire.proofs.Following.{are_accepted, counts_all, counts_as, counts_more, counts_none, counts_over, follows_all, follows_as, follows_more, follows_none, keeps_as, keeps_more, keeps_none, records_all}
use Rattle.retire.specs.Counting.{one_accepted, one_fault, one_miss}
use Rattle.retire.proofs.GoingOver.{over_all, over_as, over_more, over_none}
use Rattle.retire.proofs.Placed.{kept_next}
use Rattle.retire.proofs.SettledSlots.{missed_none, settled_right}
use Rattle.retire.proofs.Slots.{front_is, no_numbers, rest_is}
use Rattle.retire.specs.Accepting.{without_run}
use Rattle.retire.specs.Settled.{IsSettledOver}
use Rattle.retire.proofs.Told.{IsRight, IsTold, held_before, none_before, none_counted_reads, none_is, right_before, same_there, some_mapped, told_before, told_of}
use Rattle.retire.proofs.deciding.decide_all.Goals as goal

pub pips-init : goal.pips-init
pips-init g c =
    let pips = c.args.frame.now.plan.now.pips in
    let tree = c.args.frame.now.sources.now in
    let budget = c.args.frame.now.plan.now.tool_budget in
    let d = c.none-decided.result in
    let no_vs = c.none-decided.ensures.verdicts in
    let no_ss = c.none-decided.ensures.slots in
    let no_marks = c.none-decided.ensures.accepted in
    let no_fs = c.none-decided.ensures.records in
    let accepted = ap (λ (w : Ways). w.accepted) c.none-decided.ensures.ways in
    let hits = ap (λ (w : Ways). w.hits) c.none-decided.ensures.ways in
    let missed = ap (λ (w : Ways). w.missed) c.none-decided.ensures.ways in
    let faulted = ap (λ (w : Ways). w.faulted) c.none-decided.ensures.ways in
    record {
      follows = λ right. follows_none pips tree budget c.args.finished.items d.verdicts.items d.slots.items d.accepted.items no_vs no_ss no_marks;
      alone = λ none. counts_as pips [] d.verdicts.items [] d.accepted.items 0 d.ways.hits 0 d.ways.missed 0 d.ways.faulted no_vs no_marks hits missed faulted (counts_none pips [] [] refl refl);
      keeps = λ S told fair.
          keeps_as pips tree budget c.args.finished.items S 0 [] d.verdicts.items [] d.slots.items [] d.accepted.items [] d.records.items 0 d.ways.hits 0 d.ways.missed 0 d.ways.faulted
          no_vs no_ss no_marks no_fs hits missed faulted (keeps_none pips tree budget c.args.finished.items S [] [] [] [] refl refl refl refl);
      over = λ S told no.
          over_as pips tree budget S c.args.finished.items 0 [] d.verdicts.items [] d.slots.items 0 (d.ways.accepted + d.ways.missed) no_vs no_ss (omega (arith, accepted, missed))
          (over_none pips tree budget S c.args.finished.items);
      settled = λ S over held. missed;
      verdicts_long = ap length no_vs;
      slots_long = ap length no_ss;
      counted = let count = ap (run_count pips) no_vs ∙ none_counted pips in omega (arith, accepted, hits, missed, faulted, count);
      kept = subst (λ (ss : List Slot). AreKept pips (map slot_files ss)) (sym no_ss) (none_are_kept pips);
      good = subst (AllByRecursion IsSuccess) (sym no_fs) tt;
      ran = let none = ap length no_fs in omega (arith, none);
      shared = none_shared c.new-shared.result.files c.new-shared.result.dirs pips d.slots.items c.new-shared.ensures no_ss;
      left_items = c.into_iter-left.ensures.rest;
      left_len = let long = c.into_iter-left.ensures.len in omega (arith, long, c.args.finished.ok.0);
      reads = subst (ReadsIfAny _ _) (sym faulted) (none_read _);
    }

pub decide-requires-clause-slots : goal.decide-requires-clause-slots
decide-requires-clause-slots g c =
    let long = c.pips.invariant.slots_long in
    let same = ap length c.as_slice-slots.ensures.value in
    omega (arith, long, same)

pub add-requires : goal.add-requires
add-requires g c =
    let sum = c.pips.invariant.counted in
    let few = count_few c.args.frame.now.plan.now.pips c.pips.decided.verdicts.items in
    let long = c.pips.invariant.verdicts_long in
    let most = c.pips-pips.ensures.few in
    let within = subst (λ (ps : List Pip). c.pips.number < length ps) c.pips-pips.ensures.pips c.pips-test.true in
    omega (arith, sum, few, long, most, within)

pub pips-preserved : goal.pips-preserved
pips-preserved g c =
    let plan = c.args.frame.now.plan.now in
    let pips = plan.pips in
    let tree = c.args.frame.now.sources.now in
    let budget = plan.tool_budget in
    let held = c.args.finished.items in
    let n = c.pips.number in
    let inv = c.pips.invariant in
    let d = c.pips.decided in
    let next = c.in_ok-next.next in
    let before : Option ReaderData = option_map (λ r. reader_data (g.R.KeepReader.held r) (g.R.KeepReader.bound r) (g.R.KeepReader.faults r)) c.pips.reader in
    let now : Option ReaderData = option_map (λ r. reader_data (g.R.KeepReader.held r) (g.R.KeepReader.bound r) (g.R.KeepReader.faults r)) c.decide.new.reader in
    let within = subst (λ (ps : List Pip). n < length ps) c.pips-pips.ensures.pips c.pips-test.true in
    let front = sym inv.left_items ∙ c.next.ensures.items ∙ ap (λ (o : Option Held). option_to_list o ++ into_iter_items c.next.new.self) c.in-Some.is in
    let slot_is : slot_at held n ≡ c.in-Some.slot = front_is held n c.in-Some.slot (into_iter_items c.next.new.self) front in
    let decides : DecidesAt pips tree budget now (slot_at held n) d.slots.items n (slice_get pips n) next =
    subst (λ (s : Held). DecidesAt pips tree budget now s d.slots.items n (slice_get pips n) next) (sym slot_is)
    (subst (λ (ts : List Slot). DecidesAt pips tree budget now c.in-Some.slot ts n (slice_get pips n) next) c.as_slice-slots.ensures.value c.in_ok-next.ensures.decided) in
    let reads = c.in_ok-next.ensures.reader in
    let one = counted_at pips tree budget now (slot_at held n) d.slots.items d.verdicts.items n next (slice_get pips n) refl inv.verdicts_long decides in
    let add = c.in_ok-add.ensures in
    let done = c.add.new.self in
    record {
      follows = λ right.
          follows_as pips tree budget held (n + 1) _ done.verdicts.items _ done.slots.items _ done.accepted.items add.verdicts add.slots add.accepted
          (follows_more pips tree budget held n d.verdicts.items d.slots.items d.accepted.items (inv.follows (right_before pips tree budget before now _ reads right)) now right
          next within c.in_ok-next.ensures.agrees (slice_get pips n) refl decides);
      alone = λ none.
          let right : IsRight pips tree budget now = inl none in
          let right_then : IsRight pips tree budget before = right_before pips tree budget before now _ reads right in
          counts_as pips _ done.verdicts.items _ done.accepted.items _ done.ways.hits _ done.ways.missed _ done.ways.faulted add.verdicts add.accepted add.hits add.missed add.faulted
          (counts_more pips tree budget held n d.verdicts.items d.slots.items d.accepted.items (inv.follows right_then) now right next within
          c.in_ok-next.ensures.agrees (slice_get pips n) refl decides none d.ways.hits d.ways.missed d.ways.faulted (inv.alone (none_before before now _ reads none)));
      keeps = λ S told fair.
          let right : IsRight pips tree budget now = inr (S, told, fair) in
          let right_then : IsRight pips tree budget before = right_before pips tree budget before now _ reads right in
          keeps_as pips tree budget held S (n + 1) _ done.verdicts.items _ done.slots.items _ done.accepted.items _ done.records.items _ done.ways.hits _ done.ways.missed _ done.ways.faulted
          add.verdicts add.slots add.accepted add.records add.hits add.missed add.faulted
          (keeps_more pips tree budget held n d.verdicts.items d.slots.items d.accepted.items (inv.follows right_then) now right next within
          c.in_ok-next.ensures.agrees (slice_get pips n) refl decides S told d.records.items d.ways.hits d.ways.missed d.ways.faulted
          (inv.keeps S (told_before before now _ S reads told) fair));
      over = λ S told no.
          let none : d.ways.faulted ≡ 0 = let sum = add.faulted in omega (arith, sum, no) in
          let none_here : one_fault next.way ≡ 0 = let sum = add.faulted in omega (arith, sum, no) in
          over_as pips tree budget S held (n + 1) _ done.verdicts.items _ done.slots.items (d.ways.accepted + one_accepted next.way + (d.ways.missed + one_miss next.way))
          (done.ways.accepted + done.ways.missed) add.verdicts add.slots
          (let one = add.accepted_count in let two = add.missed in omega (arith, one, two))
          (over_more pips tree budget S held n d.verdicts.items d.slots.items d.ways.accepted d.ways.missed
          (inv.over S (told_before before now _ S reads told) none) within now told next c.in_ok-next.ensures.agrees (slice_get pips n) refl decides none_here);
      settled = λ S over given.
          let list = c.pips-pips.ensures.list in
          let some_now : is_some now ≡ is_some c.decide.new.reader = some_mapped (λ r. reader_data (g.R.KeepReader.held r) (g.R.KeepReader.bound r) (g.R.KeepReader.faults r)) c.decide.new.reader in
          let there : is_some c.decide.new.reader ≡ is_some c.pips.reader =
          sym some_now ∙ sym (same_there before now _ reads) ∙ some_mapped (λ r. reader_data (g.R.KeepReader.held r) (g.R.KeepReader.bound r) (g.R.KeepReader.faults r)) c.pips.reader in
          let over_then : IsSettledOver plan tree S (is_some c.pips.reader) held = subst (λ b. IsSettledOver plan tree S b held) there over in
          let given_then = held_before before now _ S reads given in
          let right : IsRight pips tree budget now = settled_right plan tree S (is_some c.decide.new.reader) held over list now given in
          let right_then : IsRight pips tree budget before = right_before pips tree budget before now _ reads right in
          let none = missed_none plan tree S (is_some c.decide.new.reader) held over list n d.verdicts.items d.slots.items (inv.follows right_then).so_far now next some_now given (slice_get pips n) refl decides in
          let was = inv.settled S over_then given_then in
          let more = add.missed in
          omega (arith, more, none, was);
      verdicts_long = ap length add.verdicts ∙ length-append d.verdicts.items (next.ended.verdict ∷ []) ∙ ap (λ k. k + 1) inv.verdicts_long;
      slots_long = ap length add.slots ∙ length-append d.slots.items (next.ended.slot ∷ []) ∙ ap (λ k. k + 1) inv.slots_long;
      counted =
          counted_sum _ _ _ _ _ _ _ _ _ _ _ _ _ _ inv.counted add.accepted_count add.hits add.missed add.faulted (ap (run_count pips) add.verdicts ∙ one);
      kept =
          subst (λ (ts : List Slot). AreKept pips (map slot_files ts)) (sym add.slots)
          (kept_next pips tree budget (kept_apart pips tree c.requires.rules) c.accesses_hold.ensures now (slot_at held n) d.slots.items n next (slice_get pips n) refl
          inv.slots_long decides inv.kept);
      good =
          subst (AllByRecursion IsSuccess) (sym add.records)
          (good_at pips tree budget now (slot_at held n) d.slots.items n next d.records.items (slice_get pips n) decides inv.good);
      ran =
          let all = ap length add.records in
          let more = ran_more pips tree budget now (slot_at held n) d.slots.items n next d.records.items (slice_get pips n) decides in
          omega (arith, all, more, inv.ran, add.accepted_count, add.missed, add.faulted);
      shared =
          next_shared c.add_slot.new.self.files c.add_slot.new.self.dirs pips d.slots.items done.slots.items n next.ended.slot inv.slots_long within add.slots
          (c.in_ok-add_slot.ensures (all_shared (take n pips) (map slot_files d.slots.items)) inv.shared);
      left_items = rest_is held n c.in-Some.slot (into_iter_items c.next.new.self) front;
      left_len =
          let left = c.next.ensures.len in
          let some = ap (λ (o : Option Held). length (option_to_list o)) c.in-Some.is in
          omega (arith, left, some, inv.left_len);
      reads = subst (ReadsIfAny _ _) (sym add.faulted) (more_read _ _ _ _ _ inv.reads reads);
    }

pub returns-clause-alone : goal.returns-clause-alone
returns-clause-alone g c =
    λ none.
    let pips = c.args.frame.now.plan.now.pips in
    let tree = c.args.frame.now.sources.now in
    let budget = c.args.frame.now.plan.now.tool_budget in
    let held = c.args.finished.items in
    let d = c.pips.decided in
    let past = subst (λ (ps : List Pip). length ps ≤ c.pips.number) c.pips-pips.ensures.pips c.pips-test.false in
    let no_reader : option_map (λ r. reader_data (g.R.KeepReader.held r) (g.R.KeepReader.bound r) (g.R.KeepReader.faults r)) c.pips.reader ≡ None = none_is (λ r. reader_data (g.R.KeepReader.held r) (g.R.KeepReader.bound r) (g.R.KeepReader.faults r)) c.pips.reader none in
    let so = c.pips.invariant.follows (inl no_reader) in
    let zero = none_counted_reads (option_map (λ r. reader_data (g.R.KeepReader.held r) (g.R.KeepReader.bound r) (g.R.KeepReader.faults r)) c.args.reader.now) (option_map (λ r. reader_data (g.R.KeepReader.held r) (g.R.KeepReader.bound r) (g.R.KeepReader.faults r)) c.pips.reader) d.ways.faulted c.pips.invariant.reads no_reader in (
      follows_all pips tree budget held c.pips.number d.verdicts.items d.slots.items d.accepted.items so past,
      are_accepted pips tree budget held c.pips.number d.verdicts.items d.slots.items d.accepted.items so past,
      counts_all pips tree budget held c.pips.number d.verdicts.items d.slots.items d.accepted.items so past d.ways.hits d.ways.missed d.ways.faulted zero
          (c.pips.invariant.alone no_reader),
    )

pub returns-clause-over : goal.returns-clause-over
returns-clause-over g c =
    λ S told some no.
    let pips = c.args.frame.now.plan.now.pips in
    let tree = c.args.frame.now.sources.now in
    let budget = c.args.frame.now.plan.now.tool_budget in
    let held = c.args.finished.items in
    let d = c.pips.decided in
    let past = subst (λ (ps : List Pip). length ps ≤ c.pips.number) c.pips-pips.ensures.pips c.pips-test.false in
    let tells : IsTold (option_map (λ r. reader_data (g.R.KeepReader.held r) (g.R.KeepReader.bound r) (g.R.KeepReader.faults r)) c.pips.reader) S = told_of (option_map (λ r. reader_data (g.R.KeepReader.held r) (g.R.KeepReader.bound r) (g.R.KeepReader.faults r)) c.pips.reader) S told (some_mapped (λ r. reader_data (g.R.KeepReader.held r) (g.R.KeepReader.bound r) (g.R.KeepReader.faults r)) c.pips.reader ∙ some) in
    over_all pips tree budget S held c.pips.number d.verdicts.items d.slots.items (d.ways.accepted + d.ways.missed) (c.pips.invariant.over S tells no) past

pub returns-clause-follows : goal.returns-clause-follows
returns-clause-follows g c =
    λ S told some fair.
    let pips = c.args.frame.now.plan.now.pips in
    let tree = c.args.frame.now.sources.now in
    let budget = c.args.frame.now.plan.now.tool_budget in
    let held = c.args.finished.items in
    let d = c.pips.decided in
    let past = subst (λ (ps : List Pip). length ps ≤ c.pips.number) c.pips-pips.ensures.pips c.pips-test.false in
    let tells : IsTold (option_map (λ r. reader_data (g.R.KeepReader.held r) (g.R.KeepReader.bound r) (g.R.KeepReader.faults r)) c.pips.reader) S = told_of (option_map (λ r. reader_data (g.R.KeepReader.held r) (g.R.KeepReader.bound r) (g.R.KeepReader.faults r)) c.pips.reader) S told (some_mapped (λ r. reader_data (g.R.KeepReader.held r) (g.R.KeepReader.bound r) (g.R.KeepReader.faults r)) c.pips.reader ∙ some) in
    let so = c.pips.invariant.follows (inr (S, tells, fair)) in
    let keeps = c.pips.invariant.keeps S tells fair in (
      follows_all pips tree budget held c.pips.number d.verdicts.items d.slots.items d.accepted.items so past,
      records_all pips tree budget held c.pips.number d.verdicts.items d.slots.items d.accepted.items so past S d.records.items d.ways.hits d.ways.missed d.ways.faulted keeps,
      are_accepted pips tree budget held c.pips.number d.verdicts.items d.slots.items d.accepted.items so past,
      counts_over pips tree budget held c.pips.number d.verdicts.items d.slots.items d.accepted.items so past S d.records.items d.ways.hits d.ways.missed d.ways.faulted keeps,
    )

pub returns-clause-few : goal.returns-clause-few
returns-clause-few g c =
    let sum = c.pips.invariant.counted in
    let few = count_at_most c.args.frame.now.plan.now.pips c.pips.decided.verdicts.items in
    let most = c.pips-pips.ensures.few in
    omega (arith, sum, few, most)

pub returns-clause-number : goal.returns-clause-number
returns-clause-number g c =
    let long = c.pips.invariant.verdicts_long in
    let past = subst (λ (ps : List Pip). length ps ≤ c.pips.number) c.pips-pips.ensures.pips c.pips-test.false in
    let within = subst (λ (ps : List Pip). c.pips.number ≤ length ps) c.pips-pips.ensures.pips c.pips.auto.number-end in
    omega (arith, long, past, within)

pub returns-clause-ran : goal.returns-clause-ran
returns-clause-ran g c = c.pips.invariant.ran

pub returns-clause-unread : goal.returns-clause-unread
returns-clause-unread g c =
    λ none.
    let d = c.pips.decided in
    let no_reader : option_map (λ r. reader_data (g.R.KeepReader.held r) (g.R.KeepReader.bound r) (g.R.KeepReader.faults r)) c.pips.reader ≡ None = none_is (λ r. reader_data (g.R.KeepReader.held r) (g.R.KeepReader.bound r) (g.R.KeepReader.faults r)) c.pips.reader none in
    let counts = c.pips.invariant.alone no_reader in
    let most = counts.hits_at_most in
    let first = no_numbers counts.first counts.rest counts.joined in
    let without = ap (without_run d.accepted.items) first in (
      omega (arith, most, without),
      none_counted_reads (option_map (λ r. reader_data (g.R.KeepReader.held r) (g.R.KeepReader.bound r) (g.R.KeepReader.faults r)) c.args.reader.now) (option_map (λ r. reader_data (g.R.KeepReader.held r) (g.R.KeepReader.bound r) (g.R.KeepReader.faults r)) c.pips.reader) d.ways.faulted c.pips.invariant.reads no_reader,
    )

pub unreachable-requires : goal.unreachable-requires
unreachable-requires g c =
    let within = subst (λ (ps : List Pip). c.pips.number < length ps) c.pips-pips.ensures.pips c.pips-test.true in
    let left = c.pips.invariant.left_len in
    false≢true (subst (λ (o : Option Held). IsSome o) c.in_default.is (c.next.ensures.variant.1 (omega (arith, within, left, c.requires.slots))))
