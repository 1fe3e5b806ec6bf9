use Rattle.std.proofs.Common.{◌≡◌, ◌+◌, ◌∙◌, Option, ap, arith, length, refl, subst, sym}
use Rattle.std.specs.Prelude.{IfSome, IsSome, Some, is_some, option_map}
use Rattle.std.specs.List.{AllByRecursion}
use Rattle.bx_io.specs.Holdings.{Holdings, Keeps}
use Rattle.bx_io.proofs.Changes.{keeps_all, keeps_on}
use Rattle.two_phase.specs.Reading.{ReaderData, reader_data}
use Rattle.retire.specs.Saving.{IsSuccess}
use Rattle.retire.specs.Settled.{IsSettledOver}
use Rattle.retire.proofs.Putting.{first_told, none_most}
use Rattle.retire.proofs.Told.{IsTold, mapped, none_given, none_mapped, same_there, some_mapped, told_some, told_there}
use Rattle.retire.proofs.Whole.{IsBegun, all_faults, by_use, closed_faults, counted_over, follows_by, leaves_all, leaves_but, leaves_saved, leaves_same, none_put, only_put, placed, saves_most, saves_runs, told_to_end, whole, within_by}
use Rattle.retire.proofs.retiring.retire.Goals as goal

pub returns-clause-build : goal.returns-clause-build
returns-clause-build g c =
    λ fair.
    let first : Option ReaderData = option_map (λ r. reader_data (g.K.Reader.KeepReader.held r.reader) (g.K.Reader.KeepReader.bound r.reader) (g.K.Reader.KeepReader.faults r.reader)) c.in_ok-reader.reader in
    let last : Option ReaderData = option_map (λ r. reader_data (g.K.Reader.KeepReader.held r.reader) (g.K.Reader.KeepReader.bound r.reader) (g.K.Reader.KeepReader.faults r.reader)) c.decide_all.new.reader in
    let start = g.K.Keeper.known c.args.keeper.now in
    let closed = g.K.Keeper.known c.close_if.new.keeper in
    let saved = g.K.Keeper.known c.save_if.new.keeper in
    let tells_of = told_to_end start.held closed.held (g.K.Keeper.bound c.args.keeper.now) first last c.in_ok-decided.decided.ways.faulted c.args.cached in
    let there : is_some first ≡ c.args.cached = some_mapped (λ r. reader_data (g.K.Reader.KeepReader.held r.reader) (g.K.Reader.KeepReader.bound r.reader) (g.K.Reader.KeepReader.faults r.reader)) c.in_ok-reader.reader ∙ c.in_ok-reader.ensures.some in
    let begun = mapped (λ r. reader_data (g.K.Reader.KeepReader.held r.reader) (g.K.Reader.KeepReader.bound r.reader) (g.K.Reader.KeepReader.faults r.reader)) (IsBegun start.held (g.K.Keeper.bound c.args.keeper.now)) c.in_ok-reader.reader c.in_ok-reader.ensures.reader in
    let told = λ (some : IsSome closed.held). mapped (λ r. reader_data (g.K.Reader.KeepReader.held r.reader) (g.K.Reader.KeepReader.bound r.reader) (g.K.Reader.KeepReader.faults r.reader)) (λ r. IsSome r.held) c.decide_all.new.reader (c.close_if.ensures.reader some) in
    let there_now : is_some c.decide_all.new.reader ≡ c.args.cached =
    sym (some_mapped (λ r. reader_data (g.K.Reader.KeepReader.held r.reader) (g.K.Reader.KeepReader.bound r.reader) (g.K.Reader.KeepReader.faults r.reader)) c.decide_all.new.reader) ∙ sym (same_there first last c.in_ok-decided.decided.ways.faulted c.in_ok-decided.ensures.reader) ∙ there in
    let follows =
    follows_by c.args.plan.now.pips c.args.sources.now c.args.plan.now.tool_budget c.args.cached start.held saved.held _
    (λ unused. (c.in_ok-decided.ensures.alone (there_now ∙ unused)).0)
    (λ used S is tells fair_S.
    let tells_closed : IsSome closed.held = first_told closed saved c.as_slice-2.result.now c.save_if.ensures.first tells in
    let last_told : IsTold last S = tells_of S is used there begun c.in_ok-decided.ensures.reader told tells_closed in
    (c.in_ok-decided.ensures.follows S (told_some last S last_told) (sym (some_mapped (λ r. reader_data (g.K.Reader.KeepReader.held r.reader) (g.K.Reader.KeepReader.bound r.reader) (g.K.Reader.KeepReader.faults r.reader)) c.decide_all.new.reader) ∙ told_there last S last_told) fair_S).0)
    fair in
    whole c.args.plan.now.pips c.args.sources.now c.args.plan.now.tool_budget c.as_slice.result.now c.in_ok-decided.decided.slots.items c.in_ok-decided.decided.verdicts.items
    c.in_ok-decided.decided.verdicts.items c.in_ok-outputs.outputs _ _ c.in_ok-decided.decided.ways.accepted c.in_ok-decided.decided.ways.hits
    c.in_ok-decided.decided.ways.missed c.in_ok-decided.decided.ways.faulted follows refl c.as_slice.ensures.value c.in_ok-outputs.ensures
    c.in_ok-decided.ensures.counted c.tally_of.ensures.hits c.tally_of.ensures.ran

pub returns-clause-counts : goal.returns-clause-counts
returns-clause-counts g c =
    λ used S is tells fair.
    let first : Option ReaderData = option_map (λ r. reader_data (g.K.Reader.KeepReader.held r.reader) (g.K.Reader.KeepReader.bound r.reader) (g.K.Reader.KeepReader.faults r.reader)) c.in_ok-reader.reader in
    let last : Option ReaderData = option_map (λ r. reader_data (g.K.Reader.KeepReader.held r.reader) (g.K.Reader.KeepReader.bound r.reader) (g.K.Reader.KeepReader.faults r.reader)) c.decide_all.new.reader in
    let start = g.K.Keeper.known c.args.keeper.now in
    let closed = g.K.Keeper.known c.close_if.new.keeper in
    let saved = g.K.Keeper.known c.save_if.new.keeper in
    let tells_of = told_to_end start.held closed.held (g.K.Keeper.bound c.args.keeper.now) first last c.in_ok-decided.decided.ways.faulted c.args.cached in
    let there : is_some first ≡ c.args.cached = some_mapped (λ r. reader_data (g.K.Reader.KeepReader.held r.reader) (g.K.Reader.KeepReader.bound r.reader) (g.K.Reader.KeepReader.faults r.reader)) c.in_ok-reader.reader ∙ c.in_ok-reader.ensures.some in
    let begun = mapped (λ r. reader_data (g.K.Reader.KeepReader.held r.reader) (g.K.Reader.KeepReader.bound r.reader) (g.K.Reader.KeepReader.faults r.reader)) (IsBegun start.held (g.K.Keeper.bound c.args.keeper.now)) c.in_ok-reader.reader c.in_ok-reader.ensures.reader in
    let told = λ (some : IsSome closed.held). mapped (λ r. reader_data (g.K.Reader.KeepReader.held r.reader) (g.K.Reader.KeepReader.bound r.reader) (g.K.Reader.KeepReader.faults r.reader)) (λ r. IsSome r.held) c.decide_all.new.reader (c.close_if.ensures.reader some) in
    let tells_closed : IsSome closed.held = first_told closed saved c.as_slice-2.result.now c.save_if.ensures.first tells in
    let last_told : IsTold last S = tells_of S is used there begun c.in_ok-decided.ensures.reader told tells_closed in
    let follows = c.in_ok-decided.ensures.follows S (told_some last S last_told) (sym (some_mapped (λ r. reader_data (g.K.Reader.KeepReader.held r.reader) (g.K.Reader.KeepReader.bound r.reader) (g.K.Reader.KeepReader.faults r.reader)) c.decide_all.new.reader) ∙ told_there last S last_told) fair in
    counted_over c.args.plan.now.pips c.args.sources.now c.args.plan.now.tool_budget S c.args.finished.slots.items c.in_ok-decided.decided.accepted.items
    c.in_ok-decided.decided.ways.hits c.in_ok-decided.decided.ways.missed c.in_ok-decided.decided.ways.faulted c.in_ok-failed.failed _ _ _ follows.2
    (λ numbers set. follows.3 numbers set) c.tally_of.ensures.hits c.tally_of.ensures.late c.tally_of.ensures.faults

pub returns-clause-within : goal.returns-clause-within
returns-clause-within g c =
    λ used S is tells fair.
    let first : Option ReaderData = option_map (λ r. reader_data (g.K.Reader.KeepReader.held r.reader) (g.K.Reader.KeepReader.bound r.reader) (g.K.Reader.KeepReader.faults r.reader)) c.in_ok-reader.reader in
    let last : Option ReaderData = option_map (λ r. reader_data (g.K.Reader.KeepReader.held r.reader) (g.K.Reader.KeepReader.bound r.reader) (g.K.Reader.KeepReader.faults r.reader)) c.decide_all.new.reader in
    let start = g.K.Keeper.known c.args.keeper.now in
    let closed = g.K.Keeper.known c.close_if.new.keeper in
    let saved = g.K.Keeper.known c.save_if.new.keeper in
    let tells_of = told_to_end start.held closed.held (g.K.Keeper.bound c.args.keeper.now) first last c.in_ok-decided.decided.ways.faulted c.args.cached in
    let there : is_some first ≡ c.args.cached = some_mapped (λ r. reader_data (g.K.Reader.KeepReader.held r.reader) (g.K.Reader.KeepReader.bound r.reader) (g.K.Reader.KeepReader.faults r.reader)) c.in_ok-reader.reader ∙ c.in_ok-reader.ensures.some in
    let begun = mapped (λ r. reader_data (g.K.Reader.KeepReader.held r.reader) (g.K.Reader.KeepReader.bound r.reader) (g.K.Reader.KeepReader.faults r.reader)) (IsBegun start.held (g.K.Keeper.bound c.args.keeper.now)) c.in_ok-reader.reader c.in_ok-reader.ensures.reader in
    let told = λ (some : IsSome closed.held). mapped (λ r. reader_data (g.K.Reader.KeepReader.held r.reader) (g.K.Reader.KeepReader.bound r.reader) (g.K.Reader.KeepReader.faults r.reader)) (λ r. IsSome r.held) c.decide_all.new.reader (c.close_if.ensures.reader some) in
    let tells_closed : IsSome closed.held = first_told closed saved c.as_slice-2.result.now c.save_if.ensures.first tells in
    let last_told : IsTold last S = tells_of S is used there begun c.in_ok-decided.ensures.reader told tells_closed in
    let follows = c.in_ok-decided.ensures.follows S (told_some last S last_told) (sym (some_mapped (λ r. reader_data (g.K.Reader.KeepReader.held r.reader) (g.K.Reader.KeepReader.bound r.reader) (g.K.Reader.KeepReader.faults r.reader)) c.decide_all.new.reader) ∙ told_there last S last_told) fair in
    within_by c.args.plan.now.pips c.args.sources.now c.args.plan.now.tool_budget S c.in_ok-decided.decided.verdicts.items c.in_ok-decided.decided.accepted.items
    c.in_ok-decided.decided.ways.hits c.in_ok-decided.decided.ways.missed c.in_ok-decided.decided.ways.faulted c.in_ok-decided.decided.ways.accepted _ _ _ c.in_ok-failed.failed
    follows.0.verdicts_are c.in_ok-decided.ensures.counted (λ numbers set. follows.3 numbers set) c.tally_of.ensures.hits c.tally_of.ensures.late c.tally_of.ensures.faults

pub returns-clause-over : goal.returns-clause-over
returns-clause-over g c =
    λ used S is tells no.
    let first : Option ReaderData = option_map (λ r. reader_data (g.K.Reader.KeepReader.held r.reader) (g.K.Reader.KeepReader.bound r.reader) (g.K.Reader.KeepReader.faults r.reader)) c.in_ok-reader.reader in
    let last : Option ReaderData = option_map (λ r. reader_data (g.K.Reader.KeepReader.held r.reader) (g.K.Reader.KeepReader.bound r.reader) (g.K.Reader.KeepReader.faults r.reader)) c.decide_all.new.reader in
    let start = g.K.Keeper.known c.args.keeper.now in
    let closed = g.K.Keeper.known c.close_if.new.keeper in
    let saved = g.K.Keeper.known c.save_if.new.keeper in
    let ways = c.in_ok-decided.decided.ways in
    let tells_of = told_to_end start.held closed.held (g.K.Keeper.bound c.args.keeper.now) first last ways.faulted c.args.cached in
    let there : is_some first ≡ c.args.cached = some_mapped (λ r. reader_data (g.K.Reader.KeepReader.held r.reader) (g.K.Reader.KeepReader.bound r.reader) (g.K.Reader.KeepReader.faults r.reader)) c.in_ok-reader.reader ∙ c.in_ok-reader.ensures.some in
    let begun = mapped (λ r. reader_data (g.K.Reader.KeepReader.held r.reader) (g.K.Reader.KeepReader.bound r.reader) (g.K.Reader.KeepReader.faults r.reader)) (IsBegun start.held (g.K.Keeper.bound c.args.keeper.now)) c.in_ok-reader.reader c.in_ok-reader.ensures.reader in
    let told = λ (some : IsSome closed.held). mapped (λ r. reader_data (g.K.Reader.KeepReader.held r.reader) (g.K.Reader.KeepReader.bound r.reader) (g.K.Reader.KeepReader.faults r.reader)) (λ r. IsSome r.held) c.decide_all.new.reader (c.close_if.ensures.reader some) in
    let tells_closed : IsSome closed.held = first_told closed saved c.as_slice-2.result.now c.save_if.ensures.first tells in
    let last_told : IsTold last S = tells_of S is used there begun c.in_ok-decided.ensures.reader told tells_closed in
    let tally = c.tally_of.ensures in
    let none : ways.faulted ≡ 0 = omega (arith, tally.faults, no) in
    let over = c.in_ok-decided.ensures.over S (told_some last S last_told) (sym (some_mapped (λ r. reader_data (g.K.Reader.KeepReader.held r.reader) (g.K.Reader.KeepReader.bound r.reader) (g.K.Reader.KeepReader.faults r.reader)) c.decide_all.new.reader) ∙ told_there last S last_told) none in
    (over.0, over.1, over.2 ∙ (let same : ways.accepted + ways.missed ≡ c.tally_of.result.ran = omega (arith, tally.ran, none) in same))

pub returns-clause-alone : goal.returns-clause-alone
returns-clause-alone g c =
    λ unused.
    let first : Option ReaderData = option_map (λ r. reader_data (g.K.Reader.KeepReader.held r.reader) (g.K.Reader.KeepReader.bound r.reader) (g.K.Reader.KeepReader.faults r.reader)) c.in_ok-reader.reader in
    let last : Option ReaderData = option_map (λ r. reader_data (g.K.Reader.KeepReader.held r.reader) (g.K.Reader.KeepReader.bound r.reader) (g.K.Reader.KeepReader.faults r.reader)) c.decide_all.new.reader in
    let there : is_some first ≡ c.args.cached = some_mapped (λ r. reader_data (g.K.Reader.KeepReader.held r.reader) (g.K.Reader.KeepReader.bound r.reader) (g.K.Reader.KeepReader.faults r.reader)) c.in_ok-reader.reader ∙ c.in_ok-reader.ensures.some in
    let there_now : is_some c.decide_all.new.reader ≡ c.args.cached =
    sym (some_mapped (λ r. reader_data (g.K.Reader.KeepReader.held r.reader) (g.K.Reader.KeepReader.bound r.reader) (g.K.Reader.KeepReader.faults r.reader)) c.decide_all.new.reader) ∙ sym (same_there first last c.in_ok-decided.decided.ways.faulted c.in_ok-decided.ensures.reader) ∙ there in
    let alone = c.in_ok-decided.ensures.alone (there_now ∙ unused) in
    let none = c.in_ok-decided.ensures.unread (there_now ∙ unused) in
    let failed = c.in_ok-failed.ensures.no_faults unused in
    let tally = c.tally_of.ensures in
    record {
      accepted = c.in_ok-decided.decided.accepted.items;
      are_accepted = alone.1;
      no_hits = tally.hits ∙ none.0;
      no_faults = omega (arith, tally.faults, none.1, failed);
      late_is =
          let least = alone.2.late_at_least in
          let most = alone.2.late_at_most in
          omega (arith, tally.late, none.1, least, most);
    }

pub returns-clause-settled : goal.returns-clause-settled
returns-clause-settled g c =
    λ S settled given.
    let first : Option ReaderData = option_map (λ r. reader_data (g.K.Reader.KeepReader.held r.reader) (g.K.Reader.KeepReader.bound r.reader) (g.K.Reader.KeepReader.faults r.reader)) c.in_ok-reader.reader in
    let last : Option ReaderData = option_map (λ r. reader_data (g.K.Reader.KeepReader.held r.reader) (g.K.Reader.KeepReader.bound r.reader) (g.K.Reader.KeepReader.faults r.reader)) c.decide_all.new.reader in
    let start = g.K.Keeper.known c.args.keeper.now in
    let closed = g.K.Keeper.known c.close_if.new.keeper in
    let saved = g.K.Keeper.known c.save_if.new.keeper in
    let tells_of = told_to_end start.held closed.held (g.K.Keeper.bound c.args.keeper.now) first last c.in_ok-decided.decided.ways.faulted c.args.cached in
    let there : is_some first ≡ c.args.cached = some_mapped (λ r. reader_data (g.K.Reader.KeepReader.held r.reader) (g.K.Reader.KeepReader.bound r.reader) (g.K.Reader.KeepReader.faults r.reader)) c.in_ok-reader.reader ∙ c.in_ok-reader.ensures.some in
    let begun = mapped (λ r. reader_data (g.K.Reader.KeepReader.held r.reader) (g.K.Reader.KeepReader.bound r.reader) (g.K.Reader.KeepReader.faults r.reader)) (IsBegun start.held (g.K.Keeper.bound c.args.keeper.now)) c.in_ok-reader.reader c.in_ok-reader.ensures.reader in
    let told = λ (some : IsSome closed.held). mapped (λ r. reader_data (g.K.Reader.KeepReader.held r.reader) (g.K.Reader.KeepReader.bound r.reader) (g.K.Reader.KeepReader.faults r.reader)) (λ r. IsSome r.held) c.decide_all.new.reader (c.close_if.ensures.reader some) in
    let there_now : is_some c.decide_all.new.reader ≡ c.args.cached =
    sym (some_mapped (λ r. reader_data (g.K.Reader.KeepReader.held r.reader) (g.K.Reader.KeepReader.bound r.reader) (g.K.Reader.KeepReader.faults r.reader)) c.decide_all.new.reader) ∙ sym (same_there first last c.in_ok-decided.decided.ways.faulted c.in_ok-decided.ensures.reader) ∙ there in
    let held : IfSome last (λ (r : ReaderData). r.held ≡ Some S) =
    by_use c.args.cached _
    (λ unused. none_given last (λ (r : ReaderData). r.held ≡ Some S) (none_mapped (λ r. reader_data (g.K.Reader.KeepReader.held r.reader) (g.K.Reader.KeepReader.bound r.reader) (g.K.Reader.KeepReader.faults r.reader)) c.decide_all.new.reader (there_now ∙ unused)))
    (λ used.
    told_some last S
    (tells_of S (given used).0 used there begun c.in_ok-decided.ensures.reader told
    (first_told closed saved c.as_slice-2.result.now c.save_if.ensures.first (given used).1))) in
    let none =
    c.in_ok-decided.ensures.settled S
    (subst (λ b. IsSettledOver c.args.plan.now c.args.sources.now S b c.args.finished.slots.items) (sym there_now) settled) held in
    omega (arith, none, c.tally_of.ensures.late, c.tally_of.ensures.faults)

pub returns-in_err-reader-clause-left : goal.returns-in_err-reader-clause-left
returns-in_err-reader-clause-left g c =
    λ S is tells fair. leaves_same c.args.plan.now.pips c.args.sources.now c.args.plan.now.tool_budget S (g.K.Keeper.known c.args.keeper.now) (g.K.Keeper.known c.args.keeper.now) is (keeps_all (g.K.Keeper.known c.args.keeper.now)) fair

pub returns-in_err-decided-clause-left : goal.returns-in_err-decided-clause-left
returns-in_err-decided-clause-left g c =
    λ S is tells fair. leaves_same c.args.plan.now.pips c.args.sources.now c.args.plan.now.tool_budget S (g.K.Keeper.known c.args.keeper.now) (g.K.Keeper.known c.args.keeper.now) is (keeps_all (g.K.Keeper.known c.args.keeper.now)) fair

pub returns-in_err-outputs-clause-left : goal.returns-in_err-outputs-clause-left
returns-in_err-outputs-clause-left g c =
    λ S is tells fair. leaves_same c.args.plan.now.pips c.args.sources.now c.args.plan.now.tool_budget S (g.K.Keeper.known c.args.keeper.now) (g.K.Keeper.known c.close_if.new.keeper) is c.close_if.ensures.known fair

pub returns-in_err-failed-clause-left : goal.returns-in_err-failed-clause-left
returns-in_err-failed-clause-left g c =
    λ S is tells fair.
    let first : Option ReaderData = option_map (λ r. reader_data (g.K.Reader.KeepReader.held r.reader) (g.K.Reader.KeepReader.bound r.reader) (g.K.Reader.KeepReader.faults r.reader)) c.in_ok-reader.reader in
    let last : Option ReaderData = option_map (λ r. reader_data (g.K.Reader.KeepReader.held r.reader) (g.K.Reader.KeepReader.bound r.reader) (g.K.Reader.KeepReader.faults r.reader)) c.decide_all.new.reader in
    let start = g.K.Keeper.known c.args.keeper.now in
    let closed = g.K.Keeper.known c.close_if.new.keeper in
    let saved = g.K.Keeper.known c.save_if.new.keeper in
    let tells_of = told_to_end start.held closed.held (g.K.Keeper.bound c.args.keeper.now) first last c.in_ok-decided.decided.ways.faulted c.args.cached in
    let there : is_some first ≡ c.args.cached = some_mapped (λ r. reader_data (g.K.Reader.KeepReader.held r.reader) (g.K.Reader.KeepReader.bound r.reader) (g.K.Reader.KeepReader.faults r.reader)) c.in_ok-reader.reader ∙ c.in_ok-reader.ensures.some in
    let begun = mapped (λ r. reader_data (g.K.Reader.KeepReader.held r.reader) (g.K.Reader.KeepReader.bound r.reader) (g.K.Reader.KeepReader.faults r.reader)) (IsBegun start.held (g.K.Keeper.bound c.args.keeper.now)) c.in_ok-reader.reader c.in_ok-reader.ensures.reader in
    let told = λ (some : IsSome closed.held). mapped (λ r. reader_data (g.K.Reader.KeepReader.held r.reader) (g.K.Reader.KeepReader.bound r.reader) (g.K.Reader.KeepReader.faults r.reader)) (λ r. IsSome r.held) c.decide_all.new.reader (c.close_if.ensures.reader some) in
    by_use c.args.cached _
    (λ unused.
    leaves_same c.args.plan.now.pips c.args.sources.now c.args.plan.now.tool_budget S start saved is
    (keeps_on start closed saved c.close_if.ensures.known (subst (λ k. Keeps closed (g.K.Keeper.known k)) (sym (c.save_if.ensures.none unused)) (keeps_all closed))) fair)
    (λ used.
    let tells_closed : IsSome closed.held = first_told closed saved c.as_slice-2.result.now c.save_if.ensures.first tells in
    let last_told : IsTold last S = tells_of S is used there begun c.in_ok-decided.ensures.reader told tells_closed in
    let follows = c.in_ok-decided.ensures.follows S (told_some last S last_told) (sym (some_mapped (λ r. reader_data (g.K.Reader.KeepReader.held r.reader) (g.K.Reader.KeepReader.bound r.reader) (g.K.Reader.KeepReader.faults r.reader)) c.decide_all.new.reader) ∙ told_there last S last_told) fair in
    leaves_saved c.args.plan.now.pips c.args.sources.now c.args.plan.now.tool_budget S start closed saved c.in_ok-decided.decided.records.items c.as_slice-2.result.now
    is c.close_if.ensures.known tells follows.1.0 fair c.as_slice-2.ensures.value c.save_if.ensures.first)

pub returns-clause-left : goal.returns-clause-left
returns-clause-left g c =
    λ S is tells fair.
    let first : Option ReaderData = option_map (λ r. reader_data (g.K.Reader.KeepReader.held r.reader) (g.K.Reader.KeepReader.bound r.reader) (g.K.Reader.KeepReader.faults r.reader)) c.in_ok-reader.reader in
    let last : Option ReaderData = option_map (λ r. reader_data (g.K.Reader.KeepReader.held r.reader) (g.K.Reader.KeepReader.bound r.reader) (g.K.Reader.KeepReader.faults r.reader)) c.decide_all.new.reader in
    let start = g.K.Keeper.known c.args.keeper.now in
    let closed = g.K.Keeper.known c.close_if.new.keeper in
    let saved = g.K.Keeper.known c.save_if.new.keeper in
    let tells_of = told_to_end start.held closed.held (g.K.Keeper.bound c.args.keeper.now) first last c.in_ok-decided.decided.ways.faulted c.args.cached in
    let there : is_some first ≡ c.args.cached = some_mapped (λ r. reader_data (g.K.Reader.KeepReader.held r.reader) (g.K.Reader.KeepReader.bound r.reader) (g.K.Reader.KeepReader.faults r.reader)) c.in_ok-reader.reader ∙ c.in_ok-reader.ensures.some in
    let begun = mapped (λ r. reader_data (g.K.Reader.KeepReader.held r.reader) (g.K.Reader.KeepReader.bound r.reader) (g.K.Reader.KeepReader.faults r.reader)) (IsBegun start.held (g.K.Keeper.bound c.args.keeper.now)) c.in_ok-reader.reader c.in_ok-reader.ensures.reader in
    let told = λ (some : IsSome closed.held). mapped (λ r. reader_data (g.K.Reader.KeepReader.held r.reader) (g.K.Reader.KeepReader.bound r.reader) (g.K.Reader.KeepReader.faults r.reader)) (λ r. IsSome r.held) c.decide_all.new.reader (c.close_if.ensures.reader some) in
    by_use c.args.cached _
    (λ unused.
    leaves_same c.args.plan.now.pips c.args.sources.now c.args.plan.now.tool_budget S start saved is
    (keeps_on start closed saved c.close_if.ensures.known (subst (λ k. Keeps closed (g.K.Keeper.known k)) (sym (c.save_if.ensures.none unused)) (keeps_all closed))) fair)
    (λ used.
    let tells_closed : IsSome closed.held = first_told closed saved c.as_slice-2.result.now c.save_if.ensures.first tells in
    let last_told : IsTold last S = tells_of S is used there begun c.in_ok-decided.ensures.reader told tells_closed in
    let follows = c.in_ok-decided.ensures.follows S (told_some last S last_told) (sym (some_mapped (λ r. reader_data (g.K.Reader.KeepReader.held r.reader) (g.K.Reader.KeepReader.bound r.reader) (g.K.Reader.KeepReader.faults r.reader)) c.decide_all.new.reader) ∙ told_there last S last_told) fair in
    leaves_saved c.args.plan.now.pips c.args.sources.now c.args.plan.now.tool_budget S start closed saved c.in_ok-decided.decided.records.items c.as_slice-2.result.now
    is c.close_if.ensures.known tells follows.1.0 fair c.as_slice-2.ensures.value c.save_if.ensures.first)

pub returns-clause-usable_but : goal.returns-clause-usable_but
returns-clause-usable_but g c =
    λ used S is tells fair free.
    let first : Option ReaderData = option_map (λ r. reader_data (g.K.Reader.KeepReader.held r.reader) (g.K.Reader.KeepReader.bound r.reader) (g.K.Reader.KeepReader.faults r.reader)) c.in_ok-reader.reader in
    let last : Option ReaderData = option_map (λ r. reader_data (g.K.Reader.KeepReader.held r.reader) (g.K.Reader.KeepReader.bound r.reader) (g.K.Reader.KeepReader.faults r.reader)) c.decide_all.new.reader in
    let start = g.K.Keeper.known c.args.keeper.now in
    let closed = g.K.Keeper.known c.close_if.new.keeper in
    let saved = g.K.Keeper.known c.save_if.new.keeper in
    let tells_of = told_to_end start.held closed.held (g.K.Keeper.bound c.args.keeper.now) first last c.in_ok-decided.decided.ways.faulted c.args.cached in
    let there : is_some first ≡ c.args.cached = some_mapped (λ r. reader_data (g.K.Reader.KeepReader.held r.reader) (g.K.Reader.KeepReader.bound r.reader) (g.K.Reader.KeepReader.faults r.reader)) c.in_ok-reader.reader ∙ c.in_ok-reader.ensures.some in
    let begun = mapped (λ r. reader_data (g.K.Reader.KeepReader.held r.reader) (g.K.Reader.KeepReader.bound r.reader) (g.K.Reader.KeepReader.faults r.reader)) (IsBegun start.held (g.K.Keeper.bound c.args.keeper.now)) c.in_ok-reader.reader c.in_ok-reader.ensures.reader in
    let told = λ (some : IsSome closed.held). mapped (λ r. reader_data (g.K.Reader.KeepReader.held r.reader) (g.K.Reader.KeepReader.bound r.reader) (g.K.Reader.KeepReader.faults r.reader)) (λ r. IsSome r.held) c.decide_all.new.reader (c.close_if.ensures.reader some) in
    let tells_closed : IsSome closed.held = first_told closed saved c.as_slice-2.result.now c.save_if.ensures.first tells in
    let last_told : IsTold last S = tells_of S is used there begun c.in_ok-decided.ensures.reader told tells_closed in
    let follows = c.in_ok-decided.ensures.follows S (told_some last S last_told) (sym (some_mapped (λ r. reader_data (g.K.Reader.KeepReader.held r.reader) (g.K.Reader.KeepReader.bound r.reader) (g.K.Reader.KeepReader.faults r.reader)) c.decide_all.new.reader) ∙ told_there last S last_told) fair in
    leaves_but c.args.plan.now.pips c.args.sources.now c.args.plan.now.tool_budget S start closed saved c.in_ok-decided.decided.records.items c.as_slice-2.result.now
    c.in_ok-failed.failed _ is c.close_if.ensures.known follows.1.0 fair c.as_slice-2.ensures.value c.pips-pips.ensures.list c.requires.rules free
    (c.in_ok-failed.ensures.all used) (omega (arith, c.tally_of.ensures.faults))

pub returns-clause-usable : goal.returns-clause-usable
returns-clause-usable g c =
    λ used S is fair free none T now.
    let first : Option ReaderData = option_map (λ r. reader_data (g.K.Reader.KeepReader.held r.reader) (g.K.Reader.KeepReader.bound r.reader) (g.K.Reader.KeepReader.faults r.reader)) c.in_ok-reader.reader in
    let last : Option ReaderData = option_map (λ r. reader_data (g.K.Reader.KeepReader.held r.reader) (g.K.Reader.KeepReader.bound r.reader) (g.K.Reader.KeepReader.faults r.reader)) c.decide_all.new.reader in
    let start = g.K.Keeper.known c.args.keeper.now in
    let closed = g.K.Keeper.known c.close_if.new.keeper in
    let saved = g.K.Keeper.known c.save_if.new.keeper in
    let tells_of = told_to_end start.held closed.held (g.K.Keeper.bound c.args.keeper.now) first last c.in_ok-decided.decided.ways.faulted c.args.cached in
    let there : is_some first ≡ c.args.cached = some_mapped (λ r. reader_data (g.K.Reader.KeepReader.held r.reader) (g.K.Reader.KeepReader.bound r.reader) (g.K.Reader.KeepReader.faults r.reader)) c.in_ok-reader.reader ∙ c.in_ok-reader.ensures.some in
    let begun = mapped (λ r. reader_data (g.K.Reader.KeepReader.held r.reader) (g.K.Reader.KeepReader.bound r.reader) (g.K.Reader.KeepReader.faults r.reader)) (IsBegun start.held (g.K.Keeper.bound c.args.keeper.now)) c.in_ok-reader.reader c.in_ok-reader.ensures.reader in
    let told = λ (some : IsSome closed.held). mapped (λ r. reader_data (g.K.Reader.KeepReader.held r.reader) (g.K.Reader.KeepReader.bound r.reader) (g.K.Reader.KeepReader.faults r.reader)) (λ r. IsSome r.held) c.decide_all.new.reader (c.close_if.ensures.reader some) in
    let tells : IsSome saved.held = subst (λ (o : Option Holdings). IsSome o) (sym now) refl in
    let tells_closed : IsSome closed.held = first_told closed saved c.as_slice-2.result.now c.save_if.ensures.first tells in
    let last_told : IsTold last S = tells_of S is used there begun c.in_ok-decided.ensures.reader told tells_closed in
    let follows = c.in_ok-decided.ensures.follows S (told_some last S last_told) (sym (some_mapped (λ r. reader_data (g.K.Reader.KeepReader.held r.reader) (g.K.Reader.KeepReader.bound r.reader) (g.K.Reader.KeepReader.faults r.reader)) c.decide_all.new.reader) ∙ told_there last S last_told) fair in
    leaves_all c.args.plan.now.pips c.args.sources.now c.args.plan.now.tool_budget saved _
    (leaves_but c.args.plan.now.pips c.args.sources.now c.args.plan.now.tool_budget S start closed saved c.in_ok-decided.decided.records.items c.as_slice-2.result.now
    c.in_ok-failed.failed _ is c.close_if.ensures.known follows.1.0 fair c.as_slice-2.ensures.value c.pips-pips.ensures.list c.requires.rules free
    (c.in_ok-failed.ensures.all used) (omega (arith, c.tally_of.ensures.faults))) none T now

pub returns-clause-faults : goal.returns-clause-faults
returns-clause-faults g c =
    λ b is.
    let begun = mapped (λ r. reader_data (g.K.Reader.KeepReader.held r.reader) (g.K.Reader.KeepReader.bound r.reader) (g.K.Reader.KeepReader.faults r.reader)) (IsBegun (g.K.Keeper.known c.args.keeper.now).held (g.K.Keeper.bound c.args.keeper.now)) c.in_ok-reader.reader c.in_ok-reader.ensures.reader in
    let all =
    all_faults (g.K.Keeper.known c.args.keeper.now).held (option_map (λ r. reader_data (g.K.Reader.KeepReader.held r.reader) (g.K.Reader.KeepReader.bound r.reader) (g.K.Reader.KeepReader.faults r.reader)) c.in_ok-reader.reader) (option_map (λ r. reader_data (g.K.Reader.KeepReader.held r.reader) (g.K.Reader.KeepReader.bound r.reader) (g.K.Reader.KeepReader.faults r.reader)) c.decide_all.new.reader) (g.K.Keeper.bound c.args.keeper.now)
    c.in_ok-decided.decided.ways.faulted b (g.K.Keeper.faults c.args.keeper.now) (g.K.Keeper.faults c.save_if.new.keeper) c.in_ok-failed.failed
    c.in_ok-decided.ensures.reader begun is
    (closed_faults (g.K.Keeper.bound c.args.keeper.now) (g.K.Keeper.bound c.close_if.new.keeper) _ _ _ _ c.close_if.ensures.bound c.close_if.ensures.faults c.in_ok-failed.ensures.faults) in
    omega (arith, all, c.tally_of.ensures.faults)

pub returns-clause-places : goal.returns-clause-places
returns-clause-places g c =
    placed c.args.plan.now.pips c.args.sources.now c.as_slice.result.now c.in_ok-decided.decided.slots.items c.in_ok-outputs.outputs c.requires.rules
    c.in_ok-decided.ensures.kept c.as_slice.ensures.value c.in_ok-outputs.ensures

pub returns-clause-seen : goal.returns-clause-seen
returns-clause-seen g c = λ none. c.in_ok-failed.ensures.seen (omega (arith, none, c.tally_of.ensures.faults)) ∙ c.close_if.ensures.faults

pub returns-in_err-reader-clause-puts : goal.returns-in_err-reader-clause-puts
returns-in_err-reader-clause-puts g c = none_put (g.K.Keeper.known c.args.keeper.now) (g.K.Keeper.known c.args.keeper.now) (keeps_all (g.K.Keeper.known c.args.keeper.now))

pub returns-in_err-decided-clause-puts : goal.returns-in_err-decided-clause-puts
returns-in_err-decided-clause-puts g c = none_put (g.K.Keeper.known c.args.keeper.now) (g.K.Keeper.known c.args.keeper.now) (keeps_all (g.K.Keeper.known c.args.keeper.now))

pub returns-in_err-outputs-clause-puts : goal.returns-in_err-outputs-clause-puts
returns-in_err-outputs-clause-puts g c = none_put (g.K.Keeper.known c.args.keeper.now) (g.K.Keeper.known c.close_if.new.keeper) c.close_if.ensures.known

pub returns-in_err-failed-clause-puts : goal.returns-in_err-failed-clause-puts
returns-in_err-failed-clause-puts g c =
    only_put (g.K.Keeper.known c.args.keeper.now) (g.K.Keeper.known c.close_if.new.keeper) (g.K.Keeper.known c.save_if.new.keeper) c.in_ok-decided.decided.records.items c.as_slice-2.result.now
    c.close_if.ensures.known c.in_ok-decided.ensures.records c.as_slice-2.ensures.value c.save_if.ensures.first

pub returns-clause-puts : goal.returns-clause-puts
returns-clause-puts g c =
    only_put (g.K.Keeper.known c.args.keeper.now) (g.K.Keeper.known c.close_if.new.keeper) (g.K.Keeper.known c.save_if.new.keeper) c.in_ok-decided.decided.records.items c.as_slice-2.result.now
    c.close_if.ensures.known c.in_ok-decided.ensures.records c.as_slice-2.ensures.value c.save_if.ensures.first

pub returns-clause-saved_runs : goal.returns-clause-saved_runs
returns-clause-saved_runs g c =
    λ used S is tells fair none.
    let first : Option ReaderData = option_map (λ r. reader_data (g.K.Reader.KeepReader.held r.reader) (g.K.Reader.KeepReader.bound r.reader) (g.K.Reader.KeepReader.faults r.reader)) c.in_ok-reader.reader in
    let last : Option ReaderData = option_map (λ r. reader_data (g.K.Reader.KeepReader.held r.reader) (g.K.Reader.KeepReader.bound r.reader) (g.K.Reader.KeepReader.faults r.reader)) c.decide_all.new.reader in
    let start = g.K.Keeper.known c.args.keeper.now in
    let closed = g.K.Keeper.known c.close_if.new.keeper in
    let saved = g.K.Keeper.known c.save_if.new.keeper in
    let tells_of = told_to_end start.held closed.held (g.K.Keeper.bound c.args.keeper.now) first last c.in_ok-decided.decided.ways.faulted c.args.cached in
    let there : is_some first ≡ c.args.cached = some_mapped (λ r. reader_data (g.K.Reader.KeepReader.held r.reader) (g.K.Reader.KeepReader.bound r.reader) (g.K.Reader.KeepReader.faults r.reader)) c.in_ok-reader.reader ∙ c.in_ok-reader.ensures.some in
    let begun = mapped (λ r. reader_data (g.K.Reader.KeepReader.held r.reader) (g.K.Reader.KeepReader.bound r.reader) (g.K.Reader.KeepReader.faults r.reader)) (IsBegun start.held (g.K.Keeper.bound c.args.keeper.now)) c.in_ok-reader.reader c.in_ok-reader.ensures.reader in
    let told = λ (some : IsSome closed.held). mapped (λ r. reader_data (g.K.Reader.KeepReader.held r.reader) (g.K.Reader.KeepReader.bound r.reader) (g.K.Reader.KeepReader.faults r.reader)) (λ r. IsSome r.held) c.decide_all.new.reader (c.close_if.ensures.reader some) in
    let tells_closed : IsSome closed.held = first_told closed saved c.as_slice-2.result.now c.save_if.ensures.first tells in
    let last_told : IsTold last S = tells_of S is used there begun c.in_ok-decided.ensures.reader told tells_closed in
    let follows = c.in_ok-decided.ensures.follows S (told_some last S last_told) (sym (some_mapped (λ r. reader_data (g.K.Reader.KeepReader.held r.reader) (g.K.Reader.KeepReader.bound r.reader) (g.K.Reader.KeepReader.faults r.reader)) c.decide_all.new.reader) ∙ told_there last S last_told) fair in
    saves_runs c.args.plan.now.pips c.args.sources.now c.args.plan.now.tool_budget S c.args.finished.slots.items start closed saved c.in_ok-decided.decided.records.items
    c.as_slice-2.result.now c.close_if.ensures.known follows.1.0 (follows.1.1 (omega (arith, none, c.tally_of.ensures.faults))) c.as_slice-2.ensures.value
    c.save_if.ensures.first

pub returns-clause-saved : goal.returns-clause-saved
returns-clause-saved g c =
    saves_most (g.K.Keeper.known c.args.keeper.now) (g.K.Keeper.known c.close_if.new.keeper) (g.K.Keeper.known c.save_if.new.keeper) c.in_ok-decided.decided.records.items c.as_slice-2.result.now _
    c.close_if.ensures.known c.in_ok-decided.ensures.records c.as_slice-2.ensures.value c.save_if.ensures.first (omega (arith, c.in_ok-decided.ensures.ran, c.tally_of.ensures.ran))

pub returns-clause-unsaved : goal.returns-clause-unsaved
returns-clause-unsaved g c =
    λ none.
    none_most (g.K.Keeper.known c.args.keeper.now) (g.K.Keeper.known c.save_if.new.keeper) _
    (saves_most (g.K.Keeper.known c.args.keeper.now) (g.K.Keeper.known c.close_if.new.keeper) (g.K.Keeper.known c.save_if.new.keeper) c.in_ok-decided.decided.records.items c.as_slice-2.result.now _
    c.close_if.ensures.known c.in_ok-decided.ensures.records c.as_slice-2.ensures.value c.save_if.ensures.first (omega (arith, c.in_ok-decided.ensures.ran, c.tally_of.ensures.ran))) none

pub save_if-requires-clause-good : goal.save_if-requires-clause-good
save_if-requires-clause-good g c = λ κs live. subst (AllByRecursion IsSuccess) (sym c.as_slice-2.ensures.value) c.in_ok-decided.ensures.records

pub save_if-requires-clause-few : goal.save_if-requires-clause-few
save_if-requires-clause-few g c =
    let same = ap length c.as_slice-2.ensures.value in
    let ran = c.in_ok-decided.ensures.ran in
    let few = c.in_ok-decided.ensures.few in
    omega (arith, same, ran, few)

pub tally_of-requires-clause-failed : goal.tally_of-requires-clause-failed
tally_of-requires-clause-failed g c =
    let same = ap length c.as_slice-2.ensures.value in
    let ran = c.in_ok-decided.ensures.ran in
    let few = c.in_ok-decided.ensures.few in
    let failed = c.in_ok-failed.ensures.few_faults in
    omega (arith, same, ran, few, failed)
