use Rattle.graph_memo.proofs.Usable.{key_missed, listings_given, specs_missed}
use Rattle.graph_memo.proofs.finding.is_usable.Goals as goal

pub returns-then-not-key-clause-usable : goal.returns-then-not-key-clause-usable
returns-then-not-key-clause-usable g c =
    key_missed (g.R.KeepReader.held c.is_held.new.reader) c.args.work.now c.args.tree.now c.args.budget c.args.entry.now c.in_ok-key.key c.if-not-key.true
    c.in_ok-key.ensures.held

pub returns-then-not-specs-clause-usable : goal.returns-then-not-specs-clause-usable
returns-then-not-specs-clause-usable g c =
    specs_missed (g.R.KeepReader.held c.are_all_held.new.reader) c.args.work.now c.args.tree.now c.args.budget c.args.entry.now c.as_slice.result.now
    c.in_ok-specs.specs c.as_slice.ensures.value c.if-not-specs.true c.in_ok-specs.ensures.held

pub returns-clause-usable : goal.returns-clause-usable
returns-clause-usable g c =
    listings_given (g.R.KeepReader.held c.is_held.new.reader) (g.R.KeepReader.held c.are_all_held.new.reader) (g.R.KeepReader.held c.are_answered.new.reader) c.args.work.now
    c.args.tree.now c.args.budget c.args.entry.now c.in_ok-key.key c.in_ok-specs.specs c.as_slice.result.now c.lines.result.now c.are_answered.result c.requires
    c.if-not-key.false c.if-not-specs.false c.as_slice.ensures.value c.lines.ensures c.in_ok-specs.ensures.reader.held_is c.are_answered.ensures.reader.held_is
    c.in_ok-key.ensures.held c.in_ok-specs.ensures.held c.are_answered.ensures.answered
