use Rattle.graph_check.specs.declared.twin.Described.{Described}
use Rattle.graph_check.proofs.Twins.{described_more, was_there}
use Rattle.graph_check.proofs.twin.had.Goals as goal

pub returns : goal.returns
returns c =
    let key : Described = record { process = c.args.process } in record {
      had = was_there c.args.seen.now key c.in_ok-insert.field-0 c.in_ok-insert.ensures.added;
      added = described_more c.args.seen.now c.insert.new.self key c.in_ok-insert.ensures.updates;
    }
