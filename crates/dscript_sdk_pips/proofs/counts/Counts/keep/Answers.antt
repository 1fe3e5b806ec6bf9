use Rattle.std.proofs.Common.{ap, ◌∙◌}
use Rattle.std.specs.FinMap.{insert}
use Rattle.dscript_sdk_pips.proofs.CountsKept.{put_kept}
use Rattle.dscript_sdk_pips.proofs.counts.Counts.keep.Goals as goal

pub returns-clause-kept : goal.returns-clause-kept
returns-clause-kept c =
    put_kept c.self.inside.numbers c.insert.new.self c.args.dir c.args.number c.in_ok-insert.ensures.updates
    ∙ ap (λ counts. insert counts c.args.dir c.args.number) c.self.view_is
