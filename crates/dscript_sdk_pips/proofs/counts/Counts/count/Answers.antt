use Rattle.std.proofs.Common.{ap, ◌∙◌}
use Rattle.dscript_sdk_pips.specs.States.{count_in}
use Rattle.dscript_sdk_pips.proofs.CountsKept.{count_kept, no_count_kept}
use Rattle.dscript_sdk_pips.proofs.counts.Counts.count.Goals as goal

pub returns-in-Some : goal.returns-in-Some
returns-in-Some c =
    count_kept c.self.inside.numbers c.args.dir.now c.get.result c.in-Some.number c.get.ensures.value c.in-Some.is
    ∙ ap (λ counts. count_in counts c.args.dir.now) c.self.view_is

pub returns-in-None : goal.returns-in-None
returns-in-None c =
    no_count_kept c.self.inside.numbers c.args.dir.now c.get.result c.get.ensures.value c.in-None.is
    ∙ ap (λ counts. count_in counts c.args.dir.now) c.self.view_is
