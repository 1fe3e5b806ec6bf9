use Rattle.std.proofs.Common.{subst}
use Rattle.tool_run.specs.Described.{described}
use Rattle.run_record.specs.declared.matching.Match.{Match}
use Rattle.run_record.specs.Matches.{Compares}
use Rattle.run_record.proofs.Same.{same_run}
use Rattle.run_record.proofs.matching.matches.Goals as goal

pub returns-in-Ok-clause-same_run : goal.returns-in-Ok-clause-same_run
returns-in-Ok-clause-same_run g c = λ same apart.
    let d = c.args.desc.now in
    let f = c.args.ran.now in
    let see = g.V.View.answers c.args.view.now in
    let both = subst (λ (m : Match). Compares d f see m) same c.in-Ok.ensures.compared in
    same_run d f see (c.noninterference.ensures (described f.desc)) c.desc-sound.ensures.sound c.in-Ok.ensures.read c.in-Ok.ensures.read_held both.0 both.1 apart
