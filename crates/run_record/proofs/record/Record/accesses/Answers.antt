use Rattle.tool_run.specs.Seen.{seen}
use Rattle.run_record.proofs.Stored.{made_again}
use Rattle.run_record.proofs.record.Record.accesses.Goals as goal

pub returns : goal.returns
returns c =
    made_again c.args.self.now c.desc.result.now c.paths.result.now c.answers.result.now _ (seen c.in_ok-ran.ran)
    c.desc.ensures.sound c.desc.ensures.value c.paths.ensures c.answers.ensures.value c.new-view.ensures c.in_ok-ran.ensures.ran
