use Rattle.two_phase.proofs.Used.{ok_no_err, reads_none, reads_on}
use Rattle.miss_reasons.proofs.Answering.{all_held, held_more, missing_here}
use Rattle.miss_reasons.proofs.selectors.missing_output.Goals as goal

pub outputs-init : goal.outputs-init
outputs-init g c = record {
  held = λ S told. tt;
  reads = reads_none (g.R.KeepReader.held c.args.reader.now) (g.R.KeepReader.bound c.args.reader.now) (g.R.KeepReader.faults c.args.reader.now) ⊥ (λ e. e);
}

pub outputs-preserved : goal.outputs-preserved
outputs-preserved g c = record {
  held = held_more (g.R.KeepReader.held c.outputs.reader) (g.R.KeepReader.held c.content.new.reader) c.args.outputs.now c.outputs.output-index c.output-item.result c.in_ok-found.found c.in-Some.field-0
      c.outputs-test.true c.output-item.is c.in_ok-found.ensures.reader.held_is c.in_ok-found.ensures.found c.in-Some.is c.outputs.invariant.held;
  reads = reads_on _ _ _ _ _ _ _ _ _ _ (ok_no_err _ _) c.outputs.invariant.reads c.in_ok-found.ensures.reader;
}

pub returns-in-None-clause-missing : goal.returns-in-None-clause-missing
returns-in-None-clause-missing g c =
    missing_here (g.R.KeepReader.held c.content.new.reader) c.args.outputs.now c.outputs.output-index c.output-item.result c.in_ok-line-in-None.line c.in_ok-found.found
    c.outputs-test.true c.output-item.is c.in_ok-line-in-None.ensures c.in_ok-found.ensures.found c.in-None.is

pub returns-clause-missing : goal.returns-clause-missing
returns-clause-missing g c = all_held (g.R.KeepReader.held c.outputs.reader) c.args.outputs.now c.outputs.output-index c.outputs-test.false c.outputs.invariant.held
