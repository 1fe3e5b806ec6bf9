use Rattle.std.proofs.Common.{Some, ap, sym, ◌∙◌, subst}
use Rattle.bx_tree.specs.Trees.{Files, NoneNested, paths_of}
use Rattle.memo_format.specs.Found.{output_lines}
use Rattle.two_phase.specs.Finding.{AreOutputs, FindsOne}
use Rattle.two_phase.proofs.Outputs.{Gathered, added_at, gathered_all, gathered_end, gathered_none, gathered_past, not_added_at}
use Rattle.two_phase.proofs.Used.{ok_no_err, reads_none, reads_on}
use Rattle.two_phase.proofs.fetching.outputs.Goals as goal

pub outputs-init : goal.outputs-init
outputs-init g c = record {
  gathered = subst (Gathered (g.R.KeepReader.held c.args.reader.now) c.args.outputs.now c.args.outputs.now) (sym c.new-writes.ensures) (gathered_none (g.R.KeepReader.held c.args.reader.now) c.args.outputs.now);
  reads = reads_none (g.R.KeepReader.held c.args.reader.now) (g.R.KeepReader.bound c.args.reader.now) (g.R.KeepReader.faults c.args.reader.now) ⊥ (λ e. e);
}

pub outputs-preserved : goal.outputs-preserved
outputs-preserved g c = record {
  gathered = added_at (g.R.KeepReader.held c.outputs.reader) (g.R.KeepReader.held c.add_output.new.reader) c.args.outputs.now c.outputs.output-index c.output-item.result c.outputs.writes c.in_ok-now.field-0
      c.in-Some.now c.requires c.outputs-test.true c.output-item.is c.in_ok-now.ensures.reader.held_is c.outputs.invariant.gathered c.in_ok-now.ensures.added c.in-Some.is;
  reads = reads_on _ _ _ _ _ _ _ _ _ _ (ok_no_err _ _) c.outputs.invariant.reads c.in_ok-now.ensures.reader;
}

pub returns-in-None-clause-found : goal.returns-in-None-clause-found
returns-in-None-clause-found g c =
    not_added_at (g.R.KeepReader.held c.outputs.reader) (g.R.KeepReader.held c.add_output.new.reader) c.args.outputs.now c.outputs.output-index c.output-item.result c.outputs.writes c.in_ok-now.field-0
    c.outputs-test.true c.output-item.is c.in_ok-now.ensures.reader.held_is c.outputs.invariant.gathered c.in_ok-now.ensures.added c.in-None.is

pub returns-clause-found : goal.returns-clause-found
returns-clause-found g c =
    let g' = gathered_past (g.R.KeepReader.held c.outputs.reader) c.args.outputs.now c.outputs.output-index c.outputs.writes c.outputs-test.false c.outputs.invariant.gathered in
    subst (λ (fs : Files). FindsOne (g.R.KeepReader.held c.outputs.reader) (λ S x. AreOutputs S c.args.outputs.now x) (Some fs)) (sym c.in_ok-into_made.ensures)
    (gathered_end (g.R.KeepReader.held c.outputs.reader) c.args.outputs.now c.outputs.writes g')

pub returns-clause-made : goal.returns-clause-made
returns-clause-made g c =
    ap output_lines c.in_ok-into_made.ensures
    ∙ gathered_all (g.R.KeepReader.held c.outputs.reader) c.args.outputs.now c.outputs.writes
    (gathered_past (g.R.KeepReader.held c.outputs.reader) c.args.outputs.now c.outputs.output-index c.outputs.writes c.outputs-test.false c.outputs.invariant.gathered)

pub returns-clause-unnested : goal.returns-clause-unnested
returns-clause-unnested g c = subst (λ (fs : Files). NoneNested (paths_of fs)) (sym c.in_ok-into_made.ensures) c.outputs.invariant.gathered.unnested
