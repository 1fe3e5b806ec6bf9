use Rattle.std.proofs.Common.{refl, ◌∙◌}
use Rattle.two_phase.proofs.Tried.{found_at, onward_at, onward_past, onward_start}
use Rattle.two_phase.proofs.Used.{ok_no_err, reads_none, reads_on}
use Rattle.two_phase.proofs.lookups.first_usable.Goals as goal

pub selectors-init : goal.selectors-init
selectors-init g c = record {
  onward = onward_start (g.R.KeepReader.held c.args.reader.now) c.args.desc.now (g.V.View.answers c.args.view.now) c.args.list.now;
  same = refl;
  reads = reads_none (g.R.KeepReader.held c.args.reader.now) (g.R.KeepReader.bound c.args.reader.now) (g.R.KeepReader.faults c.args.reader.now) ⊥ (λ e. e);
}

pub selectors-preserved : goal.selectors-preserved
selectors-preserved g c = record {
  onward = onward_at (g.R.KeepReader.held c.selectors.reader) (g.R.KeepReader.held c.follow.new.reader) c.args.desc.now (g.V.View.answers c.args.view.now) (g.V.View.answers c.selectors.view) c.args.list.now
      c.selectors.selector-index c.selector-item.result c.in_ok-found.field-0 c.selectors-test.true c.selector-item.is c.in_ok-found.ensures.reader.held_is
      c.selectors.invariant.same c.selectors.invariant.onward c.in_ok-found.ensures.found c.in-None.is;
  same = c.in_ok-found.ensures.same ∙ c.selectors.invariant.same;
  reads = reads_on _ _ _ _ _ _ _ _ _ _ (ok_no_err _ _) c.selectors.invariant.reads c.in_ok-found.ensures.reader;
}

pub returns-in-Some-clause-found : goal.returns-in-Some-clause-found
returns-in-Some-clause-found g c =
    found_at (g.R.KeepReader.held c.selectors.reader) (g.R.KeepReader.held c.follow.new.reader) c.args.desc.now (g.V.View.answers c.args.view.now) (g.V.View.answers c.selectors.view) c.args.list.now c.selectors.selector-index
    c.selector-item.result c.in_ok-found.field-0 c.in-Some.found c.selectors-test.true c.selector-item.is c.in_ok-found.ensures.reader.held_is
    c.selectors.invariant.same c.selectors.invariant.onward c.in_ok-found.ensures.found c.in-Some.is

pub returns-clause-found : goal.returns-clause-found
returns-clause-found g c =
    onward_past (g.R.KeepReader.held c.selectors.reader) c.args.desc.now (g.V.View.answers c.args.view.now) c.args.list.now c.selectors.selector-index c.selectors-test.false c.selectors.invariant.onward
