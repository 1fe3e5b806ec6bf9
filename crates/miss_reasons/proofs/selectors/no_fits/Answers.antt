use Rattle.std.proofs.Common.{refl, ◌∙◌}
use Rattle.two_phase.proofs.Used.{ok_no_err, reads_none, reads_on}
use Rattle.miss_reasons.proofs.Answering.{fits_all, fits_more, fits_none, none_usable}
use Rattle.miss_reasons.proofs.selectors.no_fits.Goals as goal

pub selectors-init : goal.selectors-init
selectors-init g c = record {
  fits = fits_none (g.R.KeepReader.held c.args.reader.now) c.args.desc.now (g.V.View.answers c.args.view.now) c.args.list.now c.new-why.result.items c.new-why.ensures.items;
  same = refl;
  reads = reads_none (g.R.KeepReader.held c.args.reader.now) (g.R.KeepReader.bound c.args.reader.now) (g.R.KeepReader.faults c.args.reader.now) ⊥ (λ e. e);
}

pub no_fit-requires-clause-unusable : goal.no_fit-requires-clause-unusable
no_fit-requires-clause-unusable g c = λ κs live.
    none_usable (g.R.KeepReader.held c.args.reader.now) (g.R.KeepReader.held c.selectors.reader) c.args.desc.now (g.V.View.answers c.args.view.now) (g.V.View.answers c.selectors.view) c.args.list.now
    c.selectors.selector-index c.selector-item.result c.selectors-test.true c.selector-item.is c.selectors.invariant.reads.held_is c.selectors.invariant.same c.requires.unusable

pub selectors-preserved : goal.selectors-preserved
selectors-preserved g c = record {
  fits = fits_more (g.R.KeepReader.held c.selectors.reader) (g.R.KeepReader.held c.no_fit.new.reader) c.args.desc.now (g.V.View.answers c.args.view.now) (g.V.View.answers c.selectors.view) c.args.list.now
      c.selectors.selector-index c.selector-item.result c.in_ok-one.one c.selectors.why.items c.push.new.self.items c.selectors-test.true c.selector-item.is c.in_ok-one.ensures.reader.held_is
      c.selectors.invariant.same c.in_ok-one.ensures.fit c.in_ok-push.ensures.items c.selectors.invariant.fits;
  same = c.in_ok-one.ensures.same ∙ c.selectors.invariant.same;
  reads = reads_on _ _ _ _ _ _ _ _ _ _ (ok_no_err _ _) c.selectors.invariant.reads c.in_ok-one.ensures.reader;
}

pub returns-clause-fits : goal.returns-clause-fits
returns-clause-fits g c =
    fits_all (g.R.KeepReader.held c.selectors.reader) c.args.desc.now (g.V.View.answers c.args.view.now) c.args.list.now c.selectors.selector-index c.selectors.why.items c.of.result c.selectors-test.false c.of.ensures
    c.selectors.invariant.fits
