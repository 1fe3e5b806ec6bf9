use Rattle.miss_reasons.proofs.Answering.{bad_list, none_fits, none_of_list}
use Rattle.miss_reasons.proofs.reason.list_reason.Goals as goal

pub no_fits-requires-clause-unusable : goal.no_fits-requires-clause-unusable
no_fits-requires-clause-unusable g c = λ κs live.
    none_of_list c.args.desc.now (g.V.View.answers c.args.view.now) c.args.weak.now c.args.text.now c.in_ok-list.field-0 c.requires.weak c.in_ok-list.ensures.read (g.R.KeepReader.held c.args.reader.now)
    c.in-Some.list c.list-selectors.result.now c.requires.held c.in-Some.is c.list-selectors.ensures c.requires.unusable

pub returns-in_ok-why-in-Some-clause-reason : goal.returns-in_ok-why-in-Some-clause-reason
returns-in_ok-why-in-Some-clause-reason g c =
    none_fits c.args.desc.now (g.V.View.answers c.args.view.now) c.args.weak.now c.args.text.now c.in_ok-list.field-0 c.requires.weak c.in_ok-list.ensures.read (g.R.KeepReader.held c.args.reader.now)
    (g.R.KeepReader.held c.no_fits.new.reader) c.in-Some.list c.list-selectors.result.now c.in_ok-why-in-Some.why c.in_ok-why-in-Some.ensures.reader.held_is c.requires.held c.in-Some.is c.list-selectors.ensures
    c.in_ok-why-in-Some.ensures.fits

pub returns-in-None-clause-reason : goal.returns-in-None-clause-reason
returns-in-None-clause-reason g c =
    bad_list c.args.desc.now (g.V.View.answers c.args.view.now) c.args.weak.now c.args.text.now c.in_ok-list.field-0 c.requires.weak c.in_ok-list.ensures.read (g.R.KeepReader.held c.args.reader.now)
    c.requires.held c.in-None.is
