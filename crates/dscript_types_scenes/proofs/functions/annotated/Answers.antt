use Rattle.dscript_program.specs.Views.{body_data}
use Rattle.dscript_types_scenes.proofs.Standing.{ends_fitting, ends_unfit, never_ends}
use Rattle.dscript_types_scenes.proofs.functions.annotated.Goals as goal

pub returns-then-not-may_end : goal.returns-then-not-may_end
returns-then-not-may_end c =
    never_ends (body_data c.args.body.now) c.args.t c.args.rank _ c.may_end.ensures c.if-not-may_end.true

pub returns-then-fits : goal.returns-then-fits
returns-then-fits c =
    ends_fitting (body_data c.args.body.now) c.args.t c.args.rank _ c.may_end.ensures _ _ c.in_ok-undefined.ensures c.fits.ensures c.if-fits.true

pub returns-else-fits : goal.returns-else-fits
returns-else-fits c =
    ends_unfit (body_data c.args.body.now) c.args.t c.args.rank _ c.may_end.ensures _ _ c.in_ok-undefined.ensures c.fits.ensures
    c.if-not-may_end.false c.if-fits.false
