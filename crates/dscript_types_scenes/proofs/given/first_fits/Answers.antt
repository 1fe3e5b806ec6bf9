use Rattle.std.proofs.Common.{◌∙◌, ap, sym}
use Rattle.bx_tree.proofs.Lists.{none_left}
use Rattle.dscript_types_meaning.specs.Fits.{fits}
use Rattle.dscript_types_meaning.specs.Functions.{first_or_undefined}
use Rattle.dscript_types_scenes.proofs.given.first_fits.Goals as goal

pub returns-in-Some : goal.returns-in-Some
returns-in-Some c =
    c.fits.ensures ∙ ap (λ ts. fits (first_or_undefined ts) c.args.t.now) (sym c.in-Some.ensures.cases.0)

pub returns-in-None : goal.returns-in-None
returns-in-None c =
    c.fits-in-None.ensures ∙ ap (λ u. fits u c.args.t.now) c.requires
    ∙ ap (λ ts. fits (first_or_undefined ts) c.args.t.now) (sym (none_left c.args.given.now c.in-None.ensures.cases))
