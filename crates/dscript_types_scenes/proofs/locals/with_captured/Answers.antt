use Rattle.std.proofs.Common.{◌∙◌, ap, sym}
use Rattle.std.specs.Option.{option_copied, option_map}
use Rattle.dscript_types_known.specs.Views.{found_local, locals_at}
use Rattle.dscript_types_notes.proofs.Going.{if_ok}
use Rattle.dscript_types_scenes.proofs.Captures.{captured_put}
use Rattle.dscript_types_scenes.specs.Functions.{captured_seen}
use Rattle.dscript_types_scenes.proofs.locals.with_captured.Goals as goal

pub returns-in-None : goal.returns-in-None
returns-in-None c = λ other.
    ap (λ o. captured_seen o (locals_at c.args.locals) c.args.number other)
    (ap (λ o. option_map found_local (option_copied o)) (sym c.in-None.is) ∙ c.get.ensures)

pub returns-in_ok-inside-in-Some : goal.returns-in_ok-inside-in-Some
returns-in_ok-inside-in-Some c =
    if_ok _ _ _
    (λ new put. captured_put c.args.scene.now c.args.number c.args.locals new (found_local c.in-Some.local.now) _
    (ap (λ o. option_map found_local (option_copied o)) (sym c.in-Some.is) ∙ c.get.ensures) c.in_ok-inside-in-Some.ensures put)
    c.with.ensures
