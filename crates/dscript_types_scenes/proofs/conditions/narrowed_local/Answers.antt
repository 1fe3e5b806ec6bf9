use Rattle.std.proofs.Common.{ap, refl}
use Rattle.dscript_types_known.specs.Views.{found_local, hold_data}
use Rattle.dscript_types_meaning.specs.Narrowing.{narrow_held}
use Rattle.dscript_types_notes.proofs.Going.{if_ok}
use Rattle.dscript_types_scenes.proofs.Narrowing.{is_narrowed, not_narrowed}
use Rattle.dscript_types_scenes.proofs.conditions.narrowed_local.Goals as goal

pub returns-in_ok-finding-in-Fixed : goal.returns-in_ok-finding-in-Fixed
returns-in_ok-finding-in-Fixed c =
    if_ok _ _ _
    (λ new is. is_narrowed c.args.scene.now new c.args.number (found_local c.args.local.now) c.requires _
    (ap hold_data c.in-Fixed.is) refl c.in_ok-finding-in-Fixed.ensures is)
    c.with.ensures

pub returns-in-Variable : goal.returns-in-Variable
returns-in-Variable c =
    if_ok _ _ _
    (λ new is. not_narrowed c.args.scene.now new c.args.number (found_local c.args.local.now) c.requires
    (λ t d. ap (λ hold. narrow_held c.args.number t hold d) (ap hold_data c.in-Variable.is)) is)
    c.share.ensures

pub returns-in-Captured : goal.returns-in-Captured
returns-in-Captured c =
    if_ok _ _ _
    (λ new is. not_narrowed c.args.scene.now new c.args.number (found_local c.args.local.now) c.requires
    (λ t d. ap (λ hold. narrow_held c.args.number t hold d) (ap hold_data c.in-Captured.is)) is)
    c.share-in-Captured.ensures
