use Rattle.std.proofs.Common.{ap, refl}
use Rattle.std.specs.Option.{option_copied}
use Rattle.dscript_program.specs.Views.{around_names, decl_data, expr_data, function_data, kind_data}
use Rattle.dscript_types_meaning.specs.Bodies.{body_uses, kind_uses}
use Rattle.dscript_types_notes.proofs.Going.{if_ok}
use Rattle.dscript_types_scenes.proofs.Answering.{function_there, got, no_function_there}
use Rattle.dscript_types_scenes.proofs.Standing.{around_last}
use Rattle.dscript_types_scenes.specs.Statements.{note_of}
use Rattle.dscript_types_exprs.proofs.Declared.{constant_kind, constant_right, function_kind, function_missing, function_right, nothing_right, placed_as, walked_right}
use Rattle.dscript_types_exprs.proofs.declarations.is_right.Goals as goal

pub returns-in-Const : goal.returns-in-Const
returns-in-Const c =
    if_ok _ _ _
    (λ right are. constant_right c.args.world.now _ c.args.file (decl_data c.args.decl.now) (around_names c.args.decl.now.around) (around_last _ _) (placed_as _ _ _ _ _ _ c.place_of-place.ensures c.as_slice.ensures.value c.in_ok-around.ensures) right _ (expr_data c.in-Const.value)
    (constant_kind _ _ _ _ (ap kind_data c.in-Const.is) c.note_of.ensures) are)
    c.constant_is_right.ensures

pub returns-in-Some : goal.returns-in-Some
returns-in-Some c =
    function_right c.args.world.now _ c.args.file (decl_data c.args.decl.now) (around_names c.args.decl.now.around) (around_last _ _) (placed_as _ _ _ _ _ _ c.place_of-place.ensures c.as_slice.ensures.value c.in_ok-around.ensures) (record { place = c.place_of-place.result; locals = c.in_ok-locals-in-Some.locals }) refl _ _ _ _ (function_data c.in-Some.function.now) _
    (function_kind _ _ _ _ _ (ap kind_data c.in-Function.is) c.note_of-in-Some.ensures)
    (function_there c.args.world.now _ _ _ c.functions.ensures (got _ _ _ _ c.get.ensures.lookup.1 c.get.ensures.lookup.3) _ c.in-Some.is) refl c.in_ok-locals-in-Some.ensures
    (walked_right c.args.world.now _ _ (λ p known d. body_uses p known (note_of (option_copied c.note_of-in-Some.result)) d (function_data c.in-Some.function.now).body) c.in_ok-walked-in-Some.ensures)

pub returns-in-Function : goal.returns-in-Function
returns-in-Function c =
    function_missing c.args.world.now c.args.file (decl_data c.args.decl.now) _ _ _ (ap kind_data c.in-Function.is)
    (no_function_there c.args.world.now _ _ _ c.functions.ensures (got _ _ _ _ c.get.ensures.lookup.1 c.get.ensures.lookup.3) c.in-None.is)

pub returns-in-Interface : goal.returns-in-Interface
returns-in-Interface c =
    nothing_right c.args.world.now c.args.file (decl_data c.args.decl.now)
    (λ known. ap (kind_uses _ known c.args.file (decl_data c.args.decl.now)) (ap kind_data c.in-Interface.is))

pub returns : goal.returns
returns c =
    nothing_right c.args.world.now c.args.file (decl_data c.args.decl.now)
    (λ known. ap (kind_uses _ known c.args.file (decl_data c.args.decl.now)) (ap kind_data c.in-TypeAlias.is))
