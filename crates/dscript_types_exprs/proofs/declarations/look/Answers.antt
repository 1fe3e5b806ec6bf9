use Rattle.std.proofs.Common.{[], ap}
use Rattle.dscript_program.specs.Views.{around_names, body_data, decl_data, expr_data, function_data, kind_data}
use Rattle.dscript_types_known.specs.Tables.{ask_of}
use Rattle.dscript_types_known.specs.Views.{finding_data}
use Rattle.dscript_types_meaning.specs.Bodies.{answered, type_of_value}
use Rattle.dscript_types_meaning.specs.Typed.{found}
use Rattle.dscript_types_notes.proofs.Going.{if_ok}
use Rattle.dscript_types_scenes.proofs.Answering.{function_there, got, no_function_there}
use Rattle.dscript_types_scenes.proofs.Standing.{around_last}
use Rattle.dscript_types_scenes.specs.Declarations.{parameters_of}
use Rattle.dscript_types_exprs.proofs.Declared.{answer_found, constant_found, looks, no_answer_found, note_says, placed_as, type_found}
use Rattle.dscript_types_exprs.specs.Bodies.{in_function}
use Rattle.dscript_types_exprs.proofs.declarations.look.Goals as goal

pub returns-in-Const : goal.returns-in-Const
returns-in-Const c =
    if_ok _ _ _
    (λ f says. looks c.args.world.now c.args.file (decl_data c.args.decl.now) (finding_data f) (λ number there. constant_found c.args.world.now _ c.args.file number (decl_data c.args.decl.now) there (around_names c.args.decl.now.around) (around_last _ _) (placed_as _ _ _ _ _ _ c.place_of-place.ensures c.as_slice.ensures.value c.in_ok-around.ensures) _ _ (finding_data f) (ap kind_data c.in-Const.is)
    (note_says c.args.world.now _ (finding_data f) (λ note p known d. type_of_value p known (record d { locals = [] }) (expr_data c.in-Const.value) note) _ _
    c.note_of.ensures says)))
    c.constant_type.ensures

pub returns-in-Some : goal.returns-in-Some
returns-in-Some c =
    if_ok _ _ _
    (λ f says. looks c.args.world.now c.args.file (decl_data c.args.decl.now) (finding_data f) (λ number there. answer_found c.args.world.now _ c.args.file number (decl_data c.args.decl.now) there (around_names c.args.decl.now.around) (around_last _ _) (placed_as _ _ _ _ _ _ c.place_of-place.ensures c.as_slice.ensures.value c.in_ok-around.ensures) _ _ _ _ (finding_data f) (ap kind_data c.in-Function.is) (function_there c.args.world.now _ _ _ c.functions.ensures (got _ _ _ _ c.get.ensures.lookup.1 c.get.ensures.lookup.3) _ c.in-Some.is)
    (note_says c.args.world.now _ (finding_data f)
    (λ note p known d. answered p known (in_function p known d (function_data c.in-Some.function.now)) (body_data c.in-Some.function.now.body) note)
    _ _ c.note_of-in-Some.ensures says)))
    c.answer_type.ensures

pub returns-in-Function : goal.returns-in-Function
returns-in-Function c = λ number there. no_answer_found c.args.world.now _ c.args.file number (decl_data c.args.decl.now) there (around_names c.args.decl.now.around) (around_last _ _) (placed_as _ _ _ _ _ _ c.place_of-place.ensures c.as_slice.ensures.value c.in_ok-around.ensures) _ _ _ (ap kind_data c.in-Function.is) (no_function_there c.args.world.now _ _ _ c.functions.ensures (got _ _ _ _ c.get.ensures.lookup.1 c.get.ensures.lookup.3) c.in-None.is)

pub returns-in-Interface : goal.returns-in-Interface
returns-in-Interface c =
    if_ok _ _ _
    (λ f says. looks c.args.world.now c.args.file (decl_data c.args.decl.now) (finding_data f) (λ number there. type_found c.args.world.now _ c.args.file number (decl_data c.args.decl.now) there (around_names c.args.decl.now.around) (around_last _ _) (placed_as _ _ _ _ _ _ c.place_of-place.ensures c.as_slice.ensures.value c.in_ok-around.ensures) (finding_data f)
    (λ p known. ap (λ k. found p known (ask_of c.args.file number k)) (ap kind_data c.in-Interface.is))
    (ap parameters_of (ap kind_data c.in-Interface.is)) says))
    c.declared_type.ensures

pub returns : goal.returns
returns c =
    if_ok _ _ _
    (λ f says. looks c.args.world.now c.args.file (decl_data c.args.decl.now) (finding_data f) (λ number there. type_found c.args.world.now _ c.args.file number (decl_data c.args.decl.now) there (around_names c.args.decl.now.around) (around_last _ _) (placed_as _ _ _ _ _ _ c.place_of-place.ensures c.as_slice.ensures.value c.in_ok-around.ensures) (finding_data f)
    (λ p known. ap (λ k. found p known (ask_of c.args.file number k)) (ap kind_data c.in-TypeAlias.is))
    (ap parameters_of (ap kind_data c.in-TypeAlias.is)) says))
    c.declared_type-in-TypeAlias.ensures
