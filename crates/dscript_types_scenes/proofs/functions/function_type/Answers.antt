use Rattle.std.proofs.Common.{◌∙◌, ap, refl, sym}
use Rattle.std.specs.Option.{option_copied, option_map}
use Rattle.dscript_program.specs.Views.{around_names, decl_data, function_data, kind_data}
use Rattle.dscript_types_known.specs.Tables.{entry}
use Rattle.dscript_types_known.specs.Views.{finding_data}
use Rattle.dscript_types_meaning.specs.Functions.{all_parameters, answer_of_kind, parameters_fit}
use Rattle.dscript_types_notes.proofs.Going.{if_ok}
use Rattle.dscript_types_notes.proofs.Written.{seen_as}
use Rattle.dscript_types_notes.specs.Means.{raised}
use Rattle.dscript_types_scenes.proofs.Answering.{function_there, got, no_function_there, parameters_as}
use Rattle.dscript_types_scenes.proofs.Asking.{asks, function_missing, no_function, none_there, parameters_nothing, parameters_open, unfit}
use Rattle.dscript_types_scenes.proofs.Naming.{entry_tells}
use Rattle.dscript_types_scenes.proofs.Standing.{around_last, at_decl, at_kind}
use Rattle.dscript_types_scenes.specs.Declarations.{parameters_of}
use Rattle.dscript_types_scenes.specs.Walks.{finding_types}
use Rattle.dscript_types_scenes.proofs.functions.function_type.Goals as goal

pub returns-in_default : goal.returns-in_default
returns-in_default c =
    none_there c.args.world.now c.args.file c.args.decl c.args.given.now (ap (λ o. option_map decl_data (option_copied o)) (sym c.in_default.is) ∙ c.decl.ensures)

pub returns-in-Const : goal.returns-in-Const
returns-in-Const c = no_function c.args.world.now c.args.file c.args.decl c.args.given.now (decl_data c.in-Some.declaration.now) (ap (λ o. option_map decl_data (option_copied o)) (sym c.in-Some.is) ∙ c.decl.ensures) (λ known. ap (answer_of_kind _ known c.args.file c.args.decl (decl_data c.in-Some.declaration.now) c.args.given.now) (ap kind_data c.in-Const.is))

pub returns-in-Interface : goal.returns-in-Interface
returns-in-Interface c = no_function c.args.world.now c.args.file c.args.decl c.args.given.now (decl_data c.in-Some.declaration.now) (ap (λ o. option_map decl_data (option_copied o)) (sym c.in-Some.is) ∙ c.decl.ensures) (λ known. ap (answer_of_kind _ known c.args.file c.args.decl (decl_data c.in-Some.declaration.now) c.args.given.now) (ap kind_data c.in-Interface.is))

pub returns-in-TypeAlias : goal.returns-in-TypeAlias
returns-in-TypeAlias c = no_function c.args.world.now c.args.file c.args.decl c.args.given.now (decl_data c.in-Some.declaration.now) (ap (λ o. option_map decl_data (option_copied o)) (sym c.in-Some.is) ∙ c.decl.ensures) (λ known. ap (answer_of_kind _ known c.args.file c.args.decl (decl_data c.in-Some.declaration.now) c.args.given.now) (ap kind_data c.in-TypeAlias.is))

pub returns-in_default-get : goal.returns-in_default-get
returns-in_default-get c =
    function_missing c.args.world.now c.args.file c.args.decl c.args.given.now (decl_data c.in-Some.declaration.now) (ap (λ o. option_map decl_data (option_copied o)) (sym c.in-Some.is) ∙ c.decl.ensures) _ _ _ (ap kind_data c.in-Function.is) (no_function_there c.args.world.now _ _ _ c.functions.ensures (got _ _ _ _ c.get.ensures.lookup.1 c.get.ensures.lookup.3) c.in_default-get.is)

pub returns-in-Nothing : goal.returns-in-Nothing
returns-in-Nothing c = parameters_nothing c.args.world.now c.args.file c.args.decl c.args.given.now (decl_data c.in-Some.declaration.now) (ap (λ o. option_map decl_data (option_copied o)) (sym c.in-Some.is) ∙ c.decl.ensures) _ _ _ (ap kind_data c.in-Function.is) (function_data c.in-Some-get.function.now) (function_there c.args.world.now _ _ _ c.functions.ensures (got _ _ _ _ c.get.ensures.lookup.1 c.get.ensures.lookup.3) _ c.in-Some-get.is) _ (at_kind _ c.args.file (decl_data c.in-Some.declaration.now) _ (ap kind_data c.in-Function.is) (at_decl c.args.world.now _ c.args.file (decl_data c.in-Some.declaration.now) (around_names c.in-Some.declaration.now.around) (around_last _ _) (record { file = refl; around = c.as_slice.ensures.value ∙ c.in_ok-around.ensures; parameters = c.as_slice-2.ensures.value ∙ sym (ap parameters_of (ap kind_data c.in-Function.is)) }))) (seen_as c.args.world.now _ finding_types (λ p known d. all_parameters p known d (function_data c.in-Some-get.function.now).params) _ _ c.in-Nothing.is (parameters_as c.args.world.now _ _ _ _ c.as_slice-3.ensures.value c.in_ok-types.ensures))

pub returns-in-Open : goal.returns-in-Open
returns-in-Open c = parameters_open c.args.world.now c.args.file c.args.decl c.args.given.now (decl_data c.in-Some.declaration.now) (ap (λ o. option_map decl_data (option_copied o)) (sym c.in-Some.is) ∙ c.decl.ensures) _ _ _ (ap kind_data c.in-Function.is) (function_data c.in-Some-get.function.now) (function_there c.args.world.now _ _ _ c.functions.ensures (got _ _ _ _ c.get.ensures.lookup.1 c.get.ensures.lookup.3) _ c.in-Some-get.is) _ (at_kind _ c.args.file (decl_data c.in-Some.declaration.now) _ (ap kind_data c.in-Function.is) (at_decl c.args.world.now _ c.args.file (decl_data c.in-Some.declaration.now) (around_names c.in-Some.declaration.now.around) (around_last _ _) (record { file = refl; around = c.as_slice.ensures.value ∙ c.in_ok-around.ensures; parameters = c.as_slice-2.ensures.value ∙ sym (ap parameters_of (ap kind_data c.in-Function.is)) }))) (seen_as c.args.world.now _ finding_types (λ p known d. all_parameters p known d (function_data c.in-Some-get.function.now).params) _ _ c.in-Open.is (parameters_as c.args.world.now _ _ _ _ c.as_slice-3.ensures.value c.in_ok-types.ensures))

pub returns-then-not-fit : goal.returns-then-not-fit
returns-then-not-fit c =
    unfit c.args.world.now c.args.file c.args.decl c.args.given.now (decl_data c.in-Some.declaration.now) (ap (λ o. option_map decl_data (option_copied o)) (sym c.in-Some.is) ∙ c.decl.ensures) _ _ _ (ap kind_data c.in-Function.is) (function_data c.in-Some-get.function.now) (function_there c.args.world.now _ _ _ c.functions.ensures (got _ _ _ _ c.get.ensures.lookup.1 c.get.ensures.lookup.3) _ c.in-Some-get.is) _ (at_kind _ c.args.file (decl_data c.in-Some.declaration.now) _ (ap kind_data c.in-Function.is) (at_decl c.args.world.now _ c.args.file (decl_data c.in-Some.declaration.now) (around_names c.in-Some.declaration.now.around) (around_last _ _) (record { file = refl; around = c.as_slice.ensures.value ∙ c.in_ok-around.ensures; parameters = c.as_slice-2.ensures.value ∙ sym (ap parameters_of (ap kind_data c.in-Function.is)) }))) c.in-Found.types.items c.in-Found.rank (seen_as c.args.world.now _ finding_types (λ p known d. all_parameters p known d (function_data c.in-Some-get.function.now).params) _ _ c.in-Found.is (parameters_as c.args.world.now _ _ _ _ c.as_slice-3.ensures.value c.in_ok-types.ensures))
    (sym (ap (λ ts. parameters_fit ts c.args.given.now) c.as_slice-4.ensures.value) ∙ sym c.in_ok-fit.ensures ∙ c.if-not-fit.true)

pub returns : goal.returns
returns c =
    if_ok _ _ _
    (λ f is. asks c.args.world.now c.args.file c.args.decl c.args.given.now (decl_data c.in-Some.declaration.now) (ap (λ o. option_map decl_data (option_copied o)) (sym c.in-Some.is) ∙ c.decl.ensures) _ _ _ (ap kind_data c.in-Function.is) (function_data c.in-Some-get.function.now) (function_there c.args.world.now _ _ _ c.functions.ensures (got _ _ _ _ c.get.ensures.lookup.1 c.get.ensures.lookup.3) _ c.in-Some-get.is) _ (at_kind _ c.args.file (decl_data c.in-Some.declaration.now) _ (ap kind_data c.in-Function.is) (at_decl c.args.world.now _ c.args.file (decl_data c.in-Some.declaration.now) (around_names c.in-Some.declaration.now.around) (around_last _ _) (record { file = refl; around = c.as_slice.ensures.value ∙ c.in_ok-around.ensures; parameters = c.as_slice-2.ensures.value ∙ sym (ap parameters_of (ap kind_data c.in-Function.is)) }))) c.in-Found.types.items c.in-Found.rank (seen_as c.args.world.now _ finding_types (λ p known d. all_parameters p known d (function_data c.in-Some-get.function.now).params) _ _ c.in-Found.is (parameters_as c.args.world.now _ _ _ _ c.as_slice-3.ensures.value c.in_ok-types.ensures)) (entry c.args.world.now.table.now c.args.file c.args.decl) (finding_data f)
    (sym (ap (λ ts. parameters_fit ts c.args.given.now) c.as_slice-4.ensures.value) ∙ sym c.in_ok-fit.ensures ∙ c.if-not-fit.false)
    (entry_tells c.args.world.now c.args.file c.args.decl (decl_data c.in-Some.declaration.now) c.requires (sym (ap (λ o. option_map decl_data (option_copied o)) (sym c.in-Some.is) ∙ c.decl.ensures)))
    (is ∙ ap (raised c.in-Found.rank) c.in_ok-get.ensures))
    c.raised.ensures
