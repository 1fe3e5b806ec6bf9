use Rattle.std.proofs.Common.{◌∙◌, ap, subst, sym}
use Rattle.std.specs.Option.{option_copied, option_map}
use Rattle.dscript_program.specs.Views.{decl_data, kind_data}
use Rattle.dscript_program.specs.declared.target.Target.TheVariants as targets
use Rattle.dscript_types_meaning.specs.Expressions as rules
use Rattle.dscript_types_meaning.specs.Expressions.{named_kind}
use Rattle.dscript_types_scenes.proofs.Naming.{constant_declared, function_declared, none_declared, type_declared}
use Rattle.dscript_types_scenes.specs.Scenes.{TypesAs}
use Rattle.dscript_types_scenes.specs.Typings.{subject_data}
use Rattle.dscript_types_scenes.specs.declared.found.Subject.TheVariants as subjects
use Rattle.dscript_types_scenes.specs.declared.found.Typing.TheVariants as typings
use Rattle.dscript_types_scenes.proofs.names.declared.Goals as goal

pub returns-in_default : goal.returns-in_default
returns-in_default c = λ scene.
    none_declared c.args.world.now c.args.file c.args.decl scene
    (ap (λ o. option_map decl_data (option_copied o)) (sym c.in_default.is) ∙ c.decl.ensures)

pub returns-in_ok-get-in-Const : goal.returns-in_ok-get-in-Const
returns-in_ok-get-in-Const c = λ scene.
    subst
    (λ found. TypesAs subject_data c.args.world.now scene found (λ p known d. rules.named p known d (targets.Declared c.args.file c.args.decl)))
    (sym c.as_subject.ensures)
    (constant_declared c.args.world.now c.args.file c.args.decl scene (decl_data c.in-Some.declaration.now)
    (ap (λ o. option_map decl_data (option_copied o)) (sym c.in-Some.is) ∙ c.decl.ensures) _ _ _ c.requires
    (ap kind_data c.in-Const.is) c.in_ok-get-in-Const.ensures)

pub returns-in-Function : goal.returns-in-Function
returns-in-Function c = λ scene.
    subst
    (λ s. TypesAs subject_data c.args.world.now scene (typings.Found (subjects.Function c.args.file c.args.decl) s)
    (λ p known d. rules.named p known d (targets.Declared c.args.file c.args.decl)))
    (sym c.from_rank.ensures)
    (function_declared c.args.world.now c.args.file c.args.decl scene (decl_data c.in-Some.declaration.now)
    (ap (λ o. option_map decl_data (option_copied o)) (sym c.in-Some.is) ∙ c.decl.ensures) _ _ _ (ap kind_data c.in-Function.is))

pub returns-in-Interface : goal.returns-in-Interface
returns-in-Interface c = λ scene.
    type_declared c.args.world.now c.args.file c.args.decl scene (decl_data c.in-Some.declaration.now)
    (ap (λ o. option_map decl_data (option_copied o)) (sym c.in-Some.is) ∙ c.decl.ensures)
    (λ known. ap (named_kind known c.args.file c.args.decl) (ap kind_data c.in-Interface.is))

pub returns-in-TypeAlias : goal.returns-in-TypeAlias
returns-in-TypeAlias c = λ scene.
    type_declared c.args.world.now c.args.file c.args.decl scene (decl_data c.in-Some.declaration.now)
    (ap (λ o. option_map decl_data (option_copied o)) (sym c.in-Some.is) ∙ c.decl.ensures)
    (λ known. ap (named_kind known c.args.file c.args.decl) (ap kind_data c.in-TypeAlias.is))
