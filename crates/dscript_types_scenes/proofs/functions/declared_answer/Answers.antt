use Rattle.std.proofs.Common.{refl, subst, sym}
use Rattle.dscript_program.specs.declared.target.Target.TheVariants as targets
use Rattle.dscript_types_known.specs.declared.finding.Finding.TheVariants as findings
use Rattle.dscript_types_meaning.specs.Functions as rules
use Rattle.dscript_types_scenes.proofs.Answering.{by_target, finds_as, finds_typed, typed_as}
use Rattle.dscript_types_scenes.specs.Functions.{target_answer}
use Rattle.dscript_types_scenes.specs.Scenes.{TypesAs}
use Rattle.dscript_types_scenes.specs.declared.found.Typing.TheVariants as typings
use Rattle.dscript_types_scenes.proofs.functions.declared_answer.Goals as goal

pub returns-in-Found : goal.returns-in-Found
returns-in-Found c = λ scene.
    by_target c.args.world.now scene c.args.given.now c.args.target _ (typings.Found c.in-Found.t c.from_rank.result) c.in-Declared.is
    (subst
    (λ s. TypesAs typed_as c.args.world.now scene (typings.Found c.in-Found.t s)
    (λ p known d. target_answer p known c.args.given.now (targets.Declared c.in-Declared.file c.in-Declared.decl)))
    (sym c.from_rank.ensures)
    (finds_typed c.args.world.now scene (findings.Found c.in-Found.t c.in-Found.rank) (λ p known. rules.function_type p known c.in-Declared.file c.in-Declared.decl c.args.given.now)
    (finds_as c.args.world.now _ _ refl c.in-Declared.file c.in-Declared.decl _ _ c.in-Found.is c.in_ok-t-in-Declared.ensures)))

pub returns-in-Nothing : goal.returns-in-Nothing
returns-in-Nothing c = λ scene.
    by_target c.args.world.now scene c.args.given.now c.args.target _ typings.Nothing c.in-Declared.is
    (finds_typed c.args.world.now scene findings.Nothing (λ p known. rules.function_type p known c.in-Declared.file c.in-Declared.decl c.args.given.now)
    (finds_as c.args.world.now _ _ refl c.in-Declared.file c.in-Declared.decl _ _ c.in-Nothing.is c.in_ok-t-in-Declared.ensures))

pub returns-in-Open : goal.returns-in-Open
returns-in-Open c = λ scene.
    by_target c.args.world.now scene c.args.given.now c.args.target _ (typings.Open c.in-Open.pending) c.in-Declared.is
    (finds_typed c.args.world.now scene (findings.Open c.in-Open.pending) (λ p known. rules.function_type p known c.in-Declared.file c.in-Declared.decl c.args.given.now)
    (finds_as c.args.world.now _ _ refl c.in-Declared.file c.in-Declared.decl _ _ c.in-Open.is c.in_ok-t-in-Declared.ensures))

pub returns-in-Local : goal.returns-in-Local
returns-in-Local c = λ scene.
    by_target c.args.world.now scene c.args.given.now c.args.target _ typings.Nothing c.in-Local.is (λ n more d below within m. refl)

pub returns-in-Ambient : goal.returns-in-Ambient
returns-in-Ambient c = λ scene.
    by_target c.args.world.now scene c.args.given.now c.args.target _ typings.Nothing c.in-Ambient.is (λ n more d below within m. refl)
