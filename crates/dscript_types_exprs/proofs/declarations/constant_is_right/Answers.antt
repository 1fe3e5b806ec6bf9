use Rattle.std.proofs.Common.{refl}
use Rattle.std.specs.Option.{option_copied}
use Rattle.dscript_program.specs.Views.{expr_data}
use Rattle.dscript_types_meaning.specs.Bodies.{Declared}
use Rattle.dscript_types_scenes.specs.Statements.{note_of}
use Rattle.dscript_types_exprs.proofs.Declared.{outermost_right}
use Rattle.dscript_types_exprs.proofs.Inferred.{walks_from_nothing}
use Rattle.dscript_types_exprs.specs.Statements.{use_of}
use Rattle.dscript_types_exprs.proofs.declarations.constant_is_right.Goals as goal

pub returns : goal.returns
returns c =
    outermost_right c.args.world.now c.args.place _ refl c.new.ensures _ (λ p known d. use_of d (Declared (note_of (option_copied c.args.note))) (expr_data c.args.value.now))
    (λ n more d below within m closed.
    (walks_from_nothing c.args.world.now _ _ _ (λ p known d. use_of d (Declared (note_of (option_copied c.args.note))) (expr_data c.args.value.now)) c.new-walk.ensures.returns c.new-walk.ensures.right
    c.in_ok-declared.ensures.uses n more d below within m).right closed)
