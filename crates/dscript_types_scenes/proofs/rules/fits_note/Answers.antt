use Rattle.std.proofs.Common.{Option, ap, subst, sym}
use Rattle.std.specs.Option.{option_copied}
use Rattle.dscript_ast.specs.TypeTree.{TypeTree}
use Rattle.dscript_types_meaning.specs.Bodies.{fits_note}
use Rattle.dscript_types_notes.proofs.Going.{if_ok}
use Rattle.dscript_types_scenes.proofs.Ruling.{no_note_meets, rules_found, rules_nothing, rules_open}
use Rattle.dscript_types_scenes.specs.Statements.{MeetsAs, note_of}
use Rattle.dscript_types_scenes.specs.declared.walk.Rule.TheVariants as rules
use Rattle.dscript_types_scenes.proofs.rules.fits_note.Goals as goal

pub returns-in-Some : goal.returns-in-Some
returns-in-Some c =
    if_ok _ _ _
    (λ rule meets. rules_found c.args.world.now c.args.scene.now (λ p known d t. fits_note p known d t (note_of (option_copied c.args.note))) c.in-Found.t _ c.args.found.now rule c.in-Found.is
    (subst
    (λ (o : Option TypeTree). MeetsAs c.args.world.now c.args.scene.now rule (λ p known d. fits_note p known d c.in-Found.t o))
    (sym (ap (λ o. note_of (option_copied o)) c.in-Some.is)) meets))
    c.note_rule.ensures

pub returns-in-None : goal.returns-in-None
returns-in-None c =
    rules_found c.args.world.now c.args.scene.now (λ p known d t. fits_note p known d t (note_of (option_copied c.args.note))) c.in-Found.t _ c.args.found.now (rules.Met 0) c.in-Found.is
    (subst
    (λ (o : Option TypeTree). MeetsAs c.args.world.now c.args.scene.now (rules.Met 0) (λ p known d. fits_note p known d c.in-Found.t o))
    (sym (ap (λ o. note_of (option_copied o)) c.in-None.is))
    (no_note_meets c.args.world.now c.args.scene.now c.in-Found.t))

pub returns-in-Nothing : goal.returns-in-Nothing
returns-in-Nothing c = rules_nothing c.args.world.now c.args.scene.now (λ p known d t. fits_note p known d t (note_of (option_copied c.args.note))) c.args.found.now (rules.Met 0) c.in-Nothing.is

pub returns-in-Open : goal.returns-in-Open
returns-in-Open c = rules_open c.args.world.now c.args.scene.now (λ p known d t. fits_note p known d t (note_of (option_copied c.args.note))) c.args.found.now (rules.Met 0) _ c.in-Open.is
