use Rattle.std.proofs.Common.{sym, ◌∙◌}
use Rattle.dscript_program.specs.declared.target.Target.TheVariants as targets
use Rattle.dscript_names_scopes.specs.Declarations.{sees_of}
use Rattle.dscript_names_scopes.proofs.FirstValues.{no_seen_value, no_value, target_passed, target_put}
use Rattle.dscript_names_scopes.proofs.tables.add_values.Goals.{else-decl-via-then-decl+else-sees, else-decl-via-else-decl}
use Rattle.dscript_names_scopes.proofs.tables.add_values.Goals as goal

pub last-preserved-in_ok-insert : goal.last-preserved-in_ok-insert
last-preserved-in_ok-insert c = λ name.
    target_put (sees_of c.args.viewer) (targets.Declared c.args.number) c.last.left.now c.in-Some.before.now
    c.in-Some.decl.now c.in_ok-share.field-0 name _ _ _ _
    c.in-Some.ensures.cases.0 c.if-decl.true (sym c.sees.ensures ∙ c.if-sees.true) c.in_ok-share.ensures c.in_ok-target.ensures
    (c.in_ok-insert.ensures.updates.0 name) (c.last.invariant name)

pub last-preserved : goal.last-preserved
last-preserved c = λ name.
    target_passed (sees_of c.args.viewer) (targets.Declared c.args.number) c.last.left.now c.in-Some.before.now
    c.in-Some.decl.now name _ _ c.in-Some.ensures.cases.0
    (elim c.else-decl.branch [
      | else-decl-via-then-decl+else-sees w ↦
          no_seen_value (sees_of c.args.viewer) name c.in-Some.decl.now w.if-decl.true (sym w.sees.ensures ∙ w.if-sees.false)
      | else-decl-via-else-decl w ↦ no_value (sees_of c.args.viewer) name c.in-Some.decl.now w.if-decl.false
    ])
    (c.last.invariant name)
