use Rattle.std.proofs.Common.{refl, ◌∙◌}
use Rattle.dscript_program.specs.Views.{decl_data}
use Rattle.dscript_types.proofs.Judged.{decl_is, decls_end, decls_fail, decls_go}
use Rattle.dscript_types.proofs.verdicts.is_typed.Goals as goal

pub decls-init : goal.decls-init
decls-init c = refl

pub decls-preserved : goal.decls-preserved
decls-preserved c =
    decls_go c.args.world.now c.args.file c.args.decls.now c.decls.decl-index c.decl-item.result c.decls-test.true c.decl-item.is
    (decl_is c.args.world.now c.args.file (decl_data c.decl-item.result) _ _ c.requires.full c.in_ok-right.ensures c.holds_at.ensures
    ∙ c.if-not-holds_at.false)
    c.decls.invariant

pub returns-then-not-holds_at : goal.returns-then-not-holds_at
returns-then-not-holds_at c =
    decls_fail c.args.world.now c.args.file c.args.decls.now c.requires.reach c.requires.there c.decls.decl-index c.decl-item.result
    c.decls-test.true c.decl-item.is
    (decl_is c.args.world.now c.args.file (decl_data c.decl-item.result) _ _ c.requires.full c.in_ok-right.ensures c.holds_at.ensures
    ∙ c.if-not-holds_at.true)
    c.decls.invariant

pub returns : goal.returns
returns c =
    decls_end c.args.world.now c.args.file c.args.decls.now c.requires.reach c.requires.there c.decls.decl-index c.decls-test.false
    c.decls.invariant
