use Rattle.std.proofs.Common.{◌∙◌, ap, arith, map, refl, sym}
use Rattle.std.specs.Option.{option_copied}
use Rattle.dscript_program.proofs.NodeViews.{stmt_data-Block, stmt_data-If}
use Rattle.dscript_program.specs.BoundTree.{to_stmts}
use Rattle.dscript_program.specs.Views.{stmt_data}
use Rattle.dscript_types_scenes.proofs.Ending.{pass_ends, pass_goes, pass_stops}
use Rattle.dscript_types_scenes.proofs.Weights.{else_weight, stmt_lighter, stmt_weight, stmts_weight}
use Rattle.dscript_types_scenes.specs.Statements.{maybe_of}
use Rattle.dscript_types_scenes.proofs.ends.+ends.Goals as goal

pub passes-passes-requires : goal.passes-passes-requires
passes-passes-requires t c =
    (omega (arith, ap stmt_weight (ap stmt_data c.in-If.is ∙ stmt_data-If _ _ _), ap (λ s. stmt_weight (stmt_data s)) c.deref.ensures, c.decreases), tt)

pub passes-else_passes-requires : goal.passes-else_passes-requires
passes-else_passes-requires t c =
    (omega (arith, ap stmt_weight (ap stmt_data c.in-If.is ∙ stmt_data-If _ _ _), ap else_weight c.other_of.ensures, c.decreases), tt)

pub passes-all_pass-requires : goal.passes-all_pass-requires
passes-all_pass-requires t c = (
  omega (
    arith,
    ap stmt_weight (ap stmt_data c.in-Block.is ∙ stmt_data-Block _),
    ap (λ ss. stmts_weight (to_stmts (map stmt_data ss))) c.as_slice.ensures.value,
    c.decreases,
  ),
  tt,
)

pub else_passes-passes-requires : goal.else_passes-passes-requires
else_passes-passes-requires t c = (omega (arith, ap (λ other. else_weight (maybe_of (option_copied other))) c.in-Some.is, c.decreases), tt)

pub all_pass-passes-requires : goal.all_pass-passes-requires
all_pass-passes-requires t c =
    (omega (arith, stmt_lighter c.args.stmts.now c.stmts.stmt-index c.stmt-item.result c.stmts-test.true c.stmt-item.is, c.decreases), tt)

pub all_pass-stmts-init : goal.all_pass-stmts-init
all_pass-stmts-init t c = refl

pub all_pass-stmts-preserved : goal.all_pass-stmts-preserved
all_pass-stmts-preserved t c =
    pass_goes c.args.stmts.now c.stmts.stmt-index c.stmt-item.result c.stmts-test.true c.stmt-item.is
    (sym c.passes.ensures ∙ c.if-not-passes.false) c.stmts.invariant

pub all_pass-returns-then-not-passes : goal.all_pass-returns-then-not-passes
all_pass-returns-then-not-passes t c =
    pass_stops c.args.stmts.now c.stmts.stmt-index c.stmt-item.result c.stmts-test.true c.stmt-item.is
    (sym c.passes.ensures ∙ c.if-not-passes.true) c.stmts.invariant

pub all_pass-returns : goal.all_pass-returns
all_pass-returns t c = pass_ends c.args.stmts.now c.stmts.stmt-index c.stmts-test.false c.stmts.invariant
