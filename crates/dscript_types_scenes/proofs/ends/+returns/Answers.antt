use Rattle.std.proofs.Common.{◌∙◌, ap, arith, map, refl, sym}
use Rattle.std.specs.Option.{option_copied}
use Rattle.dscript_program.proofs.NodeViews.{stmt_data-Block, stmt_data-For, stmt_data-If}
use Rattle.dscript_program.specs.BoundTree.{to_stmts}
use Rattle.dscript_program.specs.Views.{stmt_data}
use Rattle.dscript_types_scenes.proofs.Ending.{return_ends, return_goes, return_stops}
use Rattle.dscript_types_scenes.proofs.Weights.{else_weight, stmt_lighter, stmt_weight, stmts_weight}
use Rattle.dscript_types_scenes.specs.Statements.{maybe_of}
use Rattle.dscript_types_scenes.proofs.ends.+returns.Goals as goal

pub returns_nothing-returns_nothing-requires : goal.returns_nothing-returns_nothing-requires
returns_nothing-returns_nothing-requires t c =
    (omega (arith, ap stmt_weight (ap stmt_data c.in-If.is ∙ stmt_data-If _ _ _), ap (λ s. stmt_weight (stmt_data s)) c.deref.ensures, c.decreases), tt)

pub returns_nothing-else_returns_nothing-requires : goal.returns_nothing-else_returns_nothing-requires
returns_nothing-else_returns_nothing-requires t c =
    (omega (arith, ap stmt_weight (ap stmt_data c.in-If.is ∙ stmt_data-If _ _ _), ap else_weight c.other_of.ensures, c.decreases), tt)

pub returns_nothing-some_return_nothing-requires : goal.returns_nothing-some_return_nothing-requires
returns_nothing-some_return_nothing-requires t c = (
  omega (
    arith,
    ap stmt_weight (ap stmt_data c.in-Block.is ∙ stmt_data-Block _),
    ap (λ ss. stmts_weight (to_stmts (map stmt_data ss))) c.as_slice.ensures.value,
    c.decreases,
  ),
  tt,
)

pub returns_nothing-returns_nothing-requires-in-For : goal.returns_nothing-returns_nothing-requires-in-For
returns_nothing-returns_nothing-requires-in-For t c =
    (omega (arith, ap stmt_weight (ap stmt_data c.in-For.is ∙ stmt_data-For _ _ _ _), ap (λ s. stmt_weight (stmt_data s)) c.deref-in-For.ensures, c.decreases), tt)

pub else_returns_nothing-returns_nothing-requires : goal.else_returns_nothing-returns_nothing-requires
else_returns_nothing-returns_nothing-requires t c = (omega (arith, ap (λ other. else_weight (maybe_of (option_copied other))) c.in-Some.is, c.decreases), tt)

pub some_return_nothing-returns_nothing-requires : goal.some_return_nothing-returns_nothing-requires
some_return_nothing-returns_nothing-requires t c =
    (omega (arith, stmt_lighter c.args.stmts.now c.stmts.stmt-index c.stmt-item.result c.stmts-test.true c.stmt-item.is, c.decreases), tt)

pub some_return_nothing-stmts-init : goal.some_return_nothing-stmts-init
some_return_nothing-stmts-init t c = refl

pub some_return_nothing-stmts-preserved : goal.some_return_nothing-stmts-preserved
some_return_nothing-stmts-preserved t c =
    return_goes c.args.stmts.now c.stmts.stmt-index c.stmt-item.result c.stmts-test.true c.stmt-item.is
    (sym c.returns_nothing.ensures ∙ c.if-returns_nothing.false) c.stmts.invariant

pub some_return_nothing-returns-then-returns_nothing : goal.some_return_nothing-returns-then-returns_nothing
some_return_nothing-returns-then-returns_nothing t c =
    return_stops c.args.stmts.now c.stmts.stmt-index c.stmt-item.result c.stmts-test.true c.stmt-item.is
    (sym c.returns_nothing.ensures ∙ c.if-returns_nothing.true) c.stmts.invariant

pub some_return_nothing-returns : goal.some_return_nothing-returns
some_return_nothing-returns t c = return_ends c.args.stmts.now c.stmts.stmt-index c.stmts-test.false c.stmts.invariant
