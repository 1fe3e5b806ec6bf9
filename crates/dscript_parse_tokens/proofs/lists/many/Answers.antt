use Rattle.std.proofs.Common.{sym, ◌∙◌, arith}
use Rattle.std.proofs.lemmas.Result.{err_from_is_err_and}
use Rattle.dscript_parse_tokens.proofs.Loops.{many_init, many_next, many_done, many_none}
use Rattle.dscript_parse_tokens.proofs.Refusals.{fails_from}
use Rattle.dscript_parse_tokens.proofs.lists.many.Goals as goal

pub values-init : goal.values-init
values-init g c reader test each tests = record { so_far = many_init g.T.Syntax.tree reader test c.new-values.ensures.items; within = omega arith }

pub returns-in_err-item : goal.returns-in_err-item
returns-in_err-item g c reader test each tests =
    let p = err_from_is_err_and c.from_residual.result c.from_residual.ensures.1 in
    rw (p.1, p.2)
    (fails_from c.in_err-item.field-0.0 _ _ (each _ _ c.in_err-item.ensures)
    (λ none. many_none g.T.Syntax.tree reader test (c.values.invariant reader test each tests).so_far (sym (tests _ _ c.goes_on.ensures) ∙ c.values-test.true) none))

pub values-preserved : goal.values-preserved
values-preserved g c reader test each tests =
    let one = each _ _ c.in_ok-item.ensures in
    record {
      so_far = rw c.higher-height.ensures
          (many_next g.T.Syntax.tree reader test c.in_ok-item.item.value c.in_ok-push.ensures.items (c.values.invariant reader test each tests).so_far
          (sym (tests _ _ c.goes_on.ensures) ∙ c.values-test.true) one.is one.shorter);
      within = omega (arith, c.higher-height.ensures, (c.values.invariant reader test each tests).within, one.within);
    }

pub returns : goal.returns
returns g c reader test each tests =
    let so_far = (c.values.invariant reader test each tests).so_far in
    record {
      is = many_done g.T.Syntax.tree reader test so_far (sym (tests _ _ c.goes_on.ensures) ∙ c.values-test.false);
      within = (c.values.invariant reader test each tests).within;
      shorter = omega (arith, so_far.count);
    }
