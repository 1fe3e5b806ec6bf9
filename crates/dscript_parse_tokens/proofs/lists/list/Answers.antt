use Rattle.std.proofs.Common.{ap, sym, ◌∙◌, arith}
use Rattle.std.proofs.lemmas.Result.{err_from_is_err_and}
use Rattle.dscript_grammar.specs.Reading.{at_punctuator_bytes, take_punctuator_bytes}
use Rattle.dscript_parse_tokens.specs.Gives.{kinds}
use Rattle.dscript_parse_tokens.proofs.Closing.{closed_gives}
use Rattle.dscript_parse_tokens.proofs.Loops.{list_init, list_next, list_done, list_stopped, list_none, then_none}
use Rattle.dscript_parse_tokens.proofs.Refusals.{fails_from}
use Rattle.dscript_parse_tokens.proofs.lists.list.Goals as goal

pub values-init : goal.values-init
values-init g c reader closer each e =
    record { so_far = list_init g.T.Syntax.tree reader closer c.new-values.ensures.items; within = omega arith }

pub returns-in_err-item : goal.returns-in_err-item
returns-in_err-item g c reader closer each e =
    let p = err_from_is_err_and c.from_residual.result c.from_residual.ensures.1 in
    let not_closed = ap (λ s. at_punctuator_bytes s (kinds c.values.rest.now)) (sym e) ∙ sym c.at_punctuator.ensures ∙ c.values-test.true in
    rw (p.1, p.2)
    (fails_from c.in_err-item.field-0.0 _ _ (each _ _ c.in_err-item.ensures)
    (λ none. then_none _ (list_none g.T.Syntax.tree reader closer (c.values.invariant reader closer each e).so_far not_closed none)))

pub values-preserved : goal.values-preserved
values-preserved g c reader closer each e =
    let not_closed = ap (λ s. at_punctuator_bytes s (kinds c.values.rest.now)) (sym e) ∙ sym c.at_punctuator.ensures ∙ c.values-test.true in
    let one = each _ _ c.in_ok-item.ensures in
    record {
      so_far = rw c.higher-height.ensures
          (list_next g.T.Syntax.tree reader closer c.in_ok-item.item.value c.in_ok-push.ensures.items (c.values.invariant reader closer each e).so_far not_closed
          one.is c.in-Some.ensures.0 one.shorter c.in-Some.ensures.1);
      within = omega (arith, c.higher-height.ensures, (c.values.invariant reader closer each e).within, one.within);
    }

pub returns-in-None : goal.returns-in-None
returns-in-None g c reader closer each e =
    let not_closed = ap (λ s. at_punctuator_bytes s (kinds c.values.rest.now)) (sym e) ∙ sym c.at_punctuator.ensures ∙ c.values-test.true in
    let one = each _ _ c.in_ok-item.ensures in
    let so_far = (c.values.invariant reader closer each e).so_far in
    closed_gives g.T.Syntax.tree closer _ c.closed.result
    (rw c.higher-height.ensures (list_stopped g.T.Syntax.tree reader closer c.in_ok-item.item.value c.in_ok-push.ensures.items so_far not_closed one.is c.in-None.ensures))
    e (omega (arith, c.higher-height.ensures, (c.values.invariant reader closer each e).within, one.within)) (omega (arith, one.shorter, so_far.count)) c.closed.ensures

pub returns : goal.returns
returns g c reader closer each e =
    let is_closed = ap (λ s. at_punctuator_bytes s (kinds c.values.rest.now)) (sym e) ∙ sym c.at_punctuator.ensures ∙ c.values-test.false in
    let so_far = (c.values.invariant reader closer each e).so_far in
    closed_gives g.T.Syntax.tree closer _ c.closed-2.result (list_done g.T.Syntax.tree reader closer so_far is_closed)
    e (c.values.invariant reader closer each e).within (omega (arith, so_far.count)) c.closed-2.ensures
