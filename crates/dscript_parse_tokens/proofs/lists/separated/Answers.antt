use Rattle.std.proofs.Common.{ap, sym, ◌∙◌, arith}
use Rattle.std.proofs.lemmas.Result.{err_from_is_err_and}
use Rattle.dscript_grammar.specs.Reading.{take_punctuator_bytes}
use Rattle.dscript_parse_tokens.specs.Gives.{kinds}
use Rattle.dscript_parse_tokens.proofs.Loops.{separated_init, separated_next, separated_done, separated_none}
use Rattle.dscript_parse_tokens.proofs.Refusals.{fails_from}
use Rattle.dscript_parse_tokens.proofs.lists.separated.Goals as goal

pub values-init : goal.values-init
values-init g c reader between each e =
    record { so_far = separated_init g.T.Syntax.tree reader between c.new-values.ensures.items; within = omega arith }

pub returns-in_err-item : goal.returns-in_err-item
returns-in_err-item g c reader between each e =
    let p = err_from_is_err_and c.from_residual.result c.from_residual.ensures.1 in
    rw (p.1, p.2)
    (fails_from c.in_err-item.field-0.0 _ _ (each _ _ c.in_err-item.ensures)
    (λ none. separated_none g.T.Syntax.tree reader between (c.values.invariant reader between each e).so_far none))

pub values-preserved : goal.values-preserved
values-preserved g c reader between each e =
    let one = each _ _ c.in_ok-item.ensures in
    record {
      so_far = rw c.higher-height.ensures
          (separated_next g.T.Syntax.tree reader between c.in_ok-item.item.value c.in_ok-push.ensures.items (c.values.invariant reader between each e).so_far
          one.is (ap (λ s. take_punctuator_bytes s (kinds c.in_ok-item.item.rest.now)) (sym e) ∙ c.in-Some.ensures.0) one.shorter c.in-Some.ensures.1);
      within = omega (arith, c.higher-height.ensures, (c.values.invariant reader between each e).within, one.within);
    }

pub returns-in-None : goal.returns-in-None
returns-in-None g c reader between each e =
    let one = each _ _ c.in_ok-item.ensures in
    let so_far = (c.values.invariant reader between each e).so_far in
    record {
      is = rw c.higher-height.ensures
          (separated_done g.T.Syntax.tree reader between c.in_ok-item.item.value c.in_ok-push.ensures.items so_far one.is
          (ap (λ s. take_punctuator_bytes s (kinds c.in_ok-item.item.rest.now)) (sym e) ∙ c.in-None.ensures));
      within = omega (arith, c.higher-height.ensures, (c.values.invariant reader between each e).within, one.within);
      shorter = omega (arith, one.shorter, so_far.count);
    }
