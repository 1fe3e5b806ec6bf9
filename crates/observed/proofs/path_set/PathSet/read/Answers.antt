use Rattle.std.proofs.Common.{sym, ◌∙◌}
use Rattle.std.proofs.lemmas.Result.{err_from_is_err_and}
use Rattle.observed.specs.declared.path_set.SetFault.TheVariants.{BadSet}
use Rattle.observed.proofs.ReadTexts.{err_same, no_set, text_sound}
use Rattle.observed.proofs.path_set.PathSet.read.Goals as goal

pub invariant_of-result : goal.invariant_of-result
invariant_of-result c = (text_sound c.args.bytes.now c.in_ok-asks.asks.items c.in_ok-asks.ensures).0.order

pub returns-clause-found : goal.returns-clause-found
returns-clause-found c = text_sound c.args.bytes.now c.in_ok-asks.asks.items c.in_ok-asks.ensures

pub returns-in_err-asks-clause-none : goal.returns-in_err-asks-clause-none
returns-in_err-asks-clause-none c = λ bad set h is.
    let p = err_from_is_err_and c.from_residual.result c.from_residual.ensures.1 in
    no_set c.in_err-asks.field-0.0 c.args.bytes.now c.in_err-asks.ensures (sym p.2 ∙ err_same p.0 BadSet c.from_residual.result p.1 bad) set h is
