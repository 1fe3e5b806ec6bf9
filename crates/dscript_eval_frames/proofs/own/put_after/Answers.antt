use Rattle.std.proofs.Common.{ap, arith, length, slice_set, ◌∙◌}
use Rattle.dscript_value.specs.Plain.{plain_of}
use Rattle.dscript_eval_frames.specs.Own.{own_values}
use Rattle.dscript_eval_frames.proofs.OwnLocals.{own_pushed}
use Rattle.dscript_eval_frames.proofs.own.put_after.Goals as goal

pub returns-clause-put : goal.returns-clause-put
returns-clause-put c count less =
    own_pushed c.fill.new.own.items c.push.new.self.items c.args.far.now c.args.value count c.in_ok-push.ensures.items
    (omega (arith, less, c.in_ok-fill.ensures.len))
    ∙ ap (λ l. slice_set l (length c.fill.new.own.items) (plain_of c.args.value))
    (c.in_ok-fill.ensures.values count (omega (arith, less)))
    ∙ ap (λ n. slice_set (own_values c.args.own.now.items c.args.far.now count) n (plain_of c.args.value)) c.in_ok-fill.ensures.len
