use Rattle.std.proofs.Common.{◌≡◌, ap, arith, length, option_map, unwrap_or, ◌∙◌}
use Rattle.dscript_value.specs.Plain.{Undefined, plain_of}
use Rattle.dscript_eval_frames.specs.Own.{kept_at}
use Rattle.dscript_eval_frames.proofs.OwnLocals.{own_filled}
use Rattle.dscript_eval_frames.proofs.own.fill_next.Goals as goal

pub returns-clause-values : goal.returns-clause-values
returns-clause-values c count less =
    let next : c.len-next.result ≡ length c.args.own.now.items = omega (arith, c.len-next.ensures, c.args.own.now.ok.0) in
    own_filled c.args.own.now.items c.push.new.self.items c.args.far.now c.in_ok-value.value count c.in_ok-push.ensures.items
    (c.in_ok-value.ensures
    ∙ ap (λ o. unwrap_or (option_map plain_of o) Undefined) c.get.ensures.value
    ∙ ap (kept_at c.args.far.now) next)
    less
