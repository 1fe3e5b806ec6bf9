use Rattle.std.proofs.Common.{◌≡◌, ◌-◌, List, ap, arith, slice_set, ◌∙◌}
use Rattle.dscript_value.specs.Plain.{Plain, plain_of}
use Rattle.dscript_eval_meaning.specs.States as meaning
use Rattle.dscript_eval_frames.specs.Frames.{frame_of}
use Rattle.dscript_eval_frames.specs.Own.{own_values}
use Rattle.dscript_eval_frames.proofs.OwnLocals.{own_past, own_put}
use Rattle.dscript_eval_frames.proofs.frame.Frame.bind.Goals as goal

pub returns-then-place-len-clause-bound : goal.returns-then-place-len-clause-bound
returns-then-place-len-clause-bound c =
    let f = c.args.self.now in
    let with_own : List Plain → meaning.Frame = λ l. record (frame_of f) { own = l } in
    let place : c.saturating_sub-place.result ≡ c.args.local - f.first = omega (arith, c.saturating_sub-place.ensures) in
    ap with_own
    (own_put f.own.items c.put_at.new.own.items f.far f.count c.saturating_sub-place.result (plain_of c.args.value)
    (omega (arith, c.if-place-len.true, c.len.ensures, f.own.ok.0)) c.put_at.ensures.len c.put_at.ensures.put
    ∙ ap (λ n. slice_set (own_values f.own.items f.far f.count) n (plain_of c.args.value)) place)

pub returns-else-place-self-clause-bound : goal.returns-else-place-self-clause-bound
returns-else-place-self-clause-bound c =
    let f = c.args.self.now in
    let with_own : List Plain → meaning.Frame = λ l. record (frame_of f) { own = l } in
    ap with_own
    (own_past f.own.items f.far f.count (c.args.local - f.first) (plain_of c.args.value)
    (omega (arith, c.if-place-len.false, c.len.ensures, f.own.ok.0, c.saturating_sub-place.ensures))
    (omega (arith, c.if-place-self.false, c.saturating_sub-place.ensures)))
