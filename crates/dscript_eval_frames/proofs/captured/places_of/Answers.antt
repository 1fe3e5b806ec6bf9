use Rattle.std.proofs.Common.{◌≡◌, ◌+◌, ◌-◌, ◌<◌, arith, drop, length, subst, ℕ}
use Rattle.dscript_eval_frames.specs.Placed.{KeepPlaces}
use Rattle.dscript_eval_frames.proofs.Placings.{one_more}
use Rattle.dscript_eval_frames.proofs.captured.places_of.Goals as goal

pub locals-preserved : goal.locals-preserved
locals-preserved c =
    let last = c.locals.place - 1 in
    let less : last < length c.args.locals.now = omega (arith, c.locals-test.true, c.locals.invariant.within) in
    let same : c.locals.place ≡ last + 1 = omega (arith, c.locals-test.true) in
    record {
      within = omega (arith, c.locals.invariant.within);
      kept = one_more c.locals.places c.insert.new.self c.args.locals.now last less c.in_ok-insert.ensures.updates.0
          (subst (λ (n : ℕ). KeepPlaces c.locals.places n (drop n c.args.locals.now)) same c.locals.invariant.kept);
    }
