use Rattle.std.proofs.Common.{◌≡◌, ◌<◌, ap, get_or, length, nat_lt, true, false, arith, subst, sym, take, ◌∙◌}
use Rattle.std.proofs.lemmas.List.{take_more}
use Rattle.dscript_names_binding.specs.Seen.{HasNumbers}
use Rattle.dscript_names_binding.proofs.Closing.{captured_next, captured_same}
use Rattle.dscript_names_binding.proofs.functions.captured.Goals as goal
use Rattle.dscript_names_binding.proofs.functions.captured.Goals.{then-name-first+in_ok-add_once, else-name-first}

pub names-preserved : goal.names-preserved
names-preserved c =
    let names = c.args.names.now in
    let i = c.names.name-index in
    let name = get_or names i 0 in
    let within : i < length names = omega arith in
    elim c.if-name-first.branch [
      | then-name-first+in_ok-add_once w ↦
          let below : nat_lt name c.args.first ≡ true = grind (arith, w.if-name-first.true) in
          record {
            captured = captured_next (λ n. nat_lt n c.args.first) (take i names) _ name c.names.captured.items _
                (take_more names i 0 within) c.names.invariant.captured below
                (ap (λ v. v.items) w.captured-is ∙ w.in_ok-add_once.ensures.numbers);
            seen = rw (w.captured-is, w.seen-is) w.in_ok-add_once.ensures.seen;
          }
      | else-name-first w ↦
          let above : nat_lt name c.args.first ≡ false = grind (arith, w.if-name-first.false) in
          record {
            captured = captured_same (λ n. nat_lt n c.args.first) (take i names) _ name c.names.captured.items _
                (take_more names i 0 within) c.names.invariant.captured above (ap (λ v. v.items) w.captured-is);
            seen = rw (w.captured-is, w.seen-is) c.names.invariant.seen;
          }
    ]
