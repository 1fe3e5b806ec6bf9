use Rattle.std.proofs.Common.{◌≡◌, ◌∙◌, ap, arith, drop, sym, None}
use Rattle.observed.specs.Texts.{after_prefix}
use Rattle.std.specs.Option.{option_copied}
use Rattle.tool_run.proofs.Splitting.{onward, take_rest}
use Rattle.tool_run.proofs.values.split.Goals as goal

pub places-preserved : goal.places-preserved
places-preserved c =
    let none : after_prefix c.args.by.now (drop c.places.at c.args.text.now) ≡ None =
    ap (after_prefix c.args.by.now) (sym (take_rest c.args.text.now c.places.at)) ∙ sym c.after_prefix.ensures ∙ ap option_copied c.in_default.is in
    let next = onward c.args.by.now c.args.text.now c.places.at _ _ (omega arith) none c.places.invariant.before c.places.invariant.after in
    record { within = omega arith; before = next.before; after = next.after }
