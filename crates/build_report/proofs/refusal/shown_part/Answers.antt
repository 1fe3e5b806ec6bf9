use Rattle.std.proofs.Common.{sym, arith, length-take}
use Rattle.std.proofs.lemmas.List.{take_all}
use Rattle.build_report.specs.declared.refusal.TheConstants.{MAX_SHOWN_BYTES}
use Rattle.build_report.proofs.refusal.shown_part.Goals as goal

pub returns-then-message-le-MAX_SHOWN_BYTES : goal.returns-then-message-le-MAX_SHOWN_BYTES
returns-then-message-le-MAX_SHOWN_BYTES c = sym (take_all MAX_SHOWN_BYTES c.args.message.now c.if-message-le-MAX_SHOWN_BYTES.true)

pub slice_bounds-result-end : goal.slice_bounds-result-end
slice_bounds-result-end c = omega (arith, length-take MAX_SHOWN_BYTES c.args.message.now)
