use Rattle.std.proofs.Common.{◌≡◌, ◌∙◌, true, false, not, sym, ap, arith}
use Rattle.std.proofs.lemmas.Slice.Eq.{bytes_eq-Decides}
use Rattle.memo_format.proofs.SealTexts.{other_seal, too_short}
use Rattle.memo_format.proofs.sealing.unseal.Goals as goal

pub returns-then-text-lt-SEAL_BYTES : goal.returns-then-text-lt-SEAL_BYTES
returns-then-text-lt-SEAL_BYTES c = too_short c.args.text.now (omega (arith, c.if-text-lt-SEAL_BYTES.true))

pub returns-then-ne : goal.returns-then-ne
returns-then-ne c =
    other_seal c.args.text.now c.split_at.result.0.now c.split_at.result.1.now c.split_at.ensures.front c.split_at.ensures.back
    (λ same.
    let equal = (bytes_eq-Decides c.split_at.result.1.now c.as_slice.result.now).1 (same ∙ sym c.in_ok-seal_line.ensures ∙ sym c.as_slice.ensures.value) in
    let clash : true ≡ false = sym c.if-ne.true ∙ c.ne.ensures ∙ ap not equal in
    cc)
