use Rattle.std.proofs.Common.{refl, sym, ap, ◌∙◌, subst}
use Rattle.hex.specs.Hex.{encode_lower}
use Rattle.bx_digest.specs.Digests.{IsHexText}
use Rattle.bx_digest.proofs.HexTexts.{decoded, hex_text_of_digest, left_is_digest}
use Rattle.bx_digest.proofs.digest.Digest.from_hex.Goals as goal

pub returns-then-is_err-clause-digits : goal.returns-then-is_err-clause-digits
returns-then-is_err-clause-digits c = (
  λ e. cc,
  λ h. let d = decoded c.args.text.now h in let v = rw d.1 at c.decode_to_slice.ensures.value in cc (v.0, c.is_err.ensures.value, c.if-is_err.true),
)

pub returns-then-not-has_text-clause-digits : goal.returns-then-not-has_text-clause-digits
returns-then-not-has_text-clause-digits c = (
  λ e. cc,
  λ h.
      let d = decoded c.args.text.now h in
      let v = rw d.1 at c.decode_to_slice.ensures.value in
      sym c.if-not-has_text.true ∙ c.has_text.ensures.1 (ap encode_lower v.1 ∙ d.0.text_is),
)

pub invariant_of-result : goal.invariant_of-result
invariant_of-result c = (left_is_digest c.args.text.now c.decode_to_slice.new.out c.decode_to_slice.result c.decode_to_slice.ensures.value (sym c.is_err.ensures.value ∙ c.if-is_err.false)).bytes

pub returns-clause-digits : goal.returns-clause-digits
returns-clause-digits c = (
  λ e.
      subst IsHexText (c.has_text.ensures.0 c.if-not-has_text.false)
      (hex_text_of_digest _ (left_is_digest c.args.text.now c.decode_to_slice.new.out c.decode_to_slice.result c.decode_to_slice.ensures.value (sym c.is_err.ensures.value ∙ c.if-is_err.false))),
  λ h. refl,
)
