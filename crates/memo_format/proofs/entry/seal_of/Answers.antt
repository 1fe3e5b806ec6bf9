use Rattle.std.proofs.Common.{◌≡◌, ◌-◌, ℕ, length, take, ap, arith, ◌∙◌}
use Rattle.sha2.specs.Sha256.{sha256}
use Rattle.memo_format.specs.Entries.{entry_body}
use Rattle.memo_format.proofs.SealTexts.{sealed_body, sealed_long}
use Rattle.memo_format.proofs.entry.seal_of.Goals as goal

pub slice_bounds-digest_of-count : goal.slice_bounds-digest_of-count
slice_bounds-digest_of-count c =
    omega (arith, sealed_long c.in_ok-text.text.items (entry_body c.args.entry.now) c.in_ok-text.ensures.text, c.len.ensures, c.deref.ensures.len, ap length c.deref.ensures.value)

pub returns : goal.returns
returns c =
    let size : c.len.result ≡ length c.in_ok-text.text.items = omega (arith, c.len.ensures, c.deref.ensures.len, ap length c.deref.ensures.value) in
    c.digest_of.ensures
    ∙ ap sha256 (ap (λ (n : ℕ). take (n - 70) c.deref.result.now) size
    ∙ ap (take (length c.in_ok-text.text.items - 70)) c.deref.ensures.value
    ∙ sealed_body c.in_ok-text.text.items (entry_body c.args.entry.now) c.in_ok-text.ensures.text)
