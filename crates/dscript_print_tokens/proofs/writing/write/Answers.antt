use Rattle.std.proofs.Common.{◌≡◌, ◌+◌, ◌++◌, drop, ap, ◌∙◌}
use Rattle.dscript_print_tokens.specs.Sides.{side_of, run_together}
use Rattle.dscript_print_tokens.specs.Spellings.{spelling}
use Rattle.dscript_print_tokens.specs.Layout.{blanks, written}
use Rattle.dscript_print_tokens.proofs.Laying.{write_more, write_end}
use Rattle.dscript_print_tokens.proofs.writing.write.Goals as goal

pub tokens-preserved : goal.tokens-preserved
tokens-preserved c =
    let item = c.token-item.result in
    let side : c.side_of-side.result ≡ side_of item.kind = c.side_of-side.ensures in
    let together : c.run_together.result ≡ run_together c.tokens.before (side_of item.kind) = c.run_together.ensures ∙ ap (run_together c.tokens.before) side in
    let text = c.in_ok-push_spelling.ensures ∙ ap (λ t. t ++ spelling item.kind) (c.in_ok-push_gap.ensures ∙ ap (λ b. c.tokens.text.items ++ blanks item.gap b) together) in
    (λ i. text i ++ written (side i) (drop (c.tokens.token-index + 1) c.args.laid.now))
    ∙ write_more c.args.laid.now c.tokens.token-index item c.tokens-test.true c.token-item.is c.tokens.before c.tokens.text.items _ c.tokens.invariant

pub returns : goal.returns
returns c = c.in_ok-push.ensures.items ∙ write_end c.args.laid.now c.tokens.token-index c.tokens-test.false c.tokens.before c.tokens.text.items _ c.tokens.invariant
