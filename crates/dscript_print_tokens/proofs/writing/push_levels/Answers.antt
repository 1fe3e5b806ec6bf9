use Rattle.std.proofs.Common.{◌≡◌, ◌+◌, ◌*◌, ◌++◌, replicate, ap, ◌∙◌, arith}
use Rattle.std.proofs.lemmas.List.{append_assoc, replicate-append-replicate}
use Rattle.dscript_print_tokens.proofs.writing.push_levels.Goals as goal

pub levels-preserved : goal.levels-preserved
levels-preserved c =
    let n = c.levels.counter in
    let count : 4 * n + 4 ≡ 4 * (n + 1) = omega arith in
    let more : replicate (4 * n) 0x20 ++ replicate 4 0x20 ≡ replicate (4 * (n + 1)) 0x20 = replicate-append-replicate (4 * n) 4 0x20 ∙ ap (λ k. replicate k 0x20) count in
    c.in_ok-extend_from_slice.ensures.items
    ∙ ap (λ t. t ++ replicate 4 0x20) c.levels.invariant
    ∙ append_assoc c.args.text.now.items (replicate (4 * n) 0x20) (replicate 4 0x20)
    ∙ ap (λ t. c.args.text.now.items ++ t) more
