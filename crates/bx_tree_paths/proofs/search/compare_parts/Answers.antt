use Rattle.std.proofs.Common.{◌<◌, ◌++◌, length, ap, sym, ◌∙◌, arith}
use Rattle.std.specs.Cmp.Lexicographic.{slice_cmp}
use Rattle.std.specs.Ordering.{nat_cmp, ordering_then}
use Rattle.bx_tree_paths.proofs.Comparing.{cut_at, cut_before, cut_none}
use Rattle.bx_tree_paths.proofs.search.compare_parts.Goals as goal

pub returns-then-is_empty : goal.returns-then-is_empty
returns-then-is_empty c =
    c.cmp.ensures ∙ cut_none c.args.text.now c.args.first.now c.args.second.now (sym c.is_empty.ensures ∙ c.if-is_empty.true)

pub returns-then-text-first : goal.returns-then-text-first
returns-then-text-first c =
    let less : length c.args.text.now < length c.args.first.now = grind arith in
    c.cmp-then-text-first.ensures ∙ cut_before c.args.text.now c.args.first.now c.args.second.now less

pub returns : goal.returns
returns c =
    let head = c.split_at.result.0.now in
    let rest = c.split_at.result.1.now in
    let first = c.args.first.now in
    let second = c.args.second.now in
    c.then.ensures ∙ ap (λ o. ordering_then o c.cmp-3.result) c.cmp-2.ensures
    ∙ ap (λ o. ordering_then (slice_cmp nat_cmp head first) o) c.cmp-3.ensures
    ∙ sym (cut_at head rest first second c.split_at.ensures.front_len)
    ∙ ap (λ t. slice_cmp nat_cmp t (first ++ second)) (sym c.split_at.ensures.by_index.0)
