use Rattle.std.proofs.Common.{◌∙◌}
use Rattle.tool_run.proofs.Splitting.{after_short, both_parts}
use Rattle.tool_run.proofs.content.Content.cut.Goals as goal

pub overflow_sub-start : goal.overflow_sub-start
overflow_sub-start c = after_short c.args.by.now c.bytes-bytes.result.now c.split.result.1.now c.split.ensures.after

pub returns : goal.returns
returns c =
    both_parts c.args.by.now c.args.self c.bytes-bytes.result.now c.split.result.0.now c.split.result.1.now _ _
    c.bytes-bytes.ensures c.split.ensures.before c.split.ensures.after (c.of-before.ensures ∙ c.in_ok-from_slice.ensures.items) c.in_ok-without.ensures
