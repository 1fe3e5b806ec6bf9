use Rattle.std.proofs.Common.{◌++◌, ◌∙◌, ap}
use Rattle.prints.proofs.Joining.{joined_two}
use Rattle.prints.specs.Processes.{weak_parts}
use Rattle.prints.specs.Weak.{head_text, lists_text}
use Rattle.prints.proofs.DescTexts.{desc_again}
use Rattle.prints.proofs.weak_writing.weak.Goals as goal

pub returns-clause-read : goal.returns-clause-read
returns-clause-read c =
    let parts = weak_parts c.args.desc.now in
    desc_again c.of.result.text.items c.args.desc.now
    (ap (λ v. v.items) c.of.ensures.text
    ∙ joined_two c.in_ok-text.text.items c.append_head.new.text.items c.append_lists.new.text.items (head_text parts) (lists_text parts)
    c.in_ok-append_head.ensures.text c.in_ok-append_lists.ensures.text
    ∙ ap (λ t. t ++ (head_text parts ++ lists_text parts)) c.in_ok-text.ensures.items)
    c.in_ok-append_head.ensures.weak c.in_ok-append_lists.ensures.weak
