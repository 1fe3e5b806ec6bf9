use Rattle.std.proofs.Common.{◌++◌, ◌∙◌, List, ℕ, ap, append_assoc, flat_map}
use Rattle.bx_engine.specs.Care.{care_line}
use Rattle.bx_engine.proofs.care.check_notes.Goals as goal

pub returns : goal.returns
returns c =
    c.in_ok-extend_from_slice.ensures.items
    ∙ ap (λ (t : List ℕ). t ++ c.as_bytes.result.now) (c.in_ok-add_lines.ensures ∙ ap (λ (t : List ℕ). t ++ flat_map care_line c.as_slice.result.now) c.new-text.ensures.items ∙ ap (flat_map care_line) c.as_slice.ensures.value)
    ∙ ap (λ (t : List ℕ). flat_map care_line c.args.list.now.lines.items ++ t) (c.as_bytes.ensures.value ∙ simp append_assoc c.in_ok-counts.ensures.ok)
