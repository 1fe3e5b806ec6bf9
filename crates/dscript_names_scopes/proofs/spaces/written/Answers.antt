use Rattle.std.proofs.Common.{◌++◌, ap, sym, ◌∙◌}
use Rattle.std.specs.List.{join_with_byte}
use Rattle.dscript_names_scopes.proofs.Joining.{joined_rest, joined-first}
use Rattle.dscript_names_scopes.proofs.spaces.written.Goals as goal

pub parts-init : goal.parts-init
parts-init c =
    ap (λ t. t ++ joined_rest c.in-Some.rest.now)
    (c.in_ok-extend_from_slice.ensures.items ∙ ap (λ t. t ++ c.bytes.result.now) c.in_ok-text.ensures.items
    ∙ c.bytes.ensures)
    ∙ joined-first c.in-Some.first.now c.in-Some.rest.now
    ∙ sym (ap (join_with_byte 46) c.in-Some.ensures.cases.0)
