use Rattle.std.proofs.Common.{◌≡◌, ◌∙◌, IfOk, ap, map, subst}
use Rattle.dscript_types_data.specs.Views.{field_data}
use Rattle.dscript_types_meaning.specs.Objects.{put_fields}
use Rattle.dscript_types_meaning.specs.Types.{TypeData, object_type}
use Rattle.dscript_types_rows.specs.Signatures.{file_fields, further_fields, process_fields}
use Rattle.dscript_types_rows.proofs.Executed.{executed_is, put_three}
use Rattle.dscript_types_rows.proofs.signatures.executed.Goals as goal

pub returns : goal.returns
returns c =
    subst (λ (u : TypeData). IfOk c.object_of.result (λ t. t ≡ u))
    (ap object_type
    (put_three put_fields _ _ _ _ _ _ _ process_fields file_fields further_fields (ap (map field_data) c.new-done.ensures.items)
    c.in_ok-process_fields.ensures
    c.in_ok-put_fields.ensures c.in_ok-file_fields.ensures c.in_ok-put_fields-2.ensures c.in_ok-further_fields.ensures
    c.in_ok-put_fields-3.ensures)
    ∙ executed_is)
    c.object_of.ensures
