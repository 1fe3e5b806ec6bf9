use Rattle.std.proofs.Common.{sym, ◌∙◌}
use Rattle.dscript_types_data.proofs.Rows.{fields_again}
use Rattle.dscript_types_data.proofs.objects.fields_of.Goals as goal

pub returns-in-Objects : goal.returns-in-Objects
returns-in-Objects c = rw c.in-Objects.is (c.items.ensures ∙ sym (fields_again _))
