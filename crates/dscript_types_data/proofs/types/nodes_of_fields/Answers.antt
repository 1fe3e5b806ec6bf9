use Rattle.dscript_types_data.proofs.Counting.{fields_counted}
use Rattle.dscript_types_data.proofs.types.nodes_of_fields.Goals as goal

pub returns : goal.returns
returns c =
    fields_counted c.args.fields.now c.fields.field-index c.fields.nodes c.fields-test.false c.fields.invariant.0 c.fields.invariant.1
