use Rattle.std.proofs.Common.{◌≡◌, ◌++◌}
use Rattle.dscript_types_known.specs.Tables.{closed}
use Rattle.dscript_types_known.specs.Views.{table_data}
use Rattle.dscript_types_known.proofs.table.Table.close.Given as goal

abbrev pub invariant-closed : goal.invariant-closed
invariant-closed l =
    table_data l.files.items ++ closed (table_data l.entries-iterator.rest.items)
    ≡ closed (table_data l.initial.entries-iterator.rest.items)
