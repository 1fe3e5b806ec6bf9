use Rattle.std.proofs.Common.{◌≡◌, ◌++◌, map}
use Rattle.dscript_types_known.specs.Findings.{Nothing}
use Rattle.dscript_types_known.specs.Tables.{if_open}
use Rattle.dscript_types_known.specs.Views.{finding_data}
use Rattle.dscript_types_known.proofs.table.closed_entries.Given as goal

abbrev pub invariant-entries : goal.invariant-entries
invariant-entries l =
    map finding_data l.all.items ++ map (if_open Nothing) (map finding_data l.entry-iterator.rest.items)
    ≡ map (if_open Nothing) (map finding_data l.initial.entry-iterator.rest.items)
