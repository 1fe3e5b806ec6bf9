use Rattle.std.proofs.Common.{◌≡◌, reverse, length}
use Rattle.dscript_names_scopes.specs.Lookup.{beginnings, in_namespaces}
use Rattle.dscript_names_scopes.proofs.lookup.in_namespaces.Given as goal

abbrev pub invariant-outwards : goal.invariant-outwards
invariant-outwards l =
    in_namespaces l.site.number l.site.file.now (reverse (beginnings l.around)) l.written
    ≡ in_namespaces l.site.number l.site.file.now (reverse (beginnings l.site.around.now)) l.written

abbrev pub decreases-outwards : goal.decreases-outwards
decreases-outwards l = length l.around
