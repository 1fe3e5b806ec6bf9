use Rattle.std.proofs.Common.{◌≡◌, length}
use Rattle.dscript_types_notes.specs.Found.{found_in}
use Rattle.dscript_types_notes.specs.declared.spaces.Space.TheVariants as spaces
use Rattle.dscript_types_notes.proofs.Shorter.{out_from}
use Rattle.dscript_types_notes.proofs.spaces.in_namespaces.Given as goal

abbrev pub invariant-outwards : goal.invariant-outwards
invariant-outwards l =
    out_from (found_in l.names (spaces.File l.file)) l.written l.around
    ≡ out_from (found_in l.names (spaces.File l.file)) l.written l.fn.before

abbrev pub decreases-outwards : goal.decreases-outwards
decreases-outwards l = length l.around
