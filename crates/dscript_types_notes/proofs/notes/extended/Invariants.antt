use Rattle.dscript_types_data.specs.Views.{fields_now}
use Rattle.dscript_types_notes.proofs.Meant.{ExtendedGoes}
use Rattle.dscript_types_notes.proofs.notes.extended.Given as goal

abbrev pub invariant-nodes : goal.invariant-nodes
invariant-nodes l = ExtendedGoes l.world l.place l.nodes l.node-index l.rank (fields_now l.done)
