use Rattle.dscript_types_data.specs.Views.{fields_now}
use Rattle.dscript_types_notes.proofs.Meant.{AllGoes, ObjectGoes}
use Rattle.dscript_types_notes.proofs.notes.+meaning.Given as goal

abbrev pub invariant-all_meanings-nodes : goal.invariant-all_meanings-nodes
invariant-all_meanings-nodes l = AllGoes l.world l.place l.nodes l.node-index l.rank l.types.items

abbrev pub invariant-object_meaning-members : goal.invariant-object_meaning-members
invariant-object_meaning-members l =
    ObjectGoes l.world l.place l.fn.rank l.members (fields_now l.fn.done) l.member-index l.rank (fields_now l.done)
