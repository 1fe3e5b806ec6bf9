use Rattle.std.proofs.Common.{ap, subst, sym, ◌∙◌}
use Rattle.bundle_folder.specs.Folders.{IsFolder, without}
use Rattle.bundle_folder.specs.Stored.{Scripted, stored}
use Rattle.bundle_folder.proofs.Entries.{folder_less, stored_outside}
use Rattle.bundle_folder.proofs.Free.{left_nodes}
use Rattle.bundle_folder.proofs.mem_folder.MemFolder.take_away.Goals as goal

pub invariant_of-self : goal.invariant_of-self
invariant_of-self c =
    let top = c.args.top.now in
    let nodes = stored c.self.inside.things.items in
    subst IsFolder (sym (ap stored c.remove_within.ensures ∙ stored_outside top c.self.inside.things.items))
    (folder_less nodes (without top nodes) (left_nodes top nodes) c.self.invariant)

pub returns-clause-nodes : goal.returns-clause-nodes
returns-clause-nodes c =
    ap stored c.remove_within.ensures ∙ stored_outside c.args.top.now c.self.inside.things.items
    ∙ ap (λ (f : Scripted). without c.args.top.now f.nodes) c.self.view_is
