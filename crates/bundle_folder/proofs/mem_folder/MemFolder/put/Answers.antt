use Rattle.std.proofs.Common.{ap, subst, sym, string_bytes, ◌∙◌}
use Rattle.std.proofs.lemmas.List.{map_push}
use Rattle.bundle_folder.specs.Folders.{IsFolder, IsFree}
use Rattle.bundle_folder.specs.Stored.{Scripted, placed, stored}
use Rattle.bundle_folder.proofs.Entries.{folder_more}
use Rattle.bundle_folder.proofs.mem_folder.MemFolder.put.Goals as goal

pub invariant_of-self-2 : goal.invariant_of-self-2
invariant_of-self-2 c =
    let free = subst (λ (f : Scripted). IsFree f.nodes (string_bytes c.args.placed.place)) (sym c.self.view_is) c.requires in
    subst IsFolder (sym (ap stored c.in_ok-push.ensures.items ∙ map_push placed c.self.inside.things.items c.args.placed))
    (folder_more (stored c.self.inside.things.items) (placed c.args.placed) c.self.invariant free)

pub invariant_of-self : goal.invariant_of-self
invariant_of-self c = subst IsFolder (sym (ap stored c.in_err-push.ensures.items)) c.self.invariant
