use Rattle.std.proofs.Common.{◌≡◌, ◌∙◌, subst}
use Rattle.bundle_folder.specs.Folders.{IsFolder}
use Rattle.bundle_folder.proofs.mem_folder.MemFolderFolder.list.Goals as goal

pub returns-clause-folder : goal.returns-clause-folder
returns-clause-folder c nodes e =
    let same : c.args.self.now.nodes ≡ nodes = cc in
    subst IsFolder (c.next_fails.ensures.nodes ∙ same) c.entries.ensures.folder
