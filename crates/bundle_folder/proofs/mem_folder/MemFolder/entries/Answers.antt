use Rattle.std.proofs.Common.{subst}
use Rattle.bundle_folder.specs.Folders.{IsFolder}
use Rattle.bundle_folder.specs.Stored.{Scripted}
use Rattle.bundle_folder.proofs.mem_folder.MemFolder.entries.Goals as goal

pub returns-clause-folder : goal.returns-clause-folder
returns-clause-folder c = subst (λ (f : Scripted). IsFolder f.nodes) c.self.view_is c.self.invariant
