use Rattle.std.proofs.Common.{◌≡◌, ◌∙◌, ap, rules, subst}
use Rattle.std.specs.FinMap.{get}
use Rattle.std.specs.IoError.{error_kind}
use Rattle.std.specs.declared.io.ErrorKind.TheVariants.{NotFound}
use Rattle.bx_io_folder.specs.NamedFiles.{Clears}
use Rattle.bx_io_disk.specs.Files.{Files}
use Rattle.bx_io_folder.proofs.Clearing.{cleared_kind, cleared_nothing, clears_same}
use Rattle.bx_io_folder.proofs.Listing.{on_ok}
use Rattle.bx_io_folder.proofs.ordered.OrderedDisk.clear_kind.Goals as goal

pub returns-in-Ok-clause-clears : goal.returns-in-Ok-clause-clears
returns-in-Ok-clause-clears g c known =
    subst (λ (files : Files). Clears files (g.D.Disk.files c.clear_files.new.self.disk)) c.in-Ok.ensures.files (c.clear_files.ensures.clears known)

pub returns-in-Ok-clause-cleared : goal.returns-in-Ok-clause-cleared
returns-in-Ok-clause-cleared g c known =
    on_ok c.clear_files.result _ _
    (λ gone path left same.
    cleared_kind c.args.kind.now (g.D.Disk.files c.args.self.now.disk) (g.D.Disk.files c.clear_files.new.self.disk) c.in-Ok.files c.deref.result.now c.requires.kind
    (c.in-Ok.ensures.listed known) c.deref.ensures.value
    (subst (λ (files : Files). Clears files (g.D.Disk.files c.clear_files.new.self.disk)) c.in-Ok.ensures.files (c.clear_files.ensures.clears known)) gone path left
    same)
    (c.clear_files.ensures.cleared known)

pub returns-in-Err-clause-clears : goal.returns-in-Err-clause-clears
returns-in-Err-clause-clears g c known = clears_same _ _ c.in-Err.ensures.files

pub returns-in-Err-clause-cleared : goal.returns-in-Err-clause-cleared
returns-in-Err-clause-cleared g c known path left same =
    let missing : error_kind c.in-Err.error ≡ NotFound = search rules in
    ap (λ (files : Files). get files path) c.in-Err.ensures.files
    ∙ cleared_nothing c.args.kind.now (g.D.Disk.files c.args.self.now.disk) c.in-Err.error c.requires.kind (c.in-Err.ensures.listed known) missing path left same

pub returns-in-Err-2-clause-clears : goal.returns-in-Err-2-clause-clears
returns-in-Err-2-clause-clears g c known = clears_same _ _ c.in-Err.ensures.files
