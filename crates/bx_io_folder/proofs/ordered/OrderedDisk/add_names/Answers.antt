use Rattle.std.proofs.Common.{◌≡◌, rules}
use Rattle.std.specs.IoError.{error_kind}
use Rattle.std.specs.declared.io.ErrorKind.TheVariants.{NotFound}
use Rattle.bx_io_disk.specs.Files.{is_among}
use Rattle.bx_io_folder.proofs.Listing.{added_held, none_held, on_ok}
use Rattle.bx_io_folder.proofs.ordered.OrderedDisk.add_names.Goals as goal

pub returns-in-Ok-clause-listed : goal.returns-in-Ok-clause-listed
returns-in-Ok-clause-listed g c known =
    on_ok c.add_files.result _ _
    (added_held c.args.kind.now (g.D.Disk.files c.args.self.now.disk) c.in-Ok.files c.deref.result.now c.args.names.now.items c.add_files.new.names.items c.requires.kind (c.in-Ok.ensures.listed known) c.deref.ensures.value)
    c.add_files.ensures.added

pub returns-in-Err-clause-listed : goal.returns-in-Err-clause-listed
returns-in-Err-clause-listed g c known q named =
    let missing : error_kind c.in-Err.error ≡ NotFound = search rules in
    none_held c.args.kind.now (g.D.Disk.files c.args.self.now.disk) c.in-Err.error q (is_among q c.args.names.now.items) c.requires.kind (c.in-Err.ensures.listed known) missing named
