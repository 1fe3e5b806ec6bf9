use Rattle.std.proofs.Common.{◌≡◌, arith, string_bytes}
use Rattle.std.proofs.lemmas.Grind.{common_steps}
use Rattle.bx_io_disk.specs.Files.{is_among, path_in}
use Rattle.bx_io_folder.proofs.Listing.{below_all_files, below_more}
use Rattle.bx_io_disk.proofs.Listing.{below_none}
use Rattle.bx_io_folder.proofs.ordered.add_files.Goals as goal

pub files-init : goal.files-init
files-init c = (c.requires, λ q named. below_none (is_among q c.args.names.now.items))

pub files-preserved : goal.files-preserved
files-preserved c =
    let path : string_bytes c.in_ok-format.field-0 ≡ path_in c.args.kind.now (string_bytes c.file-item.result) = grind (arith, common_steps) in (
      c.in_ok-add_name.ensures.names,
      λ q named.
          below_more c.args.kind.now q (string_bytes c.in_ok-format.field-0) c.args.files.now c.files.file-index c.file-item.result (is_among q c.args.names.now.items) (is_among q c.files.names.items)
          (is_among q c.add_name.new.names.items) c.files-test.true c.file-item.is path (c.files.invariant.1 q named) (c.in_ok-add_name.ensures.added q named),
    )

pub returns-clause-added : goal.returns-clause-added
returns-clause-added c q named =
    below_all_files c.args.kind.now q c.args.files.now c.files.file-index (is_among q c.args.names.now.items) (is_among q c.files.names.items) c.files-test.false (c.files.invariant.1 q named)
