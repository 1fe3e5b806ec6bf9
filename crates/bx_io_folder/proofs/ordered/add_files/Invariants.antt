use Rattle.std.proofs.Common.{◌≡◌, ◌||◌, ℕ, List, take}
use Rattle.bx_io.specs.Names.{IsName}
use Rattle.bx_io_folder.specs.NamedFiles.{AreAllNames, is_below}
use Rattle.bx_io_disk.specs.Files.{is_among}
use Rattle.bx_io_folder.proofs.ordered.add_files.Given as goal

abbrev pub invariant-files : goal.invariant-files
invariant-files l =
    AreAllNames l.names.items
    × ((q : List ℕ) → IsName q → is_among q l.names.items ≡ (is_among q l.initial.names.items || is_below l.fn.kind q (take l.file-index l.files)))
