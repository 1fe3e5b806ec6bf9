use Rattle.std.proofs.Common.{◌≡◌, ◌∙◌, ◌++◌, arith, string_bytes}
use Rattle.std.proofs.lemmas.Grind.{common_steps}
use Rattle.bx_io_disk.specs.Files.{path_in}
use Rattle.bx_io_disk.proofs.Listing.{listed_below}
use Rattle.bx_io_disk.proofs.mem_disk.MemDiskDisk.list.Goals as goal

pub returns-clause-listed : goal.returns-clause-listed
returns-clause-listed c q =
    let at : string_bytes c.in_ok-inside.inside ++ q ≡ path_in c.args.path.now q = grind (arith, common_steps) in
    listed_below c.args.self.now.map c.loop-file.names.items c.loop-file.file-iterator c.into_iter-file-iterator.result (string_bytes c.in_ok-inside.inside) (path_in c.args.path.now q) q
    c.keys-file-items.ensures.ordered c.in-None.ensures.steps.0 (c.into_iter-file-iterator.ensures.into_iter_gives ∙ c.keys-file-items.ensures.rest) at (c.loop-file.invariant q)
