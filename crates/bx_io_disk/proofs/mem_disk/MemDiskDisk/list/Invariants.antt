use Rattle.std.proofs.Common.{◌≡◌, ◌||◌, ◌++◌, ℕ, List, string_bytes}
use Rattle.bx_io_disk.specs.Files.{is_among}
use Rattle.bx_io_disk.proofs.mem_disk.MemDiskDisk.list.Given as goal

abbrev pub invariant-loop-file : goal.invariant-loop-file
invariant-loop-file l =
    (q : List ℕ)
    → (is_among q l.names.items || is_among (string_bytes l.inside ++ q) l.file-iterator) ≡ is_among (string_bytes l.inside ++ q) l.initial.file-iterator
