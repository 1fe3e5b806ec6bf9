use Rattle.std.proofs.Common.{◌≡◌, ◌+◌, drop, length, map}
use Rattle.std.specs.Vec.Iter.{into_iter_items}
use Rattle.dscript_names_binding.specs.Walked.{table_of}
use Rattle.dscript_names.specs.Resolving.{after_files, bind_each, count_of, files_of}
use Rattle.dscript_names.specs.Views.{parsed_data}
use Rattle.dscript_names.proofs.resolving.bind.Given as goal

abbrev pub invariant-files : goal.invariant-files
invariant-files l =
    (goal.iterator-files).can_next l.file-iterator
    × (goal.iterator-files).is_finite l.file-iterator
    × (length l.world.files ≡ l.number + length (into_iter_items l.file-iterator))
    × (bind_each l.world 0 l.world.files (map parsed_data l.fn.parsed.items) 0
    ≡ after_files (files_of l.resolving) (table_of l.resolving.binder.walker)
    (bind_each l.world l.number (drop l.number l.world.files) (map parsed_data (into_iter_items l.file-iterator))
    (count_of l.resolving)))
