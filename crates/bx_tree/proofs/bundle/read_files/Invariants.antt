use Rattle.std.proofs.Common.{length}
use Rattle.bx_tree.specs.Reading.{BodyStartsWithFiles}
use Rattle.bx_tree.specs.Views.{files_of}
use Rattle.bx_tree.proofs.bundle.read_files.Given as goal

abbrev pub invariant-files : goal.invariant-files
invariant-files l = BodyStartsWithFiles l.text (files_of l.files.items) l.rest

abbrev pub decreases-files : goal.decreases-files
decreases-files l = length l.rest
