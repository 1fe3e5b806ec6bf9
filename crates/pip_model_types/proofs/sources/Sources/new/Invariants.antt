use Rattle.bx_tree.specs.Views.{files_of}
use Rattle.pip_model_types.proofs.FilesAt.{Divides}
use Rattle.pip_model_types.proofs.sources.Sources.new.Given as goal

abbrev pub invariant-files : goal.invariant-files
invariant-files l = Divides (files_of l.initial.file-iterator.rest.items) (files_of l.file-iterator.rest.items) l.paths.items l.blobs.items
