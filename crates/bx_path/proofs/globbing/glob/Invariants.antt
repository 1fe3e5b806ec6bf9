use Rattle.std.proofs.Common.{◌≡◌, take}
use Rattle.bx_tree.specs.Views.{files_of}
use Rattle.bx_path.specs.Globbing.{glob_of}
use Rattle.bx_path.proofs.globbing.glob.Given as goal

abbrev pub invariant-loop-file : goal.invariant-loop-file
invariant-loop-file l = l.paths.items ≡ glob_of (files_of (take l.file-index l.files)) l.dir l.pattern l.deep
