use Rattle.std.proofs.Common.{◌≡◌, ◌++◌, codes, take}
use Rattle.bx_tree.specs.Bundle.{body_text}
use Rattle.bx_tree.specs.Views.{files_of}
use Rattle.bx_tree.proofs.bundle.write_bundle.Given as goal

abbrev pub invariant-loop-file : goal.invariant-loop-file
invariant-loop-file l = l.text.items ≡ codes "bundle 1\n" ++ body_text (files_of (take l.file-index l.file-items))
