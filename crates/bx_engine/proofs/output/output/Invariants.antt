use Rattle.std.proofs.Common.{◌≡◌, ◌++◌, codes, take}
use Rattle.std.specs.List.{AllByRecursion}
use Rattle.bx_tree.specs.Bundle.{body_text}
use Rattle.bx_tree.specs.Paths.{IsPath}
use Rattle.bx_tree.specs.Trees.{paths_of}
use Rattle.pip_model_types.specs.Made.{made_files}
use Rattle.bx_engine.proofs.output.output.Given as goal

abbrev pub invariant-files : goal.invariant-files
invariant-files l = record {
  text : l.text.items ≡ codes "bundle 1\n" ++ body_text (made_files (take l.file-index l.made));
  paths : AllByRecursion IsPath (paths_of (made_files (take l.file-index l.made)));
}
