use Rattle.std.proofs.Common.{rules, ◌∙◌}
use Rattle.std.proofs.lemmas.Fn.{always_returns_same}
use Rattle.bx_tree.specs.Paths.{path_cmp}
use Rattle.pip_model_types.specs.declared.outputs.OutDir.{OutDir}
use Rattle.dscript_sdk.proofs.FoundByPath.{found_by_path}
use Rattle.dscript_sdk.proofs.process_members.has_directory.Goals as goal

pub returns : goal.returns
returns c =
    c.is_ok.ensures.value
    ∙ found_by_path c.args.dirs.now c.args.path.now c.binary_search_by.result c.requires c.binary_search_by.ensures.bound
    (c.binary_search_by.ensures.position (λ (d : OutDir). path_cmp d.path c.args.path.now)
    (always_returns_same _ _ _ (λ a r g h. search rules)))
