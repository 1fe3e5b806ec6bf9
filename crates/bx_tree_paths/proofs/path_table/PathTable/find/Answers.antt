use Rattle.std.proofs.Common.{◌∙◌}
use Rattle.bx_tree_paths.specs.declared.path_table.PathId.{PathId}
use Rattle.bx_tree_paths.proofs.Numbered.{found_path, there_path}
use Rattle.bx_tree_paths.proofs.path_table.PathTable.find.Goals as goal

pub returns-clause-found : goal.returns-clause-found
returns-clause-found c =
    found_path (λ (id : PathId). id.0) c.args.self.now c.args.path.now c.as_bytes.result.now c.find_text.result c.len.ensures.numbered.are_paths
    c.text.ensures.is_path (c.as_bytes.ensures.value ∙ c.text.ensures.text) c.find_text.ensures

pub returns-clause-there : goal.returns-clause-there
returns-clause-there c =
    there_path (λ (id : PathId). id.0) c.args.self.now c.args.path.now c.as_bytes.result.now c.find_text.result c.len.ensures.numbered.are_paths
    c.text.ensures.is_path (c.as_bytes.ensures.value ∙ c.text.ensures.text) c.find_text.ensures
