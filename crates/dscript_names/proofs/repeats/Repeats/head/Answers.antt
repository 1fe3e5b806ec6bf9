use Rattle.std.proofs.Common.{◌++◌, map, ap, ◌∙◌}
use Rattle.dscript_ast.specs.Views.{head_tree}
use Rattle.dscript_names_scopes.specs.Duplicates.{head_names}
use Rattle.dscript_names.specs.Singles.{single}
use Rattle.dscript_names.proofs.SeenNames.{looked}
use Rattle.dscript_names.proofs.repeats.Repeats.head.Goals as goal

pub returns : goal.returns
returns c =
    looked c.look.result c.args.self.now c.look.new.self _ (head_names (head_tree c.args.head.now)) (c.in_ok-add_head.ensures ∙ ap (λ xs. xs ++ map single (head_names (head_tree c.args.head.now))) c.new-names.ensures.items) c.look.ensures
