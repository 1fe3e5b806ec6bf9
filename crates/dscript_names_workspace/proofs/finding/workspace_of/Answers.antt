use Rattle.std.proofs.Common.{subst, sym, ap, ◌∙◌}
use Rattle.std.specs.Prelude.{All, Contains}
use Rattle.bx_tree.specs.Trees.{paths_of}
use Rattle.dscript_names_workspace.specs.Paths.{paths_at}
use Rattle.dscript_names_workspace.proofs.ReadTexts.{paths_are_there}
use Rattle.dscript_names_workspace.proofs.finding.workspace_of.Goals as goal

pub read_modules-requires-clause-there : goal.read_modules-requires-clause-there
read_modules-requires-clause-there c =
    let files = c.args.tree.now in
    subst (All (Contains (paths_of files)))
    (sym (c.as_slice-2.ensures.value ∙ c.in_ok-listed.ensures ∙ ap (paths_at files) c.as_slice.ensures.value))
    (paths_are_there files c.args.positions.items c.requires.within)
