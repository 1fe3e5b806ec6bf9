use Rattle.dscript_names_workspace.specs.ConfigViews.{glob_data}
use Rattle.dscript_names_workspace.proofs.Patterns.{globbed, not_globbed}
use Rattle.dscript_names_workspace.proofs.glob_call.glob_in.Goals as goal

pub returns-in-Ok-glob : goal.returns-in-Ok-glob
returns-in-Ok-glob c =
    globbed c.args.tree.now c.args.dir.now (glob_data c.args.call.now) c.in-Ok.path c.in-Ok-glob.paths.items
    c.in-Ok.ensures c.in-Ok-glob.ensures.0 c.in-Ok-glob.ensures.1

pub returns-in-Err-BadPattern : goal.returns-in-Err-BadPattern
returns-in-Err-BadPattern c =
    not_globbed c.args.tree.now c.args.dir.now (glob_data c.args.call.now) c.in-Ok.path c.in-Ok.ensures
    (c.in-Err-BadPattern.ensures c.in-Err-BadPattern.field-0-is)
