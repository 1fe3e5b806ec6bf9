use Rattle.std.proofs.Common.{◌∙◌}
use Rattle.std.specs.List.{list_any}
use Rattle.bx_tree.specs.Paths.{same_path}
use Rattle.bx_tree.specs.Below.{is_below}
use Rattle.tool_run.proofs.Permitted.{any_dirs, not_outside, outside}
use Rattle.tool_run.proofs.paths.is_declared.Goals as goal
use Rattle.pip_model_types.specs.Outputs.{outdir_paths}

pub returns-then-inside : goal.returns-then-inside
returns-then-inside c =
    c.if-inside.true ∙ outside (list_any (λ out. same_path out c.args.path.now) c.args.outputs.now) c.any_above-inside.result
    (list_any (λ dir. is_below c.args.path.now dir) (outdir_paths c.args.dirs.now))
    (c.any_above-inside.ensures ∙ any_dirs c.args.path.now c.args.dirs.now) c.if-inside.true

pub returns-else-inside : goal.returns-else-inside
returns-else-inside c =
    not_outside (list_any (λ out. same_path out c.args.path.now) c.args.outputs.now) c.any_above-inside.result
    (list_any (λ dir. is_below c.args.path.now dir) (outdir_paths c.args.dirs.now)) c.has.result
    (c.any_above-inside.ensures ∙ any_dirs c.args.path.now c.args.dirs.now) c.if-inside.false c.has.ensures.value
