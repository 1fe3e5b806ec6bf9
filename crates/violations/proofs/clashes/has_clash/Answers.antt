use Rattle.std.proofs.Common.{List, ap, ◌∙◌}
use Rattle.std.specs.List.{list_any}
use Rattle.pip_model_types.specs.Made.{made_files}
use Rattle.pip_model_types.specs.declared.outputs.OutDir.{OutDir}
use Rattle.violations.specs.DoubleWrites.{is_clash, shared_paths}
use Rattle.violations.proofs.FirstClash.{any_where_shared}
use Rattle.violations.proofs.clashes.has_clash.Goals as goal

pub returns : goal.returns
returns c =
    c.any_shared_clash.ensures ∙ any_where_shared c.args.path.now c.outdirs_of-dirs.result.now c.args.files.now
    ∙ ap (λ (ds : List OutDir). list_any (is_clash c.args.path.now) (shared_paths ds (made_files c.args.files.now))) c.outdirs_of-dirs.ensures
