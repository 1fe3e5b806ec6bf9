use Rattle.std.proofs.Common.{List, ap, ◌∙◌}
use Rattle.std.specs.Prelude.{slice_get}
use Rattle.std.specs.List.{list_any}
use Rattle.std.proofs.lemmas.Result.{IfOk-weaker}
use Rattle.bx_tree.specs.Trees.{Files}
use Rattle.pip_model_types.specs.declared.outputs.OutDir.{OutDir}
use Rattle.pip_model_types.specs.declared.pip.Pip.{Pip}
use Rattle.violations.specs.DoubleWrites.{outdirs_in, shared_paths}
use Rattle.one_thread.specs.Shared.{any_clash}
use Rattle.one_thread.proofs.shared.SharedFiles.has_clash.Goals as goal

pub returns : goal.returns
returns c =
    let dirs = c.outdirs_at-dirs.ensures ∙ ap (λ (ps : List Pip). outdirs_in (slice_get ps c.args.pip)) c.pips.ensures.pips in
    IfOk-weaker c.any_clashes.result _ _ (λ yes f. λ paths h.
    f paths h ∙ ap (λ (fs : Files). list_any (any_clash paths) (shared_paths c.outdirs_at-dirs.result.now fs)) c.files.ensures.files
    ∙ ap (λ (ds : List OutDir). list_any (any_clash paths) (shared_paths ds c.args.made.now)) dirs) c.any_clashes.ensures
