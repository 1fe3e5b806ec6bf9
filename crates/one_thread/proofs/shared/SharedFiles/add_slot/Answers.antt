use Rattle.std.proofs.Common.{◌++◌, List, OnOk, ap, subst, ◌∙◌}
use Rattle.std.specs.Prelude.{slice_get}
use Rattle.bx_tree.specs.Paths.{Atoms}
use Rattle.bx_tree.specs.Trees.{Files}
use Rattle.violations.specs.Slots.{slot_files}
use Rattle.pip_model_types.specs.declared.outputs.OutDir.{OutDir}
use Rattle.pip_model_types.specs.declared.pip.Pip.{Pip}
use Rattle.violations.specs.DoubleWrites.{outdirs_in, shared_paths}
use Rattle.one_thread.specs.Shared.{KeepsShared}
use Rattle.one_thread.proofs.shared.SharedFiles.add_slot.Goals as goal

pub returns : goal.returns
returns c =
    let old = c.args.self.now in
    let new = c.add_files.new.self in
    subst (λ (ds : List OutDir). OnOk c.add_files.result ((paths : List Atoms) → KeepsShared old.files old.dirs paths
    → KeepsShared new.files new.dirs (paths ++ shared_paths ds (slot_files c.args.slot.now))))
    (c.outdirs_at-dirs.ensures ∙ ap (λ (ps : List Pip). outdirs_in (slice_get ps c.args.pip)) c.pips.ensures.pips)
    (subst (λ (fs : Files). OnOk c.add_files.result ((paths : List Atoms) → KeepsShared old.files old.dirs paths
    → KeepsShared new.files new.dirs (paths ++ shared_paths c.outdirs_at-dirs.result.now fs))) c.made_in.ensures c.add_files.ensures)
