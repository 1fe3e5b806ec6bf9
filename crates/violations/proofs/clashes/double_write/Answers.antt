use Rattle.std.proofs.Common.{◌≡◌, IfOk, List, Option, ap, map, subst, take, ◌∙◌}
use Rattle.std.specs.Prelude.{slice_get}
use Rattle.bx_tree.specs.Trees.{Files}
use Rattle.violations.specs.Slots.{slot_files}
use Rattle.pip_model_types.specs.Made.{made_files}
use Rattle.pip_model_types.specs.declared.outputs.OutDir.{OutDir}
use Rattle.pip_model_types.specs.declared.pip.Pip.{Pip}
use Rattle.violations.specs.declared.verdict.Violation.{Violation}
use Rattle.violations.specs.DoubleWrites.{clash_of, outdirs_in}
use Rattle.violations.proofs.clashes.double_write.Goals as goal

pub returns : goal.returns
returns c =
    let made = map slot_files c.args.slots.now in
    let pips = c.pips-pips.ensures.pips in
    let dirs = c.outdirs_at-dirs.ensures ∙ ap (λ (ps : List Pip). outdirs_in (slice_get ps c.args.pip)) pips in
    subst (λ (o : Option Violation). IfOk c.first_clash.result (λ v. v ≡ o))
    (ap (λ (ps : List Pip). clash_of (take c.args.pip ps) made c.outdirs_at-dirs.result.now (made_files c.files-files.result.now)) pips
    ∙ ap (λ (ds : List OutDir). clash_of (take c.args.pip c.args.plan.now.pips) made ds (made_files c.files-files.result.now)) dirs
    ∙ ap (clash_of (take c.args.pip c.args.plan.now.pips) made (outdirs_in (slice_get c.args.plan.now.pips c.args.pip))) c.files-files.ensures.files)
    c.first_clash.ensures
