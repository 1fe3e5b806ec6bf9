use Rattle.std.proofs.Common.{◌∙◌, ap, map, sym}
use Rattle.std.proofs.lemmas.Result.{IfOk-weaker}
use Rattle.bx_tree.specs.Trees.{Files}
use Rattle.violations.specs.Slots.{slot_files}
use Rattle.violations.specs.DoubleWrites.{clash_at}
use Rattle.one_thread.specs.OneThread.{by_outcome, unless_clash}
use Rattle.build_misses.specs.Going.{outcome_in}
use Rattle.build_misses.specs.declared.taking.Taken.{Taken}
use Rattle.build_misses.proofs.finding.process_result.Goals as goal

pub returns-in-Hit-clause-result : goal.returns-in-Hit-clause-result
returns-in-Hit-clause-result g c =
    let pips = c.args.frame.now.plan.now.pips in
    let made = map slot_files c.args.slots.now in
    IfOk-weaker c.after_success.result _ _
    (λ ended is.
    is ∙ ap (λ (files : Files). unless_clash files (clash_at pips made c.args.pip files)) c.made.ensures.made
    ∙ ap (λ (t : Taken). by_outcome pips c.args.frame.now.sources.now made c.args.pip (outcome_in t)) (sym c.in-Hit.is))
    c.after_success.ensures.result
