use Rattle.std.proofs.Common.{◌≡◌, List, length, map, ap, sym, ◌∙◌, inl, arith}
use Rattle.std.specs.Prelude.{vec_len}
use Rattle.cache_care.specs.Counts.{drop_count}
use Rattle.cache_care.specs.Planning.{planned_change}
use Rattle.cache_care.specs.Repairing.{DoesRepairInPart}
use Rattle.cache_care.specs.declared.planning.Planned.{Planned}
use Rattle.cache_care.proofs.CareDone.{counted_made, nothing_dropped, on_err, repair_cut, repair_done, repair_drops}
use Rattle.cache_care.proofs.Plans.{whole_prefix}
use Rattle.cache_care.proofs.repairing.repair_store.Goals as goal

pub returns-in_err-survey-clause-cut : goal.returns-in_err-survey-clause-cut
returns-in_err-survey-clause-cut g c S was tells =
    on_err c.from_residual.result (DoesRepairInPart S (g.K.Keeper.known c.args.keeper.now) (g.K.Keeper.known c.survey_store.new.keeper))
    (inl c.in_err-survey.ensures.known)

pub returns-in_err-survey-clause-drops : goal.returns-in_err-survey-clause-drops
returns-in_err-survey-clause-drops g c =
    nothing_dropped (g.K.Keeper.known c.args.keeper.now) (g.K.Keeper.known c.survey_store.new.keeper) c.in_err-survey.ensures.known

pub returns-in_err-plan-clause-cut : goal.returns-in_err-plan-clause-cut
returns-in_err-plan-clause-cut g c S was tells =
    on_err c.from_residual-in_err-plan.result (DoesRepairInPart S (g.K.Keeper.known c.args.keeper.now) (g.K.Keeper.known c.survey_store.new.keeper))
    (inl c.in_ok-survey.ensures.known)

pub returns-in_err-plan-clause-drops : goal.returns-in_err-plan-clause-drops
returns-in_err-plan-clause-drops g c =
    nothing_dropped (g.K.Keeper.known c.args.keeper.now) (g.K.Keeper.known c.survey_store.new.keeper) c.in_ok-survey.ensures.known

pub returns-in_err-apply_all-clause-cut : goal.returns-in_err-apply_all-clause-cut
returns-in_err-apply_all-clause-cut g c S was tells =
    on_err c.from_residual-in_err-apply_all.result
    (DoesRepairInPart S (g.K.Keeper.known c.args.keeper.now) (g.K.Keeper.known c.apply_all.new.keeper))
    (repair_cut S (g.K.Keeper.known c.args.keeper.now) (g.K.Keeper.known c.survey_store.new.keeper) (g.K.Keeper.known c.apply_all.new.keeper) c.in_ok-survey.survey
    c.as_slice.result.now c.in_ok-survey.ensures.known c.in_err-apply_all.ensures.cut was tells c.in_ok-survey.ensures.survey
    (ap (map planned_change) c.as_slice.ensures.value ∙ c.in_ok-plan.ensures.plan))

pub returns-in_err-apply_all-clause-drops : goal.returns-in_err-apply_all-clause-drops
returns-in_err-apply_all-clause-drops g c =
    repair_drops (g.K.Keeper.known c.args.keeper.now) (g.K.Keeper.known c.survey_store.new.keeper) (g.K.Keeper.known c.apply_all.new.keeper) c.in_ok-survey.survey
    c.as_slice.result.now c.in_ok-survey.ensures.known (ap (map planned_change) c.as_slice.ensures.value ∙ c.in_ok-plan.ensures.plan)
    c.in_err-apply_all.ensures.cut

pub returns-clause-repaired : goal.returns-clause-repaired
returns-clause-repaired g c S was tells =
    let survey = c.in_ok-survey.survey in
    let long : vec_len survey.names ≡ length survey.names.items = omega (arith, survey.names.ok.0) in
    repair_done S (g.K.Keeper.known c.args.keeper.now) (g.K.Keeper.known c.survey_store.new.keeper) (g.K.Keeper.known c.apply_all.new.keeper) survey
    c.as_slice.result.now c.counted.result c.in_ok-survey.ensures.known c.in_ok-apply_all.ensures.made was tells c.in_ok-survey.ensures.survey
    (ap (map planned_change) c.as_slice.ensures.value ∙ c.in_ok-plan.ensures.plan)
    (c.counted.ensures.dropped
    ∙ ap (λ (ps : List Planned). drop_count (map planned_change ps)) (c.as_slice-2.ensures.value ∙ sym c.as_slice.ensures.value))
    (c.counted.ensures.all ∙ c.len.ensures ∙ long)

pub returns-clause-counted : goal.returns-clause-counted
returns-clause-counted g c =
    counted_made (g.K.Keeper.known c.args.keeper.now) (g.K.Keeper.known c.survey_store.new.keeper) (g.K.Keeper.known c.apply_all.new.keeper) c.as_slice.result.now
    c.counted.result c.in_ok-survey.ensures.known c.in_ok-apply_all.ensures.made
    (c.counted.ensures.dropped
    ∙ ap (λ (ps : List Planned). drop_count (map planned_change ps)) (c.as_slice-2.ensures.value ∙ sym c.as_slice.ensures.value))

pub returns-clause-drops : goal.returns-clause-drops
returns-clause-drops g c =
    repair_drops (g.K.Keeper.known c.args.keeper.now) (g.K.Keeper.known c.survey_store.new.keeper) (g.K.Keeper.known c.apply_all.new.keeper) c.in_ok-survey.survey
    c.as_slice.result.now c.in_ok-survey.ensures.known (ap (map planned_change) c.as_slice.ensures.value ∙ c.in_ok-plan.ensures.plan)
    (whole_prefix (g.K.Keeper.known c.survey_store.new.keeper) (g.K.Keeper.known c.apply_all.new.keeper) (map planned_change c.as_slice.result.now)
    c.in_ok-apply_all.ensures.made)
