use Rattle.std.proofs.Common.{◌≡◌, ℕ, List, [], length, map, ap, subst, sym, ◌∙◌, arith}
use Rattle.std.specs.Prelude.{string_bytes, vec_len}
use Rattle.bx_io.specs.Holdings.{Makes, MakesPrefix}
use Rattle.bx_io.proofs.Changes.{keeps_on}
use Rattle.cache_care.specs.Counts.{drop_count}
use Rattle.cache_care.specs.Planning.{planned_change}
use Rattle.cache_care.specs.Trimming.{IsTrim, trims}
use Rattle.cache_care.specs.declared.planning.Planned.{Planned}
use Rattle.cache_care.proofs.CareDone.{counted_made, on_err, trim_cut, trim_done}
use Rattle.cache_care.proofs.Plans.{in_plan, keeps_prefix, none_prefix, only_trims, whole_prefix}
use Rattle.cache_care.proofs.trimming.trim_store.Goals as goal

pub returns-in_err-names-clause-cut : goal.returns-in_err-names-clause-cut
returns-in_err-names-clause-cut g c S was tells =
    on_err c.from_residual.result (MakesPrefix (g.K.Keeper.known c.args.keeper.now) (g.K.Keeper.known c.names_of.new.keeper) (trims S c.args.keep))
    (none_prefix (g.K.Keeper.known c.args.keeper.now) (g.K.Keeper.known c.names_of.new.keeper) (trims S c.args.keep) c.in_err-names.ensures.known)

pub returns-in_err-names-clause-trims : goal.returns-in_err-names-clause-trims
returns-in_err-names-clause-trims g c =
    only_trims (g.K.Keeper.known c.args.keeper.now) (g.K.Keeper.known c.names_of.new.keeper) [] tt
    (none_prefix (g.K.Keeper.known c.args.keeper.now) (g.K.Keeper.known c.names_of.new.keeper) [] c.in_err-names.ensures.known)

pub returns-in_err-plan-clause-cut : goal.returns-in_err-plan-clause-cut
returns-in_err-plan-clause-cut g c S was tells =
    on_err c.from_residual-in_err-plan.result (MakesPrefix (g.K.Keeper.known c.args.keeper.now) (g.K.Keeper.known c.plan.new.keeper) (trims S c.args.keep))
    (none_prefix (g.K.Keeper.known c.args.keeper.now) (g.K.Keeper.known c.plan.new.keeper) (trims S c.args.keep)
    (keeps_on (g.K.Keeper.known c.args.keeper.now) (g.K.Keeper.known c.names_of.new.keeper) (g.K.Keeper.known c.plan.new.keeper) c.in_ok-names.ensures.known
    c.in_err-plan.ensures.known))

pub returns-in_err-plan-clause-trims : goal.returns-in_err-plan-clause-trims
returns-in_err-plan-clause-trims g c =
    only_trims (g.K.Keeper.known c.args.keeper.now) (g.K.Keeper.known c.plan.new.keeper) [] tt
    (none_prefix (g.K.Keeper.known c.args.keeper.now) (g.K.Keeper.known c.plan.new.keeper) []
    (keeps_on (g.K.Keeper.known c.args.keeper.now) (g.K.Keeper.known c.names_of.new.keeper) (g.K.Keeper.known c.plan.new.keeper) c.in_ok-names.ensures.known
    c.in_err-plan.ensures.known))

pub returns-in_err-apply_all-clause-cut : goal.returns-in_err-apply_all-clause-cut
returns-in_err-apply_all-clause-cut g c S was tells =
    on_err c.from_residual-in_err-apply_all.result
    (MakesPrefix (g.K.Keeper.known c.args.keeper.now) (g.K.Keeper.known c.apply_all.new.keeper) (trims S c.args.keep))
    (trim_cut string_bytes S c.args.keep (g.K.Keeper.known c.args.keeper.now) (g.K.Keeper.known c.names_of.new.keeper) (g.K.Keeper.known c.plan.new.keeper)
    (g.K.Keeper.known c.apply_all.new.keeper) c.as_slice.result.now c.as_slice-2.result.now c.in_ok-names.ensures.known c.in_ok-plan.ensures.known
    c.in_err-apply_all.ensures.cut was tells (λ T told. ap (map string_bytes) c.as_slice.ensures.value ∙ c.in_ok-names.ensures.listed T told)
    (λ T told listed. ap (map planned_change) c.as_slice-2.ensures.value ∙ c.in_ok-plan.ensures.plan T told listed))

pub returns-in_err-apply_all-clause-trims : goal.returns-in_err-apply_all-clause-trims
returns-in_err-apply_all-clause-trims g c =
    only_trims (g.K.Keeper.known c.args.keeper.now) (g.K.Keeper.known c.apply_all.new.keeper) (map planned_change c.in_ok-plan.plan.items)
    (in_plan IsTrim c.in_ok-plan.plan.items c.in_ok-plan.ensures.trims)
    (keeps_prefix (g.K.Keeper.known c.args.keeper.now) (g.K.Keeper.known c.plan.new.keeper) (g.K.Keeper.known c.apply_all.new.keeper)
    (map planned_change c.in_ok-plan.plan.items)
    (keeps_on (g.K.Keeper.known c.args.keeper.now) (g.K.Keeper.known c.names_of.new.keeper) (g.K.Keeper.known c.plan.new.keeper) c.in_ok-names.ensures.known
    c.in_ok-plan.ensures.known)
    (subst (λ (ps : List Planned). MakesPrefix (g.K.Keeper.known c.plan.new.keeper) (g.K.Keeper.known c.apply_all.new.keeper) (map planned_change ps))
    c.as_slice-2.ensures.value c.in_err-apply_all.ensures.cut))

pub returns-clause-trimmed : goal.returns-clause-trimmed
returns-clause-trimmed g c S was tells =
    let names = c.in_ok-names.names in
    let long : vec_len names ≡ length names.items = omega (arith, names.ok.0) in
    trim_done string_bytes S c.args.keep (g.K.Keeper.known c.args.keeper.now) (g.K.Keeper.known c.names_of.new.keeper) (g.K.Keeper.known c.plan.new.keeper)
    (g.K.Keeper.known c.apply_all.new.keeper) names.items c.as_slice-2.result.now c.counted.result c.in_ok-names.ensures.known c.in_ok-plan.ensures.known
    c.in_ok-apply_all.ensures.made was tells c.in_ok-names.ensures.listed
    (λ T told listed. ap (map planned_change) c.as_slice-2.ensures.value
    ∙ c.in_ok-plan.ensures.plan T told (ap (map string_bytes) c.as_slice.ensures.value ∙ listed))
    (c.counted.ensures.dropped
    ∙ ap (λ (ps : List Planned). drop_count (map planned_change ps)) (c.as_slice-3.ensures.value ∙ sym c.as_slice-2.ensures.value))
    (c.counted.ensures.all ∙ c.len.ensures ∙ long)

pub returns-clause-counted : goal.returns-clause-counted
returns-clause-counted g c =
    counted_made (g.K.Keeper.known c.args.keeper.now) (g.K.Keeper.known c.plan.new.keeper) (g.K.Keeper.known c.apply_all.new.keeper) c.as_slice-2.result.now
    c.counted.result
    (keeps_on (g.K.Keeper.known c.args.keeper.now) (g.K.Keeper.known c.names_of.new.keeper) (g.K.Keeper.known c.plan.new.keeper) c.in_ok-names.ensures.known
    c.in_ok-plan.ensures.known) c.in_ok-apply_all.ensures.made
    (c.counted.ensures.dropped
    ∙ ap (λ (ps : List Planned). drop_count (map planned_change ps)) (c.as_slice-3.ensures.value ∙ sym c.as_slice-2.ensures.value))

pub returns-clause-trims : goal.returns-clause-trims
returns-clause-trims g c =
    only_trims (g.K.Keeper.known c.args.keeper.now) (g.K.Keeper.known c.apply_all.new.keeper) (map planned_change c.in_ok-plan.plan.items)
    (in_plan IsTrim c.in_ok-plan.plan.items c.in_ok-plan.ensures.trims)
    (keeps_prefix (g.K.Keeper.known c.args.keeper.now) (g.K.Keeper.known c.plan.new.keeper) (g.K.Keeper.known c.apply_all.new.keeper)
    (map planned_change c.in_ok-plan.plan.items)
    (keeps_on (g.K.Keeper.known c.args.keeper.now) (g.K.Keeper.known c.names_of.new.keeper) (g.K.Keeper.known c.plan.new.keeper) c.in_ok-names.ensures.known
    c.in_ok-plan.ensures.known)
    (whole_prefix (g.K.Keeper.known c.plan.new.keeper) (g.K.Keeper.known c.apply_all.new.keeper) (map planned_change c.in_ok-plan.plan.items)
    (subst (λ (ps : List Planned). Makes (g.K.Keeper.known c.plan.new.keeper) (map planned_change ps) (g.K.Keeper.known c.apply_all.new.keeper))
    c.as_slice-2.ensures.value c.in_ok-apply_all.ensures.made)))
