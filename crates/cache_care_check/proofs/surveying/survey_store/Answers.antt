use Rattle.std.proofs.Common.{ℕ, ◌+◌, ◌∙◌, List, length, map, string_bytes, ap, sym, subst, arith}
use Rattle.std.proofs.lemmas.List.{get_or-map, length-map, length_push}
use Rattle.bx_io.proofs.Changes.{keeps_on}
use Rattle.two_phase.proofs.Used.{ok_no_err}
use Rattle.cache_care_check.specs.Findings.{IsFinding}
use Rattle.cache_care_check.specs.declared.surveying.Finding.{Finding}
use Rattle.cache_care_check.proofs.Surveyed.{found_more}
use Rattle.cache_care_check.proofs.Steps.{one_step}
use Rattle.cache_care_check.proofs.surveying.survey_store.Goals as goal

pub names-preserved : goal.names-preserved
names-preserved g c = record {
  found =
      found_more (g.K.Keeper.known c.names.keeper).held (g.K.Keeper.known c.of_name.new.keeper).held (map string_bytes c.deref-name-items.result.now)
      c.names.name-index c.names.findings.items c.push.new.self.items (string_bytes c.name-item.result) c.in_ok-of_name.field-0
      (omega (arith, c.names-test.true, length-map c.deref-name-items.result.now string_bytes))
      (ap string_bytes c.name-item.is
      ∙ sym (get_or-map string_bytes c.deref-name-items.result.now c.names.name-index c.name-item.result (string_bytes c.name-item.result) c.names-test.true))
      c.in_ok-of_name.ensures.known.held c.names.invariant.found
      (λ S is. subst (λ (q : List ℕ). IsFinding S q c.in_ok-of_name.field-0) c.as_str.ensures.value (c.in_ok-of_name.ensures.finding S is))
      c.in_ok-push.ensures.items;
  number =
      ap (λ (fs : List Finding). length fs) c.in_ok-push.ensures.items
      ∙ length_push c.names.findings.items c.in_ok-of_name.field-0
      ∙ ap (λ (n : ℕ). n + 1) c.names.invariant.number;
  right = c.in_ok-of_name.ensures.right;
  kept = keeps_on (g.K.Keeper.known c.names_of.new.keeper) (g.K.Keeper.known c.names.keeper) (g.K.Keeper.known c.of_name.new.keeper)
      c.names.invariant.kept c.in_ok-of_name.ensures.known;
  steps = one_step (g.K.Keeper.known c.args.keeper.now) (g.K.Keeper.known c.names.keeper) (g.K.Keeper.known c.of_name.new.keeper) _ _ _ _ _ _ _ (ok_no_err _ _)
      c.names.invariant.steps c.in_ok-of_name.ensures.known c.in_ok-of_name.ensures.keeper;
}
