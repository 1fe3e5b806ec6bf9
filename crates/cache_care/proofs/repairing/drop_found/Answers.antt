use Rattle.std.proofs.Common.{◌≡◌, ◌<◌, [], true, false, get_or, length, map, Global, Vec, ap, refl, sym, ◌∙◌, arith}
use Rattle.std.specs.Prelude.{string_bytes}
use Rattle.std.proofs.lemmas.List.{append-nil, get_or-map, get_or_default, length-map}
use denote.Enum.Bare.{same_false, same_true}
use Rattle.cache_care_check.specs.contracts.surveying.Finding.{the_type}
use Rattle.cache_care.specs.Planning.{planned_change}
use Rattle.cache_care.specs.declared.planning.Planned.{Planned}
use Rattle.cache_care.specs.declared.planning.Planned.TheVariants as planned
use Rattle.cache_care.proofs.Found.{found_more, found_other, found_same}
use Rattle.cache_care.proofs.Planned.{pushed}
use Rattle.cache_care.proofs.repairing.drop_found.Goals.{then-eq+in_ok-clone+in_ok-push, else-eq}
use Rattle.cache_care.proofs.repairing.drop_found.Goals as goal

pub names-preserved : goal.names-preserved
names-preserved c =
    let names = map string_bytes c.args.survey.now.names.items in
    let found = c.args.survey.now.findings.items in
    let i = c.names.place in
    let f = c.index.result.now in
    let same = length-map c.args.survey.now.names.items string_bytes in
    let ok = c.args.survey.now.names.ok.0 in
    let here : i < length c.args.survey.now.names.items = omega (arith, ok) in
    let l : i < length names = omega (arith, same, here) in
    let k : i < length found = omega (arith, here) in
    elim c.if-eq.branch [
      | then-eq+in_ok-clone+in_ok-push w ↦
          let name = string_bytes w.in_ok-clone.field-0 in
          found_more c.args.wanted names found i name f true (map planned_change c.args.plan.now.items) (map planned_change c.names.plan.items)
          (map planned_change c.if-eq.plan.items) l k
          (w.in_ok-clone.ensures.cases ∙ ap string_bytes w.index-then-eq.ensures
          ∙ sym (get_or-map string_bytes c.args.survey.now.names.items i w.index-then-eq.result.now name here)) c.index.ensures
          (found_same c.args.wanted f (same_true the_type tt f c.args.wanted (sym c.eq.ensures ∙ w.if-eq.true))) c.names.invariant
          (ap (λ (v : Vec Planned Global). map planned_change v.items) w.plan-is
          ∙ pushed c.names.plan.items w.push.new.self.items (planned.Drop w.in_ok-clone.field-0) w.in_ok-push.ensures.items)
      | else-eq w ↦
          found_more c.args.wanted names found i (get_or names i []) f false (map planned_change c.args.plan.now.items) (map planned_change c.names.plan.items)
          (map planned_change c.if-eq.plan.items) l k (get_or_default names i [] (get_or names i []) l) c.index.ensures
          (found_other c.args.wanted f (same_false the_type f c.args.wanted (sym c.eq.ensures ∙ w.if-eq.false))) c.names.invariant
          (ap (λ (v : Vec Planned Global). map planned_change v.items) w.plan-is ∙ sym (append-nil (map planned_change c.names.plan.items)))
    ]
