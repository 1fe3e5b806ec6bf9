-- On a board on which nothing is left to do each process that runs has an accepted run, or a hit that the store still has.
use Rattle.std.proofs.Common.{◌≡◌, ◌⊎◌, ℕ, ◌+◌, ◌<◌, Bool, true, false, List, ◌++◌, drop, length, map, take, Option, Some, None, refl, sym, ap, ◌∙◌, subst, inl, inr, arith, length-take}
use Rattle.std.specs.Prelude.{IfSome, is_some, slice_get}
use Rattle.std.proofs.lemmas.List.{take-append-drop}
use Rattle.std.proofs.lemmas.Option.{slice_get_within}
use Rattle.bx_tree.specs.Trees.{Files}
use Rattle.bx_io.specs.Holdings.{Holdings}
use Rattle.pip_model_types.specs.Makers.{IsPipList}
use Rattle.pip_model_types.specs.declared.desc.Desc.{Desc}
use Rattle.pip_model_types.specs.declared.made.Slot.{Slot}
use Rattle.pip_model_types.specs.declared.pip.Pip.{Pip}
use Rattle.pip_model_types.specs.declared.pip.PipKind.{PipKind}
use Rattle.pip_model_types.specs.declared.pip.PipKind.TheVariants.{Process}
use Rattle.pip_model.specs.Plans.{PlanData}
use Rattle.observed.specs.declared.ask.Ask.{Ask}
use Rattle.observed.specs.declared.access.Answer.{Answer}
use Rattle.pip_view_inputs.specs.Plain.{desc_of}
use Rattle.pip_view_inputs.specs.Results.{ByPip, inputs_of}
use Rattle.pip_view.specs.Sees.{sees}
use Rattle.pip_view.proofs.TakenDirs.{process_is}
use Rattle.run_record.specs.Holding.{HoldsNow}
use Rattle.two_phase_meaning.specs.Usable.{Usable}
use Rattle.two_phase.specs.Reading.{ReaderData}
use Rattle.violations.specs.Slots.{slot_files}
use Rattle.violations.specs.declared.verdict.Verdict.{Verdict}
use Rattle.one_thread.specs.OneThread.{Result, inputs_are_good, made_by, one_thread}
use Rattle.one_thread.specs.Views.{slots_are_good}
use Rattle.one_thread.proofs.EachResult.{goods, inputs, number_of_results}
use Rattle.one_thread.proofs.GoingThrough.{IsSoFar}
use Rattle.sched_board_slots.specs.Closing as closing
use Rattle.sched_board_slots.specs.Slots.{slot_at}
use Rattle.sched_board_slots.specs.declared.held.Held.{Held}
use Rattle.sched_board_slots.proofs.Following.{settled_slot}
use Rattle.retire.specs.Accepting.{IsAccepted}
use Rattle.retire.specs.Builds.{IsFair}
use Rattle.retire.specs.Counting.{one_miss}
use Rattle.retire.specs.Deciding as deciding
use Rattle.retire.specs.Deciding.{Decides, DecidesAt}
use Rattle.retire.specs.Runs.{RunsAs}
use Rattle.retire.specs.Settled.{IsSettledOver}
use Rattle.retire.specs.Taking.{IsOfNow, TakesBy, way_of}
use Rattle.retire.specs.declared.deciding.Next.{Next}
use Rattle.retire.specs.declared.taking.Taken.{Taken}
use Rattle.retire.specs.declared.taking.Taken.TheVariants as takings
use Rattle.retire.proofs.Along.{runs_as}
use Rattle.retire.proofs.Told.{IsRight}

module _ (plan : PlanData) (tree : Files) (S : Holdings) (cached : Bool) (slots : List Held) (over : IsSettledOver plan tree S cached slots) (list : IsPipList plan.pips) where
  abbrev all : List Result
  all = one_thread plan.pips tree plan.tool_budget

  pub settled_fair : IsFair plan.pips tree plan.tool_budget S
  settled_fair = record { honest = over.honest; apart = λ x y h k e. over.apart x y (closing.build h) (closing.build k) e }

  pub settled_right : (reader : Option ReaderData) → IfSome reader (λ r. r.held ≡ Some S) → IsRight plan.pips tree plan.tool_budget reader
  settled_right None held = inl refl
  settled_right (Some r) held = inr (S, record { seen = r; is = refl; held = held }, settled_fair)

  -- ## One process

  module _ (i : ℕ) (d : Desc) (see : Ask → Answer) (runs : RunsAs plan.pips tree plan.tool_budget i d see) where
    there : (pip : Pip) × (slice_get plan.pips i ≡ Some pip) × (pip.kind ≡ Process runs.process)
    there = process_is (slice_get plan.pips i) runs.process runs.is_process

    within : i < length plan.pips
    within = slice_get_within plan.pips i there.0 there.1

    long : length (take i all) ≡ i
    long = omega (arith, within, length-take i all, number_of_results plan.pips tree plan.tool_budget)

    joined : take i all ++ drop i all ≡ all
    joined = take-append-drop i all

    going : inputs_are_good plan.pips (Process runs.process) all ≡ true
    going =
        subst (λ (k : PipKind). inputs_are_good plan.pips k all ≡ true) there.2
        (subst (λ (rs : List Result). inputs_are_good plan.pips there.0.kind rs ≡ true) joined
        (goods plan.pips list tree plan.tool_budget i there.0 there.1 (take i all) (drop i all) long
        ∙ subst (λ (k : PipKind). inputs_are_good plan.pips k (take i all) ≡ true) (sym there.2) runs.is_run))

    same_inputs : inputs_of plan.pips (Process runs.process) (made_by all) ≡ inputs_of plan.pips (Process runs.process) (made_by (take i all))
    same_inputs =
        subst (λ (k : PipKind). inputs_of plan.pips k (made_by all) ≡ inputs_of plan.pips k (made_by (take i all))) there.2
        (subst (λ (rs : List Result). inputs_of plan.pips there.0.kind (made_by rs) ≡ inputs_of plan.pips there.0.kind (made_by (take i all))) joined
        (inputs plan.pips list tree plan.tool_budget i there.0 there.1 (take i all) (drop i all) long))

    desc_is : closing.sequential_desc plan tree runs.process ≡ d
    desc_is = ap (λ (ms : ByPip). desc_of tree ms plan.tool_budget runs.process) same_inputs ∙ runs.desc_is

    view_is : closing.sequential_view plan tree i runs.process ≡ see
    view_is = ap (λ (ms : ByPip). sees plan.pips tree ms i) same_inputs ∙ runs.view_is

    pub accepted_or_usable : IsAccepted d see (slot_at slots i) ⊎ (Usable S d see × (cached ≡ true))
    accepted_or_usable =
        elim
        (settled_slot plan tree over.board.core slots list over.board.graph over.board.sound over.board.size over.board.fit S over.honest over.hits over.apart
        over.board.settled i there.0 runs.process there.1 there.2 going) [
          | inl ran ↦
              inl (subst (λ (h : Held). IsAccepted d see h) (sym ran.1)
              (subst (λ (v : Ask → Answer). HoldsNow d v ran.0) view_is
              (subst (λ (x : Desc). HoldsNow x (closing.sequential_view plan tree i runs.process) ran.0) desc_is ran.2)))
          | inr hit ↦ inr (over.spared i d see hit.0 runs hit.1, over.used i d see hit.0 runs hit.1)
        ]

  -- it is not run where its lookup does not fail
  no_miss : (i : ℕ) (d : Desc) (see : Ask → Answer) (reader : Option ReaderData) (t : Taken) → RunsAs plan.pips tree plan.tool_budget i d see
      → IsOfNow d see (slot_at slots i) t → TakesBy reader d see t → is_some reader ≡ cached → IfSome reader (λ r. r.held ≡ Some S) → one_miss (way_of t) ≡ 0
  no_miss i d see reader (takings.Accepted f) runs now takes there held = refl
  no_miss i d see reader (takings.Hit f) runs now takes there held = refl
  no_miss i d see reader (takings.Faulted f) runs now takes there held = refl
  no_miss i d see None (takings.Missed f) runs now takes there held = elim (accepted_or_usable i d see runs) [
    | inl holds ↦ absurd (now.0 holds)
    | inr usable ↦ absurd (let never : false ≡ true = there ∙ usable.1 in cc)
  ]
  no_miss i d see (Some r) (takings.Missed f) runs now takes there held = elim (accepted_or_usable i d see runs) [
    | inl holds ↦ absurd (now.0 holds)
    | inr usable ↦ absurd (takes S held usable.0)
  ]

  -- ## One pip

  module _ (n : ℕ) (vs : List Verdict) (ss : List Slot) (so_far : IsSoFar plan.pips tree plan.tool_budget n vs ss) (reader : Option ReaderData) (next : Next)
      (there : is_some reader ≡ cached) (held : IfSome reader (λ r. r.held ≡ Some S)) where
    missed_by : (pip : Pip) → slice_get plan.pips n ≡ Some pip → Decides plan.pips tree plan.tool_budget reader (slot_at slots n) ss n pip.kind next → one_miss next.way ≡ 0
    missed_by pip at (deciding.skipped e d) = ap one_miss d.way_is
    missed_by pip at (deciding.plain e none d) = ap one_miss d.way_is
    missed_by pip at (deciding.process p e is d) =
        let good : slots_are_good plan.pips (Process p) ss ≡ true = subst (λ (k : PipKind). slots_are_good plan.pips k ss ≡ true) is e in
        let made : ByPip = inputs_of plan.pips (Process p) (map slot_files ss) in
        ap one_miss d.way_is
        ∙ no_miss n (desc_of tree made plan.tool_budget p) (sees plan.pips tree made n) reader d.taken
        (runs_as plan.pips tree plan.tool_budget n vs ss so_far pip p at is good) d.now d.takes there held

    pub missed_none : (o : Option Pip) → slice_get plan.pips n ≡ o → DecidesAt plan.pips tree plan.tool_budget reader (slot_at slots n) ss n o next → one_miss next.way ≡ 0
    missed_none None at d = absurd d
    missed_none (Some pip) at d = missed_by pip at d
