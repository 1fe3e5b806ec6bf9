-- No input is without an ending, but for one whose specification makes more pips than can be numbered.
use Rattle.std.proofs.Common.{◌≢◌, ℕ, List, inl, inr, refl}
use Rattle.bx_tree.specs.Trees.{Files}
use Rattle.bx_tree.specs.Bundle.{Faults, IsBundle}
use Rattle.bx_tree.specs.declared.bundle.BundleFault.{BundleFault}
use Rattle.bx_tree.specs.declared.bundle.BundleFault.TheVariants as bundle_faults
use Rattle.bx_tree.proofs.SomeReading.{some_reading}
use Rattle.bx_engine_front.proofs.SomePlan.{some_plan_lem}
use Rattle.bx_engine_front.specs.Refusals.{refusal_of}
use Rattle.bx_engine_front.specs.declared.limits.Limits.{Limits}
use Rattle.one_thread.specs.OneThread.{one_thread}
use Rattle.bx_engine.specs.declared.fault.InputFault.TheVariants as input_faults
use Rattle.bx_engine.specs.Ending.{Ending, InputRefused, SpecificationRefused, Built}
use Rattle.bx_engine.specs.Ends.{AreSources, Ends, IsEndless}

abbrev HasNoEnding : Limits → List ℕ → Type 0
HasNoEnding limits input = (ending : Ending) → Ends limits input ending → ⊥

-- an input with a fault is refused
of_fault : (limits : Limits) (input : List ℕ) (fault : BundleFault) → fault ≢ bundle_faults.Memory → Faults input fault
    → HasNoEnding limits input → ⊥
of_fault limits input bundle_faults.BadBundle n h none = none (InputRefused input_faults.BadBundle) h
of_fault limits input bundle_faults.BadPath n h none = none (InputRefused input_faults.BadPath) h
of_fault limits input bundle_faults.Unordered n h none = none (InputRefused input_faults.Unordered) h
of_fault limits input bundle_faults.Nested n h none = none (InputRefused input_faults.Nested) h
of_fault limits input bundle_faults.TooManyFiles n h none = none (InputRefused input_faults.TooManyFiles) h
of_fault limits input bundle_faults.TooLarge n h none = none (InputRefused input_faults.TooLarge) h
of_fault limits input bundle_faults.Memory n h none = n refl

-- source files end in some way
of_sources : (limits : Limits) (input : List ℕ) (sources : Files) → AreSources input sources → (IsEndless limits input → ⊥)
    → HasNoEnding limits input → ⊥
of_sources limits input sources are ends none = elim (some_plan_lem limits sources) [
  | inl plan ↦
      let results = one_thread plan.0 sources limits.tool_budget in
      none (Built plan.0 results) (sources, are, record { plans = plan.1; built = refl })
  | inr other ↦ elim other [
    | inl fault ↦ none (SpecificationRefused (refusal_of fault.0)) (sources, are, record { fault = fault.0; has = fault.1; shown = refl })
    | inr many ↦ ends (sources, are, many)
  ]
]

of_tree : (limits : Limits) (input : List ℕ) (sources : Files) → IsBundle input sources → (IsEndless limits input → ⊥) → HasNoEnding limits input → ⊥
of_tree limits input sources bundle ends none =
    let are : AreSources input sources = record {
      bundle = bundle;
      free = λ r. none (InputRefused input_faults.Reserved) (sources, bundle, r);
    } in
    of_sources limits input sources are ends none

pub some_ending : (limits : Limits) (input : List ℕ) → (IsEndless limits input → ⊥) → HasNoEnding limits input → ⊥
some_ending limits input ends none = elim (some_reading input) [
  | inl tree ↦ of_tree limits input tree.0 tree.1 ends none
  | inr fault ↦ of_fault limits input fault.0 fault.1 fault.2 none
]
