-- What a build comes to: how each input ends.
use Rattle.std.specs.Prelude.{◌≡◌, ℕ, List, Any}
use Rattle.bx_tree.specs.Trees.{Files, IsReserved}
use Rattle.bx_tree.specs.Bundle.{IsBundle, Faults}
use Rattle.bx_tree.specs.declared.bundle.BundleFault.TheVariants as bundle_faults
use Rattle.bx_engine_front.specs.Refusals.{Refuses}
use Rattle.bx_engine_front.specs.Specifications.{AsksForTooMany, Plans}
use Rattle.bx_engine_front.specs.declared.limits.Limits.{Limits}
use Rattle.one_thread.specs.OneThread.{Result, one_thread}
use Rattle.pip_model_types.specs.declared.pip.Pip.{Pip}
use Rattle.bx_engine.specs.Ending.{Ending, InputRefused, SpecificationRefused, Built}
use Rattle.bx_engine.specs.declared.fault.InputFault.{InputFault}
use Rattle.bx_engine.specs.declared.fault.InputFault.TheVariants as input_faults

-- ## Inputs

-- some source file has a path that belongs to the output
abbrev pub HasReserved : Files → Type 0
HasReserved sources = Any (λ file. IsReserved file.0) sources

-- the input is the bundle of these source files, none of which has a path that belongs to the output
pub record AreSources (input : List ℕ) (sources : Files) : Type 0 where
  pub bundle : IsBundle input sources
  pub free : HasReserved sources → ⊥

-- The input is refused with this fault: it is no bundle, and this is its first fault, or a path is reserved.
abbrev pub RefusesInput : List ℕ → InputFault → Type 0
RefusesInput input input_faults.BadBundle = Faults input bundle_faults.BadBundle
RefusesInput input input_faults.BadPath = Faults input bundle_faults.BadPath
RefusesInput input input_faults.Unordered = Faults input bundle_faults.Unordered
RefusesInput input input_faults.Nested = Faults input bundle_faults.Nested
RefusesInput input input_faults.TooManyFiles = Faults input bundle_faults.TooManyFiles
RefusesInput input input_faults.TooLarge = Faults input bundle_faults.TooLarge
RefusesInput input input_faults.Reserved = (sources : Files) × IsBundle input sources × HasReserved sources

-- ## Builds

-- The source files ask for these pips, and the build of them on one thread, without a cache, has these
-- results.
pub record Builds (limits : Limits) (sources : Files) (pips : List Pip) (results : List Result) : Type 0 where
  pub plans : Plans limits sources pips
  pub built : results ≡ one_thread pips sources limits.tool_budget

-- ## Endings

-- how an input ends, where evaluation and tools may take this many steps
abbrev pub Ends : Limits → List ℕ → Ending → Type 0
Ends limits input (InputRefused fault) = RefusesInput input fault
Ends limits input (SpecificationRefused refusal) =
    (sources : Files) × AreSources input sources × Refuses limits sources refusal
Ends limits input (Built pips results) =
    (sources : Files) × AreSources input sources × Builds limits sources pips results

-- The input has no ending, as its specification makes too many pips. They cannot be numbered, which is
-- answered as want of memory.
abbrev pub IsEndless : Limits → List ℕ → Type 0
IsEndless limits input = (sources : Files) × AreSources input sources × AsksForTooMany limits sources
