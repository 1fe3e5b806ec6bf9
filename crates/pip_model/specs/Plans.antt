-- What a plan keeps beside its pips.
use Rattle.std.specs.Prelude.{◌≡◌, ◌↔◌, ℕ, ◌<◌, ◌≤◌, ◌+◌, ◌/◌, List, length, Contains}
use Rattle.std.specs.List.{All, HoldsAt}
use Rattle.std.specs.List.Sorted.{IsStrictlyIncreasing}
use Rattle.pip_model_types.specs.declared.pip.Pip.{Pip}
use Rattle.pip_model.specs.declared.bits.TheConstants.{WORD_BITS}
use Rattle.pip_model.specs.declared.plan.TheConstants.{MAX_PIPS}
use Rattle.pip_model.specs.Edges.{Edge}
use Rattle.pip_model.specs.Bits.{HasBit}
use Rattle.pip_model.specs.Listings.{HasListingsOf}
use Rattle.pip_model.specs.Outputs.{HasOutputsOf, Numbered}
use Rattle.pip_model.specs.declared.listings.Listing.{Listing}
use Rattle.pip_model.specs.Walks.{Walk}

-- the pips that a pip waits for, rising, each once
pub record AreInputs (pips : List Pip) (pip : ℕ) (inputs : List ℕ) : Type 0 where
  pub rising : IsStrictlyIncreasing inputs
  pub edges : (j : ℕ) → Contains inputs j ↔ Edge pips pip j

-- for each pip, the pips that it waits for
pub record AreAllInputs (pips : List Pip) (all : List (List ℕ)) : Type 0 where
  pub size : length all ≡ length pips
  pub each : (i : ℕ) → i < length pips → HoldsAt (AreInputs pips i) all i

-- the row of a number has just the numbers to which walks from it lead
abbrev pub IsReachOf : (ℕ → ℕ → Type 0) → ℕ → List ℕ → Type 0
IsReachOf E i row = (k : ℕ) → HasBit row k ↔ Walk E i k

-- a row for each number below some number, none with more words than that number needs
pub record AreRows (E : ℕ → ℕ → Type 0) (rows : List (List ℕ)) : Type 0 where
  pub size : All (λ row. length row ≤ length rows / WORD_BITS + 1) rows
  pub each : (i : ℕ) → i < length rows → HoldsAt (IsReachOf E i) rows i

-- a plan: its pips, and the steps that each tool may take
pub record PlanData : Type 0 where
  pub pips : List Pip
  pub tool_budget : ℕ

-- what a plan keeps of its pips
pub record KeepsPlan (pips : List Pip) (inputs rows : List (List ℕ)) (outputs : Numbered) (listings : List Listing)
    : Type 0 where
  pub few : length pips ≤ MAX_PIPS
  pub all_inputs : AreAllInputs pips inputs
  pub all_rows : length rows ≡ length pips
  pub reach : (i : ℕ) → i < length pips → HoldsAt (IsReachOf (Edge pips) i) rows i
  pub outputs_of : HasOutputsOf pips outputs
  pub listings_of : HasListingsOf pips listings
