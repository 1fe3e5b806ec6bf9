-- A store that is honest at first is honest all its life.
use Rattle.std.proofs.Common.{ℕ, zero, suc, ◌+◌, List, [], ◌∷◌, take, is_some, sym, ap, subst, inl, inr}
use Rattle.std.specs.List.{AllByRecursion}
use Rattle.bx_tree.specs.Trees.{Files}
use Rattle.bx_io.specs.Holdings.{Change, Holdings, holdings_after}
use Rattle.pip_model_types.specs.declared.pip.Pip.{Pip}
use Rattle.tool_run.specs.Described.{described}
use Rattle.tool_run.proofs.Depends.{depends}
use Rattle.run_record.specs.Facts.{Facts}
use Rattle.run_record.proofs.Stored.{sound}
use Rattle.two_phase_meaning.specs.Honest.{Honest}
use Rattle.retire_compared.specs.Compared.{Compared}
use Rattle.retire.specs.Builds.{Between}
use Rattle.retire.proofs.Chain.{IsReady, Leaves, chain}
use Rattle.retire.proofs.SoFar.{success_met}
use Rattle.cache_care.proofs.Repaired.{repairs_honest}
use Rattle.cache_care.proofs.Trimmed.{trims_honest}
use Rattle.bx_engine.specs.Lives.{Comes, Deed, Built, Does, DoesBuild, Repaired, Trimmed}
use Rattle.bx_engine.proofs.StoresLeft.{left_honest}

-- ## A build

all_ready : (pips : List Pip) (tree : Files) (budget : ℕ) (S : Holdings) (low high : ℕ) (fs : List Facts) → Between pips tree budget low high fs
    → AllByRecursion (IsReady (Compared pips tree budget S)) fs
all_ready pips tree budget S low high [] h = tt
all_ready pips tree budget S low high (f ∷ fs) h = (
  record {
    sound = sound f f.desc h.0.see (depends (described f.desc)) h.0.run;
    good = h.0.good;
    met = success_met pips tree budget S f h.0;
  },
  all_ready pips tree budget S (h.0.pip + 1) high fs h.2,
)

first_ready : (M : List ℕ → Type 0) (n : ℕ) (fs : List Facts) → AllByRecursion (IsReady M) fs → AllByRecursion (IsReady M) (take n fs)
first_ready M zero fs h = tt
first_ready M (suc n) [] h = tt
first_ready M (suc n) (f ∷ fs) h = (h.0, first_ready M n fs h.1)

build_honest : (pips : List Pip) (tree : Files) (budget : ℕ) (S : Holdings) (made : List Change) → Honest S → DoesBuild S pips tree budget made
    → Honest (holdings_after S made)
build_honest pips tree budget S made honest d =
    let M : List ℕ → Type 0 = Compared pips tree budget S in
    let first : List Facts = take d.puts.number d.records in
    let left : Leaves S d.before first d.now =
    chain M d.apart first S d.before d.now d.was (ap is_some d.is)
    (first_ready M d.puts.number d.records (all_ready pips tree budget S 0 d.high d.records d.between)) (λ x there. inl there) honest d.puts.each in
    left_honest S (holdings_after S made) d.before d.now d.was d.is left.honest

-- ## A life

deed_honest : (S : Holdings) (deed : Deed) (made : List Change) → Honest S → Does S deed made → Honest (holdings_after S made)
deed_honest S (Built pips tree budget) made honest h = build_honest pips tree budget S made honest h
deed_honest S (Trimmed keep) made honest h = trims_honest S keep made honest h
deed_honest S Repaired made honest h = elim h [
  | inl none ↦ subst (λ (cs : List Change). Honest (holdings_after S cs)) (sym none) honest
  | inr r ↦ repairs_honest S r.0 made honest r.1 r.2
]

pub life_honest : (S T : Holdings) (deeds : List Deed) → Honest S → Comes S deeds T → Honest T
life_honest S T [] honest h = subst Honest h honest
life_honest S T (deed ∷ deeds) honest h =
    life_honest (holdings_after S h.0) T deeds (deed_honest S deed h.0 honest h.1) h.2
