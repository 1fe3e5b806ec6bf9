-- How an honest store is left.
use Rattle.std.proofs.Common.{◌≡◌, ℕ, inl, inr, Bool, true, false, List, [], Some, refl, sym, ◌∙◌, subst, append-nil}
use Rattle.std.specs.Prelude.{IsSome}
use Rattle.bx_tree.specs.Trees.{Files}
use Rattle.bx_io.specs.Holdings.{Change, Holdings, Keeps, StoreTold, held_in, holdings_after}
use Rattle.bx_io.proofs.Changes.{keeps_all, makes_none, nothing_before, told_after}
use Rattle.std.proofs.lemmas.Option.{same_Some}
use Rattle.bx_engine_front.specs.Specifications.{Plans}
use Rattle.bx_engine_front.specs.declared.limits.Limits.{Limits}
use Rattle.pip_model_types.specs.declared.pip.Pip.{Pip}
use Rattle.two_phase.specs.Putting.{LeavesHonest}
use Rattle.two_phase_meaning.specs.Honest.{Honest}
use Rattle.retire.specs.Builds.{IsFair, LeavesFair}
use Rattle.retire.specs.Saving.{OnlyPuts}
use Rattle.bx_engine.specs.Ends.{AreSources}
use Rattle.bx_engine.specs.Stores.{FairWhere, StoreLeft}
use Rattle.bx_engine.proofs.FairPlans.{fair_is}

-- a store that is as it was
pub keeps_same : (before now : StoreTold) → now ≡ before → Keeps before now
keeps_same before now is = subst (Keeps before) (sym is) (keeps_all before)

-- where nothing was changed
pub left_same : (limits : Limits) (input : List ℕ) (held : Holdings) (before now : StoreTold) → Keeps before now → Honest held → StoreLeft limits input held before now
left_same limits input held before now keeps honest = record {
  honest = record {
    made = [];
    makes = makes_none before now keeps;
    along = λ start p. subst (λ (cs : List Change). Honest (holdings_after held cs)) (sym (nothing_before start p)) honest;
  };
  came = inl keeps;
}

-- where the pips that the input asks for were gone through
left_of_build : (limits : Limits) (input : List ℕ) (tree : Files) (pips : List Pip) (held : Holdings) (before now : StoreTold) → AreSources input tree
    → Plans limits tree pips → LeavesFair pips tree limits.tool_budget held before now → StoreLeft limits input held before now
left_of_build limits input tree pips held before now sources plans l = record { honest = l.honest; came = inr (tree, pips, sources, plans, l) }

-- the build of the plan of an input, by whether it uses the store
left_where : (cached : Bool) (limits : Limits) (input : List ℕ) (tree : Files) (pips : List Pip) (held : Holdings) (before now : StoreTold) → held_in before ≡ Some held
    → Honest held → FairWhere cached limits input (held_in before) (held_in now) → AreSources input tree → Plans limits tree pips
    → (IsSome (held_in now) → IsFair pips tree limits.tool_budget held → LeavesFair pips tree limits.tool_budget held before now)
    → (cached ≡ false → Keeps before now) → StoreLeft limits input held before now
left_where false limits input tree pips held before now was honest fair sources plans leaves unused = left_same limits input held before now (unused refl) honest
left_where true limits input tree pips held before now was honest fair sources plans leaves unused =
    let at = fair tree pips sources plans in
    left_of_build limits input tree pips held before now sources plans
    (leaves at.tells (fair_is pips tree limits.tool_budget (held_in before) (held_in now) held at was))

-- the plan is given with its own sources and budget
pub left_of_plan : (cached : Bool) (limits : Limits) (input : List ℕ) (tree given : Files) (pips : List Pip) (budget : ℕ) (held : Holdings) (before now : StoreTold)
    → held_in before ≡ Some held → Honest held → FairWhere cached limits input (held_in before) (held_in now) → AreSources input tree → Plans limits tree pips
    → given ≡ tree → budget ≡ limits.tool_budget
    → (IsSome (held_in now) → IsFair pips given budget held → LeavesFair pips given budget held before now) → (cached ≡ false → Keeps before now)
    → StoreLeft limits input held before now
left_of_plan cached limits input tree given pips budget held before now was honest fair sources plans same steps leaves unused =
    let here : IsSome (held_in now) → IsFair pips tree budget held → LeavesFair pips tree budget held before now =
    subst (λ (t : Files). IsSome (held_in now) → IsFair pips t budget held → LeavesFair pips t budget held before now) same leaves in
    let there : IsSome (held_in now) → IsFair pips tree limits.tool_budget held → LeavesFair pips tree limits.tool_budget held before now =
    subst (λ (b : ℕ). IsSome (held_in now) → IsFair pips tree b held → LeavesFair pips tree b held before now) steps here in
    left_where cached limits input tree pips held before now was honest fair sources plans there unused

-- what is left honest is honest, where it is told
pub left_honest : (held S : Holdings) (before now : StoreTold) → held_in before ≡ Some held → held_in now ≡ Some S → LeavesHonest held before now → Honest S
left_honest held S before now was is left =
    subst Honest (same_Some (holdings_after held left.made) S (sym (told_after before now left.made held S was is left.makes) ∙ is))
    (left.along left.made (record { rest = []; joined = append-nil left.made }))

-- nothing was put
pub none_put : (before now : StoreTold) → Keeps before now → OnlyPuts before now
none_put before now keeps = ([], tt, record { number = 0; each = keeps })
