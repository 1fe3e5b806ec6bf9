-- The store of graphs of a call: what is asked of it, said of it and left of it.
use Rattle.std.proofs.Common.{◌≡◌, ◌⊎◌, ℕ, Bool, true, false, cond, ◌&&◌, List, [], Option, Some, None, inl, inr, refl, sym, ◌∙◌, subst, arith, append-nil}
use Rattle.std.specs.Prelude.{IsSome}
use Rattle.std.proofs.lemmas.Option.{same_Some}
use Rattle.bx_io.specs.Holdings.{Change, Holdings, Keeps, StoreTold, held_in, holdings_after}
use Rattle.bx_io.proofs.Changes.{keeps_all, makes_none, nothing_before, told_after}
use Rattle.bx_tree.specs.Trees.{Files}
use Rattle.build_report.specs.declared.counts.GraphLine.{GraphLine}
use Rattle.build_report.specs.declared.counts.GraphLine.TheVariants.{Ran}
use Rattle.bx_engine_front.specs.Graphs.{FairGraphs, GraphsLeft, OnlyKeepsGraph, RefusesBy, TellsGraphs}
use Rattle.bx_engine_front.specs.StoreChanges.{StoreChange, change_of}
use Rattle.bx_engine_front.specs.declared.fault.FrontFault.{FrontFault}
use Rattle.bx_engine_front.specs.declared.fault.FrontFault.TheVariants as front_faults
use Rattle.bx_engine_front.specs.declared.limits.Limits.{Limits}
use Rattle.bx_engine_words.specs.Words.{asks_graphs}
use Rattle.bx_engine_words.specs.declared.order.Order.{Order}
use Rattle.graph_memo.specs.Keeping.{LeavesHonest}
use Rattle.graph_memo_meaning.specs.Honest.{HonestGraphs}
use Rattle.pip_model_types.specs.declared.pip.Pip.{Pip}
use Rattle.bx_engine.specs.Ends.{AreSources}
use Rattle.bx_engine.specs.Expected.{limits_of, no_steps}
use Rattle.bx_engine.specs.Graphs.{FairGraphsWhere, HonestGraphsLeft, KeepsGraphs, KeepsOfInput, LeavesGraphs, TellsLineWhere}
use Rattle.bx_engine.specs.Responses.{IsResponseToFault}
use Rattle.bx_engine.specs.Statuses.{HasNoTree, IsGone}
use Rattle.bx_engine.specs.Stores.{FairGraphStore, TellsLine, uses_store}
use Rattle.bx_engine.specs.TreeGraphs.{IsFairFor, TellsTreeWhere}
use Rattle.bx_engine.specs.declared.response.Response.{Response}
use Rattle.bx_engine.specs.declared.status.Status.{Status}
use Rattle.bx_engine.specs.declared.status.Status.TheVariants as statuses
use Rattle.bx_engine.proofs.OneEnding.{one_source}

-- ## Of the tree that the input is

pub fair_tree : (used : Bool) (limits : Limits) (input : List ℕ) (tree : Files) (change : StoreChange) → FairGraphsWhere (Some change) used limits input
    → AreSources input tree → IsFairFor used limits tree (held_in change.before) (held_in change.now)
fair_tree false limits input tree change fair sources = tt
fair_tree true limits input tree change fair sources = fair tree sources

pub tells_input : (asks cached : Bool) (limits : Limits) (input : List ℕ) (tree : Files) (change : StoreChange) (pips : List Pip) (line : Option GraphLine)
    → AreSources input tree → TellsTreeWhere asks cached limits tree change pips line → TellsLineWhere asks cached (Some change) limits input pips line
tells_input false cached limits input tree change pips line sources h = h
tells_input true false limits input tree change pips line sources h = h
tells_input true true limits input tree change pips line sources h = (
  h.0,
  h.1,
  λ other are. subst (λ (t : Files). TellsGraphs limits t change pips h.0) (one_source input tree other sources are) h.2,
)

pub refuses_input : (used : Bool) (limits : Limits) (input : List ℕ) (tree : Files) (change : StoreChange) (fault : FrontFault) → AreSources input tree
    → RefusesBy (IsFairFor used limits tree (held_in change.before) (held_in change.now)) limits tree fault
    → RefusesBy (FairGraphsWhere (Some change) used limits input) limits tree fault
refuses_input used limits input tree change fault sources h = elim h [
  | inl refused ↦ inl refused
  | inr rule ↦ inr (rule.0, λ fair. rule.1 (fair_tree used limits input tree change fair sources))
]

-- ## Of a plan

pub fair_used : (used : Bool) (limits : Limits) (tree : Files) (before now : Option Holdings) → used ≡ true → IsFairFor used limits tree before now
    → FairGraphs limits tree before now
fair_used used limits tree before now on fair = subst (λ (b : Bool). IsFairFor b limits tree before now) on fair

pub refuses_used : (used : Bool) (limits : Limits) (tree : Files) (before now : Option Holdings) (fault : FrontFault) → used ≡ true
    → RefusesBy (FairGraphs limits tree before now) limits tree fault → RefusesBy (IsFairFor used limits tree before now) limits tree fault
refuses_used used limits tree before now fault on h = elim h [
  | inl refused ↦ inl refused
  | inr rule ↦ inr (rule.0, λ fair. rule.1 (fair_used used limits tree before now on fair))
]

pub tells_used : (asks cached : Bool) (limits : Limits) (tree : Files) (change : StoreChange) (pips : List Pip) (told : GraphLine) → (asks && cached) ≡ true
    → TellsGraphs limits tree change pips told → TellsTreeWhere asks cached limits tree change pips (Some told)
tells_used false cached limits tree change pips told on h = absurd cc
tells_used true false limits tree change pips told on h = absurd cc
tells_used true true limits tree change pips told on h = (told, refl, h)

pub tells_unused : (asks cached : Bool) (limits : Limits) (tree : Files) (change : StoreChange) (pips : List Pip) → (asks && cached) ≡ false
    → TellsTreeWhere asks cached limits tree change pips (cond asks (Some Ran) None)
tells_unused false cached limits tree change pips off = refl
tells_unused true false limits tree change pips off = refl
tells_unused true true limits tree change pips off = absurd cc

-- ## What is left

-- where nothing was changed
nothing_changed : (held : Holdings) (before now : StoreTold) → now ≡ before → HonestGraphs held → LeavesHonest held before now
nothing_changed held before now same honest = record {
  made = [];
  makes = makes_none before now (subst (λ (k : StoreTold). Keeps before k) (sym same) (keeps_all before));
  along = λ start p. subst (λ (cs : List Change). HonestGraphs (holdings_after held cs)) (sym (nothing_before start p)) honest;
}

pub same_leaves : (known : StoreTold) (held : Holdings) → held_in known ≡ Some held → IsSome (held_in known) → HonestGraphs held
    → LeavesHonest held known known
same_leaves known held was tells honest = nothing_changed held known known refl honest

pub tree_leaves : (used : Bool) (limits : Limits) (input : List ℕ) (tree : Files) (change : StoreChange) → AreSources input tree
    → GraphsLeft limits tree change → (used ≡ false → change.now ≡ change.before) → FairGraphsWhere (Some change) used limits input
    → LeavesGraphs (Some change)
tree_leaves false limits input tree change sources left same fair = λ held was tells honest.
    nothing_changed held change.before change.now (same refl) honest
tree_leaves true limits input tree change sources left same fair = λ held was tells honest.
    left.honest held was tells honest (fair tree sources)

pub same_kept : (known : StoreTold) (bound : Option ℕ) (faults : ℕ) → KeepsGraphs (change_of known known bound faults faults)
same_kept known bound faults = record { limits = no_steps; tree = []; only = inl (keeps_all known); later = omega arith }

pub tree_kept : (limits : Limits) (tree : Files) (change : StoreChange) → GraphsLeft limits tree change → KeepsGraphs change
tree_kept limits tree change left = record { limits = limits; tree = tree; only = left.only; later = left.later }

pub same_keeps : (known : StoreTold) (bound : Option ℕ) (faults : ℕ) (limits : Limits) (input : List ℕ)
    → KeepsOfInput (Some (change_of known known bound faults faults)) limits input
same_keeps known bound faults limits input = λ sources are. inl (keeps_all known)

pub tree_keeps : (limits : Limits) (input : List ℕ) (tree : Files) (change : StoreChange) → AreSources input tree → GraphsLeft limits tree change
    → KeepsOfInput (Some change) limits input
tree_keeps limits input tree change sources left = λ other are.
    subst (λ (t : Files). OnlyKeepsGraph limits t change.before change.now) (one_source input tree other sources are) left.only

-- what is left honest after each change is honest
pub graphs_honest : (graphs : Option StoreChange) → LeavesGraphs graphs → HonestGraphsLeft graphs
graphs_honest None left = tt
graphs_honest (Some change) left = λ held now was honest is.
    let l = left held was (subst (λ (t : Option Holdings). IsSome t) (sym is) refl) honest in
    subst HonestGraphs (same_Some (holdings_after held l.made) now (sym (told_after change.before change.now l.made held now was is l.makes) ∙ is))
    (l.along l.made (record { rest = []; joined = append-nil l.made }))

-- ## Statuses

pub gone_has_tree : (status : Status) → IsGone status → HasNoTree status → ⊥
gone_has_tree status gone none = elim gone [
  | inl done ↦ elim none [ inl a ↦ cc | inr b ↦ elim b [ inl c ↦ cc | inr d ↦ cc ] ]
  | inr failed ↦ elim none [ inl a ↦ cc | inr b ↦ elim b [ inl c ↦ cc | inr d ↦ cc ] ]
]

pub memory_is_no_tree : HasNoTree statuses.OutOfMemory → ⊥
memory_is_no_tree none = elim none [ inl a ↦ cc | inr b ↦ elim b [ inl c ↦ cc | inr d ↦ cc ] ]

cut_is_no_tree : HasNoTree statuses.OutFailed → ⊥
cut_is_no_tree none = elim none [ inl a ↦ cc | inr b ↦ elim b [ inl c ↦ cc | inr d ↦ cc ] ]

-- the status of a response that was delivered
pub no_tree_status : (status result : Status) → (result ≡ status) ⊎ (result ≡ statuses.OutFailed) → HasNoTree result → HasNoTree status
no_tree_status status result came none = elim came [
  | inl same ↦ subst HasNoTree same none
  | inr cut ↦ absurd (cut_is_no_tree (subst HasNoTree cut none))
]

refused_has_tree : (status : Status) → status ≡ statuses.SpecificationRefused → HasNoTree status → ⊥
refused_has_tree status is none = elim none [ inl a ↦ cc | inr b ↦ elim b [ inl c ↦ cc | inr d ↦ cc ] ]

pub fault_has_tree : (fault : FrontFault) (response : Response) → IsResponseToFault fault response → HasNoTree response.status → ⊥
fault_has_tree (front_faults.Refused refusal) response h none = refused_has_tree response.status h.status_is none
fault_has_tree front_faults.Memory response h none = h

-- ## Orders that ask for no store of graphs

pub fair_unused : (order : Order) (input : List ℕ) (graphs : Option StoreChange) → asks_graphs order ≡ false → FairGraphStore order input graphs
fair_unused order input None plain = tt
fair_unused order input (Some change) plain = by_asks (asks_graphs order) plain
  where
    by_asks : (b : Bool) → b ≡ false → FairGraphsWhere (Some change) (b && uses_store order) (limits_of order) input
    by_asks false e = tt
    by_asks true e = absurd cc

pub tells_plain : (order : Order) (input : List ℕ) (graphs other : Option StoreChange) (pips : List Pip) (line : Option GraphLine)
    → asks_graphs order ≡ false → TellsLine order input graphs pips line → TellsLine order input other pips line
tells_plain order input graphs other pips line plain h = by_asks (asks_graphs order) plain h
  where
    by_asks : (b : Bool) → b ≡ false → TellsLineWhere b (uses_store order) graphs (limits_of order) input pips line
        → TellsLineWhere b (uses_store order) other (limits_of order) input pips line
    by_asks false e h = h
    by_asks true e h = absurd (true_or_false e)
      where
        true_or_false : true ≡ false → ⊥
        true_or_false e = cc
