-- What the ways in which pips are decided say of the processes that the store would spare.
use Rattle.std.proofs.Common.{◌≡◌, ℕ, true, List, [], ◌∷◌, length, map, Option, None, sym, ap, ◌∙◌, subst, inl, inr, arith}
use Rattle.std.proofs.lemmas.Bool.{both_ways}
use Rattle.bx_tree.specs.Trees.{Files}
use Rattle.bx_io.specs.Holdings.{Holdings}
use Rattle.pip_model_types.specs.declared.desc.Desc.{Desc}
use Rattle.pip_model_types.specs.declared.made.Slot.{Slot}
use Rattle.pip_model_types.specs.declared.pip.Pip.{Pip}
use Rattle.pip_model_types.specs.declared.pip.PipKind.{PipKind}
use Rattle.pip_model_types.specs.declared.pip.PipKind.TheVariants.{Process, Copy, Write, Seal}
use Rattle.pip_model_types.specs.declared.pip.ProcessDesc.{ProcessDesc}
use Rattle.pip_model.specs.Edges.{targets}
use Rattle.observed.specs.declared.ask.Ask.{Ask}
use Rattle.observed.specs.declared.access.Answer.{Answer}
use Rattle.memo_format.specs.Found.{FoundParts}
use Rattle.memo_format.specs.declared.selector.Selector.{Selector}
use Rattle.bx_tree.specs.Members.{Has}
use Rattle.two_phase_meaning.specs.Usable.{AnyUsable, Usable, UsableBy}
use Rattle.pip_view_inputs.specs.Plain.{desc_of, kind_process}
use Rattle.pip_view_inputs.specs.Results.{inputs_of}
use Rattle.violations.specs.Slots.{slot_files}
use Rattle.pip_view.specs.Sees.{sees}
use Rattle.violations.specs.declared.verdict.Verdict.{Verdict}
use Rattle.one_thread.specs.OneThread.{inputs_are_good}
use Rattle.one_thread.specs.Views.{results_of, slots_are_good}
use Rattle.one_thread.proofs.GoingThrough.{IsSoFar, all_good, made_is}
use Rattle.two_phase.specs.Lookups.{LeadsIn}
use Rattle.retire.specs.HitSet.{PipHits, WorkHits}
use Rattle.retire_compared.specs.Compared.{desc_after, view_after}
use Rattle.retire.specs.Deciding as deciding
use Rattle.retire.specs.Deciding.{DecidedBy, Decides}
use Rattle.retire.specs.Taking.{TakesAlone, TakesBy, TakesFrom, way_of}
use Rattle.retire.specs.declared.deciding.Next.{Next}
use Rattle.retire.specs.declared.taking.Taken.{Taken}
use Rattle.retire.specs.declared.taking.Taken.TheVariants as takings
use Rattle.retire.specs.declared.taking.Way.{Way}
use Rattle.retire.specs.declared.taking.Way.TheVariants as ways
use Rattle.retire.proofs.Told.{IsTold, told_takes}
use Rattle.two_phase.specs.Reading.{ReaderData}
use Rattle.sched_board_slots.specs.declared.held.Held.{Held}

-- what a way says of whether the store would spare the pip
abbrev pub Tells : Type 0 → Way → Type 0
Tells P ways.Plain = P → ⊥
Tells P ways.Accepted = Unit {0}
Tells P ways.Hit = P
Tells P ways.Ran = P → ⊥
Tells P ways.Faulted = Unit {0}

-- ## Ways

any_listed : (S : Holdings) (d : Desc) (see : Ask → Answer) (list : List Selector) (s : Selector) → Has list s → UsableBy S d see s → AnyUsable S d see list
any_listed S d see [] s h u = absurd h
any_listed S d see (x ∷ rest) s h u = elim h [ inl here ↦ inl (subst (UsableBy S d see) (sym here) u) | inr later ↦ inr (any_listed S d see rest s later u) ]

pub hit_usable : (S : Holdings) (d : Desc) (see : Ask → Answer) (f : FoundParts) → LeadsIn S d see f → Usable S d see
hit_usable S d see f h = record { list = h.list; held = h.held; any = any_listed S d see h.list h.selector h.listed h.leads.usable }

way_tells : (S : Holdings) (d : Desc) (see : Ask → Answer) (t : Taken) → TakesFrom S d see t → Tells (Usable S d see) (way_of t)
way_tells S d see (takings.Accepted f) h = tt
way_tells S d see (takings.Hit f) h = hit_usable S d see f h.0
way_tells S d see (takings.Missed f) h = h
way_tells S d see (takings.Faulted f) h = tt

-- what a way says of one thing it says of another that is so just where the first is
tells_same : (P P' : Type 0) (way : Way) → (P → P') → (P' → P) → Tells P way → Tells P' way
tells_same P P' ways.Plain to back t = λ p. t (back p)
tells_same P P' ways.Accepted to back t = tt
tells_same P P' ways.Hit to back t = to t
tells_same P P' ways.Ran to back t = λ p. t (back p)
tells_same P P' ways.Faulted to back t = tt

no_process_hits : (pips : List Pip) (tree : Files) (budget : ℕ) (S : Holdings) (vs : List Verdict) (ss : List Slot) (n : ℕ) (kind : PipKind) → kind_process kind ≡ None
    → WorkHits pips tree budget S (results_of vs ss) n kind → ⊥
no_process_hits pips tree budget S vs ss n (Process p) e h = absurd cc
no_process_hits pips tree budget S vs ss n (Copy p) e h = h
no_process_hits pips tree budget S vs ss n (Write p) e h = h
no_process_hits pips tree budget S vs ss n (Seal p) e h = h

module _ (pips : List Pip) (tree : Files) (budget : ℕ) (n : ℕ) (vs : List Verdict) (ss : List Slot) (so_far : IsSoFar pips tree budget n vs ss) (S : Holdings) where
  even : length vs ≡ length ss
  even = omega (arith, so_far.verdicts, so_far.slots)

  goods : (kind : PipKind) → inputs_are_good pips kind (results_of vs ss) ≡ slots_are_good pips kind ss
  goods kind = all_good vs ss even so_far.agree (targets pips kind)

  abbrev desc_now : ProcessDesc → Desc
  desc_now p = desc_of tree (inputs_of pips (Process p) (map slot_files ss)) budget p

  abbrev view_now : ProcessDesc → Ask → Answer
  view_now p = sees pips tree (inputs_of pips (Process p) (map slot_files ss)) n

  desc_same : (p : ProcessDesc) → desc_after pips tree budget (results_of vs ss) p ≡ desc_now p
  desc_same p = ap (λ (made : List Files). desc_of tree (inputs_of pips (Process p) made) budget p) (made_is vs ss even)

  view_same : (p : ProcessDesc) → view_after pips tree (results_of vs ss) n p ≡ view_now p
  view_same p = ap (λ (made : List Files). sees pips tree (inputs_of pips (Process p) made) n) (made_is vs ss even)

  by_process : (reader : Option ReaderData) (slot : Held) (p : ProcessDesc) (next : Next) → IsTold reader S → slots_are_good pips (Process p) ss ≡ true
      → DecidedBy pips tree budget reader slot (map slot_files ss) (inputs_of pips (Process p) (map slot_files ss)) n p next
      → Tells (PipHits pips tree budget S (results_of vs ss) n (Process p)) next.way
  by_process reader slot p next told good d =
      subst (Tells (PipHits pips tree budget S (results_of vs ss) n (Process p))) (sym d.way_is)
      (tells_same (Usable S (desc_now p) (view_now p)) (PipHits pips tree budget S (results_of vs ss) n (Process p)) (way_of d.taken)
      (λ u. (
        goods (Process p) ∙ good,
        subst (λ (e : Desc). Usable S e (view_after pips tree (results_of vs ss) n p)) (sym (desc_same p))
            (subst (λ (v : Ask → Answer). Usable S (desc_now p) v) (sym (view_same p)) u),
      ))
      (λ h. subst (λ (v : Ask → Answer). Usable S (desc_now p) v) (view_same p)
      (subst (λ (e : Desc). Usable S e (view_after pips tree (results_of vs ss) n p)) (desc_same p) h.1))
      (way_tells S (desc_now p) (view_now p) d.taken (told_takes reader S (desc_now p) (view_now p) d.taken told d.takes)))

  -- the way in which a pip is decided says whether the store would spare it
  pub tells : (reader : Option ReaderData) (slot : Held) (kind : PipKind) (next : Next) → IsTold reader S → Decides pips tree budget reader slot ss n kind next
      → Tells (PipHits pips tree budget S (results_of vs ss) n kind) next.way
  tells reader slot kind next told (deciding.skipped e d) =
      subst (Tells (PipHits pips tree budget S (results_of vs ss) n kind)) (sym d.way_is)
      (λ h. both_ways (slots_are_good pips kind ss) e (sym (goods kind) ∙ h.0))
  tells reader slot kind next told (deciding.plain e none d) =
      subst (Tells (PipHits pips tree budget S (results_of vs ss) n kind)) (sym d.way_is)
      (λ h. no_process_hits pips tree budget S vs ss n kind none h.1)
  tells reader slot kind next told (deciding.process p e is d) =
      subst (λ (k : PipKind). Tells (PipHits pips tree budget S (results_of vs ss) n k) next.way) (sym is)
      (by_process reader slot p next told (subst (λ (k : PipKind). slots_are_good pips k ss ≡ true) is e) d)

-- without a store nothing is said but what runs and what was accepted
alone_tells : (t : Taken) → TakesAlone t → Tells ⊥ (way_of t)
alone_tells (takings.Accepted f) h = tt
alone_tells (takings.Hit f) h = absurd h
alone_tells (takings.Missed f) h = λ b. b
alone_tells (takings.Faulted f) h = absurd h

pub tells_alone : (reader : Option ReaderData) (slot : Held) (pips : List Pip) (tree : Files) (budget n : ℕ) (ss : List Slot) (kind : PipKind) (next : Next) → reader ≡ None
    → Decides pips tree budget reader slot ss n kind next → Tells ⊥ next.way
tells_alone reader slot pips tree budget n ss kind next none (deciding.skipped e d) = subst (Tells ⊥) (sym d.way_is) (λ b. b)
tells_alone reader slot pips tree budget n ss kind next none (deciding.plain e no_process d) = subst (Tells ⊥) (sym d.way_is) (λ b. b)
tells_alone reader slot pips tree budget n ss kind next none (deciding.process p e is d) =
    subst (Tells ⊥) (sym d.way_is)
    (alone_tells d.taken
    (subst
    (λ (r : Option ReaderData). TakesBy r (desc_of tree (inputs_of pips (Process p) (map slot_files ss)) budget p) (sees pips tree (inputs_of pips (Process p) (map slot_files ss)) n) d.taken)
    none d.takes))
