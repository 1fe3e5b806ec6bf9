-- The files of a pip keep to it, whatever the store holds.
use Rattle.std.proofs.Common.{◌≡◌, ◌⊎◌, ℕ, Bool, true, false, ◌&&◌, ◌||◌, List, [], ◌∷◌, ◌++◌, length, map, Option, Some, None, refl, sym, ap, ◌∙◌, subst, inl, inr}
use Rattle.std.specs.Prelude.{slice_get}
use Rattle.std.specs.List.{list_all, list_any}
use Rattle.std.specs.Option.{option_map_or, option_to_list}
use Rattle.std.proofs.lemmas.Bool.{or_cases}
use Rattle.std.proofs.lemmas.List.{length-map, map-append}
use Rattle.bx_tree.specs.Orders.{same_path_decides}
use Rattle.bx_tree.specs.Paths.{Atoms, IsBelow, has_path}
use Rattle.bx_tree.specs.Trees.{Files, paths_of}
use Rattle.bx_tree.specs.Members.{Has}
use Rattle.bx_tree.proofs.Sets.{contains_has}
use Rattle.two_phase.specs.Reading.{ReaderData}
use Rattle.sched_board_slots.specs.declared.held.Held.{Held}
use Rattle.observed.specs.declared.ask.Ask.{Ask}
use Rattle.observed.specs.declared.access.Answer.{Answer}
use Rattle.bx_tree.specs.Below.{is_below}
use Rattle.bx_tree.proofs.BelowPaths.{below_decides}
use Rattle.bx_tree.proofs.Members.{has_back, has_front, passes_all, found_has}
use Rattle.pip_model_types.specs.declared.desc.Desc.{Desc}
use Rattle.pip_model_types.specs.declared.made.Slot.{Slot}
use Rattle.pip_model_types.specs.declared.outputs.OutDir.{OutDir}
use Rattle.pip_model_types.specs.declared.pip.Pip.{Pip}
use Rattle.pip_model_types.specs.declared.pip.PipKind.{PipKind}
use Rattle.pip_model_types.specs.declared.pip.PipKind.TheVariants.{Process}
use Rattle.pip_model_types.specs.declared.pip.ProcessDesc.{ProcessDesc}
use Rattle.pip_view_inputs.specs.Plain.{desc_of}
use Rattle.pip_view_inputs.specs.Results.{inputs_of}
use Rattle.violations.specs.Slots.{slot_files}
use Rattle.pip_view.specs.Sees.{sees}
use Rattle.two_phase_meaning.specs.Usable.{fits, may_make}
use Rattle.violations.specs.DoubleWrites.{clash_at}
use Rattle.one_thread.specs.OneThread.{Result, by_outcome}
use Rattle.one_thread.specs.Views.{ended_result}
use Rattle.one_thread.specs.Keeping.{AreKept, AreOwnOutputs, KeptAt, Makes}
use Rattle.one_thread.proofs.Meeting.{Apart}
use Rattle.one_thread.proofs.OneMore.{one_more_kept}
use Rattle.one_thread.proofs.OneResult.{AllHold, none_kept, of_kind, of_outcome, of_unclashed}
use Rattle.retire.specs.Deciding as deciding
use Rattle.retire.specs.Deciding.{Decides, DecidesAt}
use Rattle.retire.specs.Taking.{IsOfNow, outcome_in}
use Rattle.retire.specs.declared.deciding.Next.{Next}
use Rattle.retire.specs.declared.taking.Taken.{Taken}
use Rattle.retire.specs.declared.taking.Taken.TheVariants as takings
use Rattle.retire.proofs.Along.{accepted_ran, ran_is}
use Rattle.pip_model_types.specs.Outputs.{is_console}

-- ## What fits a process, it makes

three_cases : (a b c : Bool) → (a || b || c) ≡ true → (a ≡ true) ⊎ ((b ≡ true) ⊎ (c ≡ true))
three_cases true b c e = inl refl
three_cases false true c e = inr (inl refl)
three_cases false false c e = inr (inr e)

last_true : (a b c : Bool) → (a && b && c) ≡ true → c ≡ true
last_true true true c e = e
last_true true false c e = cc
last_true false b c e = cc

has_console : (console : Option Atoms) (path : Atoms) → is_console console path ≡ true → Has (option_to_list console) path
has_console None path e = cc
has_console (Some p) path e = inl ((same_path_decides p path).0 e)

has_dir : (dirs : List OutDir) (path : Atoms) → list_any (λ (dir : OutDir). is_below path dir.path) dirs ≡ true
    → (dir : OutDir) × Has dirs dir × IsBelow path dir.path
has_dir [] path e = cc
has_dir (dir ∷ dirs) path e = elim (or_cases (is_below path dir.path) (list_any (λ (d : OutDir). is_below path d.path) dirs) e) [
  | inl here ↦ (dir, inl refl, (below_decides path dir.path).0 here)
  | inr more ↦ let rest = has_dir dirs path more in (rest.0, inr rest.1, rest.2)
]

may_makes : (p : ProcessDesc) (path : Atoms) → may_make p path ≡ true → Makes (Process p) path
may_makes p path e = elim (three_cases (has_path p.outs path) (is_console p.console path) (list_any (λ (dir : OutDir). is_below path dir.path) p.outdirs) e) [
  | inl out ↦ inl (has_front p.outs (option_to_list p.console) path (found_has p.outs path out))
  | inr other ↦ elim other [
    | inl console ↦ inl (has_back p.outs (option_to_list p.console) path (has_console p.console path console))
    | inr dir ↦ inr (has_dir p.outdirs path dir)
  ]
]

fit_makes : (p : ProcessDesc) (paths : List Atoms) (path : Atoms) → fits p paths ≡ true → Has paths path → Makes (Process p) path
fit_makes p paths path e h =
    may_makes p path
    (passes_all (may_make p) paths path
    (last_true (list_all (has_path paths) p.outs) (option_map_or (has_path paths) p.console true) (list_all (may_make p) paths) e) h)

-- ## One pip

module _ (pips : List Pip) (tree : Files) (budget : ℕ) (apart : Apart pips) (hold : AllHold) (ss : List Slot) (n : ℕ) (pip : Pip)
    (at : slice_get pips n ≡ Some pip) where
  abbrev made : List Files
  made = map slot_files ss

  of_taken : (x : Desc) (see : Ask → Answer) (slot : Held) (t : Taken) → pip.kind ≡ Process x.process → IsOfNow x see slot t
      → AreOwnOutputs pips made n (Process x.process) (by_outcome pips tree made n (outcome_in t)).files
  of_taken x see slot (takings.Accepted f) is now =
      of_outcome pips apart hold tree made n pip at x see is f.outcome (sym (accepted_ran f x see now.1 now.2))
  of_taken x see slot (takings.Hit f) is now =
      of_unclashed pips apart hold tree made n pip at x.process f.made is (λ q h. fit_makes x.process (paths_of f.made) q now.1.fit h)
      (λ p q a b below. now.1.unnested q p (contains_has (paths_of f.made) q b) (contains_has (paths_of f.made) p a) below)
      (clash_at pips made n f.made) refl
  of_taken x see slot (takings.Missed f) is now =
      of_outcome pips apart hold tree made n pip at x see is f.outcome (sym (ran_is f x see now.2))
  of_taken x see slot (takings.Faulted f) is now =
      of_outcome pips apart hold tree made n pip at x see is f.outcome (sym (ran_is f x see now.2))

  abbrev files_as : (next : Next) (r : Result) → ended_result next.ended ≡ r → slot_files next.ended.slot ≡ r.files
  files_as next r e = ap (λ (x : Result). x.files) e

  placed : (reader : Option ReaderData) (slot : Held) (next : Next) → Decides pips tree budget reader slot ss n pip.kind next
      → AreOwnOutputs pips made n pip.kind (slot_files next.ended.slot)
  placed reader slot next (deciding.skipped e d) =
      subst (λ (fs : Files). AreOwnOutputs pips made n pip.kind fs) (sym (files_as next _ d.result_is)) (none_kept pips made n pip.kind)
  placed reader slot next (deciding.plain e none d) =
      subst (λ (fs : Files). AreOwnOutputs pips made n pip.kind fs) (sym (files_as next _ d.result_is))
      (of_kind pips apart hold tree made n pip at budget (inputs_of pips pip.kind made) pip.kind refl)
  placed reader slot next (deciding.process p e is d) =
      let inputs = inputs_of pips (Process p) made in
      subst (λ (k : PipKind). AreOwnOutputs pips made n k (slot_files next.ended.slot)) (sym is)
      (subst (λ (fs : Files). AreOwnOutputs pips made n (Process p) fs) (sym (files_as next _ d.result_is))
      (of_taken (desc_of tree inputs budget p) (sees pips tree inputs n) slot d.taken is d.now))

  pub placed_at : (reader : Option ReaderData) (slot : Held) (next : Next) → Decides pips tree budget reader slot ss n pip.kind next
      → KeptAt pips made n (slot_files next.ended.slot)
  placed_at reader slot next d = record { pip = pip; at = at; keeps = placed reader slot next d }

-- ## One pip more

pub kept_next : (pips : List Pip) (tree : Files) (budget : ℕ) (apart : Apart pips) (hold : AllHold) (reader : Option ReaderData) (slot : Held) (ss : List Slot) (n : ℕ) (next : Next)
    (o : Option Pip) → slice_get pips n ≡ o → length ss ≡ n → DecidesAt pips tree budget reader slot ss n o next → AreKept pips (map slot_files ss)
    → AreKept pips (map slot_files (ss ++ next.ended.slot ∷ []))
kept_next pips tree budget apart hold reader slot ss n next None at long d kept = absurd d
kept_next pips tree budget apart hold reader slot ss n next (Some pip) at long d kept =
    let made = map slot_files ss in
    let here : KeptAt pips made n (slot_files next.ended.slot) = placed_at pips tree budget apart hold ss n pip at reader slot next d in
    subst (AreKept pips) (sym (map-append slot_files ss (next.ended.slot ∷ [])))
    (one_more_kept pips made (slot_files next.ended.slot) kept
    (subst (λ k. KeptAt pips made k (slot_files next.ended.slot)) (sym (length-map ss slot_files ∙ long)) here))
