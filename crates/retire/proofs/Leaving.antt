-- What a build over a fair store leaves.
use Rattle.std.proofs.Common.{◌≡◌, ◌⊎◌, ℕ, zero, suc, ◌+◌, ◌≤◌, Bool, true, false, not, cond, List, [], ◌∷◌, length, take, Option, Some, refl, sym, ap, ◌∙◌, subst, inl, inr, arith}
use Rattle.std.specs.Prelude.{IsSome, count_by, slice_get}
use Rattle.std.specs.List.{AllByRecursion}
use Rattle.std.proofs.lemmas.List.Sums.{sum_by-cons}
use Rattle.std.proofs.lemmas.Option.{same_Some}
use Rattle.pip_view.proofs.TakenDirs.{process_is}
use Rattle.bx_tree.specs.Trees.{Files}
use Rattle.bx_tree.specs.Members.{Has}
use Rattle.bx_tree.proofs.Members.{has_all}
use Rattle.bx_io.specs.Holdings.{Holdings, StoreTold, held_in, holdings_after}
use Rattle.bx_io.proofs.Changes.{told_after}
use Rattle.pip_model_types.specs.Makers.{IsPipList}
use Rattle.pip_model_types.specs.declared.desc.Desc.{Desc}
use Rattle.pip_model_types.specs.declared.pip.Pip.{Pip}
use Rattle.pip_model_types.specs.declared.pip.PipKind.TheVariants.{Process}
use Rattle.observed.specs.Texts.{has_match}
use Rattle.observed.specs.declared.ask.Ask.{Ask}
use Rattle.observed.specs.declared.access.Answer.{Answer}
use Rattle.graph_check.specs.Rules.{KeepsRules}
use Rattle.run_record.specs.Facts.{Facts, Sound}
use Rattle.memo_format.specs.StoreNames.{HoldsBlob}
use Rattle.memo_format.specs.declared.selector.Selector.{Selector}
use Rattle.prints.specs.Strong.{strong_parts, strong_text}
use Rattle.run_record.specs.Digests.{IsReadBack, weak_of}
use Rattle.two_phase.specs.Putting.{PutsAll, PutsUpTo, planned}
use Rattle.two_phase.proofs.Applied.{Made, made_of}
use Rattle.two_phase_meaning.specs.Contents.{HoldsPaths}
use Rattle.two_phase_meaning.specs.Saving.{answers_text, paths_digest, record_selector}
use Rattle.two_phase_meaning.specs.Compared as met
use Rattle.two_phase_meaning.specs.Usable.{Usable, UsableAt, asked_text}
use Rattle.two_phase_meaning.proofs.Stays.{at_one, usable_at}
use Rattle.retire_compared.specs.Compared.{Compared, desc_after, view_after}
use Rattle.retire.specs.Runs.{IsOfSuccess, NoneReserved, RunsAs, results_before}
use Rattle.retire.proofs.SoFar.{run_met, success_met}
use Rattle.retire.proofs.SuccessFits.{success_fits}
use Rattle.retire.specs.Builds.{Between, IsFair, LeavesFair, LeavesUsableBut}
use Rattle.retire.specs.Deciding.{IsThere, RecordsAll}
use Rattle.retire.specs.Saving.{PutsAllBut, PutsByMarks, PutsEach, PutsFirst}
use Rattle.retire.proofs.Alike.{first_alike, marks_alike}
use Rattle.retire.proofs.Chain.{IsReady, Leaves, chain, step_within}
use Rattle.retire.proofs.Others.{NoneAt, SomeAt, later_apart, none_apart, none_described, some_at}
use Rattle.retire.proofs.Putting.{each_by_marks, each_told, up_to_end}
use Rattle.retire.proofs.Records.{all_successes}
use Rattle.retire.proofs.Stay.{own, stay}

-- ## Lists of records

all_first : (P : Facts → Type 0) (n : ℕ) (fs : List Facts) → AllByRecursion P fs → AllByRecursion P (take n fs)
all_first P zero fs h = tt
all_first P (suc n) [] h = tt
all_first P (suc n) (f ∷ fs) h = (h.0, all_first P n fs h.1)

are_ready : (pips : List Pip) (tree : Files) (budget : ℕ) (S : Holdings) (fs : List Facts) → AllByRecursion (IsOfSuccess pips tree budget) fs → AllByRecursion Sound fs
    → AllByRecursion (IsReady (Compared pips tree budget S)) fs
are_ready pips tree budget S [] h sounds = tt
are_ready pips tree budget S (f ∷ fs) h sounds = (
  record { sound = sounds.0; good = h.0.good; met = success_met pips tree budget S f h.0 },
  are_ready pips tree budget S fs h.1 sounds.1,
)

-- ## What a fair store is left as

module _ (pips : List Pip) (tree : Files) (budget : ℕ) (held : Holdings) (before : StoreTold) (was : held_in before ≡ Some held) (rs : List Facts)
    (follows : RecordsAll pips tree budget held rs) (fair : IsFair pips tree budget held) where
  abbrev fs : List Facts
  fs = follows.facts

  all_of : AllByRecursion (IsOfSuccess pips tree budget) fs
  all_of = all_successes pips tree budget 0 follows.high fs follows.successes

  ready : AllByRecursion (IsReady (Compared pips tree budget held)) fs
  ready = are_ready pips tree budget held fs all_of follows.sounds

  pub leaves_fair : (now : StoreTold) → IsSome (held_in now) → PutsFirst before rs now → LeavesFair pips tree budget held before now
  leaves_fair now tells saved =
      let puts : PutsFirst before fs now = first_alike rs fs before now follows.alike saved in
      let gs = take puts.number fs in
      let left : Leaves held before gs now =
      chain (Compared pips tree budget held) fair.apart gs held before now was tells (all_first (IsReady (Compared pips tree budget held)) puts.number fs ready)
      (λ x there. inl there) fair.honest puts.each in
      record {
        honest = left.honest;
        adds = λ S is e h. elim (left.adds S is e h) [
          | inl old ↦ inl old
          | inr new ↦
              inr (new.0, has_all (IsOfSuccess pips tree budget) gs new.0 (all_first (IsOfSuccess pips tree budget) puts.number fs all_of) new.1, new.2)
        ];
        puts = (fs, follows.high, follows.successes, puts);
      }

  -- ## What is usable in it

  abbrev M : List ℕ → Type 0
  M = Compared pips tree budget held

  -- what runs as one pip is one process on one view
  one_run : (i : ℕ) (d e : Desc) (see view : Ask → Answer) → RunsAs pips tree budget i d see → RunsAs pips tree budget i e view → (d ≡ e) × (see ≡ view)
  one_run i d e see view a b =
      let s = process_is (slice_get pips i) a.process a.is_process in
      let t = process_is (slice_get pips i) b.process b.is_process in
      let pip : s.0 ≡ t.0 = same_Some s.0 t.0 (sym s.1 ∙ t.1) in
      let kinds : Process a.process ≡ Process b.process = sym s.2 ∙ ap (λ (p : Pip). p.kind) pip ∙ t.2 in
      let same : a.process ≡ b.process = cc in (
        sym a.desc_is ∙ ap (desc_after pips tree budget (results_before pips tree budget i)) same ∙ b.desc_is,
        sym a.view_is ∙ ap (view_after pips tree (results_before pips tree budget i) i) same ∙ b.view_is,
      )

  -- the pips of the records that were not saved whole
  abbrev without : (gs : List Facts) (low high : ℕ) → Between pips tree budget low high gs → List Bool → List ℕ
  without [] low high h marks = []
  without (g ∷ gs) low high h [] = []
  without (g ∷ gs) low high h (true ∷ ms) = without gs (h.0.pip + 1) high h.2 ms
  without (g ∷ gs) low high h (false ∷ ms) = h.0.pip ∷ without gs (h.0.pip + 1) high h.2 ms

  without_few : (gs : List Facts) (low high : ℕ) (h : Between pips tree budget low high gs) (marks : List Bool) → length (without gs low high h marks) ≤ count_by not marks
  without_few [] low high h marks = omega arith
  without_few (g ∷ gs) low high h [] = omega arith
  without_few (g ∷ gs) low high h (true ∷ ms) =
      let more = without_few gs (h.0.pip + 1) high h.2 ms in
      let count : count_by not (true ∷ ms) ≡ 0 + count_by not ms = sum_by-cons (λ b. cond (not b) 1 0) true ms in
      omega (arith, more, count)
  without_few (g ∷ gs) low high h (false ∷ ms) =
      let more = without_few gs (h.0.pip + 1) high h.2 ms in
      let count : count_by not (false ∷ ms) ≡ 1 + count_by not ms = sum_by-cons (λ b. cond (not b) 1 0) false ms in
      omega (arith, more, count)

  module _ (list : IsPipList pips) (keeps : KeepsRules pips tree) (free : NoneReserved tree) where
    -- what was usable stays so, where no record is of its pip
    by_store : (i : ℕ) (d : Desc) (see : Ask → Answer) → RunsAs pips tree budget i d see → Usable held d see → IsReadBack d
        → NoneAt pips tree budget i 0 follows.high fs follows.successes → (now : StoreTold) → PutsEach before fs now → (S : Holdings) → held_in now ≡ Some S
        → Usable S d see
    by_store i d see runs usable read none now puts S is =
        let one = at_one held d see usable in
        let s : Selector = one.0 in
        let asks : List Ask = one.1.0 in
        let u : UsableAt held d see s asks = one.1.1 in
        let listed : HoldsPaths held s.paths asks = subst (λ (qs : List Ask). HoldsPaths held s.paths qs) u.asks_are u.by.paths in
        let asked : M (asked_text d see s.paths asks) =
        run_met pips tree budget held (asked_text d see s.paths asks) i d see runs (met.strong s.paths asks (inr ((u.list, u.held, (s, u.listed, refl)), listed)) refl) in
        usable_at S d see s asks
        (stay M fair.apart d see s asks asked fs held before now was ready (λ x there. inl there) puts
        (none_apart pips tree list keeps free budget held fair.apart i d see runs read fs 0 follows.high follows.successes none before now puts) u S is)

    -- the record that was saved whole is usable after the records that come later
    by_record : (g : Facts) (s : IsOfSuccess pips tree budget g) (gs : List Facts) (high : ℕ) → Between pips tree budget (s.pip + 1) high gs → (kept : Holdings)
        → (first between now : StoreTold) → held_in first ≡ Some kept → IsReady M g → AllByRecursion (IsReady M) gs
        → ((x : List ℕ) → HoldsBlob kept x → M x) → (p : PutsAll first between g) → PutsEach between gs now → (S : Holdings) → held_in now ≡ Some S → Usable S g.desc s.see
    by_record g s gs high later kept first between now was' here more within p puts S is =
        let see : Ask → Answer = s.see in
        let text : answers_text g ≡ asked_text g.desc see (paths_digest g) g.paths =
        ap (λ (as' : List Answer). strong_text (strong_parts (has_match g.paths) (weak_of g.desc) (paths_digest g) as')) s.run.answers in
        let asked : M (asked_text g.desc see (paths_digest g) g.paths) =
        success_met pips tree budget held g s (asked_text g.desc see (paths_digest g) g.paths) (inr (inr (inl text))) in
        let there : (T : Holdings) × (held_in between ≡ Some T) = each_told gs between now S is puts in
        let tells : IsSome (held_in between) = subst (λ (o : Option Holdings). IsSome o) (sym there.1) refl in
        let up_to : PutsUpTo first between g = up_to_end first between g p in
        let step : Made kept first up_to.first between = made_of up_to.first kept there.0 first between was' there.1 up_to.applies in
        let own_now : UsableAt (holdings_after kept (planned g p.old)) g.desc see (record_selector g) g.paths =
        own M fair.apart kept g first between p was' tells within here (success_fits pips tree budget list g s keeps here.sound) see s.run.answers in
        usable_at S g.desc see (record_selector g) g.paths
        (stay M fair.apart g.desc see (record_selector g) g.paths asked gs (holdings_after kept step.made) between now
        (told_after first between step.made kept there.0 was' there.1 step.makes) more (step_within M fair.apart kept g first between within here up_to step) puts
        (later_apart pips tree list keeps free budget held fair.apart s.pip g.desc see s.runs p.spelled.weak gs (s.pip + 1) high (omega arith) later between now puts)
        (subst (λ (T : Holdings). UsableAt T g.desc see (record_selector g) g.paths) (sym step.same) own_now) S is)

    -- one record more was saved, whole or not
    module _ (kept : Holdings) (g : Facts) (first between now : StoreTold) (was' : held_in first ≡ Some kept) (here : IsReady M g)
        (within : (x : List ℕ) → HoldsBlob kept x → M x) (p : PutsUpTo first between g) (gs : List Facts) (puts : PutsEach between gs now) (S : Holdings)
        (is : held_in now ≡ Some S) where
      next : (T : Holdings) × (held_in between ≡ Some T) × ((x : List ℕ) → HoldsBlob T x → M x)
      next =
          let there : (T : Holdings) × (held_in between ≡ Some T) = each_told gs between now S is puts in
          let step : Made kept first p.first between = made_of p.first kept there.0 first between was' there.1 p.applies in (
            holdings_after kept step.made,
            told_after first between step.made kept there.0 was' there.1 step.makes,
            step_within M fair.apart kept g first between within here p step,
          )

    -- the record of a pip was saved whole, and is usable, or its pip is one of those without
    by_own : (i : ℕ) (d : Desc) (see : Ask → Answer) → RunsAs pips tree budget i d see → (gs : List Facts) (low high : ℕ) (h : Between pips tree budget low high gs)
        → SomeAt pips tree budget i low high gs h → (marks : List Bool) (kept : Holdings) (first now : StoreTold) → held_in first ≡ Some kept
        → AllByRecursion (IsReady M) gs → ((x : List ℕ) → HoldsBlob kept x → M x) → PutsByMarks first gs now marks → (S : Holdings) → held_in now ≡ Some S
        → Usable S d see ⊎ Has (without gs low high h marks) i
    by_own i d see runs [] low high h some marks kept first now was' ready' within p S is = absurd some
    by_own i d see runs (g ∷ gs) low high h some [] kept first now was' ready' within p S is = absurd p
    by_own i d see runs (g ∷ gs) low high h some (true ∷ ms) kept first now was' ready' within p S is =
        let puts : PutsEach p.0 gs now = each_by_marks gs ms p.0 now p.2 in
        elim some [
          | inl same ↦
              let one = one_run i g.desc d h.0.see see (subst (λ k. RunsAs pips tree budget k g.desc h.0.see) same h.0.runs) runs in
              let usable : Usable S g.desc h.0.see =
              by_record g h.0 gs high h.2 kept first p.0 now was' ready'.0 ready'.1 within p.1 puts S is in
              inl (subst (λ (v : Ask → Answer). Usable S d v) one.1 (subst (λ (x : Desc). Usable S x h.0.see) one.0 usable))
          | inr later ↦
              let on = next kept g first p.0 now was' ready'.0 within (up_to_end first p.0 g p.1) gs puts S is in
              by_own i d see runs gs (h.0.pip + 1) high h.2 later ms on.0 p.0 now on.1 ready'.1 on.2 p.2 S is
        ]
    by_own i d see runs (g ∷ gs) low high h some (false ∷ ms) kept first now was' ready' within p S is =
        elim some [
          | inl same ↦ inr (inl same)
          | inr later ↦
              let on = next kept g first p.0 now was' ready'.0 within p.1 gs (each_by_marks gs ms p.0 now p.2) S is in
              elim (by_own i d see runs gs (h.0.pip + 1) high h.2 later ms on.0 p.0 now on.1 ready'.1 on.2 p.2 S is) [
                | inl usable ↦ inl usable
                | inr missing ↦ inr (inr missing)
              ]
        ]

    there_usable : (marks : List Bool) (now : StoreTold) → PutsByMarks before fs now marks → (S : Holdings) → held_in now ≡ Some S
        → (i : ℕ) (d : Desc) (see : Ask → Answer) → RunsAs pips tree budget i d see → IsThere held fs d see
        → Usable S d see ⊎ Has (without fs 0 follows.high follows.successes marks) i
    there_usable marks now puts S is i d see runs there = elim (some_at pips tree budget i fs 0 follows.high follows.successes) [
      | inl some ↦
          by_own i d see runs fs 0 follows.high follows.successes some marks held before now was ready (λ x there. inl there) puts S is
      | inr none ↦ elim there [
        | inl usable ↦ inl (by_store i d see runs usable.0 usable.1 none now (each_by_marks fs marks before now puts) S is)
        | inr own ↦
            absurd (none_described pips tree list keeps free budget held fair.apart i d see runs fs 0 follows.high follows.successes none own.0 own.1 own.2)
      ]
    ]

  pub leaves_usable_but : IsPipList pips → KeepsRules pips tree → NoneReserved tree → (now : StoreTold) (faults : ℕ) → PutsAllBut before rs now faults
      → LeavesUsableBut pips tree budget now faults
  leaves_usable_but list keeps free now faults saved =
      let puts : PutsByMarks before fs now saved.marks = marks_alike rs fs saved.marks before now follows.alike saved.each in
      let few = without_few fs 0 follows.high follows.successes saved.marks in
      let most = saved.few in
      record {
        without = without fs 0 follows.high follows.successes saved.marks;
        few = omega (arith, few, most);
        usable = λ S is i d see runs succeeds.
            there_usable list keeps free saved.marks now puts S is i d see runs (follows.all_there i d see runs succeeds);
      }
