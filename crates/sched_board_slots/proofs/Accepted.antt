-- A record that agrees by digest with a process and what it sees holds now, where contents are apart.
use Rattle.std.proofs.Common.{◌≡◌, List, [], ◌∷◌, ℕ, map, refl, ap, sym, ◌∙◌, subst, inl, inr}
use Rattle.pip_model_types.specs.declared.desc.Desc.{Desc}
use Rattle.observed.specs.declared.ask.Ask.{Ask}
use Rattle.observed.specs.declared.access.Answer.{Answer}
use Rattle.tool_run.specs.Described.{described}
use Rattle.tool_run.specs.Description.{Description}
use Rattle.tool_run.specs.Run.{Run, path_set, run_of}
use Rattle.memo_format.specs.Found.{FoundParts}
use Rattle.run_record.specs.Answered.{answered}
use Rattle.run_record.specs.Collisions.{AreOfAnswers, NoCollision}
use Rattle.run_record.specs.Digests.{IsReadBack, digest_asked, digest_of_line}
use Rattle.run_record.specs.Facts.{Facts, Sound}
use Rattle.run_record.specs.Holding.{HoldsNow}
use Rattle.run_record.proofs.AnswerLines.{same_answers}
use Rattle.run_record.proofs.SameWork.{one_weak, same_described, work_of}
use Rattle.sched_board_slots.specs.Closing.{IsOfRun, IsOfSlot}
use Rattle.sched_board_slots.specs.Slots.{FoundAgrees, HitHolds, RecordAgrees}
use Rattle.sched_board_slots.specs.declared.held.Held.TheVariants as held
use Rattle.sched_board_slots.proofs.OneRun.{run_is}

lines_now : (see : Ask → Answer) (asks : List Ask) → map digest_of_line (map see asks) ≡ map (digest_asked see) asks
lines_now see [] = refl
lines_now see (q ∷ qs) = ap (λ (xs : List (List ℕ)). digest_asked see q ∷ xs) (lines_now see qs)

-- what holds byte by byte agrees by digest
pub holds_agrees : (own : Desc) (see : Ask → Answer) (facts : Facts) → HoldsNow own see facts → RecordAgrees own see facts
holds_agrees own see facts holds =
    (one_weak facts.desc own holds.work, ap (map digest_of_line) holds.answers ∙ lines_now see facts.paths)

pub hit_agrees : (own : Desc) (see : Ask → Answer) (found : FoundParts) → HitHolds own see found → FoundAgrees own see found
hit_agrees own see found holds = (holds.found_for.weak, ap (map digest_of_line) holds.answers ∙ lines_now see found.paths)

module _ (M : List ℕ → Type 0) (apart : NoCollision M) where
  pub run_is_accepted : (own : Desc) (see : Ask → Answer) (facts : Facts) → Sound facts → IsReadBack facts.desc → IsReadBack own → RecordAgrees own see facts
      → ((x : List ℕ) → IsOfSlot (held.Ran facts) x → M x) → ((x : List ℕ) → IsOfRun own see x → M x) → HoldsNow own see facts
  run_is_accepted own see facts sound read_held read agrees of_slot of_run =
      let d : Description = described own in
      let stored : Ask → Answer = answered facts.paths facts.answers in
      let work = work_of M apart facts.desc own (λ x h. of_slot x (inl h)) (λ x h. of_run x (inl h)) read_held read agrees.0 in
      let set : path_set d (run_of d stored).accesses ≡ facts.paths =
      subst (λ (e : Description). path_set e (run_of e stored).accesses ≡ facts.paths) (same_described facts.desc own work) sound.run.paths in
      let same : run_of d stored ≡ run_of d see =
      run_is M apart d see facts.paths facts.answers set agrees.1 (λ x h. of_slot x (inr (inl h))) (λ x h. of_run x (inr h)) in
      let asked : facts.paths ≡ path_set d (run_of d see).accesses = sym set ∙ ap (λ (r : Run). path_set d r.accesses) same in
      record {
        work = work;
        answers =
            same_answers M apart see facts.answers facts.paths (λ x h. of_slot x (inr (inl h)))
            (λ x h. of_run x (inr (subst (λ asks. AreOfAnswers (map see asks) x) asked h))) agrees.1;
      }
