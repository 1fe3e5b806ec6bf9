-- What a slot holds that agrees with a process and what it sees is what the process comes to.
use Rattle.std.proofs.Common.{◌≡◌, ℕ, List, [], ◌∷◌, refl, ap, sym, ◌∙◌, subst, inl, inr}
use Rattle.std.proofs.lemmas.Option.{same_Some}
use Rattle.bx_tree.specs.Members.{Has}
use Rattle.bx_tree.specs.Trees.{Files}
use Rattle.bx_tree.proofs.Members.{all_has, has_either}
use Rattle.bx_io.specs.Holdings.{Holdings}
use Rattle.pip_model_types.specs.declared.desc.Desc.{Desc}
use Rattle.observed.specs.Texts.{has_match, read_paths_text}
use Rattle.observed.specs.declared.ask.Ask.{Ask}
use Rattle.observed.specs.declared.access.Answer.{Answer}
use Rattle.observed.specs.declared.access.Answer.TheVariants as answers
use Rattle.tool_run.specs.Described.{described}
use Rattle.tool_run.specs.Description.{Description}
use Rattle.tool_run.specs.Run.{path_set, run_of}
use Rattle.prints.specs.Processes.{weak_parts}
use Rattle.prints.specs.ReadWeak.{read_weak_text}
use Rattle.prints.specs.Strong.{read_strong_text, strong_parts}
use Rattle.prints.specs.Weak.{weak_text}
use Rattle.prints.specs.declared.strong_parts.StrongParts.{StrongParts}
use Rattle.memo_format.specs.Found.{FoundParts}
use Rattle.memo_format.specs.StoreNames.{HoldsBlob}
use Rattle.run_record.specs.Answered.{answered}
use Rattle.run_record.specs.Collisions.{AreOfAnswers, IsIn, NoCollision, contents_of}
use Rattle.run_record.specs.Digests.{IsReadBack}
use Rattle.run_record.specs.Facts.{Facts, Sound}
use Rattle.run_record.specs.Outcomes.{outcome_of}
use Rattle.run_record.specs.declared.outcome.Outcome.TheVariants.{Good}
use Rattle.run_record.proofs.Same.{same_desc}
use Rattle.two_phase_meaning.specs.Contents.{answer_contents, desc_contents, given_contents}
use Rattle.two_phase_meaning.specs.Honest.{Honest, HonestEntry, IsGoodRun}
use Rattle.two_phase_meaning.proofs.Same.{all_map, same_answers, same_described, same_files}
use Rattle.one_thread.specs.OneThread.{ran}
use Rattle.sched_board_slots.specs.Closing.{IsHitOf, IsOfRun, IsOfSlot}
use Rattle.sched_board_slots.specs.Slots.{FilesAgree, FoundAgrees, RecordAgrees}
use Rattle.sched_board_slots.specs.declared.held.Held.TheVariants as held
use Rattle.sched_board_slots.proofs.OneRun.{run_is}

in_answer : (a : Answer) (x : List ℕ) → Has (answer_contents a) x → IsIn a x
in_answer answers.Absent x h = absurd h
in_answer (answers.Content bytes) x (inl e) = e
in_answer (answers.Content bytes) x (inr h) = absurd h
in_answer answers.File x h = absurd h
in_answer answers.Directory x h = absurd h
in_answer (answers.Names names) x (inl e) = e
in_answer (answers.Names names) x (inr h) = absurd h
in_answer answers.Denied x h = absurd h

of_given : (given : List Answer) (x : List ℕ) → Has (given_contents given) x → AreOfAnswers given x
of_given [] x h = absurd h
of_given (a ∷ more) x h = elim (has_either (answer_contents a) (given_contents more) x h) [
  | inl k ↦ inl (inr (in_answer a x k))
  | inr k ↦ inr (of_given more x k)
]

module _ (M : List ℕ → Type 0) (apart : NoCollision M) where
  -- a record of a run that agrees has the outcome of the run on the view
  pub ran_outcome : (own : Desc) (see : Ask → Answer) (facts : Facts) → Sound facts → IsReadBack facts.desc → IsReadBack own → RecordAgrees own see facts
      → ((x : List ℕ) → IsOfSlot (held.Ran facts) x → M x) → ((x : List ℕ) → IsOfRun own see x → M x) → facts.outcome ≡ ran own see
  ran_outcome own see facts sound read_held read agrees of_slot of_run =
      let d : Description = described own in
      let stored : Ask → Answer = answered facts.paths facts.answers in
      let one : described facts.desc ≡ d =
      same_desc M apart facts.desc own (λ x h. of_slot x (inl h)) (λ x h. of_run x (inl h)) read_held read agrees.0 in
      let set : path_set d (run_of d stored).accesses ≡ facts.paths =
      subst (λ (e : Description). path_set e (run_of e stored).accesses ≡ facts.paths) one sound.run.paths in
      let outcome : outcome_of d (run_of d stored) ≡ facts.outcome =
      subst (λ (e : Description). outcome_of e (run_of e stored) ≡ facts.outcome) one sound.run.outcome in
      let same : run_of d stored ≡ run_of d see =
      run_is M apart d see facts.paths facts.answers set agrees.1 (λ x h. of_slot x (inr (inl h))) (λ x h. of_run x (inr h)) in
      sym outcome ∙ ap (outcome_of d) same

  -- what was found in an honest store and agrees has the files of the run on the view
  pub hit_outcome : (S : Holdings) → Honest S → ((x : List ℕ) → HoldsBlob S x → M x) → (own : Desc) (see : Ask → Answer) (found : FoundParts) → IsHitOf S found
      → IsReadBack own → FoundAgrees own see found → ((x : List ℕ) → IsOfSlot (held.Hit found) x → M x) → ((x : List ℕ) → IsOfRun own see x → M x)
      → Good found.made ≡ ran own see
  hit_outcome S honest stored own see found hit read agrees of_slot of_run =
      let d : Description = described own in
      let h : HonestEntry S found.entry = honest found.entry hit.entry in
      let weak_same : h.weak.0 ≡ weak_text (weak_parts own) =
      apart h.weak.0 (weak_text (weak_parts own)) (stored h.weak.0 h.weak.1.held) (of_run (weak_text (weak_parts own)) (inl (inl refl))) (h.weak.1.digest_is ∙ agrees.0) in
      let parts : weak_parts h.desc ≡ weak_parts own = same_Some (weak_parts h.desc) (weak_parts own) (sym h.weak.2 ∙ ap read_weak_text weak_same ∙ read) in
      let desc : described h.desc ≡ d =
      same_described M apart h.desc own parts (all_map (HoldsBlob S) M (desc_contents h.desc) stored h.declared)
      (all_has M (desc_contents own) (λ x k. of_run x (inl (inr k)))) in
      let set_same : h.paths.0 ≡ hit.paths.0 =
      apart h.paths.0 hit.paths.0 (stored h.paths.0 h.paths.1.held) (stored hit.paths.0 hit.paths.1.held) (h.paths.1.digest_is ∙ sym hit.paths.1.digest_is) in
      let asks : h.asks ≡ found.paths = same_Some h.asks found.paths (sym h.paths.2 ∙ ap read_paths_text set_same ∙ hit.paths.2) in
      let strong_same : h.strong.0 ≡ hit.strong.0 =
      apart h.strong.0 hit.strong.0 (stored h.strong.0 h.strong.1.held) (stored hit.strong.0 hit.strong.1.held) (h.strong.1.digest_is ∙ sym hit.strong.1.digest_is) in
      let said : strong_parts (has_match h.asks) found.entry.weak found.entry.paths h.given
      ≡ strong_parts (has_match found.paths) found.entry.weak found.entry.paths found.answers =
      same_Some (strong_parts (has_match h.asks) found.entry.weak found.entry.paths h.given)
      (strong_parts (has_match found.paths) found.entry.weak found.entry.paths found.answers)
      (sym h.strong.2 ∙ ap read_strong_text strong_same ∙ hit.strong.2) in
      let given : h.given ≡ found.answers =
      same_answers M apart h.given found.answers (ap (λ (x : StrongParts). x.lines) said) (all_map (HoldsBlob S) M (given_contents h.given) stored h.answers)
      (all_has M (given_contents found.answers) (λ x k. of_slot x (inl (of_given found.answers x k)))) in
      let files : h.files ≡ found.made =
      same_files M apart h.files found.made (h.outputs ∙ sym hit.made) (all_map (HoldsBlob S) M (contents_of h.files) stored h.made)
      (all_has M (contents_of found.made) (λ x k. of_slot x (inr k))) in
      let run : IsGoodRun d (answered found.paths found.answers) found.paths found.made =
      subst (λ (fs : Files). IsGoodRun d (answered found.paths found.answers) found.paths fs) files
      (subst (λ (as' : List Answer). IsGoodRun d (answered found.paths as') found.paths h.files) given
      (subst (λ (qs : List Ask). IsGoodRun d (answered qs h.given) qs h.files) asks
      (subst (λ (x : Description). IsGoodRun x (answered h.asks h.given) h.asks h.files) desc h.run))) in
      let same : run_of d (answered found.paths found.answers) ≡ run_of d see =
      run_is M apart d see found.paths found.answers run.paths_are agrees.1 (λ x k. of_slot x (inl k)) (λ x k. of_run x (inr k)) in
      sym run.outcome ∙ ap (outcome_of d) same

  -- files that agree are equal
  pub plain_files : (made own : Files) → FilesAgree made own → ((x : List ℕ) → Has (contents_of made) x → M x) → ((x : List ℕ) → Has (contents_of own) x → M x)
      → made ≡ own
  plain_files made own agrees of_slot of_own =
      same_files M apart made own agrees (all_has M (contents_of made) of_slot) (all_has M (contents_of own) of_own)
