-- What is put for a record of a run on a view is met there.
use Rattle.std.proofs.Common.{◌≡◌, ℕ, List, ◌++◌, refl, sym, ap, ◌∙◌, subst, inl, inr}
use Rattle.bx_tree.specs.Members.{Has}
use Rattle.bx_tree.proofs.Members.{has_either}
use Rattle.observed.specs.Texts.{has_match, paths_text}
use Rattle.observed.specs.declared.ask.Ask.{Ask}
use Rattle.observed.specs.declared.access.Answer.{Answer}
use Rattle.bx_io.specs.Holdings.{Holdings}
use Rattle.run_record.specs.Facts.{Facts, IsRun}
use Rattle.prints.specs.Strong.{strong_parts, strong_text}
use Rattle.run_record.specs.Collisions.{contents_of}
use Rattle.run_record.specs.Digests.{weak_of}
use Rattle.two_phase_meaning.specs.Contents.{desc_contents, given_contents}
use Rattle.two_phase_meaning.specs.Saving.{IsGood, blobs_of, outcome_files, paths_digest}
use Rattle.two_phase_meaning.specs.Compared as met
use Rattle.two_phase_meaning.specs.Compared.{ComparedInRun, own_paths}

pub record_met : (S : Holdings) (f : Facts) (see : Ask → Answer) → IsRun f f.desc see → IsGood f → (x : List ℕ) → Has (blobs_of f) x → ComparedInRun S f.desc see x
record_met S f see run good x h =
    let own : own_paths f.desc see ≡ f.paths = run.run.paths in
    elim h [
      | inl weak ↦ met.weak weak
      | inr h1 ↦ elim h1 [
        | inl paths ↦ met.own_set (ap paths_text own ∙ paths)
        | inr h2 ↦ elim h2 [
          | inl strong ↦
              met.strong (paths_digest f) f.paths (inl (own, refl))
              (ap (λ (as' : List Answer). strong_text (strong_parts (has_match f.paths) (weak_of f.desc) (paths_digest f) as')) (sym run.answers) ∙ strong)
          | inr h3 ↦ elim (has_either (desc_contents f.desc) (given_contents f.answers ++ contents_of (outcome_files f.outcome)) x h3) [
            | inl declared ↦ met.declared declared
            | inr h4 ↦ elim (has_either (given_contents f.answers) (contents_of (outcome_files f.outcome)) x h4) [
              | inl given ↦
                  met.given (paths_digest f) f.paths (inl (own, refl)) (subst (λ (as' : List Answer). Has (given_contents as') x) run.answers given)
              | inr made ↦ met.made (outcome_files f.outcome) (run.run.outcome ∙ good) made
            ]
          ]
        ]
      ]
    ]
