use Rattle.std.proofs.Common.{◌≡◌, ◌∙◌, Some, ap, refl, subst, sym}
use Rattle.sha2.specs.Sha256.{sha256}
use Rattle.pip_model_types.specs.declared.desc.Desc.{Desc}
use Rattle.prints.specs.Processes.{weak_parts}
use Rattle.prints.specs.ReadWeak.{read_weak_text}
use Rattle.prints.specs.Weak.{weak_text}
use Rattle.observed.specs.Texts.{has_match}
use Rattle.run_record.specs.declared.outcome.Outcome.{Outcome}
use Rattle.two_phase_meaning.specs.Saving.{outcome_files}
use Rattle.two_phase.proofs.Recorded.{written_is}
use Rattle.two_phase.proofs.recording.write.Goals as goal

pub returns : goal.returns
returns c =
    let read = subst (λ (d : Desc). read_weak_text (weak_text (weak_parts d)) ≡ Some (weak_parts d)) c.desc.ensures.value c.reads_back.ensures in
    written_is c.args.ran.now _ c.args.ran.now.desc c.desc-2.result.now c.paths-asks.result.now c.has_match-second.result c.digest-paths_digest.result c.answers.result.now c.answers-2.result.now c.made_by-made.result.now
    (c.has_match-second.ensures ∙ ap has_match c.paths-asks.ensures) refl c.desc-2.ensures.value c.paths-asks.ensures c.answers.ensures.value c.answers-2.ensures.value
    (c.made_by-made.ensures ∙ ap (λ (o : Outcome). outcome_files o) c.outcome.ensures)
    c.requires.text (c.requires.digest ∙ ap sha256 (sym c.requires.text)) (ap read_weak_text c.requires.text ∙ read)
    c.in_ok-paths.ensures.text c.digest-paths_digest.ensures c.in_ok-paths.ensures.read
    c.in_ok-strong.ensures.text c.in_ok-strong.ensures.digest c.in_ok-entry.ensures.text c.in_ok-entry.ensures.read c.in_ok-contents.ensures
