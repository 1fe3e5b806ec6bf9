-- The strong digest of a path set that is asked now.
use Rattle.std.proofs.Common.{◌≡◌, ℕ, Bool, List, map, ap, ◌∙◌}
use Rattle.sha2.specs.Sha256.{sha256}
use Rattle.observed.specs.Texts.{has_match}
use Rattle.observed.specs.declared.ask.Ask.{Ask}
use Rattle.observed.specs.declared.access.Answer.{Answer}
use Rattle.pip_model_types.specs.declared.desc.Desc.{Desc}
use Rattle.prints.specs.Strong.{strong_parts, strong_text}
use Rattle.run_record.specs.Digests.{weak_of}
use Rattle.two_phase_meaning.specs.Usable.{asked_text}

pub asked_digest : (d : Desc) (see : Ask → Answer) (paths : List ℕ) (asks : List Ask) (second : Bool) (weak : List ℕ) (given written : List Answer) (text digest : List ℕ) → second ≡ has_match asks
    → weak ≡ weak_of d → written ≡ given → given ≡ map see asks → text ≡ strong_text (strong_parts second weak paths written) → digest ≡ sha256 text
    → digest ≡ sha256 (asked_text d see paths asks)
asked_digest d see paths asks second weak given written text digest second_is weak_is written_is given_is text_is digest_is =
    digest_is ∙ ap sha256 text_is
    ∙ ap (λ (b : Bool). sha256 (strong_text (strong_parts b weak paths written))) second_is
    ∙ ap (λ (w : List ℕ). sha256 (strong_text (strong_parts (has_match asks) w paths written))) weak_is
    ∙ ap (λ (as' : List Answer). sha256 (strong_text (strong_parts (has_match asks) (weak_of d) paths as'))) (written_is ∙ given_is)
