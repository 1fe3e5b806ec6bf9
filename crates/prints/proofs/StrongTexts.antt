-- What a strong text is read as.
use Rattle.std.proofs.Common.{◌≡◌, ◌↔◌, ℕ, Bool, true, false, List, ◌++◌, codes, Option, Some, None, Result, Ok, Err, IfOk, refl, sym, ap, subst, ◌∙◌}
use Rattle.std.proofs.lemmas.Option.{same_Some}
use Rattle.observed.specs.Texts.{after_prefix}
use Rattle.observed.proofs.ReadTexts.{prefix_sound}
use Rattle.prints.specs.Forms.{Anything, IsForm}
use Rattle.prints.specs.Combining.{after_form, as_form, pair_form, whole_again, whole_read}
use Rattle.prints.proofs.LineLists.{lines_form}
use Rattle.prints.specs.PartForms.{digest_form, newline}
use Rattle.prints.specs.Reading.{Gives, by_word}
use Rattle.prints.specs.declared.fault.PrintFault.{PrintFault}
use Rattle.prints.specs.declared.fault.PrintFault.TheVariants as faults
use Rattle.prints.specs.declared.strong_parts.StrongParts.{StrongParts}
use Rattle.prints.specs.Strong.{IsStrong, has_more, parts_of, read_strong_text, strong_at, strong_head, strong_text, version_at}
use Rattle.prints.specs.AnswerForms.{answer_form, answer_seen}

abbrev IsVersion : Bool → Type 0
IsVersion second = Unit {0}

version_sound : (text : List ℕ) (second first : Option (List ℕ)) → after_prefix (strong_head true) text ≡ second → after_prefix (strong_head false) text ≡ first
    → (taken : Bool × List ℕ) → by_word second first ≡ Some taken → text ≡ strong_head taken.0 ++ taken.1
version_sound text (Some rest) first is other taken e =
    subst (λ (t : Bool × List ℕ). text ≡ strong_head t.0 ++ t.1) (same_Some (true, rest) taken e) (prefix_sound (strong_head true) text rest is)
version_sound text None (Some rest) is other taken e =
    subst (λ (t : Bool × List ℕ). text ≡ strong_head t.0 ++ t.1) (same_Some (false, rest) taken e) (prefix_sound (strong_head false) text rest other)
version_sound text None None is other taken e = absurd cc

version_again : (second : Bool) (rest : List ℕ) → version_at (strong_head second ++ rest) ≡ Some (second, rest)
version_again true rest = refl
version_again false rest = refl

version_form : IsForm IsVersion Anything strong_head version_at
version_form = record {
  good = λ text taken e. tt;
  written = λ text taken e. version_sound text (after_prefix (strong_head true) text) (after_prefix (strong_head false) text) refl refl taken e;
  again = λ second rest g f. version_again second rest;
}

strong_form : IsForm IsStrong (λ t. has_more t ≡ false) strong_text strong_at
strong_form =
    as_form IsStrong parts_of (λ (s : StrongParts). (s.second, (s.weak, (s.paths, s.lines))))
    (λ p g. (record { weak = g.1.0; paths = g.1.1.0; lines = g.1.1.1 }, refl))
    (λ s h. ((tt, (h.weak, (h.paths, h.lines))), refl))
    (pair_form version_form (pair_form (after_form (codes "weak ") (digest_form 10 newline))
    (pair_form (after_form (codes "paths ") (digest_form 10 newline)) (lines_form has_more answer_form answer_seen refl))))

pub strong_sound : (text : List ℕ) (s : StrongParts) → read_strong_text text ≡ Some s → IsStrong s × (text ≡ strong_text s)
unfolding read_strong_text
strong_sound text s e = whole_read strong_form text s e

pub strong_again : (s : StrongParts) → IsStrong s → read_strong_text (strong_text s) ≡ Some s
unfolding read_strong_text
strong_again s h = whole_again strong_form refl s h

pub strong_law : (text : List ℕ) (s : StrongParts) → (read_strong_text text ≡ Some s) ↔ (IsStrong s × (text ≡ strong_text s))
strong_law text s = (strong_sound text s, λ h. ap read_strong_text h.1 ∙ strong_again s h.0)

pub no_strong : (text : List ℕ) → read_strong_text text ≡ None → (s : StrongParts) → IsStrong s → text ≡ strong_text s → ⊥
no_strong text none s h is = let clash : Some s ≡ None = sym (ap read_strong_text is ∙ strong_again s h) ∙ none in cc

-- ## What a reader of strong texts gives

pub strong_found : (text : List ℕ) (r : Result StrongParts PrintFault) → Gives r (read_strong_text text) → IfOk r (λ s. IsStrong s × (text ≡ strong_text s))
strong_found text (Ok s) h = strong_sound text s h
strong_found text (Err e) h = tt

pub strong_refused : (text : List ℕ) (r : Result StrongParts PrintFault) → Gives r (read_strong_text text) → r ≡ Err faults.BadPrint
    → (s : StrongParts) → IsStrong s → text ≡ strong_text s → ⊥
strong_refused text r h bad s is same = no_strong text (subst (λ (x : Result StrongParts PrintFault). Gives x (read_strong_text text)) bad h) s is same
