-- The lines of strong texts are read back as they are written: proofs that the kinds of lines carry, and no
-- definitions.
use Rattle.std.proofs.Common.{◌≡◌, ℕ, true, List, ◌++◌, codes, Option, Some, None, inl, inr, refl, ap, subst}
use Rattle.std.proofs.Common.{◌∙◌}
use Rattle.std.proofs.lemmas.Option.{same_Some}
use Rattle.hex.specs.Hex.{encode_lower}
use Rattle.observed.specs.Texts.{after_prefix}
use Rattle.observed.proofs.ReadTexts.{prefix_sound}
use Rattle.prints.specs.Forms.{Anything, IsForm}
use Rattle.prints.specs.Parts.{named_digest}
use Rattle.prints.specs.Reading.{◌>>=◌}
use Rattle.prints.specs.Combining.{bind_some}
use Rattle.prints.specs.PartForms.{Lacks, digest_again, digest_sound, hex_lacks, lacks_append, newline}
use Rattle.prints.specs.PartForms.{part_form}
use Rattle.prints.specs.declared.strong_parts.AnswerLine.{AnswerLine}
use Rattle.prints.specs.declared.strong_parts.AnswerLine.TheVariants as lines
use Rattle.prints.specs.Strong.{IsAnswerLine, answer_at, answer_line, answer_words, has_more, named_answer}
use Rattle.prints.specs.Strong.{with_digest}
use Rattle.prints.specs.LineForms.{if_word, word_lacks}

abbrev IsRead : List ℕ → AnswerLine → Type 0
IsRead text line = IsAnswerLine line × (text ≡ answer_words line)

digest_line_sound : (text : List ℕ) (line : AnswerLine) (content names : Option (List ℕ))
    → after_prefix (codes "content ") text ≡ content
    → after_prefix (codes "names ") text ≡ names → with_digest content names ≡ Some line → IsRead text line
digest_line_sound text line (Some content) names is others e =
    let a = bind_some (named_digest content) (λ digest. Some (lines.Content digest)) line e in
    let d = digest_sound content a.0 a.1 in
    subst (IsRead text) (same_Some (lines.Content a.0) line a.2)
    (d.0, prefix_sound (codes "content ") text content is ∙ ap (λ t. codes "content " ++ t) d.1)
digest_line_sound text line None (Some names) is others e =
    let a = bind_some (named_digest names) (λ digest. Some (lines.Names digest)) line e in
    let d = digest_sound names a.0 a.1 in
    subst (IsRead text) (same_Some (lines.Names a.0) line a.2)
    (d.0, prefix_sound (codes "names ") text names others ∙ ap (λ t. codes "names " ++ t) d.1)
digest_line_sound text line None None is others e = absurd cc

answer_sound : (text : List ℕ) (line : AnswerLine) → named_answer text ≡ Some line → IsRead text line
answer_sound text line e = elim (if_word text (codes "absent") lines.Absent _ line e) [
  | inl h ↦ subst (IsRead text) h.1 (tt, h.0)
  | inr e1 ↦ elim (if_word text (codes "file") lines.File _ line e1) [
    | inl h ↦ subst (IsRead text) h.1 (tt, h.0)
    | inr e2 ↦ elim (if_word text (codes "directory") lines.Directory _ line e2) [
      | inl h ↦ subst (IsRead text) h.1 (tt, h.0)
      | inr e3 ↦ elim (if_word text (codes "denied") lines.Denied _ line e3) [
        | inl h ↦ subst (IsRead text) h.1 (tt, h.0)
        | inr e4 ↦
            digest_line_sound text line (after_prefix (codes "content ") text)
            (after_prefix (codes "names ") text) refl refl e4
      ]
    ]
  ]
]

answer_again : (line : AnswerLine) → IsAnswerLine line → named_answer (answer_words line) ≡ Some line
answer_again lines.Absent h = refl
answer_again (lines.Content digest) h = ap (λ o. o >>= λ d. Some (lines.Content d)) (digest_again digest h)
answer_again lines.File h = refl
answer_again lines.Directory h = refl
answer_again (lines.Names digest) h = ap (λ o. o >>= λ d. Some (lines.Names d)) (digest_again digest h)
answer_again lines.Denied h = refl

answer_lacks : (line : AnswerLine) → IsAnswerLine line → Lacks 10 (answer_words line)
answer_lacks lines.Absent h = word_lacks 10 (codes "absent") refl
answer_lacks (lines.Content digest) h =
    lacks_append 10 (codes "content ") (encode_lower digest) (word_lacks 10 (codes "content ") refl)
    (hex_lacks 10 newline digest h.bytes)
answer_lacks lines.File h = word_lacks 10 (codes "file") refl
answer_lacks lines.Directory h = word_lacks 10 (codes "directory") refl
answer_lacks (lines.Names digest) h =
    lacks_append 10 (codes "names ") (encode_lower digest) (word_lacks 10 (codes "names ") refl)
    (hex_lacks 10 newline digest h.bytes)
answer_lacks lines.Denied h = word_lacks 10 (codes "denied") refl

pub answer_form : IsForm IsAnswerLine Anything answer_line answer_at
answer_form = part_form IsAnswerLine answer_words named_answer 10 answer_sound answer_again answer_lacks

pub answer_seen : (line : AnswerLine) (rest : List ℕ) → has_more (answer_line line ++ rest) ≡ true
answer_seen lines.Absent rest = refl
answer_seen (lines.Content digest) rest = refl
answer_seen lines.File rest = refl
answer_seen lines.Directory rest = refl
answer_seen (lines.Names digest) rest = refl
answer_seen lines.Denied rest = refl
