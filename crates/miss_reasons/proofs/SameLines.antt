-- Lines of strong texts that are the same.
use Rattle.std.proofs.Common.{◌≡◌, ℕ, ◌+◌, ◌<◌, List, Some, inl, inr, refl, ap, sym, ◌∙◌, arith}
use Rattle.std.specs.Prelude.{slice_get}
use Rattle.std.proofs.lemmas.Bool.{cases_lt}
use Rattle.std.proofs.lemmas.Option.{same_Some}
use Rattle.observed.specs.declared.access.Answer.{Answer}
use Rattle.prints.specs.Strong.{line_of}
use Rattle.prints.specs.declared.strong_parts.AnswerLine.{AnswerLine}
use Rattle.prints.specs.declared.strong_parts.AnswerLine.TheVariants as answer_lines
use Rattle.miss_reasons.specs.Finding.{line_kind}

-- lines without a digest are the same where their kinds are
pub same_kind : (a b : AnswerLine) → ((x : List ℕ) → a ≡ answer_lines.Content x → ⊥) → ((x : List ℕ) → a ≡ answer_lines.Names x → ⊥) → line_kind a ≡ line_kind b → a ≡ b
same_kind answer_lines.Absent answer_lines.Absent no_content no_names e = refl
same_kind answer_lines.Absent (answer_lines.Content y) no_content no_names e = absurd (omega (arith, e))
same_kind answer_lines.Absent answer_lines.File no_content no_names e = absurd (omega (arith, e))
same_kind answer_lines.Absent answer_lines.Directory no_content no_names e = absurd (omega (arith, e))
same_kind answer_lines.Absent (answer_lines.Names y) no_content no_names e = absurd (omega (arith, e))
same_kind answer_lines.Absent answer_lines.Denied no_content no_names e = absurd (omega (arith, e))
same_kind (answer_lines.Content x) b no_content no_names e = absurd (no_content x refl)
same_kind answer_lines.File answer_lines.Absent no_content no_names e = absurd (omega (arith, e))
same_kind answer_lines.File (answer_lines.Content y) no_content no_names e = absurd (omega (arith, e))
same_kind answer_lines.File answer_lines.File no_content no_names e = refl
same_kind answer_lines.File answer_lines.Directory no_content no_names e = absurd (omega (arith, e))
same_kind answer_lines.File (answer_lines.Names y) no_content no_names e = absurd (omega (arith, e))
same_kind answer_lines.File answer_lines.Denied no_content no_names e = absurd (omega (arith, e))
same_kind answer_lines.Directory answer_lines.Absent no_content no_names e = absurd (omega (arith, e))
same_kind answer_lines.Directory (answer_lines.Content y) no_content no_names e = absurd (omega (arith, e))
same_kind answer_lines.Directory answer_lines.File no_content no_names e = absurd (omega (arith, e))
same_kind answer_lines.Directory answer_lines.Directory no_content no_names e = refl
same_kind answer_lines.Directory (answer_lines.Names y) no_content no_names e = absurd (omega (arith, e))
same_kind answer_lines.Directory answer_lines.Denied no_content no_names e = absurd (omega (arith, e))
same_kind (answer_lines.Names x) b no_content no_names e = absurd (no_names x refl)
same_kind answer_lines.Denied answer_lines.Absent no_content no_names e = absurd (omega (arith, e))
same_kind answer_lines.Denied (answer_lines.Content y) no_content no_names e = absurd (omega (arith, e))
same_kind answer_lines.Denied answer_lines.File no_content no_names e = absurd (omega (arith, e))
same_kind answer_lines.Denied answer_lines.Directory no_content no_names e = absurd (omega (arith, e))
same_kind answer_lines.Denied (answer_lines.Names y) no_content no_names e = absurd (omega (arith, e))
same_kind answer_lines.Denied answer_lines.Denied no_content no_names e = refl

pub same_content : (x y : List ℕ) → answer_lines.Content x ≡ answer_lines.Content y → x ≡ y
same_content x y e = cc

pub same_names : (x y : List ℕ) → answer_lines.Names x ≡ answer_lines.Names y → x ≡ y
same_names x y e = cc

-- one more line that says its answer
pub said_more : (lines : List AnswerLine) (given : List Answer) (n : ℕ) (line : AnswerLine) (answer : Answer) → slice_get lines n ≡ Some line → slice_get given n ≡ Some answer
    → line ≡ line_of answer
    → ((i : ℕ) (a : Answer) → i < n → slice_get given i ≡ Some a → slice_get lines i ≡ Some (line_of a))
    → (i : ℕ) (a : Answer) → i < n + 1 → slice_get given i ≡ Some a → slice_get lines i ≡ Some (line_of a)
said_more lines given n line answer there answered same before i a l is = elim (cases_lt i n) [
  | inl low ↦ before i a low is
  | inr high ↦
      let level : i ≡ n = omega (arith, l, high) in
      let own : answer ≡ a = same_Some answer a (sym answered ∙ ap (λ k. slice_get given k) (sym level) ∙ is) in
      ap (λ k. slice_get lines k) level ∙ there ∙ ap Some (same ∙ ap line_of own)
]
