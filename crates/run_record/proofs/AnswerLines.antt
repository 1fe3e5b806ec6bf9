-- Answers whose lines share a digest are equal, where contents and lines are apart.
use Rattle.std.proofs.Common.{◌≡◌, inl, inr, List, [], ◌∷◌, ◌++◌, ℕ, map, refl, ap, sym, ◌∙◌}
use Rattle.std.proofs.lemmas.Option.{same_Some}
use Rattle.sha2.specs.Sha256.{sha256}
use Rattle.observed.specs.declared.ask.Ask.{Ask}
use Rattle.observed.specs.declared.access.Answer.{Answer}
use Rattle.observed.specs.declared.access.Answer.TheVariants as answers
use Rattle.prints.specs.AnswerForms.{answer_form}
use Rattle.prints.specs.Strong.{IsAnswerLine, answer_at, answer_line, line_of}
use Rattle.prints.specs.declared.strong_parts.AnswerLine.{AnswerLine}
use Rattle.run_record.specs.Collisions.{AreOfAnswers, IsIn, IsOfAnswer, NoCollision}
use Rattle.run_record.specs.Digests.{digest_asked, digest_of_line}
use Rattle.prints.proofs.AnswersHaveLines.{is_line}

-- ## Lines

-- the line, with nothing after it
abbrev alone : AnswerLine → AnswerLine × List ℕ
alone line = (line, [])

-- a text is the line of one answer
one_line : (a b : AnswerLine) → IsAnswerLine a → IsAnswerLine b → answer_line a ≡ answer_line b → a ≡ b
one_line a b is_a is_b e =
    ap (λ (p : AnswerLine × List ℕ). p.0) (same_Some (alone a) (alone b)
    (sym (answer_form.again a [] is_a tt) ∙ ap (λ (t : List ℕ). answer_at (t ++ [])) e ∙ answer_form.again b [] is_b tt))

-- ## Answers

same_answer : (M : List ℕ → Type 0) → NoCollision M → (a b : Answer) → ((x : List ℕ) → IsIn a x → M x) → ((x : List ℕ) → IsIn b x → M x) → line_of a ≡ line_of b
    → a ≡ b
same_answer M apart answers.Absent answers.Absent in_a in_b e = refl
same_answer M apart (answers.Content x) (answers.Content y) in_a in_b e =
    let digests : sha256 x ≡ sha256 y = cc in ap answers.Content (apart x y (in_a x refl) (in_b y refl) digests)
same_answer M apart answers.File answers.File in_a in_b e = refl
same_answer M apart answers.Directory answers.Directory in_a in_b e = refl
same_answer M apart (answers.Names x) (answers.Names y) in_a in_b e =
    let digests : sha256 x ≡ sha256 y = cc in ap answers.Names (apart x y (in_a x refl) (in_b y refl) digests)
same_answer M apart answers.Denied answers.Denied in_a in_b e = refl
same_answer M apart a b in_a in_b e = absurd cc

pub same_digest : (M : List ℕ → Type 0) → NoCollision M → (a b : Answer) → ((x : List ℕ) → IsOfAnswer a x → M x) → ((x : List ℕ) → IsOfAnswer b x → M x)
    → digest_of_line a ≡ digest_of_line b → a ≡ b
same_digest M apart a b of_a of_b e =
    let line = apart (answer_line (line_of a)) (answer_line (line_of b)) (of_a _ (inl refl)) (of_b _ (inl refl)) e in
    same_answer M apart a b (λ x h. of_a x (inr h)) (λ x h. of_b x (inr h))
    (one_line (line_of a) (line_of b) (is_line a) (is_line b) line)

joined : (a b : Answer) (xs ys : List Answer) → a ≡ b → xs ≡ ys → a ∷ xs ≡ b ∷ ys
joined a b xs ys first rest = ap (λ x. x ∷ xs) first ∙ ap (λ zs. b ∷ zs) rest

-- stored answers are those of now, where the digests of their lines are
pub same_answers : (M : List ℕ → Type 0) → NoCollision M → (see : Ask → Answer) (stored : List Answer) (asks : List Ask)
    → ((x : List ℕ) → AreOfAnswers stored x → M x) → ((x : List ℕ) → AreOfAnswers (map see asks) x → M x)
    → map digest_of_line stored ≡ map (digest_asked see) asks → stored ≡ map see asks
same_answers M apart see [] [] of_stored of_now e = refl
same_answers M apart see [] (q ∷ qs) of_stored of_now e = absurd cc
same_answers M apart see (a ∷ later) [] of_stored of_now e = absurd cc
same_answers M apart see (a ∷ later) (q ∷ qs) of_stored of_now e =
    let first : digest_of_line a ≡ digest_of_line (see q) = cc in
    let rest : map digest_of_line later ≡ map (digest_asked see) qs = cc in
    joined a (see q) later (map see qs)
    (same_digest M apart a (see q) (λ x h. of_stored x (inl h)) (λ x h. of_now x (inl h)) first)
    (same_answers M apart see later qs (λ x h. of_stored x (inr h)) (λ x h. of_now x (inr h)) rest)
