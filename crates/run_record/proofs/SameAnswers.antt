-- Stored answers are those of now as far as each is.
use Rattle.std.proofs.Common.{◌≡◌, ◌≢◌, ℕ, ◌<◌, ◌≤◌, ◌+◌, List, [], ◌∷◌, ◌++◌, length, get_or, map, take, refl, ap, sym, ◌∙◌, arith}
use Rattle.std.proofs.lemmas.List.{get_or-map, map-append, take_all, take_more}
use Rattle.observed.specs.declared.ask.Ask.{Ask}
use Rattle.observed.specs.declared.access.Answer.{Answer}
use Rattle.observed.specs.declared.access.Answer.TheVariants as answers
use Rattle.run_record.specs.Holding.{answer_kind}

pub one_more : (see : Ask → Answer) (stored : List Answer) (asks : List Ask) (i : ℕ) (a b : Answer) (q : Ask) → i < length stored → i < length asks → a ≡ get_or stored i a
    → q ≡ get_or asks i q → take i stored ≡ map see (take i asks) → b ≡ see q → a ≡ b → take (i + 1) stored ≡ map see (take (i + 1) asks)
one_more see stored asks i a b q within within_asks is_a is_q before is_b same =
    take_more stored i a within ∙ ap (λ (x : Answer). take i stored ++ x ∷ []) (sym is_a ∙ same ∙ is_b)
    ∙ ap (λ (xs : List Answer). xs ++ see q ∷ []) before ∙ ap (λ (x : Ask). map see (take i asks) ++ see x ∷ []) is_q
    ∙ sym (ap (map see) (take_more asks i q within_asks) ∙ map-append see (take i asks) (get_or asks i q ∷ []))

-- another answer is stored here
pub another : (see : Ask → Answer) (stored : List Answer) (asks : List Ask) (i : ℕ) (a b : Answer) (q : Ask) → i < length asks → a ≡ get_or stored i a
    → q ≡ get_or asks i q → b ≡ see q → a ≢ b → stored ≢ map see asks
another see stored asks i a b q within_asks is_a is_q is_b other = λ same.
    other (is_a ∙ ap (λ (xs : List Answer). get_or xs i a) same ∙ get_or-map see asks i q a within_asks ∙ ap see (sym is_q) ∙ sym is_b)

pub all_same : (see : Ask → Answer) (stored : List Answer) (asks : List Ask) (i : ℕ) → length stored ≡ length asks → length asks ≤ i → take i stored ≡ map see (take i asks)
    → stored ≡ map see asks
all_same see stored asks i same past before =
    sym (take_all i stored (omega (arith, same, past))) ∙ before ∙ ap (map see) (take_all i asks past)

-- answers without bytes are the same where their kinds are
pub same_kind : (a b : Answer) → ((x : List ℕ) → a ≡ answers.Content x → ⊥) → ((x : List ℕ) → a ≡ answers.Names x → ⊥) → answer_kind a ≡ answer_kind b → a ≡ b
same_kind answers.Absent answers.Absent no_content no_names e = refl
same_kind answers.Absent (answers.Content y) no_content no_names e = absurd (omega (arith, e))
same_kind answers.Absent answers.File no_content no_names e = absurd (omega (arith, e))
same_kind answers.Absent answers.Directory no_content no_names e = absurd (omega (arith, e))
same_kind answers.Absent (answers.Names y) no_content no_names e = absurd (omega (arith, e))
same_kind answers.Absent answers.Denied no_content no_names e = absurd (omega (arith, e))
same_kind (answers.Content x) b no_content no_names e = absurd (no_content x refl)
same_kind answers.File answers.Absent no_content no_names e = absurd (omega (arith, e))
same_kind answers.File (answers.Content y) no_content no_names e = absurd (omega (arith, e))
same_kind answers.File answers.File no_content no_names e = refl
same_kind answers.File answers.Directory no_content no_names e = absurd (omega (arith, e))
same_kind answers.File (answers.Names y) no_content no_names e = absurd (omega (arith, e))
same_kind answers.File answers.Denied no_content no_names e = absurd (omega (arith, e))
same_kind answers.Directory answers.Absent no_content no_names e = absurd (omega (arith, e))
same_kind answers.Directory (answers.Content y) no_content no_names e = absurd (omega (arith, e))
same_kind answers.Directory answers.File no_content no_names e = absurd (omega (arith, e))
same_kind answers.Directory answers.Directory no_content no_names e = refl
same_kind answers.Directory (answers.Names y) no_content no_names e = absurd (omega (arith, e))
same_kind answers.Directory answers.Denied no_content no_names e = absurd (omega (arith, e))
same_kind (answers.Names x) b no_content no_names e = absurd (no_names x refl)
same_kind answers.Denied answers.Absent no_content no_names e = absurd (omega (arith, e))
same_kind answers.Denied (answers.Content y) no_content no_names e = absurd (omega (arith, e))
same_kind answers.Denied answers.File no_content no_names e = absurd (omega (arith, e))
same_kind answers.Denied answers.Directory no_content no_names e = absurd (omega (arith, e))
same_kind answers.Denied (answers.Names y) no_content no_names e = absurd (omega (arith, e))
same_kind answers.Denied answers.Denied no_content no_names e = refl

pub same_bytes : (x y : List ℕ) → answers.Content x ≡ answers.Content y → x ≡ y
same_bytes x y e = cc

pub same_names : (x y : List ℕ) → answers.Names x ≡ answers.Names y → x ≡ y
same_names x y e = cc
