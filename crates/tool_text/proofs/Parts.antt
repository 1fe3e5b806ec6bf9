-- The parts of a text between its commas, one after the other.
use Rattle.std.proofs.Common.{◌≡◌, ℕ, suc, true, false, Bool, cond, List, [], ◌∷◌, ◌++◌, length, map, take, drop, refl, ap, sym, ◌∙◌, append_assoc}
use Rattle.std.specs.Borrow.{Bor}
use Rattle.std.specs.List.{onto_first}
use Rattle.std.proofs.lemmas.List.{map_push}
use Rattle.tool_text.specs.declared.separating.Quoting.{Quoting}
use Rattle.tool_text.specs.declared.separating.Quoting.TheVariants.{Outside}
use Rattle.tool_text.specs.Reading.{is_cut, operand_texts, part_len, quoting_after, separated, trimmed}
use Rattle.bx_tree.specs.Lent.{texts_now}
use Rattle.bx_tree.proofs.Lists.{none_left}

-- what follows the first part, by whether a byte ends it
after_part : (t : Bool) (n : ℕ) (b : ℕ) (bs rest : List ℕ) → drop (cond t 0 (suc n)) (b ∷ bs) ≡ rest → cond t (b ∷ bs) (drop n bs) ≡ rest
after_part true n b bs rest e = e
after_part false n b bs rest e = e

whole : (t : Bool) (n b : ℕ) (bs : List ℕ) (more parts : List (List ℕ)) → (t ≡ true → ⊥) → (t ≡ false → parts ≡ take n bs ∷ [])
    → cond t ([] ∷ more) (onto_first b parts) ≡ take (cond t 0 (suc n)) (b ∷ bs) ∷ []
whole true n b bs more parts never rest = absurd (never refl)
whole false n b bs more parts never rest = ap (onto_first b) (rest refl)

first_of_more : (t : Bool) (n b : ℕ) (bs more' : List ℕ) (more parts later : List (List ℕ)) → (t ≡ true → more ≡ later)
    → (t ≡ false → parts ≡ take n bs ∷ later) → cond t ([] ∷ more) (onto_first b parts) ≡ take (cond t 0 (suc n)) (b ∷ bs) ∷ later
first_of_more true n b bs more' more parts later cut rest = ap (λ ps. [] ∷ ps) (cut refl)
first_of_more false n b bs more' more parts later cut rest = ap (onto_first b) (rest refl)

pub parts_end : (q : Quoting) (xs : List ℕ) → drop (part_len q xs) xs ≡ [] → separated q xs ≡ take (part_len q xs) xs ∷ []
parts_end q [] e = refl
parts_end q (b ∷ bs) e =
    whole (is_cut q b) (part_len (quoting_after q b) bs) b bs (separated Outside bs) (separated (quoting_after q b) bs)
    (λ t. let z : b ∷ bs ≡ [] = sym (ap (λ s. drop (cond s 0 (suc (part_len (quoting_after q b) bs))) (b ∷ bs)) t) ∙ e in cc)
    (λ f. parts_end (quoting_after q b) bs (sym (ap (λ s. drop (cond s 0 (suc (part_len (quoting_after q b) bs))) (b ∷ bs)) f) ∙ e))

pub parts_more : (q : Quoting) (xs : List ℕ) (x : ℕ) (more : List ℕ) → drop (part_len q xs) xs ≡ x ∷ more
    → separated q xs ≡ take (part_len q xs) xs ∷ separated Outside more
parts_more q [] x more e = cc
parts_more q (b ∷ bs) x more e =
    first_of_more (is_cut q b) (part_len (quoting_after q b) bs) b bs more (separated Outside bs) (separated (quoting_after q b) bs) (separated Outside more)
    (λ t. let z : b ∷ bs ≡ x ∷ more = sym (ap (λ s. drop (cond s 0 (suc (part_len (quoting_after q b) bs))) (b ∷ bs)) t) ∙ e in ap (separated Outside) (tails b x bs more z))
    (λ f. parts_more (quoting_after q b) bs x more (sym (ap (λ s. drop (cond s 0 (suc (part_len (quoting_after q b) bs))) (b ∷ bs)) f) ∙ e))
  where
    tails : (b x : ℕ) (bs more : List ℕ) → b ∷ bs ≡ x ∷ more → bs ≡ more
    tails b x bs more e = cc

pub last_text : (texts now : List (Bor (List ℕ))) (text : Bor (List ℕ)) (rest part after whole : List ℕ) → now ≡ texts ++ text ∷ []
    → text.now ≡ trimmed part → part ≡ take (part_len Outside rest) rest → after ≡ drop (part_len Outside rest) rest → length after ≡ 0
    → texts_now texts ++ operand_texts rest ≡ operand_texts whole → texts_now now ≡ operand_texts whole
last_text texts now text rest part after whole is trim prefix back none so_far =
    ap texts_now is ∙ map_push (λ (t : Bor (List ℕ)). t.now) texts text ∙ ap (λ t. texts_now texts ++ t ∷ []) (trim ∙ ap trimmed prefix)
    ∙ ap (λ ps. texts_now texts ++ map trimmed ps) (sym (parts_end Outside rest (sym back ∙ none_left after none))) ∙ so_far

pub next_text : (texts now : List (Bor (List ℕ))) (text : Bor (List ℕ)) (rest part after whole more : List ℕ) (x : ℕ) → now ≡ texts ++ text ∷ []
    → text.now ≡ trimmed part → part ≡ take (part_len Outside rest) rest → after ≡ drop (part_len Outside rest) rest → after ≡ x ∷ more
    → texts_now texts ++ operand_texts rest ≡ operand_texts whole → texts_now now ++ operand_texts more ≡ operand_texts whole
next_text texts now text rest part after whole more x is trim prefix back cut so_far =
    ap (λ ts. texts_now ts ++ operand_texts more) is
    ∙ ap (λ ts. ts ++ operand_texts more) (map_push (λ (t : Bor (List ℕ)). t.now) texts text)
    ∙ append_assoc (texts_now texts) (text.now ∷ []) (operand_texts more)
    ∙ ap (λ t. texts_now texts ++ t ∷ operand_texts more) (trim ∙ ap trimmed prefix)
    ∙ ap (λ ps. texts_now texts ++ map trimmed ps) (sym (parts_more Outside rest x more (sym back ∙ cut))) ∙ so_far
