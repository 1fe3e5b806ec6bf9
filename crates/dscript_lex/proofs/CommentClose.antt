-- Where a comment closes.
use Rattle.std.proofs.Common.{◌≡◌, ℕ, zero, suc, ◌+◌, ◌<◌, ◌≤◌, Bool, true, false, cond, ◌&&◌, eqb, List, [], ◌∷◌, length, get_or, drop, Option, Some, None, refl, sym, ap, ◌∙◌, subst, arith}
use Rattle.std.proofs.lemmas.List.{drop_more, drop-drop, length-drop}
use Rattle.dscript_lex.specs.Scanning.{close_len, option_more, NeverCloses}

-- where two bytes are left, either they close the comment or the search goes on after the first
pub close_more : (s : List ℕ) (at : ℕ) → at + 1 < length s → close_len (drop at s) ≡ cond (eqb (get_or s at 0) 0x2a && eqb (get_or s (at + 1) 0) 0x2f) (Some 2) (option_more 1 (close_len (drop (at + 1) s)))
unfolding close_len
close_more s at two_left =
    let first : drop at s ≡ get_or s at 0 ∷ drop (at + 1) s = drop_more s at 0 (omega arith) in
    let second : drop (at + 1) s ≡ get_or s (at + 1) 0 ∷ drop (at + 1 + 1) s = drop_more s (at + 1) 0 two_left in
    ap close_len (first ∙ ap (λ r. get_or s at 0 ∷ r) second) ∙ ap (λ r. cond (eqb (get_or s at 0) 0x2a && eqb (get_or s (at + 1) 0) 0x2f) (Some 2) (option_more 1 (close_len r))) (sym second)

short : (s : List ℕ) → length s ≤ 1 → close_len s ≡ None
unfolding close_len
short [] le = refl
short (a ∷ []) le = refl
short (a ∷ b ∷ bs) le = absurd (omega arith)

-- a byte alone closes nothing
pub close_end : (s : List ℕ) (at : ℕ) → length s ≤ at + 1 → close_len (drop at s) ≡ None
close_end s at le = short (drop at s) (omega (arith, length-drop at s))

-- whether `*/` begins at a place
abbrev pub closes : List ℕ → ℕ → Bool
closes s at = eqb (get_or s at 0) 0x2a && eqb (get_or s (at + 1) 0) 0x2f

pub close_here : (s : List ℕ) (at : ℕ) → at + 1 < length s → closes s at ≡ true → option_more at (close_len (drop at s)) ≡ Some (at + 2)
close_here s at two_left here =
    ap (option_more at) (close_more s at two_left ∙ ap (λ t. cond t (Some 2) (option_more 1 (close_len (drop (at + 1) s)))) here)

more_more : (at : ℕ) (o : Option ℕ) → option_more at (option_more 1 o) ≡ option_more (at + 1) o
more_more at None = refl
more_more at (Some n) = let e : at + (1 + n) ≡ at + 1 + n = omega arith in ap Some e

pub close_later : (s : List ℕ) (at : ℕ) → at + 1 < length s → closes s at ≡ false → option_more (at + 1) (close_len (drop (at + 1) s)) ≡ option_more at (close_len (drop at s))
close_later s at two_left not_here =
    sym (ap (option_more at) (close_more s at two_left ∙ ap (λ t. cond t (Some 2) (option_more 1 (close_len (drop (at + 1) s)))) not_here) ∙ more_more at (close_len (drop (at + 1) s)))

-- a comment that is closed nowhere is closed nowhere later
tail_none : (o : Option ℕ) → option_more 1 o ≡ None → o ≡ None
tail_none None e = refl
tail_none (Some n) e = cc

next_none : (t : Bool) (o : Option ℕ) → cond t (Some 2) (option_more 1 o) ≡ None → o ≡ None
next_none true o e = cc
next_none false o e = tail_none o e

pub none_after : (s : List ℕ) → close_len s ≡ None → (n : ℕ) → close_len (drop n s) ≡ None
unfolding close_len
none_after [] none zero = refl
none_after [] none (suc n) = refl
none_after (a ∷ s) none zero = none
none_after (a ∷ []) none (suc n) = none_after [] refl n
none_after (a ∷ b ∷ bs) none (suc n) = none_after (b ∷ bs) (next_none (eqb a 0x2a && eqb b 0x2f) (close_len (b ∷ bs)) none) n

pub never_closes : (a b : ℕ) (bs : List ℕ) → close_len bs ≡ None → NeverCloses (a ∷ b ∷ bs)
never_closes a b bs none = λ n. let e : n + 2 ≡ suc (suc n) = omega arith in subst (λ k. close_len (drop k (a ∷ b ∷ bs)) ≡ None) (sym e) (none_after bs none n)

pub never_closes_after : (s : List ℕ) (k : ℕ) → NeverCloses s → NeverCloses (drop k s)
never_closes_after s k never = λ n.
    let e : k + (n + 2) ≡ (k + n) + 2 = omega arith in
    ap close_len (drop-drop (n + 2) k s ∙ ap (λ m. drop m s) e) ∙ never (k + n)

-- bytes that begin with two others
two_first : (s r rest : List ℕ) (a b : ℕ) → s ≡ a ∷ r → r ≡ b ∷ rest → s ≡ a ∷ b ∷ rest
two_first s r rest a b first second = first ∙ ap (λ x. a ∷ x) second

pub closes_nowhere : (s r rest : List ℕ) (a b : ℕ) → s ≡ a ∷ r → r ≡ b ∷ rest → NeverCloses s → close_len rest ≡ None
closes_nowhere s r rest a b first second never = sym (ap (λ x. close_len (drop 2 x)) (two_first s r rest a b first second)) ∙ never 0

pub nowhere_closes : (s r rest : List ℕ) (a b : ℕ) → s ≡ a ∷ r → r ≡ b ∷ rest → close_len rest ≡ None → NeverCloses s
nowhere_closes s r rest a b first second none = subst NeverCloses (sym (two_first s r rest a b first second)) (never_closes a b rest none)
