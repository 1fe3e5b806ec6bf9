-- An escaped text is read as the text that was given.
use Rattle.std.proofs.Common.{◌≡◌, ◌≢◌, ℕ, true, false, Bool, ◌&&◌, ◌==◌, cond, List, [], ◌∷◌, map, inl, inr, refl, sym, ◌∙◌, subst, codes, arith}
use Rattle.std.specs.Bool.{nat_le}
use Rattle.std.proofs.lemmas.Bool.{false≢true}
use Rattle.std.proofs.lemmas.Bool.Decides.{Decides-eqb}
use Rattle.html_page.specs.Escaping.{StandsFor, StandsForByte, escaped, escaped_byte, shown_byte}

by_reference : (b : ℕ) (n : ℕ) (text : List ℕ) → (b == n) ≡ true → StandsForByte text (shown_byte n) → StandsForByte text (shown_byte b)
by_reference b n text e h = subst (λ k. StandsForByte text (shown_byte k)) (sym ((Decides-eqb b n).0 e)) h

by_itself : (b : ℕ) → (b == 38) ≡ false → StandsForByte (shown_byte b ∷ []) (shown_byte b)
by_itself b e = inl (refl, by_test (nat_le 32 b && nat_le b 126))
  where
    by_test : (t : Bool) → cond t b 63 ≢ 38
    by_test true = λ same. false≢true (sym e ∙ (Decides-eqb b 38).1 same)
    by_test false = λ same. omega (arith, same)

byte_read_back : (b : ℕ) → StandsForByte (escaped_byte b) (shown_byte b)
byte_read_back b = by_tests (b == 38) (b == 60) (b == 62) (b == 34) (b == 39) refl refl refl refl refl
  where
    by_tests : (and less more quotes apostrophe : Bool) → (b == 38) ≡ and → (b == 60) ≡ less → (b == 62) ≡ more → (b == 34) ≡ quotes → (b == 39) ≡ apostrophe
        → StandsForByte (cond and (codes "&amp;") (cond less (codes "&lt;") (cond more (codes "&gt;") (cond quotes (codes "&quot;") (cond apostrophe (codes "&#39;") (shown_byte b ∷ [])))))) (shown_byte b)
    by_tests true less more quotes apostrophe e f g h i = by_reference b 38 (codes "&amp;") e (inr (inl (refl, refl)))
    by_tests false true more quotes apostrophe e f g h i = by_reference b 60 (codes "&lt;") f (inr (inr (inl (refl, refl))))
    by_tests false false true quotes apostrophe e f g h i = by_reference b 62 (codes "&gt;") g (inr (inr (inr (inl (refl, refl)))))
    by_tests false false false true apostrophe e f g h i = by_reference b 34 (codes "&quot;") h (inr (inr (inr (inr (inl (refl, refl))))))
    by_tests false false false false true e f g h i = by_reference b 39 (codes "&#39;") i (inr (inr (inr (inr (inr (refl, refl))))))
    by_tests false false false false false e f g h i = by_itself b e

pub read_back : (text : List ℕ) → StandsFor (escaped text) (map shown_byte text)
read_back [] = refl
read_back (b ∷ bs) = (escaped_byte b, escaped bs, byte_read_back b, refl, read_back bs)
