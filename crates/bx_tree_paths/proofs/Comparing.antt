-- Comparing a text with one that is given in two parts.
use Rattle.std.proofs.Common.{◌≡◌, ◌==◌, ℕ, ◌<◌, true, List, [], ◌∷◌, ◌++◌, length, refl, ap, sym, ◌∙◌, append-nil, arith}
use Rattle.std.proofs.Math.Dec.{eqb-suc-zero}
use Rattle.std.proofs.lemmas.Bool.{false≢true}
use Rattle.std.specs.Cmp.Lexicographic.{slice_cmp}
use Rattle.std.specs.Ordering.{nat_cmp, ordering_then}
use Rattle.std.specs.declared.cmp.Ordering.{Ordering}
use Rattle.std.specs.declared.cmp.Ordering.TheVariants.{Less, Equal, Greater}

then_assoc : (a b c : Ordering) → ordering_then (ordering_then a b) c ≡ ordering_then a (ordering_then b c)
then_assoc Less b c = refl
then_assoc Equal b c = refl
then_assoc Greater b c = refl

-- an empty second part does not matter
pub cut_none : (text first second : List ℕ) → (length second == 0) ≡ true → slice_cmp nat_cmp text first ≡ slice_cmp nat_cmp text (first ++ second)
cut_none text first [] e = ap (slice_cmp nat_cmp text) (sym (append-nil first))
cut_none text first (s ∷ ss) e = absurd (false≢true (sym (eqb-suc-zero (length ss)) ∙ e))

-- what follows a longer text does not matter
pub cut_before : (text first second : List ℕ) → length text < length first
    → slice_cmp nat_cmp text first ≡ slice_cmp nat_cmp text (first ++ second)
cut_before [] [] second less = absurd (omega (arith, less))
cut_before [] (f ∷ fs) second less = refl
cut_before (t ∷ ts) [] second less = absurd (omega (arith, less))
cut_before (t ∷ ts) (f ∷ fs) second less = ap (ordering_then (nat_cmp t f)) (cut_before ts fs second (omega (arith, less)))

-- two parts that are cut at the same place are compared one after the other
pub cut_at : (head rest first second : List ℕ) → length head ≡ length first
    → slice_cmp nat_cmp (head ++ rest) (first ++ second)
    ≡ ordering_then (slice_cmp nat_cmp head first) (slice_cmp nat_cmp rest second)
cut_at [] rest [] second same = refl
cut_at [] rest (f ∷ fs) second same = absurd (omega (arith, same))
cut_at (h ∷ hs) rest [] second same = absurd (omega (arith, same))
cut_at (h ∷ hs) rest (f ∷ fs) second same =
    ap (ordering_then (nat_cmp h f)) (cut_at hs rest fs second (omega (arith, same)))
    ∙ sym (then_assoc (nat_cmp h f) (slice_cmp nat_cmp hs fs) (slice_cmp nat_cmp rest second))
