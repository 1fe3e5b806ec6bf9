-- The value that is scanned after a delimiter is the value of the whole text up to the closing one.
use Rattle.std.proofs.Common.{◌≡◌, ℕ, zero, suc, ◌+◌, ◌≤◌, Bool, true, false, cond, not, ◌&&◌, eqb, List, [], ◌∷◌, ◌++◌, length, take, Option, Some, None, refl, sym, ap, ◌∙◌, subst, arith}
use Rattle.std.proofs.lemmas.Bool.{cond-true, cond-false}
use Rattle.dscript_lex.specs.declared.enclosed.Reach.{Reach}
use Rattle.dscript_lex.specs.Bytes.{escape_of}
use Rattle.dscript_lex.specs.Lexemes.{Enclosed, enclosed, with_byte}
use Rattle.dscript_lex.specs.Scanning.{further, reach}
use Rattle.dscript_lex.proofs.PunctuatorExact.{two_more}

-- a value, with how many bytes it takes
abbrev pub reaching : Enclosed → ℕ → Reach
reaching e n = record { value = e.value; hole = e.hole; len = n }

-- completeness: the value of a whole text is scanned, whatever follows it
abbrev Gives : Option Enclosed → Option Reach → ℕ → Type 0
Gives x y n = (e : Enclosed) → x ≡ Some e → y ≡ Some (reaching e n)

both : (t : Bool) (x z : Option Enclosed) (y w : Option Reach) (n : ℕ) → Gives x y n → Gives z w n → Gives (cond t x z) (cond t y w) n
both true x z y w n a b = a
both false x z y w n a b = b

nothing : (y : Option Reach) (n : ℕ) → Gives None y n
nothing y n = λ e no. cc

exactly : (e : Enclosed) (n : ℕ) → Gives (Some e) (Some (reaching e n)) n
exactly e n = λ e' same. let inside : e ≡ e' = cc in ap (λ x. Some (reaching x n)) inside

with_none : (o : Option ℕ) → with_byte o None ≡ None
with_none None = refl
with_none (Some b) = refl

further_gives : (o : Option ℕ) (x : Option Enclosed) (y : Option Reach) (n k m : ℕ) → k + n ≡ m → Gives x y n → Gives (with_byte o x) (further o k y) m
further_gives None x y n k m lens g = λ e no. cc
further_gives (Some b) None y n k m lens g = λ e no. cc
further_gives (Some b) (Some e0) y n k m lens g = λ e same.
    let inside : record { value = b ∷ e0.value; hole = e0.hole } ≡ e = cc in
    ap (further (Some b) k) (g e0 refl) ∙ ap (λ l. Some (reaching (record { value = b ∷ e0.value; hole = e0.hole }) l)) lens ∙ ap (λ x. Some (reaching x m)) inside

pub reach_complete : (d : ℕ) (t rest : List ℕ) → Gives (enclosed d t) (reach d (t ++ rest)) (length t)
unfolding enclosed reach
reach_complete d [] rest = nothing _ _
reach_complete d (b ∷ []) [] = both (eqb b d) _ _ _ _ _ (exactly (record { value = []; hole = false }) 1) (nothing _ _)
reach_complete d (b ∷ []) (c ∷ rest) = both (eqb b d) _ _ _ _ _ (exactly (record { value = []; hole = false }) 1) (nothing _ _)
reach_complete d (b ∷ c ∷ []) rest =
    both (eqb b d) _ _ _ _ _ (nothing _ _)
    (both (eqb b 0x5c) _ _ _ _ _ (λ e no. let none = with_none (escape_of c []) in cc)
    (both (eqb d 0x60 && eqb b 0x24 && eqb c 0x7b) _ _ _ _ _ (exactly (record { value = []; hole = true }) 2)
    (both (not (eqb d 0x60) && eqb b 0x0a) _ _ _ _ _ (nothing _ _)
    (further_gives (Some b) (enclosed d (c ∷ [])) (reach d (c ∷ rest)) 1 1 2 refl (reach_complete d (c ∷ []) rest)))))
reach_complete d (b ∷ c ∷ x ∷ xs) rest =
    let n = length xs in
    both (eqb b d) _ _ _ _ _ (nothing _ _)
    (both (eqb b 0x5c) _ _ _ _ _ (further_gives (escape_of c (x ∷ xs)) (enclosed d (x ∷ xs)) (reach d (x ∷ (xs ++ rest))) (suc n) 2 (suc (suc (suc n))) (omega arith) (reach_complete d (x ∷ xs) rest))
    (both (eqb d 0x60 && eqb b 0x24 && eqb c 0x7b) _ _ _ _ _ (nothing _ _)
    (both (not (eqb d 0x60) && eqb b 0x0a) _ _ _ _ _ (nothing _ _)
    (further_gives (Some b) (enclosed d (c ∷ x ∷ xs)) (reach d (c ∷ x ∷ (xs ++ rest))) (suc (suc n)) 1 (suc (suc (suc n))) (omega arith) (reach_complete d (c ∷ x ∷ xs) rest)))))

-- soundness: the value that is scanned is that of the text up to there
pub record Takes (d : ℕ) (s : List ℕ) (r : Reach) : Type 0 where
  pub in_range : r.len ≤ length s
  pub is : enclosed d (take r.len s) ≡ Some (record { value = r.value; hole = r.hole })

abbrev Taken : ℕ → List ℕ → Option Reach → Type 0
Taken d s y = (r : Reach) → y ≡ Some r → Takes d s r

either : (d : ℕ) (s : List ℕ) (t : Bool) (y w : Option Reach) → (t ≡ true → Taken d s y) → (t ≡ false → Taken d s w) → Taken d s (cond t y w)
either d s true y w a b = a refl
either d s false y w a b = b refl

taken_none : (d : ℕ) (s : List ℕ) → Taken d s None
taken_none d s = λ r no. cc

taken_some : (d : ℕ) (s : List ℕ) (r : Reach) → Takes d s r → Taken d s (Some r)
taken_some d s r takes = λ r' same. let inside : r ≡ r' = cc in subst (Takes d s) inside takes

same_escape : (d c n : ℕ) (xs : List ℕ) (e : Enclosed) → enclosed d (take n xs) ≡ Some e → escape_of c (take n xs) ≡ escape_of c xs
unfolding enclosed
same_escape d c zero xs e is = cc
same_escape d c (suc n) [] e is = cc
same_escape d c (suc n) (x ∷ xs) e is = refl

-- an escaped byte, and the value after it
escaped : (d b c : ℕ) (bs : List ℕ) → eqb b d ≡ false → eqb b 0x5c ≡ true → (o : Option ℕ) (y : Option Reach) → escape_of c bs ≡ o → reach d bs ≡ y → ((r : Reach) → y ≡ Some r → Takes d bs r) → Taken d (b ∷ c ∷ bs) (further o 2 y)
unfolding enclosed
escaped d b c bs not_end is_escape None y eo ey reach_sound = λ r no. cc
escaped d b c bs not_end is_escape (Some v) None eo ey reach_sound = λ r no. cc
escaped d b c bs not_end is_escape (Some v) (Some r) eo ey reach_sound =
    let takes = reach_sound r refl in
    taken_some d (b ∷ c ∷ bs) _ (record {
      in_range = omega (arith, takes.in_range);
      is =
          ap (enclosed d) (two_more r.len b c bs)
          ∙ cond-false (eqb b d) None _ not_end
          ∙ cond-true (eqb b 0x5c) _ _ is_escape
          ∙ (λ i. with_byte ((same_escape d c r.len bs _ takes.is ∙ eo) i) (takes.is i));
    })

-- a plain byte, and the value after it, which takes at least one byte
plain : (d b c : ℕ) (bs : List ℕ) → eqb b d ≡ false → eqb b 0x5c ≡ false → (eqb d 0x60 && eqb b 0x24 && eqb c 0x7b) ≡ false → (not (eqb d 0x60) && eqb b 0x0a) ≡ false → (r : Reach) → Takes d (c ∷ bs) r → (n : ℕ) → r.len ≡ n → enclosed d (take (1 + n) (b ∷ c ∷ bs)) ≡ Some (record { value = b ∷ r.value; hole = r.hole })
unfolding enclosed
plain d b c bs not_end not_escape not_hole not_newline r takes zero len =
    let no : enclosed d [] ≡ Some (record { value = r.value; hole = r.hole }) = ap (λ k. enclosed d (take k (c ∷ bs))) (sym len) ∙ takes.is in
    cc
plain d b c bs not_end not_escape not_hole not_newline r takes (suc n) len =
    let inside : enclosed d (c ∷ take n bs) ≡ Some (record { value = r.value; hole = r.hole }) = ap (λ k. enclosed d (take k (c ∷ bs))) (sym len) ∙ takes.is in
    ap (enclosed d) (two_bytes n)
    ∙ cond-false (eqb b d) None _ not_end
    ∙ cond-false (eqb b 0x5c) _ _ not_escape
    ∙ cond-false (eqb d 0x60 && eqb b 0x24 && eqb c 0x7b) _ _ not_hole
    ∙ cond-false (not (eqb d 0x60) && eqb b 0x0a) None _ not_newline
    ∙ ap (with_byte (Some b)) inside
  where
    two_bytes : (n : ℕ) → take (1 + suc n) (b ∷ c ∷ bs) ≡ b ∷ c ∷ take n bs
    two_bytes n = let e : 1 + suc n ≡ suc (suc n) = omega arith in ap (λ k. take k (b ∷ c ∷ bs)) e

plain_taken : (d b c : ℕ) (bs : List ℕ) → eqb b d ≡ false → eqb b 0x5c ≡ false → (eqb d 0x60 && eqb b 0x24 && eqb c 0x7b) ≡ false → (not (eqb d 0x60) && eqb b 0x0a) ≡ false → (y : Option Reach) → ((r : Reach) → y ≡ Some r → Takes d (c ∷ bs) r) → Taken d (b ∷ c ∷ bs) (further (Some b) 1 y)
plain_taken d b c bs not_end not_escape not_hole not_newline None reach_sound = λ r no. cc
plain_taken d b c bs not_end not_escape not_hole not_newline (Some r) reach_sound =
    let takes = reach_sound r refl in
    taken_some d (b ∷ c ∷ bs) _ (record {
      in_range = omega (arith, takes.in_range);
      is = plain d b c bs not_end not_escape not_hole not_newline r takes r.len refl;
    })

pub reach_sound : (d : ℕ) (s : List ℕ) → Taken d s (reach d s)
unfolding enclosed reach
reach_sound d [] = taken_none d []
reach_sound d (b ∷ []) = either d (b ∷ []) (eqb b d) _ _
    (λ is_end. taken_some d (b ∷ []) _ (record { in_range = omega arith; is = cond-true (eqb b d) _ _ is_end }))
    (λ _. taken_none d (b ∷ []))
reach_sound d (b ∷ c ∷ bs) =
    let s = b ∷ c ∷ bs in
    either d s (eqb b d) _ _ (λ is_end. taken_some d s _ (record { in_range = omega arith; is = cond-true (eqb b d) _ _ is_end }))
    (λ not_end. either d s (eqb b 0x5c) _ _ (λ is_escape. escaped d b c bs not_end is_escape (escape_of c bs) (reach d bs) refl refl (reach_sound d bs))
    (λ not_escape. either d s (eqb d 0x60 && eqb b 0x24 && eqb c 0x7b) _ _
    (λ is_hole. taken_some d s _ (record {
      in_range = omega arith;
      is = cond-false (eqb b d) None _ not_end ∙ cond-false (eqb b 0x5c) _ _ not_escape ∙ cond-true (eqb d 0x60 && eqb b 0x24 && eqb c 0x7b) _ _ is_hole;
    }))
    (λ not_hole. either d s (not (eqb d 0x60) && eqb b 0x0a) _ _ (λ _. taken_none d s)
    (λ not_newline. plain_taken d b c bs not_end not_escape not_hole not_newline (reach d (c ∷ bs)) (reach_sound d (c ∷ bs))))))
