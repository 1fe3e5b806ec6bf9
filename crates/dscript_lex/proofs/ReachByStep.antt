-- How far a string or a template reaches: step by step, and against what its whole text is.
use Rattle.std.proofs.Common.{◌≡◌, ℕ, ◌+◌, Bool, true, false, cond, not, ◌&&◌, eqb, List, [], ◌∷◌, ◌++◌, Option, Some, None, refl, sym, arith}
use Rattle.std.proofs.lemmas.List.{append_assoc}
use Rattle.dscript_lex.specs.declared.enclosed.Reach.{Reach}
use Rattle.dscript_lex.specs.declared.enclosed.Step.{Step}
use Rattle.dscript_lex.specs.declared.enclosed.Step.TheVariants.{End, Bad}
use Rattle.dscript_lex.specs.Bytes.{escape_of}
use Rattle.dscript_lex.specs.Scanning.{further, reach, escaped_step, step_of, Means}

both : (d : ℕ) (s : List ℕ) (t : Bool) (x y : Step) (r q : Option Reach) → Means d s x r → Means d s y q → Means d s (cond t x y) (cond t r q)
both d s true x y r q a b = a
both d s false x y r q a b = b

escaped : (d b c : ℕ) (bs : List ℕ) (o : Option ℕ) → Means d (b ∷ c ∷ bs) (escaped_step o) (further o 2 (reach d bs))
escaped d b c bs None = refl
escaped d b c bs (Some v) = (omega arith, omega arith, refl)

pub means : (d : ℕ) (s : List ℕ) → Means d s (step_of d s) (reach d s)
unfolding step_of reach
means d [] = refl
means d (b ∷ []) = both d (b ∷ []) (eqb b d) (End false 1) Bad _ _ (omega arith, refl) refl
means d (b ∷ c ∷ bs) =
    let s = b ∷ c ∷ bs in
    both d s (eqb b d) _ _ _ _ (omega arith, refl)
    (both d s (eqb b 0x5c) _ _ _ _ (escaped d b c bs (escape_of c bs))
    (both d s (eqb d 0x60 && eqb b 0x24 && eqb c 0x7b) _ _ _ _ (omega arith, refl)
    (both d s (not (eqb d 0x60) && eqb b 0x0a) _ _ _ _ refl (omega arith, omega arith, refl))))

-- the value before a place, and how it goes on from there
abbrev pub resume : List ℕ → ℕ → Option Reach → Option Reach
resume prefix n None = None
resume prefix n (Some r) = Some (record { value = prefix ++ r.value; hole = r.hole; len = n + r.len })

pub resume_more : (prefix : List ℕ) (at b n : ℕ) (r : Option Reach) → resume prefix at (further (Some b) n r) ≡ resume (prefix ++ b ∷ []) (at + n) r
resume_more prefix at b n None = refl
resume_more prefix at b n (Some r) =
    let values : prefix ++ (b ∷ r.value) ≡ (prefix ++ b ∷ []) ++ r.value = sym (append_assoc prefix (b ∷ []) r.value) in
    let lens : at + (n + r.len) ≡ at + n + r.len = omega arith in
    λ i. Some (record { value = values i; hole = r.hole; len = lens i })
