-- The first hole of a literal.
use Rattle.std.proofs.Common.{◌==◌, ◌∙◌, ◌∷◌, ◌≡◌, ℕ, Bool, List, [], ap, arith, false, length, sym, true}
use Rattle.std.proofs.lemmas.Bool.{eqb-true}
use Rattle.dscript_ast.specs.declared.expr.PathKind.{PathKind}
use Rattle.dscript_types_meaning.specs.Expressions as rules
use Rattle.dscript_types_meaning.specs.Operators.{leading_hole, literal_hole}
use Rattle.dscript_types_scenes.specs.Holes.{hole_type, leading_if}
use Rattle.dscript_types_scenes.specs.declared.holes.Allowed.{Allowed}

module _ (letter : PathKind) (leads : rules.first_hole letter [] ≡ leading_hole)
    (other : (x : ℕ) (xs : List ℕ) → rules.first_hole letter (x ∷ xs) ≡ literal_hole) where
  by_text : (text : List ℕ) (b : Bool) → (length text == 0) ≡ b → hole_type (leading_if b) ≡ rules.first_hole letter text
  by_text [] true e = sym leads
  by_text [] false e = cc
  by_text (x ∷ xs) true e = let none : length (x ∷ xs) ≡ 0 = eqb-true (length (x ∷ xs)) 0 e in absurd (omega (arith, none))
  by_text (x ∷ xs) false e = sym (other x xs)

  pub first_leads
      : (text slice : List ℕ) (begins : Bool) (hole : Allowed) → slice ≡ text → begins ≡ (length slice == 0) → hole ≡ leading_if begins
      → hole_type hole ≡ rules.first_hole letter text
  first_leads text slice begins hole same is made =
      ap hole_type made
      ∙ by_text text begins (ap (λ (xs : List ℕ). length xs == 0) (sym same) ∙ sym is)
