-- A list and the set of its numbers, as a number is added where it is not there yet.
use Rattle.std.proofs.Common.{◌≡◌, ℕ, Bool, true, false, not, ◌||◌, ◌==◌, List, [], ◌∷◌, ◌++◌, cond, refl, ap, sym, subst, ◌∙◌, inl, inr}
use Rattle.std.proofs.lemmas.Bool.{cases_Bool, cond-true, cond-false, eqb-true}
use Rattle.std.proofs.lemmas.List.Folds.{list_any-append}
use Rattle.std.specs.BTreeSet.{BTreeSet, UpdatesBy, contains}
use Rattle.std.specs.Cmp.{unsigned_ties}
use Rattle.std.specs.List.{list_any}
use Rattle.std.specs.Ordering.{nat_cmp}
use Rattle.dscript_names_binding.specs.Seen.{HasNumbers}
use Rattle.dscript_names_binding.specs.Walk.{with_once}

-- the number is new
pub added_once : (ns : List ℕ) (n : ℕ) (has : Bool) → has ≡ list_any (λ m. m == n) ns → true ≡ not has
    → ns ++ n ∷ [] ≡ with_once ns n
added_once ns n has is new = sym (ap (λ b. cond b ns (ns ++ n ∷ [])) (sym is ∙ absent has new))
  where
    absent : (b : Bool) → true ≡ not b → b ≡ false
    absent true e = cc
    absent false e = refl

-- the number is there
pub kept_once : (ns : List ℕ) (n : ℕ) (has : Bool) → has ≡ list_any (λ m. m == n) ns → false ≡ not has
    → ns ≡ with_once ns n
kept_once ns n has is old = sym (ap (λ b. cond b ns (ns ++ n ∷ [])) (sym is ∙ there has old))
  where
    there : (b : Bool) → false ≡ not b → b ≡ true
    there true e = refl
    there false e = cc

either : (a b : Bool) → (a || (b || false)) ≡ cond b true a
either true true = refl
either true false = refl
either false true = refl
either false false = refl

any_once : (ns : List ℕ) (n q : ℕ)
    → list_any (λ m. m == q) (with_once ns n) ≡ cond (n == q) true (list_any (λ m. m == q) ns)
any_once ns n q = elim (cases_Bool (list_any (λ m. m == n) ns)) [
  | inl there ↦
      ap (λ b. list_any (λ m. m == q) (cond b ns (ns ++ n ∷ []))) there
      ∙ elim (cases_Bool (n == q)) [
        | inl e ↦
            subst (λ k. list_any (λ m. m == k) ns ≡ true) (eqb-true n q e) there
            ∙ sym (cond-true (n == q) true (list_any (λ m. m == q) ns) e)
        | inr f ↦ sym (cond-false (n == q) true (list_any (λ m. m == q) ns) f)
      ]
  | inr absent ↦
      ap (λ b. list_any (λ m. m == q) (cond b ns (ns ++ n ∷ []))) absent
      ∙ list_any-append (λ m. m == q) ns (n ∷ []) ∙ either (list_any (λ m. m == q) ns) (n == q)
]

-- the set with the number
pub seen_once : (ns more : List ℕ) (n : ℕ) (old new : BTreeSet ℕ) → HasNumbers ns old
    → UpdatesBy nat_cmp (nat_cmp n) old new true → more ≡ with_once ns n → HasNumbers more new
seen_once ns more n old new has put is = λ q.
    put.0 q
    ∙ ap (λ b. cond b true (contains nat_cmp old q)) (sym (unsigned_ties n q))
    ∙ ap (cond (n == q) true) (has q) ∙ sym (any_once ns n q) ∙ ap (list_any (λ m. m == q)) (sym is)
