-- Sets in an order in which just equal keys tie, and what adding to them does.
use Rattle.std.proofs.Common.{inl, inr, ◌⊎◌, ◌≡◌, ◌∙◌, ℕ, ◌+◌, ◌<◌, Bool, true, cond, List, [], ◌∷◌, ◌++◌, length, get_or, take, refl, ap, subst, sym}
use Rattle.std.specs.Prelude.{◌↔◌}
use Rattle.std.specs.List.{Contains}
use Rattle.std.specs.Cmp.{IsTotalOrder}
use Rattle.std.specs.Ordering.{is_eq}
use Rattle.std.specs.declared.cmp.Ordering.{Ordering}
use Rattle.std.specs.declared.cmp.Ordering.TheVariants.{Less, Equal, Greater}
use Rattle.std.specs.BTreeSet.{BTreeSet, Updates, contains}
use Rattle.std.proofs.lemmas.Cmp.{tied_itself}
use Rattle.std.proofs.lemmas.List.{take_more}
use Rattle.std.proofs.lemmas.List.Elements.{Contains-append_left, Contains-push, Contains-push_cases}
use Rattle.std.proofs.lemmas.Map.Lookups.{CmpEqualImpliesEq}
use Rattle.std.proofs.lemmas.Map.Views.{btree_set_contains_iff}

pub tied_or_old : (o : Ordering) (b : Bool) → cond (is_eq o) true b ≡ true → (o ≡ Equal) ⊎ (b ≡ true)
tied_or_old Less b e = inr e
tied_or_old Equal b e = inl refl
tied_or_old Greater b e = inr e

pub old_stays : (o : Ordering) (b : Bool) → b ≡ true → cond (is_eq o) true b ≡ true
old_stays Less b e = e
old_stays Equal b e = refl
old_stays Greater b e = e

pub seen_more : {K : Type 0} {R : K → K → Ordering} → IsTotalOrder R → CmpEqualImpliesEq R → (old new : BTreeSet K) (key : K) → Updates R old new key true
    → (p : K) → Contains new.keys p ↔ (Contains old.keys p ⊎ (key ≡ p))
seen_more {K} {R} total exact old new key updates p =
    let in_new = btree_set_contains_iff total exact new p in
    let in_old = btree_set_contains_iff total exact old p in
    let now : contains R new p ≡ cond (is_eq (R key p)) true (contains R old p) = updates.0 p in (
      λ c. elim (tied_or_old (R key p) (contains R old p) (sym now ∙ in_new.1 c)) [
        | inl tied ↦ inr (exact key p tied)
        | inr before ↦ inl (in_old.0 before)
      ],
      λ c. elim c [
        | inl before ↦ in_new.0 (now ∙ old_stays (R key p) (contains R old p) (in_old.1 before))
        | inr same ↦ in_new.0 (now ∙ ap (λ o. cond (is_eq o) true (contains R old p)) (subst (λ q. R key q ≡ Equal) same (tied_itself total key)))
      ],
    )

-- one element of a list more is seen
pub all_seen_more : {K : Type 0} (start now next : List K) (xs : List K) (i : ℕ) (x : K) → i < length xs → x ≡ get_or xs i x
    → ((p : K) → Contains now p ↔ (Contains start p ⊎ Contains (take i xs) p)) → ((p : K) → Contains next p ↔ (Contains now p ⊎ (x ≡ p)))
    → (p : K) → Contains next p ↔ (Contains start p ⊎ Contains (take (i + 1) xs) p)
all_seen_more {K} start now next xs i x l e before added p =
    let more : take (i + 1) xs ≡ take i xs ++ x ∷ [] = take_more xs i x l ∙ ap (λ y. take i xs ++ y ∷ []) (sym e) in (
      λ c. elim ((added p).0 c) [
        | inl old ↦ elim ((before p).0 old) [
          | inl first ↦ inl first
          | inr among ↦ inr (subst (λ ys. Contains ys p) (sym more) (Contains-append_left (take i xs) (x ∷ []) p among))
        ]
        | inr same ↦ inr (subst (λ ys. Contains ys p) (sym more) (subst (Contains (take i xs ++ x ∷ [])) same (Contains-push (take i xs) x)))
      ],
      λ c. elim c [
        | inl first ↦ (added p).1 (inl ((before p).1 (inl first)))
        | inr among ↦ elim (Contains-push_cases (take i xs) x p (subst (λ ys. Contains ys p) more among)) [
          | inl old ↦ (added p).1 (inl ((before p).1 (inr old)))
          | inr same ↦ (added p).1 (inr same)
        ]
      ],
    )
