-- Sets of processes by description, and what adding to them does.
use Rattle.std.proofs.Common.{inl, inr, ◌⊎◌, ◌≡◌, ◌∙◌, Bool, true, false, cond, [], ◌∷◌, ℕ, ◌<◌, arith, get_or, lit<, refl, ap, subst, sym}
use Rattle.std.specs.Prelude.{◌↔◌, not}
use Rattle.std.specs.List.{Any, Contains}
use Rattle.std.specs.Cmp.{Equal-is}
use Rattle.std.specs.Ordering.{is_eq}
use Rattle.std.specs.BTreeSet.{BTreeSet, Updates, contains}
use Rattle.std.proofs.lemmas.Cmp.{tied_itself}
use Rattle.std.proofs.lemmas.List.Folds.{Any-from_list_any, list_any-from_Any}
use Rattle.pip_model_types.specs.declared.pip.ProcessDesc.{ProcessDesc}
use Rattle.graph_check.specs.Described.{HasDescribed, described_cmp, described_total}
use Rattle.graph_check.specs.Orders.{described_alike, tied_processes}
use Rattle.graph_check.specs.Descriptions.{description}
use Rattle.graph_check.specs.declared.twin.Described.{Described}
use Rattle.graph_check_outputs.proofs.Adding.{old_stays, tied_or_old}
use Rattle.graph_check_outputs.proofs.Repeats.{any_along}

-- a process is found exactly where one of its description is there
pub found_from_has : (s : BTreeSet Described) (q : Described) → HasDescribed s (description q.process.now) → contains described_cmp s q ≡ true
found_from_has s q any =
    list_any-from_Any (λ x. is_eq (described_cmp q x)) s.keys
    (any_along (λ (x : Described). description x.process.now ≡ description q.process.now) (λ x. is_eq (described_cmp q x) ≡ true) s.keys
    (λ x e. (Equal-is (described_cmp q x)).1 (described_alike q.process.now x.process.now (sym e))) any)

pub has_from_found : (s : BTreeSet Described) (q : Described) → contains described_cmp s q ≡ true → HasDescribed s (description q.process.now)
has_from_found s q e =
    any_along (λ x. is_eq (described_cmp q x) ≡ true) (λ (x : Described). description x.process.now ≡ description q.process.now) s.keys
    (λ x t. sym (tied_processes q.process.now x.process.now ((Equal-is (described_cmp q x)).0 t)))
    (Any-from_list_any (λ x. is_eq (described_cmp q x)) s.keys e)

-- one of the set, as a query
member : (s : BTreeSet Described) (d : ProcessDesc) → HasDescribed s d → (q : Described) × (contains described_cmp s q ≡ true) × (description q.process.now ≡ d)
member s d (k, x, l, is, e) = (x, found_from_has s x (k, x, l, is, refl), e)

pub described_more : (old new : BTreeSet Described) (key : Described) → Updates described_cmp old new key true → (d : ProcessDesc)
    → HasDescribed new d ↔ (HasDescribed old d ⊎ (description key.process.now ≡ d))
described_more old new key updates d = (
  λ h.
      let q = member new d h in
      let now : cond (is_eq (described_cmp key q.0)) true (contains described_cmp old q.0) ≡ true = sym (updates.0 q.0) ∙ q.1 in
      elim (tied_or_old (described_cmp key q.0) (contains described_cmp old q.0) now) [
        | inl tied ↦ inr (tied_processes key.process.now q.0.process.now tied ∙ q.2)
        | inr before ↦ inl (subst (HasDescribed old) q.2 (has_from_found old q.0 before))
      ],
  λ h. elim h [
    | inl before ↦
        let q = member old d before in
        subst (HasDescribed new) q.2
        (has_from_found new q.0 (updates.0 q.0 ∙ old_stays (described_cmp key q.0) (contains described_cmp old q.0) q.1))
    | inr same ↦
        subst (HasDescribed new) same
        (has_from_found new key (updates.0 key ∙ ap (λ o. cond (is_eq o) true (contains described_cmp old key)) (tied_itself described_total key)))
  ],
)

-- what an insert says of whether one of its description was there
pub was_there : (s : BTreeSet Described) (key : Described) (new : Bool) → new ≡ not (contains described_cmp s key)
    → (not new ≡ true) ↔ HasDescribed s (description key.process.now)
was_there s key new e = (
  λ t. has_from_found s key (not_twice (contains described_cmp s key) (sym (ap not e) ∙ t)),
  λ h. ap not (e ∙ ap not (found_from_has s key h)),
)
  where
    not_twice : (b : Bool) → not (not b) ≡ true → b ≡ true
    not_twice true e = refl
    not_twice false e = e

-- the one description of a process
pub described_once : (P : ProcessDesc → Type 0) (d : ProcessDesc) → P d ↔ Any P (d ∷ [])
described_once P d = (λ p. (0, d, lit< tt, refl, p), λ (k, x, l, is, p). at k x l is p)
  where
    at : (k : ℕ) (x : ProcessDesc) → k < 1 → get_or (d ∷ []) k x ≡ x → P x → P d
    at k x l is p =
        let zero : k ≡ 0 = omega (arith, l) in
        subst P (sym (subst (λ n. get_or (d ∷ []) n x ≡ x) zero is)) p

pub among_once : (d e : ProcessDesc) → (d ≡ e) ↔ Contains (d ∷ []) e
among_once d e = (λ same. (0, lit< tt, same), λ (k, l, is). at k l is)
  where
    at : (k : ℕ) → k < 1 → get_or (d ∷ []) k e ≡ e → d ≡ e
    at k l is = let zero : k ≡ 0 = omega (arith, l) in subst (λ n. get_or (d ∷ []) n e ≡ e) zero is
