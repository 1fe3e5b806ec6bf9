-- Tables by text after a change at one text.
use Rattle.std.proofs.Common.{◌≡◌, ℕ, Bool, true, false, List, Option, cond, ap, sym, ◌∙◌, inl, inr}
use Rattle.std.proofs.lemmas.Bool.{cases_Bool, cond-true, cond-false}
use Rattle.std.proofs.lemmas.Cmp.{eq_by_cmp_equiv, nat_list_cmp_total}
use Rattle.std.proofs.lemmas.Map.Text.{is_eq-slice_cmp}
use Rattle.std.proofs.lemmas.Slice.Eq.{bytes_eq-Decides}
use Rattle.std.specs.BTreeMap.{BTreeMap, UpdatesBy}
use Rattle.std.specs.Cmp.Lexicographic.{slice_cmp}
use Rattle.std.specs.Map.{AreApart, IsKeyTest, KeepsOthers, lookup}
use Rattle.std.specs.Ordering.{is_eq, nat_cmp}
use Rattle.std.specs.Str.{bytes_eq}
use Rattle.std.specs.declared.alloc.Global.{Global}
use Rattle.std.specs.declared.vec.Vec.{Vec}
use Rattle.bx_tree.specs.TextTables.{at_text}

other_entries : {K X : Type 0} (eq : K → K → Bool) (test : K → Bool) (old new : List (K × X))
    → KeepsOthers eq test old new → (other : K → Bool) → IsKeyTest eq other → AreApart test other
    → lookup other new ≡ lookup other old
unfolding KeepsOthers
other_entries eq test old new kept = kept

-- a text that differs from the key of an entry is not at it
apart : (key x k : List ℕ) → bytes_eq key x ≡ false
    → is_eq (slice_cmp nat_cmp key k) ≡ true → is_eq (slice_cmp nat_cmp x k) ≡ false
apart key x k n y =
    let at = (bytes_eq-Decides key k).0 (sym (is_eq-slice_cmp key k) ∙ y) in
    elim (cases_Bool (bytes_eq x k)) [
      | inl t ↦
          let same : key ≡ x = at ∙ sym ((bytes_eq-Decides x k).0 t) in
          let both : bytes_eq key x ≡ true = (bytes_eq-Decides key x).1 same in
          cc
      | inr f ↦ is_eq-slice_cmp x k ∙ f
    ]

pub text_put : {X : Type 0} (key : List ℕ) (old new : BTreeMap (Vec ℕ Global) X) (value : Option X)
    → UpdatesBy (λ a b. slice_cmp nat_cmp a.items b.items) (λ k. slice_cmp nat_cmp key k.items) old new value
    → (x : List ℕ) → at_text new x ≡ cond (bytes_eq key x) value (at_text old x)
text_put key old new value h x =
    elim (cases_Bool (bytes_eq key x)) [
      | inl t ↦
          ap (at_text new) (sym ((bytes_eq-Decides key x).0 t)) ∙ h.1
          ∙ sym (cond-true (bytes_eq key x) value (at_text old x) t)
      | inr f ↦
          other_entries _ _ old.entries new.entries h.3 _
          (λ a b. (eq_by_cmp_equiv nat_list_cmp_total).congr x a.items b.items)
          (λ k. apart key x k.items f)
          ∙ sym (cond-false (bytes_eq key x) value (at_text old x) f)
    ]
