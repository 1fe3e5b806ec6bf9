-- Forms of parts give forms of what is made of them.
use Rattle.std.proofs.Common.{◌≡◌, ℕ, Bool, true, cond, List, [], ◌∷◌, ◌++◌, Option, Some, None, refl, sym, ap, subst, ◌∙◌, append_assoc}
use Rattle.std.proofs.lemmas.List.{append-nil}
use Rattle.std.proofs.lemmas.Option.{cond_some, same_Some}
use Rattle.observed.specs.Texts.{after_prefix}
use Rattle.observed.proofs.ReadTexts.{prefix_sound, prefix_complete}
use Rattle.prints.specs.Forms.{Anything, IsForm}
use Rattle.prints.specs.Reading.{Taken, ◌>>=◌, after_word, both_at, as_at, only_at, if_ended, whole_of}

-- where something was read at last, something was read first
pub bind_some : {X Y : Type 0} (o : Option X) (f : X → Option Y) (y : Y) → (o >>= f) ≡ Some y → (x : X) × (o ≡ Some x) × (f x ≡ Some y)
bind_some (Some x) f y e = (x, refl, e)
bind_some None f y e = absurd cc

-- ## Combinations

pub after_form : {X : Type 0} {G : X → Type 0} {F : List ℕ → Type 0} {w : X → List ℕ} {r : List ℕ → Taken X}
    → (word : List ℕ) → IsForm G F w r → IsForm G F (λ x. word ++ w x) (after_word word r)
after_form {w = w} {r = r} word form = record {
  good = λ text taken e. let s = bind_some (after_prefix word text) r taken e in form.good s.0 taken s.2;
  written = λ text taken e.
      let s = bind_some (after_prefix word text) r taken e in
      prefix_sound word text s.0 s.1 ∙ ap (λ t. word ++ t) (form.written s.0 taken s.2) ∙ sym (append_assoc word (w taken.0) taken.1);
  again = λ x rest g f.
      ap (after_word word r) (append_assoc word (w x) rest) ∙ ap (λ o. o >>= r) (prefix_complete word (w x ++ rest)) ∙ form.again x rest g f;
}

pub both_form : {X Y : Type 0} {G : X → Type 0} {H : Y → Type 0} {F K : List ℕ → Type 0} {w : X → List ℕ} {v : Y → List ℕ}
    → {r : List ℕ → Taken X} {s : List ℕ → Taken Y} → IsForm G F w r → IsForm H K v s
    → ((y : Y) (rest : List ℕ) → H y → K rest → F (v y ++ rest))
    → IsForm (λ (p : X × Y). G p.0 × H p.1) K (λ (p : X × Y). w p.0 ++ v p.1) (both_at r s)
both_form {X = X} {Y = Y} {G = G} {H = H} {w = w} {v = v} {r = r} {s = s} first second follows = record {
  good = λ text taken e.
      let a = bind_some (r text) (λ x. s x.1 >>= λ y. Some ((x.0, y.0), y.1)) taken e in
      let b = bind_some (s a.0.1) (λ y. Some ((a.0.0, y.0), y.1)) taken a.2 in
      subst (λ (t : (X × Y) × List ℕ). G t.0.0 × H t.0.1) (same_Some ((a.0.0, b.0.0), b.0.1) taken b.2)
      (first.good text a.0 a.1, second.good a.0.1 b.0 b.1);
  written = λ text taken e.
      let a = bind_some (r text) (λ x. s x.1 >>= λ y. Some ((x.0, y.0), y.1)) taken e in
      let b = bind_some (s a.0.1) (λ y. Some ((a.0.0, y.0), y.1)) taken a.2 in
      subst (λ (t : (X × Y) × List ℕ). text ≡ (w t.0.0 ++ v t.0.1) ++ t.1) (same_Some ((a.0.0, b.0.0), b.0.1) taken b.2)
      (first.written text a.0 a.1 ∙ ap (λ t. w a.0.0 ++ t) (second.written a.0.1 b.0 b.1) ∙ sym (append_assoc (w a.0.0) (v b.0.0) b.0.1));
  again = λ p rest g k.
      ap (both_at r s) (append_assoc (w p.0) (v p.1) rest)
      ∙ ap (λ o. o >>= λ x. s x.1 >>= λ y. Some ((x.0, y.0), y.1)) (first.again p.0 (v p.1 ++ rest) g.0 (follows p.1 rest g.1 k))
      ∙ ap (λ o. o >>= λ y. Some ((p.0, y.0), y.1)) (second.again p.1 rest g.1 k);
}

-- two parts of which the first ends by itself
pub pair_form : {X Y : Type 0} {G : X → Type 0} {H : Y → Type 0} {K : List ℕ → Type 0} {w : X → List ℕ} {v : Y → List ℕ}
    → {r : List ℕ → Taken X} {s : List ℕ → Taken Y} → IsForm G Anything w r → IsForm H K v s
    → IsForm (λ (p : X × Y). G p.0 × H p.1) K (λ (p : X × Y). w p.0 ++ v p.1) (both_at r s)
pair_form first second = both_form first second (λ y rest h k. tt)

pub as_form : {X Y : Type 0} {G : X → Type 0} {F : List ℕ → Type 0} {w : X → List ℕ} {r : List ℕ → Taken X}
    → (H : Y → Type 0) (f : X → Y) (g : Y → X) → ((x : X) → G x → H (f x) × (g (f x) ≡ x)) → ((y : Y) → H y → G (g y) × (f (g y) ≡ y))
    → IsForm G F w r → IsForm H F (λ y. w (g y)) (as_at f r)
as_form {X = X} {Y = Y} {w = w} {r = r} H f g to from form = record {
  good = λ text taken e.
      let a = bind_some (r text) (λ x. Some (f x.0, x.1)) taken e in
      subst (λ (t : Y × List ℕ). H t.0) (same_Some (f a.0.0, a.0.1) taken a.2) (to a.0.0 (form.good text a.0 a.1)).0;
  written = λ text taken e.
      let a = bind_some (r text) (λ x. Some (f x.0, x.1)) taken e in
      subst (λ (t : Y × List ℕ). text ≡ w (g t.0) ++ t.1) (same_Some (f a.0.0, a.0.1) taken a.2)
      (form.written text a.0 a.1 ∙ ap (λ x. w x ++ a.0.1) (sym (to a.0.0 (form.good text a.0 a.1)).1));
  again = λ y rest h k.
      ap (λ o. o >>= λ x. Some (f x.0, x.1)) (form.again (g y) rest (from y h).0 k) ∙ ap (λ z. Some (z, rest)) (from y h).1;
}

pub only_form : {X : Type 0} {G : X → Type 0} {F : List ℕ → Type 0} {w : X → List ℕ} {r : List ℕ → Taken X}
    → (test : X → Bool) → IsForm G F w r → IsForm (λ x. G x × (test x ≡ true)) F w (only_at test r)
only_form {X = X} {G = G} {w = w} {r = r} test form = record {
  good = λ text taken e.
      let a = bind_some (r text) (λ x. cond (test x.0) (Some x) None) taken e in
      let b = cond_some (test a.0.0) a.0 taken a.2 in
      subst (λ (t : X × List ℕ). G t.0 × (test t.0 ≡ true)) b.1 (form.good text a.0 a.1, b.0);
  written = λ text taken e.
      let a = bind_some (r text) (λ x. cond (test x.0) (Some x) None) taken e in
      let b = cond_some (test a.0.0) a.0 taken a.2 in
      subst (λ (t : X × List ℕ). text ≡ w t.0 ++ t.1) b.1 (form.written text a.0 a.1);
  again = λ x rest g k.
      ap (λ o. o >>= λ x. cond (test x.0) (Some x) None) (form.again x rest g.0 k) ∙ ap (λ b. cond b (Some (x, rest)) None) g.1;
}

-- a form with other words for what is good and for what may follow
pub form_of : {X : Type 0} {G : X → Type 0} {F : List ℕ → Type 0} {w : X → List ℕ} {r : List ℕ → Taken X}
    → (H : X → Type 0) (K : List ℕ → Type 0) → ((x : X) → G x → H x) → ((x : X) → H x → G x) → ((t : List ℕ) → K t → F t)
    → IsForm G F w r → IsForm H K w r
form_of H K to from follows form = record {
  good = λ text taken e. to taken.0 (form.good text taken e);
  written = form.written;
  again = λ x rest h k. form.again x rest (from x h) (follows rest k);
}

-- ## Whole texts

ended : {X : Type 0} (x y : X) (rest : List ℕ) → if_ended x rest ≡ Some y → (rest ≡ []) × (x ≡ y)
ended x y [] e = (refl, same_Some x y e)
ended x y (b ∷ bs) e = absurd cc

module _ {X : Type 0} {G : X → Type 0} {F : List ℕ → Type 0} {w : X → List ℕ} {r : List ℕ → Taken X} (form : IsForm G F w r) where
  -- what is read of a whole text is good, and the text is written of it
  pub whole_read : (text : List ℕ) (x : X) → whole_of r text ≡ Some x → G x × (text ≡ w x)
  whole_read text x e =
      let a = bind_some (r text) (λ t. if_ended t.0 t.1) x e in
      let b = ended a.0.0 x a.0.1 a.2 in
      subst (λ y. G y × (text ≡ w y)) b.1
      (form.good text a.0 a.1, form.written text a.0 a.1 ∙ ap (λ t. w a.0.0 ++ t) b.0 ∙ append-nil (w a.0.0))

  -- what is written is read back
  pub whole_again : F [] → (x : X) → G x → whole_of r (w x) ≡ Some x
  whole_again none x g =
      ap (λ t. whole_of r t) (sym (append-nil (w x))) ∙ ap (λ o. o >>= λ t. if_ended t.0 t.1) (form.again x [] g none)
