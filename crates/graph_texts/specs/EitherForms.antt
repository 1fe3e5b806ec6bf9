-- Parts by their first words are forms where the parts are: proofs that the kinds of lines carry, and no
-- definitions.
use Rattle.std.proofs.Common.{◌≡◌, ◌⊎◌, ℕ, List, [], ◌++◌, Option, Some, None, IfSome, inl, inr, refl, sym, ap, subst, ◌∙◌, append_assoc}
use Rattle.std.proofs.lemmas.Option.{same_Some}
use Rattle.std.specs.Prelude.{is_some, false}
use Rattle.observed.specs.Texts.{after_prefix}
use Rattle.observed.proofs.ReadTexts.{prefix_sound, prefix_complete}
use Rattle.prints.specs.Combining.{bind_some, form_of}
use Rattle.prints.specs.Forms.{Anything, IsForm}
use Rattle.prints.specs.Lines.{begins}
use Rattle.prints.specs.Reading.{Taken, ◌>>=◌, as_at}
use Rattle.graph_texts.specs.Either.{by_word, first_of, maybe_at, maybe_written, nothing_at}

module _ {X : Type 0} {G H : X → Type 0} {K : List ℕ → Type 0} {w v : X → List ℕ} {r s : List ℕ → Taken X} where
  -- a part after its word, or another part: what is written of either
  pub first_form : (u : X → List ℕ) (word : List ℕ) → IsForm G K w r → IsForm H K v s
      → ((x : X) → G x → u x ≡ word ++ w x) → ((x : X) → H x → u x ≡ v x)
      → ((x : X) (rest : List ℕ) → H x → K rest → after_prefix word (v x ++ rest) ≡ None)
      → IsForm (λ x. G x ⊎ H x) K u (first_of word r s)
  first_form u word first second one other apart = record {
    good = λ text taken e. is_good text taken (after_prefix word text) e;
    written = λ text taken e. is_written text taken (after_prefix word text) refl e;
    again = is_again;
  }
    where
      is_good : (text : List ℕ) (taken : X × List ℕ) (front : Option (List ℕ)) → by_word front r (s text) ≡ Some taken
          → G taken.0 ⊎ H taken.0
      is_good text taken (Some rest) e = inl (first.good rest taken e)
      is_good text taken None e = inr (second.good text taken e)

      is_written : (text : List ℕ) (taken : X × List ℕ) (front : Option (List ℕ)) → after_prefix word text ≡ front
          → by_word front r (s text) ≡ Some taken → text ≡ u taken.0 ++ taken.1
      is_written text taken (Some rest) is e =
          prefix_sound word text rest is
          ∙ ap (λ t. word ++ t) (first.written rest taken e)
          ∙ sym (append_assoc word (w taken.0) taken.1)
          ∙ ap (λ t. t ++ taken.1) (sym (one taken.0 (first.good rest taken e)))
      is_written text taken None is e =
          second.written text taken e ∙ ap (λ t. t ++ taken.1) (sym (other taken.0 (second.good text taken e)))

      is_again : (x : X) (rest : List ℕ) → G x ⊎ H x → K rest → first_of word r s (u x ++ rest) ≡ Some (x, rest)
      is_again x rest (inl g) k =
          ap (first_of word r s) (ap (λ t. t ++ rest) (one x g) ∙ append_assoc word (w x) rest)
          ∙ ap (λ o. by_word o r (s (word ++ (w x ++ rest)))) (prefix_complete word (w x ++ rest))
          ∙ first.again x rest g k
      is_again x rest (inr h) k =
          ap (first_of word r s) (ap (λ t. t ++ rest) (other x h))
          ∙ ap (λ o. by_word o r (s (v x ++ rest))) (apart x rest h k)
          ∙ second.again x rest h k

-- ## A part that may be missing

abbrev IsThere : {X : Type 0} → (X → Type 0) → Option X → Type 0
IsThere G None = ⊥
IsThere G (Some x) = G x

abbrev IsMissing : {X : Type 0} → Option X → Type 0
IsMissing None = Unit {0}
IsMissing (Some x) = ⊥

abbrev some_written : {X : Type 0} → (X → List ℕ) → Option X → List ℕ
some_written w None = []
some_written w (Some x) = w x

no_prefix : (word text : List ℕ) → begins word text ≡ false → after_prefix word text ≡ None
no_prefix word text e = by_front (after_prefix word text) e
  where
    by_front : (o : Option (List ℕ)) → is_some o ≡ false → o ≡ None
    by_front None e = refl
    by_front (Some rest) e = absurd cc

-- the part where it is there
there_form : {X : Type 0} {G : X → Type 0} {w : X → List ℕ} {r : List ℕ → Taken X} → IsForm G Anything w r → (word : List ℕ)
    → IsForm (IsThere G) (λ t. begins word t ≡ false) (some_written w) (as_at Some r)
there_form {X = X} {G = G} {w = w} {r = r} form word = record {
  good = λ text taken e.
      let a = bind_some (r text) (λ x. Some (Some x.0, x.1)) taken e in
      subst (λ (t : Option X × List ℕ). IsThere G t.0) (same_Some (Some a.0.0, a.0.1) taken a.2) (form.good text a.0 a.1);
  written = λ text taken e.
      let a = bind_some (r text) (λ x. Some (Some x.0, x.1)) taken e in
      subst (λ (t : Option X × List ℕ). text ≡ some_written w t.0 ++ t.1) (same_Some (Some a.0.0, a.0.1) taken a.2)
      (form.written text a.0 a.1);
  again = again_of;
}
  where
    again_of : (o : Option X) (rest : List ℕ) → IsThere G o → begins word rest ≡ false
        → as_at Some r (some_written w o ++ rest) ≡ Some (o, rest)
    again_of None rest g k = absurd g
    again_of (Some x) rest g k = ap (λ o. o >>= λ y. Some (Some y.0, y.1)) (form.again x rest g tt)

missing_form : {X : Type 0} (word : List ℕ)
    → IsForm (IsMissing {X = X}) (λ t. begins word t ≡ false) (λ (o : Option X). []) (nothing_at {X = X})
missing_form {X = X} word = record {
  good = λ text taken e. subst (λ (t : Option X × List ℕ). IsMissing t.0) (same_Some (None, text) taken e) tt;
  written = λ text taken e. subst (λ (t : Option X × List ℕ). text ≡ t.1) (same_Some (None, text) taken e) refl;
  again = again_of;
}
  where
    again_of : (o : Option X) (rest : List ℕ) → IsMissing o → begins word rest ≡ false
        → nothing_at {X = X} rest ≡ Some (o, rest)
    again_of None rest g k = refl
    again_of (Some x) rest g k = absurd g

pub maybe_form : {X : Type 0} {G : X → Type 0} {w : X → List ℕ} {r : List ℕ → Taken X} → (word : List ℕ)
    → IsForm G Anything w r
    → IsForm (λ o. IfSome o G) (λ t. begins word t ≡ false) (maybe_written word w) (maybe_at word r)
maybe_form {X = X} {G = G} {w = w} {r = r} word form =
    form_of (λ o. IfSome o G) (λ t. begins word t ≡ false) to_of from_of (λ t k. k)
    (first_form (maybe_written word w) word (there_form form word) (missing_form {X = X} word) one_of other_of
    (λ o rest g k. no_prefix word rest k))
  where
    to_of : (o : Option X) → IsThere G o ⊎ IsMissing o → IfSome o G
    to_of None h = tt
    to_of (Some x) (inl g) = g
    to_of (Some x) (inr h) = absurd h

    from_of : (o : Option X) → IfSome o G → IsThere G o ⊎ IsMissing o
    from_of None g = inr tt
    from_of (Some x) g = inl g

    one_of : (o : Option X) → IsThere G o → maybe_written word w o ≡ word ++ some_written w o
    one_of None g = absurd g
    one_of (Some x) g = refl

    other_of : (o : Option X) → IsMissing o → maybe_written word w o ≡ []
    other_of None g = refl
    other_of (Some x) g = absurd g
