-- Where a field is put, and where the names are after that.
use Rattle.std.proofs.Common.{◌≡◌, ℕ, suc, ◌+◌, ◌<◌, Bool, true, false, List, [], ◌∷◌, ◌++◌, length, set, Option, Some, None, cond, refl, ap, sym, ◌∙◌, arith, add-zero}
use Rattle.std.specs.List.{position_from}
use Rattle.std.specs.Str.{bytes_eq}
use Rattle.std.proofs.lemmas.Bool.{false≢true}
use Rattle.std.proofs.lemmas.Slice.Eq.{bytes_eq-Decides}
use Rattle.std.proofs.Common.{map}
use Rattle.std.proofs.lemmas.List.{length-map, map-append, map-set}
use Rattle.std.specs.BTreeMap.{BTreeMap}
use Rattle.std.specs.declared.vec.Vec.{Vec}
use Rattle.std.specs.declared.alloc.Global.{Global}
use Rattle.dscript_value.specs.Data.{PlainField}
use Rattle.dscript_value.specs.Depths.{put_field}
use Rattle.dscript_value.specs.Places.{KeepPlaces, KeepsToo, first_place}
use Rattle.bx_tree.specs.TextTables.{at_text}
use Rattle.bx_tree.proofs.Options.{none_both}

-- whether a field has a name
abbrev pub has : List ℕ → PlainField → Bool
has name f = bytes_eq f.0 name

-- ## A name that no field has

last_by : (b : Bool) (g f : PlainField) (fs rest : List PlainField) (i : ℕ) (o : Option ℕ) → (o ≡ None → rest ≡ fs ++ f ∷ [])
    → cond b (Some i) o ≡ None → cond b (f ∷ fs) (g ∷ rest) ≡ g ∷ (fs ++ f ∷ [])
last_by true g f fs rest i o h e = cc
last_by false g f fs rest i o h e = ap (λ r. g ∷ r) (h e)

pub put_last : (fs : List PlainField) (i : ℕ) (f : PlainField) → position_from (has f.0) i fs ≡ None → put_field fs f ≡ fs ++ f ∷ []
put_last [] i f e = refl
put_last (g ∷ fs) i f e =
    last_by (bytes_eq g.0 f.0) g f fs (put_field fs f) i (position_from (has f.0) (i + 1) fs) (put_last fs (i + 1) f) e

swap : (b c : Bool) (i j : ℕ) (o : Option ℕ) → (b ≡ true → c ≡ true → ⊥) → cond b (Some i) (cond c (Some j) o) ≡ cond c (Some j) (cond b (Some i) o)
swap true true i j o apart = absurd (apart refl refl)
swap true false i j o apart = refl
swap false true i j o apart = refl
swap false false i j o apart = refl

-- a field with a new name is at the end, and the others stay
pub places_last : (fs : List PlainField) (i : ℕ) (f : PlainField) → position_from (has f.0) i fs ≡ None → (name : List ℕ)
    → position_from (has name) i (fs ++ f ∷ []) ≡ cond (bytes_eq f.0 name) (Some (i + length fs)) (position_from (has name) i fs)
places_last [] i f e name = ap (λ n. cond (bytes_eq f.0 name) (Some n) None) (sym (add-zero i))
places_last (g ∷ fs) i f e name =
    let parts = none_both (bytes_eq g.0 f.0) i (position_from (has f.0) (i + 1) fs) e in
    let rest = places_last fs (i + 1) f parts.1 name in
    let n : i + 1 + length fs ≡ i + suc (length fs) = omega arith in
    ap (λ o. cond (bytes_eq g.0 name) (Some i) o) rest
    ∙ swap (bytes_eq g.0 name) (bytes_eq f.0 name) i (i + 1 + length fs) (position_from (has name) (i + 1) fs) (λ p q.
    let same = (bytes_eq-Decides g.0 name).0 p ∙ sym ((bytes_eq-Decides f.0 name).0 q) in
    false≢true (sym parts.0 ∙ (bytes_eq-Decides g.0 f.0).1 same))
    ∙ ap (λ k. cond (bytes_eq f.0 name) (Some k) (cond (bytes_eq g.0 name) (Some i) (position_from (has name) (i + 1) fs))) n

-- ## A name that a field has

-- the field goes to the place that is j counted from i
pub record IsPutAt (fs : List PlainField) (i : ℕ) (f : PlainField) (j : ℕ) : Type 0 where
  pub place : ℕ
  pub counted : j ≡ i + place
  pub within : place < length fs
  pub put : put_field fs f ≡ set fs place f

at_by : (b : Bool) (g f : PlainField) (fs : List PlainField) (i j : ℕ) (o : Option ℕ) → bytes_eq g.0 f.0 ≡ b
    → (o ≡ Some j → IsPutAt fs (i + 1) f j) → cond b (Some i) o ≡ Some j → IsPutAt (g ∷ fs) i f j
at_by true g f fs i j o is h e = record {
  place = 0;
  counted = cc (add-zero i);
  within = omega arith;
  put = ap (λ b. cond b (f ∷ fs) (g ∷ put_field fs f)) is;
}
at_by false g f fs i j o is h e = let at = h e in record {
  place = suc at.place;
  counted = omega (arith, at.counted);
  within = omega (arith, at.within);
  put = ap (λ b. cond b (f ∷ fs) (g ∷ put_field fs f)) is ∙ ap (λ r. g ∷ r) at.put;
}

pub put_at : (fs : List PlainField) (i : ℕ) (f : PlainField) (j : ℕ) → position_from (has f.0) i fs ≡ Some j → IsPutAt fs i f j
put_at [] i f j e = cc
put_at (g ∷ fs) i f j e =
    at_by (bytes_eq g.0 f.0) g f fs i j (position_from (has f.0) (i + 1) fs) refl (put_at fs (i + 1) f j) e

keep_by : (b : Bool) (g f : PlainField) (fs : List PlainField) (i j : ℕ) (name : List ℕ) (o : Option ℕ) → bytes_eq g.0 f.0 ≡ b
    → (o ≡ Some j → position_from (has name) (i + 1) (put_field fs f) ≡ position_from (has name) (i + 1) fs) → cond b (Some i) o ≡ Some j
    → position_from (has name) i (cond b (f ∷ fs) (g ∷ put_field fs f)) ≡ position_from (has name) i (g ∷ fs)
keep_by true g f fs i j name o is h e =
    ap (λ n. cond (bytes_eq n name) (Some i) (position_from (has name) (i + 1) fs)) (sym ((bytes_eq-Decides g.0 f.0).0 is))
keep_by false g f fs i j name o is h e = ap (λ r. cond (bytes_eq g.0 name) (Some i) r) (h e)

-- a field with the name of another takes its place
pub places_stay : (fs : List PlainField) (i : ℕ) (f : PlainField) (j : ℕ) → position_from (has f.0) i fs ≡ Some j → (name : List ℕ)
    → position_from (has name) i (put_field fs f) ≡ position_from (has name) i fs
places_stay [] i f j e name = cc
places_stay (g ∷ fs) i f j e name =
    keep_by (bytes_eq g.0 f.0) g f fs i j name (position_from (has f.0) (i + 1) fs) refl (λ o. places_stay fs (i + 1) f j o name) e

-- ## Lists of which these are the fields

-- a name that is first at a place
pub at_place : {X : Type 0} (pf : X → PlainField) (xs : List X) (x : X) (name : List ℕ) (i : ℕ) → name ≡ (pf x).0
    → first_place (map pf xs) name ≡ Some i → (i < length xs) × (map pf (set xs i x) ≡ put_field (map pf xs) (pf x))
at_place pf xs x name i e h =
    let at = put_at (map pf xs) 0 (pf x) i (ap (first_place (map pf xs)) (sym e) ∙ h) in
    let same : at.place ≡ i = omega (arith, at.counted) in (
      omega (arith, at.within, same, length-map xs pf),
      map-set pf xs i x ∙ ap (λ n. set (map pf xs) n (pf x)) (sym same) ∙ sym at.put,
    )

-- the places that are kept are those after the field was put there
pub kept_after : {X : Type 0} (pf : X → PlainField) (xs : List X) (x : X) (places : BTreeMap (Vec ℕ Global) ℕ) (name : List ℕ) (i : ℕ) → name ≡ (pf x).0
    → first_place (map pf xs) name ≡ Some i → KeepPlaces places (map pf xs) → KeepPlaces places (put_field (map pf xs) (pf x))
kept_after pf xs x places name i e h kept other =
    kept other ∙ sym (places_stay (map pf xs) 0 (pf x) i (ap (first_place (map pf xs)) (sym e) ∙ h) other)

-- a name that is at no place
pub at_end : {X : Type 0} (pf : X → PlainField) (xs : List X) (x : X) (name : List ℕ) → name ≡ (pf x).0 → first_place (map pf xs) name ≡ None
    → map pf (xs ++ x ∷ []) ≡ put_field (map pf xs) (pf x)
at_end pf xs x name e h =
    map-append pf xs (x ∷ []) ∙ sym (put_last (map pf xs) 0 (pf x) (ap (first_place (map pf xs)) (sym e) ∙ h))

pub kept_with : {X : Type 0} (pf : X → PlainField) (xs : List X) (x : X) (before after : BTreeMap (Vec ℕ Global) ℕ) (name : List ℕ) → name ≡ (pf x).0
    → first_place (map pf xs) name ≡ None → KeepsToo before after name (length xs) → KeepPlaces before (map pf xs) → KeepPlaces after (map pf (xs ++ x ∷ []))
kept_with pf xs x before after name e h changed kept other =
    let new = places_last (map pf xs) 0 (pf x) (ap (first_place (map pf xs)) (sym e) ∙ h) other in
    let n : length xs ≡ 0 + length (map pf xs) = omega (arith, length-map xs pf) in
    changed other
    ∙ ap (λ m. cond (bytes_eq m other) (Some (length xs)) (at_text before other)) e
    ∙ ap (λ k. cond (bytes_eq (pf x).0 other) (Some k) (at_text before other)) n
    ∙ ap (λ o. cond (bytes_eq (pf x).0 other) (Some (0 + length (map pf xs))) o) (kept other)
    ∙ sym new ∙ ap (λ fs. first_place fs other) (sym (map-append pf xs (x ∷ [])))
