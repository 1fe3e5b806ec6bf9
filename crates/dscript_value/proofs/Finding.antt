-- The place of the first field with a name, as loops and tables find it.
use Rattle.std.proofs.Common.{◌≡◌, ℕ, suc, ◌+◌, ◌<◌, ◌≤◌, Bool, true, false, List, [], ◌∷◌, map, length, get_or, drop, Option, Some, None, cond, refl, ap, sym, ◌∙◌, arith, add-zero}
use Rattle.std.specs.List.{position_from}
use Rattle.std.specs.Str.{bytes_eq}
use Rattle.std.proofs.lemmas.List.{at_drop_more, at_drop_all}
use Rattle.dscript_value.specs.Data.{Plain, PlainField}
use Rattle.dscript_value.specs.Depths.{field_at}

-- where the first field with a name is, counted from i
abbrev pub place_from : {X : Type 0} → (X → PlainField) → List ℕ → ℕ → List X → Option ℕ
place_from pf name i xs = position_from (λ (f : PlainField). bytes_eq f.0 name) i (map pf xs)

-- ## As a loop finds it

pub place_on : {X : Type 0} (pf : X → PlainField) (xs : List X) (i : ℕ) (d : X) (name : List ℕ) (whole : Option ℕ) → i < length xs
    → bytes_eq (pf (get_or xs i d)).0 name ≡ false → place_from pf name i (drop i xs) ≡ whole → place_from pf name (i + 1) (drop (i + 1) xs) ≡ whole
place_on pf xs i d name whole l absent h =
    sym (at_drop_more (λ ys. place_from pf name i ys) xs i d l
    ∙ ap (λ b. cond b (Some i) (place_from pf name (i + 1) (drop (i + 1) xs))) absent)
    ∙ h

pub place_here : {X : Type 0} (pf : X → PlainField) (xs : List X) (i : ℕ) (d : X) (name : List ℕ) (whole : Option ℕ) → i < length xs
    → bytes_eq (pf (get_or xs i d)).0 name ≡ true → place_from pf name i (drop i xs) ≡ whole → Some i ≡ whole
place_here pf xs i d name whole l found h =
    sym (at_drop_more (λ ys. place_from pf name i ys) xs i d l
    ∙ ap (λ b. cond b (Some i) (place_from pf name (i + 1) (drop (i + 1) xs))) found)
    ∙ h

pub place_past : {X : Type 0} (pf : X → PlainField) (xs : List X) (i : ℕ) (name : List ℕ) (whole : Option ℕ) → length xs ≤ i
    → place_from pf name i (drop i xs) ≡ whole → None ≡ whole
place_past pf xs i name whole l h = sym (at_drop_all (λ ys. place_from pf name i ys) xs i l) ∙ h

-- ## The value at a place

pub record IsFoundAt {X : Type 0} (pf : X → PlainField) (xs : List X) (name : List ℕ) (i j : ℕ) (d : X) : Type 0 where
  pub place : ℕ
  pub counted : j ≡ i + place
  pub within : place < length xs
  pub found : field_at (map pf xs) name ≡ Some (pf (get_or xs place d)).1

found_by : {X : Type 0} (b : Bool) (pf : X → PlainField) (x : X) (xs : List X) (name : List ℕ) (i j : ℕ) (d : X) (o : Option ℕ) → bytes_eq (pf x).0 name ≡ b
    → (o ≡ Some j → IsFoundAt pf xs name (i + 1) j d) → cond b (Some i) o ≡ Some j → IsFoundAt pf (x ∷ xs) name i j d
found_by true pf x xs name i j d o is h e = record {
  place = 0;
  counted = cc (add-zero i);
  within = omega arith;
  found = ap (λ b. cond b (Some (pf x).1) (field_at (map pf xs) name)) is;
}
found_by false pf x xs name i j d o is h e = let at = h e in record {
  place = suc at.place;
  counted = omega (arith, at.counted);
  within = omega (arith, at.within);
  found = ap (λ b. cond b (Some (pf x).1) (field_at (map pf xs) name)) is ∙ at.found;
}

found_at : {X : Type 0} (pf : X → PlainField) (xs : List X) (name : List ℕ) (i j : ℕ) (d : X) → place_from pf name i xs ≡ Some j → IsFoundAt pf xs name i j d
found_at pf [] name i j d e = cc
found_at pf (x ∷ xs) name i j d e =
    found_by (bytes_eq (pf x).0 name) pf x xs name i j d (place_from pf name (i + 1) xs) refl (found_at pf xs name (i + 1) j d) e

within_by : (b : Bool) (i j n : ℕ) (o : Option ℕ) → (o ≡ Some j → j < i + 1 + n) → cond b (Some i) o ≡ Some j → j < i + suc n
within_by true i j n o h e = let same : i ≡ j = cc in omega (arith, same)
within_by false i j n o h e = omega (arith, h e)

pub placed_from : {X : Type 0} (pf : X → PlainField) (xs : List X) (name : List ℕ) (i j : ℕ) → place_from pf name i xs ≡ Some j → j < i + length xs
placed_from pf [] name i j e = cc
placed_from pf (x ∷ xs) name i j e =
    within_by (bytes_eq (pf x).0 name) i j (length xs) (place_from pf name (i + 1) xs) (placed_from pf xs name (i + 1) j) e

pub placed_within : {X : Type 0} (pf : X → PlainField) (xs : List X) (name : List ℕ) (j : ℕ) → place_from pf name 0 xs ≡ Some j → j < length xs
placed_within pf xs name j e = omega (arith, placed_from pf xs name 0 j e)

pub value_at_place : {X : Type 0} (pf : X → PlainField) (xs : List X) (name : List ℕ) (j : ℕ) (d : X) → place_from pf name 0 xs ≡ Some j
    → field_at (map pf xs) name ≡ Some (pf (get_or xs j d)).1
value_at_place pf xs name j d e =
    let at = found_at pf xs name 0 j d e in
    let same : at.place ≡ j = omega (arith, at.counted) in
    at.found ∙ ap (λ k. Some (pf (get_or xs k d)).1) same

no_value_by : (b : Bool) (i : ℕ) (o : Option ℕ) (x : Plain) (r : Option Plain) → (o ≡ None → r ≡ None) → cond b (Some i) o ≡ None → cond b (Some x) r ≡ None
no_value_by true i o x r h e = cc
no_value_by false i o x r h e = h e

pub no_value : {X : Type 0} (pf : X → PlainField) (xs : List X) (name : List ℕ) (i : ℕ) → place_from pf name i xs ≡ None → field_at (map pf xs) name ≡ None
no_value pf [] name i e = refl
no_value pf (x ∷ xs) name i e =
    no_value_by (bytes_eq (pf x).0 name) i (place_from pf name (i + 1) xs) (pf x).1 (field_at (map pf xs) name) (no_value pf xs name (i + 1)) e
