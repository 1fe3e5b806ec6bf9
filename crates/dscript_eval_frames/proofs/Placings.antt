-- Captured locals whose places are kept.
use Rattle.std.proofs.Common.{◌≡◌, ℕ, suc, ◌+◌, ◌<◌, ◌≤◌, Bool, true, false, cond, List, [], ◌∷◌, length, drop, Option, Some, None}
use Rattle.std.proofs.Common.{get_or, slice_get, unwrap_or, BTreeMap, nat_cmp, eqb, refl, ap, sym, ◌∙◌, arith, add-zero}
use Rattle.std.proofs.lemmas.List.{at_drop_more, at_drop_all}
use Rattle.std.specs.BTreeMap.{get, is_at}
use Rattle.std.specs.Map.{lookup}
use Rattle.bx_tree.proofs.Options.{none_both}
use Rattle.dscript_value.specs.Plain.{Plain, Undefined}
use Rattle.dscript_eval_meaning.specs.Frames.{captured_value}
use Rattle.dscript_eval_frames.specs.Placed.{KeepPlaces, place_from}

-- ## How places are kept, from the last on

pub none_kept : (places : BTreeMap ℕ ℕ) (locals : List ℕ) (i : ℕ) → places.entries ≡ [] → length locals ≤ i → KeepPlaces places i (drop i locals)
none_kept places locals i none le n =
    ap (λ es. lookup (is_at (nat_cmp n)) es) none ∙ sym (at_drop_all (λ ls. place_from i ls n) locals i le)

pub kept_by : (place q : ℕ) → is_at (nat_cmp place) q ≡ eqb place q
kept_by place q = grind arith

-- the place before the first one is kept too
pub one_more
    : (places now : BTreeMap ℕ ℕ) (locals : List ℕ) (i : ℕ) → i < length locals
    → ((q : ℕ) → get nat_cmp now q ≡ cond (is_at (nat_cmp (get_or locals i 0)) q) (Some i) (get nat_cmp places q))
    → KeepPlaces places (i + 1) (drop (i + 1) locals) → KeepPlaces now i (drop i locals)
one_more places now locals i less put kept q =
    put q
    ∙ ap (λ b. cond b (Some i) (get nat_cmp places q)) (kept_by (get_or locals i 0) q)
    ∙ ap (λ o. cond (eqb (get_or locals i 0) q) (Some i) o) (kept q)
    ∙ sym (at_drop_more (λ ls. place_from i ls q) locals i 0 less)

-- ## What is found by a place

-- a local holds the value in a place, which has this number where the first has that one
pub record IsHeldAt (cs : List ℕ) (xs : List Plain) (n i j : ℕ) : Type 0 where
  pub place : ℕ
  pub counted : j ≡ i + place
  pub holds : captured_value cs xs n ≡ unwrap_or (slice_get xs place) Undefined

held_by
    : (b : Bool) (c : ℕ) (cs : List ℕ) (xs : List Plain) (n i j : ℕ) (o : Option ℕ) → eqb c n ≡ b
    → ((ys : List Plain) → o ≡ Some j → IsHeldAt cs ys n (i + 1) j) → cond b (Some i) o ≡ Some j → IsHeldAt (c ∷ cs) xs n i j
held_by true c cs [] n i j o is h e = record { place = 0; counted = cc (add-zero i); holds = refl }
held_by true c cs (x ∷ xs) n i j o is h e =
    record { place = 0; counted = cc (add-zero i); holds = ap (λ b. cond b x (captured_value cs xs n)) is }
held_by false c cs [] n i j o is h e =
    let at = h [] e in record { place = suc at.place; counted = omega (arith, at.counted); holds = refl }
held_by false c cs (x ∷ xs) n i j o is h e = let at = h xs e in record {
  place = suc at.place;
  counted = omega (arith, at.counted);
  holds = ap (λ b. cond b x (captured_value cs xs n)) is ∙ at.holds;
}

held_at : (cs : List ℕ) (xs : List Plain) (n i j : ℕ) → place_from i cs n ≡ Some j → IsHeldAt cs xs n i j
held_at [] xs n i j e = cc
held_at (c ∷ cs) xs n i j e = held_by (eqb c n) c cs xs n i j (place_from (i + 1) cs n) refl (λ ys. held_at cs ys n (i + 1) j) e

not_held : (cs : List ℕ) (xs : List Plain) (n i : ℕ) → place_from i cs n ≡ None → captured_value cs xs n ≡ Undefined
not_held [] xs n i e = refl
not_held (c ∷ cs) [] n i e = refl
not_held (c ∷ cs) (x ∷ xs) n i e =
    let both = none_both (eqb c n) i (place_from (i + 1) cs n) e in
    ap (λ b. cond b x (captured_value cs xs n)) both.0 ∙ not_held cs xs n (i + 1) both.1

-- the value of a local by the place that is kept for it
pub placed
    : (places : BTreeMap ℕ ℕ) (cs : List ℕ) (xs : List Plain) (n j : ℕ) → KeepPlaces places 0 cs → get nat_cmp places n ≡ Some j
    → captured_value cs xs n ≡ unwrap_or (slice_get xs j) Undefined
placed places cs xs n j kept is =
    let at = held_at cs xs n 0 j (sym (kept n) ∙ is) in
    let same : at.place ≡ j = omega (arith, at.counted) in
    at.holds ∙ ap (λ k. unwrap_or (slice_get xs k) Undefined) same

pub not_placed
    : (places : BTreeMap ℕ ℕ) (cs : List ℕ) (xs : List Plain) (n : ℕ) → KeepPlaces places 0 cs → get nat_cmp places n ≡ None
    → captured_value cs xs n ≡ Undefined
not_placed places cs xs n kept is = not_held cs xs n 0 (sym (kept n) ∙ is)
