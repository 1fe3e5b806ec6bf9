-- A label leads to the one line that has it.
use Rattle.std.proofs.Common.{◌≡◌, ℕ, ◌+◌, zero, suc, true, false, Bool, not, ◌||◌, cond, List, [], ◌∷◌, map, Option, Some, None, refl, ap, sym, ◌∙◌, subst, arith}
use Rattle.std.specs.List.{list_all, list_any}
use Rattle.std.specs.Str.{bytes_eq}
use Rattle.std.proofs.lemmas.Bool.{and_from, and_parts}
use Rattle.std.proofs.lemmas.Slice.Eq.{bytes_eq-Decides}
use Rattle.std.proofs.lemmas.Option.{same_Some}
use Rattle.bx_tree.proofs.Lists.{all_true, true_all}
use Rattle.tool_text.specs.Grammar.{AreDistinct, IsLabel, IsTarget, Labels, is_lower}
use Rattle.tool_text.specs.Reading.{are_distinct, has_label, is_label, is_label_byte, is_labelled, label_of, before_byte, place_from, place_of}

-- ## Labels

pub label_sound : (text : List ℕ) → is_label text ≡ true → IsLabel text
label_sound [] e = cc
label_sound (b ∷ bs) e = let parts = and_parts (is_lower b) (list_all is_label_byte bs) e in (parts.0, all_true is_label_byte bs parts.1)

pub label_complete : (text : List ℕ) → IsLabel text → is_label text ≡ true
label_complete [] h = absurd h
label_complete (b ∷ bs) h = and_from (is_lower b) (list_all is_label_byte bs) h.0 (true_all is_label_byte bs h.1)

-- ## Places

pub record Found (labels : Labels) (text : List ℕ) (start place : ℕ) : Type 0 where
  pub line : ℕ
  pub there : IsTarget labels text line
  pub place_is : place ≡ start + line

later : (own : Option (List ℕ)) (labels : Labels) (text : List ℕ) (start place : ℕ) → Found labels text (start + 1) place → Found (own ∷ labels) text start place
later own labels text start place f = record { line = suc f.line; there = f.there; place_is = let is = f.place_is in omega (arith, is) }

pub place_found : (labels : Labels) (text : List ℕ) (start place : ℕ) → place_from start labels text ≡ Some place → Found labels text start place
place_found [] text start place e = cc
place_found (None ∷ labels) text start place e = later None labels text start place (place_found labels text (start + 1) place e)
place_found (Some own ∷ labels) text start place e = by_label (bytes_eq own text) refl e (λ is. place_found labels text (start + 1) place is)
  where
    by_label : (t : Bool) → bytes_eq own text ≡ t → cond t (Some start) (place_from (start + 1) labels text) ≡ Some place
        → (place_from (start + 1) labels text ≡ Some place → Found labels text (start + 1) place) → Found (Some own ∷ labels) text start place
    by_label true same e more =
        record { line = 0; there = ap (λ l. Some (Some l)) ((bytes_eq-Decides own text).0 same); place_is = let is : start ≡ place = same_Some start place e in omega (arith, is) }
    by_label false other e more = later (Some own) labels text start place (more e)

pub target_sound : (labels : Labels) (text : List ℕ) (place : ℕ) → place_of labels text ≡ Some place → IsTarget labels text place
target_sound labels text place e =
    let f = place_found labels text 0 place e in
    let is = f.place_is in
    subst (λ i. IsTarget labels text i) (let same : f.line ≡ place = omega (arith, is) in same) f.there

has_some_place : (labels : Labels) (text : List ℕ) (start line : ℕ) → IsTarget labels text line → (place : ℕ) × (place_from start labels text ≡ Some place)
has_some_place [] text start line h = cc
has_some_place (None ∷ labels) text start zero h = cc
has_some_place (None ∷ labels) text start (suc line) h = has_some_place labels text (start + 1) line h
has_some_place (Some own ∷ labels) text start zero h =
    (start, ap (λ t. cond t (Some start) (place_from (start + 1) labels text)) ((bytes_eq-Decides own text).1 (same_Some own text (same_Some (Some own) (Some text) h))))
has_some_place (Some own ∷ labels) text start (suc line) h = by_label (bytes_eq own text) (has_some_place labels text (start + 1) line h)
  where
    by_label : (t : Bool) → ((place : ℕ) × (place_from (start + 1) labels text ≡ Some place))
        → (place : ℕ) × (cond t (Some start) (place_from (start + 1) labels text) ≡ Some place)
    by_label true more = (start, refl)
    by_label false more = more

pub target_complete : (labels : Labels) (text : List ℕ) (place : ℕ) → AreDistinct labels → IsTarget labels text place → place_of labels text ≡ Some place
target_complete labels text place distinct h =
    let some = has_some_place labels text 0 place h in
    some.1 ∙ ap Some (distinct some.0 place text (target_sound labels text some.0 some.1) h)

-- ## Distinct labels

any_there : (labels : Labels) (text : List ℕ) (line : ℕ) → IsTarget labels text line → list_any (has_label text) labels ≡ true
any_there [] text line h = cc
any_there (own ∷ labels) text zero h =
    ap (λ o. has_label text o || list_any (has_label text) labels) (same_Some own (Some text) h)
    ∙ ap (λ b. b || list_any (has_label text) labels) ((bytes_eq-Decides text text).1 refl)
any_there (own ∷ labels) text (suc line) h = ap (λ b. has_label text own || b) (any_there labels text line h) ∙ or_true (has_label text own)
  where
    or_true : (t : Bool) → (t || true) ≡ true
    or_true true = refl
    or_true false = refl

any_where : (labels : Labels) (text : List ℕ) → list_any (has_label text) labels ≡ true → (line : ℕ) × IsTarget labels text line
any_where [] text e = cc
any_where (None ∷ labels) text e = let more = any_where labels text e in (suc more.0, more.1)
any_where (Some own ∷ labels) text e = by_label (bytes_eq text own) refl e (λ is. any_where labels text is)
  where
    by_label : (t : Bool) → bytes_eq text own ≡ t → (t || list_any (has_label text) labels) ≡ true
        → (list_any (has_label text) labels ≡ true → (line : ℕ) × IsTarget labels text line) → (line : ℕ) × IsTarget (Some own ∷ labels) text line
    by_label true same e more = (0, ap (λ l. Some (Some l)) (sym ((bytes_eq-Decides text own).0 same)))
    by_label false other e more = let rest = more e in (suc rest.0, rest.1)

not_false : (b : Bool) → not b ≡ true → b ≡ true → ⊥
not_false true e f = cc
not_false false e f = cc

pub distinct_sound : (labels : Labels) → are_distinct labels ≡ true → AreDistinct labels
distinct_sound [] e i j label h k = cc
distinct_sound (None ∷ labels) e zero j label h k = cc
distinct_sound (None ∷ labels) e (suc i) zero label h k = cc
distinct_sound (None ∷ labels) e (suc i) (suc j) label h k = ap suc (distinct_sound labels e i j label h k)
distinct_sound (Some own ∷ labels) e zero zero label h k = refl
distinct_sound (Some own ∷ labels) e zero (suc j) label h k =
    let same : own ≡ label = same_Some own label (same_Some (Some own) (Some label) h) in
    absurd (not_false (list_any (has_label own) labels) (and_parts (not (list_any (has_label own) labels)) (are_distinct labels) e).0
    (any_there labels own j (subst (λ l. IsTarget labels l j) (sym same) k)))
distinct_sound (Some own ∷ labels) e (suc i) zero label h k =
    let same : own ≡ label = same_Some own label (same_Some (Some own) (Some label) k) in
    absurd (not_false (list_any (has_label own) labels) (and_parts (not (list_any (has_label own) labels)) (are_distinct labels) e).0
    (any_there labels own i (subst (λ l. IsTarget labels l i) (sym same) h)))
distinct_sound (Some own ∷ labels) e (suc i) (suc j) label h k =
    ap suc (distinct_sound labels (and_parts (not (list_any (has_label own) labels)) (are_distinct labels) e).1 i j label h k)

later_distinct : (own : Option (List ℕ)) (labels : Labels) → AreDistinct (own ∷ labels) → AreDistinct labels
later_distinct own labels distinct i j label h k = let same : suc i ≡ suc j = distinct (suc i) (suc j) label h k in omega (arith, same)

pub distinct_complete : (labels : Labels) → AreDistinct labels → are_distinct labels ≡ true
distinct_complete [] distinct = refl
distinct_complete (None ∷ labels) distinct = distinct_complete labels (later_distinct None labels distinct)
distinct_complete (Some own ∷ labels) distinct =
    and_from (not (list_any (has_label own) labels)) (are_distinct labels) (none (list_any (has_label own) labels) refl) (distinct_complete labels (later_distinct (Some own) labels distinct))
  where
    none : (t : Bool) → list_any (has_label own) labels ≡ t → not t ≡ true
    none true e =
        let there = any_where labels own e in
        let same : 0 ≡ suc there.0 = distinct 0 (suc there.0) own refl there.1 in
        absurd (omega (arith, same))
    none false e = refl

-- the labels of lines are labels
pub are_labels : (lines : List (List ℕ)) (text : List ℕ) (i : ℕ) → IsTarget (map label_of lines) text i → IsLabel text
are_labels [] text i h = cc
are_labels (line ∷ lines) text zero h = by_test (is_labelled line) refl (same_Some (label_of line) (Some text) h)
  where
    by_test : (t : Bool) → is_labelled line ≡ t → cond t (Some (before_byte 58 line)) None ≡ Some text → IsLabel text
    by_test true e is = subst IsLabel (same_Some (before_byte 58 line) text is) (label_sound (before_byte 58 line) (and_parts _ (is_label (before_byte 58 line)) e).1)
    by_test false e is = cc
are_labels (line ∷ lines) text (suc i) h = are_labels lines text i h
