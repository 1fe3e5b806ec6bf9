-- The first place of each label, one line after the other.
use Rattle.std.proofs.Common.{◌≡◌, ℕ, ◌+◌, ◌<◌, suc, true, false, Bool, cond, List, [], ◌∷◌, ◌++◌, length, map, take, get_or, Option, Some, None, IsSome, Result, Ok, Err, OnOk, refl, ap, sym, ◌∙◌, subst, arith}
use Rattle.std.specs.Borrow.{Bor}
use Rattle.std.specs.Str.{bytes_eq}
use Rattle.std.proofs.lemmas.List.{take_more, length-take-le}
use Rattle.std.proofs.lemmas.Slice.Eq.{bytes_eq-Decides}
use Rattle.bx_tree.specs.Lent.{texts_now}
use Rattle.tool_text.specs.Grammar.{Labels}
use Rattle.tool_text.specs.Reading.{Places, label_of, place_from, place_of}
use Rattle.tool_text.specs.Tables.{with_place}
use Rattle.tool_faults.specs.Tables.{or_else, own_place, with_first}

-- ## One more label

pub no_label : (place : ℕ) (places : Places) (q : List ℕ) → places q ≡ with_first None place places q
no_label place places q = plain (places q)
  where
    plain : (o : Option ℕ) → o ≡ or_else o None
    plain None = refl
    plain (Some i) = refl

pub label_kept : (label : List ℕ) (place : ℕ) (places : Places) (q : List ℕ) → IsSome (places label) → places q ≡ with_first (Some label) place places q
label_kept label place places q some = by_test (bytes_eq label q) refl
  where
    first : (o later : Option ℕ) → IsSome o → o ≡ or_else o later
    first None later h = cc
    first (Some i) later h = refl

    plain : (o : Option ℕ) → o ≡ or_else o None
    plain None = refl
    plain (Some i) = refl

    by_test : (t : Bool) → bytes_eq label q ≡ t → places q ≡ or_else (places q) (cond t (Some place) None)
    by_test true is = first (places q) (Some place) (subst (λ x. IsSome (places x)) ((bytes_eq-Decides label q).0 is) some)
    by_test false is = plain (places q)

pub label_added : (label : List ℕ) (place : ℕ) (places : Places) (q : List ℕ) → places label ≡ None
    → with_place (Some label) place places q ≡ with_first (Some label) place places q
label_added label place places q none = by_test (bytes_eq label q) refl
  where
    plain : (o : Option ℕ) → o ≡ or_else o None
    plain None = refl
    plain (Some i) = refl

    by_test : (t : Bool) → bytes_eq label q ≡ t → cond t (Some place) (places q) ≡ or_else (places q) (cond t (Some place) None)
    by_test true is = ap (λ o. or_else o (Some place)) (sym (sym (ap places ((bytes_eq-Decides label q).0 is)) ∙ none))
    by_test false is = plain (places q)

pub some_there : (o : Option ℕ) (i : ℕ) → Some i ≡ o → IsSome o
some_there None i e = cc
some_there (Some j) i e = refl

pub added_absent : {T E : Type 0} (r : Result T E) (label : List ℕ) (place : ℕ) (places new : Places) → places label ≡ None
    → OnOk r ((q : List ℕ) → new q ≡ with_place (Some label) place places q) → OnOk r ((q : List ℕ) → new q ≡ with_first (Some label) place places q)
added_absent (Ok x) label place places new none added = λ q. added q ∙ label_added label place places q none
added_absent (Err e) label place places new none added = tt

-- ## One more line

place_push : (i : ℕ) (ls : Labels) (own : Option (List ℕ)) (q : List ℕ)
    → place_from i (ls ++ own ∷ []) q ≡ or_else (place_from i ls q) (own_place own (i + length ls) q)
place_push i [] None q = refl
place_push i [] (Some label) q = ap (λ n. cond (bytes_eq label q) (Some n) None) (omega arith)
place_push i (None ∷ ls) own q = place_push (i + 1) ls own q ∙ ap (λ n. or_else (place_from (i + 1) ls q) (own_place own n q)) (omega arith)
place_push i (Some label ∷ ls) own q =
    ap (cond (bytes_eq label q) (Some i)) (place_push (i + 1) ls own q ∙ ap (λ n. or_else (place_from (i + 1) ls q) (own_place own n q)) (omega arith))
    ∙ choice (bytes_eq label q) (place_from (i + 1) ls q) (own_place own (i + length (Some label ∷ ls)) q)
  where
    choice : (b : Bool) (rest later : Option ℕ) → cond b (Some i) (or_else rest later) ≡ or_else (cond b (Some i) rest) later
    choice true rest later = refl
    choice false rest later = refl

abbrev pub labels_of : List (Bor (List ℕ)) → Labels
labels_of lines = map label_of (texts_now lines)

labels_push : (lines : List (Bor (List ℕ))) (line : Bor (List ℕ)) → labels_of (lines ++ line ∷ []) ≡ labels_of lines ++ label_of line.now ∷ []
labels_push [] line = refl
labels_push (x ∷ xs) line = ap (λ ls. label_of x.now ∷ ls) (labels_push xs line)

length-labels : (lines : List (Bor (List ℕ))) → length (labels_of lines) ≡ length lines
length-labels [] = refl
length-labels (x ∷ xs) = ap suc (length-labels xs)

-- the places of the first lines, with one line more
pub one_line : (lines : List (Bor (List ℕ))) (i : ℕ) (d : Bor (List ℕ)) (places new : Places) → i < length lines
    → ((q : List ℕ) → places q ≡ place_of (labels_of (take i lines)) q)
    → ((q : List ℕ) → new q ≡ with_first (label_of (get_or lines i d).now) i places q)
    → (q : List ℕ) → new q ≡ place_of (labels_of (take (i + 1) lines)) q
one_line lines i d places new l known added q =
    let line = get_or lines i d in
    let own = label_of line.now in
    let ls = labels_of (take i lines) in
    let more : labels_of (take (i + 1) lines) ≡ ls ++ own ∷ [] = ap labels_of (take_more lines i d l) ∙ labels_push (take i lines) line in
    let count : length ls ≡ i = length-labels (take i lines) ∙ length-take-le i lines (omega (arith, l)) in
    let size : 0 + length ls ≡ i = omega (arith, count) in
    added q ∙ ap (λ o. or_else o (own_place own i q)) (known q)
    ∙ ap (λ n. or_else (place_of ls q) (own_place own n q)) (sym size)
    ∙ sym (place_push 0 ls own q) ∙ ap (λ x. place_of x q) (sym more)
