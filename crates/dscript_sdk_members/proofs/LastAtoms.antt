-- The last atom of a path, and the stem of an atom.
use Rattle.std.proofs.Common.{◌≡◌, ◌≢◌, ℕ, ◌+◌, ◌<◌, ◌≤◌, true, false, cond, List, [], ◌∷◌, ◌++◌, append_assoc, append-nil, length, take, drop, get_or, refl, ap, sym, ◌∙◌, subst, arith, Option, Some, None}
use Rattle.std.specs.Prelude.{option_map, IfSome}
use Rattle.std.specs.List.{AllByRecursion, last_or, slice_split}
use Rattle.std.proofs.lemmas.Bool.{ne_eqb}
use Rattle.std.proofs.lemmas.List.{at_drop_all, at_drop_more, take_more}
use Rattle.std.proofs.lemmas.List.Splits.{length-slice_split}
use Rattle.bx_tree.proofs.AtomsBelow.{split_first, split_whole}
use Rattle.bx_tree.proofs.PathTexts.{is_slash}
use Rattle.dscript_sdk_members.specs.PathMembers.{before_dot, before_dot_or, is_dot}

-- ## The last part of a text

last_of_some : (o : Option (List ℕ)) (parts : List (List ℕ)) → 0 < length parts → last_or o parts ≡ last_or None parts
last_of_some o [] l = absurd (omega (arith, l))
last_of_some o (p ∷ ps) l = refl

pub last_after : (text prefix after : List ℕ) → text ≡ prefix ++ 47 ∷ after → AllByRecursion (λ b. b ≢ 47) prefix
    → last_or None (slice_split is_slash text) ≡ last_or None (slice_split is_slash after)
last_after text prefix after e h =
    ap (last_or None) (split_first text prefix after e h)
    ∙ last_of_some (Some prefix) (slice_split is_slash after) (omega (arith, length-slice_split is_slash after))

pub last_whole : (text : List ℕ) → AllByRecursion (λ b. b ≢ 47) text → last_or None (slice_split is_slash text) ≡ Some text
last_whole text h = ap (last_or None) (split_whole text h)

-- ## The last dot

-- what was found later, or else earlier
pub later : Option (List ℕ) → Option (List ℕ) → Option (List ℕ)
later None old = old
later (Some found) old = Some found

dot_case : (t : List ℕ) (x : ℕ) (o old : Option (List ℕ)) → is_dot x ≡ true
    → later (option_map (λ cs. (t ++ x ∷ []) ++ cs) o) (Some t) ≡ later (option_map (λ cs. t ++ cs) (before_dot_or x o)) old
unfolding later
dot_case t x None old e =
    sym (ap (λ b. later (option_map (λ cs. t ++ cs) (cond b (Some []) None)) old) e ∙ ap Some (append-nil t))
dot_case t x (Some cs) old e = ap Some (append_assoc t (x ∷ []) cs)

other_case : (t : List ℕ) (x : ℕ) (o old : Option (List ℕ)) → is_dot x ≡ false
    → later (option_map (λ cs. (t ++ x ∷ []) ++ cs) o) old ≡ later (option_map (λ cs. t ++ cs) (before_dot_or x o)) old
unfolding later
other_case t x None old e = sym (ap (λ b. later (option_map (λ cs. t ++ cs) (cond b (Some []) None)) old) e)
other_case t x (Some cs) old e = ap Some (append_assoc t (x ∷ []) cs)

step_to : (xs : List ℕ) (i : ℕ) (old whole : Option (List ℕ)) → i < length xs
    → later (option_map (λ cs. take i xs ++ cs) (before_dot (drop i xs))) old ≡ whole
    → later (option_map (λ cs. take i xs ++ cs) (before_dot_or (get_or xs i 0) (before_dot (drop (i + 1) xs)))) old ≡ whole
step_to xs i old whole l h =
    sym (at_drop_more (λ ys. later (option_map (λ cs. take i xs ++ cs) (before_dot ys)) old) xs i 0 l) ∙ h

pub dot_here : (xs : List ℕ) (i : ℕ) (old whole : Option (List ℕ)) → i < length xs → get_or xs i 0 ≡ 46
    → later (option_map (λ cs. take i xs ++ cs) (before_dot (drop i xs))) old ≡ whole
    → later (option_map (λ cs. take (i + 1) xs ++ cs) (before_dot (drop (i + 1) xs))) (Some (take i xs)) ≡ whole
dot_here xs i old whole l e h =
    ap (λ t. later (option_map (λ cs. t ++ cs) (before_dot (drop (i + 1) xs))) (Some (take i xs))) (take_more xs i 0 l)
    ∙ dot_case (take i xs) (get_or xs i 0) (before_dot (drop (i + 1) xs)) old (ap is_dot e)
    ∙ step_to xs i old whole l h

pub no_dot_here : (xs : List ℕ) (i : ℕ) (old whole : Option (List ℕ)) → i < length xs → is_dot (get_or xs i 0) ≡ false
    → later (option_map (λ cs. take i xs ++ cs) (before_dot (drop i xs))) old ≡ whole
    → later (option_map (λ cs. take (i + 1) xs ++ cs) (before_dot (drop (i + 1) xs))) old ≡ whole
no_dot_here xs i old whole l e h =
    ap (λ t. later (option_map (λ cs. t ++ cs) (before_dot (drop (i + 1) xs))) old) (take_more xs i 0 l)
    ∙ other_case (take i xs) (get_or xs i 0) (before_dot (drop (i + 1) xs)) old e
    ∙ step_to xs i old whole l h

no_bytes_before : (o : Option (List ℕ)) → later (option_map (λ cs. [] ++ cs) o) None ≡ o
unfolding later
no_bytes_before None = refl
no_bytes_before (Some cs) = refl

pub first_dots : (xs : List ℕ) → later (option_map (λ cs. take 0 xs ++ cs) (before_dot (drop 0 xs))) None ≡ before_dot xs
first_dots xs = no_bytes_before (before_dot xs)

pub all_dots : (xs : List ℕ) (i : ℕ) (old whole : Option (List ℕ)) → length xs ≤ i
    → later (option_map (λ cs. take i xs ++ cs) (before_dot (drop i xs))) old ≡ whole → old ≡ whole
unfolding later
all_dots xs i old whole l h = sym (at_drop_all (λ ys. later (option_map (λ cs. take i xs ++ cs) (before_dot ys)) old) xs i l) ∙ h

-- the last dot of a prefix of this length
pub record IsLastDot (xs : List ℕ) (i : ℕ) (last : Option ℕ) : Type 0 where
  pub within : IfSome last (λ n. n < length xs)
  pub found :
      later (option_map (λ cs. take i xs ++ cs) (before_dot (drop i xs))) (option_map (λ n. take n xs) last) ≡ before_dot xs

pub last_dot_first : (xs : List ℕ) → IsLastDot xs 0 None
last_dot_first xs = record { within = tt; found = first_dots xs }

pub last_dot_here : (xs : List ℕ) (i : ℕ) (old new : Option ℕ) → i < length xs → get_or xs i 0 ≡ 46 → new ≡ Some i → IsLastDot xs i old
    → IsLastDot xs (i + 1) new
last_dot_here xs i old new l e is h =
    subst (IsLastDot xs (i + 1)) (sym is)
    (record { within = l; found = dot_here xs i (option_map (λ n. take n xs) old) (before_dot xs) l e h.found })

pub last_dot_on : (xs : List ℕ) (i : ℕ) (old new : Option ℕ) → i < length xs → get_or xs i 0 ≢ 46 → new ≡ old → IsLastDot xs i old
    → IsLastDot xs (i + 1) new
last_dot_on xs i old new l e is h =
    subst (IsLastDot xs (i + 1)) (sym is)
    (record { within = h.within; found = no_dot_here xs i (option_map (λ n. take n xs) old) (before_dot xs) l (ne_eqb (get_or xs i 0) 46 e) h.found })

pub last_dot_of_all : (xs : List ℕ) (i : ℕ) (last : Option ℕ) → length xs ≤ i → IsLastDot xs i last
    → before_dot xs ≡ option_map (λ n. take n xs) last
last_dot_of_all xs i last l h = sym (all_dots xs i (option_map (λ n. take n xs) last) (before_dot xs) l h.found)
