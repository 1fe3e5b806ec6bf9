-- What is asked of the items of a list that lie below a directory.
use Rattle.std.proofs.Common.{◌≡◌, ℕ, ◌+◌, ◌<◌, ◌≤◌, Bool, true, false, not, ◌==◌, ◌||◌, cond, List, [], ◌∷◌, ◌++◌, length, filter, get_or, take, refl, ap, sym, ◌∙◌, append_assoc, append-nil}
use Rattle.std.specs.List.{cons_option, filter_map, list_any}
use Rattle.std.proofs.Math.Dec.{eqb-suc-zero}
use Rattle.std.proofs.lemmas.List.{take_all, take_more}
use Rattle.std.proofs.lemmas.List.Elements.{filter_map-append}
use Rattle.bx_tree.specs.Below.{is_below, next_atom}
use Rattle.bx_tree.specs.Paths.{Atoms}
use Rattle.bx_tree.proofs.AtomsBelow.{none_next}
use Rattle.pip_view.specs.NamesBelow.{names_within}
use Rattle.pip_view.proofs.TakenFiles.{put_after}

module _ {X : Type 0} (path : X → Atoms) where
  abbrev lie_below : Atoms → List X → List X
  lie_below dir xs = filter (λ x. is_below (path x) dir) xs

  is_some_list : List X → Bool
  is_some_list [] = false
  is_some_list (x ∷ xs) = true

  any_filtered : (dir : Atoms) (xs : List X) → is_some_list (lie_below dir xs) ≡ list_any (λ x. is_below (path x) dir) xs
  unfolding is_some_list
  any_filtered dir [] = refl
  any_filtered dir (x ∷ xs) = by_test (is_below (path x) dir) (any_filtered dir xs)
    where
      by_test : (t : Bool) → is_some_list (lie_below dir xs) ≡ list_any (λ x. is_below (path x) dir) xs
          → is_some_list (cond t (x ∷ lie_below dir xs) (lie_below dir xs)) ≡ (t || list_any (λ x. is_below (path x) dir) xs)
      by_test true more = refl
      by_test false more = more

  -- two lists of which the same items lie below a directory
  pub any_by_filter : (dir : Atoms) (xs ys : List X) → filter (λ x. is_below (path x) dir) xs ≡ filter (λ x. is_below (path x) dir) ys
      → list_any (λ x. is_below (path x) dir) xs ≡ list_any (λ x. is_below (path x) dir) ys
  any_by_filter dir xs ys e = sym (any_filtered dir xs) ∙ ap is_some_list e ∙ any_filtered dir ys

  -- whether there is one, by the number of all that lie below
  pub any_by_length : (dir : Atoms) (xs : List X) → not (length (filter (λ x. is_below (path x) dir) xs) == 0) ≡ list_any (λ x. is_below (path x) dir) xs
  unfolding is_some_list
  any_by_length dir xs = counted (lie_below dir xs) ∙ any_filtered dir xs
    where
      counted : (ys : List X) → not (length ys == 0) ≡ is_some_list ys
      counted [] = refl
      counted (y ∷ ys) = ap not (eqb-suc-zero (length ys))

  -- ## Names

  pub within_after : (top dir : Atoms) (xs ys : List X) → names_within path top dir (xs ++ ys) ≡ names_within path top dir xs ++ names_within path top dir ys
  within_after top dir [] ys = refl
  within_after top dir (x ∷ xs) ys = by_test (is_below (path x) dir) (within_after top dir xs ys)
    where
      by_test : (t : Bool) → names_within path top dir (xs ++ ys) ≡ names_within path top dir xs ++ names_within path top dir ys
          → filter_map (λ z. next_atom top (path z)) (cond t (x ∷ lie_below dir (xs ++ ys)) (lie_below dir (xs ++ ys)))
          ≡ filter_map (λ z. next_atom top (path z)) (cond t (x ∷ lie_below dir xs) (lie_below dir xs)) ++ names_within path top dir ys
      by_test true more =
          ap (cons_option (next_atom top (path x))) more ∙ put_after (next_atom top (path x)) (names_within path top dir xs) (names_within path top dir ys)
      by_test false more = more

  -- the names of the first items, and of one more
  pub within_more : (top dir : Atoms) (xs : List X) (i : ℕ) (x : X) (start names new : List (List ℕ)) → i < length xs → x ≡ get_or xs i x
      → new ≡ names ++ names_within path top dir (x ∷ []) → names ≡ start ++ names_within path top dir (take i xs)
      → new ≡ start ++ names_within path top dir (take (i + 1) xs)
  within_more top dir xs i x start names new l is e so_far =
      e ∙ ap (λ ns. ns ++ names_within path top dir (x ∷ [])) so_far
      ∙ append_assoc start (names_within path top dir (take i xs)) (names_within path top dir (x ∷ []))
      ∙ ap (λ ns. start ++ ns) (sym (within_after top dir (take i xs) (x ∷ [])))
      ∙ ap (λ ys. start ++ names_within path top dir ys) (ap (λ y. take i xs ++ y ∷ []) is ∙ sym (take_more xs i x l))

  pub within_all : (top dir : Atoms) (xs : List X) (i : ℕ) (start names : List (List ℕ)) → length xs ≤ i
      → names ≡ start ++ names_within path top dir (take i xs) → names ≡ start ++ names_within path top dir xs
  within_all top dir xs i start names l so_far = so_far ∙ ap (λ ys. start ++ names_within path top dir ys) (take_all i xs l)

  -- an item that lies below
  pub name_within : (top dir : Atoms) (x : X) → is_below (path x) dir ≡ true → names_within path top dir (x ∷ []) ≡ cons_option (next_atom top (path x)) []
  name_within top dir x e = ap (λ b. filter_map (λ z. next_atom top (path z)) (cond b (x ∷ []) [])) e

  -- and one that does not
  pub none_within : (top dir : Atoms) (x : X) (names : List (List ℕ)) → is_below (path x) dir ≡ false → names ≡ names ++ names_within path top dir (x ∷ [])
  none_within top dir x names e =
      sym (ap (λ b. names ++ filter_map (λ z. next_atom top (path z)) (cond b (x ∷ []) [])) e ∙ append-nil names)

  -- in the listing of the directory itself all that has a name lies below it
  pub names_all : (dir : Atoms) (xs : List X) → names_within path dir dir xs ≡ filter_map (λ x. next_atom dir (path x)) xs
  names_all dir [] = refl
  names_all dir (x ∷ xs) = by_test (is_below (path x) dir) refl (names_all dir xs)
    where
      by_test : (t : Bool) → is_below (path x) dir ≡ t → names_within path dir dir xs ≡ filter_map (λ z. next_atom dir (path z)) xs
          → filter_map (λ z. next_atom dir (path z)) (cond t (x ∷ lie_below dir xs) (lie_below dir xs))
          ≡ cons_option (next_atom dir (path x)) (filter_map (λ z. next_atom dir (path z)) xs)
      by_test true e so_far = ap (cons_option (next_atom dir (path x))) so_far
      by_test false e so_far = so_far ∙ sym (ap (λ o. cons_option o (filter_map (λ z. next_atom dir (path z)) xs)) (none_next dir (path x) e))

-- ## Names of paths in the listing of a directory

pub next_more : (dir : Atoms) (ps : List Atoms) (i : ℕ) (p : Atoms) (start names new : List (List ℕ)) → i < length ps → p ≡ get_or ps i p
    → new ≡ names ++ cons_option (next_atom dir p) [] → names ≡ start ++ filter_map (next_atom dir) (take i ps)
    → new ≡ start ++ filter_map (next_atom dir) (take (i + 1) ps)
next_more dir ps i p start names new l is e so_far =
    e ∙ ap (λ ns. ns ++ cons_option (next_atom dir p) []) so_far
    ∙ append_assoc start (filter_map (next_atom dir) (take i ps)) (cons_option (next_atom dir p) [])
    ∙ ap (λ ns. start ++ ns)
    (sym (filter_map-append (next_atom dir) (take i ps) (p ∷ []))
    ∙ ap (filter_map (next_atom dir)) (ap (λ q. take i ps ++ q ∷ []) is ∙ sym (take_more ps i p l)))

pub next_all : (dir : Atoms) (ps : List Atoms) (i : ℕ) (start names : List (List ℕ)) → length ps ≤ i
    → names ≡ start ++ filter_map (next_atom dir) (take i ps) → names ≡ start ++ filter_map (next_atom dir) ps
next_all dir ps i start names l so_far = so_far ∙ ap (λ qs. start ++ filter_map (next_atom dir) qs) (take_all i ps l)
