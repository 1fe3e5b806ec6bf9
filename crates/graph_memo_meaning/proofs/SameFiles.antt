-- Two trees that have the same files at some paths have one list of these.
use Rattle.std.proofs.Common.{◌≡◌, ℕ, Bool, true, false, cond, List, [], ◌∷◌, filter, Some, None, refl, sym, ap, subst, ◌∙◌}
use Rattle.std.specs.List.{AllByRecursion}
use Rattle.std.specs.List.Sorted.{IsStrictlySortedBy}
use Rattle.std.specs.Ordering.{ordering_reverse}
use Rattle.std.specs.declared.cmp.Ordering.TheVariants.{Less, Greater}
use Rattle.std.proofs.lemmas.Option.{same_Some}
use Rattle.bx_tree.specs.Orders.{path_cmp_total, same_path_decides}
use Rattle.bx_tree.specs.Paths.{Atoms, path_cmp, same_path}
use Rattle.bx_tree.specs.Trees.{Files, file_at, paths_of}

-- a path is not before itself
not_before_itself : (p : Atoms) → path_cmp p p ≡ Less → ⊥
not_before_itself p e =
    let back : ◌≡◌ Less Greater = sym e ∙ path_cmp_total.antisymm p p ∙ ap ordering_reverse e in absurd cc

not_both : (p q : Atoms) → path_cmp p q ≡ Less → path_cmp q p ≡ Less → ⊥
not_both p q e f = not_before_itself p (path_cmp_total.trans p q p e f)

-- no file is at a path that is before all of these
before_all : (p : Atoms) (fs : Files) → AllByRecursion (λ q. path_cmp p q ≡ Less) (paths_of fs) → file_at fs p ≡ None
before_all p [] h = refl
before_all p (f ∷ fs) h = by_test (same_path f.0 p) refl (before_all p fs h.1)
  where
    by_test : (b : Bool) → same_path f.0 p ≡ b → file_at fs p ≡ None → cond b (Some f.1) (file_at fs p) ≡ None
    by_test true same rest =
        absurd (not_before_itself p (subst (λ q. path_cmp p q ≡ Less) ((same_path_decides f.0 p).0 same) h.0))
    by_test false other rest = rest

-- a file that is at a path is one of the files
found_after : (p : Atoms) (bytes : List ℕ) (q : Atoms) (fs : Files) → file_at fs p ≡ Some bytes
    → AllByRecursion (λ r. path_cmp q r ≡ Less) (paths_of fs) → path_cmp q p ≡ Less
found_after p bytes q [] e h = absurd cc
found_after p bytes q (f ∷ fs) e h = by_test (same_path f.0 p) refl (λ later. found_after p bytes q fs later h.1) e
  where
    by_test : (b : Bool) → same_path f.0 p ≡ b → (file_at fs p ≡ Some bytes → path_cmp q p ≡ Less)
        → cond b (Some f.1) (file_at fs p) ≡ Some bytes → path_cmp q p ≡ Less
    by_test true same rest e = subst (λ r. path_cmp q r ≡ Less) ((same_path_decides f.0 p).0 same) h.0
    by_test false other rest e = rest e

never : (bytes : List ℕ) → None ≡ Some bytes → ⊥
never bytes e = absurd cc

other_way : (p q : Atoms) → same_path p q ≡ false → same_path q p ≡ false
other_way p q other = by_path (same_path q p) refl
  where
    by_path : (b : Bool) → same_path q p ≡ b → b ≡ false
    by_path true is =
        let clash : false ≡ true = sym other ∙ (same_path_decides p q).1 (sym ((same_path_decides q p).0 is)) in absurd cc
    by_path false is = refl

-- the first file is at its path
first_at : (f : Atoms × List ℕ) (fs : Files) → file_at (f ∷ fs) f.0 ≡ Some f.1
first_at f fs = ap (λ b. cond b (Some f.1) (file_at fs f.0)) ((same_path_decides f.0 f.0).1 refl)

-- at another path is what the other files have
others_at : (f : Atoms × List ℕ) (fs : Files) (p : Atoms) → same_path f.0 p ≡ false → file_at (f ∷ fs) p ≡ file_at fs p
others_at f fs p other = ap (λ b. cond b (Some f.1) (file_at fs p)) other

module _ (test : Atoms → Bool) where
  abbrev passing : Files → Files
  passing fs = filter (λ f. test f.0) fs

  -- the same files are at the paths that pass
  abbrev AgreeAt : Files → Files → Type 0
  AgreeAt s t = (p : Atoms) → test p ≡ true → file_at s p ≡ file_at t p

  -- a path that does not pass is none that does
  apart : (p q : Atoms) → test p ≡ false → test q ≡ true → same_path p q ≡ false
  apart p q none some = by_test (same_path p q) refl
    where
      by_test : (b : Bool) → same_path p q ≡ b → b ≡ false
      by_test true same =
          let clash : false ≡ true = sym none ∙ ap test ((same_path_decides p q).0 same) ∙ some in absurd cc
      by_test false other = refl

  skip : (f : Atoms × List ℕ) (fs : Files) → test f.0 ≡ false → passing (f ∷ fs) ≡ passing fs
  skip f fs none = ap (λ b. cond b (f ∷ passing fs) (passing fs)) none

  take_first : (f : Atoms × List ℕ) (fs : Files) → test f.0 ≡ true → passing (f ∷ fs) ≡ f ∷ passing fs
  take_first f fs some = ap (λ b. cond b (f ∷ passing fs) (passing fs)) some

  none_pass : (t : Files) → AgreeAt [] t → IsStrictlySortedBy path_cmp (paths_of t) → [] ≡ passing t
  unfolding IsStrictlySortedBy
  none_pass [] agree s = refl
  none_pass (y ∷ t) agree s = by_test (test y.0) refl (λ later. none_pass t later s.1)
    where
      by_test : (b : Bool) → test y.0 ≡ b → (AgreeAt [] t → [] ≡ passing t) → [] ≡ passing (y ∷ t)
      by_test true some rest =
          let clash : None ≡ Some y.1 = agree y.0 some ∙ first_at y t in absurd (never y.1 clash)
      by_test false none rest =
          rest (λ p some. agree p some ∙ others_at y t p (apart y.0 p none some)) ∙ sym (skip y t none)

  -- where the first files of both pass, they are one file
  module _ (x y : Atoms × List ℕ) (s t : Files) (agree : AgreeAt (x ∷ s) (y ∷ t))
      (g : AllByRecursion (λ q. path_cmp x.0 q ≡ Less) (paths_of s))
      (h : AllByRecursion (λ q. path_cmp y.0 q ≡ Less) (paths_of t)) (one : test x.0 ≡ true) (two : test y.0 ≡ true) where
    same_first : same_path y.0 x.0 ≡ true → x ≡ y
    same_first is =
        let path = (same_path_decides y.0 x.0).0 is in
        let bytes = same_Some x.1 y.1
        (sym (first_at x s) ∙ agree x.0 one ∙ subst (λ q. file_at (y ∷ t) q ≡ Some y.1) path (first_at y t)) in
        ap (λ q. (q, x.1)) (sym path) ∙ ap (λ c. (y.0, c)) bytes

    other_first : same_path y.0 x.0 ≡ false → ⊥
    other_first other =
        let x_later = found_after x.0 x.1 y.0 t (sym (others_at y t x.0 other) ∙ sym (agree x.0 one) ∙ first_at x s) h in
        let back = other_way y.0 x.0 other in
        let y_later = found_after y.0 y.1 x.0 s (sym (others_at x s y.0 back) ∙ agree y.0 two ∙ first_at y t) g in
        not_both x.0 y.0 y_later x_later

    first_same : x ≡ y
    first_same = by_path (same_path y.0 x.0) refl
      where
        by_path : (b : Bool) → same_path y.0 x.0 ≡ b → x ≡ y
        by_path true is = same_first is
        by_path false is = absurd (other_first is)

    later_same : AgreeAt s t
    later_same p passes = by_path (same_path x.0 p) refl
      where
        path : x.0 ≡ y.0
        path = ap (λ (f : Atoms × List ℕ). f.0) first_same

        by_path : (b : Bool) → same_path x.0 p ≡ b → file_at s p ≡ file_at t p
        by_path true is =
            subst (λ q. file_at s q ≡ file_at t q) ((same_path_decides x.0 p).0 is)
            (before_all x.0 s g ∙ sym (subst (λ q. file_at t q ≡ None) (sym path) (before_all y.0 t h)))
        by_path false other =
            sym (others_at x s p other) ∙ agree p passes
            ∙ others_at y t p (subst (λ q. same_path q p ≡ false) path other)

  -- the files that pass, from the first that does
  along : (x : Atoms × List ℕ) (s : Files) → test x.0 ≡ true
      → AllByRecursion (λ q. path_cmp x.0 q ≡ Less) (paths_of s)
      → ((t : Files) → AgreeAt s t → IsStrictlySortedBy path_cmp (paths_of t) → passing s ≡ passing t)
      → (t : Files) → AgreeAt (x ∷ s) t → IsStrictlySortedBy path_cmp (paths_of t) → x ∷ passing s ≡ passing t
  unfolding IsStrictlySortedBy
  along x s some g rest [] agree h =
      let clash : None ≡ Some x.1 = sym (agree x.0 some) ∙ first_at x s in absurd (never x.1 clash)
  along x s some g rest (y ∷ t) agree h = by_next (test y.0) refl (λ later. along x s some g rest t later h.1)
    where
      by_next : (b : Bool) → test y.0 ≡ b → (AgreeAt (x ∷ s) t → x ∷ passing s ≡ passing t)
          → x ∷ passing s ≡ passing (y ∷ t)
      by_next true two more =
          ap (λ f. f ∷ passing s) (first_same x y s t agree g h.0 some two)
          ∙ ap (λ fs. y ∷ fs) (rest t (later_same x y s t agree g h.0 some two) h.1) ∙ sym (take_first y t two)
      by_next false none more =
          more (λ p passes. agree p passes ∙ others_at y t p (apart y.0 p none passes)) ∙ sym (skip y t none)

  pub same_passing : (s t : Files) → AgreeAt s t → IsStrictlySortedBy path_cmp (paths_of s)
      → IsStrictlySortedBy path_cmp (paths_of t) → passing s ≡ passing t
  unfolding IsStrictlySortedBy
  same_passing [] t agree g h = none_pass t agree h
  same_passing (x ∷ s) t agree g h = by_test (test x.0) refl (λ u later sorted. same_passing s u later g.1 sorted)
    where
      by_test : (b : Bool) → test x.0 ≡ b
          → ((u : Files) → AgreeAt s u → IsStrictlySortedBy path_cmp (paths_of u) → passing s ≡ passing u)
          → passing (x ∷ s) ≡ passing t
      by_test true some rest = take_first x s some ∙ along x s some g.0 rest t agree h
      by_test false none rest =
          skip x s none ∙ rest t (λ p some. sym (others_at x s p (apart x.0 p none some)) ∙ agree p some) h
