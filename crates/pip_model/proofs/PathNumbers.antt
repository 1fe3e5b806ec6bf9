-- Numbers of pips at paths that are numbered.
use Rattle.std.proofs.Common.{zero, suc, ◌≡◌, ◌≢◌, ℕ, ◌<◌, Bool, true, false, cond, List, [], ◌∷◌, ◌++◌, length, get_or, set, if◌then◌else◌, refl, ap, sym, ◌∙◌, subst, inl, inr, arith, append-nil}
use Rattle.std.specs.Prelude.{All, Contains, IsSomeAnd, slice_get}
use Rattle.std.specs.List.{AllByRecursion, IsDistinct}
use Rattle.std.specs.Str.{bytes_eq}
use Rattle.std.specs.declared.alloc.Global.{Global}
use Rattle.std.specs.declared.vec.Vec.{Vec}
use Rattle.std.proofs.lemmas.Bool.{cases_Bool, cond-true, cond-false, false≢true}
use Rattle.std.proofs.lemmas.List.{get_or-set_same}
use Rattle.std.proofs.lemmas.Option.{slice_get-get_or}
use Rattle.std.proofs.lemmas.Slice.Eq.{bytes_eq-Decides}
use Rattle.bx_tree.specs.Orders.{same_path_decides}
use Rattle.bx_tree.specs.Paths.{Atoms, IsPath, path_text, same_path}
use Rattle.bx_tree.proofs.PathTexts.{same_from_text}
use Rattle.bx_tree_paths.specs.Tables.{AreNumbered}
use Rattle.pip_model.specs.Outputs.{number_at, numbers_of}

unlike : (a b : List ℕ) → (a ≡ b → ⊥) → bytes_eq a b ≡ false
unlike a b other = elim (cases_Bool (bytes_eq a b)) [
  | inl same ↦ absurd (other ((bytes_eq-Decides a b).0 same))
  | inr fails ↦ fails
]

-- ## Where the text is

-- at a text that no path has there is no number
pub none_at : (text : List ℕ) (paths : List Atoms) (pips : List (Vec ℕ Global)) → All (λ path. path_text path ≢ text) paths
    → numbers_of text paths pips ≡ []
none_at text [] pips h = refl
none_at text (p ∷ ps) [] h = refl
none_at text (p ∷ ps) (v ∷ vs) h =
    cond-false (bytes_eq (path_text p) text) v.items (numbers_of text ps vs) (unlike (path_text p) text (h 0 p (omega arith)))
    ∙ none_at text ps vs (λ k d l. h (suc k) d (omega (arith, l)))

-- a path and a later one have different texts
later_differs : (text : List ℕ) (p : Atoms) (ps : List Atoms) (n : ℕ) → IsPath p → AllByRecursion IsPath ps → AllByRecursion (λ y. same_path p y ≡ false) ps
    → IsSomeAnd (slice_get ps n) (λ path. path_text path ≡ text) → path_text p ≡ text → ⊥
later_differs text p [] n is are apart h e = h
later_differs text p (q ∷ qs) zero is are apart h e =
    false≢true (sym apart.0 ∙ (same_path_decides p q).1 (same_from_text p q is are.0 (e ∙ sym h)))
later_differs text p (q ∷ qs) (suc n) is are apart h e = later_differs text p qs n is are.1 apart.1 h e

numbered_at : (text : List ℕ) (paths : List Atoms) (pips : List (Vec ℕ Global)) (n : ℕ) (d : Vec ℕ Global) → AllByRecursion IsPath paths
    → IsDistinct same_path paths → length pips ≡ length paths → IsSomeAnd (slice_get paths n) (λ path. path_text path ≡ text)
    → numbers_of text paths pips ≡ (get_or pips n d).items
unfolding IsDistinct
numbered_at text [] pips n d are apart size h = absurd h
numbered_at text (p ∷ ps) [] n d are apart size h = absurd (omega (arith, size))
numbered_at text (p ∷ ps) (v ∷ vs) zero d are apart size h =
    cond-true (bytes_eq (path_text p) text) v.items (numbers_of text ps vs) ((bytes_eq-Decides (path_text p) text).1 h)
numbered_at text (p ∷ ps) (v ∷ vs) (suc n) d are apart size h =
    cond-false (bytes_eq (path_text p) text) v.items (numbers_of text ps vs)
    (unlike (path_text p) text (later_differs text p ps n are.0 are.1 apart.0 h))
    ∙ numbered_at text ps vs n d are.1 apart.1 (omega (arith, size)) h

-- the numbers at the text of the path with a number are those at its place
pub at_number : (text : List ℕ) (paths : List Atoms) (pips : List (Vec ℕ Global)) (n : ℕ) (d : Vec ℕ Global) → AreNumbered paths
    → length pips ≡ length paths → IsSomeAnd (slice_get paths n) (λ path. path_text path ≡ text)
    → numbers_of text paths pips ≡ (get_or pips n d).items
at_number text paths pips n d are size h = numbered_at text paths pips n d are.are_paths are.distinct size h

-- ## A number more

-- at other texts than that of the path with a number nothing changes
elsewhere : (text : List ℕ) (paths : List Atoms) (pips : List (Vec ℕ Global)) (n : ℕ) (new d : Vec ℕ Global) → length pips ≡ length paths
    → n < length paths → path_text (get_or paths n []) ≢ text → numbers_of text paths (set pips n new) ≡ numbers_of text paths pips
elsewhere text [] pips n new d size less other = absurd (omega (arith, less))
elsewhere text (p ∷ ps) [] n new d size less other = absurd (omega (arith, size))
elsewhere text (p ∷ ps) (v ∷ vs) zero new d size less other =
    let no = unlike (path_text p) text other in
    cond-false (bytes_eq (path_text p) text) new.items (numbers_of text ps vs) no
    ∙ sym (cond-false (bytes_eq (path_text p) text) v.items (numbers_of text ps vs) no)
elsewhere text (p ∷ ps) (v ∷ vs) (suc n) new d size less other =
    ap (λ ns. if bytes_eq (path_text p) text then v.items else ns)
    (elsewhere text ps vs n new d (omega (arith, size)) (omega (arith, less)) other)

pub number_added : (text : List ℕ) (paths : List Atoms) (pips : List (Vec ℕ Global)) (n number : ℕ) (new d : Vec ℕ Global) → AreNumbered paths
    → length pips ≡ length paths → n < length paths → new.items ≡ (get_or pips n d).items ++ number ∷ []
    → numbers_of text paths (set pips n new) ≡ numbers_of text paths pips ++ number_at number text (get_or paths n [])
number_added text paths pips n number new d are size less grown =
    let path = get_or paths n [] in
    let here = slice_get-get_or paths n [] less in
    elim (cases_Bool (bytes_eq (path_text path) text)) [
      | inl same ↦
          let is = (bytes_eq-Decides (path_text path) text).0 same in
          let at = subst (λ o. IsSomeAnd o (λ p. path_text p ≡ text)) (sym here) is in
          at_number text paths (set pips n new) n d are (set_size pips n new ∙ size) at
          ∙ ap (λ (v : Vec ℕ Global). v.items) (get_or-set_same pips n new d (omega (arith, less, size)))
          ∙ grown ∙ ap (λ ns. ns ++ number ∷ []) (sym (at_number text paths pips n d are size at))
          ∙ ap (λ ns. numbers_of text paths pips ++ ns) (sym (cond-true (bytes_eq (path_text path) text) (number ∷ []) [] same))
      | inr fails ↦
          let other = λ (e : path_text path ≡ text). false≢true (sym fails ∙ (bytes_eq-Decides (path_text path) text).1 e) in
          elsewhere text paths pips n new d size less other ∙ sym (append-nil (numbers_of text paths pips))
          ∙ ap (λ ns. numbers_of text paths pips ++ ns) (sym (cond-false (bytes_eq (path_text path) text) (number ∷ []) [] fails))
    ]
  where
    set_size : (xs : List (Vec ℕ Global)) (i : ℕ) (x : Vec ℕ Global) → length (set xs i x) ≡ length xs
    set_size [] i x = refl
    set_size (y ∷ ys) zero x = refl
    set_size (y ∷ ys) (suc i) x = ap suc (set_size ys i x)

-- ## A path more

pub path_added : (text : List ℕ) (paths : List Atoms) (pips : List (Vec ℕ Global)) (path : Atoms) (number : ℕ) (new : Vec ℕ Global)
    → AllByRecursion IsPath paths → IsPath path → (Contains paths path → ⊥) → length pips ≡ length paths → new.items ≡ number ∷ []
    → numbers_of text (paths ++ path ∷ []) (pips ++ new ∷ []) ≡ numbers_of text paths pips ++ number_at number text path
path_added text [] [] path number new are is none size only =
    ap (λ ns. if bytes_eq (path_text path) text then ns else []) only
path_added text [] (v ∷ vs) path number new are is none size only = absurd (omega (arith, size))
path_added text (q ∷ qs) [] path number new are is none size only = absurd (omega (arith, size))
path_added text (q ∷ qs) (v ∷ vs) path number new are is none size only = by_test (bytes_eq (path_text q) text) refl
    (path_added text qs vs path number new are.1 is (λ c. none (suc c.0, omega (arith, c.1), c.2)) (omega (arith, size)) only)
  where
    not_last : path_text q ≡ text → bytes_eq (path_text path) text ≡ false
    not_last e = unlike (path_text path) text (λ same. none (0, omega arith, same_from_text q path are.0 is (e ∙ sym same)))

    by_test : (b : Bool) → bytes_eq (path_text q) text ≡ b
        → numbers_of text (qs ++ path ∷ []) (vs ++ new ∷ []) ≡ numbers_of text qs vs ++ number_at number text path
        → cond b v.items (numbers_of text (qs ++ path ∷ []) (vs ++ new ∷ [])) ≡ cond b v.items (numbers_of text qs vs) ++ number_at number text path
    by_test true same rest =
        sym (append-nil v.items)
        ∙ ap (λ ns. v.items ++ ns) (sym (cond-false (bytes_eq (path_text path) text) (number ∷ []) []
        (not_last ((bytes_eq-Decides (path_text q) text).0 same))))
    by_test false fails rest = rest
