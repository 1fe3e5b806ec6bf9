-- The deepest directory above a path is found by steps up.
use Rattle.std.proofs.Common.{◌≡◌, ◌≢◌, ◌⊎◌, ◌<◌, ◌≤◌, ◌+◌, ℕ, Bool, true, false, List, [], ◌∷◌, ◌++◌, Option, Some, None, length, take, drop, refl, ap, sym, ◌∙◌, inl, inr, arith, append_assoc}
use Rattle.std.specs.Prelude.{◌&&◌}
use Rattle.std.proofs.lemmas.Bool.{cases_Bool, false≢true}
use Rattle.std.proofs.lemmas.List.{length-append, length-drop, length-take, take-append-drop}
use Rattle.bx_tree.specs.Paths.{Atoms, IsBelow}
use Rattle.bx_path.specs.Joining.{parent}
use Rattle.bx_tree.specs.Below.{is_below}
use Rattle.bx_tree.proofs.BelowPaths.{below_decides}
use Rattle.dscript_names_workspace.specs.PathSets.{IsDeepest}

-- each directory above the path that the test holds of is this one or above it
abbrev pub IsUpTo : (Atoms → Bool) → Atoms → Option Atoms → Type 0
IsUpTo test path None = (dir : Atoms) → test dir ≡ true → IsBelow path dir → ⊥
IsUpTo test path (Some next) =
    IsBelow path next × ((dir : Atoms) → test dir ≡ true → IsBelow path dir → (dir ≡ next) ⊎ IsBelow next dir)

-- ## Steps up

no_parent : (path dir : Atoms) → IsBelow path dir → parent path ≡ None → ⊥
no_parent [] [] b e = b.1 (sym b.2)
no_parent [] (d ∷ ds) b e = cc
no_parent (a ∷ rest) dir b e = cc

no_more : (rest : Atoms) → rest ≢ [] → length rest ≡ 0 → ⊥
no_more [] n e = n refl
no_more (a ∷ rest) n e = absurd (omega (arith, e))

pub below_longer : (path dir : Atoms) → IsBelow path dir → length dir < length path
below_longer path dir b =
    let sum = ap length b.2 ∙ length-append dir b.0 in
    let some : length b.0 ≢ 0 = no_more b.0 b.1 in
    omega (arith, sum, some)

last_left : (a : List ℕ) (rest : Atoms) → drop (length rest) (a ∷ rest) ≢ []
last_left a rest e =
    let n : length (drop (length rest) (a ∷ rest)) ≡ 0 = ap length e in
    omega (arith, n, length-drop (length rest) (a ∷ rest))

-- the parent is above its path
pub above_path : (path next : Atoms) → parent path ≡ Some next → IsBelow path next
above_path [] next e = cc
above_path (a ∷ rest) next e =
    let is : take (length rest) (a ∷ rest) ≡ next = cc in (
      drop (length rest) (a ∷ rest),
      last_left a rest,
      sym (take-append-drop (length rest) (a ∷ rest)) ∙ ap (λ d. d ++ drop (length rest) (a ∷ rest)) is,
    )

-- two directories above one path are one above the other
pub comparable : (path d e : Atoms) (r s : Atoms) → path ≡ d ++ r → path ≡ e ++ s → (d ≡ e) ⊎ (IsBelow d e ⊎ IsBelow e d)
comparable path [] [] r s h k = inl refl
comparable path [] (y ∷ e) r s h k = inr (inr (y ∷ e, (λ z. cc), refl))
comparable path (x ∷ d) [] r s h k = inr (inl (x ∷ d, (λ z. cc), refl))
comparable [] (x ∷ d) (y ∷ e) r s h k = cc
comparable (z ∷ path) (x ∷ d) (y ∷ e) r s h k =
    let heads : x ≡ y = cc in
    let tails : path ≡ d ++ r = cc in
    let tails' : path ≡ e ++ s = cc in
    elim (comparable path d e r s tails tails') [
      | inl same ↦ inl (ap (λ a. a ∷ d) heads ∙ ap (λ as'. y ∷ as') same)
      | inr apart ↦ elim apart [
        | inl below ↦ inr (inl (below.0, below.1, ap (λ a. a ∷ d) heads ∙ ap (λ as'. y ∷ as') below.2))
        | inr above ↦ inr (inr (above.0, above.1, ap (λ a. a ∷ e) (sym heads) ∙ ap (λ as'. x ∷ as') above.2))
      ]
    ]

same_or_below : (path dir next : Atoms) → length dir + 1 ≤ length path → length path ≡ length next + 1
    → (dir ≡ next) ⊎ (IsBelow dir next ⊎ IsBelow next dir) → (dir ≡ next) ⊎ IsBelow next dir
same_or_below path dir next l e (inl same) = inl same
same_or_below path dir next l e (inr (inl below)) = absurd (let m = below_longer dir next below in omega (arith, l, e, m))
same_or_below path dir next l e (inr (inr above)) = inr above

length-parent : (path next : Atoms) → parent path ≡ Some next → length path ≡ length next + 1
length-parent [] next e = cc
length-parent (a ∷ rest) next e =
    let is : take (length rest) (a ∷ rest) ≡ next = cc in
    omega (arith, ap length is, length-take (length rest) (a ∷ rest))

-- a directory above a path is the path's parent or above it
below_parent : (path dir next : Atoms) → parent path ≡ Some next → IsBelow path dir → (dir ≡ next) ⊎ IsBelow next dir
below_parent path dir next e b =
    let up = above_path path next e in
    same_or_below path dir next (let l = below_longer path dir b in omega (arith, l)) (length-parent path next e)
    (comparable path dir next b.0 up.0 b.2 up.2)

pub below_trans : (path dir top : Atoms) → IsBelow path dir → IsBelow dir top → IsBelow path top
below_trans path dir top b c = (
  c.0 ++ b.0,
  some_first c.0 b.0 c.1,
  b.2 ∙ ap (λ d. d ++ b.0) c.2 ∙ append_assoc top c.0 b.0,
)
  where
    some_first : (xs ys : Atoms) → xs ≢ [] → (xs ++ ys) ≢ []
    some_first [] ys n e = n refl
    some_first (x ∷ xs) ys n e = cc

-- ## The search

pub starts : (test : Atoms → Bool) (path : Atoms) (o : Option Atoms) → o ≡ parent path → IsUpTo test path o
starts test path None e = λ dir t b. no_parent path dir b (sym e)
starts test path (Some next) e = (above_path path next (sym e), λ dir t b. below_parent path dir next (sym e) b)

apart : (test : Atoms → Bool) (d dir : Atoms) → d ≡ dir → test d ≡ true → test dir ≡ false → ⊥
apart test d dir same t lacks = false≢true (sym lacks ∙ ap test (sym same) ∙ t)

pub goes_up : (test : Atoms → Bool) (path dir : Atoms) (o : Option Atoms) → IsUpTo test path (Some dir)
    → test dir ≡ false → o ≡ parent dir → IsUpTo test path o
goes_up test path dir None h lacks e = λ d t b. elim (h.1 d t b) [
  | inl same ↦ apart test d dir same t lacks
  | inr below ↦ no_parent dir d below (sym e)
]
goes_up test path dir (Some next) h lacks e = (
  below_trans path dir next h.0 (above_path dir next (sym e)),
  λ d t b. elim (h.1 d t b) [
    | inl same ↦ absurd (apart test d dir same t lacks)
    | inr below ↦ below_parent dir d next (sym e) below
  ],
)

not_above : (dir path : Atoms) → (IsBelow path dir → ⊥) → is_below path dir ≡ false
not_above dir path lacks = elim (cases_Bool (is_below path dir)) [
  | inl yes' ↦ absurd (lacks ((below_decides path dir).0 yes'))
  | inr none ↦ none
]

never_both : (a b : Bool) → (a ≡ true → b ≡ true → ⊥) → (a && b) ≡ false
never_both false b lacks = refl
never_both true false lacks = refl
never_both true true lacks = absurd (lacks refl refl)

pub found : (test : Atoms → Bool) (path dir : Atoms) → IsUpTo test path (Some dir) → test dir ≡ true
    → IsDeepest test path (Some dir)
found test path dir h t = (
  t,
  (below_decides path dir).1 h.0,
  λ d td. never_both (is_below d dir) (is_below path d) (λ a b.
      let deeper = (below_decides d dir).0 a in
      elim (h.1 d td ((below_decides path d).0 b)) [
        | inl same ↦ let l = below_longer d dir deeper in absurd (omega (arith, l, ap length same))
        | inr above ↦
            let l = below_longer d dir deeper in
            let m = below_longer dir d above in
            absurd (omega (arith, l, m))
      ]),
)

pub nowhere : (test : Atoms → Bool) (path : Atoms) → IsUpTo test path None → IsDeepest test path None
nowhere test path h = λ dir t. not_above dir path (h dir t)
