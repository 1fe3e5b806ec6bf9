-- Lists of which each item is decided by what a store holds.
use Rattle.std.proofs.Common.{◌≡◌, ℕ, zero, suc, ◌+◌, ◌<◌, ◌≤◌, true, false, List, [], ◌∷◌, ◌++◌, length, get_or, take, Option, Some, refl, sym, ap, ◌∙◌, subst, arith, true≢false}
use Rattle.std.specs.List.{AllByRecursion}
use Rattle.std.proofs.lemmas.List.{take_all, take_more}
use Rattle.bx_io.specs.Holdings.{Holdings}
use Rattle.bx_io.specs.Told.{Stays}
use Rattle.bx_tree.proofs.Lists.{all_push}
use Rattle.graph_memo.specs.Finding.{Decides}

-- the property holds of the items up to a place, in what is told to be held
abbrev pub HoldsOfFirst : {X : Type 0} → (Holdings → X → Type 0) → Option Holdings → List X → ℕ → Type 0
HoldsOfFirst P told xs i = (G : Holdings) → told ≡ Some G → AllByRecursion (P G) (take i xs)

pub none_yet : {X : Type 0} (P : Holdings → X → Type 0) (told : Option Holdings) (xs : List X) → HoldsOfFirst P told xs 0
none_yet P told xs = λ G is. tt

-- it holds of the next one too
pub one_more : {X : Type 0} (P : Holdings → X → Type 0) (before now : Option Holdings) (xs : List X) (i : ℕ) (x : X) → i < length xs → x ≡ get_or xs i x
    → Stays before now → HoldsOfFirst P before xs i → Decides now (λ G. P G x) true → HoldsOfFirst P now xs (i + 1)
one_more P before now xs i x l is stays first decides = λ G told.
    subst (AllByRecursion (P G)) (sym (take_more xs i x l ∙ ap (λ y. take i xs ++ y ∷ []) (sym is)))
    (all_push (P G) (take i xs) x (first G (stays G told)) ((decides G told).0 refl))

-- it does not hold of the next one, and so not of all
pub not_all : {X : Type 0} (P : Holdings → X → Type 0) (now : Option Holdings) (xs : List X) (i : ℕ) (x : X) → i < length xs → x ≡ get_or xs i x
    → Decides now (λ G. P G x) false → Decides now (λ G. AllByRecursion (P G) xs) false
not_all P now xs i x l is decides = λ G told. (
  λ no. absurd (true≢false (sym no)),
  λ all. absurd (true≢false (sym ((decides G told).1 (at_place (P G) xs i x l is all)))),
)
  where
    at_place : {X : Type 0} (Q : X → Type 0) (xs : List X) (i : ℕ) (x : X) → i < length xs → x ≡ get_or xs i x → AllByRecursion Q xs → Q x
    at_place Q [] i x l is all = absurd (omega (arith, l))
    at_place Q (y ∷ ys) zero x l is all = subst Q (sym is) all.0
    at_place Q (y ∷ ys) (suc i) x l is all = at_place Q ys i x (omega (arith, l)) is all.1

-- it holds of all
pub of_all : {X : Type 0} (P : Holdings → X → Type 0) (now : Option Holdings) (xs : List X) (i : ℕ) → length xs ≤ i → HoldsOfFirst P now xs i
    → Decides now (λ G. AllByRecursion (P G) xs) true
of_all P now xs i l first = λ G told. (λ yes. subst (AllByRecursion (P G)) (take_all i xs l) (first G told), λ all. refl)
