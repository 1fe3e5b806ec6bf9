-- A fold over the first elements of a list, with one more.
use Rattle.std.proofs.Common.{◌≡◌, ℕ, ◌<◌, ◌+◌, List, [], ◌∷◌, ◌++◌, length, take, get_or, fold, sym, ap, ◌∙◌}
use Rattle.std.proofs.lemmas.List.{take_more}
use Rattle.std.proofs.lemmas.List.Sums.{fold-append}

pub fold_more : {A B : Type 0} (f : B → A → B) (b : B) (xs : List A) (i : ℕ) (x : A)
    → i < length xs → x ≡ get_or xs i x
    → fold f b (take (i + 1) xs) ≡ f (fold f b (take i xs)) x
fold_more f b xs i x l e =
    ap (fold f b) (take_more xs i x l ∙ ap (λ y. take i xs ++ y ∷ []) (sym e)) ∙ fold-append f b (take i xs) (x ∷ [])
