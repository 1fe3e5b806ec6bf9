-- Lists that are the same place by place.
use Rattle.std.proofs.Common.{◌≡◌, ℕ, ◌+◌, ◌<◌, ◌≤◌, List, length, map, get_or, take, ap, sym, ◌∙◌, arith}
use Rattle.std.proofs.lemmas.List.{get_or-map, get_or_default, length-map, take-map, take_all, take_more_same}

-- ## One list and another

pub same_here : {X : Type 0} → (xs ys : List X) (i : ℕ) (x y : X) → i < length ys → x ≡ get_or xs i x → y ≡ get_or ys i y → xs ≡ ys → x ≡ y
same_here xs ys i x y l is_x is_y same =
    is_x ∙ ap (λ zs. get_or zs i x) same ∙ get_or_default ys i x y l ∙ sym is_y

pub same_more : {X : Type 0} → (xs ys : List X) (i : ℕ) (x y : X) → i < length xs → i < length ys → x ≡ get_or xs i x → y ≡ get_or ys i y
    → take i xs ≡ take i ys → x ≡ y → take (i + 1) xs ≡ take (i + 1) ys
same_more xs ys i x y l l' is_x is_y before here =
    take_more_same xs ys i x l l' before (sym is_x ∙ here ∙ is_y ∙ get_or_default ys i y x l')

pub same_all : {X : Type 0} → (xs ys : List X) (i : ℕ) → length xs ≡ length ys → length xs ≤ i → take i xs ≡ take i ys → xs ≡ ys
same_all xs ys i size past before =
    sym (take_all i xs past) ∙ before ∙ take_all i ys (omega (arith, size, past))

-- ## By what is seen of their items

module _ {X Y Z : Type 0} (f : X → Z) (g : Y → Z) (xs : List X) (ys : List Y) where
  pub one_size : map f xs ≡ map g ys → length xs ≡ length ys
  one_size same = sym (length-map xs f) ∙ ap length same ∙ length-map ys g

  pub seen_here : (i : ℕ) (x : X) (y : Y) → i < length xs → i < length ys → x ≡ get_or xs i x → y ≡ get_or ys i y → map f xs ≡ map g ys → f x ≡ g y
  seen_here i x y l l' is_x is_y same =
      ap f is_x ∙ sym (get_or-map f xs i x (f x) l) ∙ ap (λ zs. get_or zs i (f x)) same ∙ get_or-map g ys i y (f x) l' ∙ sym (ap g is_y)

  pub seen_more : (i : ℕ) (x : X) (y : Y) → i < length xs → i < length ys → x ≡ get_or xs i x → y ≡ get_or ys i y
      → map f (take i xs) ≡ map g (take i ys) → f x ≡ g y → map f (take (i + 1) xs) ≡ map g (take (i + 1) ys)
  seen_more i x y l l' is_x is_y before here =
      let front : take i (map f xs) ≡ take i (map g ys) = take-map f i xs ∙ before ∙ sym (take-map g i ys) in
      let item : get_or (map f xs) i (f x) ≡ get_or (map g ys) i (f x) =
      get_or-map f xs i x (f x) l ∙ sym (ap f is_x) ∙ here ∙ ap g is_y ∙ sym (get_or-map g ys i y (f x) l') in
      sym (take-map f (i + 1) xs)
      ∙ take_more_same (map f xs) (map g ys) i (f x) (omega (arith, l, length-map xs f)) (omega (arith, l', length-map ys g)) front item
      ∙ take-map g (i + 1) ys

  pub seen_all : (i : ℕ) → length xs ≡ length ys → length xs ≤ i → map f (take i xs) ≡ map g (take i ys) → map f xs ≡ map g ys
  seen_all i size past before =
      ap (map f) (sym (take_all i xs past)) ∙ before ∙ ap (map g) (take_all i ys (omega (arith, size, past)))
