-- Lists of nodes, as they are in a program.
use Rattle.std.proofs.Common.{◌≡◌, ℕ, zero, suc, ◌+◌, ◌<◌, ◌≤◌, List, [], ◌∷◌, ◌++◌, get_or, length, map, take, refl, ap, sym, ◌∙◌, subst, arith}
use Rattle.std.proofs.lemmas.List.{length-map, map-append}
use Rattle.std.specs.List.{AllZip}

-- the last element, seen by a view
pub mapped_last
    : {X Y : Type 0} (f : X → Y) (left before : List X) (x : X) → left ≡ before ++ x ∷ []
    → map f left ≡ map f before ++ f x ∷ []
mapped_last f left before x e = ap (map f) e ∙ map-append f before (x ∷ [])

pub counted_last : {X Y : Type 0} (f : X → Y) (before : List X) → length before ≡ length (map f before)
counted_last f before = sym (length-map before f)

-- ## Place by place

zip_push
    : {A B : Type 0} (R : A → B → Type 0) (xs : List A) (ys : List B) (x : A) (y : B) → AllZip R xs ys → R x y
    → AllZip R (xs ++ x ∷ []) (ys ++ y ∷ [])
zip_push R [] [] x y h r = (r, tt)
zip_push R [] (b ∷ ys) x y h r = absurd h
zip_push R (a ∷ xs) [] x y h r = absurd h
zip_push R (a ∷ xs) (b ∷ ys) x y h r = (h.0, zip_push R xs ys x y h.1 r)

take_next
    : {X : Type 0} (xs : List X) (i : ℕ) (x : X) → i < length xs → x ≡ get_or xs i x
    → take (suc i) xs ≡ take i xs ++ x ∷ []
take_next [] i x l e = absurd (omega (arith, l))
take_next (y ∷ xs) zero x l e = ap (λ z. z ∷ []) (sym e)
take_next (y ∷ xs) (suc i) x l e = ap (λ zs. y ∷ zs) (take_next xs i x (omega (arith, l)) e)

next : (i : ℕ) → suc i ≡ i + 1
next i = omega arith

take_all : {X : Type 0} (xs : List X) (i : ℕ) → length xs ≤ i → take i xs ≡ xs
take_all [] i l = take_none i
  where
    take_none : {X : Type 0} (i : ℕ) → take {A = X} i [] ≡ []
    take_none zero = refl
    take_none (suc i) = refl
take_all (x ∷ xs) zero l = absurd (omega (arith, l))
take_all (x ∷ xs) (suc i) l = ap (λ ys. x ∷ ys) (take_all xs i (omega (arith, l)))

along
    : {A B : Type 0} (R : A → B → Type 0) (xs ys : List A) (bs cs : List B) → xs ≡ ys → bs ≡ cs → AllZip R xs bs
    → AllZip R ys cs
along {A = A} {B = B} R xs ys bs cs e g h = subst (λ (p : List B). AllZip R ys p) g (subst (λ (p : List A). AllZip R p bs) e h)

pub zipped_next
    : {X A B : Type 0} (R : A → B → Type 0) (f : X → A) (xs : List X) (i : ℕ) (x : X) (ys : List B) (y : B) (new : List B)
    → i < length xs → x ≡ get_or xs i x → new ≡ ys ++ y ∷ [] → R (f x) y → AllZip R (map f (take i xs)) ys
    → AllZip R (map f (take (i + 1) xs)) new
zipped_next R f xs i x ys y new l e made r h =
    let whole : map f (take i xs) ++ f x ∷ [] ≡ map f (take (i + 1) xs) =
    sym (ap (λ k. map f (take k xs)) (sym (next i)) ∙ ap (map f) (take_next xs i x l e) ∙ map-append f (take i xs) (x ∷ [])) in
    along R _ _ _ _ whole (sym made) (zip_push R (map f (take i xs)) ys (f x) y h r)

pub all_zipped
    : {X A B : Type 0} (R : A → B → Type 0) (f : X → A) (xs : List X) (i : ℕ) (ys : List B) → length xs ≤ i
    → AllZip R (map f (take i xs)) ys → AllZip R (map f xs) ys
all_zipped R f xs i ys l h = along R _ _ _ _ (ap (map f) (take_all xs i l)) refl h
