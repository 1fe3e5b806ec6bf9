-- What a listing of a map in memory says of its files.
use Rattle.std.proofs.Common.{◌≡◌, ℕ, Bool, true, false, List, [], ◌∷◌, ◌++◌, map, refl, sym, ap, ◌∙◌, String, Vec, Global, string_bytes}
use Rattle.std.specs.Prelude.{◌||◌, is_some}
use Rattle.std.specs.List.{list_any}
use Rattle.std.specs.Ordering.{nat_cmp, eq_by_cmp}
use Rattle.std.specs.Cmp.Lexicographic.{slice_cmp}
use Rattle.std.specs.Str.{bytes_eq}
use Rattle.std.specs.String.{string_cmp}
use Rattle.std.specs.FinMap.{get, keys, contains_key-keys}
use Rattle.std.specs.BTreeMap.{BTreeMap, IsOrdered}
use Rattle.std.specs.BTreeMap as tree
use Rattle.std.proofs.lemmas.List.{append_cancel_left}
use Rattle.std.proofs.lemmas.List.Folds.{list_any-append}
use Rattle.std.proofs.lemmas.Map.Text.{is_eq-slice_cmp}
use Rattle.std.proofs.lemmas.Slice.Eq.{bytes_eq-Decides}
use Rattle.bx_io.proofs.Mapped.{keys-holdings_of}
use Rattle.bx_io.specs.Stored.{holdings_of}
use Rattle.bx_io_disk.specs.Files.{is_among}

-- ## Tests

alike : (a b : Bool) → (a ≡ true → b ≡ true) → (b ≡ true → a ≡ true) → a ≡ b
alike true b there back = sym (there refl)
alike false true there back = back refl
alike false false there back = refl

pub never : (b : Bool) → (b ≡ true → ⊥) → b ≡ false
never true not = absurd (not refl)
never false not = refl

pub or_false : (b : Bool) → (b || false) ≡ b
or_false true = refl
or_false false = refl

pub below_none : (b : Bool) → b ≡ (b || false)
below_none b = sym (or_false b)

pub same_bytes : (xs ys : List ℕ) → bytes_eq xs ys ≡ true → xs ≡ ys
same_bytes xs ys = (bytes_eq-Decides xs ys).0

pub are_same : (xs ys : List ℕ) → xs ≡ ys → bytes_eq xs ys ≡ true
are_same xs ys = (bytes_eq-Decides xs ys).1

-- ## Names among names

-- by the order of bytes
pub among_is : (q : List ℕ) (names : List (String Global)) → is_among q names ≡ list_any (eq_by_cmp (slice_cmp nat_cmp) q) (map string_bytes names)
among_is q [] = refl
among_is q (x ∷ xs) = ap (λ b. b || is_among q xs) (sym (is_eq-slice_cmp q (string_bytes x))) ∙ ap (λ b. eq_by_cmp (slice_cmp nat_cmp) q (string_bytes x) || b) (among_is q xs)

pub among_push : (q : List ℕ) (names : List (String Global)) (name : String Global) → is_among q (names ++ name ∷ []) ≡ (is_among q names || bytes_eq q (string_bytes name))
among_push q names name =
    list_any-append (λ (text : String Global). bytes_eq q (string_bytes text)) names (name ∷ []) ∙ ap (λ b. is_among q names || b) (or_false (bytes_eq q (string_bytes name)))

-- ## A map in memory

pub held_keys : (m : BTreeMap (String Global) (Vec ℕ Global)) (q : List ℕ) → IsOrdered string_cmp m → list_any (λ (key : String Global). bytes_eq q (string_bytes key)) (tree.keys m) ≡ is_some (get (holdings_of m) q)
held_keys m q ordered =
    among_is q (tree.keys m) ∙ sym (contains_key-keys (holdings_of m) q ∙ ap (list_any (eq_by_cmp (slice_cmp nat_cmp) q)) (keys-holdings_of m ordered))

pub path_behind : (inside q path rest : List ℕ) → path ≡ inside ++ rest → bytes_eq (inside ++ q) path ≡ bytes_eq q rest
path_behind inside q path rest is =
    alike (bytes_eq (inside ++ q) path) (bytes_eq q rest)
    (λ here. are_same q rest (append_cancel_left inside q rest (same_bytes (inside ++ q) path here ∙ is)))
    (λ here. are_same (inside ++ q) path (ap (λ r. inside ++ r) (same_bytes q rest here) ∙ sym is))

pub path_elsewhere : (inside q path : List ℕ) (b : Bool) → ((rest : List ℕ) → path ≡ inside ++ rest → ⊥) → b ≡ (b || bytes_eq (inside ++ q) path)
path_elsewhere inside q path b not =
    sym (ap (λ x. b || x) (never (bytes_eq (inside ++ q) path) (λ here. not q (sym (same_bytes (inside ++ q) path here)))) ∙ or_false b)

-- all files of a map were looked at
pub listed_below : (m : BTreeMap (String Global) (Vec ℕ Global)) (names iterated start : List (String Global)) (inside path q : List ℕ) → IsOrdered string_cmp m → iterated ≡ [] → start ≡ tree.keys m
    → inside ++ q ≡ path → (is_among q names || is_among (inside ++ q) iterated) ≡ is_among (inside ++ q) start → is_among q names ≡ is_some (get (holdings_of m) path)
listed_below m names iterated start inside path q ordered none from at so_far =
    below_none (is_among q names)
    ∙ ap (λ (l : List (String Global)). is_among q names || is_among (inside ++ q) l) (sym none)
    ∙ so_far
    ∙ ap (is_among (inside ++ q)) from
    ∙ held_keys m (inside ++ q) ordered
    ∙ ap (λ (p : List ℕ). is_some (get (holdings_of m) p)) at
