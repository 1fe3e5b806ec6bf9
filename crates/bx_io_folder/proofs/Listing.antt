-- What listings of a folder say of its files.
use Rattle.std.proofs.Common.{◌≡◌, ℕ, Bool, true, false, cond, List, [], ◌∷◌, ◌++◌, length, take, Some, None, map, refl, sym, ap, subst, ◌∙◌, arith, String, Vec, Global, string_bytes, T, Result, Ok, Err, OnErr, OnOk, inl, inr, eqb, eqb-true, ◌<◌, ◌≤◌, ◌+◌, get_or}
use Rattle.std.specs.Prelude.{◌||◌, ◌&&◌, All, is_some}
use Rattle.std.specs.List.{AllByRecursion, dedup, dedup_from, list_any}
use Rattle.std.specs.List.Sorted.{IsStrictlySortedBy}
use Rattle.std.specs.declared.cmp.Ordering.TheVariants.{Equal, Less}
use Rattle.std.specs.Ordering.{nat_cmp, is_lt, eq_by_cmp}
use Rattle.std.specs.Cmp.Lexicographic.{slice_cmp, nat_list_cmp_total}
use Rattle.std.specs.Str.{bytes_eq}
use Rattle.std.specs.String.{string_eq}
use Rattle.std.specs.IoError.{error_kind}
use Rattle.std.specs.declared.io.Error.{Error}
use Rattle.std.specs.declared.io.ErrorKind.TheVariants.{NotFound}
use Rattle.std.specs.FinMap.{entries, entries_sorted, find, get, is_sorted, keys, contains_key-keys, slice_cmp-IsAntisymmetric, nat_cmp-IsAntisymmetric}
use Rattle.std.specs.FinMap.Entries.{below_all, same_entries}
use Rattle.std.proofs.lemmas.Bool.{false≢true}
use Rattle.std.proofs.lemmas.List.{append_cancel_left, take_all}
use Rattle.std.proofs.lemmas.List.Elements.{All-nil, All-cons, All-head, All-tail}
use Rattle.std.proofs.lemmas.List.Folds.{list_any_more}
use Rattle.std.proofs.Math.Seq.{take-append_seam}
use Rattle.bx_io.specs.Holdings.{AreNames, Holdings}
use Rattle.bx_io.specs.Names.{IsKindLetter, IsLowerHexDigit, IsName}
use Rattle.bx_io_disk.specs.Events.{in_a_row}
use Rattle.bx_io_disk.specs.Files.{Files, IsPlain, ListsFiles, is_among, path_in}
use Rattle.bx_io_folder.specs.NamedFiles.{ListsHeld, has_file, is_below}
use Rattle.bx_io_disk.proofs.Listing.{never, or_false, same_bytes, among_is}

-- ## Tests

-- two tests that agree where one of them passes
alike_where : (P : Type 0) (a b : Bool) → (a ≡ true → P) → (b ≡ true → P) → (P → a ≡ b) → a ≡ b
alike_where P true b first second same = same (first refl)
alike_where P false true first second same = same (second refl)
alike_where P false false first second same = refl

or_same : (a b : Bool) → (a || b) ≡ (a || (a || b))
or_same true b = refl
or_same false b = refl

or_assoc : (a b c : Bool) → ((a || b) || c) ≡ (a || (b || c))
or_assoc true b c = refl
or_assoc false b c = refl

-- ## Texts one after another

pub same_row : (xs ys : List (List ℕ)) → in_a_row xs ≡ in_a_row ys → xs ≡ ys
same_row [] [] h = refl
same_row [] (y ∷ ys) h = absurd (cc)
same_row (x ∷ xs) [] h = absurd (cc)
same_row (x ∷ xs) (y ∷ ys) h =
    let count : length x ≡ length y = cc in
    let rest : x ++ in_a_row xs ≡ y ++ in_a_row ys = cc in
    let first : x ≡ y = sym (take-append_seam x (in_a_row xs)) ∙ ap (take (length x)) rest ∙ ap (λ n. take n (y ++ in_a_row ys)) count ∙ take-append_seam y (in_a_row ys) in
    let here : y ++ in_a_row xs ≡ y ++ in_a_row ys = subst (λ z. z ++ in_a_row xs ≡ y ++ in_a_row ys) first rest in
    let others : xs ≡ ys = same_row xs ys (append_cancel_left y (in_a_row xs) (in_a_row ys) here) in
    cc

-- ## Names among names

among_named : (q : List ℕ) (names : List (String Global)) → All (λ name. IsName (string_bytes name)) names → is_among q names ≡ true → IsName q
among_named q [] all h = absurd (false≢true h)
among_named q (x ∷ xs) all h =
    elim (bytes_eq q (string_bytes x)) as (λ b. bytes_eq q (string_bytes x) ≡ b → (b || is_among q xs) ≡ true → IsName q) [
      | true ↦ λ is _. subst IsName (sym (same_bytes q (string_bytes x) is)) (All-head (λ name. IsName (string_bytes name)) x xs all)
      | false ↦ λ _ rest. among_named q xs (All-tail (λ name. IsName (string_bytes name)) x xs all) rest
    ] refl h

-- a name is not what is no name
pub not_among : (q : List ℕ) (names : List (String Global)) (text : List ℕ) → IsName q → (IsName text → ⊥) → is_among q names ≡ (is_among q names || bytes_eq q text)
not_among q names text named other =
    sym (ap (λ b. is_among q names || b) (never (bytes_eq q text) (λ is. other (subst IsName (same_bytes q text is) named))) ∙ or_false (is_among q names))

-- ## In order, each once

module _ {X : Type 0} (E : X → X → Bool) (p : X → Bool) (same : (x y : X) → E x y ≡ true → p x ≡ p y) where
  any-dedup_from : (xs : List X) (k : X) → list_any p (dedup_from E k xs) ≡ (p k || list_any p xs)
  any-dedup_from [] k = refl
  any-dedup_from (x ∷ xs) k =
      elim (E x k) as (λ b. E x k ≡ b → list_any p (cond b (dedup_from E k xs) (k ∷ dedup_from E x xs)) ≡ (p k || (p x || list_any p xs))) [
        | true ↦ λ is. any-dedup_from xs k ∙ or_same (p k) (list_any p xs) ∙ ap (λ b. p k || (b || list_any p xs)) (sym (same x k is))
        | false ↦ λ _. ap (λ b. p k || b) (any-dedup_from xs x)
      ] refl

  any-dedup : (xs : List X) → list_any p (dedup E xs) ≡ list_any p xs
  any-dedup [] = refl
  any-dedup (x ∷ xs) = any-dedup_from xs x

pub among-dedup : (q : List ℕ) (names : List (String Global)) → is_among q (dedup string_eq names) ≡ is_among q names
among-dedup q names = any-dedup string_eq (λ (text : String Global). bytes_eq q (string_bytes text)) (λ x y is. ap (bytes_eq q) (same_bytes (string_bytes x) (string_bytes y) is)) names

-- ## Lists that rise, of the same names

abbrev paired : List (List ℕ) → List (List ℕ × List ℕ)
paired [] = []
paired (x ∷ xs) = (x, []) ∷ paired xs

names_paired : (xs : List (List ℕ)) → map (λ e. e.0) (paired xs) ≡ xs
names_paired [] = refl
names_paired (x ∷ xs) = ap (λ l. x ∷ l) (names_paired xs)

both : (a b : Bool) → T a → T b → T (a && b)
both true b p q = q
both false b p q = p

below_paired : (k : List ℕ) (xs : List (List ℕ)) → AllByRecursion (λ y. slice_cmp nat_cmp k y ≡ Less) xs → T (below_all (slice_cmp nat_cmp) k (paired xs))
below_paired k [] h = tt
below_paired k (x ∷ xs) h = both _ _ (subst (λ r. T (is_lt r)) (sym h.0) tt) (below_paired k xs h.1)

rising_paired : (xs : List (List ℕ)) → IsStrictlySortedBy (slice_cmp nat_cmp) xs → T (is_sorted (slice_cmp nat_cmp) (paired xs))
unfolding IsStrictlySortedBy
rising_paired [] h = tt
rising_paired (x ∷ xs) h = both _ _ (below_paired x xs h.0) (rising_paired xs h.1)

below_keys : (k : List ℕ) (es : List (List ℕ × List ℕ)) → below_all (slice_cmp nat_cmp) k (paired (map (λ e. e.0) es)) ≡ below_all (slice_cmp nat_cmp) k es
below_keys k [] = refl
below_keys k (e ∷ es) = ap (λ b. is_lt (slice_cmp nat_cmp k e.0) && b) (below_keys k es)

sorted_keys : (es : List (List ℕ × List ℕ)) → is_sorted (slice_cmp nat_cmp) (paired (map (λ e. e.0) es)) ≡ is_sorted (slice_cmp nat_cmp) es
sorted_keys [] = refl
sorted_keys (e ∷ es) = ap (λ b. b && is_sorted (slice_cmp nat_cmp) (paired (map (λ e. e.0) es))) (below_keys e.0 es) ∙ ap (λ b. below_all (slice_cmp nat_cmp) e.0 es && b) (sorted_keys es)

find_paired : (q : List ℕ) (xs : List (List ℕ)) → find (slice_cmp nat_cmp) q (paired xs) ≡ cond (list_any (eq_by_cmp (slice_cmp nat_cmp) q) xs) (Some []) None
find_paired q [] = refl
find_paired q (x ∷ xs) =
    elim (eq_by_cmp (slice_cmp nat_cmp) q x)
    as (λ b. cond b (Some []) (find (slice_cmp nat_cmp) q (paired xs)) ≡ cond (b || list_any (eq_by_cmp (slice_cmp nat_cmp) q) xs) (Some []) None)
    [ true ↦ refl | false ↦ find_paired q xs ]

equal_keys : (x y : List ℕ) → slice_cmp nat_cmp x y ≡ Equal → x ≡ y
equal_keys = slice_cmp-IsAntisymmetric nat_cmp-IsAntisymmetric

rising_alike : (xs : List (List ℕ)) (m : Holdings) → IsStrictlySortedBy (slice_cmp nat_cmp) xs → ((q : List ℕ) → list_any (eq_by_cmp (slice_cmp nat_cmp) q) xs ≡ is_some (get m q)) → xs ≡ keys m
rising_alike xs m rising same =
    let sorted : T (is_sorted (slice_cmp nat_cmp) (paired (keys m))) = subst T (sym (sorted_keys (entries m))) (entries_sorted m) in
    let pairs : paired xs ≡ paired (keys m) =
    same_entries (slice_cmp nat_cmp) nat_list_cmp_total equal_keys (paired xs) (paired (keys m)) (rising_paired xs rising) sorted
    (λ q. find_paired q xs ∙ ap (λ b. cond b (Some []) None) (same q ∙ contains_key-keys m q) ∙ sym (find_paired q (keys m))) in
    sym (names_paired xs) ∙ ap (map (λ (e : List ℕ × List ℕ). e.0)) pairs ∙ names_paired (keys m)

some_name : (held : Holdings) (q : List ℕ) → AreNames held → is_some (get held q) ≡ true → IsName q
some_name held q names is =
    elim (get held q) as (λ o. get held q ≡ o → is_some o ≡ true → IsName q) [
      | Some bytes ↦ λ found _. names.each q bytes found
      | None ↦ λ _ no. absurd (false≢true no)
    ] refl is

-- a listing of all files of names, where each of these is held as it is told, has the names that are told
pub lists_held : (held files : Holdings) (names : List (String Global)) → AreNames held → ((q : List ℕ) → IsName q → get held q ≡ get files q) → All (λ name. IsName (string_bytes name)) names
    → IsStrictlySortedBy (slice_cmp nat_cmp) (map string_bytes names) → ListsHeld files names → map string_bytes names ≡ keys held
lists_held held files names told agrees named rising lists =
    rising_alike (map string_bytes names) held rising
    (λ q. sym (among_is q names)
    ∙ alike_where (IsName q) (is_among q names) (is_some (get held q)) (among_named q names named) (some_name held q told) (λ n. lists q n ∙ ap is_some (sym (agrees q n))))

-- ## The folder of a kind

hex_plain : (c : ℕ) → IsLowerHexDigit c → c ≡ 47 → ⊥
hex_plain c (inl d) is = omega (arith, d.0)
hex_plain c (inr d) is = omega (arith, d.0)

plain_digits : (xs : List ℕ) → All IsLowerHexDigit xs → IsPlain xs
plain_digits [] h = All-nil (λ c. c ≡ 47 → ⊥)
plain_digits (x ∷ xs) h = All-cons (λ c. c ≡ 47 → ⊥) x xs (hex_plain x (All-head IsLowerHexDigit x xs h)) (plain_digits xs (All-tail IsLowerHexDigit x xs h))

-- a path in the folder of a kind
pub record Parts (q : List ℕ) : Type 0 where
  pub letter : ℕ
  pub digits : List ℕ
  pub is : q ≡ letter ∷ 47 ∷ digits
  pub kind : IsKindLetter letter
  pub plain : IsPlain digits

pub parts_of : (q : List ℕ) → IsName q → Parts q
parts_of [] named = absurd (omega (arith, named.count))
parts_of (c ∷ []) named = absurd (omega (arith, named.count))
parts_of (c ∷ s ∷ digits) named = record {
  letter = c;
  digits = digits;
  is = ap (λ (b : ℕ). c ∷ b ∷ digits) named.slash;
  kind = named.kind;
  plain = plain_digits digits named.digits;
}

single : (kind : List ℕ) → length kind ≡ 1 → (k : ℕ) × (kind ≡ k ∷ [])
single [] one = absurd (omega (arith, one))
single (k ∷ []) one = (k, refl)
single (k ∷ l ∷ rest) one = absurd (omega (arith, one))

and_false : (a : Bool) → (a && false) ≡ false
and_false true = refl
and_false false = refl

and_true : (a : Bool) → (a && true) ≡ a
and_true true = refl
and_true false = refl

and_or : (a b c : Bool) → ((a && b) || (a && c)) ≡ (a && (b || c))
and_or true b c = refl
and_or false b c = refl

below_is : (c k : ℕ) (digits : List ℕ) (files : List (String Global)) → is_below (k ∷ []) (c ∷ 47 ∷ digits) files ≡ (eqb c k && is_among digits files)
below_is c k digits [] = sym (and_false (eqb c k))
below_is c k digits (f ∷ fs) = ap (λ b. (eqb c k && bytes_eq digits (string_bytes f)) || b) (below_is c k digits fs) ∙ and_or (eqb c k) (bytes_eq digits (string_bytes f)) (is_among digits fs)

-- the file at the path in the folder is that of the name
file_at : (c k : ℕ) (digits : List ℕ) (files : Files) → (eqb c k && is_some (get files (k ∷ 47 ∷ digits))) ≡ has_file (k ∷ []) files (c ∷ 47 ∷ digits)
file_at c k digits files =
    elim (eqb c k) as (λ b. eqb c k ≡ b → (b && is_some (get files (k ∷ 47 ∷ digits))) ≡ ((b && true) && is_some (get files (c ∷ 47 ∷ digits)))) [
      | true ↦ λ is. ap (λ (x : ℕ). is_some (get files (x ∷ 47 ∷ digits))) (sym (eqb-true c k is))
      | false ↦ λ _. refl
    ] refl

below_held_at : (k : ℕ) (files : Files) (v : Vec (String Global) Global) (q : List ℕ) → ListsFiles files (k ∷ []) (Ok v) → Parts q → is_below (k ∷ []) q v.items ≡ has_file (k ∷ []) files q
below_held_at k files v q lists parts =
    subst (λ (p : List ℕ). is_below (k ∷ []) p v.items ≡ has_file (k ∷ []) files p) (sym parts.is)
    (below_is parts.letter k parts.digits v.items ∙ ap (λ b. eqb parts.letter k && b) (lists parts.digits parts.plain) ∙ file_at parts.letter k parts.digits files)

-- the paths among the files of the folder of a kind
pub below_held_parts : (kind : List ℕ) (files : Files) (v : Vec (String Global) Global) (q : List ℕ) → length kind ≡ 1 → ListsFiles files kind (Ok v) → Parts q → is_below kind q v.items ≡ has_file kind files q
below_held_parts kind files v q one lists parts =
    let k = single kind one in
    subst (λ (d : List ℕ). ListsFiles files d (Ok v) → is_below d q v.items ≡ has_file d files q) (sym k.1) (λ l. below_held_at k.0 files v q l parts) lists

-- the names among them
pub below_held : (kind : List ℕ) (files : Files) (v : Vec (String Global) Global) (q : List ℕ) → length kind ≡ 1 → ListsFiles files kind (Ok v) → IsName q → is_below kind q v.items ≡ has_file kind files q
below_held kind files v q one lists named = below_held_parts kind files v q one lists (parts_of q named)

none_held_at : (k : ℕ) (files : Files) (e : Error) (q : List ℕ) → ListsFiles files (k ∷ []) (Err e) → error_kind e ≡ NotFound → Parts q → has_file (k ∷ []) files q ≡ false
none_held_at k files e q lists missing parts =
    subst (λ (p : List ℕ). has_file (k ∷ []) files p ≡ false) (sym parts.is)
    (sym (file_at parts.letter k parts.digits files) ∙ ap (λ o. eqb parts.letter k && is_some o) (lists missing parts.digits parts.plain) ∙ and_false (eqb parts.letter k))

-- where the folder of a kind is not there it has no files,
pub none_held_parts : (kind : List ℕ) (files : Files) (e : Error) (q : List ℕ) → length kind ≡ 1 → ListsFiles files kind (Err e) → error_kind e ≡ NotFound → Parts q → has_file kind files q ≡ false
none_held_parts kind files e q one lists missing parts =
    let k = single kind one in
    subst (λ (d : List ℕ). ListsFiles files d (Err e) → has_file d files q ≡ false) (sym k.1) (λ l. none_held_at k.0 files e q l missing parts) lists

-- and so no names
pub none_held : (kind : List ℕ) (files : Files) (e : Error) (q : List ℕ) (b : Bool) → length kind ≡ 1 → ListsFiles files kind (Err e) → error_kind e ≡ NotFound → IsName q → b ≡ (b || has_file kind files q)
none_held kind files e q b one lists missing named =
    let none : has_file kind files q ≡ false = none_held_parts kind files e q one lists missing (parts_of q named) in
    sym (ap (λ h. b || h) none ∙ or_false b)

-- each name is in the folder of one of the three kinds
kinds_of : (files : Files) (c : ℕ) (digits : List ℕ) → IsKindLetter c
    → (((has_file (98 ∷ []) files (c ∷ 47 ∷ digits)) || has_file (101 ∷ []) files (c ∷ 47 ∷ digits)) || has_file (119 ∷ []) files (c ∷ 47 ∷ digits)) ≡ is_some (get files (c ∷ 47 ∷ digits))
kinds_of files c digits (inl b) =
    subst (λ (x : ℕ). (((has_file (98 ∷ []) files (x ∷ 47 ∷ digits)) || has_file (101 ∷ []) files (x ∷ 47 ∷ digits)) || has_file (119 ∷ []) files (x ∷ 47 ∷ digits)) ≡ is_some (get files (x ∷ 47 ∷ digits))) (sym b)
    (or_false _ ∙ or_false _)
kinds_of files c digits (inr (inl w)) =
    subst (λ (x : ℕ). (((has_file (98 ∷ []) files (x ∷ 47 ∷ digits)) || has_file (101 ∷ []) files (x ∷ 47 ∷ digits)) || has_file (119 ∷ []) files (x ∷ 47 ∷ digits)) ≡ is_some (get files (x ∷ 47 ∷ digits))) (sym w)
    refl
kinds_of files c digits (inr (inr e)) =
    subst (λ (x : ℕ). (((has_file (98 ∷ []) files (x ∷ 47 ∷ digits)) || has_file (101 ∷ []) files (x ∷ 47 ∷ digits)) || has_file (119 ∷ []) files (x ∷ 47 ∷ digits)) ≡ is_some (get files (x ∷ 47 ∷ digits))) (sym e)
    (or_false _)

pub all_kinds : (files : Files) (names : List (String Global)) (b e w : List (String Global)) → ((q : List ℕ) → IsName q → is_among q b ≡ has_file (98 ∷ []) files q)
    → ((q : List ℕ) → IsName q → is_among q e ≡ (is_among q b || has_file (101 ∷ []) files q)) → ((q : List ℕ) → IsName q → is_among q w ≡ (is_among q e || has_file (119 ∷ []) files q))
    → ((q : List ℕ) → is_among q names ≡ is_among q w) → ListsHeld files names
all_kinds files names b e w first second third same = λ q named.
    let parts = parts_of q named in
    let sum : is_among q names ≡ ((has_file (98 ∷ []) files q || has_file (101 ∷ []) files q) || has_file (119 ∷ []) files q) =
    same q ∙ third q named ∙ ap (λ x. x || has_file (119 ∷ []) files q) (second q named ∙ ap (λ x. x || has_file (101 ∷ []) files q) (first q named)) in
    sum ∙ subst (λ (p : List ℕ). ((has_file (98 ∷ []) files p || has_file (101 ∷ []) files p) || has_file (119 ∷ []) files p) ≡ is_some (get files p)) (sym parts.is) (kinds_of files parts.letter parts.digits parts.kind)

-- ## What was listed

pub on_ok : {X E : Type 0} (r : Result X E) (P Q : Type 0) → (P → Q) → OnOk r P → OnOk r Q
on_ok (Ok x) P Q f p = f p
on_ok (Err e) P Q f p = tt

pub on_err_anyway : {X E : Type 0} (r : Result X E) (P : Type 0) → P → OnErr r P
on_err_anyway (Ok x) P p = tt
on_err_anyway (Err e) P p = p

-- the names that are added are those of the files
pub added_held : (kind : List ℕ) (files : Files) (v : Vec (String Global) Global) (lent : List (String Global)) (old now : List (String Global)) → length kind ≡ 1 → ListsFiles files kind (Ok v)
    → lent ≡ v.items → ((q : List ℕ) → IsName q → is_among q now ≡ (is_among q old || is_below kind q lent)) → (q : List ℕ) → IsName q → is_among q now ≡ (is_among q old || has_file kind files q)
added_held kind files v lent old now one lists all added q named =
    added q named ∙ ap (λ (l : List (String Global)). is_among q old || is_below kind q l) all ∙ ap (λ b. is_among q old || b) (below_held kind files v q one lists named)

-- one more file was looked at
pub below_more : (kind q text : List ℕ) (files : List (String Global)) (i : ℕ) (file : String Global) (first mid now : Bool) → i < length files → file ≡ get_or files i file → text ≡ path_in kind (string_bytes file)
    → mid ≡ (first || is_below kind q (take i files)) → now ≡ (mid || bytes_eq q text) → now ≡ (first || is_below kind q (take (i + 1) files))
below_more kind q text files i file first mid now inside is path so_far step =
    let test : String Global → Bool = λ f. bytes_eq q (path_in kind (string_bytes f)) in
    let here : test (get_or files i file) ≡ bytes_eq q text = ap test (sym is) ∙ ap (bytes_eq q) (sym path) in
    step ∙ ap (λ b. b || bytes_eq q text) so_far ∙ or_assoc first (is_below kind q (take i files)) (bytes_eq q text)
    ∙ ap (λ b. first || b) (ap (λ b. is_below kind q (take i files) || b) (sym here) ∙ sym (list_any_more test files i file inside))

-- all files were looked at
pub below_all_files : (kind q : List ℕ) (files : List (String Global)) (i : ℕ) (first now : Bool) → length files ≤ i → now ≡ (first || is_below kind q (take i files)) → now ≡ (first || is_below kind q files)
below_all_files kind q files i first now past so_far = so_far ∙ ap (λ (l : List (String Global)). first || is_below kind q l) (take_all i files past)
