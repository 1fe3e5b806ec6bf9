-- A map from texts to bytes, and the finite map that it means.
use Rattle.std.proofs.Common.{◌≡◌, ℕ, Bool, true, false, cond, List, [], ◌∷◌, Option, Some, None, map, refl, sym, ap, subst, ◌∙◌, string_bytes, String, Vec, Bor, vec_len, ◌++◌, append_assoc, append-nil}
use Rattle.std.specs.Prelude.{option_map, option_copied, All, T, ◌&&◌}
use Rattle.std.specs.declared.alloc.Global.{Global}
use Rattle.std.specs.declared.cmp.Ordering.TheVariants.{Less}
use Rattle.std.specs.Ordering.{nat_cmp, is_eq, is_lt, eq_by_cmp}
use Rattle.std.specs.Cmp.{Equal-is}
use Rattle.std.specs.Cmp.Lexicographic.{slice_cmp, nat_list_cmp_total, nat_list_eq_equiv}
use Rattle.std.specs.Str.{bytes_eq}
use Rattle.std.specs.String.{string_cmp}
use Rattle.std.specs.List.{AllByRecursion, AllZip, each_same}
use Rattle.std.specs.List.Sorted.{IsStrictlySortedBy}
use Rattle.std.specs.Map.{lookup, keys_of}
use Rattle.std.specs.BTreeMap.{BTreeMap, is_at, UpdatesBy, IsOrdered}
use Rattle.std.specs.BTreeMap as tree
use Rattle.std.specs.FinMap.{find, get, insert, remove, keys, entries, from_entries, from_sorted, is_sorted, same_map, get-from_entries, get-from_sorted, entries-from_sorted, get-insert, get-remove, slice_cmp-IsAntisymmetric, nat_cmp-IsAntisymmetric}
use Rattle.std.specs.FinMap.Entries.{below_all}
use Rattle.std.proofs.lemmas.Map.Text.{text_cmp, btree_map_updates_text, is_eq-slice_cmp}
use Rattle.std.proofs.lemmas.List.{map-append}
use Rattle.std.proofs.lemmas.Map.Keys.{sorted_head, sorted_tail}
use Rattle.std.proofs.lemmas.List.Elements.{All-nil, All-cons, All-head, All-tail}
use Rattle.bx_io.specs.Names.{IsName}
use Rattle.bx_io.specs.Holdings.{Holdings, AreNames}
use Rattle.bx_io.specs.Stored.{contents, holdings_of, HoldsNames}

-- the bytes that are found are those of the stored vector
find-contents : (q : List ℕ) (es : List (String Global × Vec ℕ Global)) → find (slice_cmp nat_cmp) q (contents es) ≡ option_map (λ v. v.items) (lookup (is_at (text_cmp q)) es)
find-contents q [] = refl
find-contents q (e ∷ es) =
    elim (is_eq (slice_cmp nat_cmp q (string_bytes e.0)))
    as (λ b. cond b (Some e.1.items) (find (slice_cmp nat_cmp) q (contents es)) ≡ option_map (λ v. v.items) (cond b (Some e.1) (lookup (is_at (text_cmp q)) es)))
    [ true ↦ refl | false ↦ find-contents q es ]

pub get-holdings_of : (m : BTreeMap (String Global) (Vec ℕ Global)) (q : List ℕ) → get (holdings_of m) q ≡ option_map (λ v. v.items) (tree.get_by_text m q)
get-holdings_of m q = get-from_entries nat_list_cmp_total (contents m.entries) q ∙ find-contents q m.entries

-- the bytes of a borrowed vector
pub items_lent : (lent : Option (Bor (Vec ℕ Global))) → option_map (λ b. b.now.items) lent ≡ option_map (λ v. v.items) (option_copied lent)
items_lent None = refl
items_lent (Some b) = refl

-- two holdings that answer each path alike are equal
pub same_holdings : (m n : Holdings) → ((q : List ℕ) → get m q ≡ get n q) → m ≡ n
same_holdings = same_map nat_list_cmp_total (slice_cmp-IsAntisymmetric nat_cmp-IsAntisymmetric)

items_in_branch : (b : Bool) (w old : Option (Vec ℕ Global)) → option_map (λ v. v.items) (cond b w old) ≡ cond b (option_map (λ v. v.items) w) (option_map (λ v. v.items) old)
items_in_branch true w old = refl
items_in_branch false w old = refl

-- the two tests of a name, by their order and by their bytes
same_test : (q bs : List ℕ) → bytes_eq bs q ≡ eq_by_cmp (slice_cmp nat_cmp) q bs
same_test q bs = nat_list_eq_equiv.symm bs q ∙ sym (is_eq-slice_cmp q bs)

-- what is held at each name after a change at the bytes bs
held_after : (bs : List ℕ) (m n : BTreeMap (String Global) (Vec ℕ Global)) (w : Option (Vec ℕ Global)) → UpdatesBy string_cmp (λ k. slice_cmp nat_cmp bs (string_bytes k)) m n w
    → (q : List ℕ) → get (holdings_of n) q ≡ cond (eq_by_cmp (slice_cmp nat_cmp) q bs) (option_map (λ v. v.items) w) (get (holdings_of m) q)
held_after bs m n w updates q =
    get-holdings_of n q
    ∙ ap (option_map (λ v. v.items)) (btree_map_updates_text bs m n w updates q)
    ∙ items_in_branch (bytes_eq bs q) w (tree.get_by_text m q)
    ∙ ap (λ b. cond b (option_map (λ v. v.items) w) (option_map (λ v. v.items) (tree.get_by_text m q))) (same_test q bs)
    ∙ ap (cond (eq_by_cmp (slice_cmp nat_cmp) q bs) (option_map (λ v. v.items) w)) (sym (get-holdings_of m q))

pub holdings_put : (bs : List ℕ) (m n : BTreeMap (String Global) (Vec ℕ Global)) (v : Vec ℕ Global) → UpdatesBy string_cmp (λ k. slice_cmp nat_cmp bs (string_bytes k)) m n (Some v)
    → holdings_of n ≡ insert (holdings_of m) bs v.items
holdings_put bs m n v updates = same_holdings _ _ (λ q. held_after bs m n (Some v) updates q ∙ sym (get-insert nat_list_cmp_total (holdings_of m) bs v.items q))

pub holdings_drop : (bs : List ℕ) (m n : BTreeMap (String Global) (Vec ℕ Global)) → UpdatesBy string_cmp (λ k. slice_cmp nat_cmp bs (string_bytes k)) m n None
    → holdings_of n ≡ remove (holdings_of m) bs
holdings_drop bs m n updates = same_holdings _ _ (λ q. held_after bs m n None updates q ∙ sym (get-remove nat_list_cmp_total (holdings_of m) bs q))

-- the names in the order of the keys

both : (a b : Bool) → T a → T b → T (a && b)
both true b p q = q
both false b p q = p

below-contents : (k : String Global) (es : List (String Global × Vec ℕ Global)) → AllByRecursion (λ x. string_cmp k x ≡ Less) (keys_of es) → T (below_all (slice_cmp nat_cmp) (string_bytes k) (contents es))
below-contents k [] h = tt
below-contents k (e ∷ es) h = both _ _ (subst (λ r. T (is_lt r)) (sym h.0) tt) (below-contents k es h.1)

contents_sorted : (es : List (String Global × Vec ℕ Global)) → IsStrictlySortedBy string_cmp (keys_of es) → T (is_sorted (slice_cmp nat_cmp) (contents es))
contents_sorted [] h = tt
contents_sorted (e ∷ es) h = both _ _ (below-contents e.0 es (sorted_head string_cmp e.0 (keys_of es) h)) (contents_sorted es (sorted_tail string_cmp e.0 (keys_of es) h))

entries-from_entries : (es : List (List ℕ × List ℕ)) → T (is_sorted (slice_cmp nat_cmp) es) → entries (from_entries {R = slice_cmp nat_cmp} es) ≡ es
entries-from_entries es h =
    ap entries (same_holdings (from_entries es) (from_sorted es) (λ q. get-from_entries nat_list_cmp_total es q ∙ sym (get-from_sorted (slice_cmp nat_cmp) es q h)))
    ∙ entries-from_sorted (slice_cmp nat_cmp) es h

names-contents : (es : List (String Global × Vec ℕ Global)) → map (λ e. e.0) (contents es) ≡ map string_bytes (keys_of es)
names-contents [] = refl
names-contents (e ∷ es) = ap (λ names. string_bytes e.0 ∷ names) (names-contents es)

pub keys-holdings_of : (m : BTreeMap (String Global) (Vec ℕ Global)) → IsOrdered string_cmp m → keys (holdings_of m) ≡ map string_bytes (tree.keys m)
keys-holdings_of m ordered = ap (map (λ e. e.0)) (entries-from_entries (contents m.entries) (contents_sorted m.entries ordered)) ∙ names-contents m.entries

-- texts that rise have bytes that rise
below_by_bytes : (x : String Global) (xs : List (String Global)) → AllByRecursion (λ y. string_cmp x y ≡ Less) xs → AllByRecursion (λ y. slice_cmp nat_cmp (string_bytes x) y ≡ Less) (map string_bytes xs)
below_by_bytes x [] h = tt
below_by_bytes x (y ∷ ys) h = (h.0, below_by_bytes x ys h.1)

pub rising_by_bytes : (xs : List (String Global)) → IsStrictlySortedBy string_cmp xs → IsStrictlySortedBy (slice_cmp nat_cmp) (map string_bytes xs)
unfolding IsStrictlySortedBy
rising_by_bytes [] h = tt
rising_by_bytes (x ∷ xs) h = (below_by_bytes x xs h.0, rising_by_bytes xs h.1)

-- texts with the bytes of names are names
pub names_alike : (xs ys : List (String Global)) → map string_bytes xs ≡ map string_bytes ys → All (λ key. IsName (string_bytes key)) ys → All (λ key. IsName (string_bytes key)) xs
names_alike [] ys e h = All-nil (λ key. IsName (string_bytes key))
names_alike (x ∷ xs) [] e h = absurd (cc)
names_alike (x ∷ xs) (y ∷ ys) e h =
    let first : string_bytes y ≡ string_bytes x = cc in
    let rest : map string_bytes xs ≡ map string_bytes ys = cc in
    All-cons (λ key. IsName (string_bytes key)) x xs (subst IsName first (All-head (λ key. IsName (string_bytes key)) y ys h)) (names_alike xs ys rest (All-tail (λ key. IsName (string_bytes key)) y ys h))

-- a clone of the entries has their contents
pub contents_alike : (es fs : List (String Global × Vec ℕ Global)) → AllZip (λ p q. (string_bytes q.0 ≡ string_bytes p.0) × (AllZip (λ x y. y ≡ x) p.1.items q.1.items × (vec_len q.1 ≡ vec_len p.1))) es fs → contents fs ≡ contents es
contents_alike [] [] h = refl
contents_alike [] (f ∷ fs) h = absurd h
contents_alike (e ∷ es) [] h = absurd h
contents_alike (e ∷ es) (f ∷ fs) h =
    let name : string_bytes f.0 ≡ string_bytes e.0 = h.0.0 in
    let bytes : f.1.items ≡ e.1.items = each_same e.1.items f.1.items h.0.1.0 in
    let rest : contents fs ≡ contents es = contents_alike es fs h.1 in
    cc

pub names_alike_of_contents : (es fs : List (String Global × Vec ℕ Global)) → contents fs ≡ contents es → map string_bytes (keys_of fs) ≡ map string_bytes (keys_of es)
names_alike_of_contents es fs e = sym (names-contents fs) ∙ ap (map (λ p. p.0)) e ∙ names-contents es

-- one more name is listed, by a text with its bytes
pub listed_more : (old new rest before : List (String Global)) (name copy : String Global) (all : List (List ℕ))
    → new ≡ old ++ copy ∷ [] → string_bytes copy ≡ string_bytes name → before ≡ name ∷ rest
    → map string_bytes old ++ map string_bytes before ≡ all → map string_bytes new ++ map string_bytes rest ≡ all
listed_more old new rest before name copy all pushed same taken so_far =
    let here : map string_bytes new ≡ map string_bytes old ++ string_bytes name ∷ [] = rw (pushed, map-append, same) refl in
    rw (here, append_assoc) (subst (λ left. map string_bytes old ++ map string_bytes left ≡ all) taken so_far)

-- all names are listed
pub listed_all : (names rest start keys : List (String Global))
    → rest ≡ [] → start ≡ keys → map string_bytes names ++ map string_bytes rest ≡ map string_bytes start → map string_bytes names ≡ map string_bytes keys
listed_all names rest start keys none from so_far =
    sym (append-nil (map string_bytes names)) ∙ subst (λ left. map string_bytes names ++ map string_bytes left ≡ map string_bytes start) none so_far ∙ ap (map string_bytes) from

-- an entry that is asked for is under the name that is asked for
same_name : (q name : List ℕ) → is_eq (slice_cmp nat_cmp q name) ≡ true → IsName name → IsName q
same_name q name here named =
    subst IsName (sym (slice_cmp-IsAntisymmetric nat_cmp-IsAntisymmetric q name ((Equal-is (slice_cmp nat_cmp q name)).0 here))) named

-- what is found first or further on is found under a name
found_in : (b : Bool) (q name bytes first : List ℕ) (rest : Option (List ℕ)) → is_eq (slice_cmp nat_cmp q name) ≡ b → IsName name → (rest ≡ Some bytes → IsName q)
    → cond b (Some first) rest ≡ Some bytes → IsName q
found_in true q name bytes first rest here named further found = same_name q name here named
found_in false q name bytes first rest other named further found = further found

-- what is found among entries under names is found under a name
found_name : (q bytes : List ℕ) (es : List (String Global × Vec ℕ Global)) → All (λ key. IsName (string_bytes key)) (keys_of es) → find (slice_cmp nat_cmp) q (contents es) ≡ Some bytes → IsName q
found_name q bytes [] names found = absurd (cc)
found_name q bytes (e ∷ es) names found =
    found_in (is_eq (slice_cmp nat_cmp q (string_bytes e.0))) q (string_bytes e.0) bytes e.1.items (find (slice_cmp nat_cmp) q (contents es)) refl
    (All-head (λ key. IsName (string_bytes key)) e.0 (keys_of es) names)
    (found_name q bytes es (All-tail (λ key. IsName (string_bytes key)) e.0 (keys_of es) names)) found

pub held_names : (m : BTreeMap (String Global) (Vec ℕ Global)) → HoldsNames m → AreNames (holdings_of m)
held_names m names =
    record { each = λ q bytes found. found_name q bytes m.entries names (sym (get-from_entries nat_list_cmp_total (contents m.entries) q) ∙ found) }
