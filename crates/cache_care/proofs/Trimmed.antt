-- A trim leaves the trimmed store, and an honest store is honest after each of its changes.
use Rattle.std.proofs.Common.{◌≡◌, ◌⊎◌, ℕ, zero, suc, ltb-false, Bool, true, false, cond, not, nat_lt, List, [], ◌∷◌, ◌++◌, codes, filter, flat_map, length, map, take, is_some, Option, Some, None, refl, sym, ap, subst, ◌∙◌, inl, inr}
use Rattle.std.specs.FinMap.{get, get-remove, insert, keys, remove}
use Rattle.std.specs.List.{AllByRecursion, list_any}
use Rattle.std.specs.Ordering.{eq_by_cmp, nat_cmp}
use Rattle.std.specs.Cmp.Lexicographic.{nat_list_cmp_total, slice_cmp}
use Rattle.std.specs.Str.{bytes_eq}
use Rattle.std.proofs.lemmas.Slice.Eq.{bytes_eq-Decides}
use Rattle.std.proofs.lemmas.List.{append-nil, take_all}
use Rattle.sha2.specs.Sha256.{sha256}
use Rattle.bx_tree.specs.Members.{Has}
use Rattle.bx_tree.proofs.Members.{all_has, from_map, has_back, has_either, has_filter, has_front, has_map, one_passes}
use Rattle.bx_io.specs.Holdings.{Change, Drop, Holdings, IsPrefix, Put, changed, holdings_after, name_of}
use Rattle.observed.specs.Texts.{after_prefix}
use Rattle.observed.proofs.ReadTexts.{prefix_sound}
use Rattle.prints.specs.Lines.{begins}
use Rattle.prints.specs.Reading.{◌>>=◌}
use Rattle.memo_format.specs.Selectors.{read_selectors_text, selectors_text}
use Rattle.memo_format.specs.StoreNames.{HoldsBlob, HoldsEntry, at_blob, at_entry}
use Rattle.memo_format.specs.declared.entry.Entry.{Entry}
use Rattle.memo_format.specs.declared.selector.Selector.{Selector}
use Rattle.memo_format.proofs.FormTexts.{selectors_sound}
use Rattle.two_phase_meaning.specs.Honest.{Honest, HonestEntry}
use Rattle.two_phase_meaning.specs.Saving.{or_none, selectors_in}
use Rattle.two_phase_meaning.proofs.Puts.{Grows, same_name, still_honest, there_now}
use Rattle.cache_care_check.proofs.Told.{held_name}
use Rattle.cache_care.specs.Naming.{named_at, named_at_entry, named_by}
use Rattle.cache_care.specs.Trimmed.{IsTrimmed}
use Rattle.cache_care.specs.Trimming.{blob_names, cut_to, entry_names, is_named, is_selected, list_change, list_changes, list_names, named_digests, read_at, trims}
use Rattle.cache_care.proofs.Dropping.{PutsNone, after_other, after_others, drop_of, dropped_after, has_in_whole, name_itself, none_after, there_before}
use Rattle.cache_care.proofs.Named.{entry_is, named_honest}

-- ## Members

from_filter : {X : Type 0} (p : X → Bool) (xs : List X) (x : X) → Has (filter p xs) x → Has xs x × (p x ≡ true)
from_filter p [] x h = absurd h
from_filter p (y ∷ xs) x h = by_first (p y) refl (from_filter p xs x) h
  where
    by_first : (b : Bool) → p y ≡ b → (Has (filter p xs) x → Has xs x × (p x ≡ true)) → Has (cond b (y ∷ filter p xs) (filter p xs)) x
        → Has (y ∷ xs) x × (p x ≡ true)
    by_first true e later k = elim k [
      | inl same ↦ (inl same, ap p (sym same) ∙ e)
      | inr more ↦ (inr (later more).0, (later more).1)
    ]
    by_first false e later k = (inr (later k).0, (later k).1)

from_flat : {X Y : Type 0} (f : X → List Y) (xs : List X) (y : Y) → Has (flat_map f xs) y → (x : X) × Has xs x × Has (f x) y
from_flat f [] y h = absurd h
from_flat f (x ∷ xs) y h = elim (has_either (f x) (flat_map f xs) y h) [
  | inl here ↦ (x, inl refl, here)
  | inr more ↦ let rest = from_flat f xs y more in (rest.0, inr rest.1, rest.2)
]

has_flat : {X Y : Type 0} (f : X → List Y) (xs : List X) (x : X) (y : Y) → Has xs x → Has (f x) y → Has (flat_map f xs) y
has_flat f [] x y h k = absurd h
has_flat f (z ∷ xs) x y h k = elim h [
  | inl e ↦ has_front (f z) (flat_map f xs) y (subst (λ w. Has (f w) y) (sym e) k)
  | inr more ↦ has_back (f z) (flat_map f xs) y (has_flat f xs x y more k)
]

not_true : (b : Bool) → not b ≡ true → b ≡ false
not_true true e = let never : false ≡ true = e in absurd cc
not_true false e = refl

true_not : (b : Bool) → b ≡ false → not b ≡ true
true_not b e = ap not e

never_both : (b : Bool) → b ≡ true → b ≡ false → ⊥
never_both b h k = let both : true ≡ false = sym h ∙ k in absurd cc

-- ## Kinds of names

begins_is : (word text : List ℕ) → begins word text ≡ true → (rest : List ℕ) × (text ≡ word ++ rest)
begins_is word text e = by_prefix (after_prefix word text) refl e
  where
    by_prefix : (o : Option (List ℕ)) → after_prefix word text ≡ o → is_some o ≡ true → (rest : List ℕ) × (text ≡ word ++ rest)
    by_prefix None is h = let never : false ≡ true = h in absurd cc
    by_prefix (Some rest) is h = (rest, prefix_sound word text rest is)

apart : (a b q : List ℕ) → ((rest : List ℕ) → begins b (a ++ rest) ≡ false) → begins a q ≡ true → begins b q ≡ true → ⊥
apart a b q differ h k =
    let is = begins_is a q h in
    never_both (begins b q) k (ap (begins b) is.1 ∙ differ is.0)

pub entry_or_list : (q : List ℕ) → begins (codes "e/") q ≡ true → begins (codes "w/") q ≡ true → ⊥
entry_or_list q = apart (codes "e/") (codes "w/") q (λ rest. refl)

pub entry_or_blob : (q : List ℕ) → begins (codes "e/") q ≡ true → begins (codes "b/") q ≡ true → ⊥
entry_or_blob q = apart (codes "e/") (codes "b/") q (λ rest. refl)

pub list_or_blob : (q : List ℕ) → begins (codes "w/") q ≡ true → begins (codes "b/") q ≡ true → ⊥
list_or_blob q = apart (codes "w/") (codes "b/") q (λ rest. refl)

is_entry_name : (digest : List ℕ) → begins (codes "e/") (at_entry digest) ≡ true
is_entry_name digest = refl

is_blob_name : (digest : List ℕ) → begins (codes "b/") (at_blob digest) ≡ true
is_blob_name digest = refl

-- ## Lists

cut_name : (keep : ℕ) (name : List ℕ) (list cut : List Selector) (c : Change) → Has (cut_to keep name list cut) c → name ≡ name_of c
cut_name keep name list [] c h = elim h [ inl e ↦ ap name_of e | inr k ↦ absurd k ]
cut_name keep name list (s ∷ rest) c h = by_cut (nat_lt keep (length list)) h
  where
    by_cut : (b : Bool) → Has (cond b (Put name (selectors_text (s ∷ rest)) ∷ []) []) c → name ≡ name_of c
    by_cut true k = elim k [ inl e ↦ ap name_of e | inr never ↦ absurd never ]
    by_cut false k = absurd k

change_name : (keep : ℕ) (name : List ℕ) (o : Option (List Selector)) (c : Change) → Has (list_change keep name o) c → name ≡ name_of c
change_name keep name None c h = elim h [ inl e ↦ ap name_of e | inr k ↦ absurd k ]
change_name keep name (Some list) c h = cut_name keep name list (take keep list) c h

pub take_none : (n : ℕ) (list : List Selector) → list ≡ [] → take n list ≡ []
take_none zero list e = refl
take_none (suc n) [] e = refl
take_none (suc n) (s ∷ rest) e = absurd cc

-- ## Changes of a trim

-- What a change of a trim is: it drops an entry that is not selected, is of a list, or drops a content that is not named.
pub record IsEntryDrop (S : Holdings) (keep : ℕ) (c : Change) : Type 0 where
  pub kind : begins (codes "e/") (name_of c) ≡ true
  pub free : is_selected S keep (name_of c) ≡ false
  pub drop : Drop (name_of c) ≡ c

pub record IsListChange (S : Holdings) (keep : ℕ) (c : Change) : Type 0 where
  pub kind : begins (codes "w/") (name_of c) ≡ true
  pub change : Has (list_change keep (name_of c) (read_at S (name_of c))) c

pub record IsBlobDrop (S : Holdings) (keep : ℕ) (c : Change) : Type 0 where
  pub kind : begins (codes "b/") (name_of c) ≡ true
  pub free : is_named S keep (name_of c) ≡ false
  pub drop : Drop (name_of c) ≡ c

abbrev IsTrimChange : Holdings → ℕ → Change → Type 0
IsTrimChange S keep c = IsEntryDrop S keep c ⊎ (IsListChange S keep c ⊎ IsBlobDrop S keep c)

module _ (S : Holdings) (keep : ℕ) where
  abbrev unselected : List (List ℕ)
  unselected = filter (λ name. not (is_selected S keep name)) (entry_names S)

  abbrev unnamed : List (List ℕ)
  unnamed = filter (λ name. not (is_named S keep name)) (blob_names S)

  drop_itself : (names : List (List ℕ)) (c : Change) → Has (map Drop names) c → Drop (name_of c) ≡ c
  drop_itself names c h = let is = from_map Drop names c h in ap (λ (d : Change). Drop (name_of d)) (sym is.2) ∙ is.2

  entry_drop : (c : Change) → Has (map Drop unselected) c → IsEntryDrop S keep c
  entry_drop c h =
      let chosen = from_filter (λ name. not (is_selected S keep name)) (entry_names S) (name_of c) (drop_of unselected c h) in
      let held = from_filter (begins (codes "e/")) (keys S) (name_of c) chosen.0 in
      record { kind = held.1; free = not_true (is_selected S keep (name_of c)) chosen.1; drop = drop_itself unselected c h }

  blob_drop : (c : Change) → Has (map Drop unnamed) c → IsBlobDrop S keep c
  blob_drop c h =
      let chosen = from_filter (λ name. not (is_named S keep name)) (blob_names S) (name_of c) (drop_of unnamed c h) in
      let held = from_filter (begins (codes "b/")) (keys S) (name_of c) chosen.0 in
      record { kind = held.1; free = not_true (is_named S keep (name_of c)) chosen.1; drop = drop_itself unnamed c h }

  list_made : (c : Change) → Has (list_changes S keep) c → IsListChange S keep c
  list_made c h =
      let from = from_flat (λ name. list_change keep name (read_at S name)) (list_names S) c h in
      let is : from.0 ≡ name_of c = change_name keep from.0 (read_at S from.0) c from.2 in
      let held = from_filter (begins (codes "w/")) (keys S) from.0 from.1 in
      record {
        kind = ap (begins (codes "w/")) (sym is) ∙ held.1;
        change = subst (λ (q : List ℕ). Has (list_change keep q (read_at S q)) c) is from.2;
      }

  trim_change : (c : Change) → Has (trims S keep) c → IsTrimChange S keep c
  trim_change c h = elim (has_either (map Drop unselected) (list_changes S keep ++ map Drop unnamed) c h) [
    | inl e ↦ inl (entry_drop c e)
    | inr more ↦ elim (has_either (list_changes S keep) (map Drop unnamed) c more) [
      | inl l ↦ inr (inl (list_made c l))
      | inr b ↦ inr (inr (blob_drop c b))
    ]
  ]

  -- only names of lists are put
  puts_none : (q : List ℕ) → (begins (codes "w/") q ≡ true → ⊥) → (c : Change) → IsTrimChange S keep c → PutsNone q c
  puts_none q other (Drop name) is = tt
  puts_none q other (Put name bytes) is = elim is [
    | inl e ↦ let never : Drop name ≡ Put name bytes = e.drop in absurd cc
    | inr more ↦ elim more [
      | inl l ↦ λ same. other (ap (begins (codes "w/")) same ∙ l.kind)
      | inr b ↦ let never : Drop name ≡ Put name bytes = b.drop in absurd cc
    ]
  ]

  all_put_none : (q : List ℕ) (made : List Change) → (begins (codes "w/") q ≡ true → ⊥) → IsPrefix made (trims S keep)
      → AllByRecursion (PutsNone q) made
  all_put_none q made other p =
      all_has (PutsNone q) made (λ c h. puts_none q other c (trim_change c (has_in_whole made (trims S keep) p c h)))

  -- ## What stays

  -- an entry that is selected, and a content that is named, are of no change
  not_selected : (q : List ℕ) → begins (codes "e/") q ≡ true → is_selected S keep q ≡ true → (c : Change) → IsTrimChange S keep c
      → q ≡ name_of c → ⊥
  not_selected q kind selected c is same = elim is [
    | inl e ↦ never_both (is_selected S keep q) selected (ap (is_selected S keep) same ∙ e.free)
    | inr more ↦ elim more [
      | inl l ↦ entry_or_list q kind (ap (begins (codes "w/")) same ∙ l.kind)
      | inr b ↦ entry_or_blob q kind (ap (begins (codes "b/")) same ∙ b.kind)
    ]
  ]

  not_named : (q : List ℕ) → begins (codes "b/") q ≡ true → is_named S keep q ≡ true → (c : Change) → IsTrimChange S keep c
      → q ≡ name_of c → ⊥
  not_named q kind named c is same = elim is [
    | inl e ↦ entry_or_blob q (ap (begins (codes "e/")) same ∙ e.kind) kind
    | inr more ↦ elim more [
      | inl l ↦ list_or_blob q (ap (begins (codes "w/")) same ∙ l.kind) kind
      | inr b ↦ never_both (is_named S keep q) named (ap (is_named S keep) same ∙ b.free)
    ]
  ]

  -- a change at a name of a list is the one of that list
  of_list : (q : List ℕ) → begins (codes "w/") q ≡ true → (c : Change) → IsTrimChange S keep c → q ≡ name_of c
      → Has (list_change keep q (read_at S q)) c
  of_list q kind c is same = elim is [
    | inl e ↦ absurd (entry_or_list q (ap (begins (codes "e/")) same ∙ e.kind) kind)
    | inr more ↦ elim more [
      | inl l ↦ subst (λ (n : List ℕ). Has (list_change keep n (read_at S n)) c) (sym same) l.change
      | inr b ↦ absurd (list_or_blob q kind (ap (begins (codes "b/")) same ∙ b.kind))
    ]
  ]

  whole : IsPrefix (trims S keep) (trims S keep)
  whole = record { rest = []; joined = append-nil (trims S keep) }

-- ## What is left by changes of one name

-- what a change leaves under its name
abbrev left_by : Change → Option (List ℕ)
left_by (Put name bytes) = Some bytes
left_by (Drop name) = None

left_there : (S : Holdings) (c : Change) → get (changed S c) (name_of c) ≡ left_by c
left_there S (Put name bytes) = there_now S name bytes
left_there S (Drop name) =
    get-remove nat_list_cmp_total S name name ∙ ap (λ b. cond b None (get S name)) (name_itself name)

-- where all changes of a name are one, that is what is left there
settled : (S : Holdings) (changes : List Change) (q : List ℕ) (c : Change) → q ≡ name_of c
    → ((d : Change) → Has changes d → q ≡ name_of d → d ≡ c) → (get S q ≡ left_by c) ⊎ Has changes c
    → get (holdings_after S changes) q ≡ left_by c
settled S [] q c is one h = elim h [ inl e ↦ e | inr k ↦ absurd k ]
settled S (d ∷ changes) q c is one h =
    by_name (eq_by_cmp (slice_cmp nat_cmp) q (name_of d)) refl
    (settled (changed S d) changes q c is (λ x m. one x (inr m)))
  where
    by_name : (b : Bool) → eq_by_cmp (slice_cmp nat_cmp) q (name_of d) ≡ b
        → ((get (changed S d) q ≡ left_by c) ⊎ Has changes c → get (holdings_after (changed S d) changes) q ≡ left_by c)
        → get (holdings_after (changed S d) changes) q ≡ left_by c
    by_name true e later =
        let same : q ≡ name_of d = same_name q (name_of d) e in
        later (inl (ap (get (changed S d)) same ∙ left_there S d ∙ ap left_by (one d (inl refl) same)))
    by_name false e later =
        let other : q ≡ name_of d → ⊥ = λ same.
        never_both (eq_by_cmp (slice_cmp nat_cmp) q (name_of d)) (ap (eq_by_cmp (slice_cmp nat_cmp) q) (sym same) ∙ name_itself q) e in
        elim h [
          | inl old ↦ later (inl (after_other S d q other ∙ old))
          | inr k ↦ elim k [
            | inl here ↦ absurd (other (is ∙ ap name_of (sym here)))
            | inr more ↦ later (inr more)
          ]
        ]

-- ## The trimmed store

module _ (S : Holdings) (keep : ℕ) where
  abbrev left : Holdings
  left = holdings_after S (trims S keep)

  stays : (q : List ℕ) → ((c : Change) → IsTrimChange S keep c → q ≡ name_of c → ⊥) → get left q ≡ get S q
  stays q none = after_others S (trims S keep) q (λ c h. none c (trim_change S keep c h))

  entry_goes : (name : List ℕ) → begins (codes "e/") name ≡ true → is_selected S keep name ≡ false → get left name ≡ None
  entry_goes name kind free = by_held (get S name) refl
    where
      none : AllByRecursion (PutsNone name) (trims S keep)
      none = all_put_none S keep name (trims S keep) (entry_or_list name kind) (whole S keep)

      by_held : (o : Option (List ℕ)) → get S name ≡ o → get left name ≡ None
      by_held None e = none_after S (trims S keep) name none e
      by_held (Some bytes) e =
          dropped_after S (trims S keep) name none
          (has_front (map Drop (unselected S keep)) (list_changes S keep ++ map Drop (unnamed S keep)) (Drop name)
          (has_map Drop (unselected S keep) name
          (has_filter (λ n. not (is_selected S keep n)) (entry_names S) name
          (has_filter (begins (codes "e/")) (keys S) name (held_name S name bytes e) kind)
          (true_not (is_selected S keep name) free))))

  content_goes : (name : List ℕ) → begins (codes "b/") name ≡ true → is_named S keep name ≡ false → get left name ≡ None
  content_goes name kind free = by_held (get S name) refl
    where
      none : AllByRecursion (PutsNone name) (trims S keep)
      none = all_put_none S keep name (trims S keep) (λ k. list_or_blob name k kind) (whole S keep)

      by_held : (o : Option (List ℕ)) → get S name ≡ o → get left name ≡ None
      by_held None e = none_after S (trims S keep) name none e
      by_held (Some bytes) e =
          dropped_after S (trims S keep) name none
          (has_back (map Drop (unselected S keep)) (list_changes S keep ++ map Drop (unnamed S keep)) (Drop name)
          (has_back (list_changes S keep) (map Drop (unnamed S keep)) (Drop name)
          (has_map Drop (unnamed S keep) name
          (has_filter (λ n. not (is_named S keep n)) (blob_names S) name
          (has_filter (begins (codes "b/")) (keys S) name (held_name S name bytes e) kind)
          (true_not (is_named S keep name) free)))))

  -- ## Lists

  -- a change that is made of a list which is held
  list_planned : (name bytes : List ℕ) → begins (codes "w/") name ≡ true → get S name ≡ Some bytes → (c : Change)
      → Has (list_change keep name (read_at S name)) c → Has (trims S keep) c
  list_planned name bytes kind e c h =
      has_back (map Drop (unselected S keep)) (list_changes S keep ++ map Drop (unnamed S keep)) c
      (has_front (list_changes S keep) (map Drop (unnamed S keep)) c
      (has_flat (λ n. list_change keep n (read_at S n)) (list_names S) name c
      (has_filter (begins (codes "w/")) (keys S) name (held_name S name bytes e) kind) h))

  -- where all that is planned for a list is this one change
  list_left : (name bytes : List ℕ) → begins (codes "w/") name ≡ true → get S name ≡ Some bytes → (c : Change) → name ≡ name_of c
      → list_change keep name (read_at S name) ≡ c ∷ [] → get left name ≡ left_by c
  list_left name bytes kind e c is planned =
      settled S (trims S keep) name c is
      (λ d h same. only d (subst (λ (cs : List Change). Has cs d) planned (of_list S keep name kind d (trim_change S keep d h) same)))
      (inr (list_planned name bytes kind e c (subst (λ (cs : List Change). Has cs c) (sym planned) (inl refl))))
    where
      only : (d : Change) → Has (c ∷ []) d → d ≡ c
      only d h = elim h [ inl same ↦ sym same | inr never ↦ absurd never ]

  -- where nothing is planned for a list
  list_alone : (name : List ℕ) → begins (codes "w/") name ≡ true → list_change keep name (read_at S name) ≡ []
      → get left name ≡ get S name
  list_alone name kind planned =
      stays name
      (λ c is same. nothing c (list_change keep name (read_at S name)) planned (of_list S keep name kind c is same))
    where
      nothing : (c : Change) (cs : List Change) → cs ≡ [] → Has cs c → ⊥
      nothing c [] e h = h
      nothing c (d ∷ cs) e h = absurd cc

  -- a list that is not held is not put
  none_of_list : (name : List ℕ) → begins (codes "w/") name ≡ true → get S name ≡ None → get left name ≡ None
  none_of_list name kind e =
      none_after S (trims S keep) name
      (all_has (PutsNone name) (trims S keep) (λ c h. dropped c (λ same. planned c h same))) e
    where
      planned : (c : Change) → Has (trims S keep) c → name ≡ name_of c → Has (Drop name ∷ []) c
      planned c h same =
          subst (λ (o : Option (List ℕ)). Has (list_change keep name (o >>= read_selectors_text)) c) e
          (of_list S keep name kind c (trim_change S keep c h) same)

      dropped : (c : Change) → (name ≡ name_of c → Has (Drop name ∷ []) c) → PutsNone name c
      dropped (Drop other) h = tt
      dropped (Put other bytes) h = λ same. elim (h same) [
        | inl is ↦ absurd cc
        | inr never ↦ absurd never
      ]

  read_is : (name bytes : List ℕ) → get S name ≡ Some bytes → (o : Option (List Selector)) → read_selectors_text bytes ≡ o
      → read_at S name ≡ o
  read_is name bytes e o is = ap (λ (b : Option (List ℕ)). b >>= read_selectors_text) e ∙ is

  -- the list is dropped of which nothing was left, or that was not well-formed
  list_goes : (name : List ℕ) → begins (codes "w/") name ≡ true → take keep (selectors_in (get S name)) ≡ []
      → get left name ≡ None
  list_goes name kind none = by_held (get S name) refl
    where
      by_read : (bytes : List ℕ) → get S name ≡ Some bytes → (o : Option (List Selector)) → read_selectors_text bytes ≡ o
          → get left name ≡ None
      by_read bytes e None is =
          list_left name bytes kind e (Drop name) refl (ap (list_change keep name) (read_is name bytes e None is))
      by_read bytes e (Some list) is =
          list_left name bytes kind e (Drop name) refl
          (ap (list_change keep name) (read_is name bytes e (Some list) is)
          ∙ ap (cut_to keep name list) (sym (ap (take keep) (ap selectors_in e ∙ ap or_none is)) ∙ none))

      by_held : (o : Option (List ℕ)) → get S name ≡ o → get left name ≡ None
      by_held None e = none_of_list name kind e
      by_held (Some bytes) e = by_read bytes e (read_selectors_text bytes) refl

  -- the text of what stays of a list
  list_stays : (name : List ℕ) → begins (codes "w/") name ≡ true → (list : List Selector)
      → take keep (selectors_in (get S name)) ≡ list → (list ≡ [] → ⊥) → get left name ≡ Some (selectors_text list)
  list_stays name kind list is_left some = by_held (get S name) refl
    where
      by_cut : (bytes : List ℕ) → get S name ≡ Some bytes → (old : List Selector) → read_selectors_text bytes ≡ Some old
          → take keep old ≡ list → (s : Selector) (rest : List Selector) → list ≡ s ∷ rest → (b : Bool) → nat_lt keep (length old) ≡ b
          → get left name ≡ Some (selectors_text list)
      by_cut bytes e old is taken s rest begin true longer =
          list_left name bytes kind e (Put name (selectors_text (s ∷ rest))) refl
          (ap (list_change keep name) (read_is name bytes e (Some old) is)
          ∙ ap (cut_to keep name old) (taken ∙ begin)
          ∙ ap (λ b. cond b (Put name (selectors_text (s ∷ rest)) ∷ []) []) longer)
          ∙ ap (λ (xs : List Selector). Some (selectors_text xs)) (sym begin)
      by_cut bytes e old is taken s rest begin false short =
          list_alone name kind
          (ap (list_change keep name) (read_is name bytes e (Some old) is)
          ∙ ap (cut_to keep name old) (taken ∙ begin)
          ∙ ap (λ b. cond b (Put name (selectors_text (s ∷ rest)) ∷ []) []) short)
          ∙ e
          ∙ ap Some (selectors_sound bytes old is).1
          ∙ ap (λ (xs : List Selector). Some (selectors_text xs))
          (sym (take_all keep old (ltb-false keep (length old) short)) ∙ taken)

      by_list : (bytes : List ℕ) → get S name ≡ Some bytes → (old : List Selector) → read_selectors_text bytes ≡ Some old
          → take keep old ≡ list → (xs : List Selector) → list ≡ xs → get left name ≡ Some (selectors_text list)
      by_list bytes e old is taken [] empty = absurd (some empty)
      by_list bytes e old is taken (s ∷ rest) begin =
          by_cut bytes e old is taken s rest begin (nat_lt keep (length old)) refl

      by_read : (bytes : List ℕ) → get S name ≡ Some bytes → (o : Option (List Selector)) → read_selectors_text bytes ≡ o
          → get left name ≡ Some (selectors_text list)
      by_read bytes e None is =
          absurd (some (sym is_left ∙ ap (take keep) (ap selectors_in e ∙ ap or_none is) ∙ take_none keep [] refl))
      by_read bytes e (Some old) is =
          by_list bytes e old is (sym (ap (take keep) (ap selectors_in e ∙ ap or_none is)) ∙ is_left) list refl

      by_held : (o : Option (List ℕ)) → get S name ≡ o → get left name ≡ Some (selectors_text list)
      by_held None e = absurd (some (sym is_left ∙ ap (take keep) (ap selectors_in e) ∙ take_none keep [] refl))
      by_held (Some bytes) e = by_read bytes e (read_selectors_text bytes) refl

  -- a name of no kind is of no change
  other_stays : (name : List ℕ) → begins (codes "e/") name ≡ false → begins (codes "w/") name ≡ false → begins (codes "b/") name ≡ false
      → get left name ≡ get S name
  other_stays name e w b = stays name none
    where
      none : (c : Change) → IsTrimChange S keep c → name ≡ name_of c → ⊥
      none c is same = elim is [
        | inl x ↦ never_both (begins (codes "e/") name) (ap (begins (codes "e/")) same ∙ x.kind) e
        | inr more ↦ elim more [
          | inl x ↦ never_both (begins (codes "w/") name) (ap (begins (codes "w/")) same ∙ x.kind) w
          | inr x ↦ never_both (begins (codes "b/") name) (ap (begins (codes "b/")) same ∙ x.kind) b
        ]
      ]

  pub trimmed : IsTrimmed S keep (holdings_after S (trims S keep))
  trimmed = record {
    entries_stay = λ name kind selected. stays name (λ c is same. not_selected S keep name kind selected c is same);
    entries_go = entry_goes;
    lists_stay = list_stays;
    lists_go = list_goes;
    contents_stay = λ name kind named. stays name (λ c is same. not_named S keep name kind named c is same);
    contents_go = content_goes;
    others = other_stays;
  }

-- ## Honest after each change

-- a prefix of two lists: of the first, or all of it and a prefix of the second
abbrev CutAt : List Change → List Change → List Change → Type 0
CutAt first second made =
    IsPrefix made first ⊎ ((rest : List Change) × (made ≡ first ++ rest) × IsPrefix rest second)

cut_at : (first second made : List Change) → IsPrefix made (first ++ second) → CutAt first second made
cut_at [] second made p = inr (made, refl, p)
cut_at (a ∷ first) second [] p = inl (record { rest = a ∷ first; joined = refl })
cut_at (a ∷ first) second (c ∷ made) p =
    let joined : c ∷ (made ++ p.rest) ≡ a ∷ (first ++ second) = p.joined in
    let here : c ≡ a = cc in
    let more : made ++ p.rest ≡ first ++ second = cc in
    elim (cut_at first second made (record { rest = p.rest; joined = more })) [
      | inl q ↦
          inl (record {
            rest = q.rest;
            joined = ap (λ (d : Change). d ∷ (made ++ q.rest)) here ∙ ap (λ t. a ∷ t) q.joined;
          })
      | inr q ↦ inr (q.0, ap (λ (d : Change). d ∷ made) here ∙ ap (λ t. a ∷ t) q.1, q.2)
    ]

module _ (S : Holdings) (keep : ℕ) (made : List Change) (p : IsPrefix made (trims S keep)) where
  abbrev now : Holdings
  now = holdings_after S made

  abbrev first : List Change
  first = map Drop (unselected S keep)

  abbrev second : List Change
  second = list_changes S keep ++ map Drop (unnamed S keep)

  is_change : (c : Change) → Has made c → IsTrimChange S keep c
  is_change c h = trim_change S keep c (has_in_whole made (trims S keep) p c h)

  no_put : (e : Entry) → AllByRecursion (PutsNone (at_entry e.strong)) made
  no_put e = all_put_none S keep (at_entry e.strong) made (entry_or_list (at_entry e.strong) (is_entry_name e.strong)) p

  before : (e : Entry) → HoldsEntry now e → HoldsEntry S e
  before e h = (h.0, there_before S made (at_entry e.strong) h.0 (no_put e) h.1, h.2)

  -- while entries are dropped, all contents stay
  contents_stay : IsPrefix made first → Grows S now
  contents_stay q x held =
      after_others S made (at_blob (sha256 x))
      (λ c k same.
      entry_or_blob (at_blob (sha256 x))
      (ap (begins (codes "e/")) same ∙ (entry_drop S keep c (has_in_whole made first q c k)).kind)
      (is_blob_name (sha256 x)))
      ∙ held

  -- after all entries are dropped that are not selected, those that are held are selected
  selected : (rest : List Change) → made ≡ first ++ rest → (e : Entry) → HoldsEntry now e
      → is_selected S keep (at_entry e.strong) ≡ true
  unfolding before
  selected rest is e h = by_test (is_selected S keep (at_entry e.strong)) refl
    where
      gone : is_selected S keep (at_entry e.strong) ≡ false → get now (at_entry e.strong) ≡ None
      gone free =
          dropped_after S made (at_entry e.strong) (no_put e)
          (subst (λ (cs : List Change). Has cs (Drop (at_entry e.strong))) (sym is)
          (has_front first rest (Drop (at_entry e.strong))
          (has_map Drop (unselected S keep) (at_entry e.strong)
          (has_filter (λ n. not (is_selected S keep n)) (entry_names S) (at_entry e.strong)
          (has_filter (begins (codes "e/")) (keys S) (at_entry e.strong)
          (held_name S (at_entry e.strong) h.0 (before e h).1) (is_entry_name e.strong))
          (true_not (is_selected S keep (at_entry e.strong)) free)))))

      by_test : (b : Bool) → is_selected S keep (at_entry e.strong) ≡ b → is_selected S keep (at_entry e.strong) ≡ true
      by_test true k = k
      by_test false k = let never : None ≡ Some h.0 = sym (gone k) ∙ h.1 in absurd cc

  -- what a selected entry names stays
  named_stay : (e : Entry) → HoldsEntry S e → is_selected S keep (at_entry e.strong) ≡ true → (x : List ℕ) → HoldsBlob S x
      → Has (named_by S e) (sha256 x) → HoldsBlob now x
  named_stay e h chosen x held k =
      after_others S made (at_blob (sha256 x))
      (λ c m same. not_named S keep (at_blob (sha256 x)) (is_blob_name (sha256 x)) named c (is_change c m) same)
      ∙ held
    where
      by_name : Has (named_at S (at_entry e.strong)) (sha256 x)
      by_name = subst (λ (o : Option Entry). Has (named_at_entry S o) (sha256 x)) (sym (entry_is S e h)) k

      among : Has (named_digests S keep) (sha256 x)
      among =
          has_flat (named_at S) (filter (is_selected S keep) (entry_names S)) (at_entry e.strong) (sha256 x)
          (has_filter (is_selected S keep) (entry_names S) (at_entry e.strong)
          (has_filter (begins (codes "e/")) (keys S) (at_entry e.strong) (held_name S (at_entry e.strong) h.0 h.1)
          (is_entry_name e.strong)) chosen)
          by_name

      named : is_named S keep (at_blob (sha256 x)) ≡ true
      named =
          one_passes (λ digest. bytes_eq (at_blob digest) (at_blob (sha256 x))) (named_digests S keep) (sha256 x) among
          ((bytes_eq-Decides (at_blob (sha256 x)) (at_blob (sha256 x))).1 refl)

  honest_now : Honest S → Honest now
  honest_now honest e h = elim (cut_at first second made p) [
    | inl q ↦ still_honest S now (contents_stay q) e (honest e (before e h))
    | inr q ↦
        named_honest S e (honest e (before e h)) now
        (λ x held k. named_stay e (before e h) (selected q.0 q.1 e h) x held k)
  ]

pub trims_honest : (S : Holdings) (keep : ℕ) (made : List Change) → Honest S → IsPrefix made (trims S keep)
    → Honest (holdings_after S made)
trims_honest S keep made honest p = honest_now S keep made p honest
