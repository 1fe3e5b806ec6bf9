-- Entries that are filled, and the tables that have them.
use Rattle.std.proofs.Common.{◌≡◌, ℕ, zero, suc, ◌+◌, ◌<◌, ◌≤◌, ◌&&◌, Bool, true, false, not, List, [], ◌∷◌, ◌++◌, cond, get_or, length, map, refl, ap, sym, ◌∙◌, arith}
use Rattle.std.proofs.Math.ListN.{set}
use Rattle.std.proofs.lemmas.List.{append-nil, length-map, map-set}
use Rattle.dscript_types_known.proofs.Counted.{other_entries, other_entry}
use Rattle.dscript_types_known.specs.Findings.{Finding, Found, Nothing, Open, is_open}
use Rattle.dscript_types_known.specs.Tables.{TableData, closed, filled, filled_in, if_open, open_count, open_in}
use Rattle.dscript_types_known.specs.Views.{finding_data, table_data}
use Rattle.dscript_types_known.specs.declared.finding.Finding.{Finding as AnyFinding}
use Rattle.dscript_types_meaning.specs.Types.{TypeData}
use Rattle.std.specs.declared.alloc.Global.{Global}
use Rattle.std.specs.declared.vec.Vec.{Vec}

-- ## Entries

pub mapped_at
    : {X Y : Type 0} (f : X → Y) (xs : List X) (i : ℕ) (x : X) (d : Y) → i < length xs → x ≡ get_or xs i x
    → get_or (map f xs) i d ≡ f x
mapped_at f [] i x d l e = absurd (omega (arith, l))
mapped_at f (y ∷ xs) zero x d l e = ap f (sym e)
mapped_at f (y ∷ xs) (suc i) x d l e = mapped_at f xs i x d (omega (arith, l)) e

open_is : (f : Finding TypeData) → is_open f ≡ true → f ≡ Open
open_is (Found t rank) e = cc
open_is Nothing e = cc
open_is Open e = refl

kept_one : (f old : Finding TypeData) → (is_open old && not (is_open f)) ≡ false → if_open f old ≡ old
kept_one f (Found t rank) h = refl
kept_one f Nothing h = refl
kept_one (Found t rank) Open h = cc
kept_one Nothing Open h = cc
kept_one Open Open h = refl

taken_one : (f old : Finding TypeData) → (is_open old && not (is_open f)) ≡ true → (if_open f old ≡ f) × (is_open f ≡ false)
taken_one f (Found t rank) h = cc
taken_one f Nothing h = cc
taken_one (Found t rank) Open h = (refl, refl)
taken_one Nothing Open h = (refl, refl)
taken_one Open Open h = cc

-- past the end nothing is filled
pub filled_past : (es : List (Finding TypeData)) (i : ℕ) (f : Finding TypeData) → length es ≤ i → es ≡ filled_in es i f
filled_past [] i f l = refl
filled_past (e ∷ es) zero f l = absurd (omega (arith, l))
filled_past (e ∷ es) (suc i) f l = ap (λ gs. e ∷ gs) (filled_past es i f (omega (arith, l)))

pub filled_kept
    : (es : List (Finding TypeData)) (i : ℕ) (f old : Finding TypeData) → i < length es → get_or es i Open ≡ old
    → (is_open old && not (is_open f)) ≡ false → es ≡ filled_in es i f
filled_kept [] i f old l e h = absurd (omega (arith, l))
filled_kept (g ∷ es) zero f old l e h = ap (λ x. x ∷ es) (sym (kept_one f g (ap (λ x. is_open x && not (is_open f)) e ∙ h)))
filled_kept (g ∷ es) (suc i) f old l e h = ap (λ gs. g ∷ gs) (filled_kept es i f old (omega (arith, l)) e h)

pub filled_taken
    : (es : List (Finding TypeData)) (i : ℕ) (f old : Finding TypeData) → i < length es → get_or es i Open ≡ old
    → (is_open old && not (is_open f)) ≡ true → set es i f ≡ filled_in es i f
filled_taken [] i f old l e h = absurd (omega (arith, l))
filled_taken (g ∷ es) zero f old l e h =
    ap (λ x. x ∷ es) (sym (taken_one f g (ap (λ x. is_open x && not (is_open f)) e ∙ h)).0)
filled_taken (g ∷ es) (suc i) f old l e h = ap (λ gs. g ∷ gs) (filled_taken es i f old (omega (arith, l)) e h)

abbrev one_or_none : Bool → ℕ
one_or_none b = cond b 1 0

-- one fewer is open
pub taken_counts
    : (es : List (Finding TypeData)) (i : ℕ) (f old : Finding TypeData) → i < length es → get_or es i Open ≡ old
    → (is_open old && not (is_open f)) ≡ true → open_in es ≡ open_in (set es i f) + 1
taken_counts es i f old l e h =
    let same = other_entry es i f Open l in
    let was = ap (λ x. one_or_none (is_open x)) e ∙ ap one_or_none (first_true (is_open old) (not (is_open f)) h) in
    let is = ap one_or_none (taken_one f old h).1 in
    omega (arith, same, was, is)
  where
    first_true : (a b : Bool) → (a && b) ≡ true → a ≡ true
    first_true true b e = refl
    first_true false b e = e

-- ## Entries of a list

module _ (entries : List (AnyFinding TypeData)) (i : ℕ) where
  pub entry_past
      : (f : Finding TypeData) → length entries ≤ i → map finding_data entries ≡ filled_in (map finding_data entries) i f
  entry_past f l = filled_past (map finding_data entries) i f (omega (arith, length-map entries finding_data, l))

  module _ (x : AnyFinding TypeData) (l : i < length entries) (e : x ≡ get_or entries i x) where
    within_mapped : i < length (map finding_data entries)
    within_mapped = omega (arith, length-map entries finding_data, l)

    pub entry_kept
        : (f : Finding TypeData) → (is_open (finding_data x) && not (is_open f)) ≡ false
        → map finding_data entries ≡ filled_in (map finding_data entries) i f
    entry_kept f h =
        filled_kept (map finding_data entries) i f (finding_data x) within_mapped (mapped_at finding_data entries i x Open l e) h

    module _ (y : AnyFinding TypeData) (h : (is_open (finding_data x) && not (is_open (finding_data y))) ≡ true) where
      pub entry_taken : map finding_data (set entries i y) ≡ filled_in (map finding_data entries) i (finding_data y)
      entry_taken =
          map-set finding_data entries i y
          ∙ filled_taken (map finding_data entries) i (finding_data y) (finding_data x) within_mapped
          (mapped_at finding_data entries i x Open l e) h

      pub entry_counts : open_in (map finding_data entries) ≡ open_in (map finding_data (set entries i y)) + 1
      entry_counts =
          taken_counts (map finding_data entries) i (finding_data y) (finding_data x) within_mapped
          (mapped_at finding_data entries i x Open l e) h
          ∙ ap (λ es. open_in es + 1) (sym (map-set finding_data entries i y))

-- ## Tables

entries_at : (files : List (Vec (AnyFinding TypeData) Global)) (i : ℕ) (v : Vec (AnyFinding TypeData) Global) → i < length files → v ≡ get_or files i v
    → get_or (table_data files) i [] ≡ map finding_data v.items
entries_at files i v l e = mapped_at (λ (u : Vec (AnyFinding TypeData) Global). map finding_data u.items) files i v [] l e

table_past : (table : TableData) (i decl : ℕ) (f : Finding TypeData) → length table ≤ i → table ≡ filled table i decl f
table_past [] i decl f l = refl
table_past (es ∷ table) zero decl f l = absurd (omega (arith, l))
table_past (es ∷ table) (suc i) decl f l = ap (λ ts. es ∷ ts) (table_past table i decl f (omega (arith, l)))

table_at : (table : TableData) (i decl : ℕ) (f : Finding TypeData) (old new : List (Finding TypeData)) → i < length table
    → get_or table i [] ≡ old → new ≡ filled_in old decl f → set table i new ≡ filled table i decl f
table_at [] i decl f old new l e is = absurd (omega (arith, l))
table_at (es ∷ table) zero decl f old new l e is =
    ap (λ x. x ∷ table) (is ∙ ap (λ x. filled_in x decl f) (sym e))
table_at (es ∷ table) (suc i) decl f old new l e is = ap (λ ts. es ∷ ts) (table_at table i decl f old new (omega (arith, l)) e is)

module _ (files : List (Vec (AnyFinding TypeData) Global)) (i decl : ℕ) (f : Finding TypeData) where
  -- no such file
  pub files_past : length files ≤ i → table_data files ≡ filled (table_data files) i decl f
  files_past l =
      table_past (table_data files) i decl f
      (omega (arith, length-map files (λ (u : Vec (AnyFinding TypeData) Global). map finding_data u.items), l))

  module _ (old new : Vec (AnyFinding TypeData) Global) (l : i < length files) (e : old ≡ get_or files i old) where
    within : i < length (table_data files)
    within = omega (arith, length-map files (λ (u : Vec (AnyFinding TypeData) Global). map finding_data u.items), l)

    put : table_data (set files i new) ≡ set (table_data files) i (map finding_data new.items)
    put = map-set (λ (u : Vec (AnyFinding TypeData) Global). map finding_data u.items) files i new

    pub files_filled
        : map finding_data new.items ≡ filled_in (map finding_data old.items) decl f
        → table_data (set files i new) ≡ filled (table_data files) i decl f
    files_filled is =
        put ∙ table_at (table_data files) i decl f (map finding_data old.items) (map finding_data new.items) within
        (entries_at files i old l e) is

    pub files_counted
        : (count : ℕ) → open_in (map finding_data old.items) ≡ open_in (map finding_data new.items) + count
        → open_count (table_data files) ≡ open_count (table_data (set files i new)) + count
    files_counted count is =
        omega (
          arith,
          other_entries (table_data files) i (map finding_data new.items) [] within,
          ap open_in (entries_at files i old l e),
          ap open_count put,
          is,
        )

-- all files are closed
pub closed_ends
    : (files rest from : List (Vec (AnyFinding TypeData) Global)) (whole : TableData) → rest ≡ []
    → table_data files ++ closed (table_data rest) ≡ closed (table_data from) → table_data from ≡ whole
    → table_data files ≡ closed whole
closed_ends files rest from whole none goes is =
    sym (ap (λ fs. table_data files ++ closed (table_data fs)) none ∙ append-nil (table_data files)) ∙ goes ∙ ap closed is
