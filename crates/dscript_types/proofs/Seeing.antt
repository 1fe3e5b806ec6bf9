-- Declarations that are seen.
use Rattle.std.proofs.Common.{◌≡◌, append_assoc, drop, ℕ, zero, suc, ◌+◌, ◌<◌, ◌≤◌, ◌⊎◌, inl, inr, Bool, true, false, not, List, [], ◌∷◌, ◌++◌, cond, get_or, length, map, replicate, slice_get, unwrap_or, refl, ap, sym, ◌∙◌, arith}
use Rattle.std.proofs.Math.ListN.{set}
use Rattle.std.proofs.lemmas.List.{length-map, map-append}
use Rattle.std.proofs.lemmas.List.Sums.{sum_by-cons}
use Rattle.std.specs.List.{sum_by}
use Rattle.std.specs.declared.alloc.Global.{Global}
use Rattle.std.specs.declared.vec.Vec.{Vec}
use Rattle.dscript_program.specs.ProgramData.{FileData}
use Rattle.dscript_program.specs.Views.{decl_data, file_data, program_data}
use Rattle.dscript_program.specs.declared.program.BoundFile.{BoundFile}
use Rattle.dscript_program.specs.declared.program.Program.{Program}
use Rattle.dscript_types_meaning.specs.Lookups.{decls_at, decls_in}
use Rattle.dscript_types_notes.proofs.Meant.{append_nil, drop_all, drop_next}
use Rattle.dscript_types.specs.Visits.{Sees, SeesIn, flag_at, has_seen, of_file, unseen, unseen_in}
use Rattle.dscript_types.specs.declared.visits.Visits.{Visits}

abbrev flag_count : Bool → ℕ
flag_count b = cond (not b) 1 0

-- ## In a file

-- none is seen
pub none_seen : (count j : ℕ) → flag_at (replicate count false) j ≡ false
none_seen zero j = refl
none_seen (suc count) zero = refl
none_seen (suc count) (suc j) = none_seen count j

pub none_size : (count : ℕ) → length (replicate count false) ≡ count
none_size zero = refl
none_size (suc count) = ap suc (none_size count)

-- one that is not there
flag_past : (flags : List Bool) (j : ℕ) → length flags ≤ j → flag_at flags j ≡ false
flag_past [] j l = refl
flag_past (b ∷ flags) zero l = absurd (omega (arith, l))
flag_past (b ∷ flags) (suc j) l = flag_past flags j (omega (arith, l))

pub sees_past : (flags : List Bool) (decl : ℕ) → length flags ≤ decl → SeesIn flags flags decl false
sees_past flags decl l = record {
  seen = λ j e. e;
  only = λ j e. inl e;
  own = λ less. absurd (omega (arith, l, less));
  size = refl;
  fewer = omega arith;
}

-- one that was seen before
flag_is : (flags : List Bool) (j : ℕ) (b : Bool) → j < length flags → b ≡ get_or flags j b → flag_at flags j ≡ b
flag_is [] j b l e = absurd (omega (arith, l))
flag_is (c ∷ flags) zero b l e = sym e
flag_is (c ∷ flags) (suc j) b l e = flag_is flags j b (omega (arith, l)) e

pub sees_again
    : (flags : List Bool) (decl : ℕ) (b : Bool) → decl < length flags → b ≡ get_or flags decl b → b ≡ true → SeesIn flags flags decl false
sees_again flags decl b l e passed = record {
  seen = λ j f. f;
  only = λ j f. inl f;
  own = λ less. flag_is flags decl b l e ∙ passed;
  size = refl;
  fewer = omega arith;
}

-- one that is seen now
set_flag : (flags : List Bool) (i j : ℕ) → flag_at flags j ≡ true → flag_at (set flags i true) j ≡ true
set_flag [] i j e = e
set_flag (b ∷ flags) zero zero e = refl
set_flag (b ∷ flags) zero (suc j) e = e
set_flag (b ∷ flags) (suc i) zero e = e
set_flag (b ∷ flags) (suc i) (suc j) e = set_flag flags i j e

only_flag : (flags : List Bool) (i j : ℕ) → flag_at (set flags i true) j ≡ true → (flag_at flags j ≡ true) ⊎ ((true ≡ true) × (j ≡ i))
only_flag [] i j e = inl e
only_flag (b ∷ flags) zero zero e = inr (refl, refl)
only_flag (b ∷ flags) zero (suc j) e = inl e
only_flag (b ∷ flags) (suc i) zero e = inl e
only_flag (b ∷ flags) (suc i) (suc j) e = elim (only_flag flags i j e) [
  | inl f ↦ inl f
  | inr f ↦ inr (refl, ap suc f.1)
]

own_flag : (flags : List Bool) (i : ℕ) → i < length flags → flag_at (set flags i true) i ≡ true
own_flag [] i l = absurd (omega (arith, l))
own_flag (b ∷ flags) zero l = refl
own_flag (b ∷ flags) (suc i) l = own_flag flags i (omega (arith, l))

set_size : {X : Type 0} (xs : List X) (i : ℕ) (x : X) → length (set xs i x) ≡ length xs
set_size [] i x = refl
set_size (y ∷ xs) zero x = refl
set_size (y ∷ xs) (suc i) x = ap suc (set_size xs i x)

fewer_flags
    : (flags : List Bool) (i : ℕ) (b : Bool) → i < length flags → b ≡ get_or flags i b → b ≡ false
    → unseen_in flags ≡ unseen_in (set flags i true) + 1
fewer_flags [] i b l e fails = absurd (omega (arith, l))
fewer_flags (c ∷ flags) zero b l e fails =
    let one : flag_count c ≡ 1 = ap flag_count (sym e ∙ fails) in
    omega (arith, sum_by-cons flag_count c flags, sum_by-cons flag_count true flags, one)
fewer_flags (c ∷ flags) (suc i) b l e fails =
    omega (arith, sum_by-cons flag_count c flags, sum_by-cons flag_count c (set flags i true), fewer_flags flags i b (omega (arith, l)) e fails)

pub sees_new
    : (flags new : List Bool) (decl : ℕ) (b : Bool) → decl < length flags → b ≡ get_or flags decl b → b ≡ false → new ≡ set flags decl true
    → SeesIn flags new decl true
sees_new flags new decl b l e fails put = record {
  seen = λ j f. ap (λ fs. flag_at fs j) put ∙ set_flag flags decl j f;
  only = λ j f. only_flag flags decl j (sym (ap (λ fs. flag_at fs j) put) ∙ f);
  own = λ less. ap (λ fs. flag_at fs decl) put ∙ own_flag flags decl l;
  size = ap (λ fs. length fs) put ∙ set_size flags decl true;
  fewer = fewer_flags flags decl b l e fails ∙ ap (λ fs. unseen_in fs + 1) (sym put);
}

-- ## Among all files

abbrev Files : Type 0
Files = List (Vec Bool Global)

abbrev unseen_of : Vec Bool Global → ℕ
unseen_of v = unseen_in v.items

abbrev sum_files : Files → ℕ
sum_files files = sum_by unseen_of files

-- a file that is not there
file_past : (files : Files) (file : ℕ) → length files ≤ file → of_file files file ≡ []
file_past [] file l = refl
file_past (v ∷ files) zero l = absurd (omega (arith, l))
file_past (v ∷ files) (suc file) l = file_past files file (omega (arith, l))

pub sees_no_file
    : (old new : Visits) (file decl : ℕ) → length old.files.items ≤ file → new ≡ old → Sees old new file decl false
sees_no_file old new file decl l same = record {
  seen = λ i j e. ap (λ (v : Visits). has_seen v i j) same ∙ e;
  only = λ i j e. inl (sym (ap (λ (v : Visits). has_seen v i j) same) ∙ e);
  own = λ less. absurd (omega (arith, less, ap (λ flags. length flags) (file_past old.files.items file l)));
  size = λ i. ap (λ (v : Visits). length (of_file v.files.items i)) same;
  fewer = let e = ap unseen same in omega (arith, e);
}

file_is : (files : Files) (file : ℕ) (v : Vec Bool Global) → file < length files → v ≡ get_or files file v → of_file files file ≡ v.items
file_is [] file v l e = absurd (omega (arith, l))
file_is (u ∷ files) zero v l e = ap (λ (w : Vec Bool Global). w.items) (sym e)
file_is (u ∷ files) (suc file) v l e = file_is files file v (omega (arith, l)) e

-- the files with one that is changed
set_file
    : (files : Files) (file : ℕ) (v : Vec Bool Global) (i : ℕ) → file < length files
    → ((i ≡ file) × (of_file (set files file v) i ≡ v.items)) ⊎ ((i ≡ file → ⊥) × (of_file (set files file v) i ≡ of_file files i))
set_file [] file v i l = absurd (omega (arith, l))
set_file (u ∷ files) zero v zero l = inl (refl, refl)
set_file (u ∷ files) zero v (suc i) l = inr (λ e. absurd (omega (arith, e)), refl)
set_file (u ∷ files) (suc file) v zero l = inr (λ e. absurd (omega (arith, e)), refl)
set_file (u ∷ files) (suc file) v (suc i) l = elim (set_file files file v i (omega (arith, l))) [
  | inl h ↦ inl (ap suc h.0, h.1)
  | inr h ↦ inr (λ e. h.0 (omega (arith, e)), h.1)
]

fewer_files
    : (files : Files) (file : ℕ) (old new : Vec Bool Global) (one : ℕ) → file < length files → old ≡ get_or files file old
    → unseen_in old.items ≡ unseen_in new.items + one
    → sum_files files ≡ sum_files (set files file new) + one
fewer_files [] file old new one l e is = absurd (omega (arith, l))
fewer_files (u ∷ files) zero old new one l e is =
    omega (arith, sum_by-cons unseen_of u files, sum_by-cons unseen_of new files, ap unseen_of e, is)
fewer_files (u ∷ files) (suc file) old new one l e is =
    omega (
      arith,
      sum_by-cons unseen_of u files,
      sum_by-cons unseen_of u (set files file new),
      fewer_files files file old new one (omega (arith, l)) e is,
    )

module _ (old new : Visits) (file decl : ℕ) (result : Bool) (flags other : Vec Bool Global) (l : file < length old.files.items)
    (e : flags ≡ get_or old.files.items file flags) (put : new.files.items ≡ set old.files.items file other)
    (sees : SeesIn flags.items other.items decl result) where
  was : of_file old.files.items file ≡ flags.items
  was = file_is old.files.items file flags l e

  -- of each file: it is this one, or as it was
  by_file
      : (i : ℕ)
      → ((i ≡ file) × (of_file new.files.items i ≡ other.items) × (of_file old.files.items i ≡ flags.items))
      ⊎ (of_file new.files.items i ≡ of_file old.files.items i)
  by_file i = elim (set_file old.files.items file other i l) [
    | inl h ↦ inl (h.0, ap (λ fs. of_file fs i) put ∙ h.1, ap (of_file old.files.items) h.0 ∙ was)
    | inr h ↦ inr (ap (λ fs. of_file fs i) put ∙ h.1)
  ]

  pub sees_file : Sees old new file decl result
  sees_file = record {
    seen = λ i j f. elim (by_file i) [
      | inl h ↦ ap (λ fs. flag_at fs j) h.1 ∙ sees.seen j (sym (ap (λ fs. flag_at fs j) h.2) ∙ f)
      | inr h ↦ ap (λ fs. flag_at fs j) h ∙ f
    ];
    only = λ i j f. elim (by_file i) [
      | inl h ↦ elim (sees.only j (sym (ap (λ fs. flag_at fs j) h.1) ∙ f)) [
        | inl g ↦ inl (ap (λ fs. flag_at fs j) h.2 ∙ g)
        | inr g ↦ inr (g.0, h.0, g.1)
      ]
      | inr h ↦ inl (sym (ap (λ fs. flag_at fs j) h) ∙ f)
    ];
    own = λ less. elim (by_file file) [
      | inl h ↦ ap (λ fs. flag_at fs decl) h.1 ∙ sees.own (omega (arith, less, ap (λ fs. length fs) was))
      | inr h ↦
          let same : other.items ≡ flags.items = sym (ap (λ fs. of_file fs file) put ∙ own_file) ∙ h ∙ was in
          ap (λ fs. flag_at fs decl) (h ∙ was ∙ sym same) ∙ sees.own (omega (arith, less, ap (λ fs. length fs) was))
    ];
    size = λ i. elim (by_file i) [
      | inl h ↦ ap (λ fs. length fs) h.1 ∙ sees.size ∙ sym (ap (λ fs. length fs) h.2)
      | inr h ↦ ap (λ fs. length fs) h
    ];
    fewer = fewer_files old.files.items file flags other (cond result 1 0) l e sees.fewer ∙ ap (λ fs. sum_files fs + cond result 1 0) (sym put);
  }
    where
      own_file : of_file (set old.files.items file other) file ≡ other.items
      own_file = elim (set_file old.files.items file other file l) [
        | inl h ↦ h.1
        | inr h ↦ absurd (h.0 refl)
      ]

-- ## None of them

abbrev none_of_file : FileData → List Bool
none_of_file f = replicate (length f.decls) false

abbrev rows : Files → List (List Bool)
rows files = map (λ (v : Vec Bool Global). v.items) files

rows_at : (files : Files) (file : ℕ) → of_file files file ≡ unwrap_or (slice_get (rows files) file) []
rows_at [] file = refl
rows_at (v ∷ files) zero = refl
rows_at (v ∷ files) (suc file) = rows_at files file

none_at : (fs : List FileData) (file : ℕ) → unwrap_or (slice_get (map none_of_file fs) file) [] ≡ replicate (length (decls_in (slice_get fs file))) false
none_at [] file = refl
none_at (f ∷ fs) zero = refl
none_at (f ∷ fs) (suc file) = none_at fs file

-- the files up to this one, and those that are left
abbrev pub NewGoes : Program → List BoundFile → ℕ → Files → Type 0
NewGoes p slice i files = rows files ++ map none_of_file (map file_data (drop i slice)) ≡ map none_of_file (program_data p).files

module _ (p : Program) (slice : List BoundFile) where
  pub new_begins : (files : Files) → files ≡ [] → slice ≡ p.files.items → NewGoes p slice 0 files
  new_begins files none same =
      ap (λ fs. rows fs ++ map none_of_file (map file_data slice)) none ∙ ap (λ fs. map none_of_file (map file_data fs)) same

  pub new_goes
      : (i : ℕ) (f : BoundFile) (files next : Files) (v : Vec Bool Global) (count : ℕ) → i < length slice → f ≡ get_or slice i f
      → count ≡ length f.decls.items → v.items ≡ replicate count false → next ≡ files ++ v ∷ [] → NewGoes p slice i files
      → NewGoes p slice (i + 1) next
  new_goes i f files next v count l e size none put goes =
      ap (λ fs. rows fs ++ left) put
      ∙ ap (λ rs. rs ++ left) (map-append (λ (u : Vec Bool Global). u.items) files (v ∷ []))
      ∙ append_assoc (rows files) (v.items ∷ []) left
      ∙ ap (λ flags. rows files ++ flags ∷ left) (none ∙ ap (λ n. replicate n false) (size ∙ sym (length-map f.decls.items decl_data)))
      ∙ ap (λ fs. rows files ++ map none_of_file (map file_data fs)) (sym (drop_next slice i f l e))
      ∙ goes
    where
      left : List (List Bool)
      left = map none_of_file (map file_data (drop (i + 1) slice))

  module _ (i : ℕ) (files : Files) (l : length slice ≤ i) (goes : NewGoes p slice i files) where
    all_none : (file : ℕ) → of_file files file ≡ replicate (length (decls_at (program_data p) file)) false
    all_none file =
        rows_at files file
        ∙ ap (λ rs. unwrap_or (slice_get rs file) [])
        (sym (ap (λ fs. rows files ++ map none_of_file (map file_data fs)) (drop_all slice i l) ∙ append_nil (rows files)) ∙ goes)
        ∙ none_at (program_data p).files file

    pub new_none : (file decl : ℕ) → flag_at (of_file files file) decl ≡ false
    new_none file decl =
        ap (λ flags. flag_at flags decl) (all_none file) ∙ none_seen (length (decls_at (program_data p) file)) decl

    pub new_size : (file : ℕ) → length (of_file files file) ≡ length (decls_at (program_data p) file)
    new_size file = ap (λ flags. length flags) (all_none file) ∙ none_size (length (decls_at (program_data p) file))
