-- Which files are typed.
use Rattle.std.proofs.Common.{◌≡◌, ℕ, zero, suc, ◌+◌, ◌<◌, ◌≤◌, ◌&&◌, inl, inr, Bool, true, false, List, [], ◌∷◌, Option, Some, None, drop, get_or, length, map, slice_get, refl, ap, sym, subst, ◌∙◌, arith}
use Rattle.std.proofs.lemmas.Bool.{cases_lt}
use Rattle.std.proofs.lemmas.List.{length-map}
use Rattle.std.proofs.lemmas.List.Sums.{sum_by-cons}
use Rattle.std.specs.List.{list_all, sum_by}
use Rattle.dscript_program.specs.ProgramData.{DeclData, FileData, ProgramData}
use Rattle.dscript_program.specs.Views.{decl_data, file_data, function_data, program_data}
use Rattle.dscript_program.specs.declared.program.BoundDecl.{BoundDecl}
use Rattle.dscript_program.specs.declared.program.BoundFile.{BoundFile}
use Rattle.dscript_program.specs.declared.program.Function.{Function}
use Rattle.dscript_program.specs.declared.program.Program.{Program}
use Rattle.dscript_types_exprs.specs.Bodies.{DeclIsRight}
use Rattle.dscript_types_scenes.specs.Scenes.{Closed}
use Rattle.dscript_types_scenes.specs.Typings.{FromOn}
use Rattle.dscript_types_meaning.specs.Lookups.{decls_at, decls_in}
use Rattle.dscript_types_meaning.specs.Typed.{IsTyped, decl_has_types, is_typed_file, reach}
use Rattle.dscript_types_notes.specs.Means.{program_of}
use Rattle.dscript_types_notes.specs.declared.world.World.{World}
use Rattle.dscript_types_notes.proofs.Meant.{drop_all, drop_next}
use Rattle.dscript_types.specs.Passes.{IsFull, IsUntypedFirst}
use Rattle.dscript_types.specs.Visits.{count_of, has_seen}
use Rattle.dscript_types.specs.declared.visits.Visits.{Visits}

-- ## One declaration

-- in a table in which nothing is open
all_closed : (w : World) (n : ℕ) → IsFull w.table.now → Closed w n
all_closed w n full fewer l file decl d there e = absurd (full file decl e)

same_from : (right : Option ℕ) (n : ℕ) (a b : Bool) → FromOn right n a → FromOn right n b → a ≡ b
same_from None n a b first second = first ∙ sym second
same_from (Some from) n a b first second = elim (cases_lt n from) [
  | inl less ↦ first.1 less ∙ sym (second.1 less)
  | inr more ↦ first.0 more ∙ sym (second.0 more)
]

pub decl_is
    : (w : World) (file : ℕ) (d : DeclData) (right : Option ℕ) (holds : Bool) → IsFull w.table.now → DeclIsRight w file d right
    → FromOn right w.left holds → decl_has_types (program_of w) w.left file d ≡ holds
decl_is w file d right holds full are from =
    same_from right w.left (decl_has_types (program_of w) w.left file d) holds (are w.left (omega arith) (all_closed w w.left full)) from

-- ## All declarations of a file

module _ (w : World) (file : ℕ) (decls : List BoundDecl) where
  abbrev test : DeclData → Bool
  test d = decl_has_types (program_of w) w.left file d

  -- whether these have types is whether all have
  abbrev pub DeclsGo : ℕ → Type 0
  DeclsGo i = list_all test (map decl_data (drop i decls)) ≡ list_all test (map decl_data decls)

  pub decls_go
      : (i : ℕ) (d : BoundDecl) → i < length decls → d ≡ get_or decls i d → test (decl_data d) ≡ true → DeclsGo i → DeclsGo (i + 1)
  decls_go i d l e passed goes =
      ap (λ b. b && list_all test (map decl_data (drop (i + 1) decls))) (sym passed)
      ∙ ap (λ ds. list_all test (map decl_data ds)) (sym (drop_next decls i d l e))
      ∙ goes

  module _ (whole : w.left ≡ reach (program_of w)) (there : decls_at (program_of w) file ≡ map decl_data decls) where
    typed_is : list_all test (map decl_data decls) ≡ is_typed_file (program_of w) file
    typed_is =
        ap (λ n. list_all (λ d. decl_has_types (program_of w) n file d) (map decl_data decls)) whole
        ∙ ap (list_all (decl_has_types (program_of w) (reach (program_of w)) file)) (sym there)

    pub decls_fail
        : (i : ℕ) (d : BoundDecl) → i < length decls → d ≡ get_or decls i d → test (decl_data d) ≡ false → DeclsGo i
        → false ≡ is_typed_file (program_of w) file
    decls_fail i d l e fails goes =
        ap (λ b. b && list_all test (map decl_data (drop (i + 1) decls))) (sym fails)
        ∙ ap (λ ds. list_all test (map decl_data ds)) (sym (drop_next decls i d l e))
        ∙ goes ∙ typed_is

    pub decls_end : (i : ℕ) → length decls ≤ i → DeclsGo i → true ≡ is_typed_file (program_of w) file
    decls_end i l goes = ap (λ ds. list_all test (map decl_data ds)) (sym (drop_all decls i l)) ∙ goes ∙ typed_is

-- ## All files

-- the files before this one are typed
abbrev pub TypedTo : ProgramData → ℕ → Type 0
TypedTo p file = (earlier : ℕ) → earlier < file → is_typed_file p earlier ≡ true

pub typed_more : (p : ProgramData) (file : ℕ) → is_typed_file p file ≡ true → TypedTo p file → TypedTo p (file + 1)
typed_more p file passed goes earlier l = elim (cases_lt earlier file) [
  | inl less ↦ goes earlier less
  | inr more ↦ let same : file ≡ earlier = omega (arith, l, more) in subst (λ (k : ℕ). is_typed_file p k ≡ true) same passed
]

pub typed_all : (p : ProgramData) (file : ℕ) → length p.files ≤ file → TypedTo p file → IsTyped p
typed_all p file l goes k within = goes k (omega (arith, l, within))

get_file : (fs : List BoundFile) (i : ℕ) (f : BoundFile) → i < length fs → f ≡ get_or fs i f → slice_get (map file_data fs) i ≡ Some (file_data f)
get_file [] i f l e = absurd (omega (arith, l))
get_file (g ∷ fs) zero f l e = ap (λ (h : BoundFile). Some (file_data h)) (sym e)
get_file (g ∷ fs) (suc i) f l e = get_file fs i f (omega (arith, l)) e

module _ (p : Program) (slice : List BoundFile) (same : slice ≡ p.files.items) (i : ℕ) (f : BoundFile) (l : i < length slice)
    (e : f ≡ get_or slice i f) where
  pub file_there : slice_get (program_data p).files i ≡ Some (file_data f)
  file_there = ap (λ fs. slice_get (map file_data fs) i) (sym same) ∙ get_file slice i f l e

  pub decls_there : decls_at (program_data p) i ≡ map decl_data f.decls.items
  decls_there = ap decls_in file_there

  -- its declarations, where its number and they are said in another way
  module _ (n : ℕ) (number : n ≡ i) (ds : List BoundDecl) (decls : ds ≡ f.decls.items) where
    pub file_decls : decls_at (program_data p) n ≡ map decl_data ds
    file_decls = ap (decls_at (program_data p)) number ∙ decls_there ∙ ap (map decl_data) (sym decls)

    file_length : length (decls_at (program_data p) n) ≡ length ds
    file_length = ap (λ xs. length xs) file_decls ∙ length-map ds decl_data

    pub file_size
        : (now before : Visits) → ((k : ℕ) → count_of now k ≡ count_of before k)
        → ((k : ℕ) → count_of before k ≡ length (decls_at (program_data p) k)) → count_of now n ≡ length ds
    file_size now before same first = same n ∙ first n ∙ file_length

    pub file_seen
        : (later : Visits) → ((decl : ℕ) → decl < length ds → has_seen later n decl ≡ true) → (decl : ℕ)
        → decl < length (decls_at (program_data p) i) → has_seen later i decl ≡ true
    file_seen later seen decl less =
        subst (λ (k : ℕ). has_seen later k decl ≡ true) number
        (seen decl (omega (arith, less, file_length, ap (λ (k : ℕ). length (decls_at (program_data p) k)) number)))

  pub untyped_first : is_typed_file (program_data p) i ≡ false → TypedTo (program_data p) i → IsUntypedFirst (program_data p) f
  untyped_first fails goes = record {
    number = i;
    file = file_data f;
    is = file_there;
    at = refl;
    untyped = fails;
    before = goes;
  }

-- ## How far a program reaches

abbrev decl_count : FileData → ℕ
decl_count f = length f.decls

-- what is counted, and what is left to count
abbrev pub ReachGoes : Program → List BoundFile → ℕ → ℕ → Type 0
ReachGoes p slice i count =
    count + sum_by decl_count (map file_data (drop i slice)) ≡ length (program_data p).functions + sum_by decl_count (program_data p).files

module _ (p : Program) (slice : List BoundFile) where
  pub reach_begins
      : (functions : List Function) (count : ℕ) → slice ≡ p.files.items → functions ≡ p.functions.items → count ≡ length functions
      → ReachGoes p slice 0 count
  reach_begins functions count same has counted =
      omega (
        arith,
        counted,
        length-map functions function_data,
        ap (λ fs. length (map function_data fs)) has,
        ap (λ fs. sum_by decl_count (map file_data fs)) same,
      )

  pub reach_goes
      : (i : ℕ) (f : BoundFile) (count next more : ℕ) → i < length slice → f ≡ get_or slice i f → more ≡ length f.decls.items
      → next ≡ count + more → ReachGoes p slice i count → ReachGoes p slice (i + 1) next
  reach_goes i f count next more l e size is goes =
      omega (
        arith,
        goes,
        is,
        size,
        length-map f.decls.items decl_data,
        ap (λ fs. sum_by decl_count (map file_data fs)) (drop_next slice i f l e),
        sum_by-cons decl_count (file_data f) (map file_data (drop (i + 1) slice)),
      )

  pub reach_ends
      : (i count total : ℕ) → length slice ≤ i → total ≡ count + count → ReachGoes p slice i count → total ≡ reach (program_data p)
  reach_ends i count total l is goes =
      omega (arith, goes, is, ap (λ fs. sum_by decl_count (map file_data fs)) (drop_all slice i l))
