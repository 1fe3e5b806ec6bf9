-- Declared types that are found by a name.
use Rattle.std.proofs.Common.{◌≡◌, ℕ, zero, suc, ◌+◌, Bool, true, false, List, [], ◌∷◌, ◌++◌, Option, Some, None, cond, refl, ap, sym, ◌∙◌, subst, arith}
use Rattle.std.specs.BTreeMap.{BTreeMap}
use Rattle.std.specs.List.{AllZip, position_from, slice_get}
use Rattle.std.specs.Option.{option_map, option_or}
use Rattle.std.specs.Prelude.{◌==◌, ◌&&◌}
use Rattle.std.proofs.lemmas.Iterator.Adapters.{position_from-zero}
use Rattle.bx_tree.specs.Paths.{same_path}
use Rattle.dscript_ast.specs.declared.file.Mark.{Mark}
use Rattle.dscript_program.specs.ProgramData as declared
use Rattle.dscript_program.specs.ProgramData.{DeclData, Dotted, FileData, KindData, ProgramData}
use Rattle.dscript_names_scopes.specs.Declarations.{is_any, is_exported}
use Rattle.dscript_types_known.specs.Tables.{ask_of}
use Rattle.dscript_types_meaning.specs.Contexts.{Meaning}
use Rattle.dscript_types_meaning.specs.Lookups.{Place, decl_at, decls_at, decls_in, found_type, in_file, in_module, in_namespaces, is_type, is_type_of, module_at, outwards, shortest, type_in}
use Rattle.dscript_types_notes.specs.Found.{found_in, outwards_in}
use Rattle.dscript_types_notes.specs.Names.{HasTypesOf, IsIndexOf, at_file, at_name_of}
use Rattle.dscript_types_notes.specs.declared.names.TypeNames.{TypeNames}
use Rattle.dscript_types_notes.specs.declared.spaces.Space.TheVariants as spaces
use Rattle.dscript_types_notes.proofs.Shorter.{outwards_found, placed, same_shortest}

-- ## Tables

zip_tables
    : (fs : List FileData) (ts : List (BTreeMap Dotted ℕ)) → AllZip (λ (f : FileData) t. HasTypesOf f.decls t) fs ts
    → (i : ℕ) (name : Dotted) → at_name_of (slice_get ts i) name ≡ type_in is_any (decls_in (slice_get fs i)) name
zip_tables [] [] h i name = refl
zip_tables [] (t ∷ ts) h i name = absurd h
zip_tables (f ∷ fs) [] h i name = absurd h
zip_tables (f ∷ fs) (t ∷ ts) h zero name = h.0 name
zip_tables (f ∷ fs) (t ∷ ts) h (suc i) name = zip_tables fs ts h.1 i name

pub file_table
    : (p : ProgramData) (names : TypeNames) → IsIndexOf p names → (file : ℕ) (name : Dotted)
    → at_file names file name ≡ type_in is_any (decls_at p file) name
file_table p names is file name = zip_tables p.files names.files.items is.files file name

-- what is found by the tables
pub found_by
    : (p : ProgramData) (names : TypeNames) → IsIndexOf p names → (file : ℕ) (before written : Dotted)
    → option_or (outwards_in (found_in names (spaces.File file)) (outwards before) written)
    (shortest (found_in names (spaces.Module (module_at p file))) [] written)
    ≡ found_type p file before written
unfolding found_type
found_by p names is file before written =
    ap (λ (o : Option (Place × Dotted)). option_or o (shortest (found_in names (spaces.Module (module_at p file))) [] written))
    (outwards_found file (found_in names (spaces.File file)) (decls_at p file) (outwards before) written
    (λ d. ap (placed file) (file_table p names is file d)))
    ∙ ap (option_or (in_file file (in_namespaces (decls_at p file) (outwards before) written)))
    (same_shortest (found_in names (spaces.Module (module_at p file))) (in_module (module_at p file) 0 p.files)
    (λ d. is.modules (module_at p file) d) [] written)

-- ## What is found is a type

-- the element at a place passes a test
record IsFirstAt {X : Type 0} (p : X → Bool) (n : ℕ) (xs : List X) (i : ℕ) : Type 0 where
  pub place : ℕ
  pub element : X
  pub counted : i ≡ n + place
  pub at : slice_get xs place ≡ Some element
  pub passes : p element ≡ true

first_here
    : {X : Type 0} (p : X → Bool) (n : ℕ) (x : X) (xs : List X) (i : ℕ) (test : Bool) → p x ≡ test
    → (position_from p (n + 1) xs ≡ Some i → IsFirstAt p (n + 1) xs i)
    → cond test (Some n) (position_from p (n + 1) xs) ≡ Some i → IsFirstAt p n (x ∷ xs) i
first_here p n x xs i true is further e =
    let same : n ≡ i = cc in
    record { place = 0; element = x; counted = omega (arith, same); at = refl; passes = is }
first_here p n x xs i false is further e =
    let r = further e in
    record { place = suc r.place; element = r.element; counted = omega (arith, r.counted); at = r.at; passes = r.passes }

first_at : {X : Type 0} (p : X → Bool) (n : ℕ) (xs : List X) (i : ℕ) → position_from p n xs ≡ Some i → IsFirstAt p n xs i
first_at p n [] i e = cc
first_at p n (x ∷ xs) i e = first_here p n x xs i (p x) refl (first_at p (n + 1) xs i) e

is_first : (a b c : Bool) → ((a && b) && c) ≡ true → a ≡ true
is_first true b c e = refl
is_first false b c e = e

-- the declaration at a place is of a type
pub record IsTypeAt (p : ProgramData) (place : Place) : Type 0 where
  pub decl : DeclData
  pub at : decl_at p place.0 place.1 ≡ Some decl
  pub is : is_type decl.kind ≡ true

-- among these declarations
record IsTypeIn (decls : List DeclData) (number : ℕ) : Type 0 where
  pub decl : DeclData
  pub at : slice_get decls number ≡ Some decl
  pub is : is_type decl.kind ≡ true

type_there
    : (sees : Mark → Bool) (decls : List DeclData) (name : Dotted) (k : ℕ) → type_in sees decls name ≡ Some k
    → IsTypeIn decls k
type_there sees decls name k e =
    let r = first_at (is_type_of sees name) 0 decls k (sym (position_from-zero (is_type_of sees name) decls) ∙ e) in
    let same : k ≡ r.place = omega (arith, r.counted) in
    record {
      decl = r.element;
      at = ap (slice_get decls) same ∙ r.at;
      is = is_first (is_type r.element.kind) (sees r.element.mark) (same_path r.element.name name) r.passes;
    }

some_first : {X : Type 0} (y : X) (names : Dotted) (found : X × Dotted) → ◌≡◌ {A = Option (X × Dotted)} (Some (y, names)) (Some found) → y ≡ found.0
some_first {X} y names found e =
    let same : ◌≡◌ {A = X × Dotted} (y, names) found = cc in
    ap (λ (r : X × Dotted). r.0) same

-- what holds of what is found of each name also holds of what is found of the shortest prefix
module _ {X : Type 0} (P : X → Type 0) (find : Dotted → Option X) (each : (d : Dotted) (x : X) → find d ≡ Some x → P x) where
  prefix_is
      : (before : Dotted) (x : List ℕ) (names : Dotted) (found : X × Dotted) (o : Option X) → find (before ++ x ∷ []) ≡ o
      → (shortest find (before ++ x ∷ []) names ≡ Some found → P found.0)
      → option_or (option_map (λ (y : X). (y, names)) o) (shortest find (before ++ x ∷ []) names) ≡ Some found → P found.0
  prefix_is before x names found None is further e = further e
  prefix_is before x names found (Some y) is further e = subst P (some_first y names found e) (each (before ++ x ∷ []) y is)

  shortest_is : (before written : Dotted) (found : X × Dotted) → shortest find before written ≡ Some found → P found.0
  shortest_is before [] found e = cc
  shortest_is before (x ∷ names) found e =
      prefix_is before x names found (find (before ++ x ∷ [])) refl (shortest_is (before ++ x ∷ []) names found) e

inner_is
    : (decls : List DeclData) (b : Dotted) (more : List Dotted) (written : Dotted) (found : ℕ × Dotted)
    (o : Option (ℕ × Dotted)) → shortest (type_in is_any decls) b written ≡ o
    → (in_namespaces decls more written ≡ Some found → IsTypeIn decls found.0)
    → option_or o (in_namespaces decls more written) ≡ Some found → IsTypeIn decls found.0
inner_is decls b more written found None is further e = further e
inner_is decls b more written found (Some r) is further e =
    shortest_is (IsTypeIn decls) (type_in is_any decls) (λ d k at. type_there is_any decls d k at) b written found (is ∙ e)

namespaces_are
    : (decls : List DeclData) (ds : List Dotted) (written : Dotted) (found : ℕ × Dotted)
    → in_namespaces decls ds written ≡ Some found → IsTypeIn decls found.0
namespaces_are decls [] written found e = cc
namespaces_are decls (b ∷ more) written found e =
    inner_is decls b more written found (shortest (type_in is_any decls) b written) refl
    (namespaces_are decls more written found) e

-- among the files from a number on
record IsTypeFrom (files : List FileData) (n : ℕ) (place : Place) : Type 0 where
  pub file : ℕ
  pub counted : place.0 ≡ n + file
  pub is : IsTypeIn (decls_in (slice_get files file)) place.1

later
    : (m n : ℕ) (f : FileData) (fs : List FileData) (place : Place) → IsTypeFrom fs (n + 1) place → IsTypeFrom (f ∷ fs) n place
later m n f fs place r = record { file = suc r.file; counted = omega (arith, r.counted); is = r.is }

file_has
    : (m n : ℕ) (f : FileData) (fs : List FileData) (name : Dotted) (place : Place) (own : Bool) (o : Option ℕ)
    → type_in is_exported f.decls name ≡ o
    → (in_module m (n + 1) fs name ≡ Some place → IsTypeFrom fs (n + 1) place)
    → option_or (cond own (option_map (λ (decl : ℕ). (n, decl)) o) None) (in_module m (n + 1) fs name) ≡ Some place
    → IsTypeFrom (f ∷ fs) n place
file_has m n f fs name place false o is further e = later m n f fs place (further e)
file_has m n f fs name place true None is further e = later m n f fs place (further e)
file_has m n f fs name place true (Some k) is further e =
    let same : ◌≡◌ {A = Place} (n, k) place = cc in
    let number : n ≡ place.0 = ap (λ (r : Place). r.0) same in
    record {
      file = 0;
      counted = omega (arith, number);
      is = subst (IsTypeIn f.decls) (ap (λ (r : Place). r.1) same) (type_there is_exported f.decls name k is);
    }

module_has
    : (m n : ℕ) (files : List FileData) (name : Dotted) (place : Place) → in_module m n files name ≡ Some place
    → IsTypeFrom files n place
module_has m n [] name place e = cc
module_has m n (f ∷ fs) name place e =
    file_has m n f fs name place (f.module_number == m) (type_in is_exported f.decls name) refl
    (module_has m (n + 1) fs name place) e

type_at : (p : ProgramData) (place : Place) → IsTypeIn (decls_at p place.0) place.1 → IsTypeAt p place
type_at p place r = record { decl = r.decl; at = r.at; is = r.is }

module_is
    : (p : ProgramData) (m : ℕ) (d : Dotted) (place : Place) → in_module m 0 p.files d ≡ Some place → IsTypeAt p place
module_is p m d place e =
    let r = module_has m 0 p.files d place e in
    let same : r.file ≡ place.0 = omega (arith, r.counted) in
    type_at p place (subst (λ (k : ℕ). IsTypeIn (decls_in (slice_get p.files k)) place.1) same r.is)

-- what is found by a name is a type
pub found_is
    : (p : ProgramData) (file : ℕ) (before written : Dotted) (found : Place × Dotted)
    → found_type p file before written ≡ Some found → IsTypeAt p found.0
unfolding found_type
found_is p file before written found e =
    one_is p file before written found (in_namespaces (decls_at p file) (outwards before) written) refl e
  where
    one_is
        : (p : ProgramData) (file : ℕ) (before written : Dotted) (found : Place × Dotted) (o : Option (ℕ × Dotted))
        → in_namespaces (decls_at p file) (outwards before) written ≡ o
        → option_or (in_file file o) (shortest (in_module (module_at p file) 0 p.files) [] written) ≡ Some found
        → IsTypeAt p found.0
    one_is p file before written found None is e =
        shortest_is (IsTypeAt p) (in_module (module_at p file) 0 p.files) (λ d place at. module_is p (module_at p file) d place at)
        [] written found e
    one_is p file before written found (Some r) is e =
        let same : ◌≡◌ {A = Place × Dotted} ((file, r.0), r.1) found = cc in
        subst (IsTypeAt p) (ap (λ (q : Place × Dotted). q.0) same)
        (type_at p (file, r.0) (namespaces_are (decls_at p file) (outwards before) written r is))

pub asks_meaning : (file decl : ℕ) (kind : KindData) → is_type kind ≡ true → ask_of file decl kind ≡ Meaning file decl
asks_meaning file decl (declared.Const t e) is = cc
asks_meaning file decl (declared.Function ts t number) is = cc
asks_meaning file decl (declared.Interface ts es ms) is = refl
asks_meaning file decl (declared.TypeAlias ts t) is = refl
