-- Which programs are typed.
use Rattle.std.specs.Prelude.{◌≡◌, ℕ, zero, suc, ◌+◌, ◌*◌, ◌<◌, Bool, true, false, [], length, slice_get, sum_by}
use Rattle.std.specs.Prelude.{Option, Some, None}
use Rattle.std.specs.Option.{option_and_then}
use Rattle.std.specs.List.{list_all}
use Rattle.bx_tree.specs.Paths.{Atoms}
use Rattle.dscript_program.specs.ProgramData as declared
use Rattle.dscript_program.specs.ProgramData.{DeclData, FileData, FunctionData, KindData, ProgramData}
use Rattle.dscript_types_meaning.specs.Types.{TypeData}
use Rattle.dscript_types_meaning.specs.Contexts.{Ask, Answer, Callback, Constant, Context, Known, Meaning}
use Rattle.dscript_types_meaning.specs.Contexts.{Standing, Types}
use Rattle.dscript_types_meaning.specs.Lookups.{decl_at, decls_at, function_at}
use Rattle.dscript_types_meaning.specs.Annotations.{declared_type}
use Rattle.dscript_types_meaning.specs.Functions.{context_of, function_context}
use Rattle.dscript_types_meaning.specs.Bodies.{Use, answered, decl_uses, inferred, standing_uses, type_of_value}
use Rattle.dscript_types_meaning.specs.Bodies.{use_type}

-- ## What is known

-- the number of a declared function in the table
abbrev pub number_of : KindData → Option ℕ
number_of (declared.Function ts annotation number) = Some number
number_of _ = None

module _ (p : ProgramData) (known : Known) where
  -- an interface or an alias
  abbrev pub meaning_of_decl : ℕ → Option DeclData → Option TypeData
  meaning_of_decl file None = None
  meaning_of_decl file (Some d) = declared_type p known (context_of file d []) d.kind

  -- a constant
  abbrev pub constant_of_kind : ℕ → DeclData → KindData → Option TypeData
  constant_of_kind file d (declared.Const annotation e) = type_of_value p known (context_of file d []) e annotation
  constant_of_kind file d _ = None

  abbrev pub constant_of_decl : ℕ → Option DeclData → Option TypeData
  constant_of_decl file None = None
  constant_of_decl file (Some d) = constant_of_kind file d d.kind

  -- a declared function
  abbrev pub answer_of_function : ℕ → DeclData → KindData → Option FunctionData → Option TypeData
  answer_of_function file d (declared.Function ts annotation number) (Some f) =
      answered p known (function_context p known file d ts f) f.body annotation
  answer_of_function file d _ _ = None

  abbrev pub answer_of_decl : ℕ → Option DeclData → Option TypeData
  answer_of_decl file None = None
  answer_of_decl file (Some d) =
      answer_of_function file d d.kind (option_and_then (function_at p) (number_of d.kind))

  -- a callback
  abbrev pub answer_of_callback : Context → Option FunctionData → Option TypeData
  answer_of_callback c None = None
  answer_of_callback c (Some f) = inferred p known c f.body

  -- what is found where this is known
  abbrev pub found : Ask → Option TypeData
  found (Meaning file decl) = meaning_of_decl file (decl_at p file decl)
  found (Constant file decl) = constant_of_decl file (decl_at p file decl)
  found (Answer file decl) = answer_of_decl file (decl_at p file decl)
  found (Callback number c) = answer_of_callback c (function_at p number)

-- What is known where at most this many declarations and callbacks are looked into, each for the one before.
unfoldable pub known_within : ProgramData → ℕ → Known
known_within p zero ask = None
known_within p (suc n) ask = found p (known_within p n) ask

-- Twice as many as a program has functions and declarations. Where as many as it has are looked into, and still another
-- is needed, one of them needs its own type to find it. As many again are there for the bodies of callbacks, one in
-- another, for each of which one less is looked into.
abbrev pub reach : ProgramData → ℕ
reach p = 2 * (length p.functions + sum_by (λ (f : FileData). length f.decls) p.files)

-- what is known in a program
abbrev pub known_in : ProgramData → Known
known_in p = known_within p (reach p)

-- ## Expressions without a type

-- whether there is a type, and the body of each callback in the expression passes a test
abbrev pub with_bodies_that : (Standing → Bool) → Types TypeData → Bool
with_bodies_that test None = false
with_bodies_that test (Some r) = list_all test r.1

-- Whether each expression in the body of a callback passes a test, where this many may be looked into for the
-- expression that the callback stands in. For the body it is one less, as it is for what the callback answers.
abbrev pub body_passes : ProgramData → ℕ → (Use → Bool) → Standing → Bool
body_passes p zero test body = false
body_passes p (suc n) test body = list_all test (standing_uses p (known_within p n) body)

-- Whether an expression has a type where it stands, and so has each expression in the bodies of the callbacks in it,
-- where less than this many may be looked into.
unfoldable pub has_type : ProgramData → ℕ → Use → Bool
has_type p zero u = false
has_type p (suc n) u =
    with_bodies_that (body_passes p n (λ v. has_type p n v)) (use_type p (known_within p n) u)

-- whether each expression of a declaration, and of a file, has a type, where this many may be looked into
abbrev pub decl_has_types : ProgramData → ℕ → ℕ → DeclData → Bool
decl_has_types p n file d = list_all (has_type p (suc n)) (decl_uses p (known_within p n) file d)

abbrev pub file_has_types : ProgramData → ℕ → ℕ → Bool
file_has_types p n file = list_all (decl_has_types p n file) (decls_at p file)

-- whether each expression of the file with this number has a type
abbrev pub is_typed_file : ProgramData → ℕ → Bool
is_typed_file p file = file_has_types p (reach p) file

-- ## Programs

-- each expression of the program has a type
abbrev pub IsTyped : ProgramData → Type 0
IsTyped p = (file : ℕ) → file < length p.files → is_typed_file p file ≡ true

-- The file with this path is the first in which some expression has no type, in the order of the program. The files
-- of a workspace are in the order of their paths.
pub record IsFirstUntyped (p : ProgramData) (path : Atoms) : Type 0 where
  pub number : ℕ
  pub file : FileData
  pub is : slice_get p.files number ≡ Some file
  pub at : file.path ≡ path
  pub untyped : is_typed_file p number ≡ false
  pub before : (earlier : ℕ) → earlier < number → is_typed_file p earlier ≡ true
