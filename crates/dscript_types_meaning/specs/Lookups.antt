-- What a program has at a number, and where it declares a type.
use Rattle.std.specs.Prelude.{ℕ, ◌+◌, ◌==◌, ◌&&◌, Bool, true, false, if◌then◌else◌, List, [], ◌∷◌, ◌++◌}
use Rattle.std.specs.Prelude.{position, reverse, slice_get, Option, Some, None}
use Rattle.std.specs.Option.{option_map, option_or}
use Rattle.bx_tree.specs.Paths.{same_path}
use Rattle.dscript_ast.specs.declared.file.Mark.{Mark}
use Rattle.dscript_names_scopes.specs.Declarations.{is_any, is_exported}
use Rattle.dscript_names_scopes.specs.Lookup.{beginnings}
use Rattle.dscript_program.specs.ProgramData as declared
use Rattle.dscript_program.specs.ProgramData.{Dotted, DeclData, FileData, FunctionData, KindData, ProgramData}

-- ## By number

abbrev pub decls_in : Option FileData → List DeclData
decls_in None = []
decls_in (Some file) = file.decls

abbrev pub decls_at : ProgramData → ℕ → List DeclData
decls_at p file = decls_in (slice_get p.files file)

abbrev pub decl_at : ProgramData → ℕ → ℕ → Option DeclData
decl_at p file decl = slice_get (decls_at p file) decl

abbrev pub function_at : ProgramData → ℕ → Option FunctionData
function_at p number = slice_get p.functions number

abbrev pub module_in : Option FileData → ℕ
module_in None = 0
module_in (Some file) = file.module_number

abbrev pub module_at : ProgramData → ℕ → ℕ
module_at p file = module_in (slice_get p.files file)

-- the namespaces around a declaration with a dotted name
abbrev pub around : Dotted → Dotted
around [] = []
around (x ∷ []) = []
around (x ∷ y ∷ names) = x ∷ around (y ∷ names)

-- ## Types by name

-- interfaces and aliases declare types
abbrev pub is_type : KindData → Bool
is_type (declared.Const t e) = false
is_type (declared.Function ts t number) = false
is_type (declared.Interface ts es ms) = true
is_type (declared.TypeAlias ts t) = true

abbrev pub is_type_of : (Mark → Bool) → Dotted → DeclData → Bool
is_type_of sees name d = is_type d.kind && sees d.mark && same_path d.name name

-- the number of the first type of this dotted name with such a mark
abbrev pub type_in : (Mark → Bool) → List DeclData → Dotted → Option ℕ
type_in sees decls name = position (is_type_of sees name) decls

-- The shortest prefix of the names, after those before them, that is found, and the names that are left over.
abbrev pub shortest : {X : Type 0} → (Dotted → Option X) → Dotted → Dotted → Option (X × Dotted)
shortest find before [] = None
shortest find before (x ∷ names) =
    option_or (option_map (λ found. (found, names)) (find (before ++ x ∷ [])))
    (shortest find (before ++ x ∷ []) names)

-- the namespaces that are open within these, from the innermost outwards
abbrev pub outwards : Dotted → List Dotted
outwards names = reverse (beginnings names)

-- in these namespaces of a file, one after another
abbrev pub in_namespaces : List DeclData → List Dotted → Dotted → Option (ℕ × Dotted)
in_namespaces decls [] written = None
in_namespaces decls (before ∷ more) written =
    option_or (shortest (type_in is_any decls) before written) (in_namespaces decls more written)

-- the numbers of file and declaration
abbrev pub Place : Type 0
Place = ℕ × ℕ

-- among the types that the files of a module export, from the file of this number on
abbrev pub in_module : ℕ → ℕ → List FileData → Dotted → Option Place
in_module m n [] name = None
in_module m n (f ∷ fs) name =
    option_or
    (if f.module_number == m then option_map (λ decl. (n, decl)) (type_in is_exported f.decls name) else None)
    (in_module m (n + 1) fs name)

abbrev pub in_file : ℕ → Option (ℕ × Dotted) → Option (Place × Dotted)
in_file file found = option_map (λ r. ((file, r.0), r.1)) found

-- The type of a dotted name, with the names that are left over: in the namespaces outwards of the file, and then
-- among the types that the module exports. Types of other modules are not found.
unfoldable pub found_type : ProgramData → ℕ → Dotted → Dotted → Option (Place × Dotted)
found_type p file before written =
    option_or (in_file file (in_namespaces (decls_at p file) (outwards before) written))
    (shortest (in_module (module_at p file) 0 p.files) [] written)
