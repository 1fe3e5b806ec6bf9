-- Worked examples, which pin down what names stand for.
use Prim.Native.String.{String as Letters}
use Rattle.std.proofs.Common.{◌≡◌, true, List, [], ◌∷◌, reverse, Some, None, Ok, Err, codes, refl}
use Rattle.dscript_program.specs.Ambient.{written_name}
use Rattle.dscript_ast.specs.ExprTree as tree
use Rattle.dscript_ast.specs.declared.file.Mark.{Mark}
use Rattle.dscript_ast.specs.declared.file.Mark.TheVariants as marks
use Rattle.dscript_program.specs.declared.spec_fault.SpecKind.TheVariants as faults
use Rattle.dscript_program.specs.ProgramData.{Dotted}
use Rattle.dscript_program.specs.declared.target.Target.TheVariants as targets
use Rattle.dscript_names_scopes.specs.Lookup.{Site, beginnings, found_outside, import_fault, in_namespaces, in_other_module}
use Rattle.dscript_names_scopes.specs.Names.{FileNames, World}
use Rattle.dscript_names_scopes.specs.declared.names.Declared.{Declared}

abbrev letters : List Letters → Dotted
letters [] = []
letters (x ∷ xs) = codes x ∷ letters xs

abbrev value : Mark → List Letters → Declared
value mark names = record { name = letters names; mark = mark; is_value = true }

-- a file of the first module with these declarations, which opens these namespaces
abbrev file_of : List Letters → List Declared → FileNames
file_of opened decls = record { module_number = 0; decls = decls; opened = letters opened; imports = [] }

-- one module of these files
abbrev world_of : List FileNames → World
world_of files = record { modules = codes "A" ∷ []; files = files }

-- namespace A.B.C { const x = ..; const y = C.x; }: the name is looked for in A.B too
nested : in_namespaces 0 (file_of ("A" ∷ []) (value marks.Plain ("A" ∷ "B" ∷ "C" ∷ "x" ∷ []) ∷ []))
    (reverse (beginnings (letters ("A" ∷ "B" ∷ "C" ∷ [])))) (letters ("C" ∷ "x" ∷ []))
    ≡ Some (record { target = targets.Declared 0 0; parts = 1 })
nested = refl

-- N.x is not public and N.x.y is: from another module N.x.y.z is the member z of N.x.y
shortest_public : in_other_module
    (world_of (file_of ("N" ∷ []) (value marks.Plain ("N" ∷ "x" ∷ [])
    ∷ value marks.Public ("N" ∷ "x" ∷ "y" ∷ []) ∷ []) ∷ []))
    0 1 (letters ("N" ∷ "x" ∷ "y" ∷ "z" ∷ []))
    ≡ Ok (record { target = targets.Declared 0 1; parts = 3 })
shortest_public = refl

-- N is a value that is not public, so N.y is not public, also where there is no N.y
hidden_prefix : in_other_module (world_of (file_of [] (value marks.Export ("N" ∷ []) ∷ []) ∷ []))
    0 1 (letters ("N" ∷ "y" ∷ []))
    ≡ Err faults.NotPublic
hidden_prefix = refl

-- namespace N { namespace M { .. } }: a name in braces may be N, and not M
inner_namespace : import_fault (world_of (file_of ("N" ∷ []) [] ∷ [])) (codes "A") (codes "M")
    ≡ Some faults.UnknownName
inner_namespace = refl

outer_namespace : import_fault (world_of (file_of ("N" ∷ []) [] ∷ [])) (codes "A") (codes "N") ≡ None
outer_namespace = refl

-- in a namespace N of another file x is not the N.x that a file of the module exports, and N.x is
abbrev exports : World
exports = world_of (file_of [] [] ∷ file_of ("N" ∷ []) (value marks.Export ("N" ∷ "x" ∷ []) ∷ []) ∷ [])

abbrev in_n : Site
in_n = record { number = 0; file = file_of [] []; around = letters ("N" ∷ []) }

no_relative : found_outside exports in_n (codes "x") tree.no_parts ≡ Err faults.UnknownName
unfolding found_outside written_name
no_relative = refl

whole_name : found_outside exports in_n (codes "N") (tree.more_parts (tree.Member (codes "x")) tree.no_parts)
    ≡ Ok (record { target = targets.Declared 1 0; parts = 1 })
unfolding found_outside written_name
whole_name = refl
