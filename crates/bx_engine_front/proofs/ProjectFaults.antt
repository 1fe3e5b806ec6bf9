-- Project files are all well-formed, with one list of syntax trees, or have one first fault.
use Rattle.std.proofs.Common.{◌≡◌, ℕ, ◌⊎◌, inl, inr, List, [], ◌∷◌, refl, ap, sym, ◌∙◌}
use Rattle.std.specs.List.{AllByRecursion}
use Rattle.bx_tree.specs.Paths.{Atoms}
use Rattle.bx_tree.specs.Trees.{Files}
use Rattle.dscript_ast.specs.FileTree.{FileTree}
use Rattle.dscript_ast.specs.declared.file.Form.TheVariants as forms
use Rattle.dscript_program.specs.declared.spec_fault.SpecKind.TheVariants as kinds
use Rattle.dscript_program.specs.SpecFaults.{FaultData}
use Rattle.dscript_parse.specs.Reading.{Reading, Read, NoTokens, NoFile, ReadsAs}
use Rattle.dscript_parse.proofs.OneReading.{file_or_none, no_tokens_or_file, no_tokens_or_no_file}
use Rattle.dscript_parse.proofs.OneReading.{one_failure, one_file, one_refusal}
use Rattle.dscript_parse.proofs.SomeReading.{some_reading}
use Rattle.dscript_names_scopes.specs.Declarations.{ParsedData}
use Rattle.dscript_names_workspace.specs.Finding.{fault_at}
use Rattle.dscript_names.specs.ProjectFiles.{AreParsed, IsParsed}
use Rattle.bx_engine_front.specs.Projects.{IsFirstProjectFault, IsIllFormed, IsWellFormed}

-- ## One file

-- a file is well-formed or ill-formed
pub well_or_ill : (file : Atoms × List ℕ) (fault : FaultData) → IsWellFormed file → IsIllFormed file fault → ⊥
well_or_ill file fault h k = elim k [
  | inl none ↦ no_tokens_or_file forms.Project file.1 h.0 none.0 none.1 h.1
  | inr none ↦ file_or_none forms.Project file.1 h.0 none.0 h.1 none.1
]

one_ill : (file : Atoms × List ℕ) (f g : FaultData) → IsIllFormed file f → IsIllFormed file g → f ≡ g
one_ill file f g h k = elim h [
  | inl a ↦ elim k [
    | inl b ↦ a.2 ∙ ap (fault_at kinds.Lex file.0) (one_failure file.1 a.0 b.0 a.1 b.1) ∙ sym b.2
    | inr b ↦ absurd (no_tokens_or_no_file forms.Project file.1 a.0 b.0 a.1 b.1)
  ]
  | inr a ↦ elim k [
    | inl b ↦ absurd (no_tokens_or_no_file forms.Project file.1 b.0 a.0 b.1 a.1)
    | inr b ↦ a.2 ∙ ap (fault_at kinds.Syntax file.0) (one_refusal forms.Project file.1 a.0 b.0 a.1 b.1) ∙ sym b.2
  ]
]

-- what a file comes to that was read
of_reading : (file : Atoms × List ℕ) (reading : Reading) → ReadsAs forms.Project file.1 reading
    → IsWellFormed file ⊎ ((fault : FaultData) × IsIllFormed file fault)
of_reading file (Read tree) h = inl (tree, h)
of_reading file (NoTokens place) h = inr (fault_at kinds.Lex file.0 place, inl (place, h, refl))
of_reading file (NoFile place) h = inr (fault_at kinds.Syntax file.0 place, inr (place, h, refl))

some_form : (file : Atoms × List ℕ) → IsWellFormed file ⊎ ((fault : FaultData) × IsIllFormed file fault)
some_form file = let reads = some_reading forms.Project file.1 in of_reading file reads.0 reads.1

-- ## All files

pub one_first_fault : (files : Files) (f g : FaultData) → IsFirstProjectFault files f → IsFirstProjectFault files g → f ≡ g
one_first_fault [] f g h k = absurd h
one_first_fault (file ∷ files) f g h k = elim h [
  | inl a ↦ elim k [
    | inl b ↦ one_ill file f g a b
    | inr b ↦ absurd (well_or_ill file f b.0 a)
  ]
  | inr a ↦ elim k [
    | inl b ↦ absurd (well_or_ill file g a.0 b)
    | inr b ↦ one_first_fault files f g a.1 b.1
  ]
]

pub fault_or_none : (files : Files) (fault : FaultData) → IsFirstProjectFault files fault → AllByRecursion IsWellFormed files → ⊥
fault_or_none [] fault h k = h
fault_or_none (file ∷ files) fault h k = elim h [
  | inl a ↦ well_or_ill file fault k.0 a
  | inr a ↦ fault_or_none files fault a.1 k.1
]

pub some_first_fault : (files : Files) → AllByRecursion IsWellFormed files ⊎ ((fault : FaultData) × IsFirstProjectFault files fault)
some_first_fault [] = inl tt
some_first_fault (file ∷ files) = elim (some_form file) [
  | inr ill ↦ inr (ill.0, inl ill.1)
  | inl well ↦ elim (some_first_fault files) [
    | inl all ↦ inl (well, all)
    | inr fault ↦ inr (fault.0, inr (well, fault.1))
  ]
]

-- ## Syntax trees

-- files with syntax trees are well-formed
pub parsed_well : (files : Files) (ps : List ParsedData) → AreParsed files ps → AllByRecursion IsWellFormed files
parsed_well [] ps h = tt
parsed_well (file ∷ files) [] h = absurd h
parsed_well (file ∷ files) (p ∷ ps) h = ((p.file, h.0.tree), parsed_well files ps h.1)

abbrev with_tree : Atoms → FileTree → ParsedData
with_tree path tree = record { path = path; file = tree }

one_parsed : (file : Atoms × List ℕ) (p q : ParsedData) → IsParsed file p → IsParsed file q → p ≡ q
one_parsed file p q h k =
    ap (λ path. with_tree path p.file) (h.path ∙ sym k.path)
    ∙ ap (λ tree. with_tree q.path tree) (one_file forms.Project file.1 p.file q.file h.tree k.tree)

-- files have one list of syntax trees
pub one_parsing : (files : Files) (ps qs : List ParsedData) → AreParsed files ps → AreParsed files qs → ps ≡ qs
one_parsing [] [] [] h k = refl
one_parsing [] [] (q ∷ qs) h k = absurd k
one_parsing [] (p ∷ ps) qs h k = absurd h
one_parsing (file ∷ files) [] qs h k = absurd h
one_parsing (file ∷ files) (p ∷ ps) [] h k = absurd k
one_parsing (file ∷ files) (p ∷ ps) (q ∷ qs) h k =
    ap (λ (x : ParsedData). x ∷ ps) (one_parsed file p q h.0 k.0)
    ∙ ap (λ (xs : List ParsedData). q ∷ xs) (one_parsing files ps qs h.1 k.1)

-- files that are well-formed have syntax trees
pub some_parsing : (files : Files) → AllByRecursion IsWellFormed files → (ps : List ParsedData) × AreParsed files ps
some_parsing [] h = ([], tt)
some_parsing (file ∷ files) h =
    let rest = some_parsing files h.1 in
    (with_tree file.0 h.0.0 ∷ rest.0, (record { path = refl; tree = h.0.1 }, rest.1))
