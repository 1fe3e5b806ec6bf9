-- A tree is one program, or has one fault.
use Rattle.std.proofs.Common.{◌≡◌, List, inl, inr, ap, sym, subst, ◌∙◌}
use Rattle.std.specs.Prelude.{Result, Ok, Err}
use Rattle.bx_tree.specs.Trees.{Files}
use Rattle.dscript_program.specs.SpecFaults.{FaultData}
use Rattle.dscript_program.specs.Workspaces.{ModuleData}
use Rattle.dscript_names.specs.Named.{named}
use Rattle.dscript_program.specs.ProgramData.{ProgramData}
use Rattle.dscript_names_scopes.specs.Declarations.{ParsedData}
use Rattle.dscript_names_workspace.proofs.OneAnswer.{one_answer}
use Rattle.dscript_names_workspace.specs.Finding.{Finds}
use Rattle.dscript_names_workspace.specs.Workspaces.{Found, Refused}
use Rattle.dscript_names.specs.ProjectFiles.{AreParsed, project_files}
use Rattle.bx_engine_front.specs.Projects.{IsFirstProjectFault}
use Rattle.bx_engine_front.specs.Specifications.{HasModules, IsMalformed, IsProgram}
use Rattle.bx_engine_front.proofs.ProjectFaults.{fault_or_none, one_first_fault, one_parsing, parsed_well}

-- ## Workspaces

same_modules : (m n : List ModuleData) → Found m ≡ Found n → m ≡ n
same_modules m n e = cc

same_refusal : (f g : FaultData) → Refused f ≡ Refused g → f ≡ g
same_refusal f g e = cc

not_both : (m : List ModuleData) (f : FaultData) → Found m ≡ Refused f → ⊥
not_both m f e = cc

pub one_workspace : (tree : Files) (m n : List ModuleData) → Finds tree (Found m) → Finds tree (Found n) → m ≡ n
one_workspace tree m n h k = same_modules m n (one_answer tree (Found m) (Found n) h k)

found_or_refused : (tree : Files) (m : List ModuleData) (f : FaultData) → Finds tree (Found m) → Finds tree (Refused f) → ⊥
found_or_refused tree m f h k = not_both m f (one_answer tree (Found m) (Refused f) h k)

-- the first fault of project files, in the modules of another account
faults_of : (tree : Files) (m n : List ModuleData) (f : FaultData) → Finds tree (Found m) → Finds tree (Found n)
    → IsFirstProjectFault (project_files tree m) f → IsFirstProjectFault (project_files tree n) f
faults_of tree m n f h k is = subst (λ (ms : List ModuleData). IsFirstProjectFault (project_files tree ms) f) (one_workspace tree m n h k) is

-- ## Syntax trees

same_parsed : (tree : Files) (m n : List ModuleData) (ps qs : List ParsedData) → HasModules tree m ps → HasModules tree n qs → ps ≡ qs
same_parsed tree m n ps qs h k =
    one_parsing (project_files tree n) ps qs
    (subst (λ (ms : List ModuleData). AreParsed (project_files tree ms) ps) (one_workspace tree m n h.finds k.finds) h.parses) k.parses

same_named : (tree : Files) (m n : List ModuleData) (ps qs : List ParsedData) → HasModules tree m ps → HasModules tree n qs
    → named m ps ≡ named n qs
same_named tree m n ps qs h k =
    ap (λ (ms : List ModuleData). named ms ps) (one_workspace tree m n h.finds k.finds) ∙ ap (named n) (same_parsed tree m n ps qs h k)

ill_or_parsed : (tree : Files) (m n : List ModuleData) (f : FaultData) (ps : List ParsedData) → Finds tree (Found m)
    → IsFirstProjectFault (project_files tree m) f → HasModules tree n ps → ⊥
ill_or_parsed tree m n f ps h is k =
    fault_or_none (project_files tree n) f (faults_of tree m n f h k.finds is) (parsed_well (project_files tree n) ps k.parses)

-- ## Programs

same_program : (p q : ProgramData) (r : Result ProgramData FaultData) → r ≡ Ok p → r ≡ Ok q → p ≡ q
same_program p q r h k = cc

same_fault : (f g : FaultData) (r : Result ProgramData FaultData) → r ≡ Err f → r ≡ Err g → f ≡ g
same_fault f g r h k = cc

program_or_fault : (p : ProgramData) (f : FaultData) (r : Result ProgramData FaultData) → r ≡ Ok p → r ≡ Err f → ⊥
program_or_fault p f r h k = cc

pub one_program : (tree : Files) (p q : ProgramData) → IsProgram tree p → IsProgram tree q → p ≡ q
one_program tree p q h k =
    same_program p q (named k.modules k.parsed)
    (sym (same_named tree h.modules k.modules h.parsed k.parsed h.reads k.reads) ∙ h.names) k.names

pub malformed_or_program : (tree : Files) (f : FaultData) (p : ProgramData) → IsMalformed tree f → IsProgram tree p → ⊥
malformed_or_program tree f p h k = elim h [
  | inl refused ↦ found_or_refused tree k.modules f k.reads.finds refused
  | inr other ↦ elim other [
    | inl ill ↦ ill_or_parsed tree ill.0 k.modules f k.parsed ill.1 ill.2 k.reads
    | inr bad ↦ program_or_fault p f (named k.modules k.parsed) k.names
        (sym (same_named tree bad.0 k.modules bad.1 k.parsed bad.2 k.reads) ∙ bad.3)
  ]
]

-- the fault of a tree whose project files are well-formed
one_bad_name : (tree : Files) (m : List ModuleData) (ps : List ParsedData) (f g : FaultData) → HasModules tree m ps → named m ps ≡ Err f
    → IsMalformed tree g → f ≡ g
one_bad_name tree m ps f g h is k = elim k [
  | inl refused ↦ absurd (found_or_refused tree m g h.finds refused)
  | inr other ↦ elim other [
    | inl ill ↦ absurd (ill_or_parsed tree ill.0 m g ps ill.1 ill.2 h)
    | inr bad ↦ same_fault f g (named m ps) is (sym (same_named tree bad.0 m bad.1 ps bad.2 h) ∙ bad.3)
  ]
]

-- the fault of a tree one of whose project files is ill-formed
one_ill_form : (tree : Files) (m : List ModuleData) (f g : FaultData) → Finds tree (Found m) → IsFirstProjectFault (project_files tree m) f
    → IsMalformed tree g → f ≡ g
one_ill_form tree m f g h is k = elim k [
  | inl refused ↦ absurd (found_or_refused tree m g h refused)
  | inr other ↦ elim other [
    | inl ill ↦ one_first_fault (project_files tree m) f g is (faults_of tree ill.0 m g ill.1 h ill.2)
    | inr bad ↦ absurd (ill_or_parsed tree m bad.0 f bad.1 h is bad.2)
  ]
]

-- the fault of a tree whose configurations have one
one_bad_config : (tree : Files) (f g : FaultData) → Finds tree (Refused f) → IsMalformed tree g → f ≡ g
one_bad_config tree f g h k = elim k [
  | inl refused ↦ same_refusal f g (one_answer tree (Refused f) (Refused g) h refused)
  | inr other ↦ elim other [
    | inl ill ↦ absurd (found_or_refused tree ill.0 f ill.1 h)
    | inr bad ↦ absurd (found_or_refused tree bad.0 f bad.2.finds h)
  ]
]

pub one_malformed : (tree : Files) (f g : FaultData) → IsMalformed tree f → IsMalformed tree g → f ≡ g
one_malformed tree f g h k = elim h [
  | inl refused ↦ one_bad_config tree f g refused k
  | inr other ↦ elim other [
    | inl ill ↦ one_ill_form tree ill.0 f g ill.1 ill.2 k
    | inr bad ↦ one_bad_name tree bad.0 bad.1 f g bad.2 bad.3 k
  ]
]
