-- Tables of what is found of declarations.
use Rattle.std.specs.Prelude.{◌≡◌, ℕ, ◌≤◌, List, [], count_by, map, slice_get, slice_set, sum_by, unwrap_or}
use Rattle.std.specs.Prelude.{None, Some}
use Rattle.dscript_program.specs.ProgramData as declared
use Rattle.dscript_program.specs.ProgramData.{DeclData, FileData, KindData, ProgramData}
use Rattle.dscript_types_meaning.specs.Types.{TypeData}
use Rattle.dscript_types_meaning.specs.Contexts.{Answer, Ask, Constant, Meaning}
use Rattle.dscript_types_meaning.specs.Lookups.{decl_at}
use Rattle.dscript_types_meaning.specs.Typed.{known_within, reach}
use Rattle.dscript_types_known.specs.Findings.{Finding, Nothing, Open, Tells, is_open}

-- what is asked of a declaration: the meaning of a type, the type of a constant, the answer of a function
abbrev pub ask_of : ℕ → ℕ → KindData → Ask
ask_of file decl (declared.Const t e) = Constant file decl
ask_of file decl (declared.Function ts t number) = Answer file decl
ask_of file decl (declared.Interface ts es ms) = Meaning file decl
ask_of file decl (declared.TypeAlias ts t) = Meaning file decl

-- by the numbers of file and declaration
abbrev pub TableData : Type 0
TableData = List (List (Finding TypeData))

abbrev pub entry_in : List (Finding TypeData) → ℕ → Finding TypeData
entry_in entries decl = unwrap_or (slice_get entries decl) Nothing

abbrev pub entry : TableData → ℕ → ℕ → Finding TypeData
entry table file decl = entry_in (unwrap_or (slice_get table file) []) decl

-- the table of a program in which everything is open
abbrev pub all_open : ProgramData → TableData
all_open p = map (λ (f : FileData). map (λ (d : DeclData). Open) f.decls) p.files

abbrev pub open_in : List (Finding TypeData) → ℕ
open_in entries = count_by is_open entries

abbrev pub open_count : TableData → ℕ
open_count table = sum_by open_in table

-- nothing has a type that is still open, where this many may be looked into
abbrev pub IsClosed : ProgramData → TableData → ℕ → Type 0
IsClosed p table n =
    (file decl : ℕ) (d : DeclData) → decl_at p file decl ≡ Some d → entry table file decl ≡ Open
    → known_within p n (ask_of file decl d.kind) ≡ None

-- nor where fewer may be
abbrev pub IsClosedTo : ProgramData → TableData → ℕ → Type 0
IsClosedTo p table n = (fewer : ℕ) → fewer ≤ n → IsClosed p table fewer

-- Each entry is right, however many may be looked into up to the reach of the program.
abbrev pub IsRight : ProgramData → TableData → Type 0
IsRight p table =
    (n file decl : ℕ) (d : DeclData) → n ≤ reach p → decl_at p file decl ≡ Some d
    → Tells (IsClosed p table n) n (entry table file decl) (known_within p n (ask_of file decl d.kind))

-- ## Changes

abbrev pub if_open : Finding TypeData → Finding TypeData → Finding TypeData
if_open finding Open = finding
if_open finding old = old

-- an entry that is open is filled
abbrev pub filled_in : List (Finding TypeData) → ℕ → Finding TypeData → List (Finding TypeData)
filled_in entries decl finding = slice_set entries decl (if_open finding (entry_in entries decl))

abbrev pub filled : TableData → ℕ → ℕ → Finding TypeData → TableData
filled table file decl finding =
    slice_set table file (filled_in (unwrap_or (slice_get table file) []) decl finding)

-- what is open has no type
abbrev pub closed : TableData → TableData
closed table = map (λ entries. map (if_open Nothing) entries) table
