-- Passes over the declarations of a program.
use Rattle.std.specs.Prelude.{◌≡◌, ◌≢◌, ℕ, suc, ◌-◌, ◌<◌, ◌≤◌, None, Some}
use Rattle.dscript_program.specs.ProgramData.{DeclData, ProgramData}
use Rattle.dscript_program.specs.Views.{program_data}
use Rattle.dscript_program.specs.declared.program.BoundFile.{BoundFile}
use Rattle.dscript_types.specs.declared.finding.Finder.{Finder}
use Rattle.dscript_types_known.specs.Findings.{Finding, Open, Tells}
use Rattle.dscript_types_known.specs.Tables.{IsClosedTo, IsRight, TableData, ask_of, entry, open_count}
use Rattle.dscript_types_meaning.specs.Lookups.{decl_at}
use Rattle.dscript_types_meaning.specs.Typed.{IsFirstUntyped, known_within, reach}
use Rattle.dscript_types_meaning.specs.Types.{TypeData}
use Rattle.dscript_types_notes.specs.Names.{IsIndexOf}

-- the names are those of the program, and as many may be looked into as it reaches
pub record IsReady (f : Finder) : Type 0 where
  pub names : IsIndexOf (program_data f.program.now) f.names.now
  pub left : f.left ≡ reach (program_data f.program.now)

-- nothing is open
abbrev pub IsFull : TableData → Type 0
IsFull table = (file decl : ℕ) → entry table file decl ≢ Open

-- each declaration
abbrev pub anywhere : ℕ → ℕ → Type 0
anywhere file decl = Unit {0}

-- the declarations with these numbers that are open have no type where no open one has a type with one less to look into
abbrev pub AreStuck : ProgramData → TableData → (ℕ → ℕ → Type 0) → Type 0
AreStuck p table which =
    (n file decl : ℕ) (d : DeclData) → which file decl → decl_at p file decl ≡ Some d → entry table file decl ≡ Open
    → n < reach p → IsClosedTo p table n → known_within p (suc n) (ask_of file decl d.kind) ≡ None

-- no declaration with these numbers is open
abbrev pub IsShut : ProgramData → TableData → ℕ → ℕ → Type 0
IsShut p table file decl = (d : DeclData) → decl_at p file decl ≡ Some d → entry table file decl ≢ Open

-- a declaration is open, and this is found of it
pub record FindsIn (p : ProgramData) (table : TableData) (file decl : ℕ) (f : Finding TypeData) : Type 0 where
  pub before : entry table file decl ≡ Open
  pub finds : (n : ℕ) (d : DeclData) → n ≤ reach p → decl_at p file decl ≡ Some d
      → Tells (IsClosedTo p table (n - 1)) n f (known_within p n (ask_of file decl d.kind))

-- A table is filled further, rightly. Where nothing more was found, the declarations with these numbers are stuck.
pub record GoesOver (p : ProgramData) (old new : TableData) (which : ℕ → ℕ → Type 0) : Type 0 where
  pub right : IsRight p new
  pub fewer : open_count new ≤ open_count old
  pub stuck : open_count new ≡ open_count old → (new ≡ old) × AreStuck p new which

-- the first file in which some expression has no type
abbrev pub IsUntypedFirst : ProgramData → BoundFile → Type 0
IsUntypedFirst p file = IsFirstUntyped p file.path
