-- Constants, which are evaluated when they are first demanded, and once.
use Rattle.std.specs.Prelude.{ℕ, List, [], map, slice_get, slice_set, unwrap_or, Ok}
use Rattle.dscript_value.specs.Plain.{Plain}
use Rattle.dscript_program.specs.ProgramData.{DeclData, FileData, ProgramData}
use Rattle.dscript_eval_meaning.specs.declared.fault.EvalKind.TheVariants as kinds
use Rattle.dscript_eval_meaning.specs.Acts.{Acts, Demand}
use Rattle.dscript_eval_meaning.specs.Evaluating.{Gives, fails, gives}
use Rattle.dscript_eval_meaning.specs.States.{Status, Waiting, Running, Done}

abbrev pub Table : Type 0
Table = List (List Status)

abbrev pub status_in : Table → ℕ → ℕ → Status
status_in table file decl = unwrap_or (slice_get (unwrap_or (slice_get table file) []) decl) Waiting

abbrev pub with_status : Table → ℕ → ℕ → Status → Table
with_status table file decl status =
    slice_set table file (slice_set (unwrap_or (slice_get table file) []) decl status)

-- a place for each declaration, though constants alone use theirs
abbrev pub all_waiting : ProgramData → Table
all_waiting p = map (λ (f : FileData). map (λ (d : DeclData). Waiting) f.decls) p.files

abbrev pub mark : ℕ → ℕ → Status → Gives (Unit {0})
mark file decl status s = Ok (tt, record s { constants = with_status s.constants file decl status })

-- one that waits is evaluated, which opens a call; one that is being evaluated depends on itself
abbrev pub by_status : Acts → ℕ → ℕ → Status → Gives Plain
by_status act file decl Waiting = act (Demand file decl)
by_status act file decl Running = fails kinds.Cycle
by_status act file decl (Done x) = gives x

-- the value of a constant
unfoldable pub constant : Acts → ℕ → ℕ → Gives Plain
constant act file decl s = by_status act file decl (status_in s.constants file decl) s
