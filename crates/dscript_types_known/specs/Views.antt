-- What contracts see of findings, locals and tables.
use Rattle.std.specs.Prelude.{ℕ, List, map, Option, Some, None, if◌then◌else◌, ◌==◌, ◌/◌, ◌%◌, ◌-◌}
use Rattle.std.specs.Option.{option_map}
use Rattle.std.specs.declared.alloc.Global.{Global}
use Rattle.std.specs.declared.rc.Rc.{Rc}
use Rattle.std.specs.declared.vec.Vec.{Vec}
use Rattle.dscript_types_meaning.specs.Types.{TypeData}
use Rattle.dscript_types_meaning.specs.Contexts as contexts
use Rattle.dscript_types_known.specs.declared.finding.Finding.{Finding as AnyFinding}
use Rattle.dscript_types_known.specs.declared.finding.Finding.TheVariants as findings
use Rattle.dscript_types_known.specs.declared.locals.Hold.{Hold}
use Rattle.dscript_types_known.specs.declared.locals.Hold.TheVariants as holds
use Rattle.dscript_types_known.specs.declared.locals.Local.{Local}
use Rattle.dscript_types_known.specs.declared.locals.Locals.{Locals}
use Rattle.dscript_types_known.specs.declared.locals.Recent.{Recent}
use Rattle.dscript_types_known.specs.declared.locals.Recent.TheOpen.{Recent-F}
use Rattle.dscript_types_known.specs.declared.locals.Recent.TheFolds.{fold-Recent}
use Rattle.dscript_types_known.specs.declared.locals.Branch.{Branch}
use Rattle.dscript_types_known.specs.declared.locals.Branch.TheOpen.{Branch-F}
use Rattle.dscript_types_known.specs.declared.locals.Branch.TheFolds.{fold-Branch}
use Rattle.dscript_types_known.specs.Findings.{Finding, Found, Nothing, Open}
use Rattle.dscript_types_known.specs.Matching.{FoundLocal, FoundLocals}
use Rattle.dscript_types_known.specs.Tables.{TableData}

abbrev pub finding_data : {X : Type 0} → AnyFinding X → Finding X
finding_data (findings.Found x rank) = Found x rank
finding_data findings.Nothing = Nothing
finding_data (findings.Open pending) = Open

abbrev pub table_data : List (Vec (AnyFinding TypeData) Global) → TableData
table_data files = map (λ (entries : Vec (AnyFinding TypeData) Global). map finding_data entries.items) files

-- ## Locals

abbrev pub hold_data : Hold → contexts.Hold
hold_data holds.Fixed = contexts.Fixed
hold_data holds.Variable = contexts.Variable
hold_data holds.Captured = contexts.Captured

abbrev pub found_local : Local → FoundLocal
found_local l = record { type_data = finding_data l.finding; hold = hold_data l.hold }

abbrev pub of_branch : Option (Rc FoundLocals Global) → FoundLocals
of_branch None number = None
of_branch (Some branch) number = branch.value number

-- The local of a number in a branch: the first is there, and the others are in two branches, by turns.
abbrev pub branch_step : Branch-F FoundLocals → FoundLocals
branch_step b number =
    if number == 0 then option_map found_local b.here
    else (if (number - 1) % 2 == 0 then of_branch b.even ((number - 1) / 2) else of_branch b.odd ((number - 1) / 2))

abbrev pub in_branch : Branch → FoundLocals
in_branch = fold-Branch FoundLocals branch_step

abbrev pub branch_at : Option (Rc Branch Global) → FoundLocals
branch_at None number = None
branch_at (Some branch) number = in_branch branch.value number

-- the local of a number among those that were added last, or else another
abbrev pub of_recent : Option (Rc (ℕ → Option FoundLocal → Option FoundLocal) Global) → ℕ → Option FoundLocal → Option FoundLocal
of_recent None number other = other
of_recent (Some recent) number other = recent.value number other

abbrev pub recent_step : Recent-F (ℕ → Option FoundLocal → Option FoundLocal) → ℕ → Option FoundLocal → Option FoundLocal
recent_step r number other =
    if number == r.number then Some (found_local r.local) else of_recent r.older number other

abbrev pub in_recent : Recent → ℕ → Option FoundLocal → Option FoundLocal
in_recent = fold-Recent (ℕ → Option FoundLocal → Option FoundLocal) recent_step

abbrev pub recent_over : Option (Rc Recent Global) → ℕ → Option FoundLocal → Option FoundLocal
recent_over None number other = other
recent_over (Some recent) number other = in_recent recent.value number other

-- what there is, or else the other
abbrev pub first_of : Option FoundLocal → Option FoundLocal → Option FoundLocal
first_of None other = other
first_of (Some l) other = Some l

abbrev pub locals_at : Locals → FoundLocals
locals_at locals number = recent_over locals.recent number (branch_at locals.root number)
