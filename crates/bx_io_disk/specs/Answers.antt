-- What the answers of the system come to, and how they are recorded.
use Rattle.std.specs.Prelude.{ℕ, List, [], Result, Ok, Err, Vec, String, map, string_bytes}
use Rattle.std.specs.IoError.{error_kind}
use Rattle.std.specs.declared.alloc.Global.{Global}
use Rattle.std.specs.declared.io.Error.{Error}
use Rattle.std.specs.declared.io.ErrorKind.{ErrorKind}
use Rattle.std.specs.declared.io.ErrorKind.TheVariants.{NotFound, OutOfMemory}
use Rattle.bx_io.specs.Holdings.{Change, Put, Drop, name_of}
use Rattle.bx_io.specs.declared.keeper.Got.{Got}
use Rattle.bx_io.specs.declared.keeper.Got.TheVariants as got
use Rattle.bx_io.specs.declared.keeper.Listed.{Listed}
use Rattle.bx_io.specs.declared.keeper.Listed.TheVariants as listed
use Rattle.bx_io.specs.declared.keeper.PutFault.{PutFault}
use Rattle.bx_io.specs.declared.keeper.PutFault.TheVariants as put_faults
use Rattle.bx_io_disk.specs.Events.{Event, in_a_row}
use Rattle.bx_io_disk.specs.declared.kind.Kind.TheVariants as kinds

-- what an error says of a name
abbrev pub fault_of : ErrorKind → Got
fault_of NotFound = got.None
fault_of OutOfMemory = got.Memory
fault_of _ = got.Failed

-- what a read of a file says of its name
abbrev pub got_of : Result (Vec ℕ Global) Error → Got
got_of (Ok bytes) = got.Found bytes
got_of (Err e) = fault_of (error_kind e)

abbrev pub put_fault_of : ErrorKind → PutFault
put_fault_of OutOfMemory = put_faults.Memory
put_fault_of _ = put_faults.Failed

-- what became of a put or a drop
abbrev pub put_of : Result (Unit {0}) Error → Result (Unit {0}) PutFault
put_of (Ok x) = Ok x
put_of (Err e) = Err (put_fault_of (error_kind e))

abbrev pub list_fault_of : ErrorKind → Listed
list_fault_of OutOfMemory = listed.Memory
list_fault_of _ = listed.Failed

-- what a listing of a folder says of all names
abbrev pub listed_of : Result (Vec (String Global) Global) Error → Listed
listed_of (Ok names) = listed.Names names
listed_of (Err e) = list_fault_of (error_kind e)

-- how an answer for a name is recorded
abbrev pub event_for : List ℕ → Got → Event
event_for name (got.Found bytes) = (kinds.Found, name, bytes.items)
event_for name got.None = (kinds.Absent, name, [])
event_for name got.Failed = (kinds.Failed, name, [])
event_for name got.Memory = (kinds.Memory, name, [])

abbrev pub made_event : Change → Event
made_event (Put name bytes) = (kinds.Put, name, bytes)
made_event (Drop name) = (kinds.Dropped, name, [])

abbrev pub refused_event : List ℕ → PutFault → Event
refused_event name put_faults.Failed = (kinds.Failed, name, [])
refused_event name put_faults.Memory = (kinds.Memory, name, [])

-- how a change is recorded
abbrev pub change_event : Change → Result (Unit {0}) PutFault → Event
change_event change (Ok x) = made_event change
change_event change (Err e) = refused_event (name_of change) e

-- how the answer to the wish to work alone is recorded
abbrev pub alone_event : Result (Unit {0}) PutFault → Event
alone_event (Ok x) = (kinds.Alone, [], [])
alone_event (Err e) = refused_event [] e

-- how a listing is recorded
abbrev pub listed_event : Listed → Event
listed_event (listed.Names names) = (kinds.Listed, [], in_a_row (map string_bytes names.items))
listed_event listed.Failed = (kinds.Failed, [], [])
listed_event listed.Memory = (kinds.Memory, [], [])
