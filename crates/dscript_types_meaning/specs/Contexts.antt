-- Where expressions stand, what is known there, and what typing an expression comes to.
use Rattle.std.specs.Prelude.{ℕ, ◌==◌, Bool, true, false, List, [], ◌∷◌, ◌++◌, find, filter, map}
use Rattle.std.specs.Prelude.{Option, Some, None}
use Rattle.std.specs.Option.{option_and_then}
use Rattle.std.specs.List.{list_any}
use Rattle.dscript_program.specs.ProgramData.{Dotted}
use Rattle.dscript_types_meaning.specs.Types.{TypeData}

-- ## Contexts

-- What may become of the value that a local holds. Parameters and constants always hold the first one, so what a
-- condition says of them stays true. A variable may be assigned in its own function, and nowhere else.
pub data Hold : Type 0 where
  Fixed : Hold
  Variable : Hold
  Captured : Hold

-- a local that is seen: its number, its type unless it has none, and how it holds its value
pub record Local : Type 0 where
  pub number : ℕ
  pub type_data : Option TypeData
  pub hold : Hold

-- Where an expression stands: the number of its file, the namespaces and the type parameters of the declaration
-- around it, and the locals that it sees, of which the first of a number counts.
pub record Context : Type 0 where
  pub file : ℕ
  pub around : Dotted
  pub parameters : List (List ℕ)
  pub locals : List Local

abbrev pub local_at : Context → ℕ → Option Local
local_at c n = find (λ (l : Local). l.number == n) c.locals

-- the type of what a local holds
abbrev pub local_type : Context → ℕ → Option TypeData
local_type c n = option_and_then (λ (l : Local). l.type_data) (local_at c n)

-- the type of a variable that may be assigned
abbrev pub type_if_variable : Hold → Option TypeData → Option TypeData
type_if_variable Fixed t = None
type_if_variable Variable t = t
type_if_variable Captured t = None

abbrev pub variable_type : Context → ℕ → Option TypeData
variable_type c n = option_and_then (λ (l : Local). type_if_variable l.hold l.type_data) (local_at c n)

abbrev pub with_local : ℕ → Option TypeData → Hold → Context → Context
with_local n t hold c =
    record c { locals = record { number = n; type_data = t; hold = hold } ∷ c.locals }

-- how a function inside holds what it captures: a variable is not assigned there
abbrev pub held_inside : Hold → Hold
held_inside Fixed = Fixed
held_inside Variable = Captured
held_inside Captured = Captured

abbrev pub captured_local : Local → Local
captured_local l = record l { hold = held_inside l.hold }

-- of these locals those that a function captures, as they are in it
abbrev pub captured_locals : List ℕ → List Local → List Local
captured_locals captured locals =
    map captured_local (filter (λ (l : Local). list_any (λ n. l.number == n) captured) locals)

-- ## What is known

-- What an expression may hang on beside its parts: the meaning of an interface or an alias and the type of a
-- constant, by the numbers of file and declaration; what a declared function answers; and what a function that is
-- no declaration answers where it is called back, by its number and the context of its body.
pub data Ask : Type 0 where
  Meaning : ℕ → ℕ → Ask
  Constant : ℕ → ℕ → Ask
  Answer : ℕ → ℕ → Ask
  Callback : ℕ → Context → Ask

abbrev pub Known : Type 0
Known = Ask → Option TypeData

-- ## What typing comes to

-- the body of a callback: the number of the function, and the context in which it stands
pub record Standing : Type 0 where
  pub number : ℕ
  pub context : Context

-- A part of an expression: what it comes to, and the bodies of the callbacks in it; or no type.
abbrev pub Types : Type 0 → Type 0
Types X = Option (X × List Standing)

abbrev pub gives : {X : Type 0} → X → Types X
gives x = Some (x, [])

abbrev pub no_type : {X : Type 0} → Types X
no_type = None

-- what there may not be
abbrev pub only : {X : Type 0} → Option X → Types X
only None = None
only (Some x) = Some (x, [])

abbrev pub needs : Bool → Types (Unit {0})
needs true = Some (tt, [])
needs false = None

-- a callback whose body stands here
abbrev pub stands : Standing → Types (Unit {0})
stands body = Some (tt, body ∷ [])

abbrev pub with_bodies : {X : Type 0} → List Standing → Types X → Types X
with_bodies bodies None = None
with_bodies bodies (Some r) = Some (r.0, bodies ++ r.1)

-- one part and then another; where a part has no type, the whole has none
infixl 10 ◌>>=◌
abbrev pub ◌>>=◌ : {X Y : Type 0} → Types X → (X → Types Y) → Types Y
None >>= more = None
(Some r) >>= more = with_bodies r.1 (more r.0)

infixr 9 ◌>>◌
abbrev pub ◌>>◌ : {X Y : Type 0} → Types X → Types Y → Types Y
m >> more = m >>= λ x. more

-- the value without the bodies
abbrev pub bare : {X : Type 0} → Types X → Option X
bare None = None
bare (Some r) = Some r.0
