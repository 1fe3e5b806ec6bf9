-- What a walk through a part of a tree comes to, in the terms of the meaning of that part.
use Rattle.std.specs.Prelude.{◌≡◌, ℕ, List, ◌++◌, map, length, drop, Result, Ok, Err}
use Rattle.std.specs.Bool.{⊤}
use Rattle.dscript_program.specs.ProgramData.{FunctionData}
use Rattle.dscript_program.specs.Views.{function_data}
use Rattle.dscript_names_scopes.specs.declared.stop.Stop.{Stop}
use Rattle.dscript_names_scopes.specs.declared.stop.Stop.TheVariants as stops
use Rattle.dscript_names_binding.specs.Walk.{Here, Binds}
use Rattle.dscript_names_binding.specs.declared.walker.Walker.{Walker}

-- where a walker is
abbrev pub here_of : Walker → Here
here_of w = record { blocks = w.scopes; locals = w.locals; functions = length w.functions.items }

-- the functions that it has gathered
abbrev pub table_of : Walker → List FunctionData
table_of w = map function_data w.functions.items

-- The walker went from one place to another through a part of this meaning: it gathered the functions and the
-- names of the part, and is in the blocks that it was in, but that it may have declared locals of the
-- innermost.
pub record Walked {X A : Type 0} (view : X → A) (meaning : Binds A) (old new : Walker) (x : X) : Type 0 where
  pub functions : List FunctionData
  pub names : List ℕ
  pub is : meaning (here_of old)
      ≡ Ok (record { value = view x; after = here_of new; functions = functions; names = names })
  pub table : table_of new ≡ table_of old ++ functions
  pub named : new.names.items ≡ old.names.items ++ names
  pub outer : drop 1 new.scopes ≡ drop 1 old.scopes

-- this, or the fault of the part; running out of memory has no cause that is stated
abbrev pub Walks : {X A : Type 0} → (X → A) → Binds A → Walker → Walker → Result X Stop → Type 0
Walks view meaning old new (Ok x) = Walked view meaning old new x
Walks view meaning old new (Err (stops.Fault kind)) = meaning (here_of old) ≡ Err kind
Walks view meaning old new (Err stops.Memory) = ⊤
