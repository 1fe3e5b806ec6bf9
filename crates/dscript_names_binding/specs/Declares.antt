-- What a walk through declarations comes to.
use Rattle.std.specs.Prelude.{◌≡◌, ℕ, List, [], ◌++◌, map, Result, Ok, Err}
use Rattle.std.specs.Bool.{⊤}
use Rattle.dscript_program.specs.declared.spec_fault.SpecKind.{SpecKind}
use Rattle.dscript_program.specs.ProgramData.{DeclData, FunctionData}
use Rattle.dscript_program.specs.Views.{decl_data}
use Rattle.dscript_names_scopes.specs.declared.stop.Stop.{Stop}
use Rattle.dscript_names_scopes.specs.declared.stop.Stop.TheVariants as stops
use Rattle.dscript_names_binding.specs.Walk.{Binds}
use Rattle.dscript_names_binding.specs.Walked.{here_of, table_of}
use Rattle.dscript_names_binding.specs.Turned.{after_turns}
use Rattle.dscript_names_binding.specs.declared.walker.Walker.{Walker}
use Rattle.dscript_names_binding.specs.declared.decls.Binder.{Binder}

-- The walker went through a whole declaration of this meaning, whatever blocks it was in before.
pub record Came {X A : Type 0} (view : X → A) (meaning : Binds A) (old new : Walker) (x : X) : Type 0 where
  pub functions : List FunctionData
  pub names : List ℕ
  pub is : meaning (here_of old)
      ≡ Ok (record { value = view x; after = here_of new; functions = functions; names = names })
  pub table : table_of new ≡ table_of old ++ functions

-- this, or the fault of the declaration; running out of memory has no cause that is stated
abbrev pub Comes : {X A : Type 0} → (X → A) → Binds A → Walker → Walker → Result X Stop → Type 0
Comes view meaning old new (Ok x) = Came view meaning old new x
Comes view meaning old new (Err (stops.Fault kind)) = meaning (here_of old) ≡ Err kind
Comes view meaning old new (Err stops.Memory) = ⊤

-- A declaration begins in no block, and its locals are counted from 0.
pub record Begun (old new : Walker) : Type 0 where
  pub here : here_of new ≡ record (here_of old) { blocks = []; locals = 0 }
  pub table : table_of new ≡ table_of old

-- the declarations that were gathered
abbrev pub gathered_in : Binder → List DeclData
gathered_in g = map decl_data g.decls.items

-- The declarations of this meaning were gathered, after those before.
pub record Gathered (meaning : Binds (List DeclData)) (old new : Binder) : Type 0 where
  pub decls : List DeclData
  pub gathered : gathered_in new ≡ gathered_in old ++ decls
  pub came : Came (λ (ds : List DeclData). ds) meaning old.walker new.walker decls

abbrev pub Gathers : {X : Type 0} → Binds (List DeclData) → Binder → Binder → Result X Stop → Type 0
Gathers meaning old new (Ok x) = Gathered meaning old new
Gathers meaning old new (Err (stops.Fault kind)) = meaning (here_of old.walker) ≡ Err kind
Gathers meaning old new (Err stops.Memory) = ⊤

-- All of the declarations were gathered but those of this meaning, which come last.
pub record Passed (all rest : Binds (List DeclData)) (old now : Binder) : Type 0 where
  pub decls : List DeclData
  pub functions : List FunctionData
  pub names : List ℕ
  pub is : all (here_of old.walker) ≡ after_turns decls functions names (rest (here_of now.walker))
  pub gathered : gathered_in now ≡ gathered_in old ++ decls
  pub table : table_of now.walker ≡ table_of old.walker ++ functions
