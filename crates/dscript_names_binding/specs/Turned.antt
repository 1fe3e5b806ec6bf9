-- What a walk through some parts of a list comes to.
use Rattle.std.specs.Prelude.{◌≡◌, ℕ, List, ◌++◌, map, drop, Result, Ok, Err}
use Rattle.dscript_program.specs.declared.spec_fault.SpecKind.{SpecKind}
use Rattle.dscript_program.specs.ProgramData.{FunctionData}
use Rattle.dscript_names_binding.specs.Walk.{Bound, Binds, in_turn}
use Rattle.dscript_names_binding.specs.Walked.{here_of, table_of}
use Rattle.dscript_names_binding.specs.declared.walker.Walker.{Walker}

-- the values, functions and names of some parts, and then those of the other parts
abbrev pub after_turns : {A : Type 0} → List A → List FunctionData → List ℕ → Result (Bound (List A)) SpecKind
    → Result (Bound (List A)) SpecKind
after_turns xs functions names (Ok b) = Ok (record {
  value = xs ++ b.value;
  after = b.after;
  functions = functions ++ b.functions;
  names = names ++ b.names;
})
after_turns xs functions names (Err kind) = Err kind

-- The walker went through all of these parts but the rest, which came to these values.
pub record Turned {X A : Type 0} (view : X → A) (all rest : List (Binds A)) (old now : Walker) (xs : List X)
    : Type 0 where
  pub functions : List FunctionData
  pub names : List ℕ
  pub is : in_turn all (here_of old) ≡ after_turns (map view xs) functions names (in_turn rest (here_of now))
  pub table : table_of now ≡ table_of old ++ functions
  pub named : now.names.items ≡ old.names.items ++ names
  pub outer : drop 1 now.scopes ≡ drop 1 old.scopes
