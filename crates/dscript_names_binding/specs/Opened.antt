-- A function whose body is walked through.
use Rattle.std.specs.Prelude.{◌≡◌, ℕ, ◌+◌, ◌-◌, true, List, [], ◌∷◌, ◌++◌, map, length, drop, nat_lt}
use Rattle.std.specs.Prelude.{slice_set}
use Rattle.std.specs.List.{filter}
use Rattle.dscript_ast.specs.ExprTree.{ParamTree}
use Rattle.dscript_ast.specs.Views.{param_tree}
use Rattle.dscript_program.specs.ProgramData.{FunctionData}
use Rattle.dscript_names_scopes.specs.declared.local.Local.{Local}
use Rattle.dscript_program.specs.Views.{body_data}
use Rattle.dscript_program.specs.declared.bound.Body.{Body}
use Rattle.dscript_names_binding.specs.Walk.{each_once, params_from}
use Rattle.dscript_names_binding.specs.Walked.{table_of}
use Rattle.dscript_names_binding.specs.declared.walker.Walker.{Walker}
use Rattle.dscript_names_binding.specs.declared.functions.OpenFunction.{OpenFunction}

-- The walker went from outside of a function with these parameters, whose body declares these locals, into
-- its body. Another function is at its place in the table until then.
pub record Opened (params : List ParamTree) (locals : List Local) (old new : Walker) (f : OpenFunction)
    : Type 0 where
  pub number : f.number ≡ length old.functions.items
  pub first : f.first_local ≡ old.locals
  pub names : f.names ≡ length old.names.items
  pub params_are : map param_tree f.params.items ≡ params
  pub before : FunctionData
  pub table : table_of new ≡ table_of old ++ before ∷ []
  pub named : new.names.items ≡ old.names.items
  pub counted : new.locals ≡ old.locals + length params
  pub scopes : new.scopes
      ≡ record { locals = params_from old.locals params ++ locals; is_body = true } ∷ old.scopes

-- the function with this body, whose walk ended here
abbrev pub closed_data : ℕ → OpenFunction → Body → Walker → FunctionData
closed_data file f body w = record {
  file = file;
  captured = each_once (filter (λ n. nat_lt n f.first_local) (drop f.names w.names.items));
  params = map param_tree f.params.items;
  first_local = f.first_local;
  local_count = w.locals - f.first_local;
  body = body_data body;
}

-- The walker went out of the body of the function again.
pub record Closed (file : ℕ) (f : OpenFunction) (body : Body) (old new : Walker) (n : ℕ) : Type 0 where
  pub number : n ≡ f.number
  pub table : table_of new ≡ slice_set (table_of old) f.number (closed_data file f body old)
  pub named : new.names.items ≡ old.names.items
  pub counted : new.locals ≡ old.locals
  pub scopes : new.scopes ≡ drop 1 old.scopes
