-- What an object says, as contracts see it.
use Rattle.dscript_sdk_execute.specs.declared.request.Made.{Made as AnyMade}
use Rattle.dscript_sdk_execute.specs.declared.request.Taken.{Taken as AnyTaken}
use Rattle.dscript_sdk_execute.specs.ExecuteObject.{Made, Taken}

abbrev pub taken_of : AnyTaken → Taken
taken_of t = record {
  exe = t.exe;
  arguments = t.arguments.items;
  directory = t.directory;
  dependencies = t.dependencies.items;
}

abbrev pub made_data : AnyMade → Made
made_data m = record { outputs = m.outputs.items; console = m.console; variables = m.variables }
