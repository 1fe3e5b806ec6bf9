-- What contracts see of functions with how their captured locals are found.
use Rattle.dscript_program.specs.ProgramData.{FunctionData}
use Rattle.dscript_program.specs.Views.{function_data}
use Rattle.dscript_eval_frames.specs.declared.code.Code.{Code}

abbrev pub code_data : Code → FunctionData
code_data c = function_data c.function.now
