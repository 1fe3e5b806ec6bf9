use Rattle.std.proofs.Common.{List, ap, map, sym, ◌∙◌}
use Rattle.dscript_program.specs.ProgramData.{FunctionData}
use Rattle.dscript_value.specs.Plain.{plain_of}
use Rattle.dscript_value.specs.declared.value.Value.{Value}
use Rattle.dscript_eval_meaning.specs.Expressions.{captured_of}
use Rattle.dscript_eval_meaning.specs.Frames.{captures}
use Rattle.std.specs.Prelude.{Option}
use Rattle.dscript_eval_frames.specs.Codes.{code_data}
use Rattle.dscript_eval_frames.specs.Views.{seen}
use Rattle.dscript_eval_exprs.proofs.NameMoves.{captured_are}
use Rattle.dscript_eval_exprs.proofs.names.captured_now.Goals as goal

pub returns-in-Some : goal.returns-in-Some
returns-in-Some c =
    captured_are c.locals.result _ (code_data c.in-Some.code.now) c.as_slice.result.now (seen c.args.machine.now).state
    c.in-Some.ensures c.as_slice.ensures.value c.locals.ensures

pub returns-in-None : goal.returns-in-None
returns-in-None c =
    ap (λ (xs : List Value). map plain_of xs) c.new.ensures.items
    ∙ ap (λ (o : Option FunctionData). captures (captured_of o) (seen c.args.machine.now).state) (sym c.in-None.ensures)
