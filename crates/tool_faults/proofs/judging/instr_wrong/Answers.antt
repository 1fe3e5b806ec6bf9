use Rattle.std.proofs.Common.{◌∙◌, ap, sym}
use Rattle.std.proofs.lemmas.Result.{IfOk-weaker}
use Rattle.tool_text.specs.Tables.{place_in}
use Rattle.tool_faults.specs.Faults.{read_wrong, why_not}
use Rattle.tool_faults.proofs.judging.instr_wrong.Goals as goal

pub returns-in-Ok : goal.returns-in-Ok
returns-in-Ok c =
    let why = why_not (place_in c.args.table.now) c.args.line.now in
    c.of_version.ensures why ∙ ap (read_wrong c.args.second why) (sym c.in-Ok.ensures)

pub returns-in-Err-BadTool : goal.returns-in-Err-BadTool
returns-in-Err-BadTool c =
    let why = why_not (place_in c.args.table.now) c.args.line.now in
    IfOk-weaker c.no_instr.result _ _
    (λ wrong is. is ∙ ap (read_wrong c.args.second why) (sym (rw c.in-Err-BadTool.field-0-is at c.in-Err-BadTool.ensures)))
    c.no_instr.ensures
