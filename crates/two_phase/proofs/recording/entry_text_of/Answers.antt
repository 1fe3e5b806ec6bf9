use Rattle.std.proofs.Common.{◌∙◌, List, ap}
use Rattle.std.proofs.lemmas.Result.{IfOk-weaker}
use Rattle.memo_format.specs.Entries.{entry_text}
use Rattle.memo_format.specs.Found.{output_lines}
use Rattle.memo_format.specs.declared.entry.OutputLine.{OutputLine}
use Rattle.two_phase.proofs.Outputs.{lines_rise}
use Rattle.two_phase.proofs.recording.entry_text_of.Goals as goal

pub write_entry-requires : goal.write_entry-requires
write_entry-requires c =
    lines_rise c.args.made.now c.of-outputs.result (c.of-outputs.ensures ∙ c.in_ok-outputs_of.ensures ∙ ap output_lines c.files.ensures.files)
    c.files.ensures.rising

pub returns-clause-text : goal.returns-clause-text
returns-clause-text c =
    IfOk-weaker c.write_entry.result _ _
    (λ text is.
    is
    ∙ ap (λ (lines : List OutputLine). entry_text (record { weak = c.args.weak; paths = c.args.paths; strong = c.args.strong; outputs = lines }))
    (c.of-outputs.ensures ∙ c.in_ok-outputs_of.ensures ∙ ap output_lines c.files.ensures.files))
    c.write_entry.ensures.text
