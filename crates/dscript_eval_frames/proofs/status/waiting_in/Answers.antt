use Rattle.std.proofs.Common.{arith, ◌∙◌}
use Rattle.std.proofs.lemmas.List.{length-map}
use Rattle.dscript_program.specs.Views.{decl_data, file_data}
use Rattle.dscript_eval_frames.proofs.Waiting.{all_places, one_more}
use Rattle.dscript_eval_frames.proofs.status.waiting_in.Goals as goal

pub decls-preserved : goal.decls-preserved
decls-preserved c = one_more c.decls.row.items _ c.decls.counter c.decls.invariant c.in_ok-push.ensures.items

pub returns : goal.returns
returns c =
    c.decls.invariant
    ∙ all_places (file_data c.args.file.now).decls c.decls.counter
    (omega (arith, c.args.file.now.decls.ok.0, length-map c.args.file.now.decls.items decl_data))
