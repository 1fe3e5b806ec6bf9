use Rattle.std.proofs.Common.{ap, ◌∙◌}
use Rattle.std.specs.Prelude.{slice_get}
use Rattle.dscript_program.specs.Views.{decl_data, file_data}
use Rattle.dscript_eval_frames.specs.Views.{seen}
use Rattle.dscript_eval_frames.specs.Works.{decls_of}
use Rattle.dscript_eval_exprs.proofs.ConstantMoves.{demands_end, demands_file}
use Rattle.dscript_eval_frames.proofs.ItemLists.{mapped_none, mapped_some}
use Rattle.dscript_eval_frames.proofs.Kept.{keeps_at, kept}
use Rattle.dscript_eval_exprs.proofs.constants.demands.Goals as goal

pub returns-in_default : goal.returns-in_default
returns-in_default c =
    keeps_at _ _ _ _
    (demands_end (seen c.args.machine.now) c.args.file c.args.decl
    (mapped_none file_data _ _ c.args.file c.files.ensures c.in_default.ensures))
    c.forget.ensures

pub returns-in-Some-decl_in : goal.returns-in-Some-decl_in
returns-in-Some-decl_in c =
    c.demand_next.ensures
    (ap (λ ds. slice_get (decls_of ds) c.args.decl) (mapped_some file_data _ _ c.args.file _ c.files.ensures c.in-Some.ensures)
    ∙ mapped_some decl_data _ _ c.args.decl _ c.as_slice.ensures.value c.in-Some-decl_in.ensures)

pub returns-in-None : goal.returns-in-None
returns-in-None c =
    kept _ _ _ _ c.push.ensures
    (demands_file (seen c.args.machine.now) c.args.file c.args.decl _
    (ap decls_of (mapped_some file_data _ _ c.args.file _ c.files.ensures c.in-Some.ensures))
    (mapped_none decl_data _ _ c.args.decl c.as_slice.ensures.value c.in-None.ensures))
