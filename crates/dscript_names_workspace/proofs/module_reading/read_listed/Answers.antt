use Rattle.std.proofs.Common.{ap, sym, subst, ◌∙◌}
use Rattle.std.proofs.lemmas.Result.{IfOk-weaker}
use Rattle.dscript_names_workspace.specs.Finding.{IsRead}
use Rattle.dscript_names_workspace.specs.ModuleFiles.{file_data}
use Rattle.dscript_names_workspace.specs.PathSets.{files_in}
use Rattle.dscript_names_workspace.proofs.ReadTexts.{text_fits}
use Rattle.dscript_names_workspace.proofs.module_reading.read_listed.Goals as goal

pub read_module-requires : goal.read_module-requires
read_module-requires c =
    text_fits c.args.tree.now c.args.path.now c.in-Some.text.now c.requires.in_size (sym c.in-Some.ensures.value)

pub returns : goal.returns
returns c =
    let files = c.args.tree.now in
    let path = c.args.path.now in
    let text = c.in-Some.text.now in
    IfOk-weaker c.read_module.result (λ m. IsRead files c.files_of-own.result.now path text (file_data m)) _
    (λ m h. (
      text,
      sym c.in-Some.ensures.value,
      subst (λ own. IsRead files own path text (file_data m))
          (c.files_of-own.ensures ∙ ap (files_in c.args.implied.now) c.in_ok-dir.ensures) h,
    )) c.read_module.ensures
