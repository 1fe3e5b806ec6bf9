use Rattle.std.proofs.Common.{◌∙◌}
use Rattle.pip_view_inputs.proofs.InOrder.{files_distinct, files_same}
use Rattle.pip_view_inputs.proofs.sharing.share_files.Goals as goal

pub of-requires : goal.of-requires
of-requires c = files_distinct c.args.files.now c.in_ok-shared.shared.items c.files-list.ensures.rising (c.in_ok-shared.ensures ∙ c.files-list.ensures.files)

pub returns : goal.returns
returns c =
    files_same c.args.files.now c.in_ok-shared.shared.items c.of.result c.files-list.ensures.rising (c.in_ok-shared.ensures ∙ c.files-list.ensures.files) c.of.ensures.kept c.of.ensures.rising
