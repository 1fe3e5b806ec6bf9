use Rattle.std.proofs.Common.{◌∙◌, sym, ap, subst}
use Rattle.std.proofs.lemmas.List.{take_all}
use Rattle.pip_model_types.specs.Made.{RisingFiles, made_files}
use Rattle.tool_run_writes.proofs.PutInOrder.{put_item}
use Rattle.tool_run_writes.proofs.writes.map_of.Goals as goal

pub files-preserved : goal.files-preserved
files-preserved c =
    put_item c.files-made.result.now c.files.file-index c.file-item.result c.files.map.entries c.insert.new.self.entries c.in_ok-share.field-0 c.in_ok-share-2.field-0
    c.files-test.true (subst RisingFiles (sym c.files-made.ensures.files) c.files-made.ensures.rising) c.file-item.is c.files.invariant
    c.in_ok-share.ensures c.in_ok-share-2.ensures c.in_ok-insert.ensures.entries

pub returns : goal.returns
returns c =
    c.files.invariant ∙ ap made_files (take_all c.files.file-index c.files-made.result.now c.files-test.false) ∙ c.files-made.ensures.files
