use Rattle.std.proofs.Common.{◌∙◌, sym}
use Rattle.bx_io_folder.proofs.Files.{cause_of, excluded_look, failed_look}
use Rattle.bx_io_folder.proofs.system.System.get.Goals as goal

pub returns-clause-disk : goal.returns-clause-disk
returns-clause-disk g c =
    rw c.answered.ensures.disk (cause_of _ _ _ _ c.get-done.ensures.cause (λ failed. failed_look c.get-done.result (sym c.answered.ensures.answer ∙ failed)))

pub returns-clause-excluded : goal.returns-clause-excluded
returns-clause-excluded g c is = c.answered.ensures.answer ∙ excluded_look c.get-done.result (c.get-done.ensures.excluded is)
