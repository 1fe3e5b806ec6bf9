use Rattle.std.proofs.Common.{◌∙◌, sym}
use Rattle.bx_io_folder.proofs.Clearing.{clears_names}
use Rattle.bx_io_folder.proofs.Files.{cause_of, excluded_change, failed_change}
use Rattle.bx_io_folder.proofs.Telling.{agrees_alone, named_alone, telling_alone}
use Rattle.bx_io_folder.proofs.system.System.alone.Goals as goal

pub invariant_of-self-clause-agrees : goal.invariant_of-self-clause-agrees
invariant_of-self-clause-agrees g c q known named =
    agrees_alone c.args.self.now.log c.was_asked.new.log (g.D.Disk.files c.args.self.now.disk.disk) (g.D.Disk.files c.work_alone-done.new.self.disk) q c.was_asked.result c.was_asked.ensures.noted
    (clears_names _ _ (c.work_alone-done.ensures.clears known) q named) (c.args.self.now.agrees q known named)

pub invariant_of-self-clause-telling : goal.invariant_of-self-clause-telling
invariant_of-self-clause-telling g c known = telling_alone c.args.self.now.log c.was_asked.new.log c.was_asked.result c.was_asked.ensures.noted (c.args.self.now.telling known)

pub invariant_of-self-clause-named : goal.invariant_of-self-clause-named
invariant_of-self-clause-named g c = named_alone c.args.self.now.log c.was_asked.new.log c.was_asked.result c.was_asked.ensures.noted c.args.self.now.named

pub returns-clause-disk : goal.returns-clause-disk
returns-clause-disk g c =
    cause_of _ _ _ _ c.work_alone-done.ensures.cause (λ failed. failed_change c.work_alone-done.result (sym c.was_asked.ensures.answer ∙ failed))

pub returns-clause-excluded : goal.returns-clause-excluded
returns-clause-excluded g c is = c.was_asked.ensures.answer ∙ excluded_change c.work_alone-done.result (c.work_alone-done.ensures.excluded is)
