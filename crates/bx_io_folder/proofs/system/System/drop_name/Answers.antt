use Rattle.bx_io.specs.Holdings.{Drop}
use Rattle.bx_io_folder.proofs.Telling.{agrees_after_drop, alone_before_change, noted_names, telling_noted}
use Rattle.bx_io_folder.proofs.system.System.drop_name.Goals as goal
use Rattle.bx_io_folder.proofs.Files.{cause_of, excluded_change, failed_change}
use Rattle.std.proofs.Common.{◌∙◌, sym}

pub invariant_of-self-clause-agrees : goal.invariant_of-self-clause-agrees
invariant_of-self-clause-agrees g c q known named =
    agrees_after_drop c.args.self.now.log c.was_dropped.new.log (g.D.Disk.files c.args.self.now.disk.disk) (g.D.Disk.files c.drop_name-done.new.self.disk) c.args.name.now q c.drop_name-done.result
    c.was_dropped.result c.was_dropped.ensures.noted c.was_dropped.ensures.answer (c.drop_name-done.ensures.dropped known) named (c.args.self.now.agrees q known named)

pub invariant_of-self-clause-telling : goal.invariant_of-self-clause-telling
invariant_of-self-clause-telling g c known =
    telling_noted c.args.self.now.log c.was_dropped.new.log (Drop c.args.name.now) c.was_dropped.result c.was_dropped.ensures.noted (c.args.self.now.telling known)

pub invariant_of-self-clause-named : goal.invariant_of-self-clause-named
invariant_of-self-clause-named g c =
    noted_names c.args.self.now.log c.was_dropped.new.log (Drop c.args.name.now) c.was_dropped.result c.was_dropped.ensures.noted c.requires c.args.self.now.named

pub returns-clause-disk : goal.returns-clause-disk
returns-clause-disk g c =
    cause_of _ _ _ _ c.drop_name-done.ensures.cause (λ failed. failed_change c.drop_name-done.result (sym c.was_dropped.ensures.answer ∙ failed))

pub invariant_of-self-clause-alone : goal.invariant_of-self-clause-alone
invariant_of-self-clause-alone g c alone =
    c.drop_name-done.ensures.alone ∙ c.args.self.now.alone (alone_before_change c.args.self.now.log c.was_dropped.new.log (Drop c.args.name.now) c.was_dropped.result c.was_dropped.ensures.noted alone)

pub returns-clause-excluded : goal.returns-clause-excluded
returns-clause-excluded g c is = c.was_dropped.ensures.answer ∙ excluded_change c.drop_name-done.result (c.drop_name-done.ensures.excluded is)
