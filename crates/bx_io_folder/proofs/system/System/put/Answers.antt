use Rattle.bx_io.specs.Holdings.{Put}
use Rattle.bx_io_folder.proofs.Telling.{agrees_after_put, alone_before_change, noted_names, telling_noted}
use Rattle.bx_io_folder.proofs.system.System.put.Goals as goal
use Rattle.bx_io_folder.proofs.Files.{cause_of, excluded_change, failed_change, failed_put}
use Rattle.std.proofs.Common.{◌∙◌, subst, sym, Result}
use Rattle.std.specs.Prelude.{IsErr}
use Rattle.bx_io.specs.declared.keeper.PutFault.{PutFault}

pub invariant_of-self-clause-agrees : goal.invariant_of-self-clause-agrees
invariant_of-self-clause-agrees g c q known named =
    agrees_after_put c.args.self.now.log c.was_put.new.log (g.D.Disk.files c.args.self.now.disk.disk) (g.D.Disk.files c.put-done.new.self.disk) c.args.name.now c.args.bytes.now q c.put-done.result
    c.was_put.result c.was_put.ensures.noted c.was_put.ensures.answer (c.put-done.ensures.put known) named (c.args.self.now.agrees q known named)

pub invariant_of-self-clause-telling : goal.invariant_of-self-clause-telling
invariant_of-self-clause-telling g c known =
    telling_noted c.args.self.now.log c.was_put.new.log (Put c.args.name.now c.args.bytes.now) c.was_put.result c.was_put.ensures.noted (c.args.self.now.telling known)

pub invariant_of-self-clause-named : goal.invariant_of-self-clause-named
invariant_of-self-clause-named g c =
    noted_names c.args.self.now.log c.was_put.new.log (Put c.args.name.now c.args.bytes.now) c.was_put.result c.was_put.ensures.noted c.requires c.args.self.now.named

pub returns-clause-disk : goal.returns-clause-disk
returns-clause-disk g c =
    cause_of _ _ _ _ c.put-done.ensures.cause (λ failed. failed_change c.put-done.result (sym c.was_put.ensures.answer ∙ failed))

pub invariant_of-self-clause-alone : goal.invariant_of-self-clause-alone
invariant_of-self-clause-alone g c alone =
    c.put-done.ensures.alone ∙ c.args.self.now.alone (alone_before_change c.args.self.now.log c.was_put.new.log (Put c.args.name.now c.args.bytes.now) c.was_put.result c.was_put.ensures.noted alone)

pub returns-clause-excluded : goal.returns-clause-excluded
returns-clause-excluded g c is = c.was_put.ensures.answer ∙ excluded_change c.put-done.result (c.put-done.ensures.excluded is)

pub returns-clause-large : goal.returns-clause-large
returns-clause-large g c large =
    subst (λ (r : Result (Unit {0}) PutFault). IsErr r) (sym c.was_put.ensures.answer) (failed_put c.put-done.result (c.put-done.ensures.large large))
