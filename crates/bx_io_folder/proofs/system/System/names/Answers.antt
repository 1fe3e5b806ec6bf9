use Rattle.std.proofs.Common.{◌∙◌, ap, IsSome, Some, subst, sym}
use Rattle.std.specs.FinMap.{get}
use Rattle.bx_io_disk.specs.Files.{Files}
use Rattle.bx_io_folder.specs.NamedFiles.{told_at}
use Rattle.bx_io_folder.proofs.Telling.{alone_before_listing, listing_names, listing_noted}
use Rattle.bx_io_folder.proofs.system.System.names.Goals as goal
use Rattle.bx_io_folder.proofs.Files.{cause_of, excluded_listing, failed_listing}

pub invariant_of-self-clause-agrees : goal.invariant_of-self-clause-agrees
invariant_of-self-clause-agrees g c q known named =
    let was = c.args.self.now in
    let files = g.D.Disk.files was.disk.disk in
    let told_on = listing_noted was.log c.was_listed.new.log files c.names-done.result c.was_listed.result c.was_listed.ensures.noted c.was_listed.ensures.answer c.names-done.ensures.names (c.names-done.ensures.listed known) was.named (was.telling known) (λ p n. was.agrees p known n) in
    ap (λ t. told_at t q) told_on ∙ was.agrees q known named ∙ ap (λ (f : Files). Some (get f q)) (sym c.names-done.ensures.files)

pub invariant_of-self-clause-telling : goal.invariant_of-self-clause-telling
invariant_of-self-clause-telling g c known =
    let was = c.args.self.now in
    let files = g.D.Disk.files was.disk.disk in
    let told_on = listing_noted was.log c.was_listed.new.log files c.names-done.result c.was_listed.result c.was_listed.ensures.noted c.was_listed.ensures.answer c.names-done.ensures.names (c.names-done.ensures.listed known) was.named (was.telling known) (λ p n. was.agrees p known n) in
    subst IsSome (sym told_on) (was.telling known)

pub invariant_of-self-clause-named : goal.invariant_of-self-clause-named
invariant_of-self-clause-named g c = listing_names c.args.self.now.log c.was_listed.new.log c.was_listed.result c.was_listed.ensures.noted c.args.self.now.named

pub returns-clause-disk : goal.returns-clause-disk
returns-clause-disk g c =
    cause_of _ _ _ _ c.names-done.ensures.cause (λ failed. failed_listing c.names-done.result (sym c.was_listed.ensures.answer ∙ failed))

pub invariant_of-self-clause-alone : goal.invariant_of-self-clause-alone
invariant_of-self-clause-alone g c alone =
    c.names-done.ensures.alone ∙ c.args.self.now.alone (alone_before_listing c.args.self.now.log c.was_listed.new.log c.was_listed.result c.was_listed.ensures.noted alone)

pub returns-clause-excluded : goal.returns-clause-excluded
returns-clause-excluded g c is = c.was_listed.ensures.answer ∙ excluded_listing c.names-done.result (c.names-done.ensures.excluded is)
