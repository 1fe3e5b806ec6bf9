use Rattle.std.proofs.Common.{◌≡◌, [], arith, false, is_some, refl, rules, string_bytes, true}
use Rattle.std.proofs.lemmas.Grind.{common_steps}
use Rattle.bx_io.proofs.Mapped.{holdings_put}
use Rattle.bx_io_disk.proofs.Files.{absent_from, present_at, written_to}
use Rattle.bx_io_disk.proofs.Events.{failure_noted}
use Rattle.bx_io_disk.proofs.mem_disk.MemDiskDisk.create.Goals as goal

pub returns-then-is_some-clause-created : goal.returns-then-is_some-clause-created
returns-then-is_some-clause-created c =
    let there : is_some c.get.result ≡ true = search rules in
    (refl, λ _. present_at c.args.self.now.map c.args.path.now c.get.result there c.get.ensures.value)

pub returns-then-is_some-clause-cause : goal.returns-then-is_some-clause-cause
returns-then-is_some-clause-cause c = rw c.fault.ensures.noted (failure_noted _ c.args.self.now.failed.events)

pub returns-clause-created : goal.returns-clause-created
returns-clause-created c =
    let none : is_some c.get.result ≡ false = search rules in
    let there =
    written_to _ _ (string_bytes c.in_ok-key.key) c.args.path.now c.new.result.items []
    (holdings_put (string_bytes c.in_ok-key.key) c.args.self.now.map c.insert.new.self c.new.result c.in_ok-insert.ensures.updates) (grind (arith, common_steps))
    (grind (arith, common_steps)) in
    (absent_from c.args.self.now.map c.args.path.now c.get.result none c.get.ensures.value, there.0, there.1)
