use Rattle.std.proofs.Common.{◌≡◌, arith, rules, string_bytes}
use Rattle.std.proofs.lemmas.Grind.{common_steps}
use Rattle.bx_io.proofs.Mapped.{holdings_put, holdings_drop}
use Rattle.bx_io.specs.Stored.{holdings_of}
use Rattle.bx_io_disk.proofs.Events.{failure_noted}
use Rattle.bx_io_disk.proofs.Files.{read_found, renamed_itself, renamed_to}
use Rattle.bx_io_disk.proofs.mem_disk.MemDiskDisk.rename.Goals as goal

pub returns-then-ne-clause-renamed : goal.returns-then-ne-clause-renamed
returns-then-ne-clause-renamed c =
    let map = c.args.self.now.map in
    let key = string_bytes c.in_ok-key.key in
    let bytes = c.in_ok-bytes.bytes in
    let apart : c.args.old.now ≡ c.args.path.now → ⊥ = search rules in
    renamed_to (holdings_of map) (holdings_of c.insert.new.self) (holdings_of c.remove.new.self) c.args.old.now c.args.path.now key bytes.items
    (read_found map c.args.old.now c.in-Some.bytes.now bytes.items c.in-Some.ensures.value (grind (arith, common_steps)))
    (holdings_put key map c.insert.new.self bytes c.in_ok-insert.ensures.updates)
    (grind (arith, common_steps)) apart
    (holdings_drop c.args.old.now c.insert.new.self c.remove.new.self c.remove.ensures.updates)

pub returns-else-ne-clause-renamed : goal.returns-else-ne-clause-renamed
returns-else-ne-clause-renamed c =
    let map = c.args.self.now.map in
    let key = string_bytes c.in_ok-key.key in
    let bytes = c.in_ok-bytes.bytes in
    let here : c.args.old.now ≡ c.args.path.now = search rules in
    renamed_itself (holdings_of map) (holdings_of c.insert.new.self) c.args.old.now c.args.path.now key bytes.items
    (read_found map c.args.old.now c.in-Some.bytes.now bytes.items c.in-Some.ensures.value (grind (arith, common_steps)))
    (holdings_put key map c.insert.new.self bytes c.in_ok-insert.ensures.updates)
    (grind (arith, common_steps)) here

pub returns-in_default-clause-cause : goal.returns-in_default-clause-cause
returns-in_default-clause-cause c = rw c.fault.ensures.noted (failure_noted _ c.args.self.now.failed.events)
