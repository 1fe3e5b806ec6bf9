use Rattle.std.proofs.Common.{◌≡◌, false, is_some, rules, true}
use Rattle.bx_io_system.proofs.Locking.{no_lock, not_refused}
use Rattle.bx_io_system.proofs.system_disk.SystemDiskDisk.join.Goals as goal

pub invariant_of-self : goal.invariant_of-self
invariant_of-self g c =
    let was = c.args.self.now in
    let none : is_some was.lock ≡ false = search rules in
    let free : is_some was.refused ≡ false = search rules in record {
      kept = λ is. absurd (no_lock false was.log.events was.lock was.kept none is);
      kept_alone = λ is. absurd (no_lock true was.log.events was.lock was.kept none is);
      excluded = λ is. absurd (not_refused was.log.events was.refused was.excluded free is);
    }
