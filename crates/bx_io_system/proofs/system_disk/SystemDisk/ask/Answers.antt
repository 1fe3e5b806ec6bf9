use Rattle.std.proofs.Common.{◌≡◌, false, is_some, refl, rules, true}
use Rattle.bx_io_system.proofs.Locking.{no_lock}
use Rattle.bx_io_system.proofs.system_disk.SystemDisk.ask.Goals as goal

pub invariant_of-self-in-Ok : goal.invariant_of-self-in-Ok
invariant_of-self-in-Ok g c =
    let was = c.args.self.now in
    let none : is_some was.lock ≡ false = search rules in record {
      kept = λ is. refl;
      kept_alone = λ is. absurd (no_lock true was.log.events was.lock was.kept none is);
      excluded = was.excluded;
    }
