use Rattle.std.proofs.Common.{◌≡◌, [], ◌∷◌, Some, false, rules, true}
use Rattle.std.proofs.lemmas.Result.{IfErr-at_err}
use Rattle.std.specs.IoError.{error_kind}
use Rattle.std.specs.declared.io.ErrorKind.TheVariants.{WouldBlock}
use Rattle.bx_io_disk.specs.Files.{lock_fault}
use Rattle.bx_io_system.proofs.Locking.{locked_before, refused_after}
use Rattle.bx_io_system.proofs.system_disk.SystemDisk.lock_shared.Goals as goal

pub invariant_of-self-in-Err : goal.invariant_of-self-in-Err
invariant_of-self-in-Err g c =
    let was = c.ask-done.new.self in
    let kind = error_kind c.in-Err.error in
    let now = c.noted-self-in-Err.result.events in
    let is : now ≡ (lock_fault kind, [], []) ∷ was.log.events = search rules in record {
      kept = λ locked. was.kept (locked_before false kind was.log.events now is locked);
      kept_alone = λ locked. was.kept_alone (locked_before true kind was.log.events now is locked);
      excluded = refused_after kind was.log.events now was.refused is
          (IfErr-at_err (λ e. error_kind e ≡ WouldBlock → was.refused ≡ Some WouldBlock) c.in-Err.is c.ask-done.ensures.refused) was.excluded;
    }
