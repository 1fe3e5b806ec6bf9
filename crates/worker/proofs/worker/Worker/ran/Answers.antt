use Rattle.std.proofs.Common.{arith, refl, subst, sym}
use Rattle.worker.specs.Workers.{GoesOn, WorkerData}
use Rattle.worker.proofs.Going.{goes_still}
use Rattle.worker.proofs.worker.Worker.ran.Goals as goal

pub returns-in_err-ran : goal.returns-in_err-ran
returns-in_err-ran g c = record {
  goes = subst (λ (w : WorkerData). GoesOn c.args.self.now w) (sym c.self.view_is) (goes_still c.args.self.now c.args.self.now refl (omega arith) refl refl);
}

pub returns : goal.returns
returns g c = record {
  goes = subst (λ (w : WorkerData). GoesOn c.args.self.now w) (sym c.self.view_is) (goes_still c.args.self.now c.args.self.now refl (omega arith) refl refl);
}
