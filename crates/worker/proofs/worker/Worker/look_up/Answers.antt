use Rattle.std.proofs.Common.{◌≡◌, ◌+◌, ◌∙◌, ap, arith, refl, sym}
use Rattle.std.specs.Prelude.{option_map}
use Rattle.two_phase.specs.Reading.{ReaderData, reader_data}
use Rattle.two_phase.proofs.ReaderCalls.{reads_fault, reads_well}
use Rattle.worker.specs.Workers.{WorkerData}
use Rattle.worker.proofs.Going.{goes_read, goes_well}
use Rattle.worker.proofs.worker.Worker.look_up.Goals as goal

pub returns-in-Hit-clause-looked : goal.returns-in-Hit-clause-looked
returns-in-Hit-clause-looked g c = record { weak = c.in-Hit.ensures.now.1.weak_is; read = c.in-Hit.ensures.now.0 }

pub returns-in-Hit-clause-goes : goal.returns-in-Hit-clause-goes
returns-in-Hit-clause-goes g c =
    let was = c.self.view_is in
    let before : ReaderData = reader_data (g.R.KeepReader.held c.in-Some.reader) (g.R.KeepReader.bound c.in-Some.reader) (g.R.KeepReader.faults c.in-Some.reader) in
    let after : ReaderData = reader_data (g.R.KeepReader.held c.lookup_by.new.reader) (g.R.KeepReader.bound c.lookup_by.new.reader) (g.R.KeepReader.faults c.lookup_by.new.reader) in
    goes_well c.args.self.now _ before after (ap (λ (w : WorkerData). w.share) was) (ap (λ (w : WorkerData). w.tally.faults) was)
    (sym (ap (λ (w : WorkerData). w.reader) was) ∙ ap (option_map (λ r. reader_data (g.R.KeepReader.held r) (g.R.KeepReader.bound r) (g.R.KeepReader.faults r))) c.in-Some.is) refl
    (reads_well before after _ c.in-Hit.ensures.reader (λ e. cc))

pub returns-in-Miss-clause-goes : goal.returns-in-Miss-clause-goes
returns-in-Miss-clause-goes g c =
    let was = c.self.view_is in
    let before : ReaderData = reader_data (g.R.KeepReader.held c.in-Some.reader) (g.R.KeepReader.bound c.in-Some.reader) (g.R.KeepReader.faults c.in-Some.reader) in
    let after : ReaderData = reader_data (g.R.KeepReader.held c.lookup_by.new.reader) (g.R.KeepReader.bound c.lookup_by.new.reader) (g.R.KeepReader.faults c.lookup_by.new.reader) in
    goes_well c.args.self.now _ before after (ap (λ (w : WorkerData). w.share) was) (ap (λ (w : WorkerData). w.tally.faults) was)
    (sym (ap (λ (w : WorkerData). w.reader) was) ∙ ap (option_map (λ r. reader_data (g.R.KeepReader.held r) (g.R.KeepReader.bound r) (g.R.KeepReader.faults r))) c.in-Some.is) refl
    (reads_well before after _ c.in-Miss.ensures.reader (λ e. cc))

pub returns-in-Memory-clause-goes : goal.returns-in-Memory-clause-goes
returns-in-Memory-clause-goes g c =
    let was = c.self.view_is in
    let before : ReaderData = reader_data (g.R.KeepReader.held c.in-Some.reader) (g.R.KeepReader.bound c.in-Some.reader) (g.R.KeepReader.faults c.in-Some.reader) in
    let after : ReaderData = reader_data (g.R.KeepReader.held c.lookup_by.new.reader) (g.R.KeepReader.bound c.lookup_by.new.reader) (g.R.KeepReader.faults c.lookup_by.new.reader) in
    goes_well c.args.self.now _ before after (ap (λ (w : WorkerData). w.share) was) (ap (λ (w : WorkerData). w.tally.faults) was)
    (sym (ap (λ (w : WorkerData). w.reader) was) ∙ ap (option_map (λ r. reader_data (g.R.KeepReader.held r) (g.R.KeepReader.bound r) (g.R.KeepReader.faults r))) c.in-Some.is) refl
    (reads_well before after _ c.in-Memory.ensures.reader (λ e. cc))

pub returns-in-Fault-clause-goes : goal.returns-in-Fault-clause-goes
returns-in-Fault-clause-goes g c =
    let was = c.self.view_is in
    let before : ReaderData = reader_data (g.R.KeepReader.held c.in-Some.reader) (g.R.KeepReader.bound c.in-Some.reader) (g.R.KeepReader.faults c.in-Some.reader) in
    let after : ReaderData = reader_data (g.R.KeepReader.held c.lookup_by.new.reader) (g.R.KeepReader.bound c.lookup_by.new.reader) (g.R.KeepReader.faults c.lookup_by.new.reader) in
    goes_read c.args.self.now _ before after 1 (ap (λ (w : WorkerData). w.share) was)
    (sym (ap (λ (w : WorkerData). w.reader) was) ∙ ap (option_map (λ r. reader_data (g.R.KeepReader.held r) (g.R.KeepReader.bound r) (g.R.KeepReader.faults r))) c.in-Some.is) refl
    (reads_fault before after _ c.in-Fault.ensures.reader refl)
    (let sum = c.saturating_add-self-inside.ensures in let one = ap (λ (w : WorkerData). w.tally.faults) was in omega (arith, sum, one))
