use Rattle.std.proofs.Common.{refl}
use Rattle.two_phase.specs.Reading.{ReaderData, reader_data}
use Rattle.two_phase.proofs.ReaderCalls.{none_read, reads_fault, reads_well}
use Rattle.retire.proofs.Told.{read_on}
use Rattle.retire.proofs.taking.recheck_by.Goals as goal

pub returns-in_default-clause-reader : goal.returns-in_default-clause-reader
returns-in_default-clause-reader g c = none_read _

pub returns-in-Kept-clause-reader : goal.returns-in-Kept-clause-reader
returns-in-Kept-clause-reader g c =
    let before : ReaderData = reader_data (g.R.KeepReader.held c.in-Some.reader) (g.R.KeepReader.bound c.in-Some.reader) (g.R.KeepReader.faults c.in-Some.reader) in
    let after : ReaderData = reader_data (g.R.KeepReader.held c.recheck.new.reader) (g.R.KeepReader.bound c.recheck.new.reader) (g.R.KeepReader.faults c.recheck.new.reader) in
    read_on (λ r. reader_data (g.R.KeepReader.held r) (g.R.KeepReader.bound r) (g.R.KeepReader.faults r)) c.args.reader.now c.in-Some.reader after 0 c.in-Some.is
    (reads_well before after _ c.in-Kept.ensures.reader (λ e. cc))

pub returns-in-Changed-clause-reader : goal.returns-in-Changed-clause-reader
returns-in-Changed-clause-reader g c =
    let before : ReaderData = reader_data (g.R.KeepReader.held c.in-Some.reader) (g.R.KeepReader.bound c.in-Some.reader) (g.R.KeepReader.faults c.in-Some.reader) in
    let after : ReaderData = reader_data (g.R.KeepReader.held c.recheck.new.reader) (g.R.KeepReader.bound c.recheck.new.reader) (g.R.KeepReader.faults c.recheck.new.reader) in
    read_on (λ r. reader_data (g.R.KeepReader.held r) (g.R.KeepReader.bound r) (g.R.KeepReader.faults r)) c.args.reader.now c.in-Some.reader after 0 c.in-Some.is
    (reads_well before after _ c.in-Changed.ensures.reader (λ e. cc))

pub returns-in-Fault-clause-reader : goal.returns-in-Fault-clause-reader
returns-in-Fault-clause-reader g c =
    let before : ReaderData = reader_data (g.R.KeepReader.held c.in-Some.reader) (g.R.KeepReader.bound c.in-Some.reader) (g.R.KeepReader.faults c.in-Some.reader) in
    let after : ReaderData = reader_data (g.R.KeepReader.held c.recheck.new.reader) (g.R.KeepReader.bound c.recheck.new.reader) (g.R.KeepReader.faults c.recheck.new.reader) in
    read_on (λ r. reader_data (g.R.KeepReader.held r) (g.R.KeepReader.bound r) (g.R.KeepReader.faults r)) c.args.reader.now c.in-Some.reader after 1 c.in-Some.is
    (reads_fault before after _ c.in-Fault.ensures.reader refl)
