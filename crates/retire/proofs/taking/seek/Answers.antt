use Rattle.std.proofs.Common.{ap, refl, ◌∙◌}
use Rattle.std.specs.Prelude.{option_map}
use Rattle.sha2.specs.Sha256.{sha256}
use Rattle.two_phase.specs.Reading.{ReaderData, reader_data}
use Rattle.two_phase.proofs.ReaderCalls.{none_read, reads_fault, reads_well}
use Rattle.retire.proofs.Decisions.{fault_sought, hit_sought, miss_sought}
use Rattle.retire.proofs.Told.{read_on}
use Rattle.retire.proofs.taking.seek.Goals as goal

pub returns-in_default-clause-sought : goal.returns-in_default-clause-sought
returns-in_default-clause-sought g c =
    ap (option_map (λ r. reader_data (g.R.KeepReader.held r) (g.R.KeepReader.bound r) (g.R.KeepReader.faults r))) c.in_default.is

pub returns-in_default-clause-reader : goal.returns-in_default-clause-reader
returns-in_default-clause-reader g c = none_read _

pub returns-in-Hit-clause-sought : goal.returns-in-Hit-clause-sought
returns-in-Hit-clause-sought g c =
    hit_sought (reader_data (g.R.KeepReader.held c.lookup_by.new.reader) (g.R.KeepReader.bound c.lookup_by.new.reader) (g.R.KeepReader.faults c.lookup_by.new.reader)) c.args.desc.now (g.V.View.answers c.args.view.now) c.in-Hit.found
    c.in-Hit.ensures.answer c.in-Hit.ensures.now

pub returns-in-Hit-clause-reader : goal.returns-in-Hit-clause-reader
returns-in-Hit-clause-reader g c =
    let before : ReaderData = reader_data (g.R.KeepReader.held c.in-Some.reader) (g.R.KeepReader.bound c.in-Some.reader) (g.R.KeepReader.faults c.in-Some.reader) in
    let after : ReaderData = reader_data (g.R.KeepReader.held c.lookup_by.new.reader) (g.R.KeepReader.bound c.lookup_by.new.reader) (g.R.KeepReader.faults c.lookup_by.new.reader) in
    read_on (λ r. reader_data (g.R.KeepReader.held r) (g.R.KeepReader.bound r) (g.R.KeepReader.faults r)) c.args.reader.now c.in-Some.reader after 0 c.in-Some.is
    (reads_well before after _ c.in-Hit.ensures.reader (λ e. cc))

pub returns-in-Miss-clause-sought : goal.returns-in-Miss-clause-sought
returns-in-Miss-clause-sought g c =
    miss_sought (reader_data (g.R.KeepReader.held c.lookup_by.new.reader) (g.R.KeepReader.bound c.lookup_by.new.reader) (g.R.KeepReader.faults c.lookup_by.new.reader)) c.args.desc.now (g.V.View.answers c.args.view.now) c.in_ok-weak.weak
    c.in-Miss.ensures.answer (record { text = c.in_ok-weak.ensures.text; digest = c.in_ok-weak.ensures.digest ∙ ap sha256 c.in_ok-weak.ensures.text })

pub returns-in-Miss-clause-reader : goal.returns-in-Miss-clause-reader
returns-in-Miss-clause-reader g c =
    let before : ReaderData = reader_data (g.R.KeepReader.held c.in-Some.reader) (g.R.KeepReader.bound c.in-Some.reader) (g.R.KeepReader.faults c.in-Some.reader) in
    let after : ReaderData = reader_data (g.R.KeepReader.held c.lookup_by.new.reader) (g.R.KeepReader.bound c.lookup_by.new.reader) (g.R.KeepReader.faults c.lookup_by.new.reader) in
    read_on (λ r. reader_data (g.R.KeepReader.held r) (g.R.KeepReader.bound r) (g.R.KeepReader.faults r)) c.args.reader.now c.in-Some.reader after 0 c.in-Some.is
    (reads_well before after _ c.in-Miss.ensures.reader (λ e. cc))

pub returns-in-Fault-clause-sought : goal.returns-in-Fault-clause-sought
returns-in-Fault-clause-sought g c =
    fault_sought (reader_data (g.R.KeepReader.held c.lookup_by.new.reader) (g.R.KeepReader.bound c.lookup_by.new.reader) (g.R.KeepReader.faults c.lookup_by.new.reader)) c.args.desc.now (g.V.View.answers c.args.view.now) c.in_ok-weak.weak (record { text = c.in_ok-weak.ensures.text; digest = c.in_ok-weak.ensures.digest ∙ ap sha256 c.in_ok-weak.ensures.text })

pub returns-in-Fault-clause-reader : goal.returns-in-Fault-clause-reader
returns-in-Fault-clause-reader g c =
    let before : ReaderData = reader_data (g.R.KeepReader.held c.in-Some.reader) (g.R.KeepReader.bound c.in-Some.reader) (g.R.KeepReader.faults c.in-Some.reader) in
    let after : ReaderData = reader_data (g.R.KeepReader.held c.lookup_by.new.reader) (g.R.KeepReader.bound c.lookup_by.new.reader) (g.R.KeepReader.faults c.lookup_by.new.reader) in
    read_on (λ r. reader_data (g.R.KeepReader.held r) (g.R.KeepReader.bound r) (g.R.KeepReader.faults r)) c.args.reader.now c.in-Some.reader after 1 c.in-Some.is
    (reads_fault before after _ c.in-Fault.ensures.reader refl)
