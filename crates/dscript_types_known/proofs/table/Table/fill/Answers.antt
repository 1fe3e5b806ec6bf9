use Rattle.std.proofs.Common.{ap, arith, sym, ◌∙◌}
use Rattle.dscript_types_known.specs.Tables.{filled}
use Rattle.dscript_types_known.specs.Views.{finding_data}
use Rattle.dscript_types_known.proofs.Filled.{files_counted, files_filled, files_past}
use Rattle.dscript_types_known.proofs.table.Table.fill.Goals as goal

pub returns-then-place-len : goal.returns-then-place-len
returns-then-place-len c =
    let f = finding_data c.args.finding in
    let past = files_past c.self.inside.files.items c.args.file c.args.decl f (omega (arith, c.if-place-len.true)) in
    sym c.self.view_is ∙ past ∙ ap (λ t. filled t c.args.file c.args.decl f) c.self.view_is

pub overflow_sub-self : goal.overflow_sub-self
overflow_sub-self c =
    omega (
      arith,
      files_counted c.self.inside.files.items c.args.file c.args.decl (finding_data c.args.finding) c.index_mut-entries.result.now
          c.fill_entry-taken.new.entries (omega (arith, c.if-place-len.false)) c.index_mut-entries.ensures.value c.fill_entry-taken.result
          c.fill_entry-taken.ensures.found,
      c.self.invariant,
    )

pub invariant_of-self : goal.invariant_of-self
invariant_of-self c =
    omega (
      arith,
      files_counted c.self.inside.files.items c.args.file c.args.decl (finding_data c.args.finding) c.index_mut-entries.result.now
          c.fill_entry-taken.new.entries (omega (arith, c.if-place-len.false)) c.index_mut-entries.ensures.value c.fill_entry-taken.result
          c.fill_entry-taken.ensures.found,
      c.self.invariant,
    )

pub returns : goal.returns
returns c =
    files_filled c.self.inside.files.items c.args.file c.args.decl (finding_data c.args.finding) c.index_mut-entries.result.now
    c.fill_entry-taken.new.entries (omega (arith, c.if-place-len.false)) c.index_mut-entries.ensures.value
    c.fill_entry-taken.ensures.entries
    ∙ ap (λ t. filled t c.args.file c.args.decl (finding_data c.args.finding)) c.self.view_is
