use Rattle.std.proofs.Common.{sym, ◌∙◌, arith}
use Rattle.dscript_types_known.specs.Views.{finding_data}
use Rattle.dscript_types_known.proofs.Filled.{entry_counts, entry_kept, entry_past, entry_taken}
use Rattle.dscript_types_known.proofs.table.fill_entry.Goals as goal

pub returns-then-place-len-clause-entries : goal.returns-then-place-len-clause-entries
returns-then-place-len-clause-entries c =
    entry_past c.args.entries.now.items c.args.decl (finding_data c.args.finding) (omega (arith, c.if-place-len.true))

pub returns-then-not-takes-clause-entries : goal.returns-then-not-takes-clause-entries
returns-then-not-takes-clause-entries c =
    entry_kept c.args.entries.now.items c.args.decl c.index.result.now (omega (arith, c.if-place-len.false))
    c.index.ensures (finding_data c.args.finding) (sym c.takes.ensures ∙ c.if-not-takes.true)

pub returns-clause-entries : goal.returns-clause-entries
returns-clause-entries c =
    entry_taken c.args.entries.now.items c.args.decl c.index.result.now (omega (arith, c.if-place-len.false))
    c.index.ensures c.args.finding (sym c.takes.ensures ∙ c.if-not-takes.false)

pub returns-clause-found : goal.returns-clause-found
returns-clause-found c =
    entry_counts c.args.entries.now.items c.args.decl c.index.result.now (omega (arith, c.if-place-len.false))
    c.index.ensures c.args.finding (sym c.takes.ensures ∙ c.if-not-takes.false)
