use Rattle.std.proofs.Common.{◌≡◌, subst, sym, arith}
use Rattle.dscript_program.specs.Views.{program_data}
use Rattle.dscript_types_known.specs.Tables.{IsRight, TableData, closed}
use Rattle.dscript_types_notes.proofs.Going.{if_ok}
use Rattle.dscript_types.specs.Passes.{IsFull}
use Rattle.dscript_types.proofs.Passing.{last_full, last_right}
use Rattle.dscript_types.proofs.Tables.{all_open_right}
use Rattle.dscript_types.proofs.finding.Finder.find_all.Goals as goal

pub passes-init : goal.passes-init
passes-init c =
    subst (IsRight (program_data c.args.self.now.program.now)) (sym c.in_ok-table.ensures)
    (all_open_right (program_data c.args.self.now.program.now))

pub passes-preserved : goal.passes-preserved
passes-preserved c = c.in_ok-pass.ensures.right

pub pass-requires : goal.pass-requires
pass-requires c = record { ready = c.requires; right = c.passes.invariant }

pub returns-then-count_open-count-clause-right : goal.returns-then-count_open-count-clause-right
returns-then-count_open-count-clause-right c =
    if_ok (λ (t : TableData). t ≡ closed c.pass.new.table) (λ (t : TableData). IsRight (program_data c.args.self.now.program.now) t)
    c.close.result
    (λ t is. subst (IsRight (program_data c.args.self.now.program.now)) (sym is)
    (last_right (program_data c.args.self.now.program.now) _ _ c.in_ok-pass.ensures
    (omega (arith, c.count_open-count.ensures, c.count_open.ensures, c.if-count_open-count.true))))
    c.close.ensures

pub returns-then-count_open-count-clause-full : goal.returns-then-count_open-count-clause-full
returns-then-count_open-count-clause-full c =
    if_ok (λ (t : TableData). t ≡ closed c.pass.new.table) (λ (t : TableData). IsFull t) c.close.result
    (λ t is. subst IsFull (sym is)
    (last_full (program_data c.args.self.now.program.now) _ _ c.in_ok-pass.ensures
    (omega (arith, c.count_open-count.ensures, c.count_open.ensures, c.if-count_open-count.true))))
    c.close.ensures

pub passes-smaller : goal.passes-smaller
passes-smaller c =
    omega (
      arith,
      c.count_open-count.ensures,
      c.count_open.ensures,
      c.if-count_open-count.false,
      c.in_ok-pass.ensures.fewer,
    )
