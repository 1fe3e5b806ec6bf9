use Rattle.std.proofs.Common.{◌≡◌, ℕ, true, subst, arith}
use Rattle.dscript_program.specs.Views.{program_data}
use Rattle.dscript_types.specs.Visits.{has_seen}
use Rattle.dscript_types.proofs.Looking.{file_begins, file_goes}
use Rattle.dscript_types.proofs.finding.Finder.look_at_file.Goals as goal

pub decls-init : goal.decls-init
decls-init c = file_begins (program_data c.args.self.now.program.now) _ _ c.args.file c.requires.right

pub returns-clause-over : goal.returns-clause-over
returns-clause-over c = c.decls.invariant.looks

pub returns-clause-seen : goal.returns-clause-seen
returns-clause-seen c = λ decl l. c.decls.invariant.seen decl (omega (arith, l, c.decls-test.false))

pub look_once-requires : goal.look_once-requires
look_once-requires c = record { ready = c.requires.ready; right = c.decls.invariant.looks.right }

pub decls-preserved : goal.decls-preserved
decls-preserved c =
    file_goes (program_data c.args.self.now.program.now) _ _ c.args.file c.decls.place _ _ _ _ c.decls.invariant
    c.in_ok-look_once.ensures.over
    (subst (λ (k : ℕ). has_seen c.look_once.new.visits c.args.file k ≡ true) c.in_ok-number.ensures
    (c.in_ok-look_once.ensures.seen
    (omega (arith, c.in_ok-number.ensures, c.decls-test.true, c.requires.size, c.decls.invariant.looks.size c.args.file))))
