use Rattle.dscript_program.specs.Views.{program_data}
use Rattle.dscript_types_notes.proofs.Going.{if_ok}
use Rattle.dscript_types.proofs.Looking.{looks_again, looks_down, sees_one}
use Rattle.dscript_types.proofs.finding.Finder.look_once.Goals as goal

pub returns-then-not-see-clause-over : goal.returns-then-not-see-clause-over
returns-then-not-see-clause-over c =
    looks_again (program_data c.args.self.now.program.now) _ _ _ c.args.at.file c.args.at.decl _ c.requires.right c.see.ensures c.if-not-see.true

pub returns-then-not-see-clause-seen : goal.returns-then-not-see-clause-seen
returns-then-not-see-clause-seen c = λ less. c.see.ensures.own less

pub returns-clause-over : goal.returns-clause-over
returns-clause-over c =
    if_ok _ _ _ (λ u down. looks_down (program_data c.args.self.now.program.now) _ _ _ _ _ c.args.at _ c.see.ensures down) c.look_down.ensures

pub returns-clause-seen : goal.returns-clause-seen
returns-clause-seen c =
    if_ok _ _ _ (λ u down. sees_one (program_data c.args.self.now.program.now) _ _ _ _ _ c.args.at _ c.see.ensures down) c.look_down.ensures
