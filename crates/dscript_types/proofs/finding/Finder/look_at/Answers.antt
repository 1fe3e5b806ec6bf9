use Rattle.std.proofs.Common.{MatchOption, ap, subst, sym, ◌∙◌}
use Rattle.dscript_program.specs.Views.{program_data}
use Rattle.dscript_types_known.specs.Findings.{is_open}
use Rattle.dscript_types_known.specs.Tables.{filled}
use Rattle.dscript_types_known.specs.Views.{finding_data}
use Rattle.dscript_types.specs.Passes.{FindsIn, IsShut}
use Rattle.dscript_types.proofs.Passing.{over_found, over_open, over_shut}
use Rattle.dscript_types.proofs.finding.Finder.look_at.Goals as goal

pub returns-in-Some-Found : goal.returns-in-Some-Found
returns-in-Some-Found c =
    over_found (program_data c.args.self.now.program.now) _ _ c.args.at.file c.args.at.decl (finding_data c.in-Some-Found.field-0) c.requires.right
    (subst
    (λ o. MatchOption o (IsShut (program_data c.args.self.now.program.now) c.args.table.now c.args.at.file c.args.at.decl)
    (λ f. FindsIn (program_data c.args.self.now.program.now) c.args.table.now c.args.at.file c.args.at.decl (finding_data f)))
    c.in-Some-Found.is c.in_ok-t.ensures)
    (ap (λ f. is_open (finding_data f)) c.in-Some-Found.field-0-is)
    (c.fill.ensures ∙ ap (λ f. filled c.args.table.now c.args.at.file c.args.at.decl (finding_data f)) (sym c.in-Some-Found.field-0-is))

pub returns-in-Some-Nothing : goal.returns-in-Some-Nothing
returns-in-Some-Nothing c =
    over_found (program_data c.args.self.now.program.now) _ _ c.args.at.file c.args.at.decl (finding_data c.in-Some-Nothing.field-0) c.requires.right
    (subst
    (λ o. MatchOption o (IsShut (program_data c.args.self.now.program.now) c.args.table.now c.args.at.file c.args.at.decl)
    (λ f. FindsIn (program_data c.args.self.now.program.now) c.args.table.now c.args.at.file c.args.at.decl (finding_data f)))
    c.in-Some-Nothing.is c.in_ok-t.ensures)
    (ap (λ f. is_open (finding_data f)) c.in-Some-Nothing.field-0-is)
    (c.fill-in-Some-Nothing.ensures
    ∙ ap (λ f. filled c.args.table.now c.args.at.file c.args.at.decl (finding_data f)) (sym c.in-Some-Nothing.field-0-is))

pub returns-in-Some-Open : goal.returns-in-Some-Open
returns-in-Some-Open c =
    over_open (program_data c.args.self.now.program.now) _ c.args.at.file c.args.at.decl c.requires.right
    (subst (λ f. FindsIn (program_data c.args.self.now.program.now) c.args.table.now c.args.at.file c.args.at.decl (finding_data f))
    c.in-Some-Open.field-0-is
    (subst
    (λ o. MatchOption o (IsShut (program_data c.args.self.now.program.now) c.args.table.now c.args.at.file c.args.at.decl)
    (λ f. FindsIn (program_data c.args.self.now.program.now) c.args.table.now c.args.at.file c.args.at.decl (finding_data f)))
    c.in-Some-Open.is c.in_ok-t.ensures))

pub returns-in-None : goal.returns-in-None
returns-in-None c =
    over_shut (program_data c.args.self.now.program.now) _ c.args.at.file c.args.at.decl c.requires.right
    (subst
    (λ o. MatchOption o (IsShut (program_data c.args.self.now.program.now) c.args.table.now c.args.at.file c.args.at.decl)
    (λ f. FindsIn (program_data c.args.self.now.program.now) c.args.table.now c.args.at.file c.args.at.decl (finding_data f)))
    c.in-None.is c.in_ok-t.ensures)
