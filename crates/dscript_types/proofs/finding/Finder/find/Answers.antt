use Rattle.std.proofs.Common.{ap, subst, sym, ◌∙◌, arith}
use Rattle.std.specs.Option.{option_copied, option_map}
use Rattle.dscript_program.specs.Views.{decl_data, program_data}
use Rattle.dscript_types_known.specs.Findings.{is_open}
use Rattle.dscript_types_notes.specs.declared.world.World.{World}
use Rattle.dscript_types.specs.Passes.{FindsIn}
use Rattle.dscript_types.proofs.Passing.{finds_in, shut_found, shut_missing}
use Rattle.dscript_types.proofs.Tables.{is_an_open}
use Rattle.dscript_types.proofs.finding.Finder.find.Goals as goal

pub returns-in_default : goal.returns-in_default
returns-in_default c =
    shut_missing (program_data c.args.self.now.program.now) c.args.table.now c.args.at.file c.args.at.decl
    (sym c.decl.ensures ∙ ap (λ o. option_map decl_data (option_copied o)) c.in_default.is)

pub returns-then-not-is_open : goal.returns-then-not-is_open
returns-then-not-is_open c =
    shut_found (program_data c.args.self.now.program.now) c.args.table.now c.args.at.file c.args.at.decl
    (ap is_open (sym c.in_ok-get.ensures) ∙ sym c.is_open.ensures ∙ c.if-not-is_open.true)

pub look-requires : goal.look-requires
look-requires c = record {
  names = c.requires.ready.names;
  right = c.requires.right;
  within = omega (arith, c.requires.ready.left);
}

pub returns : goal.returns
returns c =
    let w : World = record {
      alloc = c.args.self.now.alloc;
      program = c.args.self.now.program;
      names = c.args.self.now.names;
      table = c.args.table;
      left = c.args.self.now.left;
    } in
    let there = sym c.decl.ensures ∙ ap (λ o. option_map decl_data (option_copied o)) c.in-Some.is in
    subst (λ f. FindsIn (program_data c.args.self.now.program.now) c.args.table.now c.args.at.file c.args.at.decl f) (sym c.in_ok-found.ensures)
    (finds_in w c.args.at.file c.args.at.decl (decl_data c.in-Some.decl.now) _ c.requires.ready.left there
    (sym c.in_ok-get.ensures ∙ is_an_open _ (sym c.is_open.ensures ∙ c.if-not-is_open.false))
    (c.in_ok-look.ensures c.args.at.decl there))
