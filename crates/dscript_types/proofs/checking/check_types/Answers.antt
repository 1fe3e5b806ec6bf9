use Rattle.std.proofs.Common.{Bor, MatchOption, arith, subst, sym}
use Rattle.dscript_program.specs.Views.{program_data}
use Rattle.dscript_program.specs.declared.program.BoundFile.{BoundFile}
use Rattle.dscript_types.specs.Passes.{IsUntypedFirst}
use Rattle.dscript_types_meaning.specs.Typed.{IsFirstUntyped, IsTyped}
use Rattle.dscript_types.proofs.checking.check_types.Goals as goal

pub find_all-requires : goal.find_all-requires
find_all-requires c = record { names = c.in_ok-names.ensures; left = c.in_ok-left.ensures }

pub first_untyped-requires : goal.first_untyped-requires
first_untyped-requires c = record {
  sound = record {
    names = c.in_ok-names.ensures;
    right = c.in_ok-table.ensures.right;
    within = omega (arith, c.in_ok-left.ensures);
  };
  full = c.in_ok-table.ensures.full;
  reach = c.in_ok-left.ensures;
}

pub returns-in-Some-clause-exact : goal.returns-in-Some-clause-exact
returns-in-Some-clause-exact c =
    subst (IsFirstUntyped (program_data c.args.program.now)) (sym c.in_ok-share-in-Some.ensures)
    (subst
    (λ o. MatchOption o (IsTyped (program_data c.args.program.now))
    (λ (file : Bor BoundFile). IsUntypedFirst (program_data c.args.program.now) file.now))
    c.in-Some.is c.in_ok-file.ensures)

pub returns-clause-exact : goal.returns-clause-exact
returns-clause-exact c =
    subst
    (λ o. MatchOption o (IsTyped (program_data c.args.program.now))
    (λ (file : Bor BoundFile). IsUntypedFirst (program_data c.args.program.now) file.now))
    c.in-None.is c.in_ok-file.ensures

pub returns-clause-sound : goal.returns-clause-sound
returns-clause-sound c = λ modules files is.
    c.typed_programs_keep_to_kinds.ensures modules files (program_data c.args.program.now) is
    (subst
    (λ o. MatchOption o (IsTyped (program_data c.args.program.now))
    (λ (file : Bor BoundFile). IsUntypedFirst (program_data c.args.program.now) file.now))
    c.in-None.is c.in_ok-file.ensures)
