use Rattle.std.proofs.Common.{refl, arith}
use Rattle.dscript_types.proofs.Seeing.{sees_file, sees_no_file}
use Rattle.dscript_types.proofs.visits.Visits.see.Goals as goal

pub returns-then-file-len : goal.returns-then-file-len
returns-then-file-len c =
    sees_no_file c.args.self.now _ c.args.at.file c.args.at.decl (omega (arith, c.if-file-len.true)) refl

pub returns : goal.returns
returns c =
    sees_file c.args.self.now _ c.args.at.file c.args.at.decl _ c.index_mut.result.now _ (omega (arith, c.if-file-len.false))
    c.index_mut.ensures.value refl c.see_in.ensures
