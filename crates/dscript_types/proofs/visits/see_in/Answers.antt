use Rattle.std.proofs.Common.{refl, arith}
use Rattle.dscript_types.proofs.Seeing.{sees_again, sees_new, sees_past}
use Rattle.dscript_types.proofs.visits.see_in.Goals as goal

pub returns-then-place-len : goal.returns-then-place-len
returns-then-place-len c = sees_past c.args.flags.now.items c.args.decl (omega (arith, c.if-place-len.true))

pub returns-then-index : goal.returns-then-index
returns-then-index c =
    sees_again c.args.flags.now.items c.args.decl c.index.result.now (omega (arith, c.if-place-len.false))
    c.index.ensures c.if-index.true

pub returns : goal.returns
returns c =
    sees_new c.args.flags.now.items _ c.args.decl c.index.result.now (omega (arith, c.if-place-len.false))
    c.index.ensures c.if-index.false refl
