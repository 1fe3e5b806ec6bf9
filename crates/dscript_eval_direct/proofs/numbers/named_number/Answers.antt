use Rattle.std.proofs.Common.{◌≡◌, ℤ, rules, subst, sym}
use mir.Syntax.{w32}
use mir.Val.{to_z, of_z}
use Rattle.dscript_program.specs.BoundTree as tree
use Rattle.dscript_value.specs.Plain as plain
use Rattle.dscript_eval_direct.specs.Now.{IsAtOnce, knowledge}
use Rattle.dscript_eval_direct.proofs.Steps.{at_later, local_gives}
use Rattle.dscript_eval_direct.proofs.numbers.named_number.Goals as goal

pub returns-then-spend : goal.returns-then-spend
returns-then-spend c =
    let n = c.in_ok-number-in-Local.number in
    let same : to_z w32 (of_z w32 n) ≡ n = search rules in
    let P : ℤ → Type 0 = λ k. IsAtOnce (knowledge c.args.known.now) (tree.Name c.args.target) c.args.left.now
    (plain.Number k) c.spend.new.left in
    subst P (sym same)
    (at_later (knowledge c.args.known.now) (tree.Name c.args.target) c.args.left.now (plain.Number n) _ _
    (c.spend.ensures.spent c.if-spend.true)
    (local_gives (knowledge c.args.known.now) c.args.target c.in-Local.local (plain.Number n) c.args.left.now
    c.in-Local.is c.in_ok-number-in-Local.ensures.own c.in_ok-number-in-Local.ensures.held
    (c.spend.ensures.enough c.if-spend.true)))
