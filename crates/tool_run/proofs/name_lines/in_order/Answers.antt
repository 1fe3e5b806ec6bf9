use Rattle.std.proofs.Common.{ap, subst, sym, ◌∙◌}
use Rattle.std.specs.Borrow.{Bor}
use Rattle.std.specs.Prelude.{ℕ, List}
use Rattle.std.proofs.lemmas.Result.{IfOk-weaker}
use Rattle.std.proofs.lemmas.Slice.Eq.{bytes_eq-Decides}
use Rattle.bx_tree.specs.Lent.{texts_now}
use Rattle.tool_run.specs.NameSets.{IsNameSet}
use Rattle.tool_run.proofs.NameSets.{lent_set, own_set}
use Rattle.tool_run.proofs.name_lines.in_order.Goals as goal

pub returns-then-rise : goal.returns-then-rise
returns-then-rise c =
    own_set (texts_now c.args.names.items)
    (subst (λ (ns : List (Bor (List ℕ))). IsNameSet (texts_now ns)) c.as_slice.ensures.value (c.rise.ensures c.if-rise.true))

pub returns : goal.returns
returns c =
    IfOk-weaker c.sorted.result _ _
    (λ set h. lent_set _ c.args.names.items set.items (λ x y e. (bytes_eq-Decides x.now y.now).0 e) h) c.sorted.ensures
