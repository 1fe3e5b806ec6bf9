use Rattle.std.proofs.Common.{subst, sym}
use Rattle.std.specs.List.{Any}
use Rattle.pip_model_types.specs.declared.pip.Pip.{Pip}
use Rattle.bx_tree.specs.Paths.{Atoms, IsBelow}
use Rattle.graph_check_outputs.specs.Outputs.{outputs}
use Rattle.graph_check_outputs.specs.OutsideOut.{out_dir}
use Rattle.graph_check_outputs.proofs.Firsts.{found_first, found_none, none_has}
use Rattle.graph_check_outputs.proofs.outside_out.first_outside.Goals as goal

abbrev IsOutside : Atoms → Type 0
IsOutside path = IsBelow path out_dir → ⊥

-- some output of the pip does not lie strictly below the directory
abbrev AnyOutside : Pip → Atoms → Type 0
AnyOutside pip dir = Any (λ path. IsBelow path dir → ⊥) (outputs pip.kind)

pub returns-then-branch : goal.returns-then-branch
returns-then-branch c =
    found_first outputs IsOutside c.args.pips.now c.pips.number c.index-pips-number.result c.pips-test.true c.index-pips-number.is
    (subst (AnyOutside c.index-pips-number.result) c.in_ok-out.ensures (c.in_ok-has_outside.ensures.0 c.if-branch.true)) c.pips.invariant

pub pips-preserved : goal.pips-preserved
pips-preserved c =
    found_none outputs IsOutside c.args.pips.now c.pips.number c.index-pips-number.result c.pips-test.true c.index-pips-number.is
    (λ any. let t = c.in_ok-has_outside.ensures.1 (subst (AnyOutside c.index-pips-number.result) (sym c.in_ok-out.ensures) any) in cc)
    c.pips.invariant

pub returns : goal.returns
returns c = none_has outputs IsOutside c.args.pips.now c.pips.number c.pips-test.false c.pips.invariant
