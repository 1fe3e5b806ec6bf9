use Rattle.std.proofs.Common.{add-one, arith}
use Rattle.std.proofs.lemmas.Result.{err_from_is_err_and}
use Rattle.dscript_parse_tokens.proofs.UnionLoops.{brackets_init, brackets_next, brackets_done, brackets_none}
use Rattle.dscript_parse_tokens.proofs.types.brackets.Goals as goal

pub brackets-init : goal.brackets-init
brackets-init c = brackets_init

pub returns-in_err-rest : goal.returns-in_err-rest
returns-in_err-rest c =
    let p = err_from_is_err_and c.from_residual.result c.from_residual.ensures.1 in
    rw (p.1, p.2, c.in_err-rest.ensures.0) (brackets_none c.brackets.invariant c.in-Some.ensures.0 c.in-Some.ensures.1 c.in_err-rest.ensures.1)

pub brackets-preserved : goal.brackets-preserved
brackets-preserved c =
    rw add-one (brackets_next c.brackets.invariant c.in-Some.ensures.0 c.in_ok-rest.ensures.0 c.in-Some.ensures.1 c.in_ok-rest.ensures.1)

pub returns : goal.returns
returns c = record {
  is = brackets_done c.brackets.invariant c.in_default.ensures;
  within = omega arith;
  shorter = omega (arith, c.brackets.invariant.within);
}
