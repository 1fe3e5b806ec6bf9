use Rattle.std.proofs.Common.{refl, arith, sym, ◌∙◌}
use Rattle.std.proofs.lemmas.Result.{err_from_is_err_and}
use Rattle.dscript_ast.specs.Views.{type_tree, member_tree, field_tree}
use Rattle.dscript_grammar.specs.Reading.{and_then}
use Rattle.dscript_grammar.specs.TypeReading.{read_body, read_ended, read_field, read_fields, read_type}
use Rattle.dscript_parse_tokens.proofs.Refusals.{fails_from}
use Rattle.dscript_parse_tokens.proofs.Steps.{then_gives}
use Rattle.dscript_parse_tokens.proofs.UnionLoops.{union_init, union_next, union_done, union_closed, union_none, union_no_function}
use Rattle.dscript_parse_tokens.proofs.types.+types.Goals as goal

pub fields-returns : goal.fields-returns
unfolding read_fields
fields-returns t c =
    then_gives _ _ _ _ _ c.list.result c.in_ok-rest.ensures.0 c.in_ok-rest.ensures.1 (c.list.ensures (read_field (read_type c.args.depth.levels)) ")" (λ ts result post. post.2) refl)

pub body-returns : goal.body-returns
unfolding read_body
body-returns t c =
    then_gives _ _ _ _ _ c.until.result c.in_ok-rest.ensures.0 c.in_ok-rest.ensures.1 (c.until.ensures (read_ended (read_type c.args.depth.levels)) "}" (λ ts result post. post.2) refl)

pub type_list-returns : goal.type_list-returns
type_list-returns t c = c.separated.ensures (read_type c.args.depth.levels) "," (λ ts result post. post.2) refl

-- unions
pub union-alternatives-init : goal.union-alternatives-init
union-alternatives-init t c = record { so_far = union_init (read_type c.args.depth.levels) c.args.depth.levels c.new-types.ensures.items; within = omega arith }

pub union-returns-in_err-alternative : goal.union-returns-in_err-alternative
union-returns-in_err-alternative t c =
    let p = err_from_is_err_and c.from_residual.result c.from_residual.ensures.1 in
    rw (p.1, p.2)
    (fails_from c.in_err-alternative.field-0.0 _ _ c.in_err-alternative.ensures
    (union_none (read_type c.args.depth.levels) c.args.depth.levels c.alternatives.invariant.so_far (sym c.at_function.ensures ∙ c.alternatives-test.true)))

pub union-alternatives-preserved : goal.union-alternatives-preserved
union-alternatives-preserved t c = record {
  so_far = rw c.higher-height.ensures
      (union_next (read_type c.args.depth.levels) c.args.depth.levels c.in_ok-alternative.alternative.value c.in_ok-push.ensures.items c.alternatives.invariant.so_far
      (sym c.at_function.ensures ∙ c.alternatives-test.true) c.in_ok-alternative.ensures.is c.in-Some.ensures.0 c.in_ok-alternative.ensures.shorter c.in-Some.ensures.1);
  within = omega (arith, c.higher-height.ensures, c.alternatives.invariant.within, c.in_ok-alternative.ensures.within);
}

pub union-returns-in-None : goal.union-returns-in-None
union-returns-in-None t c = record {
  is = rw c.higher-height.ensures
      (union_done (read_type c.args.depth.levels) c.args.depth.levels c.in_ok-alternative.alternative.value c.in_ok-push.ensures.items c.alternatives.invariant.so_far
      (sym c.at_function.ensures ∙ c.alternatives-test.true) c.in_ok-alternative.ensures.is c.in-None.ensures);
  within = omega (arith, c.higher-height.ensures, c.alternatives.invariant.within, c.in_ok-alternative.ensures.within);
  shorter = omega (arith, c.alternatives.invariant.so_far.count, c.in_ok-alternative.ensures.shorter);
}

pub union-returns-in_err-last : goal.union-returns-in_err-last
union-returns-in_err-last t c =
    let p = err_from_is_err_and c.from_residual-in_err-last.result c.from_residual-in_err-last.ensures.1 in
    rw (p.1, p.2)
    (fails_from c.in_err-last.field-0.0 _ _ c.in_err-last.ensures
    (union_no_function (read_type c.args.depth.levels) c.args.depth.levels c.alternatives.invariant.so_far (sym c.at_function.ensures ∙ c.alternatives-test.false)))

pub union-returns : goal.union-returns
union-returns t c = record {
  is = rw c.higher.ensures
      (union_closed (read_type c.args.depth.levels) c.args.depth.levels c.in_ok-last.last.value c.in_ok-push-2.ensures.items c.alternatives.invariant.so_far
      (sym c.at_function.ensures ∙ c.alternatives-test.false) c.in_ok-last.ensures.is);
  within = omega (arith, c.higher.ensures, c.alternatives.invariant.within, c.in_ok-last.ensures.within);
  shorter = omega (arith, c.alternatives.invariant.so_far.count, c.in_ok-last.ensures.shorter);
}
