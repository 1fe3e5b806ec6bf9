use Rattle.std.proofs.Common.{◌≡◌, refl, suc, add-one, arith, ap, sym, ◌∙◌, nat_eq}
use Rattle.std.proofs.lemmas.Result.{err_from_is_err_and}
use Rattle.dscript_ast.specs.Views.{operand_tree}
use Rattle.dscript_ast.proofs.NodeViews.{hole_tree-made}
use Rattle.dscript_grammar.specs.Reading.{got, and_then}
use Rattle.dscript_grammar.specs.ExprReading.{at_part, chain_level, operator_precedence, read_block, read_chain, read_element, read_expr, read_operand, read_part, read_prop, read_stmt}
use Rattle.dscript_parse_tokens.specs.Gives.{kinds}
use Rattle.dscript_parse_tokens.proofs.Loops.{many_init, many_next, many_done, many_none}
use Rattle.dscript_parse_tokens.proofs.Refusals.{fails_from}
use Rattle.dscript_parse_tokens.proofs.Steps.{then_gives}
use Rattle.dscript_parse_exprs.specs.Levels.{at_depth}
use Rattle.dscript_parse_exprs.proofs.HolesLoop.{holes_init, holes_next, holes_done, holes_none, holes_open}
use Rattle.dscript_parse_exprs.proofs.LevelChains.{is_level, not_level, unary_first, level_next, chain_stays, chain_grows, chain_fails, unary_fails}
use Rattle.dscript_parse_exprs.proofs.+trees.Goals as goal
use Rattle.dscript_parse_exprs.proofs.+trees.Goals.{exprs::chain-then-next-tighter+in_ok-first-2, exprs::chain-else-next-tighter}

-- lists
pub exprs::parts-returns : goal.exprs::parts-returns
exprs::parts-returns t c = c.many.ensures (at_depth read_part c.args.depth.levels) at_part (λ ts result post. post.2) (λ ts result post. post)

pub exprs::arguments-returns : goal.exprs::arguments-returns
exprs::arguments-returns t c = c.list.ensures (read_expr c.args.depth.levels) ")" (λ ts result post. post.2) refl

pub exprs::elements-returns : goal.exprs::elements-returns
exprs::elements-returns t c = c.list.ensures (at_depth read_element c.args.depth.levels) "]" (λ ts result post. post.2) refl

pub exprs::props-returns : goal.exprs::props-returns
exprs::props-returns t c = c.list.ensures (at_depth read_prop c.args.depth.levels) "}" (λ ts result post. post.2) refl

pub stmts::block-returns : goal.stmts::block-returns
unfolding read_block
stmts::block-returns t c =
    then_gives _ _ _ _ _ c.until.result c.in_ok-rest.ensures.0 c.in_ok-rest.ensures.1 (c.until.ensures (read_stmt c.args.depth.levels) "}" (λ ts result post. post.2) refl)

-- operators of one level
pub exprs::operands-operands-init : goal.exprs::operands-operands-init
exprs::operands-operands-init t c = record {
  so_far = many_init operand_tree (at_depth read_operand c.args.depth.levels (chain_level c.args.tighter) (at_depth read_chain c.args.depth.levels c.args.tighter))
      (λ us. nat_eq (operator_precedence us) (chain_level c.args.tighter)) c.new-operands.ensures.items;
  within = omega arith;
}

pub exprs::operands-returns-in_err-next : goal.exprs::operands-returns-in_err-next
exprs::operands-returns-in_err-next t c =
    let p = err_from_is_err_and c.from_residual.result c.from_residual.ensures.1 in
    rw (p.1, p.2)
    (fails_from c.in_err-next.field-0.0 _ _ c.in_err-next.ensures
    (many_none operand_tree (at_depth read_operand c.args.depth.levels (chain_level c.args.tighter) (at_depth read_chain c.args.depth.levels c.args.tighter))
    (λ us. nat_eq (operator_precedence us) (chain_level c.args.tighter)) c.operands.invariant.so_far
    (is_level (chain_level c.args.tighter) c.next_precedence.ensures (omega (arith, c.operands-test.true)))))

pub exprs::operands-operands-preserved : goal.exprs::operands-operands-preserved
exprs::operands-operands-preserved t c = record {
  so_far = rw c.higher-height.ensures
      (many_next operand_tree (at_depth read_operand c.args.depth.levels (chain_level c.args.tighter) (at_depth read_chain c.args.depth.levels c.args.tighter))
      (λ us. nat_eq (operator_precedence us) (chain_level c.args.tighter)) c.in_ok-next.next.value c.in_ok-push.ensures.items c.operands.invariant.so_far
      (is_level (chain_level c.args.tighter) c.next_precedence.ensures (omega (arith, c.operands-test.true))) c.in_ok-next.ensures.is c.in_ok-next.ensures.shorter);
  within = omega (arith, c.higher-height.ensures, c.operands.invariant.within, c.in_ok-next.ensures.within);
}

pub exprs::operands-returns : goal.exprs::operands-returns
exprs::operands-returns t c = record {
  is = many_done operand_tree (at_depth read_operand c.args.depth.levels (chain_level c.args.tighter) (at_depth read_chain c.args.depth.levels c.args.tighter))
      (λ us. nat_eq (operator_precedence us) (chain_level c.args.tighter)) c.operands.invariant.so_far
      (not_level (chain_level c.args.tighter) c.next_precedence.ensures (λ e. c.operands-test.false (omega (arith, e))));
  within = c.operands.invariant.within;
  shorter = omega (arith, c.operands.invariant.so_far.count);
}

-- holes
pub exprs::holes-holes-init : goal.exprs::holes-holes-init
exprs::holes-holes-init t c = record { so_far = holes_init c.args.depth.levels c.new-holes.ensures.items; within = omega arith }

pub exprs::holes-returns-in_err-hole : goal.exprs::holes-returns-in_err-hole
exprs::holes-returns-in_err-hole t c =
    let p = err_from_is_err_and c.from_residual.result c.from_residual.ensures.1 in
    rw (p.1, p.2) (fails_from c.in_err-hole.field-0.0 _ _ c.in_err-hole.ensures (holes_none c.args.depth.levels c.holes.invariant.so_far))

pub exprs::holes-returns-in-Some : goal.exprs::holes-returns-in-Some
exprs::holes-returns-in-Some t c =
    let flat : c.in-Some.tail.height ≡ 0 = omega (arith, c.in-Some.ensures.within) in
    record {
      is = rw c.higher-height.ensures
          (holes_done c.args.depth.levels _ _ _ (hole_tree-made _ _) c.in_ok-push.ensures.items c.holes.invariant.so_far c.in_ok-hole.ensures.is
          (c.in-Some.ensures.is ∙ ap (λ n. got c.in-Some.tail.value.now n (kinds c.in-Some.tail.rest.now)) flat ∙ ap (λ s. got s 0 (kinds c.in-Some.tail.rest.now)) (sym c.in_ok-text.ensures))
          c.in_ok-hole.ensures.shorter);
      within = omega (arith, c.higher-height.ensures, c.holes.invariant.within, c.in_ok-hole.ensures.within);
      shorter = omega (arith, c.holes.invariant.so_far.count, c.in_ok-hole.ensures.shorter, c.in-Some.ensures.shorter);
    }

pub exprs::holes-returns-in_default-template_middle : goal.exprs::holes-returns-in_default-template_middle
exprs::holes-returns-in_default-template_middle t c =
    holes_open c.args.depth.levels _ c.holes.invariant.so_far c.in_ok-hole.ensures.is c.in_default.ensures c.in_default-template_middle.ensures

pub exprs::holes-holes-preserved : goal.exprs::holes-holes-preserved
exprs::holes-holes-preserved t c =
    let flat : c.in-Some-template_middle.middle.height ≡ 0 = omega (arith, c.in-Some-template_middle.ensures.within) in
    record {
      so_far = rw c.higher-height.ensures
          (holes_next c.args.depth.levels _ _ _ (hole_tree-made _ _) c.in_ok-push-2.ensures.items c.holes.invariant.so_far c.in_ok-hole.ensures.is c.in_default.ensures
          (c.in-Some-template_middle.ensures.is ∙ ap (λ n. got c.in-Some-template_middle.middle.value.now n (kinds c.in-Some-template_middle.middle.rest.now)) flat
          ∙ ap (λ s. got s 0 (kinds c.in-Some-template_middle.middle.rest.now)) (sym c.in_ok-text-2.ensures))
          c.in_ok-hole.ensures.shorter c.in-Some-template_middle.ensures.shorter);
      within = omega (arith, c.higher-height.ensures, c.holes.invariant.within, c.in_ok-hole.ensures.within);
    }

-- chains
pub exprs::chain-returns-in_err-first : goal.exprs::chain-returns-in_err-first
exprs::chain-returns-in_err-first t c =
    let p = err_from_is_err_and c.from_residual.result c.from_residual.ensures.1 in
    rw (p.1, p.2) (fails_from c.in_err-first.field-0.0 _ _ c.in_err-first.ensures (unary_fails c.args.depth.levels (kinds c.args.tokens.now) c.args.level))

pub exprs::chain-levels-init : goal.exprs::chain-levels-init
exprs::chain-levels-init t c = record {
  so_far = record {
    is = unary_first c.args.depth.levels (kinds c.args.tokens.now) c.in_ok-first.ensures.is;
    within = c.in_ok-first.ensures.within;
    shorter = c.in_ok-first.ensures.shorter;
  };
  next = c.next_precedence-next.ensures;
  bounded = omega arith;
}

pub exprs::chain-returns-in_err-first-2 : goal.exprs::chain-returns-in_err-first-2
exprs::chain-returns-in_err-first-2 t c =
    let p = err_from_is_err_and c.from_residual-in_err-first-2.result c.from_residual-in_err-first-2.ensures.1 in
    rw (p.1, p.2)
    (fails_from c.in_err-first-2.field-0.0 _ _ c.in_err-first-2.ensures
    (λ none. chain_fails c.args.depth.levels (kinds c.args.tokens.now) (suc c.levels.tighter) c.args.level (omega (arith, c.levels-test.true))
    (level_next c.args.depth.levels (kinds c.args.tokens.now) c.levels.tighter c.levels.invariant.so_far.is ∙ none)))

pub exprs::chain-levels-preserved : goal.exprs::chain-levels-preserved
exprs::chain-levels-preserved t c =
    elim c.if-next-tighter.branch [
      | exprs::chain-then-next-tighter+in_ok-first-2 w ↦
          rw (w.first-is, w.next-is, add-one)
          (record {
            so_far = chain_grows c.args.depth.levels (kinds c.args.tokens.now) c.levels.tighter c.levels.first w.in_ok-first-2.first c.levels.invariant.so_far w.in_ok-first-2.ensures;
            next = w.next_precedence-next-then-next-tighter.ensures;
            bounded = omega (arith, c.levels-test.true);
          })
      | exprs::chain-else-next-tighter w ↦
          rw (w.first-is, w.next-is, add-one)
          (record {
            so_far = chain_stays c.args.depth.levels (kinds c.args.tokens.now) c.levels.tighter c.levels.first c.levels.invariant.so_far
                (not_level (chain_level c.levels.tighter) c.levels.invariant.next (λ e. w.if-next-tighter.false (omega (arith, e))));
            next = c.levels.invariant.next;
            bounded = omega (arith, c.levels-test.true);
          })
    ]
