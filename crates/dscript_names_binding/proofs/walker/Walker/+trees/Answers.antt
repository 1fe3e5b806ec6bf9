use Rattle.std.proofs.Common.{◌≡◌, ℕ, [], Err, Option, map, drop, refl, ap, sym, ◌∙◌, arith, rules}
use Rattle.std.specs.Option.{option_map}
use Rattle.std.proofs.lemmas.Result.{err_from_is_err_and}
use Rattle.std.specs.Vec.Iter.{into_iter_items}
use Rattle.bx_tree.proofs.Lists.{none_left}
use mir.Syntax.{w32}
use mir.Val.{to_z, of_z}
use Rattle.dscript_ast.specs.ExprTree as tree
use Rattle.dscript_ast.specs.Views.{element_tree, expr_tree, hole_tree, operand_tree, part_tree, prop_tree, stmt_tree}
use Rattle.dscript_ast.proofs.NodeViews.{part_tree-Member, part_tree-Index, part_tree-Call, prop_tree-Named, prop_tree-Quoted, prop_tree-Short, prop_tree-Spread, stmt_tree-Const, stmt_tree-Let, stmt_tree-Assign, stmt_tree-If, stmt_tree-For, stmt_tree-Return, stmt_tree-Value, stmt_tree-Block, stmt_tree-Empty, expr_tree-Arrow, expr_tree-BlockArrow, expr_tree-Cond, expr_tree-Or, expr_tree-And, expr_tree-Equality, expr_tree-Relation, expr_tree-Sum, expr_tree-Product, expr_tree-Unary, expr_tree-Postfix, expr_tree-Number, expr_tree-Str, expr_tree-True, expr_tree-False, expr_tree-Undefined, expr_tree-Template, expr_tree-Path, expr_tree-Name, expr_tree-List, expr_tree-Object}
use Rattle.dscript_program.specs.BoundTree as bound
use Rattle.dscript_program.specs.Views.{expr_data, part_data, prop_data, stmt_data}
use Rattle.dscript_program.proofs.NodeViews.{part_data-Member, part_data-Index, part_data-Call, prop_data-Named, prop_data-Quoted, prop_data-Short, prop_data-Spread, stmt_data-Const, stmt_data-Let, stmt_data-Assign, stmt_data-If, stmt_data-For, stmt_data-Return, stmt_data-Value, stmt_data-Block, stmt_data-Empty, expr_data-Arrow, expr_data-Cond, expr_data-Chain, expr_data-Unary, expr_data-Number, expr_data-Str, expr_data-True, expr_data-False, expr_data-Undefined, expr_data-Template, expr_data-Path, expr_data-Name, expr_data-List, expr_data-Object}
use Rattle.dscript_names_scopes.specs.Blocks.{block_locals, stmt_locals}
use Rattle.dscript_names_binding.specs.Binding.{assigns, bind_else, bind_maybe, bind_parts, declared_function, loop_local, params_of, postfix, with_parts, bind_element, bind_elements, bind_expr, bind_exprs, bind_hole, bind_holes, bind_name, bind_operand, bind_operands, bind_part, bind_prop, bind_props, bind_stmt, bind_stmts}
use Rattle.dscript_names_binding.specs.Scenes.{boxed_stmt, chain_after, const_after, const_known, for_after, let_after, let_known, dotted_parts, else_data, expr_body, maybe_data, parts_after, parts_data, stmts_body, boxed_data, elements_data, exprs_data, holes_data, operands_data, props_data, site_at, stmts_data, world_at}
use Rattle.dscript_names_binding.specs.Walk.{function_in, gives, in_turn, next_local, within}
use Rattle.dscript_names_scopes.specs.declared.found.Found.{Found}
use Rattle.dscript_names_binding.proofs.Listed.{drop_first, drop_map, drop_none, drop_passed, parts_listed, exprs_listed, operands_listed, elements_listed, props_listed, holes_listed, stmts_listed}
use Rattle.dscript_names_binding.proofs.Steps.{out_of_memory, stop_as, turned_at, walked_as, stopped, stop_first, then_walks, turned_done, turned_init, turned_next, turned_stop, walked_at, walked_gives, walked_then, walks_at}
use Rattle.dscript_names_binding.proofs.Closing.{function_stops, function_walked, opened_as, still_open}
use Rattle.dscript_names_binding.proofs.Moves.{entered_with, within_stops, within_walked}
use Rattle.dscript_program.specs.declared.bound.BoundExpr.{BoundExpr}
use Rattle.dscript_program.specs.Views.{body_data}
use Rattle.dscript_ast.specs.Views.{head_tree, note_tree, param_tree}
use Rattle.dscript_names_binding.proofs.walker.Walker.+trees.Goals as goal
use Rattle.dscript_ast.specs.Literals.{name_of}

pub expr-returns-in-Arrow : goal.expr-returns-in-Arrow
unfolding bind_expr
expr-returns-in-Arrow t c =
    walks_at expr_data c.args.self.now c.arrow.new.self c.arrow.result (ap (bind_expr (world_at c.args.scene.now) (site_at c.args.scene.now)) (ap expr_tree c.in-Arrow.is ∙ expr_tree-Arrow c.in-Arrow.head c.in-Arrow.body)) c.arrow.ensures

pub expr-returns-in-BlockArrow : goal.expr-returns-in-BlockArrow
unfolding bind_expr
expr-returns-in-BlockArrow t c =
    walks_at expr_data c.args.self.now c.block_arrow.new.self c.block_arrow.result (ap (bind_expr (world_at c.args.scene.now) (site_at c.args.scene.now)) (ap expr_tree c.in-BlockArrow.is ∙ expr_tree-BlockArrow c.in-BlockArrow.head c.in-BlockArrow.body)) c.block_arrow.ensures

pub expr-returns-in-Str : goal.expr-returns-in-Str
unfolding bind_expr
expr-returns-in-Str t c =
    walked_at (ap (bind_expr (world_at c.args.scene.now) (site_at c.args.scene.now)) (ap expr_tree c.in-Str.is ∙ expr_tree-Str _)) (walked_gives (expr_data-Str _))

pub expr-returns-in-True : goal.expr-returns-in-True
unfolding bind_expr
expr-returns-in-True t c =
    walked_at (ap (bind_expr (world_at c.args.scene.now) (site_at c.args.scene.now)) (ap expr_tree c.in-True.is ∙ expr_tree-True)) (walked_gives (expr_data-True))

pub expr-returns-in-False : goal.expr-returns-in-False
unfolding bind_expr
expr-returns-in-False t c =
    walked_at (ap (bind_expr (world_at c.args.scene.now) (site_at c.args.scene.now)) (ap expr_tree c.in-False.is ∙ expr_tree-False)) (walked_gives (expr_data-False))

pub expr-returns-in-Undefined : goal.expr-returns-in-Undefined
unfolding bind_expr
expr-returns-in-Undefined t c =
    walked_at (ap (bind_expr (world_at c.args.scene.now) (site_at c.args.scene.now)) (ap expr_tree c.in-Undefined.is ∙ expr_tree-Undefined)) (walked_gives (expr_data-Undefined))

pub expr-returns-in-Number : goal.expr-returns-in-Number
unfolding bind_expr
expr-returns-in-Number t c =
    let same : to_z w32 (of_z w32 c.in-Number.number) ≡ c.in-Number.number = search rules in
    walked_at (ap (bind_expr (world_at c.args.scene.now) (site_at c.args.scene.now)) (ap expr_tree c.in-Number.is ∙ expr_tree-Number _)) (walked_gives (expr_data-Number _ ∙ ap bound.Number same))

pub expr-returns-in_ok-other-in-Cond : goal.expr-returns-in_ok-other-in-Cond
unfolding bind_expr
expr-returns-in_ok-other-in-Cond t c =
    walked_at (ap (bind_expr (world_at c.args.scene.now) (site_at c.args.scene.now)) (ap expr_tree c.in-Cond.is ∙ expr_tree-Cond c.in-Cond.test c.in-Cond.one c.in-Cond.other))
    (walked_then _ c.in_ok-test-in-Cond.ensures (walked_then _ c.in_ok-one-in-Cond.ensures (walked_then _ c.in_ok-other-in-Cond.ensures
    (walked_gives (expr_data-Cond _ _ _)))))

pub expr-returns-in_err-test-in-Cond : goal.expr-returns-in_err-test-in-Cond
unfolding bind_expr
expr-returns-in_err-test-in-Cond t c =
    let p = err_from_is_err_and c.from_residual.result c.from_residual.ensures.1 in
    stopped (bind_expr (world_at c.args.scene.now) (site_at c.args.scene.now) (expr_tree c.args.expr)) c.args.self.now expr_data c.boxed.new.self c.from_residual.result p.0 _ p.1 p.2
    (walks_at expr_data c.args.self.now c.boxed.new.self (Err _) (ap (bind_expr (world_at c.args.scene.now) (site_at c.args.scene.now)) (ap expr_tree c.in-Cond.is ∙ expr_tree-Cond c.in-Cond.test c.in-Cond.one c.in-Cond.other))
    (stop_first (bind_expr (world_at c.args.scene.now) (site_at c.args.scene.now) (expr_tree c.in-Cond.test.value)) c.args.self.now _ boxed_data expr_data c.boxed.new.self c.boxed.new.self _ c.in_err-test-in-Cond.ensures))

pub expr-returns-in_err-one-in-Cond : goal.expr-returns-in_err-one-in-Cond
unfolding bind_expr
expr-returns-in_err-one-in-Cond t c =
    let p = err_from_is_err_and c.from_residual-in_err-one-in-Cond.result c.from_residual-in_err-one-in-Cond.ensures.1 in
    stopped (bind_expr (world_at c.args.scene.now) (site_at c.args.scene.now) (expr_tree c.args.expr)) c.args.self.now expr_data c.boxed-in-Cond.new.self c.from_residual-in_err-one-in-Cond.result p.0 _ p.1 p.2
    (walks_at expr_data c.args.self.now c.boxed-in-Cond.new.self (Err _) (ap (bind_expr (world_at c.args.scene.now) (site_at c.args.scene.now)) (ap expr_tree c.in-Cond.is ∙ expr_tree-Cond c.in-Cond.test c.in-Cond.one c.in-Cond.other))
    (then_walks _ expr_data c.boxed-in-Cond.new.self (Err _) c.in_ok-test-in-Cond.ensures (stop_first (bind_expr (world_at c.args.scene.now) (site_at c.args.scene.now) (expr_tree c.in-Cond.one.value)) c.boxed.new.self _ boxed_data expr_data c.boxed-in-Cond.new.self c.boxed-in-Cond.new.self _ c.in_err-one-in-Cond.ensures)))

pub expr-returns-in_err-other-in-Cond : goal.expr-returns-in_err-other-in-Cond
unfolding bind_expr
expr-returns-in_err-other-in-Cond t c =
    let p = err_from_is_err_and c.from_residual-in_err-other-in-Cond.result c.from_residual-in_err-other-in-Cond.ensures.1 in
    stopped (bind_expr (world_at c.args.scene.now) (site_at c.args.scene.now) (expr_tree c.args.expr)) c.args.self.now expr_data c.boxed-in-Cond-2.new.self c.from_residual-in_err-other-in-Cond.result p.0 _ p.1 p.2
    (walks_at expr_data c.args.self.now c.boxed-in-Cond-2.new.self (Err _) (ap (bind_expr (world_at c.args.scene.now) (site_at c.args.scene.now)) (ap expr_tree c.in-Cond.is ∙ expr_tree-Cond c.in-Cond.test c.in-Cond.one c.in-Cond.other))
    (then_walks _ expr_data c.boxed-in-Cond-2.new.self (Err _) c.in_ok-test-in-Cond.ensures (then_walks _ expr_data c.boxed-in-Cond-2.new.self (Err _) c.in_ok-one-in-Cond.ensures
    (stop_first (bind_expr (world_at c.args.scene.now) (site_at c.args.scene.now) (expr_tree c.in-Cond.other.value)) c.boxed-in-Cond.new.self _ boxed_data expr_data c.boxed-in-Cond-2.new.self c.boxed-in-Cond-2.new.self _ c.in_err-other-in-Cond.ensures))))

pub expr-returns-in_ok-first-in-Or : goal.expr-returns-in_ok-first-in-Or
unfolding bind_expr
expr-returns-in_ok-first-in-Or t c =
    walks_at expr_data c.args.self.now c.chain.new.self c.chain.result (ap (bind_expr (world_at c.args.scene.now) (site_at c.args.scene.now)) (ap expr_tree c.in-Or.is ∙ expr_tree-Or c.in-Or.first c.in-Or.others))
    (then_walks _ expr_data c.chain.new.self c.chain.result c.in_ok-first-in-Or.ensures c.chain.ensures)

pub expr-returns-in_err-first-in-Or : goal.expr-returns-in_err-first-in-Or
unfolding bind_expr
expr-returns-in_err-first-in-Or t c =
    let p = err_from_is_err_and c.from_residual-in_err-first-in-Or.result c.from_residual-in_err-first-in-Or.ensures.1 in
    stopped (bind_expr (world_at c.args.scene.now) (site_at c.args.scene.now) (expr_tree c.args.expr)) c.args.self.now expr_data c.boxed-in-Or.new.self c.from_residual-in_err-first-in-Or.result p.0 _ p.1 p.2
    (walks_at expr_data c.args.self.now c.boxed-in-Or.new.self (Err _) (ap (bind_expr (world_at c.args.scene.now) (site_at c.args.scene.now)) (ap expr_tree c.in-Or.is ∙ expr_tree-Or c.in-Or.first c.in-Or.others))
    (stop_first (bind_expr (world_at c.args.scene.now) (site_at c.args.scene.now) (expr_tree c.in-Or.first.value)) c.args.self.now _ boxed_data expr_data c.boxed-in-Or.new.self c.boxed-in-Or.new.self _ c.in_err-first-in-Or.ensures))

pub expr-returns-in_ok-first-in-And : goal.expr-returns-in_ok-first-in-And
unfolding bind_expr
expr-returns-in_ok-first-in-And t c =
    walks_at expr_data c.args.self.now c.chain-in-And.new.self c.chain-in-And.result (ap (bind_expr (world_at c.args.scene.now) (site_at c.args.scene.now)) (ap expr_tree c.in-And.is ∙ expr_tree-And c.in-And.first c.in-And.others))
    (then_walks _ expr_data c.chain-in-And.new.self c.chain-in-And.result c.in_ok-first-in-And.ensures c.chain-in-And.ensures)

pub expr-returns-in_err-first-in-And : goal.expr-returns-in_err-first-in-And
unfolding bind_expr
expr-returns-in_err-first-in-And t c =
    let p = err_from_is_err_and c.from_residual-in_err-first-in-And.result c.from_residual-in_err-first-in-And.ensures.1 in
    stopped (bind_expr (world_at c.args.scene.now) (site_at c.args.scene.now) (expr_tree c.args.expr)) c.args.self.now expr_data c.boxed-in-And.new.self c.from_residual-in_err-first-in-And.result p.0 _ p.1 p.2
    (walks_at expr_data c.args.self.now c.boxed-in-And.new.self (Err _) (ap (bind_expr (world_at c.args.scene.now) (site_at c.args.scene.now)) (ap expr_tree c.in-And.is ∙ expr_tree-And c.in-And.first c.in-And.others))
    (stop_first (bind_expr (world_at c.args.scene.now) (site_at c.args.scene.now) (expr_tree c.in-And.first.value)) c.args.self.now _ boxed_data expr_data c.boxed-in-And.new.self c.boxed-in-And.new.self _ c.in_err-first-in-And.ensures))

pub expr-returns-in_ok-first-in-Equality : goal.expr-returns-in_ok-first-in-Equality
unfolding bind_expr
expr-returns-in_ok-first-in-Equality t c =
    walks_at expr_data c.args.self.now c.chain-in-Equality.new.self c.chain-in-Equality.result (ap (bind_expr (world_at c.args.scene.now) (site_at c.args.scene.now)) (ap expr_tree c.in-Equality.is ∙ expr_tree-Equality c.in-Equality.first c.in-Equality.others))
    (then_walks _ expr_data c.chain-in-Equality.new.self c.chain-in-Equality.result c.in_ok-first-in-Equality.ensures c.chain-in-Equality.ensures)

pub expr-returns-in_err-first-in-Equality : goal.expr-returns-in_err-first-in-Equality
unfolding bind_expr
expr-returns-in_err-first-in-Equality t c =
    let p = err_from_is_err_and c.from_residual-in_err-first-in-Equality.result c.from_residual-in_err-first-in-Equality.ensures.1 in
    stopped (bind_expr (world_at c.args.scene.now) (site_at c.args.scene.now) (expr_tree c.args.expr)) c.args.self.now expr_data c.boxed-in-Equality.new.self c.from_residual-in_err-first-in-Equality.result p.0 _ p.1 p.2
    (walks_at expr_data c.args.self.now c.boxed-in-Equality.new.self (Err _) (ap (bind_expr (world_at c.args.scene.now) (site_at c.args.scene.now)) (ap expr_tree c.in-Equality.is ∙ expr_tree-Equality c.in-Equality.first c.in-Equality.others))
    (stop_first (bind_expr (world_at c.args.scene.now) (site_at c.args.scene.now) (expr_tree c.in-Equality.first.value)) c.args.self.now _ boxed_data expr_data c.boxed-in-Equality.new.self c.boxed-in-Equality.new.self _ c.in_err-first-in-Equality.ensures))

pub expr-returns-in_ok-first-in-Relation : goal.expr-returns-in_ok-first-in-Relation
unfolding bind_expr
expr-returns-in_ok-first-in-Relation t c =
    walks_at expr_data c.args.self.now c.chain-in-Relation.new.self c.chain-in-Relation.result (ap (bind_expr (world_at c.args.scene.now) (site_at c.args.scene.now)) (ap expr_tree c.in-Relation.is ∙ expr_tree-Relation c.in-Relation.first c.in-Relation.others))
    (then_walks _ expr_data c.chain-in-Relation.new.self c.chain-in-Relation.result c.in_ok-first-in-Relation.ensures c.chain-in-Relation.ensures)

pub expr-returns-in_err-first-in-Relation : goal.expr-returns-in_err-first-in-Relation
unfolding bind_expr
expr-returns-in_err-first-in-Relation t c =
    let p = err_from_is_err_and c.from_residual-in_err-first-in-Relation.result c.from_residual-in_err-first-in-Relation.ensures.1 in
    stopped (bind_expr (world_at c.args.scene.now) (site_at c.args.scene.now) (expr_tree c.args.expr)) c.args.self.now expr_data c.boxed-in-Relation.new.self c.from_residual-in_err-first-in-Relation.result p.0 _ p.1 p.2
    (walks_at expr_data c.args.self.now c.boxed-in-Relation.new.self (Err _) (ap (bind_expr (world_at c.args.scene.now) (site_at c.args.scene.now)) (ap expr_tree c.in-Relation.is ∙ expr_tree-Relation c.in-Relation.first c.in-Relation.others))
    (stop_first (bind_expr (world_at c.args.scene.now) (site_at c.args.scene.now) (expr_tree c.in-Relation.first.value)) c.args.self.now _ boxed_data expr_data c.boxed-in-Relation.new.self c.boxed-in-Relation.new.self _ c.in_err-first-in-Relation.ensures))

pub expr-returns-in_ok-first-in-Sum : goal.expr-returns-in_ok-first-in-Sum
unfolding bind_expr
expr-returns-in_ok-first-in-Sum t c =
    walks_at expr_data c.args.self.now c.chain-in-Sum.new.self c.chain-in-Sum.result (ap (bind_expr (world_at c.args.scene.now) (site_at c.args.scene.now)) (ap expr_tree c.in-Sum.is ∙ expr_tree-Sum c.in-Sum.first c.in-Sum.others))
    (then_walks _ expr_data c.chain-in-Sum.new.self c.chain-in-Sum.result c.in_ok-first-in-Sum.ensures c.chain-in-Sum.ensures)

pub expr-returns-in_err-first-in-Sum : goal.expr-returns-in_err-first-in-Sum
unfolding bind_expr
expr-returns-in_err-first-in-Sum t c =
    let p = err_from_is_err_and c.from_residual-in_err-first-in-Sum.result c.from_residual-in_err-first-in-Sum.ensures.1 in
    stopped (bind_expr (world_at c.args.scene.now) (site_at c.args.scene.now) (expr_tree c.args.expr)) c.args.self.now expr_data c.boxed-in-Sum.new.self c.from_residual-in_err-first-in-Sum.result p.0 _ p.1 p.2
    (walks_at expr_data c.args.self.now c.boxed-in-Sum.new.self (Err _) (ap (bind_expr (world_at c.args.scene.now) (site_at c.args.scene.now)) (ap expr_tree c.in-Sum.is ∙ expr_tree-Sum c.in-Sum.first c.in-Sum.others))
    (stop_first (bind_expr (world_at c.args.scene.now) (site_at c.args.scene.now) (expr_tree c.in-Sum.first.value)) c.args.self.now _ boxed_data expr_data c.boxed-in-Sum.new.self c.boxed-in-Sum.new.self _ c.in_err-first-in-Sum.ensures))

pub expr-returns-in_ok-first-in-Product : goal.expr-returns-in_ok-first-in-Product
unfolding bind_expr
expr-returns-in_ok-first-in-Product t c =
    walks_at expr_data c.args.self.now c.chain-in-Product.new.self c.chain-in-Product.result (ap (bind_expr (world_at c.args.scene.now) (site_at c.args.scene.now)) (ap expr_tree c.in-Product.is ∙ expr_tree-Product c.in-Product.first c.in-Product.others))
    (then_walks _ expr_data c.chain-in-Product.new.self c.chain-in-Product.result c.in_ok-first-in-Product.ensures c.chain-in-Product.ensures)

pub expr-returns-in_err-first-in-Product : goal.expr-returns-in_err-first-in-Product
unfolding bind_expr
expr-returns-in_err-first-in-Product t c =
    let p = err_from_is_err_and c.from_residual-in_err-first-in-Product.result c.from_residual-in_err-first-in-Product.ensures.1 in
    stopped (bind_expr (world_at c.args.scene.now) (site_at c.args.scene.now) (expr_tree c.args.expr)) c.args.self.now expr_data c.boxed-in-Product.new.self c.from_residual-in_err-first-in-Product.result p.0 _ p.1 p.2
    (walks_at expr_data c.args.self.now c.boxed-in-Product.new.self (Err _) (ap (bind_expr (world_at c.args.scene.now) (site_at c.args.scene.now)) (ap expr_tree c.in-Product.is ∙ expr_tree-Product c.in-Product.first c.in-Product.others))
    (stop_first (bind_expr (world_at c.args.scene.now) (site_at c.args.scene.now) (expr_tree c.in-Product.first.value)) c.args.self.now _ boxed_data expr_data c.boxed-in-Product.new.self c.boxed-in-Product.new.self _ c.in_err-first-in-Product.ensures))

pub expr-returns-in_ok-value-in-Unary : goal.expr-returns-in_ok-value-in-Unary
unfolding bind_expr
expr-returns-in_ok-value-in-Unary t c =
    walked_at (ap (bind_expr (world_at c.args.scene.now) (site_at c.args.scene.now)) (ap expr_tree c.in-Unary.is ∙ expr_tree-Unary c.in-Unary.operators c.in-Unary.value))
    (walked_then _ c.in_ok-value-in-Unary.ensures (walked_gives (expr_data-Unary _ _)))

pub expr-returns-in_err-value-in-Unary : goal.expr-returns-in_err-value-in-Unary
unfolding bind_expr
expr-returns-in_err-value-in-Unary t c =
    let p = err_from_is_err_and c.from_residual-in_err-value-in-Unary.result c.from_residual-in_err-value-in-Unary.ensures.1 in
    stopped (bind_expr (world_at c.args.scene.now) (site_at c.args.scene.now) (expr_tree c.args.expr)) c.args.self.now expr_data c.boxed-in-Unary.new.self c.from_residual-in_err-value-in-Unary.result p.0 _ p.1 p.2
    (walks_at expr_data c.args.self.now c.boxed-in-Unary.new.self (Err _) (ap (bind_expr (world_at c.args.scene.now) (site_at c.args.scene.now)) (ap expr_tree c.in-Unary.is ∙ expr_tree-Unary c.in-Unary.operators c.in-Unary.value))
    (stop_first (bind_expr (world_at c.args.scene.now) (site_at c.args.scene.now) (expr_tree c.in-Unary.value.value)) c.args.self.now _ boxed_data expr_data c.boxed-in-Unary.new.self c.boxed-in-Unary.new.self _ c.in_err-value-in-Unary.ensures))

pub expr-returns-in_ok-holes-in-Template : goal.expr-returns-in_ok-holes-in-Template
unfolding bind_expr
expr-returns-in_ok-holes-in-Template t c =
    walked_at (ap (bind_expr (world_at c.args.scene.now) (site_at c.args.scene.now)) (ap expr_tree c.in-Template.is ∙ expr_tree-Template c.in-Template.text c.in-Template.holes))
    (walked_then _ c.in_ok-holes-in-Template.ensures (walked_gives (expr_data-Template _ _)))

pub expr-returns-in_err-holes-in-Template : goal.expr-returns-in_err-holes-in-Template
unfolding bind_expr
expr-returns-in_err-holes-in-Template t c =
    let p = err_from_is_err_and c.from_residual-in_err-holes-in-Template.result c.from_residual-in_err-holes-in-Template.ensures.1 in
    stopped (bind_expr (world_at c.args.scene.now) (site_at c.args.scene.now) (expr_tree c.args.expr)) c.args.self.now expr_data c.holes.new.self c.from_residual-in_err-holes-in-Template.result p.0 _ p.1 p.2
    (walks_at expr_data c.args.self.now c.holes.new.self (Err _) (ap (bind_expr (world_at c.args.scene.now) (site_at c.args.scene.now)) (ap expr_tree c.in-Template.is ∙ expr_tree-Template c.in-Template.text c.in-Template.holes))
    (stop_first (in_turn (bind_holes (world_at c.args.scene.now) (site_at c.args.scene.now) (tree.to_holes (map hole_tree c.in-Template.holes.items)))) c.args.self.now _ holes_data expr_data c.holes.new.self c.holes.new.self _ c.in_err-holes-in-Template.ensures))

pub expr-returns-in_ok-holes-in-Path : goal.expr-returns-in_ok-holes-in-Path
unfolding bind_expr
expr-returns-in_ok-holes-in-Path t c =
    walked_at (ap (bind_expr (world_at c.args.scene.now) (site_at c.args.scene.now)) (ap expr_tree c.in-Path.is ∙ expr_tree-Path c.in-Path.kind c.in-Path.text c.in-Path.holes))
    (walked_then _ c.in_ok-holes-in-Path.ensures (walked_gives (expr_data-Path _ _ _)))

pub expr-returns-in_err-holes-in-Path : goal.expr-returns-in_err-holes-in-Path
unfolding bind_expr
expr-returns-in_err-holes-in-Path t c =
    let p = err_from_is_err_and c.from_residual-in_err-holes-in-Path.result c.from_residual-in_err-holes-in-Path.ensures.1 in
    stopped (bind_expr (world_at c.args.scene.now) (site_at c.args.scene.now) (expr_tree c.args.expr)) c.args.self.now expr_data c.holes-in-Path.new.self c.from_residual-in_err-holes-in-Path.result p.0 _ p.1 p.2
    (walks_at expr_data c.args.self.now c.holes-in-Path.new.self (Err _) (ap (bind_expr (world_at c.args.scene.now) (site_at c.args.scene.now)) (ap expr_tree c.in-Path.is ∙ expr_tree-Path c.in-Path.kind c.in-Path.text c.in-Path.holes))
    (stop_first (in_turn (bind_holes (world_at c.args.scene.now) (site_at c.args.scene.now) (tree.to_holes (map hole_tree c.in-Path.holes.items)))) c.args.self.now _ holes_data expr_data c.holes-in-Path.new.self c.holes-in-Path.new.self _ c.in_err-holes-in-Path.ensures))

pub expr-returns-in_ok-found-in-Name : goal.expr-returns-in_ok-found-in-Name
unfolding bind_expr
expr-returns-in_ok-found-in-Name t c =
    walked_at (ap (bind_expr (world_at c.args.scene.now) (site_at c.args.scene.now)) (ap expr_tree c.in-Name.is ∙ expr_tree-Name c.in-Name.name))
    (walked_then _ c.in_ok-found-in-Name.ensures (walked_gives (expr_data-Name _)))

pub expr-returns-in_err-found-in-Name : goal.expr-returns-in_err-found-in-Name
unfolding bind_expr
expr-returns-in_err-found-in-Name t c =
    let p = err_from_is_err_and c.from_residual-in_err-found-in-Name.result c.from_residual-in_err-found-in-Name.ensures.1 in
    stopped (bind_expr (world_at c.args.scene.now) (site_at c.args.scene.now) (expr_tree c.args.expr)) c.args.self.now expr_data c.alone.new.self c.from_residual-in_err-found-in-Name.result p.0 _ p.1 p.2
    (walks_at expr_data c.args.self.now c.alone.new.self (Err _) (ap (bind_expr (world_at c.args.scene.now) (site_at c.args.scene.now)) (ap expr_tree c.in-Name.is ∙ expr_tree-Name c.in-Name.name))
    (stop_first (bind_name (world_at c.args.scene.now) (site_at c.args.scene.now) c.in-Name.name tree.no_parts) c.args.self.now _ (λ (f : Found). f) expr_data c.alone.new.self c.alone.new.self _ c.in_err-found-in-Name.ensures))

pub expr-returns-in_ok-elements-in-List : goal.expr-returns-in_ok-elements-in-List
unfolding bind_expr
expr-returns-in_ok-elements-in-List t c =
    walked_at (ap (bind_expr (world_at c.args.scene.now) (site_at c.args.scene.now)) (ap expr_tree c.in-List.is ∙ expr_tree-List c.in-List.elements))
    (walked_then _ c.in_ok-elements-in-List.ensures (walked_gives (expr_data-List _)))

pub expr-returns-in_err-elements-in-List : goal.expr-returns-in_err-elements-in-List
unfolding bind_expr
expr-returns-in_err-elements-in-List t c =
    let p = err_from_is_err_and c.from_residual-in_err-elements-in-List.result c.from_residual-in_err-elements-in-List.ensures.1 in
    stopped (bind_expr (world_at c.args.scene.now) (site_at c.args.scene.now) (expr_tree c.args.expr)) c.args.self.now expr_data c.elements.new.self c.from_residual-in_err-elements-in-List.result p.0 _ p.1 p.2
    (walks_at expr_data c.args.self.now c.elements.new.self (Err _) (ap (bind_expr (world_at c.args.scene.now) (site_at c.args.scene.now)) (ap expr_tree c.in-List.is ∙ expr_tree-List c.in-List.elements))
    (stop_first (in_turn (bind_elements (world_at c.args.scene.now) (site_at c.args.scene.now) (tree.to_elements (map element_tree c.in-List.elements.items)))) c.args.self.now _ elements_data expr_data c.elements.new.self c.elements.new.self _ c.in_err-elements-in-List.ensures))

pub expr-returns-in_ok-props-in-Object : goal.expr-returns-in_ok-props-in-Object
unfolding bind_expr
expr-returns-in_ok-props-in-Object t c =
    walked_at (ap (bind_expr (world_at c.args.scene.now) (site_at c.args.scene.now)) (ap expr_tree c.in-Object.is ∙ expr_tree-Object c.in-Object.props))
    (walked_then _ c.in_ok-props-in-Object.ensures (walked_gives (expr_data-Object _)))

pub expr-returns-in_err-props-in-Object : goal.expr-returns-in_err-props-in-Object
unfolding bind_expr
expr-returns-in_err-props-in-Object t c =
    let p = err_from_is_err_and c.from_residual-in_err-props-in-Object.result c.from_residual-in_err-props-in-Object.ensures.1 in
    stopped (bind_expr (world_at c.args.scene.now) (site_at c.args.scene.now) (expr_tree c.args.expr)) c.args.self.now expr_data c.props.new.self c.from_residual-in_err-props-in-Object.result p.0 _ p.1 p.2
    (walks_at expr_data c.args.self.now c.props.new.self (Err _) (ap (bind_expr (world_at c.args.scene.now) (site_at c.args.scene.now)) (ap expr_tree c.in-Object.is ∙ expr_tree-Object c.in-Object.props))
    (stop_first (in_turn (bind_props (world_at c.args.scene.now) (site_at c.args.scene.now) (tree.to_props (map prop_tree c.in-Object.props.items)))) c.args.self.now _ props_data expr_data c.props.new.self c.props.new.self _ c.in_err-props-in-Object.ensures))

pub exprs-exprs-init : goal.exprs-exprs-init
exprs-exprs-init t c =
    (tt, tt, turned_init (ap (map (λ x. bind_expr (world_at c.args.scene.now) (site_at c.args.scene.now) (expr_tree x))) c.into_iter-expr-iterator.ensures.into_iter_gives.0) c.new-bound.ensures.items)

pub exprs-exprs-preserved : goal.exprs-exprs-preserved
exprs-exprs-preserved t c =
    (tt, tt, turned_next c.exprs.invariant.2 (ap (map (λ x. bind_expr (world_at c.args.scene.now) (site_at c.args.scene.now) (expr_tree x))) c.in-Some.ensures.steps.0) c.in_ok-expr.ensures c.in_ok-push.ensures.items)

pub exprs-returns : goal.exprs-returns
exprs-returns t c =
    let none = none_left (into_iter_items c.exprs.expr-iterator) (omega (arith, c.in-None.ensures.steps.0, c.exprs.expr-iterator.rest.ok.0)) in
    walked_at (ap in_turn (exprs_listed (world_at c.args.scene.now) (site_at c.args.scene.now) c.args.exprs.items)) (turned_done c.exprs.invariant.2 (ap (map (λ x. bind_expr (world_at c.args.scene.now) (site_at c.args.scene.now) (expr_tree x))) none) refl)

pub exprs-returns-in_err-expr : goal.exprs-returns-in_err-expr
unfolding bind_expr
exprs-returns-in_err-expr t c =
    let p = err_from_is_err_and c.from_residual.result c.from_residual.ensures.1 in
    stopped (in_turn (bind_exprs (world_at c.args.scene.now) (site_at c.args.scene.now) (tree.to_exprs (map expr_tree c.args.exprs.items)))) c.args.self.now exprs_data c.expr.new.self c.from_residual.result p.0 _ p.1 p.2
    (walks_at exprs_data c.args.self.now c.expr.new.self (Err _) (ap in_turn (exprs_listed (world_at c.args.scene.now) (site_at c.args.scene.now) c.args.exprs.items))
    (turned_stop exprs_data c.expr.new.self c.expr.new.self _ c.exprs.invariant.2 (ap (map (λ x. bind_expr (world_at c.args.scene.now) (site_at c.args.scene.now) (expr_tree x))) c.in-Some.ensures.steps.0) c.in_err-expr.ensures))

pub operands-operands-init : goal.operands-operands-init
operands-operands-init t c =
    (tt, tt, turned_init (ap (map (λ x. bind_operand (world_at c.args.scene.now) (site_at c.args.scene.now) (operand_tree x))) c.into_iter-operand-iterator.ensures.into_iter_gives.0) c.new-bound.ensures.items)

pub operands-operands-preserved : goal.operands-operands-preserved
operands-operands-preserved t c =
    (tt, tt, turned_next c.operands.invariant.2 (ap (map (λ x. bind_operand (world_at c.args.scene.now) (site_at c.args.scene.now) (operand_tree x))) c.in-Some.ensures.steps.0) c.in_ok-operand.ensures c.in_ok-push.ensures.items)

pub operands-returns : goal.operands-returns
operands-returns t c =
    let none = none_left (into_iter_items c.operands.operand-iterator) (omega (arith, c.in-None.ensures.steps.0, c.operands.operand-iterator.rest.ok.0)) in
    walked_at (ap in_turn (operands_listed (world_at c.args.scene.now) (site_at c.args.scene.now) c.args.operands.items)) (turned_done c.operands.invariant.2 (ap (map (λ x. bind_operand (world_at c.args.scene.now) (site_at c.args.scene.now) (operand_tree x))) none) refl)

pub operands-returns-in_err-operand : goal.operands-returns-in_err-operand
unfolding bind_expr
operands-returns-in_err-operand t c =
    let p = err_from_is_err_and c.from_residual.result c.from_residual.ensures.1 in
    stopped (in_turn (bind_operands (world_at c.args.scene.now) (site_at c.args.scene.now) (tree.to_operands (map operand_tree c.args.operands.items)))) c.args.self.now operands_data c.operand.new.self c.from_residual.result p.0 _ p.1 p.2
    (walks_at operands_data c.args.self.now c.operand.new.self (Err _) (ap in_turn (operands_listed (world_at c.args.scene.now) (site_at c.args.scene.now) c.args.operands.items))
    (turned_stop operands_data c.operand.new.self c.operand.new.self _ c.operands.invariant.2 (ap (map (λ x. bind_operand (world_at c.args.scene.now) (site_at c.args.scene.now) (operand_tree x))) c.in-Some.ensures.steps.0) c.in_err-operand.ensures))

pub elements-elements-init : goal.elements-elements-init
elements-elements-init t c =
    (tt, tt, turned_init (ap (map (λ x. bind_element (world_at c.args.scene.now) (site_at c.args.scene.now) (element_tree x))) c.into_iter-element-iterator.ensures.into_iter_gives.0) c.new-bound.ensures.items)

pub elements-elements-preserved : goal.elements-elements-preserved
elements-elements-preserved t c =
    (tt, tt, turned_next c.elements.invariant.2 (ap (map (λ x. bind_element (world_at c.args.scene.now) (site_at c.args.scene.now) (element_tree x))) c.in-Some.ensures.steps.0) c.in_ok-element.ensures c.in_ok-push.ensures.items)

pub elements-returns : goal.elements-returns
elements-returns t c =
    let none = none_left (into_iter_items c.elements.element-iterator) (omega (arith, c.in-None.ensures.steps.0, c.elements.element-iterator.rest.ok.0)) in
    walked_at (ap in_turn (elements_listed (world_at c.args.scene.now) (site_at c.args.scene.now) c.args.elements.items)) (turned_done c.elements.invariant.2 (ap (map (λ x. bind_element (world_at c.args.scene.now) (site_at c.args.scene.now) (element_tree x))) none) refl)

pub elements-returns-in_err-element : goal.elements-returns-in_err-element
unfolding bind_expr
elements-returns-in_err-element t c =
    let p = err_from_is_err_and c.from_residual.result c.from_residual.ensures.1 in
    stopped (in_turn (bind_elements (world_at c.args.scene.now) (site_at c.args.scene.now) (tree.to_elements (map element_tree c.args.elements.items)))) c.args.self.now elements_data c.element.new.self c.from_residual.result p.0 _ p.1 p.2
    (walks_at elements_data c.args.self.now c.element.new.self (Err _) (ap in_turn (elements_listed (world_at c.args.scene.now) (site_at c.args.scene.now) c.args.elements.items))
    (turned_stop elements_data c.element.new.self c.element.new.self _ c.elements.invariant.2 (ap (map (λ x. bind_element (world_at c.args.scene.now) (site_at c.args.scene.now) (element_tree x))) c.in-Some.ensures.steps.0) c.in_err-element.ensures))

pub props-props-init : goal.props-props-init
props-props-init t c =
    (tt, tt, turned_init (ap (map (λ x. bind_prop (world_at c.args.scene.now) (site_at c.args.scene.now) (prop_tree x))) c.into_iter-prop-iterator.ensures.into_iter_gives.0) c.new-bound.ensures.items)

pub props-props-preserved : goal.props-props-preserved
props-props-preserved t c =
    (tt, tt, turned_next c.props.invariant.2 (ap (map (λ x. bind_prop (world_at c.args.scene.now) (site_at c.args.scene.now) (prop_tree x))) c.in-Some.ensures.steps.0) c.in_ok-prop.ensures c.in_ok-push.ensures.items)

pub props-returns : goal.props-returns
props-returns t c =
    let none = none_left (into_iter_items c.props.prop-iterator) (omega (arith, c.in-None.ensures.steps.0, c.props.prop-iterator.rest.ok.0)) in
    walked_at (ap in_turn (props_listed (world_at c.args.scene.now) (site_at c.args.scene.now) c.args.props.items)) (turned_done c.props.invariant.2 (ap (map (λ x. bind_prop (world_at c.args.scene.now) (site_at c.args.scene.now) (prop_tree x))) none) refl)

pub props-returns-in_err-prop : goal.props-returns-in_err-prop
unfolding bind_expr
props-returns-in_err-prop t c =
    let p = err_from_is_err_and c.from_residual.result c.from_residual.ensures.1 in
    stopped (in_turn (bind_props (world_at c.args.scene.now) (site_at c.args.scene.now) (tree.to_props (map prop_tree c.args.props.items)))) c.args.self.now props_data c.prop.new.self c.from_residual.result p.0 _ p.1 p.2
    (walks_at props_data c.args.self.now c.prop.new.self (Err _) (ap in_turn (props_listed (world_at c.args.scene.now) (site_at c.args.scene.now) c.args.props.items))
    (turned_stop props_data c.prop.new.self c.prop.new.self _ c.props.invariant.2 (ap (map (λ x. bind_prop (world_at c.args.scene.now) (site_at c.args.scene.now) (prop_tree x))) c.in-Some.ensures.steps.0) c.in_err-prop.ensures))

pub holes-holes-init : goal.holes-holes-init
holes-holes-init t c =
    (tt, tt, turned_init (ap (map (λ x. bind_hole (world_at c.args.scene.now) (site_at c.args.scene.now) (hole_tree x))) c.into_iter-hole-iterator.ensures.into_iter_gives.0) c.new-bound.ensures.items)

pub holes-holes-preserved : goal.holes-holes-preserved
holes-holes-preserved t c =
    (tt, tt, turned_next c.holes.invariant.2 (ap (map (λ x. bind_hole (world_at c.args.scene.now) (site_at c.args.scene.now) (hole_tree x))) c.in-Some.ensures.steps.0) c.in_ok-hole.ensures c.in_ok-push.ensures.items)

pub holes-returns : goal.holes-returns
holes-returns t c =
    let none = none_left (into_iter_items c.holes.hole-iterator) (omega (arith, c.in-None.ensures.steps.0, c.holes.hole-iterator.rest.ok.0)) in
    walked_at (ap in_turn (holes_listed (world_at c.args.scene.now) (site_at c.args.scene.now) c.args.holes.items)) (turned_done c.holes.invariant.2 (ap (map (λ x. bind_hole (world_at c.args.scene.now) (site_at c.args.scene.now) (hole_tree x))) none) refl)

pub holes-returns-in_err-hole : goal.holes-returns-in_err-hole
unfolding bind_expr
holes-returns-in_err-hole t c =
    let p = err_from_is_err_and c.from_residual.result c.from_residual.ensures.1 in
    stopped (in_turn (bind_holes (world_at c.args.scene.now) (site_at c.args.scene.now) (tree.to_holes (map hole_tree c.args.holes.items)))) c.args.self.now holes_data c.hole.new.self c.from_residual.result p.0 _ p.1 p.2
    (walks_at holes_data c.args.self.now c.hole.new.self (Err _) (ap in_turn (holes_listed (world_at c.args.scene.now) (site_at c.args.scene.now) c.args.holes.items))
    (turned_stop holes_data c.hole.new.self c.hole.new.self _ c.holes.invariant.2 (ap (map (λ x. bind_hole (world_at c.args.scene.now) (site_at c.args.scene.now) (hole_tree x))) c.in-Some.ensures.steps.0) c.in_err-hole.ensures))

pub stmts-stmts-init : goal.stmts-stmts-init
stmts-stmts-init t c =
    (tt, tt, turned_init (ap (map (λ x. bind_stmt (world_at c.args.scene.now) (site_at c.args.scene.now) (stmt_tree x))) c.into_iter-stmt-iterator.ensures.into_iter_gives.0) c.new-bound.ensures.items)

pub stmts-stmts-preserved : goal.stmts-stmts-preserved
stmts-stmts-preserved t c =
    (tt, tt, turned_next c.stmts.invariant.2 (ap (map (λ x. bind_stmt (world_at c.args.scene.now) (site_at c.args.scene.now) (stmt_tree x))) c.in-Some.ensures.steps.0) c.in_ok-stmt.ensures c.in_ok-push.ensures.items)

pub stmts-returns : goal.stmts-returns
stmts-returns t c =
    let none = none_left (into_iter_items c.stmts.stmt-iterator) (omega (arith, c.in-None.ensures.steps.0, c.stmts.stmt-iterator.rest.ok.0)) in
    walked_at (ap in_turn (stmts_listed (world_at c.args.scene.now) (site_at c.args.scene.now) c.args.stmts.items)) (turned_done c.stmts.invariant.2 (ap (map (λ x. bind_stmt (world_at c.args.scene.now) (site_at c.args.scene.now) (stmt_tree x))) none) refl)

pub stmts-returns-in_err-stmt : goal.stmts-returns-in_err-stmt
unfolding bind_expr
stmts-returns-in_err-stmt t c =
    let p = err_from_is_err_and c.from_residual.result c.from_residual.ensures.1 in
    stopped (in_turn (bind_stmts (world_at c.args.scene.now) (site_at c.args.scene.now) (tree.to_stmts (map stmt_tree c.args.stmts.items)))) c.args.self.now stmts_data c.stmt.new.self c.from_residual.result p.0 _ p.1 p.2
    (walks_at stmts_data c.args.self.now c.stmt.new.self (Err _) (ap in_turn (stmts_listed (world_at c.args.scene.now) (site_at c.args.scene.now) c.args.stmts.items))
    (turned_stop stmts_data c.stmt.new.self c.stmt.new.self _ c.stmts.invariant.2 (ap (map (λ x. bind_stmt (world_at c.args.scene.now) (site_at c.args.scene.now) (stmt_tree x))) c.in-Some.ensures.steps.0) c.in_err-stmt.ensures))

pub chain-returns-in_err-others : goal.chain-returns-in_err-others
unfolding bind_expr
chain-returns-in_err-others t c =
    let p = err_from_is_err_and c.from_residual.result c.from_residual.ensures.1 in
    stopped (chain_after (world_at c.args.scene.now) (site_at c.args.scene.now) (expr_data c.args.first.value) (tree.to_operands (map operand_tree c.args.others.items))) c.args.self.now expr_data c.operands.new.self c.from_residual.result p.0 _ p.1 p.2
    (stop_first (in_turn (bind_operands (world_at c.args.scene.now) (site_at c.args.scene.now) (tree.to_operands (map operand_tree c.args.others.items)))) c.args.self.now _ operands_data expr_data c.operands.new.self c.operands.new.self _ c.in_err-others.ensures)

pub chain-returns : goal.chain-returns
unfolding bind_expr
chain-returns t c =
    walked_then _ c.in_ok-others.ensures (walked_gives (expr_data-Chain _ _))

pub postfix-returns-in_err-parts : goal.postfix-returns-in_err-parts
unfolding bind_expr
postfix-returns-in_err-parts t c =
    let p = err_from_is_err_and c.from_residual.result c.from_residual.ensures.1 in
    stopped (parts_after (world_at c.args.scene.now) (site_at c.args.scene.now) (expr_data c.args.value) (tree.to_parts (map part_tree c.args.parts.items))) c.args.self.now expr_data c.parts.new.self c.from_residual.result p.0 _ p.1 p.2
    (stop_first (in_turn (bind_parts (world_at c.args.scene.now) (site_at c.args.scene.now) (tree.to_parts (map part_tree c.args.parts.items)))) c.args.self.now _ parts_data expr_data c.parts.new.self c.parts.new.self _ c.in_err-parts.ensures)

pub postfix-returns : goal.postfix-returns
unfolding bind_expr
postfix-returns t c =
    walked_then _ c.in_ok-parts.ensures (walked_gives c.in_ok-with_parts.ensures)

pub part-returns-in-Member : goal.part-returns-in-Member
unfolding bind_expr
part-returns-in-Member t c =
    walked_at (ap (bind_part (world_at c.args.scene.now) (site_at c.args.scene.now)) (ap part_tree c.in-Member.is ∙ part_tree-Member _)) (walked_gives (part_data-Member _))

pub part-returns-in_err-index-in-Index : goal.part-returns-in_err-index-in-Index
unfolding bind_expr
part-returns-in_err-index-in-Index t c =
    let p = err_from_is_err_and c.from_residual.result c.from_residual.ensures.1 in
    stopped (bind_part (world_at c.args.scene.now) (site_at c.args.scene.now) (part_tree c.args.part)) c.args.self.now part_data c.boxed.new.self c.from_residual.result p.0 _ p.1 p.2
    (walks_at part_data c.args.self.now c.boxed.new.self (Err _) (ap (bind_part (world_at c.args.scene.now) (site_at c.args.scene.now)) (ap part_tree c.in-Index.is ∙ part_tree-Index c.in-Index.index))
    (stop_first (bind_expr (world_at c.args.scene.now) (site_at c.args.scene.now) (expr_tree c.in-Index.index.value)) c.args.self.now _ boxed_data part_data c.boxed.new.self c.boxed.new.self _ c.in_err-index-in-Index.ensures))

pub part-returns-in_ok-index-in-Index : goal.part-returns-in_ok-index-in-Index
unfolding bind_expr
part-returns-in_ok-index-in-Index t c =
    walked_at (ap (bind_part (world_at c.args.scene.now) (site_at c.args.scene.now)) (ap part_tree c.in-Index.is ∙ part_tree-Index c.in-Index.index))
    (walked_then _ c.in_ok-index-in-Index.ensures (walked_gives (part_data-Index _)))

pub part-returns-in_err-arguments-in-Call : goal.part-returns-in_err-arguments-in-Call
unfolding bind_expr
part-returns-in_err-arguments-in-Call t c =
    let p = err_from_is_err_and c.from_residual-in_err-arguments-in-Call.result c.from_residual-in_err-arguments-in-Call.ensures.1 in
    stopped (bind_part (world_at c.args.scene.now) (site_at c.args.scene.now) (part_tree c.args.part)) c.args.self.now part_data c.exprs.new.self c.from_residual-in_err-arguments-in-Call.result p.0 _ p.1 p.2
    (walks_at part_data c.args.self.now c.exprs.new.self (Err _) (ap (bind_part (world_at c.args.scene.now) (site_at c.args.scene.now)) (ap part_tree c.in-Call.is ∙ part_tree-Call c.in-Call.arguments))
    (stop_first (in_turn (bind_exprs (world_at c.args.scene.now) (site_at c.args.scene.now) (tree.to_exprs (map expr_tree c.in-Call.arguments.items)))) c.args.self.now _ exprs_data part_data c.exprs.new.self c.exprs.new.self _ c.in_err-arguments-in-Call.ensures))

pub part-returns-in_ok-arguments-in-Call : goal.part-returns-in_ok-arguments-in-Call
unfolding bind_expr
part-returns-in_ok-arguments-in-Call t c =
    walked_at (ap (bind_part (world_at c.args.scene.now) (site_at c.args.scene.now)) (ap part_tree c.in-Call.is ∙ part_tree-Call c.in-Call.arguments))
    (walked_then _ c.in_ok-arguments-in-Call.ensures (walked_gives (part_data-Call _)))

pub prop-returns-in_err-value-in-Named : goal.prop-returns-in_err-value-in-Named
unfolding bind_expr
prop-returns-in_err-value-in-Named t c =
    let p = err_from_is_err_and c.from_residual.result c.from_residual.ensures.1 in
    stopped (bind_prop (world_at c.args.scene.now) (site_at c.args.scene.now) (prop_tree c.args.prop)) c.args.self.now prop_data c.expr.new.self c.from_residual.result p.0 _ p.1 p.2
    (walks_at prop_data c.args.self.now c.expr.new.self (Err _) (ap (bind_prop (world_at c.args.scene.now) (site_at c.args.scene.now)) (ap prop_tree c.in-Named.is ∙ prop_tree-Named _ c.in-Named.value))
    (stop_first (bind_expr (world_at c.args.scene.now) (site_at c.args.scene.now) (expr_tree c.in-Named.value)) c.args.self.now _ expr_data prop_data c.expr.new.self c.expr.new.self _ c.in_err-value-in-Named.ensures))

pub prop-returns-in_ok-value-in-Named : goal.prop-returns-in_ok-value-in-Named
unfolding bind_expr
prop-returns-in_ok-value-in-Named t c =
    walked_at (ap (bind_prop (world_at c.args.scene.now) (site_at c.args.scene.now)) (ap prop_tree c.in-Named.is ∙ prop_tree-Named _ c.in-Named.value))
    (walked_then _ c.in_ok-value-in-Named.ensures (walked_gives (prop_data-Named _ _)))

pub prop-returns-in_err-value-in-Quoted : goal.prop-returns-in_err-value-in-Quoted
unfolding bind_expr
prop-returns-in_err-value-in-Quoted t c =
    let p = err_from_is_err_and c.from_residual-in_err-value-in-Quoted.result c.from_residual-in_err-value-in-Quoted.ensures.1 in
    stopped (bind_prop (world_at c.args.scene.now) (site_at c.args.scene.now) (prop_tree c.args.prop)) c.args.self.now prop_data c.expr-in-Quoted.new.self c.from_residual-in_err-value-in-Quoted.result p.0 _ p.1 p.2
    (walks_at prop_data c.args.self.now c.expr-in-Quoted.new.self (Err _) (ap (bind_prop (world_at c.args.scene.now) (site_at c.args.scene.now)) (ap prop_tree c.in-Quoted.is ∙ prop_tree-Quoted _ c.in-Quoted.value))
    (stop_first (bind_expr (world_at c.args.scene.now) (site_at c.args.scene.now) (expr_tree c.in-Quoted.value)) c.args.self.now _ expr_data prop_data c.expr-in-Quoted.new.self c.expr-in-Quoted.new.self _ c.in_err-value-in-Quoted.ensures))

pub prop-returns-in_ok-value-in-Quoted : goal.prop-returns-in_ok-value-in-Quoted
unfolding bind_expr
prop-returns-in_ok-value-in-Quoted t c =
    walked_at (ap (bind_prop (world_at c.args.scene.now) (site_at c.args.scene.now)) (ap prop_tree c.in-Quoted.is ∙ prop_tree-Quoted _ c.in-Quoted.value))
    (walked_then _ c.in_ok-value-in-Quoted.ensures (walked_gives (prop_data-Quoted _ _)))

pub prop-returns-in_err-found-in-Short : goal.prop-returns-in_err-found-in-Short
unfolding bind_expr
prop-returns-in_err-found-in-Short t c =
    let p = err_from_is_err_and c.from_residual-in_err-found-in-Short.result c.from_residual-in_err-found-in-Short.ensures.1 in
    stopped (bind_prop (world_at c.args.scene.now) (site_at c.args.scene.now) (prop_tree c.args.prop)) c.args.self.now prop_data c.alone.new.self c.from_residual-in_err-found-in-Short.result p.0 _ p.1 p.2
    (walks_at prop_data c.args.self.now c.alone.new.self (Err _) (ap (bind_prop (world_at c.args.scene.now) (site_at c.args.scene.now)) (ap prop_tree c.in-Short.is ∙ prop_tree-Short _))
    (stop_first (bind_name (world_at c.args.scene.now) (site_at c.args.scene.now) c.in-Short.name tree.no_parts) c.args.self.now _ (λ (f : Found). f) prop_data c.alone.new.self c.alone.new.self _ c.in_err-found-in-Short.ensures))

pub prop-returns-in_ok-found-in-Short : goal.prop-returns-in_ok-found-in-Short
unfolding bind_expr
prop-returns-in_ok-found-in-Short t c =
    walked_at (ap (bind_prop (world_at c.args.scene.now) (site_at c.args.scene.now)) (ap prop_tree c.in-Short.is ∙ prop_tree-Short _))
    (walked_then _ c.in_ok-found-in-Short.ensures (walked_gives (prop_data-Short _ _)))

pub prop-returns-in_err-value-in-Spread : goal.prop-returns-in_err-value-in-Spread
unfolding bind_expr
prop-returns-in_err-value-in-Spread t c =
    let p = err_from_is_err_and c.from_residual-in_err-value-in-Spread.result c.from_residual-in_err-value-in-Spread.ensures.1 in
    stopped (bind_prop (world_at c.args.scene.now) (site_at c.args.scene.now) (prop_tree c.args.prop)) c.args.self.now prop_data c.expr-in-Spread.new.self c.from_residual-in_err-value-in-Spread.result p.0 _ p.1 p.2
    (walks_at prop_data c.args.self.now c.expr-in-Spread.new.self (Err _) (ap (bind_prop (world_at c.args.scene.now) (site_at c.args.scene.now)) (ap prop_tree c.in-Spread.is ∙ prop_tree-Spread c.in-Spread.value))
    (stop_first (bind_expr (world_at c.args.scene.now) (site_at c.args.scene.now) (expr_tree c.in-Spread.value)) c.args.self.now _ expr_data prop_data c.expr-in-Spread.new.self c.expr-in-Spread.new.self _ c.in_err-value-in-Spread.ensures))

pub prop-returns-in_ok-value-in-Spread : goal.prop-returns-in_ok-value-in-Spread
unfolding bind_expr
prop-returns-in_ok-value-in-Spread t c =
    walked_at (ap (bind_prop (world_at c.args.scene.now) (site_at c.args.scene.now)) (ap prop_tree c.in-Spread.is ∙ prop_tree-Spread c.in-Spread.value))
    (walked_then _ c.in_ok-value-in-Spread.ensures (walked_gives (prop_data-Spread _)))

pub stmt-returns-in_err-number-in-Const : goal.stmt-returns-in_err-number-in-Const
unfolding bind_expr
stmt-returns-in_err-number-in-Const t c =
    let p = err_from_is_err_and c.from_residual.result c.from_residual.ensures.1 in
    stopped (bind_stmt (world_at c.args.scene.now) (site_at c.args.scene.now) (stmt_tree c.args.stmt)) c.args.self.now stmt_data c.next_local.new.self c.from_residual.result p.0 _ p.1 p.2
    (walks_at stmt_data c.args.self.now c.next_local.new.self (Err _) (ap (bind_stmt (world_at c.args.scene.now) (site_at c.args.scene.now)) (ap stmt_tree c.in-Const.is ∙ stmt_tree-Const _ _ c.in-Const.value))
    (stop_first next_local c.args.self.now (const_after (world_at c.args.scene.now) (site_at c.args.scene.now) c.in-Const.name (note_tree c.in-Const.note) (expr_tree c.in-Const.value)) (λ (n : ℕ). n) stmt_data c.next_local.new.self c.next_local.new.self _ c.in_err-number-in-Const.ensures))

pub stmt-returns-in_err-value-in-Const : goal.stmt-returns-in_err-value-in-Const
unfolding bind_expr
stmt-returns-in_err-value-in-Const t c =
    let p = err_from_is_err_and c.from_residual-in_err-value-in-Const.result c.from_residual-in_err-value-in-Const.ensures.1 in
    stopped (bind_stmt (world_at c.args.scene.now) (site_at c.args.scene.now) (stmt_tree c.args.stmt)) c.args.self.now stmt_data c.expr.new.self c.from_residual-in_err-value-in-Const.result p.0 _ p.1 p.2
    (walks_at stmt_data c.args.self.now c.expr.new.self (Err _) (ap (bind_stmt (world_at c.args.scene.now) (site_at c.args.scene.now)) (ap stmt_tree c.in-Const.is ∙ stmt_tree-Const _ _ c.in-Const.value))
    (then_walks (const_after (world_at c.args.scene.now) (site_at c.args.scene.now) c.in-Const.name (note_tree c.in-Const.note) (expr_tree c.in-Const.value)) stmt_data c.expr.new.self (Err _) c.in_ok-number-in-Const.ensures (stop_first (bind_expr (world_at c.args.scene.now) (site_at c.args.scene.now) (expr_tree c.in-Const.value)) c.next_local.new.self (const_known c.in-Const.name (note_tree c.in-Const.note) c.in_ok-number-in-Const.number) expr_data stmt_data c.expr.new.self c.expr.new.self _ c.in_err-value-in-Const.ensures)))

pub stmt-returns-in_ok-value-in-Const : goal.stmt-returns-in_ok-value-in-Const
unfolding bind_expr
stmt-returns-in_ok-value-in-Const t c =
    walked_at (ap (bind_stmt (world_at c.args.scene.now) (site_at c.args.scene.now)) (ap stmt_tree c.in-Const.is ∙ stmt_tree-Const _ _ c.in-Const.value))
    (walked_then (const_after (world_at c.args.scene.now) (site_at c.args.scene.now) c.in-Const.name (note_tree c.in-Const.note) (expr_tree c.in-Const.value)) c.in_ok-number-in-Const.ensures (walked_then (const_known c.in-Const.name (note_tree c.in-Const.note) c.in_ok-number-in-Const.number) c.in_ok-value-in-Const.ensures (walked_then (λ (m : ℕ). gives (bound.Const c.in_ok-number-in-Const.number (note_tree c.in-Const.note) (expr_data c.in_ok-value-in-Const.value))) c.declare.ensures (walked_gives (stmt_data-Const _ _ _)))))

pub stmt-returns-in_err-number-in-Let : goal.stmt-returns-in_err-number-in-Let
unfolding bind_expr
stmt-returns-in_err-number-in-Let t c =
    let p = err_from_is_err_and c.from_residual-in_err-number-in-Let.result c.from_residual-in_err-number-in-Let.ensures.1 in
    stopped (bind_stmt (world_at c.args.scene.now) (site_at c.args.scene.now) (stmt_tree c.args.stmt)) c.args.self.now stmt_data c.next_local-in-Let.new.self c.from_residual-in_err-number-in-Let.result p.0 _ p.1 p.2
    (walks_at stmt_data c.args.self.now c.next_local-in-Let.new.self (Err _) (ap (bind_stmt (world_at c.args.scene.now) (site_at c.args.scene.now)) (ap stmt_tree c.in-Let.is ∙ stmt_tree-Let _ _ c.in-Let.value))
    (stop_first next_local c.args.self.now (let_after (world_at c.args.scene.now) (site_at c.args.scene.now) c.in-Let.name (note_tree c.in-Let.note) (tree.to_expr (option_map expr_tree c.in-Let.value))) (λ (n : ℕ). n) stmt_data c.next_local-in-Let.new.self c.next_local-in-Let.new.self _ c.in_err-number-in-Let.ensures))

pub stmt-returns-in_err-value-in-Let : goal.stmt-returns-in_err-value-in-Let
unfolding bind_expr
stmt-returns-in_err-value-in-Let t c =
    let p = err_from_is_err_and c.from_residual-in_err-value-in-Let.result c.from_residual-in_err-value-in-Let.ensures.1 in
    stopped (bind_stmt (world_at c.args.scene.now) (site_at c.args.scene.now) (stmt_tree c.args.stmt)) c.args.self.now stmt_data c.maybe.new.self c.from_residual-in_err-value-in-Let.result p.0 _ p.1 p.2
    (walks_at stmt_data c.args.self.now c.maybe.new.self (Err _) (ap (bind_stmt (world_at c.args.scene.now) (site_at c.args.scene.now)) (ap stmt_tree c.in-Let.is ∙ stmt_tree-Let _ _ c.in-Let.value))
    (then_walks (let_after (world_at c.args.scene.now) (site_at c.args.scene.now) c.in-Let.name (note_tree c.in-Let.note) (tree.to_expr (option_map expr_tree c.in-Let.value))) stmt_data c.maybe.new.self (Err _) c.in_ok-number-in-Let.ensures (stop_first (bind_maybe (world_at c.args.scene.now) (site_at c.args.scene.now) (tree.to_expr (option_map expr_tree c.in-Let.value))) c.next_local-in-Let.new.self (let_known c.in-Let.name (note_tree c.in-Let.note) c.in_ok-number-in-Let.number) (λ (o : Option BoundExpr). option_map expr_data o) stmt_data c.maybe.new.self c.maybe.new.self _ c.in_err-value-in-Let.ensures)))

pub stmt-returns-in_ok-value-in-Let : goal.stmt-returns-in_ok-value-in-Let
unfolding bind_expr
stmt-returns-in_ok-value-in-Let t c =
    walked_at (ap (bind_stmt (world_at c.args.scene.now) (site_at c.args.scene.now)) (ap stmt_tree c.in-Let.is ∙ stmt_tree-Let _ _ c.in-Let.value))
    (walked_then (let_after (world_at c.args.scene.now) (site_at c.args.scene.now) c.in-Let.name (note_tree c.in-Let.note) (tree.to_expr (option_map expr_tree c.in-Let.value))) c.in_ok-number-in-Let.ensures (walked_then (let_known c.in-Let.name (note_tree c.in-Let.note) c.in_ok-number-in-Let.number) c.in_ok-value-in-Let.ensures (walked_then (λ (m : ℕ). gives (bound.Let c.in_ok-number-in-Let.number (note_tree c.in-Let.note) (option_map expr_data c.in_ok-value-in-Let.value))) c.declare-in-Let.ensures (walked_gives (stmt_data-Let _ _ _)))))

pub stmt-returns-in_err-test-in-If : goal.stmt-returns-in_err-test-in-If
unfolding bind_expr
stmt-returns-in_err-test-in-If t c =
    let p = err_from_is_err_and c.from_residual-in_err-test-in-If.result c.from_residual-in_err-test-in-If.ensures.1 in
    stopped (bind_stmt (world_at c.args.scene.now) (site_at c.args.scene.now) (stmt_tree c.args.stmt)) c.args.self.now stmt_data c.expr-in-If.new.self c.from_residual-in_err-test-in-If.result p.0 _ p.1 p.2
    (walks_at stmt_data c.args.self.now c.expr-in-If.new.self (Err _) (ap (bind_stmt (world_at c.args.scene.now) (site_at c.args.scene.now)) (ap stmt_tree c.in-If.is ∙ stmt_tree-If c.in-If.test c.in-If.body c.in-If.other))
    (stop_first (bind_expr (world_at c.args.scene.now) (site_at c.args.scene.now) (expr_tree c.in-If.test)) c.args.self.now _ expr_data stmt_data c.expr-in-If.new.self c.expr-in-If.new.self _ c.in_err-test-in-If.ensures))

pub stmt-returns-in_err-body-in-If : goal.stmt-returns-in_err-body-in-If
unfolding bind_expr
stmt-returns-in_err-body-in-If t c =
    let p = err_from_is_err_and c.from_residual-in_err-body-in-If.result c.from_residual-in_err-body-in-If.ensures.1 in
    stopped (bind_stmt (world_at c.args.scene.now) (site_at c.args.scene.now) (stmt_tree c.args.stmt)) c.args.self.now stmt_data c.nested.new.self c.from_residual-in_err-body-in-If.result p.0 _ p.1 p.2
    (walks_at stmt_data c.args.self.now c.nested.new.self (Err _) (ap (bind_stmt (world_at c.args.scene.now) (site_at c.args.scene.now)) (ap stmt_tree c.in-If.is ∙ stmt_tree-If c.in-If.test c.in-If.body c.in-If.other))
    (then_walks _ stmt_data c.nested.new.self (Err _) c.in_ok-test-in-If.ensures (stop_first (within (stmt_locals (stmt_tree c.in-If.body.value)) (bind_stmt (world_at c.args.scene.now) (site_at c.args.scene.now) (stmt_tree c.in-If.body.value))) c.expr-in-If.new.self _ boxed_stmt stmt_data c.nested.new.self c.nested.new.self _ c.in_err-body-in-If.ensures)))

pub stmt-returns-in_err-other-in-If : goal.stmt-returns-in_err-other-in-If
unfolding bind_expr
stmt-returns-in_err-other-in-If t c =
    let p = err_from_is_err_and c.from_residual-in_err-other-in-If.result c.from_residual-in_err-other-in-If.ensures.1 in
    stopped (bind_stmt (world_at c.args.scene.now) (site_at c.args.scene.now) (stmt_tree c.args.stmt)) c.args.self.now stmt_data c.otherwise.new.self c.from_residual-in_err-other-in-If.result p.0 _ p.1 p.2
    (walks_at stmt_data c.args.self.now c.otherwise.new.self (Err _) (ap (bind_stmt (world_at c.args.scene.now) (site_at c.args.scene.now)) (ap stmt_tree c.in-If.is ∙ stmt_tree-If c.in-If.test c.in-If.body c.in-If.other))
    (then_walks _ stmt_data c.otherwise.new.self (Err _) c.in_ok-test-in-If.ensures (then_walks _ stmt_data c.otherwise.new.self (Err _) c.in_ok-body-in-If.ensures (stop_first (bind_else (world_at c.args.scene.now) (site_at c.args.scene.now) (tree.to_stmt (option_map (λ s. stmt_tree s.value) c.in-If.other))) c.nested.new.self _ else_data stmt_data c.otherwise.new.self c.otherwise.new.self _ c.in_err-other-in-If.ensures))))

pub stmt-returns-in_ok-other-in-If : goal.stmt-returns-in_ok-other-in-If
unfolding bind_expr
stmt-returns-in_ok-other-in-If t c =
    walked_at (ap (bind_stmt (world_at c.args.scene.now) (site_at c.args.scene.now)) (ap stmt_tree c.in-If.is ∙ stmt_tree-If c.in-If.test c.in-If.body c.in-If.other))
    (walked_then _ c.in_ok-test-in-If.ensures (walked_then _ c.in_ok-body-in-If.ensures (walked_then _ c.in_ok-other-in-If.ensures (walked_gives (stmt_data-If _ _ _)))))

pub stmt-returns-in_err-value-in-Return : goal.stmt-returns-in_err-value-in-Return
unfolding bind_expr
stmt-returns-in_err-value-in-Return t c =
    let p = err_from_is_err_and c.from_residual-in_err-value-in-Return.result c.from_residual-in_err-value-in-Return.ensures.1 in
    stopped (bind_stmt (world_at c.args.scene.now) (site_at c.args.scene.now) (stmt_tree c.args.stmt)) c.args.self.now stmt_data c.maybe-in-Return.new.self c.from_residual-in_err-value-in-Return.result p.0 _ p.1 p.2
    (walks_at stmt_data c.args.self.now c.maybe-in-Return.new.self (Err _) (ap (bind_stmt (world_at c.args.scene.now) (site_at c.args.scene.now)) (ap stmt_tree c.in-Return.is ∙ stmt_tree-Return c.in-Return.value))
    (stop_first (bind_maybe (world_at c.args.scene.now) (site_at c.args.scene.now) (tree.to_expr (option_map expr_tree c.in-Return.value))) c.args.self.now _ (λ (o : Option BoundExpr). option_map expr_data o) stmt_data c.maybe-in-Return.new.self c.maybe-in-Return.new.self _ c.in_err-value-in-Return.ensures))

pub stmt-returns-in_ok-value-in-Return : goal.stmt-returns-in_ok-value-in-Return
unfolding bind_expr
stmt-returns-in_ok-value-in-Return t c =
    walked_at (ap (bind_stmt (world_at c.args.scene.now) (site_at c.args.scene.now)) (ap stmt_tree c.in-Return.is ∙ stmt_tree-Return c.in-Return.value))
    (walked_then _ c.in_ok-value-in-Return.ensures (walked_gives (stmt_data-Return _)))

pub stmt-returns-in_err-value-in-Value : goal.stmt-returns-in_err-value-in-Value
unfolding bind_expr
stmt-returns-in_err-value-in-Value t c =
    let p = err_from_is_err_and c.from_residual-in_err-value-in-Value.result c.from_residual-in_err-value-in-Value.ensures.1 in
    stopped (bind_stmt (world_at c.args.scene.now) (site_at c.args.scene.now) (stmt_tree c.args.stmt)) c.args.self.now stmt_data c.expr-in-Value.new.self c.from_residual-in_err-value-in-Value.result p.0 _ p.1 p.2
    (walks_at stmt_data c.args.self.now c.expr-in-Value.new.self (Err _) (ap (bind_stmt (world_at c.args.scene.now) (site_at c.args.scene.now)) (ap stmt_tree c.in-Value.is ∙ stmt_tree-Value c.in-Value.value))
    (stop_first (bind_expr (world_at c.args.scene.now) (site_at c.args.scene.now) (expr_tree c.in-Value.value)) c.args.self.now _ expr_data stmt_data c.expr-in-Value.new.self c.expr-in-Value.new.self _ c.in_err-value-in-Value.ensures))

pub stmt-returns-in_ok-value-in-Value : goal.stmt-returns-in_ok-value-in-Value
unfolding bind_expr
stmt-returns-in_ok-value-in-Value t c =
    walked_at (ap (bind_stmt (world_at c.args.scene.now) (site_at c.args.scene.now)) (ap stmt_tree c.in-Value.is ∙ stmt_tree-Value c.in-Value.value))
    (walked_then _ c.in_ok-value-in-Value.ensures (walked_gives (stmt_data-Value _)))

pub stmt-returns-in-Empty : goal.stmt-returns-in-Empty
unfolding bind_expr
stmt-returns-in-Empty t c =
    walked_at (ap (bind_stmt (world_at c.args.scene.now) (site_at c.args.scene.now)) (ap stmt_tree c.in-Empty.is ∙ stmt_tree-Empty)) (walked_gives stmt_data-Empty)

pub exprs-returns-in_err-push : goal.exprs-returns-in_err-push
unfolding bind_expr
exprs-returns-in_err-push t c =
    let p = err_from_is_err_and c.from_residual-in_err-push.result c.from_residual-in_err-push.ensures.1 in
    out_of_memory (in_turn (bind_exprs (world_at c.args.scene.now) (site_at c.args.scene.now) (tree.to_exprs (map expr_tree c.args.exprs.items)))) c.args.self.now exprs_data c.expr.new.self c.from_residual-in_err-push.result p.0 p.1 p.2

pub operands-returns-in_err-push : goal.operands-returns-in_err-push
unfolding bind_expr
operands-returns-in_err-push t c =
    let p = err_from_is_err_and c.from_residual-in_err-push.result c.from_residual-in_err-push.ensures.1 in
    out_of_memory (in_turn (bind_operands (world_at c.args.scene.now) (site_at c.args.scene.now) (tree.to_operands (map operand_tree c.args.operands.items)))) c.args.self.now operands_data c.operand.new.self c.from_residual-in_err-push.result p.0 p.1 p.2

pub elements-returns-in_err-push : goal.elements-returns-in_err-push
unfolding bind_expr
elements-returns-in_err-push t c =
    let p = err_from_is_err_and c.from_residual-in_err-push.result c.from_residual-in_err-push.ensures.1 in
    out_of_memory (in_turn (bind_elements (world_at c.args.scene.now) (site_at c.args.scene.now) (tree.to_elements (map element_tree c.args.elements.items)))) c.args.self.now elements_data c.element.new.self c.from_residual-in_err-push.result p.0 p.1 p.2

pub props-returns-in_err-push : goal.props-returns-in_err-push
unfolding bind_expr
props-returns-in_err-push t c =
    let p = err_from_is_err_and c.from_residual-in_err-push.result c.from_residual-in_err-push.ensures.1 in
    out_of_memory (in_turn (bind_props (world_at c.args.scene.now) (site_at c.args.scene.now) (tree.to_props (map prop_tree c.args.props.items)))) c.args.self.now props_data c.prop.new.self c.from_residual-in_err-push.result p.0 p.1 p.2

pub holes-returns-in_err-push : goal.holes-returns-in_err-push
unfolding bind_expr
holes-returns-in_err-push t c =
    let p = err_from_is_err_and c.from_residual-in_err-push.result c.from_residual-in_err-push.ensures.1 in
    out_of_memory (in_turn (bind_holes (world_at c.args.scene.now) (site_at c.args.scene.now) (tree.to_holes (map hole_tree c.args.holes.items)))) c.args.self.now holes_data c.hole.new.self c.from_residual-in_err-push.result p.0 p.1 p.2

pub stmts-returns-in_err-push : goal.stmts-returns-in_err-push
unfolding bind_expr
stmts-returns-in_err-push t c =
    let p = err_from_is_err_and c.from_residual-in_err-push.result c.from_residual-in_err-push.ensures.1 in
    out_of_memory (in_turn (bind_stmts (world_at c.args.scene.now) (site_at c.args.scene.now) (tree.to_stmts (map stmt_tree c.args.stmts.items)))) c.args.self.now stmts_data c.stmt.new.self c.from_residual-in_err-push.result p.0 p.1 p.2

pub parts-returns-in_err-push : goal.parts-returns-in_err-push
unfolding bind_expr
parts-returns-in_err-push t c =
    let p = err_from_is_err_and c.from_residual-in_err-push.result c.from_residual-in_err-push.ensures.1 in
    out_of_memory (in_turn (drop c.args.skipped (bind_parts (world_at c.args.scene.now) (site_at c.args.scene.now) (tree.to_parts (map part_tree c.args.parts.items))))) c.args.self.now parts_data c.part.new.self c.from_residual-in_err-push.result p.0 p.1 p.2

pub parts-returns-in_err-part : goal.parts-returns-in_err-part
unfolding bind_expr
parts-returns-in_err-part t c =
    let p = err_from_is_err_and c.from_residual.result c.from_residual.ensures.1 in
    stopped (in_turn (drop c.args.skipped (bind_parts (world_at c.args.scene.now) (site_at c.args.scene.now) (tree.to_parts (map part_tree c.args.parts.items))))) c.args.self.now parts_data c.part.new.self c.from_residual.result p.0 _ p.1 p.2
    (walks_at parts_data c.args.self.now c.part.new.self (Err _) (ap (λ ms. in_turn (drop c.args.skipped ms)) (parts_listed (world_at c.args.scene.now) (site_at c.args.scene.now) c.args.parts.items) ∙ ap in_turn (drop_map (λ x. bind_part (world_at c.args.scene.now) (site_at c.args.scene.now) (part_tree x)) c.args.skipped c.args.parts.items))
    (turned_stop parts_data c.part.new.self c.part.new.self _ c.parts.invariant.2 (ap (map (λ x. bind_part (world_at c.args.scene.now) (site_at c.args.scene.now) (part_tree x))) (drop_first c.parts.left _ _ c.in-Some.part c.in-Some.ensures.steps.0 (omega arith))) c.in_err-part.ensures))

pub parts-parts-init : goal.parts-parts-init
parts-parts-init t c =
    (tt, tt, turned_init (ap (λ xs. map (λ x. bind_part (world_at c.args.scene.now) (site_at c.args.scene.now) (part_tree x)) (drop c.args.skipped xs)) c.into_iter-part-iterator.ensures.into_iter_gives.0) c.new-bound.ensures.items)

pub parts-parts-preserved : goal.parts-parts-preserved
parts-parts-preserved t c =
    (tt, tt, turned_next c.parts.invariant.2 (ap (map (λ x. bind_part (world_at c.args.scene.now) (site_at c.args.scene.now) (part_tree x))) (drop_first c.parts.left _ _ c.in-Some.part c.in-Some.ensures.steps.0 (omega arith))) c.in_ok-part.ensures c.in_ok-push.ensures.items)

pub parts-parts-preserved-then-left-gt0 : goal.parts-parts-preserved-then-left-gt0
parts-parts-preserved-then-left-gt0 t c =
    (tt, tt, turned_at (ap (map (λ x. bind_part (world_at c.args.scene.now) (site_at c.args.scene.now) (part_tree x))) (drop_passed c.parts.left _ _ _ c.in-Some.part c.in-Some.ensures.steps.0 (omega arith) refl)) c.parts.invariant.2)

pub parts-returns : goal.parts-returns
parts-returns t c =
    let none = none_left (into_iter_items c.parts.part-iterator) (omega (arith, c.in-None.ensures.steps.0, c.parts.part-iterator.rest.ok.0)) in
    walked_at (ap (λ ms. in_turn (drop c.args.skipped ms)) (parts_listed (world_at c.args.scene.now) (site_at c.args.scene.now) c.args.parts.items) ∙ ap in_turn (drop_map (λ x. bind_part (world_at c.args.scene.now) (site_at c.args.scene.now) (part_tree x)) c.args.skipped c.args.parts.items)) (turned_done c.parts.invariant.2 (ap (map (λ x. bind_part (world_at c.args.scene.now) (site_at c.args.scene.now) (part_tree x))) (drop_none c.parts.left _ none)) refl)

pub maybe-returns-in_err-bound-in-Some : goal.maybe-returns-in_err-bound-in-Some
unfolding bind_expr
maybe-returns-in_err-bound-in-Some t c =
    let p = err_from_is_err_and c.from_residual.result c.from_residual.ensures.1 in
    stopped (bind_maybe (world_at c.args.scene.now) (site_at c.args.scene.now) (tree.to_expr (option_map expr_tree c.args.expr))) c.args.self.now maybe_data c.expr.new.self c.from_residual.result p.0 _ p.1 p.2
    (walks_at maybe_data c.args.self.now c.expr.new.self (Err _) (ap (λ o. bind_maybe (world_at c.args.scene.now) (site_at c.args.scene.now) (tree.to_expr (option_map expr_tree o))) c.in-Some.is)
    (stop_first (bind_expr (world_at c.args.scene.now) (site_at c.args.scene.now) (expr_tree c.in-Some.expr)) c.args.self.now _ expr_data maybe_data c.expr.new.self c.expr.new.self _ c.in_err-bound-in-Some.ensures))

pub maybe-returns-in_ok-bound-in-Some : goal.maybe-returns-in_ok-bound-in-Some
unfolding bind_expr
maybe-returns-in_ok-bound-in-Some t c =
    walked_at (ap (λ o. bind_maybe (world_at c.args.scene.now) (site_at c.args.scene.now) (tree.to_expr (option_map expr_tree o))) c.in-Some.is)
    (walked_then _ c.in_ok-bound-in-Some.ensures (walked_gives refl))

pub maybe-returns-in-None : goal.maybe-returns-in-None
unfolding bind_expr
maybe-returns-in-None t c =
    walked_at (ap (λ o. bind_maybe (world_at c.args.scene.now) (site_at c.args.scene.now) (tree.to_expr (option_map expr_tree o))) c.in-None.is) (walked_gives refl)

pub otherwise-returns-in_err-bound-in-Some : goal.otherwise-returns-in_err-bound-in-Some
unfolding bind_expr
otherwise-returns-in_err-bound-in-Some t c =
    let p = err_from_is_err_and c.from_residual.result c.from_residual.ensures.1 in
    stopped (bind_else (world_at c.args.scene.now) (site_at c.args.scene.now) (tree.to_stmt (option_map (λ s. stmt_tree s.value) c.args.stmt))) c.args.self.now else_data c.nested.new.self c.from_residual.result p.0 _ p.1 p.2
    (walks_at else_data c.args.self.now c.nested.new.self (Err _) (ap (λ o. bind_else (world_at c.args.scene.now) (site_at c.args.scene.now) (tree.to_stmt (option_map (λ s. stmt_tree s.value) o))) c.in-Some.is)
    (stop_first (within (stmt_locals (stmt_tree c.in-Some.stmt.value)) (bind_stmt (world_at c.args.scene.now) (site_at c.args.scene.now) (stmt_tree c.in-Some.stmt.value))) c.args.self.now _ boxed_stmt else_data c.nested.new.self c.nested.new.self _ c.in_err-bound-in-Some.ensures))

pub otherwise-returns-in_ok-bound-in-Some : goal.otherwise-returns-in_ok-bound-in-Some
unfolding bind_expr
otherwise-returns-in_ok-bound-in-Some t c =
    walked_at (ap (λ o. bind_else (world_at c.args.scene.now) (site_at c.args.scene.now) (tree.to_stmt (option_map (λ s. stmt_tree s.value) o))) c.in-Some.is)
    (walked_then _ c.in_ok-bound-in-Some.ensures (walked_gives refl))

pub otherwise-returns-in-None : goal.otherwise-returns-in-None
unfolding bind_expr
otherwise-returns-in-None t c =
    walked_at (ap (λ o. bind_else (world_at c.args.scene.now) (site_at c.args.scene.now) (tree.to_stmt (option_map (λ s. stmt_tree s.value) o))) c.in-None.is) (walked_gives refl)

pub stmt-returns-in_err-number-in-Assign : goal.stmt-returns-in_err-number-in-Assign
unfolding bind_expr
stmt-returns-in_err-number-in-Assign t c =
    let p = err_from_is_err_and c.from_residual-in_err-number-in-Assign.result c.from_residual-in_err-number-in-Assign.ensures.1 in
    stopped (bind_stmt (world_at c.args.scene.now) (site_at c.args.scene.now) (stmt_tree c.args.stmt)) c.args.self.now stmt_data c.args.self.now c.from_residual-in_err-number-in-Assign.result p.0 _ p.1 p.2
    (walks_at stmt_data c.args.self.now c.args.self.now (Err _) (ap (bind_stmt (world_at c.args.scene.now) (site_at c.args.scene.now)) (ap stmt_tree c.in-Assign.is ∙ stmt_tree-Assign _ c.in-Assign.value))
    (stop_first (assigns c.in-Assign.name) c.args.self.now _ (λ (n : ℕ). n) stmt_data c.args.self.now c.args.self.now _ c.in_err-number-in-Assign.ensures))

pub stmt-returns-in_err-value-in-Assign : goal.stmt-returns-in_err-value-in-Assign
unfolding bind_expr
stmt-returns-in_err-value-in-Assign t c =
    let p = err_from_is_err_and c.from_residual-in_err-value-in-Assign.result c.from_residual-in_err-value-in-Assign.ensures.1 in
    stopped (bind_stmt (world_at c.args.scene.now) (site_at c.args.scene.now) (stmt_tree c.args.stmt)) c.args.self.now stmt_data c.expr-in-Assign.new.self c.from_residual-in_err-value-in-Assign.result p.0 _ p.1 p.2
    (walks_at stmt_data c.args.self.now c.expr-in-Assign.new.self (Err _) (ap (bind_stmt (world_at c.args.scene.now) (site_at c.args.scene.now)) (ap stmt_tree c.in-Assign.is ∙ stmt_tree-Assign _ c.in-Assign.value))
    (then_walks _ stmt_data c.expr-in-Assign.new.self (Err _) c.in_ok-number-in-Assign.ensures (stop_first (bind_expr (world_at c.args.scene.now) (site_at c.args.scene.now) (expr_tree c.in-Assign.value)) c.args.self.now _ expr_data stmt_data c.expr-in-Assign.new.self c.expr-in-Assign.new.self _ c.in_err-value-in-Assign.ensures)))

pub stmt-returns-in_ok-value-in-Assign : goal.stmt-returns-in_ok-value-in-Assign
unfolding bind_expr
stmt-returns-in_ok-value-in-Assign t c =
    walked_at (ap (bind_stmt (world_at c.args.scene.now) (site_at c.args.scene.now)) (ap stmt_tree c.in-Assign.is ∙ stmt_tree-Assign _ c.in-Assign.value))
    (walked_then _ c.in_ok-number-in-Assign.ensures (walked_then _ c.in_ok-value-in-Assign.ensures (walked_gives (stmt_data-Assign _ _))))

pub stmt-returns-in_err-number-in-For : goal.stmt-returns-in_err-number-in-For
unfolding bind_expr
stmt-returns-in_err-number-in-For t c =
    let p = err_from_is_err_and c.from_residual-in_err-number-in-For.result c.from_residual-in_err-number-in-For.ensures.1 in
    stopped (bind_stmt (world_at c.args.scene.now) (site_at c.args.scene.now) (stmt_tree c.args.stmt)) c.args.self.now stmt_data c.next_local-in-For.new.self c.from_residual-in_err-number-in-For.result p.0 _ p.1 p.2
    (walks_at stmt_data c.args.self.now c.next_local-in-For.new.self (Err _) (ap (bind_stmt (world_at c.args.scene.now) (site_at c.args.scene.now)) (ap stmt_tree c.in-For.is ∙ stmt_tree-For _ _ c.in-For.list c.in-For.body))
    (stop_first next_local c.args.self.now (for_after (world_at c.args.scene.now) (site_at c.args.scene.now) c.in-For.kind c.in-For.name (expr_tree c.in-For.list) (stmt_tree c.in-For.body.value)) (λ (n : ℕ). n) stmt_data c.next_local-in-For.new.self c.next_local-in-For.new.self _ c.in_err-number-in-For.ensures))

pub stmt-returns-in_err-list-in-For : goal.stmt-returns-in_err-list-in-For
unfolding bind_expr
stmt-returns-in_err-list-in-For t c =
    let p = err_from_is_err_and c.from_residual-in_err-list-in-For.result c.from_residual-in_err-list-in-For.ensures.1 in
    stopped (bind_stmt (world_at c.args.scene.now) (site_at c.args.scene.now) (stmt_tree c.args.stmt)) c.args.self.now stmt_data c.expr-in-For.new.self c.from_residual-in_err-list-in-For.result p.0 _ p.1 p.2
    (walks_at stmt_data c.args.self.now c.expr-in-For.new.self (Err _) (ap (bind_stmt (world_at c.args.scene.now) (site_at c.args.scene.now)) (ap stmt_tree c.in-For.is ∙ stmt_tree-For _ _ c.in-For.list c.in-For.body))
    (then_walks (for_after (world_at c.args.scene.now) (site_at c.args.scene.now) c.in-For.kind c.in-For.name (expr_tree c.in-For.list) (stmt_tree c.in-For.body.value)) stmt_data c.expr-in-For.new.self (Err _) c.in_ok-number-in-For.ensures (stop_first (bind_expr (world_at c.args.scene.now) (site_at c.args.scene.now) (expr_tree c.in-For.list)) c.next_local-in-For.new.self _ expr_data stmt_data c.expr-in-For.new.self c.expr-in-For.new.self _ c.in_err-list-in-For.ensures)))

pub stmt-returns-in_err-body-in-For : goal.stmt-returns-in_err-body-in-For
unfolding bind_expr
stmt-returns-in_err-body-in-For t c =
    let p = err_from_is_err_and c.from_residual-in_err-body-in-For.result c.from_residual-in_err-body-in-For.ensures.1 in
    stopped (bind_stmt (world_at c.args.scene.now) (site_at c.args.scene.now) (stmt_tree c.args.stmt)) c.args.self.now stmt_data c.turn.new.self c.from_residual-in_err-body-in-For.result p.0 _ p.1 p.2
    (walks_at stmt_data c.args.self.now c.turn.new.self (Err _) (ap (bind_stmt (world_at c.args.scene.now) (site_at c.args.scene.now)) (ap stmt_tree c.in-For.is ∙ stmt_tree-For _ _ c.in-For.list c.in-For.body))
    (then_walks (for_after (world_at c.args.scene.now) (site_at c.args.scene.now) c.in-For.kind c.in-For.name (expr_tree c.in-For.list) (stmt_tree c.in-For.body.value)) stmt_data c.turn.new.self (Err _) c.in_ok-number-in-For.ensures (then_walks _ stmt_data c.turn.new.self (Err _) c.in_ok-list-in-For.ensures (stop_first (within (loop_local c.in-For.kind c.in-For.name c.in_ok-number-in-For.number) (within (stmt_locals (stmt_tree c.in-For.body.value)) (bind_stmt (world_at c.args.scene.now) (site_at c.args.scene.now) (stmt_tree c.in-For.body.value)))) c.expr-in-For.new.self _ boxed_stmt stmt_data c.turn.new.self c.turn.new.self _ c.in_err-body-in-For.ensures))))

pub stmt-returns-in_ok-body-in-For : goal.stmt-returns-in_ok-body-in-For
unfolding bind_expr
stmt-returns-in_ok-body-in-For t c =
    walked_at (ap (bind_stmt (world_at c.args.scene.now) (site_at c.args.scene.now)) (ap stmt_tree c.in-For.is ∙ stmt_tree-For _ _ c.in-For.list c.in-For.body))
    (walked_then (for_after (world_at c.args.scene.now) (site_at c.args.scene.now) c.in-For.kind c.in-For.name (expr_tree c.in-For.list) (stmt_tree c.in-For.body.value)) c.in_ok-number-in-For.ensures (walked_then _ c.in_ok-list-in-For.ensures (walked_then _ c.in_ok-body-in-For.ensures (walked_gives (stmt_data-For _ _ _ _)))))

pub stmt-returns-in_err-stmts-in-Block : goal.stmt-returns-in_err-stmts-in-Block
unfolding bind_expr
stmt-returns-in_err-stmts-in-Block t c =
    let p = err_from_is_err_and c.from_residual-in_err-stmts-in-Block.result c.from_residual-in_err-stmts-in-Block.ensures.1 in
    stopped (bind_stmt (world_at c.args.scene.now) (site_at c.args.scene.now) (stmt_tree c.args.stmt)) c.args.self.now stmt_data c.block.new.self c.from_residual-in_err-stmts-in-Block.result p.0 _ p.1 p.2
    (walks_at stmt_data c.args.self.now c.block.new.self (Err _) (ap (bind_stmt (world_at c.args.scene.now) (site_at c.args.scene.now)) (ap stmt_tree c.in-Block.is ∙ stmt_tree-Block c.in-Block.stmts))
    (stop_first (within (block_locals (tree.to_stmts (map stmt_tree c.in-Block.stmts.items))) (in_turn (bind_stmts (world_at c.args.scene.now) (site_at c.args.scene.now) (tree.to_stmts (map stmt_tree c.in-Block.stmts.items))))) c.args.self.now _ stmts_data stmt_data c.block.new.self c.block.new.self _ c.in_err-stmts-in-Block.ensures))

pub stmt-returns-in_ok-stmts-in-Block : goal.stmt-returns-in_ok-stmts-in-Block
unfolding bind_expr
stmt-returns-in_ok-stmts-in-Block t c =
    walked_at (ap (bind_stmt (world_at c.args.scene.now) (site_at c.args.scene.now)) (ap stmt_tree c.in-Block.is ∙ stmt_tree-Block c.in-Block.stmts))
    (walked_then _ c.in_ok-stmts-in-Block.ensures (walked_gives (stmt_data-Block _)))

pub arrow-returns-in_err-params : goal.arrow-returns-in_err-params
unfolding bind_expr
arrow-returns-in_err-params t c =
    let p = err_from_is_err_and c.from_residual.result c.from_residual.ensures.1 in
    out_of_memory (bind_expr (world_at c.args.scene.now) (site_at c.args.scene.now) (tree.Arrow (head_tree c.args.head.value) (expr_tree c.args.body.value))) c.args.self.now expr_data c.args.self.now c.from_residual.result p.0 p.1 p.2

pub arrow-returns-in_err-function : goal.arrow-returns-in_err-function
unfolding bind_expr
arrow-returns-in_err-function t c =
    let p = err_from_is_err_and c.from_residual-in_err-function.result c.from_residual-in_err-function.ensures.1 in
    out_of_memory (bind_expr (world_at c.args.scene.now) (site_at c.args.scene.now) (tree.Arrow (head_tree c.args.head.value) (expr_tree c.args.body.value))) c.args.self.now expr_data c.open.new.self c.from_residual-in_err-function.result p.0 p.1 p.2

pub arrow-returns-in_err-number : goal.arrow-returns-in_err-number
unfolding bind_expr
arrow-returns-in_err-number t c =
    let p = err_from_is_err_and c.from_residual-in_err-number.result c.from_residual-in_err-number.ensures.1 in
    out_of_memory (bind_expr (world_at c.args.scene.now) (site_at c.args.scene.now) (tree.Arrow (head_tree c.args.head.value) (expr_tree c.args.body.value))) c.args.self.now expr_data c.close.new.self c.from_residual-in_err-number.result p.0 p.1 p.2

pub arrow-returns-in_err-body : goal.arrow-returns-in_err-body
unfolding bind_expr
arrow-returns-in_err-body t c =
    let p = err_from_is_err_and c.from_residual-in_err-body.result c.from_residual-in_err-body.ensures.1 in
    stopped (bind_expr (world_at c.args.scene.now) (site_at c.args.scene.now) (tree.Arrow (head_tree c.args.head.value) (expr_tree c.args.body.value))) c.args.self.now expr_data c.expr.new.self c.from_residual-in_err-body.result p.0 _ p.1 p.2
    (stop_first (function_in (site_at c.args.scene.now).number (params_of (head_tree c.args.head.value)) [] (expr_body (world_at c.args.scene.now) (site_at c.args.scene.now) (expr_tree c.args.body.value))) c.args.self.now _ (λ (n : ℕ). n) expr_data c.expr.new.self c.expr.new.self _
    (function_stops (site_at c.args.scene.now).number (expr_body (world_at c.args.scene.now) (site_at c.args.scene.now) (expr_tree c.args.body.value)) c.expr.new.self c.expr.new.self _ (opened_as (c.in_ok-params.ensures ∙ ap (λ h. params_of (head_tree h)) c.into_inner.ensures) c.new.ensures.items c.in_ok-function.ensures)
    (stop_first (bind_expr (world_at c.args.scene.now) (site_at c.args.scene.now) (expr_tree c.args.body.value)) c.open.new.self _ expr_data body_data c.expr.new.self c.expr.new.self _
    (walks_at expr_data c.open.new.self c.expr.new.self (Err _) (ap (λ e. bind_expr (world_at c.args.scene.now) (site_at c.args.scene.now) (expr_tree e)) (sym c.into_inner-2.ensures)) c.in_err-body.ensures))))

pub arrow-returns : goal.arrow-returns
unfolding bind_expr
arrow-returns t c =
    walked_then _ (function_walked (opened_as (c.in_ok-params.ensures ∙ ap (λ h. params_of (head_tree h)) c.into_inner.ensures) c.new.ensures.items c.in_ok-function.ensures)
    (walked_then _ (walked_at (ap (λ e. bind_expr (world_at c.args.scene.now) (site_at c.args.scene.now) (expr_tree e)) (sym c.into_inner-2.ensures)) c.in_ok-body.ensures) (walked_gives refl)) c.in_ok-number.ensures)
    (walked_gives (expr_data-Arrow _))

pub arrow-close-requires-clause-function : goal.arrow-close-requires-clause-function
arrow-close-requires-clause-function t c =
    let kept = still_open c.in_ok-function.ensures c.in_ok-body.ensures in omega (arith, kept.0, c.expr.new.self.functions.ok.0)

pub arrow-close-requires-clause-names : goal.arrow-close-requires-clause-names
arrow-close-requires-clause-names t c =
    let kept = still_open c.in_ok-function.ensures c.in_ok-body.ensures in omega (arith, kept.1, c.expr.new.self.names.ok.0)

pub function-close-requires-clause-function : goal.function-close-requires-clause-function
function-close-requires-clause-function t c =
    let kept = still_open c.in_ok-function.ensures c.in_ok-body.ensures in omega (arith, kept.0, c.stmts.new.self.functions.ok.0)

pub function-close-requires-clause-names : goal.function-close-requires-clause-names
function-close-requires-clause-names t c =
    let kept = still_open c.in_ok-function.ensures c.in_ok-body.ensures in omega (arith, kept.1, c.stmts.new.self.names.ok.0)

pub block_arrow-returns-in_err-params : goal.block_arrow-returns-in_err-params
unfolding bind_expr
block_arrow-returns-in_err-params t c =
    let p = err_from_is_err_and c.from_residual.result c.from_residual.ensures.1 in
    out_of_memory (bind_expr (world_at c.args.scene.now) (site_at c.args.scene.now) (tree.BlockArrow (head_tree c.args.head.value) (tree.to_stmts (map stmt_tree c.args.body.items)))) c.args.self.now expr_data c.args.self.now c.from_residual.result p.0 p.1 p.2

pub block_arrow-returns-in_err-number : goal.block_arrow-returns-in_err-number
unfolding bind_expr
block_arrow-returns-in_err-number t c =
    let p = err_from_is_err_and c.from_residual-in_err-number.result c.from_residual-in_err-number.ensures.1 in
    stopped (bind_expr (world_at c.args.scene.now) (site_at c.args.scene.now) (tree.BlockArrow (head_tree c.args.head.value) (tree.to_stmts (map stmt_tree c.args.body.items)))) c.args.self.now expr_data c.function.new.self c.from_residual-in_err-number.result p.0 _ p.1 p.2
    (stop_first (declared_function (world_at c.args.scene.now) (site_at c.args.scene.now) (params_of (head_tree c.args.head.value)) (map stmt_tree c.args.body.items)) c.args.self.now _ (λ (n : ℕ). n) expr_data c.function.new.self c.function.new.self _
    (walks_at (λ (n : ℕ). n) c.args.self.now c.function.new.self (Err _) (ap (λ ps. declared_function (world_at c.args.scene.now) (site_at c.args.scene.now) ps (map stmt_tree c.args.body.items)) (sym (c.in_ok-params.ensures ∙ ap (λ h. params_of (head_tree h)) c.into_inner.ensures))) c.in_err-number.ensures))

pub block_arrow-returns : goal.block_arrow-returns
unfolding bind_expr
block_arrow-returns t c =
    walked_then _ (walked_at (ap (λ ps. declared_function (world_at c.args.scene.now) (site_at c.args.scene.now) ps (map stmt_tree c.args.body.items)) (sym (c.in_ok-params.ensures ∙ ap (λ h. params_of (head_tree h)) c.into_inner.ensures))) c.in_ok-number.ensures) (walked_gives (expr_data-Arrow _))

pub function-returns-in_err-locals : goal.function-returns-in_err-locals
unfolding bind_expr
function-returns-in_err-locals t c =
    let p = err_from_is_err_and c.from_residual.result c.from_residual.ensures.1 in
    out_of_memory (declared_function (world_at c.args.scene.now) (site_at c.args.scene.now) (map param_tree c.args.params.items) (map stmt_tree c.args.body.items)) c.args.self.now (λ (n : ℕ). n) c.args.self.now c.from_residual.result p.0 p.1 p.2

pub function-returns-in_err-function : goal.function-returns-in_err-function
unfolding bind_expr
function-returns-in_err-function t c =
    let p = err_from_is_err_and c.from_residual-in_err-function.result c.from_residual-in_err-function.ensures.1 in
    out_of_memory (declared_function (world_at c.args.scene.now) (site_at c.args.scene.now) (map param_tree c.args.params.items) (map stmt_tree c.args.body.items)) c.args.self.now (λ (n : ℕ). n) c.open.new.self c.from_residual-in_err-function.result p.0 p.1 p.2

pub function-returns-in_err-number : goal.function-returns-in_err-number
unfolding bind_expr
function-returns-in_err-number t c =
    let p = err_from_is_err_and c.from_residual-in_err-number.result c.from_residual-in_err-number.ensures.1 in
    out_of_memory (declared_function (world_at c.args.scene.now) (site_at c.args.scene.now) (map param_tree c.args.params.items) (map stmt_tree c.args.body.items)) c.args.self.now (λ (n : ℕ). n) c.close.new.self c.from_residual-in_err-number.result p.0 p.1 p.2

pub function-returns-in_err-body : goal.function-returns-in_err-body
unfolding bind_expr
function-returns-in_err-body t c =
    let p = err_from_is_err_and c.from_residual-in_err-body.result c.from_residual-in_err-body.ensures.1 in
    stopped (declared_function (world_at c.args.scene.now) (site_at c.args.scene.now) (map param_tree c.args.params.items) (map stmt_tree c.args.body.items)) c.args.self.now (λ (n : ℕ). n) c.stmts.new.self c.from_residual-in_err-body.result p.0 _ p.1 p.2
    (function_stops (site_at c.args.scene.now).number (stmts_body (world_at c.args.scene.now) (site_at c.args.scene.now) (tree.to_stmts (map stmt_tree c.args.body.items))) c.stmts.new.self c.stmts.new.self _ (opened_as refl (c.in_ok-locals.ensures ∙ ap (λ ss. block_locals (tree.to_stmts (map stmt_tree ss))) c.as_slice.ensures.value) c.in_ok-function.ensures)
    (stop_first (in_turn (bind_stmts (world_at c.args.scene.now) (site_at c.args.scene.now) (tree.to_stmts (map stmt_tree c.args.body.items)))) c.open.new.self _ stmts_data body_data c.stmts.new.self c.stmts.new.self _ c.in_err-body.ensures))

pub function-returns : goal.function-returns
unfolding bind_expr
function-returns t c =
    function_walked (opened_as refl (c.in_ok-locals.ensures ∙ ap (λ ss. block_locals (tree.to_stmts (map stmt_tree ss))) c.as_slice.ensures.value) c.in_ok-function.ensures) (walked_then _ c.in_ok-body.ensures (walked_gives refl)) c.in_ok-number.ensures

pub dotted-returns-in_err-found : goal.dotted-returns-in_err-found
unfolding bind_expr
dotted-returns-in_err-found t c =
    let p = err_from_is_err_and c.from_residual.result c.from_residual.ensures.1 in
    stopped (dotted_parts (world_at c.args.scene.now) (site_at c.args.scene.now) c.args.name (tree.to_parts (map part_tree c.args.parts.items))) c.args.self.now expr_data c.named.new.self c.from_residual.result p.0 _ p.1 p.2
    (stop_first (bind_name (world_at c.args.scene.now) (site_at c.args.scene.now) c.args.name (tree.to_parts (map part_tree c.args.parts.items))) c.args.self.now _ (λ (f : Found). f) expr_data c.named.new.self c.named.new.self _
    (walks_at (λ (f : Found). f) c.args.self.now c.named.new.self (Err _) (ap (λ ps. bind_name (world_at c.args.scene.now) (site_at c.args.scene.now) c.args.name (tree.to_parts (map part_tree ps))) (sym c.as_slice.ensures.value)) c.in_err-found.ensures))

pub dotted-returns-in_err-parts : goal.dotted-returns-in_err-parts
unfolding bind_expr
dotted-returns-in_err-parts t c =
    let p = err_from_is_err_and c.from_residual-in_err-parts.result c.from_residual-in_err-parts.ensures.1 in
    stopped (dotted_parts (world_at c.args.scene.now) (site_at c.args.scene.now) c.args.name (tree.to_parts (map part_tree c.args.parts.items))) c.args.self.now expr_data c.parts.new.self c.from_residual-in_err-parts.result p.0 _ p.1 p.2
    (then_walks _ expr_data c.parts.new.self (Err _) (walked_at (ap (λ ps. bind_name (world_at c.args.scene.now) (site_at c.args.scene.now) c.args.name (tree.to_parts (map part_tree ps))) (sym c.as_slice.ensures.value)) c.in_ok-found.ensures)
    (stop_first (in_turn (drop c.in_ok-found.found.parts (bind_parts (world_at c.args.scene.now) (site_at c.args.scene.now) (tree.to_parts (map part_tree c.args.parts.items))))) c.named.new.self _ parts_data expr_data c.parts.new.self c.parts.new.self _ c.in_err-parts.ensures))

pub dotted-returns-in_err-with_parts : goal.dotted-returns-in_err-with_parts
unfolding bind_expr
dotted-returns-in_err-with_parts t c =
    let p = err_from_is_err_and c.from_residual-in_err-with_parts.result c.from_residual-in_err-with_parts.ensures.1 in
    out_of_memory (dotted_parts (world_at c.args.scene.now) (site_at c.args.scene.now) c.args.name (tree.to_parts (map part_tree c.args.parts.items))) c.args.self.now expr_data c.parts.new.self c.from_residual-in_err-with_parts.result p.0 p.1 p.2

pub dotted-returns : goal.dotted-returns
unfolding bind_expr
dotted-returns t c =
    walked_then _ (walked_at (ap (λ ps. bind_name (world_at c.args.scene.now) (site_at c.args.scene.now) c.args.name (tree.to_parts (map part_tree ps))) (sym c.as_slice.ensures.value)) c.in_ok-found.ensures) (walked_then _ c.in_ok-parts.ensures
    (walked_gives (c.in_ok-with_parts.ensures ∙ ap (λ e. with_parts e (map part_data c.in_ok-parts.parts.items)) (expr_data-Name _))))

pub postfix-returns-in_err-with_parts : goal.postfix-returns-in_err-with_parts
unfolding bind_expr
postfix-returns-in_err-with_parts t c =
    let p = err_from_is_err_and c.from_residual-in_err-with_parts.result c.from_residual-in_err-with_parts.ensures.1 in
    out_of_memory (parts_after (world_at c.args.scene.now) (site_at c.args.scene.now) (expr_data c.args.value) (tree.to_parts (map part_tree c.args.parts.items))) c.args.self.now expr_data c.parts.new.self c.from_residual-in_err-with_parts.result p.0 p.1 p.2

pub turn-returns-in_err-locals : goal.turn-returns-in_err-locals
unfolding bind_expr
turn-returns-in_err-locals t c =
    let p = err_from_is_err_and c.from_residual.result c.from_residual.ensures.1 in
    out_of_memory (within (loop_local c.args.kind c.args.name c.args.number) (within (stmt_locals (stmt_tree c.args.body.value)) (bind_stmt (world_at c.args.scene.now) (site_at c.args.scene.now) (stmt_tree c.args.body.value)))) c.args.self.now boxed_stmt c.args.self.now c.from_residual.result p.0 p.1 p.2

pub turn-returns-in_err-enter : goal.turn-returns-in_err-enter
unfolding bind_expr
turn-returns-in_err-enter t c =
    let p = err_from_is_err_and c.from_residual-in_err-enter.result c.from_residual-in_err-enter.ensures.1 in
    out_of_memory (within (loop_local c.args.kind c.args.name c.args.number) (within (stmt_locals (stmt_tree c.args.body.value)) (bind_stmt (world_at c.args.scene.now) (site_at c.args.scene.now) (stmt_tree c.args.body.value)))) c.args.self.now boxed_stmt c.enter.new.self c.from_residual-in_err-enter.result p.0 p.1 p.2

pub turn-returns-in_err-bound : goal.turn-returns-in_err-bound
unfolding bind_expr
turn-returns-in_err-bound t c =
    let p = err_from_is_err_and c.from_residual-in_err-bound.result c.from_residual-in_err-bound.ensures.1 in
    stopped (within (loop_local c.args.kind c.args.name c.args.number) (within (stmt_locals (stmt_tree c.args.body.value)) (bind_stmt (world_at c.args.scene.now) (site_at c.args.scene.now) (stmt_tree c.args.body.value)))) c.args.self.now boxed_stmt c.nested.new.self c.from_residual-in_err-bound.result p.0 _ p.1 p.2
    (within_stops boxed_stmt (within (stmt_locals (stmt_tree c.args.body.value)) (bind_stmt (world_at c.args.scene.now) (site_at c.args.scene.now) (stmt_tree c.args.body.value))) c.nested.new.self c.nested.new.self _ (entered_with c.args.self.now c.enter.new.self _ _ c.in_ok-locals.ensures c.in_ok-enter.ensures) c.in_err-bound.ensures)

pub turn-returns : goal.turn-returns
unfolding bind_expr
turn-returns t c =
    within_walked (entered_with c.args.self.now c.enter.new.self _ _ c.in_ok-locals.ensures c.in_ok-enter.ensures) c.in_ok-bound.ensures c.leave.ensures

pub block-returns-in_err-locals : goal.block-returns-in_err-locals
unfolding bind_expr
block-returns-in_err-locals t c =
    let p = err_from_is_err_and c.from_residual.result c.from_residual.ensures.1 in
    out_of_memory (within (block_locals (tree.to_stmts (map stmt_tree c.args.stmts.items))) (in_turn (bind_stmts (world_at c.args.scene.now) (site_at c.args.scene.now) (tree.to_stmts (map stmt_tree c.args.stmts.items))))) c.args.self.now stmts_data c.args.self.now c.from_residual.result p.0 p.1 p.2

pub block-returns-in_err-enter : goal.block-returns-in_err-enter
unfolding bind_expr
block-returns-in_err-enter t c =
    let p = err_from_is_err_and c.from_residual-in_err-enter.result c.from_residual-in_err-enter.ensures.1 in
    out_of_memory (within (block_locals (tree.to_stmts (map stmt_tree c.args.stmts.items))) (in_turn (bind_stmts (world_at c.args.scene.now) (site_at c.args.scene.now) (tree.to_stmts (map stmt_tree c.args.stmts.items))))) c.args.self.now stmts_data c.enter.new.self c.from_residual-in_err-enter.result p.0 p.1 p.2

pub block-returns-in_err-bound : goal.block-returns-in_err-bound
unfolding bind_expr
block-returns-in_err-bound t c =
    let p = err_from_is_err_and c.from_residual-in_err-bound.result c.from_residual-in_err-bound.ensures.1 in
    stopped (within (block_locals (tree.to_stmts (map stmt_tree c.args.stmts.items))) (in_turn (bind_stmts (world_at c.args.scene.now) (site_at c.args.scene.now) (tree.to_stmts (map stmt_tree c.args.stmts.items))))) c.args.self.now stmts_data c.stmts.new.self c.from_residual-in_err-bound.result p.0 _ p.1 p.2
    (within_stops stmts_data (in_turn (bind_stmts (world_at c.args.scene.now) (site_at c.args.scene.now) (tree.to_stmts (map stmt_tree c.args.stmts.items)))) c.stmts.new.self c.stmts.new.self _ (entered_with c.args.self.now c.enter.new.self _ _ (c.in_ok-locals.ensures ∙ ap (λ ss. block_locals (tree.to_stmts (map stmt_tree ss))) c.as_slice.ensures.value) c.in_ok-enter.ensures) c.in_err-bound.ensures)

pub block-returns : goal.block-returns
unfolding bind_expr
block-returns t c =
    within_walked (entered_with c.args.self.now c.enter.new.self _ _ (c.in_ok-locals.ensures ∙ ap (λ ss. block_locals (tree.to_stmts (map stmt_tree ss))) c.as_slice.ensures.value) c.in_ok-enter.ensures) c.in_ok-bound.ensures c.leave.ensures

pub nested-returns-in_err-locals : goal.nested-returns-in_err-locals
unfolding bind_expr
nested-returns-in_err-locals t c =
    let p = err_from_is_err_and c.from_residual.result c.from_residual.ensures.1 in
    out_of_memory (within (stmt_locals (stmt_tree c.args.stmt.value)) (bind_stmt (world_at c.args.scene.now) (site_at c.args.scene.now) (stmt_tree c.args.stmt.value))) c.args.self.now boxed_stmt c.args.self.now c.from_residual.result p.0 p.1 p.2

pub nested-returns-in_err-enter : goal.nested-returns-in_err-enter
unfolding bind_expr
nested-returns-in_err-enter t c =
    let p = err_from_is_err_and c.from_residual-in_err-enter.result c.from_residual-in_err-enter.ensures.1 in
    out_of_memory (within (stmt_locals (stmt_tree c.args.stmt.value)) (bind_stmt (world_at c.args.scene.now) (site_at c.args.scene.now) (stmt_tree c.args.stmt.value))) c.args.self.now boxed_stmt c.enter.new.self c.from_residual-in_err-enter.result p.0 p.1 p.2

pub nested-returns-in_err-new : goal.nested-returns-in_err-new
unfolding bind_expr
nested-returns-in_err-new t c =
    let p = err_from_is_err_and c.from_residual-in_err-new.result c.from_residual-in_err-new.ensures.1 in
    out_of_memory (within (stmt_locals (stmt_tree c.args.stmt.value)) (bind_stmt (world_at c.args.scene.now) (site_at c.args.scene.now) (stmt_tree c.args.stmt.value))) c.args.self.now boxed_stmt c.leave.new.self c.from_residual-in_err-new.result p.0 p.1 p.2

pub nested-returns-in_err-bound : goal.nested-returns-in_err-bound
unfolding bind_expr
nested-returns-in_err-bound t c =
    let p = err_from_is_err_and c.from_residual-in_err-bound.result c.from_residual-in_err-bound.ensures.1 in
    stopped (within (stmt_locals (stmt_tree c.args.stmt.value)) (bind_stmt (world_at c.args.scene.now) (site_at c.args.scene.now) (stmt_tree c.args.stmt.value))) c.args.self.now boxed_stmt c.stmt.new.self c.from_residual-in_err-bound.result p.0 _ p.1 p.2
    (within_stops boxed_stmt (bind_stmt (world_at c.args.scene.now) (site_at c.args.scene.now) (stmt_tree c.args.stmt.value)) c.stmt.new.self c.stmt.new.self _ (entered_with c.args.self.now c.enter.new.self _ _ (c.in_ok-locals.ensures ∙ ap (λ s. stmt_locals (stmt_tree s)) c.deref.ensures) c.in_ok-enter.ensures)
    (stop_as (bind_stmt (world_at c.args.scene.now) (site_at c.args.scene.now) (stmt_tree c.args.stmt.value)) c.enter.new.self stmt_data boxed_stmt c.stmt.new.self c.stmt.new.self _ (walks_at stmt_data c.enter.new.self c.stmt.new.self (Err _) (ap (λ s. bind_stmt (world_at c.args.scene.now) (site_at c.args.scene.now) (stmt_tree s)) (sym c.into_inner.ensures)) c.in_err-bound.ensures)))

pub nested-returns : goal.nested-returns
unfolding bind_expr
nested-returns t c =
    walked_as boxed_stmt _ (ap stmt_data c.in_ok-new.ensures.ok) (within_walked (entered_with c.args.self.now c.enter.new.self _ _ (c.in_ok-locals.ensures ∙ ap (λ s. stmt_locals (stmt_tree s)) c.deref.ensures) c.in_ok-enter.ensures) (walked_at (ap (λ s. bind_stmt (world_at c.args.scene.now) (site_at c.args.scene.now) (stmt_tree s)) (sym c.into_inner.ensures)) c.in_ok-bound.ensures) c.leave.ensures)

pub expr-returns-in_err-name-in-Postfix : goal.expr-returns-in_err-name-in-Postfix
unfolding bind_expr
expr-returns-in_err-name-in-Postfix t c =
    let p = err_from_is_err_and c.from_residual-in_err-name-in-Postfix.result c.from_residual-in_err-name-in-Postfix.ensures.1 in
    out_of_memory (bind_expr (world_at c.args.scene.now) (site_at c.args.scene.now) (expr_tree c.args.expr)) c.args.self.now expr_data c.args.self.now c.from_residual-in_err-name-in-Postfix.result p.0 p.1 p.2

pub expr-returns-in-Some : goal.expr-returns-in-Some
unfolding bind_expr
expr-returns-in-Some t c =
    walks_at expr_data c.args.self.now c.dotted.new.self c.dotted.result ((ap (bind_expr (world_at c.args.scene.now) (site_at c.args.scene.now)) (ap expr_tree c.in-Postfix.is ∙ expr_tree-Postfix c.in-Postfix.value c.in-Postfix.parts))
    ∙ (ap (λ n. postfix (world_at c.args.scene.now) (site_at c.args.scene.now) n (bind_expr (world_at c.args.scene.now) (site_at c.args.scene.now) (expr_tree c.in-Postfix.value.value)) (tree.to_parts (map part_tree c.in-Postfix.parts.items)) (bind_parts (world_at c.args.scene.now) (site_at c.args.scene.now) (tree.to_parts (map part_tree c.in-Postfix.parts.items)))) (ap (λ e. name_of (expr_tree e)) (sym c.deref.ensures) ∙ sym c.in_ok-name-in-Postfix.ensures ∙ c.in-Some.is))) c.dotted.ensures

pub expr-returns-in_err-value-in-None : goal.expr-returns-in_err-value-in-None
unfolding bind_expr
expr-returns-in_err-value-in-None t c =
    let p = err_from_is_err_and c.from_residual-in_err-value-in-None.result c.from_residual-in_err-value-in-None.ensures.1 in
    stopped (bind_expr (world_at c.args.scene.now) (site_at c.args.scene.now) (expr_tree c.args.expr)) c.args.self.now expr_data c.boxed-in-None.new.self c.from_residual-in_err-value-in-None.result p.0 _ p.1 p.2
    (walks_at expr_data c.args.self.now c.boxed-in-None.new.self (Err _) ((ap (bind_expr (world_at c.args.scene.now) (site_at c.args.scene.now)) (ap expr_tree c.in-Postfix.is ∙ expr_tree-Postfix c.in-Postfix.value c.in-Postfix.parts))
    ∙ (ap (λ n. postfix (world_at c.args.scene.now) (site_at c.args.scene.now) n (bind_expr (world_at c.args.scene.now) (site_at c.args.scene.now) (expr_tree c.in-Postfix.value.value)) (tree.to_parts (map part_tree c.in-Postfix.parts.items)) (bind_parts (world_at c.args.scene.now) (site_at c.args.scene.now) (tree.to_parts (map part_tree c.in-Postfix.parts.items)))) (ap (λ e. name_of (expr_tree e)) (sym c.deref.ensures) ∙ sym c.in_ok-name-in-Postfix.ensures ∙ c.in-None.is)))
    (stop_first (bind_expr (world_at c.args.scene.now) (site_at c.args.scene.now) (expr_tree c.in-Postfix.value.value)) c.args.self.now (λ b. parts_after (world_at c.args.scene.now) (site_at c.args.scene.now) b (tree.to_parts (map part_tree c.in-Postfix.parts.items))) boxed_data expr_data c.boxed-in-None.new.self c.boxed-in-None.new.self _ c.in_err-value-in-None.ensures))

pub expr-returns-in_ok-value-in-None : goal.expr-returns-in_ok-value-in-None
unfolding bind_expr
expr-returns-in_ok-value-in-None t c =
    walks_at expr_data c.args.self.now c.postfix.new.self c.postfix.result ((ap (bind_expr (world_at c.args.scene.now) (site_at c.args.scene.now)) (ap expr_tree c.in-Postfix.is ∙ expr_tree-Postfix c.in-Postfix.value c.in-Postfix.parts))
    ∙ (ap (λ n. postfix (world_at c.args.scene.now) (site_at c.args.scene.now) n (bind_expr (world_at c.args.scene.now) (site_at c.args.scene.now) (expr_tree c.in-Postfix.value.value)) (tree.to_parts (map part_tree c.in-Postfix.parts.items)) (bind_parts (world_at c.args.scene.now) (site_at c.args.scene.now) (tree.to_parts (map part_tree c.in-Postfix.parts.items)))) (ap (λ e. name_of (expr_tree e)) (sym c.deref.ensures) ∙ sym c.in_ok-name-in-Postfix.ensures ∙ c.in-None.is)))
    (then_walks (λ b. parts_after (world_at c.args.scene.now) (site_at c.args.scene.now) b (tree.to_parts (map part_tree c.in-Postfix.parts.items))) expr_data c.postfix.new.self c.postfix.result c.in_ok-value-in-None.ensures
    (walks_at expr_data c.boxed-in-None.new.self c.postfix.new.self c.postfix.result (ap (λ b. parts_after (world_at c.args.scene.now) (site_at c.args.scene.now) (expr_data b) (tree.to_parts (map part_tree c.in-Postfix.parts.items))) (sym c.into_inner.ensures)) c.postfix.ensures))
