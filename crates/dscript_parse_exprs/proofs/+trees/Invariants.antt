use Rattle.std.proofs.Common.{◌≡◌, ◌+◌, ◌-◌, ◌*◌, ◌≤◌, suc, nat_eq, length}
use Rattle.dscript_ast.specs.Views.{expr_tree, operand_tree}
use Rattle.dscript_grammar.specs.ExprReading.{chain_level, operator_precedence, read_chain, read_operand}
use Rattle.dscript_parse_tokens.specs.Gives.{kinds, IsRead}
use Rattle.dscript_parse_tokens.specs.LoopInvariants.{ManyInvariant}
use Rattle.dscript_parse_exprs.specs.HolesInvariant.{HolesInvariant}
use Rattle.dscript_parse_exprs.specs.Levels.{at_depth}
use Rattle.dscript_parse_exprs.proofs.+trees.Given as goal

abbrev pub decreases-exprs::expr : goal.decreases-exprs::expr
decreases-exprs::expr l = 64 * l.depth.levels + 0

abbrev pub decreases-stmts::stmt : goal.decreases-stmts::stmt
decreases-stmts::stmt l = 64 * l.depth.levels + 0

abbrev pub decreases-exprs::cond : goal.decreases-exprs::cond
decreases-exprs::cond l = 64 * l.depth.levels + 60

abbrev pub decreases-exprs::branches : goal.decreases-exprs::branches
decreases-exprs::branches l = 64 * l.depth.levels + 59

abbrev pub decreases-exprs::unary : goal.decreases-exprs::unary
decreases-exprs::unary l = 64 * l.depth.levels + 29

abbrev pub decreases-exprs::postfix : goal.decreases-exprs::postfix
decreases-exprs::postfix l = 64 * l.depth.levels + 28

abbrev pub decreases-exprs::parts : goal.decreases-exprs::parts
decreases-exprs::parts l = 64 * l.depth.levels + 21

abbrev pub decreases-exprs::part : goal.decreases-exprs::part
decreases-exprs::part l = 64 * l.depth.levels + 20

abbrev pub decreases-exprs::call : goal.decreases-exprs::call
decreases-exprs::call l = 64 * l.depth.levels + 19

abbrev pub decreases-exprs::arguments : goal.decreases-exprs::arguments
decreases-exprs::arguments l = 64 * l.depth.levels + 18

abbrev pub decreases-exprs::primary : goal.decreases-exprs::primary
decreases-exprs::primary l = 64 * l.depth.levels + 17

abbrev pub decreases-exprs::enclosed : goal.decreases-exprs::enclosed
decreases-exprs::enclosed l = 64 * l.depth.levels + 16

abbrev pub decreases-exprs::plain : goal.decreases-exprs::plain
decreases-exprs::plain l = 64 * l.depth.levels + 16

abbrev pub decreases-exprs::named : goal.decreases-exprs::named
decreases-exprs::named l = 64 * l.depth.levels + 15

abbrev pub decreases-exprs::template : goal.decreases-exprs::template
decreases-exprs::template l = 64 * l.depth.levels + 14

abbrev pub decreases-exprs::holes : goal.decreases-exprs::holes
decreases-exprs::holes l = 64 * l.depth.levels + 13

abbrev pub decreases-exprs::elements : goal.decreases-exprs::elements
decreases-exprs::elements l = 64 * l.depth.levels + 13

abbrev pub decreases-exprs::element : goal.decreases-exprs::element
decreases-exprs::element l = 64 * l.depth.levels + 12

abbrev pub decreases-exprs::props : goal.decreases-exprs::props
decreases-exprs::props l = 64 * l.depth.levels + 13

abbrev pub decreases-exprs::prop : goal.decreases-exprs::prop
decreases-exprs::prop l = 64 * l.depth.levels + 12

abbrev pub decreases-stmts::block : goal.decreases-stmts::block
decreases-stmts::block l = 64 * l.depth.levels + 20

abbrev pub decreases-stmts::by_keyword : goal.decreases-stmts::by_keyword
decreases-stmts::by_keyword l = 64 * l.depth.levels + 32

abbrev pub decreases-stmts::value : goal.decreases-stmts::value
decreases-stmts::value l = 64 * l.depth.levels + 29

abbrev pub decreases-stmts::const_stmt : goal.decreases-stmts::const_stmt
decreases-stmts::const_stmt l = 64 * l.depth.levels + 30

abbrev pub decreases-stmts::let_stmt : goal.decreases-stmts::let_stmt
decreases-stmts::let_stmt l = 64 * l.depth.levels + 30

abbrev pub decreases-stmts::if_stmt : goal.decreases-stmts::if_stmt
decreases-stmts::if_stmt l = 64 * l.depth.levels + 30

abbrev pub decreases-stmts::otherwise : goal.decreases-stmts::otherwise
decreases-stmts::otherwise l = 64 * l.depth.levels + 29

abbrev pub decreases-stmts::for_stmt : goal.decreases-stmts::for_stmt
decreases-stmts::for_stmt l = 64 * l.depth.levels + 30

abbrev pub decreases-stmts::return_stmt : goal.decreases-stmts::return_stmt
decreases-stmts::return_stmt l = 64 * l.depth.levels + 30

abbrev pub decreases-stmts::simple : goal.decreases-stmts::simple
decreases-stmts::simple l = 64 * l.depth.levels + 30

abbrev pub decreases-exprs::chain : goal.decreases-exprs::chain
decreases-exprs::chain l = 64 * l.depth.levels + 4 * l.level + 30

abbrev pub decreases-exprs::operand : goal.decreases-exprs::operand
decreases-exprs::operand l = 64 * l.depth.levels + 4 * l.tighter + 31

abbrev pub decreases-exprs::operands : goal.decreases-exprs::operands
decreases-exprs::operands l = 64 * l.depth.levels + 4 * l.tighter + 32

abbrev pub decreases-exprs::level_chain : goal.decreases-exprs::level_chain
decreases-exprs::level_chain l = 64 * l.depth.levels + 4 * l.tighter + 33

abbrev pub invariant-exprs::chain-levels : goal.invariant-exprs::chain-levels
invariant-exprs::chain-levels l =
    record {
      so_far : IsRead expr_tree (at_depth read_chain l.depth.levels l.tighter (kinds l.tokens)) (suc l.depth.levels) (length (kinds l.tokens)) l.first;
      next : l.next ≡ operator_precedence (kinds l.first.rest.now);
      bounded : l.tighter ≤ l.level;
    }

abbrev pub decreases-exprs::chain-levels : goal.decreases-exprs::chain-levels
decreases-exprs::chain-levels l = l.level - l.tighter

abbrev pub invariant-exprs::operands-operands : goal.invariant-exprs::operands-operands
invariant-exprs::operands-operands l =
    record {
      so_far : ManyInvariant operand_tree (at_depth read_operand l.depth.levels (chain_level l.tighter) (at_depth read_chain l.depth.levels l.tighter))
          (λ us. nat_eq (operator_precedence us) (chain_level l.tighter)) l.operands.items l.height (kinds l.rest) (kinds l.tokens);
      within : l.height ≤ suc l.depth.levels;
    }

abbrev pub decreases-exprs::operands-operands : goal.decreases-exprs::operands-operands
decreases-exprs::operands-operands l = length (kinds l.rest)

abbrev pub invariant-exprs::holes-holes : goal.invariant-exprs::holes-holes
invariant-exprs::holes-holes l =
    record {
      so_far : HolesInvariant l.depth.levels l.holes.items l.height (kinds l.rest) (kinds l.tokens);
      within : l.height ≤ l.depth.levels;
    }

abbrev pub decreases-exprs::holes-holes : goal.decreases-exprs::holes-holes
decreases-exprs::holes-holes l = length (kinds l.rest)
