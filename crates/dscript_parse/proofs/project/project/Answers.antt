use Rattle.std.proofs.Common.{◌≡◌, ◌-◌, length, ap, sym, ◌∙◌, subst, arith}
use Rattle.dscript_ast.specs.declared.file.Form.TheVariants as forms
use Rattle.dscript_grammar.specs.FileReading.{max_item_height, read_item}
use Rattle.dscript_grammar.specs.Place.{IsRefusedAt}
use Rattle.dscript_parse_tokens.specs.Gives.{kinds}
use Rattle.dscript_parse.proofs.ItemLoop.{items_next, items_done, items_refused, length_kinds, nothing_left, something_left, syntax_fails}
use Rattle.dscript_parse.proofs.project.project.Goals as goal

pub items-preserved : goal.items-preserved
items-preserved c =
    let depth : c.in_file-depth.result.levels ≡ max_item_height = omega (arith, c.in_file-depth.ensures) in
    let before = length_kinds c.items.rest.now in
    let after = length_kinds c.in-Ok.next.rest.now in
    record {
      so_far = items_next c.in-Ok.next.value _ c.in_ok-push-in-Ok.ensures.items c.items.invariant.so_far
          (ap (λ n. read_item n (kinds c.items.rest.now)) (sym depth) ∙ c.in-Ok.ensures.is) (omega (arith, depth, c.in-Ok.ensures.within));
      count = omega (arith, before, after, c.in-Ok.ensures.shorter, c.items.invariant.count);
    }

pub returns-in-Err-Syntax : goal.returns-in-Err-Syntax
returns-in-Err-Syntax c =
    let depth : c.in_file-depth.result.levels ≡ max_item_height = omega (arith, c.in_file-depth.ensures) in
    let all = length_kinds c.args.tokens.now in
    let left = length_kinds c.items.rest.now in
    let place : length (kinds c.args.tokens.now) - length (kinds c.items.rest.now) ≡ length c.args.tokens.now - length c.items.rest.now = omega (arith, all, left) in
    subst (λ n. IsRefusedAt forms.Project (kinds c.args.tokens.now) n) place
    (items_refused _ _ _ c.items.invariant.so_far (something_left c.items.rest.now (sym c.is_empty.ensures ∙ c.items-test.true))
    (ap (λ n. read_item n (kinds c.items.rest.now)) (sym depth)
    ∙ syntax_fails c.in-Err-Syntax.field-0 _ c.in-Err-Syntax.field-0-is c.in-Err-Syntax.ensures))

pub returns : goal.returns
returns c =
    items_done _ _ _ c.items.invariant.so_far (nothing_left c.items.rest.now (sym c.is_empty.ensures ∙ c.items-test.false))
