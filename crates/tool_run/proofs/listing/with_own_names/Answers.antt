use Rattle.std.proofs.Common.{◌≡◌, [], ap, arith, length, rules, vec_len, ◌∙◌}
use Rattle.bx_tree.specs.Lent.{texts_now}
use Rattle.observed.specs.Asks.{asked_names}
use Rattle.tool_run.specs.Listings.{add_names, listed, names_in, names_text}
use Rattle.tool_run.proofs.NameSets.{both_sets, listed_more}
use Rattle.tool_run.proofs.listing.with_own_names.Goals as goal

pub returns : goal.returns
returns c =
    let own = c.in_ok-own.own.items in
    let names = c.in_ok-names.names.items in
    let long : vec_len c.in_ok-own.own ≡ length own = search rules in
    c.of.ensures ∙ c.in_ok-lines.ensures
    ∙ ap names_text
    (ap texts_now c.as_slice.ensures.value ∙ c.in_ok-all.ensures ∙ both_sets names own c.append.new.self.items c.in_ok-append.ensures.items
    ∙ ap (λ ns. add_names (add_names [] ns) (texts_now own)) (c.in_ok-names.ensures ∙ ap names_in c.bytes.ensures))
    ∙ listed_more c.args.seen.now own (λ e. grind (arith, c.is_empty.ensures, c.if-is_empty.false, long, e))
    ∙ ap (listed c.args.seen.now) (c.in_ok-own.ensures ∙ ap (asked_names c.args.ask.now.kind) c.in_ok-own_names.ensures)
