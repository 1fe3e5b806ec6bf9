use Rattle.std.proofs.Common.{◌∙◌, ap, sym, List, ℕ, Vec, Global, Option}
use Rattle.std.specs.Option.{option_copied}
use Rattle.std.specs.BTreeMap.{is_at}
use Rattle.std.specs.Map.{lookup}
use Rattle.std.specs.Cmp.Lexicographic.{slice_cmp}
use Rattle.std.specs.Ordering.{nat_cmp}
use Rattle.bx_tree.specs.TextTables.{at_text}
use Rattle.tool_text.specs.Tables.{with_place}
use Rattle.tool_text.proofs.Labelled.{with_key}
use Rattle.tool_text.proofs.labels.add_label.Goals as goal

pub returns-in-None-clause-added : goal.returns-in-None-clause-added
returns-in-None-clause-added c = λ q.
    let f = λ (k : Vec ℕ Global). k.items in
    ap (λ es. lookup (is_at (λ k. slice_cmp nat_cmp q k.items)) es) c.in_ok-insert.ensures.entries
    ∙ with_key f c.args.by_label.now.entries c.in_ok-from_slice.field-0 c.in-Some-default.label.now c.args.place q c.in_ok-from_slice.ensures.items
    ∙ ap (λ (o : Option (List ℕ)). with_place o c.args.place (at_text c.args.by_label.now) q) (ap option_copied (sym c.in-Some-default.is-0) ∙ c.label_parts.ensures.label)
