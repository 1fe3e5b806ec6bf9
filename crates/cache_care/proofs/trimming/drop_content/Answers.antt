use Rattle.std.proofs.Common.{◌≡◌, ◌++◌, [], ◌∷◌, Bool, true, false, ℕ, List, codes, filter, map, not, refl, sym, subst}
use Rattle.std.specs.Prelude.{OnOk, string_bytes}
use Rattle.std.specs.List.{list_any}
use Rattle.std.specs.Str.{bytes_eq}
use Rattle.bx_io.specs.Holdings.{Change}
use Rattle.prints.specs.Lines.{begins}
use Rattle.memo_format.specs.StoreNames.{at_blob}
use Rattle.cache_care.specs.Digests.{has_digest}
use Rattle.cache_care.specs.Planning.{planned_change}
use Rattle.cache_care.proofs.Cutting.{trims_if_result}
use Rattle.cache_care.proofs.Listed.{content_kind, dropped_none, dropped_one, entry_kind, list_kind, named_content, of_content, of_entry, of_list, trims_as, trims_not, unchanged_by}
use Rattle.cache_care.proofs.trimming.drop_content.Goals as goal

pub returns-in-Content-clause-changes : goal.returns-in-Content-clause-changes
returns-in-Content-clause-changes c digests is all =
    let name = string_bytes c.args.name.now in
    let set = c.args.named_digests.now in
    let digest = c.in-Content.digest in
    let at : name ≡ at_blob digest = of_content name c.as_str.result.now digest c.read_name.result c.as_str.ensures.value c.read_name.ensures c.in-Content.is in
    subst
    (λ (cs : List Change). OnOk c.drop_unnamed.result (map planned_change c.drop_unnamed.new.plan.items ≡ map planned_change c.args.plan.now.items ++ cs))
    (dropped_one (λ n. list_any (λ d. bytes_eq (at_blob d) n) digests) (begins (codes "b/")) name (has_digest set digest) (content_kind name digest at).2
    (named_content digests set name digest is all c.drop_unnamed.ensures.is_digest at))
    c.drop_unnamed.ensures.changes

pub returns-in-Content-clause-trims : goal.returns-in-Content-clause-trims
returns-in-Content-clause-trims c =
    let name = string_bytes c.args.name.now in
    let digest = c.in-Content.digest in
    let at : name ≡ at_blob digest = of_content name c.as_str.result.now digest c.read_name.result c.as_str.ensures.value c.read_name.ensures c.in-Content.is in
    trims_as c.drop_unnamed.result (begins (codes "b/")) name (map planned_change c.args.plan.now.items) (map planned_change c.drop_unnamed.new.plan.items)
    (content_kind name digest at).2
    (trims_if_result c.drop_unnamed.result name (has_digest c.args.named_digests.now digest) (map planned_change c.args.plan.now.items)
    (map planned_change c.drop_unnamed.new.plan.items) c.drop_unnamed.ensures.changes)

pub returns-in-Entry-clause-changes : goal.returns-in-Entry-clause-changes
returns-in-Entry-clause-changes c digests is all =
    let name = string_bytes c.args.name.now in
    let at = of_entry name c.as_str.result.now c.in-Entry.field-0 c.read_name.result c.as_str.ensures.value c.read_name.ensures c.in-Entry.is in
    unchanged_by (map planned_change c.args.plan.now.items) _
    (dropped_none (λ n. not (list_any (λ d. bytes_eq (at_blob d) n) digests)) (begins (codes "b/")) name (entry_kind name c.in-Entry.field-0 at).2)

pub returns-in-Entry-clause-trims : goal.returns-in-Entry-clause-trims
returns-in-Entry-clause-trims c =
    let name = string_bytes c.args.name.now in
    let at = of_entry name c.as_str.result.now c.in-Entry.field-0 c.read_name.result c.as_str.ensures.value c.read_name.ensures c.in-Entry.is in
    trims_not (begins (codes "b/")) name (map planned_change c.args.plan.now.items) (entry_kind name c.in-Entry.field-0 at).2

pub returns-in-Selectors-clause-changes : goal.returns-in-Selectors-clause-changes
returns-in-Selectors-clause-changes c digests is all =
    let name = string_bytes c.args.name.now in
    let at = of_list name c.as_str.result.now c.in-Selectors.field-0 c.read_name.result c.as_str.ensures.value c.read_name.ensures c.in-Selectors.is in
    unchanged_by (map planned_change c.args.plan.now.items) _
    (dropped_none (λ n. not (list_any (λ d. bytes_eq (at_blob d) n) digests)) (begins (codes "b/")) name (list_kind name c.in-Selectors.field-0 at).2)

pub returns-in-Selectors-clause-trims : goal.returns-in-Selectors-clause-trims
returns-in-Selectors-clause-trims c =
    let name = string_bytes c.args.name.now in
    let at = of_list name c.as_str.result.now c.in-Selectors.field-0 c.read_name.result c.as_str.ensures.value c.read_name.ensures c.in-Selectors.is in
    trims_not (begins (codes "b/")) name (map planned_change c.args.plan.now.items) (list_kind name c.in-Selectors.field-0 at).2
