use Rattle.std.proofs.Common.{◌≡◌, ◌++◌, [], ◌∷◌, ℕ, List, ap, codes, filter, flat_map, map, not, subst}
use Rattle.std.specs.Prelude.{OnOk, string_bytes}
use Rattle.bx_io.specs.Holdings.{Change}
use Rattle.prints.specs.Lines.{begins}
use Rattle.cache_care.specs.Digests.{AddsAll, has_digest}
use Rattle.cache_care.specs.Naming.{named_at}
use Rattle.cache_care.specs.Planning.{planned_change}
use Rattle.cache_care.specs.Trimming.{is_selected}
use Rattle.cache_care.proofs.Listed.{adds_nothing, chosen, content_kind, dropped_none, dropped_one, entry_kind, list_kind, named_no, named_one, of_content, of_entry, of_list, trims_as, trims_not, unchanged_by}
use Rattle.cache_care.proofs.trimming.trim_entry_name.Goals as goal

pub trim_entry-requires-clause-name : goal.trim_entry-requires-clause-name
trim_entry-requires-clause-name g c =
    λ κs a.
    of_entry (string_bytes c.args.name.now) c.as_str.result.now c.in-Entry.strong c.read_name.result c.as_str.ensures.value c.read_name.ensures c.in-Entry.is

pub returns-in-Entry-clause-changes : goal.returns-in-Entry-clause-changes
returns-in-Entry-clause-changes g c S keep told set =
    let name = string_bytes c.args.name.now in
    let at = of_entry name c.as_str.result.now c.in-Entry.strong c.read_name.result c.as_str.ensures.value c.read_name.ensures c.in-Entry.is in
    subst
    (λ (cs : List Change). OnOk c.trim_entry.result (map planned_change c.trim_entry.new.trim.changes.items ≡ map planned_change c.args.trim.now.changes.items ++ cs))
    (dropped_one (is_selected S keep) (begins (codes "e/")) name (has_digest c.args.selected.now c.in-Entry.strong) (entry_kind name c.in-Entry.strong at).1
    (chosen S keep c.args.selected.now name c.in-Entry.strong set c.trim_entry.ensures.is_digest at))
    c.trim_entry.ensures.changes

pub returns-in-Entry-clause-named : goal.returns-in-Entry-clause-named
returns-in-Entry-clause-named g c S keep told set =
    let name = string_bytes c.args.name.now in
    let at = of_entry name c.as_str.result.now c.in-Entry.strong c.read_name.result c.as_str.ensures.value c.read_name.ensures c.in-Entry.is in
    subst (λ (ds : List (List ℕ)). OnOk c.trim_entry.result (AddsAll c.args.trim.now.digests c.trim_entry.new.trim.digests ds))
    (named_one (named_at S) (is_selected S keep) (begins (codes "e/")) name (has_digest c.args.selected.now c.in-Entry.strong)
    (entry_kind name c.in-Entry.strong at).1 (chosen S keep c.args.selected.now name c.in-Entry.strong set c.trim_entry.ensures.is_digest at))
    (c.trim_entry.ensures.named S told)

pub returns-in-Entry-clause-trims : goal.returns-in-Entry-clause-trims
returns-in-Entry-clause-trims g c =
    let name = string_bytes c.args.name.now in
    let at = of_entry name c.as_str.result.now c.in-Entry.strong c.read_name.result c.as_str.ensures.value c.read_name.ensures c.in-Entry.is in
    trims_as c.trim_entry.result (begins (codes "e/")) name (map planned_change c.args.trim.now.changes.items) (map planned_change c.trim_entry.new.trim.changes.items)
    (entry_kind name c.in-Entry.strong at).1 c.trim_entry.ensures.trims

pub returns-in-Content-clause-changes : goal.returns-in-Content-clause-changes
returns-in-Content-clause-changes g c S keep told set =
    let name = string_bytes c.args.name.now in
    let at = of_content name c.as_str.result.now c.in-Content.field-0 c.read_name.result c.as_str.ensures.value c.read_name.ensures c.in-Content.is in
    unchanged_by (map planned_change c.args.trim.now.changes.items) _
    (dropped_none (λ n. not (is_selected S keep n)) (begins (codes "e/")) name (content_kind name c.in-Content.field-0 at).1)

pub returns-in-Content-clause-named : goal.returns-in-Content-clause-named
returns-in-Content-clause-named g c S keep told set =
    let name = string_bytes c.args.name.now in
    let at = of_content name c.as_str.result.now c.in-Content.field-0 c.read_name.result c.as_str.ensures.value c.read_name.ensures c.in-Content.is in
    adds_nothing c.args.trim.now.digests _ (named_no (named_at S) (is_selected S keep) (begins (codes "e/")) name (content_kind name c.in-Content.field-0 at).1)

pub returns-in-Content-clause-trims : goal.returns-in-Content-clause-trims
returns-in-Content-clause-trims g c =
    let name = string_bytes c.args.name.now in
    let at = of_content name c.as_str.result.now c.in-Content.field-0 c.read_name.result c.as_str.ensures.value c.read_name.ensures c.in-Content.is in
    trims_not (begins (codes "e/")) name (map planned_change c.args.trim.now.changes.items) (content_kind name c.in-Content.field-0 at).1

pub returns-in-Selectors-clause-changes : goal.returns-in-Selectors-clause-changes
returns-in-Selectors-clause-changes g c S keep told set =
    let name = string_bytes c.args.name.now in
    let at = of_list name c.as_str.result.now c.in-Selectors.field-0 c.read_name.result c.as_str.ensures.value c.read_name.ensures c.in-Selectors.is in
    unchanged_by (map planned_change c.args.trim.now.changes.items) _
    (dropped_none (λ n. not (is_selected S keep n)) (begins (codes "e/")) name (list_kind name c.in-Selectors.field-0 at).1)

pub returns-in-Selectors-clause-named : goal.returns-in-Selectors-clause-named
returns-in-Selectors-clause-named g c S keep told set =
    let name = string_bytes c.args.name.now in
    let at = of_list name c.as_str.result.now c.in-Selectors.field-0 c.read_name.result c.as_str.ensures.value c.read_name.ensures c.in-Selectors.is in
    adds_nothing c.args.trim.now.digests _ (named_no (named_at S) (is_selected S keep) (begins (codes "e/")) name (list_kind name c.in-Selectors.field-0 at).1)

pub returns-in-Selectors-clause-trims : goal.returns-in-Selectors-clause-trims
returns-in-Selectors-clause-trims g c =
    let name = string_bytes c.args.name.now in
    let at = of_list name c.as_str.result.now c.in-Selectors.field-0 c.read_name.result c.as_str.ensures.value c.read_name.ensures c.in-Selectors.is in
    trims_not (begins (codes "e/")) name (map planned_change c.args.trim.now.changes.items) (list_kind name c.in-Selectors.field-0 at).1
