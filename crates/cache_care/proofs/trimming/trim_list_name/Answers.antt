use Rattle.std.proofs.Common.{◌≡◌, ◌++◌, [], ◌∷◌, ℕ, List, ap, codes, filter, flat_map, map, subst}
use Rattle.std.specs.Prelude.{OnOk, string_bytes}
use Rattle.bx_io.specs.Holdings.{Change}
use Rattle.memo_format.specs.declared.selector.Selector.{Selector}
use Rattle.prints.specs.Lines.{begins}
use Rattle.cache_care.specs.Digests.{AddsAll}
use Rattle.cache_care.specs.Planning.{planned_change}
use Rattle.cache_care.specs.Trimming.{cut_at, left_at}
use Rattle.cache_care.proofs.Listed.{adds_nothing, content_kind, entry_kind, list_kind, list_name, none_flat, of_content, of_entry, of_list, one_flat, trims_as, trims_not, unchanged_by}
use Rattle.cache_care.proofs.trimming.trim_list_name.Goals as goal

pub trim_list-requires-clause-name : goal.trim_list-requires-clause-name
trim_list-requires-clause-name g c =
    λ κs a.
    list_name (string_bytes c.args.name.now) c.in-Selectors.field-0 c.requires
    (of_list (string_bytes c.args.name.now) c.as_str.result.now c.in-Selectors.field-0 c.read_name.result c.as_str.ensures.value c.read_name.ensures
    c.in-Selectors.is)

pub returns-in-Selectors-clause-changes : goal.returns-in-Selectors-clause-changes
returns-in-Selectors-clause-changes g c S told =
    let name = string_bytes c.args.name.now in
    let at = of_list name c.as_str.result.now c.in-Selectors.field-0 c.read_name.result c.as_str.ensures.value c.read_name.ensures c.in-Selectors.is in
    subst
    (λ (cs : List Change). OnOk c.trim_list.result (map planned_change c.trim_list.new.trim.changes.items ≡ map planned_change c.args.trim.now.changes.items ++ cs))
    (one_flat (cut_at S c.args.keep) (begins (codes "w/")) name (list_kind name c.in-Selectors.field-0 at).0) (c.trim_list.ensures.changes S told)

pub returns-in-Selectors-clause-selected : goal.returns-in-Selectors-clause-selected
returns-in-Selectors-clause-selected g c S told =
    let name = string_bytes c.args.name.now in
    let at = of_list name c.as_str.result.now c.in-Selectors.field-0 c.read_name.result c.as_str.ensures.value c.read_name.ensures c.in-Selectors.is in
    subst (λ (ds : List (List ℕ)). OnOk c.trim_list.result (AddsAll c.args.trim.now.digests c.trim_list.new.trim.digests ds))
    (ap (map (λ (s : Selector). s.strong)) (one_flat (left_at S c.args.keep) (begins (codes "w/")) name (list_kind name c.in-Selectors.field-0 at).0))
    (c.trim_list.ensures.selected S told)

pub returns-in-Selectors-clause-trims : goal.returns-in-Selectors-clause-trims
returns-in-Selectors-clause-trims g c =
    let name = string_bytes c.args.name.now in
    let at = of_list name c.as_str.result.now c.in-Selectors.field-0 c.read_name.result c.as_str.ensures.value c.read_name.ensures c.in-Selectors.is in
    trims_as c.trim_list.result (begins (codes "w/")) name (map planned_change c.args.trim.now.changes.items) (map planned_change c.trim_list.new.trim.changes.items)
    (list_kind name c.in-Selectors.field-0 at).0 c.trim_list.ensures.trims

pub returns-in-Content-clause-changes : goal.returns-in-Content-clause-changes
returns-in-Content-clause-changes g c S told =
    let name = string_bytes c.args.name.now in
    let at = of_content name c.as_str.result.now c.in-Content.field-0 c.read_name.result c.as_str.ensures.value c.read_name.ensures c.in-Content.is in
    unchanged_by (map planned_change c.args.trim.now.changes.items) _
    (none_flat (cut_at S c.args.keep) (begins (codes "w/")) name (content_kind name c.in-Content.field-0 at).0)

pub returns-in-Content-clause-selected : goal.returns-in-Content-clause-selected
returns-in-Content-clause-selected g c S told =
    let name = string_bytes c.args.name.now in
    let at = of_content name c.as_str.result.now c.in-Content.field-0 c.read_name.result c.as_str.ensures.value c.read_name.ensures c.in-Content.is in
    adds_nothing c.args.trim.now.digests _
    (ap (map (λ (s : Selector). s.strong)) (none_flat (left_at S c.args.keep) (begins (codes "w/")) name (content_kind name c.in-Content.field-0 at).0))

pub returns-in-Content-clause-trims : goal.returns-in-Content-clause-trims
returns-in-Content-clause-trims g c =
    let name = string_bytes c.args.name.now in
    let at = of_content name c.as_str.result.now c.in-Content.field-0 c.read_name.result c.as_str.ensures.value c.read_name.ensures c.in-Content.is in
    trims_not (begins (codes "w/")) name (map planned_change c.args.trim.now.changes.items) (content_kind name c.in-Content.field-0 at).0

pub returns-in-Entry-clause-changes : goal.returns-in-Entry-clause-changes
returns-in-Entry-clause-changes g c S told =
    let name = string_bytes c.args.name.now in
    let at = of_entry name c.as_str.result.now c.in-Entry.field-0 c.read_name.result c.as_str.ensures.value c.read_name.ensures c.in-Entry.is in
    unchanged_by (map planned_change c.args.trim.now.changes.items) _
    (none_flat (cut_at S c.args.keep) (begins (codes "w/")) name (entry_kind name c.in-Entry.field-0 at).0)

pub returns-in-Entry-clause-selected : goal.returns-in-Entry-clause-selected
returns-in-Entry-clause-selected g c S told =
    let name = string_bytes c.args.name.now in
    let at = of_entry name c.as_str.result.now c.in-Entry.field-0 c.read_name.result c.as_str.ensures.value c.read_name.ensures c.in-Entry.is in
    adds_nothing c.args.trim.now.digests _
    (ap (map (λ (s : Selector). s.strong)) (none_flat (left_at S c.args.keep) (begins (codes "w/")) name (entry_kind name c.in-Entry.field-0 at).0))

pub returns-in-Entry-clause-trims : goal.returns-in-Entry-clause-trims
returns-in-Entry-clause-trims g c =
    let name = string_bytes c.args.name.now in
    let at = of_entry name c.as_str.result.now c.in-Entry.field-0 c.read_name.result c.as_str.ensures.value c.read_name.ensures c.in-Entry.is in
    trims_not (begins (codes "w/")) name (map planned_change c.args.trim.now.changes.items) (entry_kind name c.in-Entry.field-0 at).0
