use Rattle.std.proofs.Common.{◌≡◌, nat_lt, length, map, take, ap, sym, ◌∙◌, arith}
use Rattle.std.specs.Prelude.{string_bytes, vec_len}
use Rattle.cache_care.specs.Planning.{planned_change}
use Rattle.cache_care.proofs.Cutting.{cut_changes, cut_trims, dropped_result, first_selectors, some_left}
use Rattle.cache_care.proofs.trimming.cut_list.Goals as goal

pub returns-then-is_empty-clause-trims : goal.returns-then-is_empty-clause-trims
returns-then-is_empty-clause-trims c =
    dropped_result c.drop_name.result (string_bytes c.args.name.now) (map planned_change c.args.trim.now.changes.items)
    (map planned_change c.drop_name.new.self.changes.items) c.drop_name.ensures.changes

pub returns-clause-changes : goal.returns-clause-changes
returns-clause-changes c =
    let cut = c.truncate.new.self in
    let left : vec_len cut ≡ length cut.items = omega (arith, cut.ok.0) in
    let long : vec_len c.args.list ≡ length c.args.list.items = omega (arith, c.args.list.ok.0) in
    cut_changes c.add_selected.result c.args.keep (string_bytes c.args.name.now) c.args.list.items cut.items c.as_slice.result.now _
    (map planned_change c.args.trim.now.changes.items) (map planned_change c.put_cut.new.changes.items) c.truncate.ensures.items c.as_slice.ensures.value
    (some_left (vec_len cut) cut.items c.is_empty.result c.is_empty.ensures c.if-is_empty.false left) (ap (nat_lt c.args.keep) (c.len.ensures ∙ long))
    c.in_ok-put_cut.ensures

pub returns-clause-trims : goal.returns-clause-trims
returns-clause-trims c =
    cut_trims c.add_selected.result (string_bytes c.args.name.now) c.as_slice.result.now _ (map planned_change c.args.trim.now.changes.items)
    (map planned_change c.put_cut.new.changes.items) c.requires.name
    (first_selectors c.args.keep c.args.list.items c.truncate.new.self.items c.as_slice.result.now c.requires.few c.requires.each c.truncate.ensures.items
    c.as_slice.ensures.value) c.in_ok-put_cut.ensures
