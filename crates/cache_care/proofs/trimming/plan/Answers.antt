use Rattle.std.proofs.Common.{◌++◌, codes, filter, map}
use Rattle.std.specs.Prelude.{string_bytes}
use Rattle.prints.specs.Lines.{begins}
use Rattle.cache_care.specs.Planning.{planned_change}
use Rattle.cache_care.specs.Trimming.{AreTrims, named_digests}
use Rattle.cache_care.proofs.CareDone.{plan_is}
use Rattle.cache_care.proofs.NamedDigests.{all_named}
use Rattle.cache_care.proofs.Plans.{all_by_kind, by_kind, joined_trims, names_by_recursion, plan_few, plan_names, plan_trims}
use Rattle.cache_care.proofs.trimming.plan.Goals as goal

pub returns-clause-plan : goal.returns-clause-plan
returns-clause-plan g c S told listed =
    let before = c.in_ok-entries.ensures.known.held S told in
    let selected = c.in_ok-lists.ensures.selected S before listed in
    let named = c.in_ok-entries.ensures.named S c.args.keep told listed selected in
    plan_is string_bytes S c.args.keep c.args.names.now c.in_ok-entries.entries.changes.items c.in_ok-lists.lists.changes.items c.append.new.self.items
    c.drop_contents.new.plan.items listed (c.in_ok-entries.ensures.changes S c.args.keep told listed selected) (c.in_ok-lists.ensures.changes S before listed)
    c.in_ok-append.ensures.items (c.in_ok-drop_contents.ensures.changes (named_digests S c.args.keep) named (all_named S c.args.keep))

pub returns-clause-names : goal.returns-clause-names
returns-clause-names g c =
    let ns = map string_bytes c.args.names.now in
    plan_names (by_kind ns) c.drop_contents.new.plan.items (all_by_kind ns (names_by_recursion string_bytes c.args.names.now c.requires))
    (c.in_ok-drop_contents.ensures.trims (filter (begins (codes "e/")) ns ++ filter (begins (codes "w/")) ns)
    (joined_trims (filter (begins (codes "e/")) ns) (filter (begins (codes "w/")) ns) c.in_ok-entries.entries.changes.items c.in_ok-lists.lists.changes.items
    c.append.new.self.items c.in_ok-append.ensures.items c.in_ok-entries.ensures.trims c.in_ok-lists.ensures.trims))

pub returns-clause-few : goal.returns-clause-few
returns-clause-few g c =
    let ns = map string_bytes c.args.names.now in
    plan_few string_bytes c.args.names.now (map planned_change c.drop_contents.new.plan.items)
    (c.in_ok-drop_contents.ensures.trims (filter (begins (codes "e/")) ns ++ filter (begins (codes "w/")) ns)
    (joined_trims (filter (begins (codes "e/")) ns) (filter (begins (codes "w/")) ns) c.in_ok-entries.entries.changes.items c.in_ok-lists.lists.changes.items
    c.append.new.self.items c.in_ok-append.ensures.items c.in_ok-entries.ensures.trims c.in_ok-lists.ensures.trims))

pub returns-clause-trims : goal.returns-clause-trims
returns-clause-trims g c =
    let ns = map string_bytes c.args.names.now in
    plan_trims (by_kind ns) c.drop_contents.new.plan.items
    (c.in_ok-drop_contents.ensures.trims (filter (begins (codes "e/")) ns ++ filter (begins (codes "w/")) ns)
    (joined_trims (filter (begins (codes "e/")) ns) (filter (begins (codes "w/")) ns) c.in_ok-entries.entries.changes.items c.in_ok-lists.lists.changes.items
    c.append.new.self.items c.in_ok-append.ensures.items c.in_ok-entries.ensures.trims c.in_ok-lists.ensures.trims))
