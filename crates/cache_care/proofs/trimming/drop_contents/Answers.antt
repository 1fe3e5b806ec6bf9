use Rattle.std.proofs.Common.{codes, map, not}
use Rattle.std.specs.Prelude.{string_bytes}
use Rattle.std.specs.List.{list_any}
use Rattle.std.specs.Str.{bytes_eq}
use Rattle.prints.specs.Lines.{begins}
use Rattle.memo_format.specs.StoreNames.{at_blob}
use Rattle.bx_io.specs.Holdings.{Drop}
use Rattle.std.proofs.Common.{filter}
use Rattle.cache_care.specs.Planning.{planned_change}
use Rattle.cache_care.proofs.Listed.{changes_next, drops_both, trims_next}
use Rattle.cache_care.proofs.trimming.drop_contents.Goals as goal

pub names-preserved : goal.names-preserved
names-preserved c = record {
  changes = λ digests is all.
      changes_next (λ ns. map Drop (filter (λ n. not (list_any (λ d. bytes_eq (at_blob d) n) digests)) ns))
      (drops_both (λ n. not (list_any (λ d. bytes_eq (at_blob d) n) digests))) (begins (codes "b/")) string_bytes c.args.names.now c.names.name-index
      c.name-item.result (map planned_change c.args.plan.now.items) (map planned_change c.names.plan.items) (map planned_change c.drop_content.new.plan.items)
      c.names-test.true c.name-item.is (c.names.invariant.changes digests is all) (c.in_ok-drop_content.ensures.changes digests is all);
  trims = λ before h.
      trims_next (begins (codes "b/")) string_bytes c.args.names.now c.names.name-index c.name-item.result before (map planned_change c.names.plan.items)
      (map planned_change c.drop_content.new.plan.items) c.names-test.true c.name-item.is (c.names.invariant.trims before h) c.in_ok-drop_content.ensures.trims;
}
