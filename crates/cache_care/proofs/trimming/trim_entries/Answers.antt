use Rattle.std.proofs.Common.{[], ap, codes, filter, flat_map, map, not, ◌∙◌, subst}
use Rattle.std.specs.Prelude.{string_bytes}
use Rattle.bx_io.specs.Holdings.{Drop}
use Rattle.bx_io.proofs.Changes.{keeps_all, keeps_on}
use Rattle.prints.specs.Lines.{begins}
use Rattle.two_phase.proofs.Used as calls
use Rattle.cache_care.specs.Digests.{IsSetOf}
use Rattle.cache_care.specs.Naming.{named_at}
use Rattle.cache_care.specs.Planning.{planned_change}
use Rattle.cache_care.specs.Trimming.{AreTrims, is_selected}
use Rattle.cache_care.proofs.Listed.{changes_next, drops_both, kind_whole, named_both, set_next, trims_next}
use Rattle.cache_care.proofs.trimming.trim_entries.Goals as goal

pub names-preserved : goal.names-preserved
names-preserved g c =
    let done = c.in_ok-trim_entry_name.ensures in
    record {
      changes = λ S keep told set.
          changes_next (λ ns. map Drop (filter (λ n. not (is_selected S keep n)) ns)) (drops_both (λ n. not (is_selected S keep n))) (begins (codes "e/")) string_bytes
          c.args.names.now c.names.name-index c.name-item.result [] (map planned_change c.names.trim.changes.items)
          (map planned_change c.trim_entry_name.new.trim.changes.items) c.names-test.true c.name-item.is
          (c.names.invariant.changes S keep (done.known.held S told) set) (done.changes S keep told set);
      named = λ S keep told set.
          set_next (λ ns. flat_map (named_at S) (filter (is_selected S keep) ns)) (named_both (named_at S) (is_selected S keep)) (begins (codes "e/")) string_bytes
          c.args.names.now c.names.name-index c.name-item.result c.names.trim.digests c.trim_entry_name.new.trim.digests c.names-test.true c.name-item.is
          (c.names.invariant.named S keep (done.known.held S told) set) (done.named S keep told set);
      trims = trims_next (begins (codes "e/")) string_bytes c.args.names.now c.names.name-index c.name-item.result [] (map planned_change c.names.trim.changes.items)
          (map planned_change c.trim_entry_name.new.trim.changes.items) c.names-test.true c.name-item.is c.names.invariant.trims done.trims;
      right = done.right;
      known = keeps_on (g.K.Keeper.known c.args.keeper.now) (g.K.Keeper.known c.names.keeper) (g.K.Keeper.known c.trim_entry_name.new.keeper) c.names.invariant.known
          done.known;
      keeps = calls.keeps_on _ _ _ _ _ _ _ (calls.ok_no_err _ _) c.names.invariant.keeps done.keeper;
    }

pub returns-clause-changes : goal.returns-clause-changes
returns-clause-changes g c S keep told listed set =
    c.names.invariant.changes S keep told set
    ∙ ap (λ ns. map Drop (filter (λ n. not (is_selected S keep n)) ns))
    (kind_whole (begins (codes "e/")) string_bytes c.args.names.now c.names.name-index c.names-test.false ∙ ap (filter (begins (codes "e/"))) listed)

pub returns-clause-named : goal.returns-clause-named
returns-clause-named g c S keep told listed set =
    subst (λ ns. IsSetOf c.names.trim.digests (flat_map (named_at S) (filter (is_selected S keep) ns)))
    (kind_whole (begins (codes "e/")) string_bytes c.args.names.now c.names.name-index c.names-test.false ∙ ap (filter (begins (codes "e/"))) listed)
    (c.names.invariant.named S keep told set)

pub returns-clause-trims : goal.returns-clause-trims
returns-clause-trims g c =
    subst (λ ns. AreTrims ns (map planned_change c.names.trim.changes.items))
    (kind_whole (begins (codes "e/")) string_bytes c.args.names.now c.names.name-index c.names-test.false) c.names.invariant.trims
