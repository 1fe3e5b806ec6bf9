use Rattle.std.proofs.Common.{[], ap, codes, filter, flat_map, map, ◌∙◌, subst}
use Rattle.std.specs.Prelude.{string_bytes}
use Rattle.bx_io.proofs.Changes.{keeps_all, keeps_on}
use Rattle.memo_format.specs.declared.selector.Selector.{Selector}
use Rattle.prints.specs.Lines.{begins}
use Rattle.two_phase.proofs.Used as calls
use Rattle.cache_care.specs.Digests.{IsSetOf}
use Rattle.cache_care.specs.Planning.{planned_change}
use Rattle.cache_care.specs.Trimming.{AreTrims, cut_at, left_at}
use Rattle.cache_care.proofs.Listed.{changes_next, flat_both, kind_whole, set_next, strongs_both, trims_next}
use Rattle.cache_care.proofs.trimming.trim_lists.Goals as goal

pub names-preserved : goal.names-preserved
names-preserved g c =
    let done = c.in_ok-trim_list_name.ensures in
    record {
      changes = λ S told.
          changes_next (flat_map (cut_at S c.args.keep)) (flat_both (cut_at S c.args.keep)) (begins (codes "w/")) string_bytes c.args.names.now c.names.name-index
          c.name-item.result [] (map planned_change c.names.trim.changes.items) (map planned_change c.trim_list_name.new.trim.changes.items) c.names-test.true
          c.name-item.is (c.names.invariant.changes S (done.known.held S told)) (done.changes S told);
      selected = λ S told.
          set_next (λ ns. map (λ (s : Selector). s.strong) (flat_map (left_at S c.args.keep) ns)) (strongs_both (left_at S c.args.keep)) (begins (codes "w/"))
          string_bytes c.args.names.now c.names.name-index c.name-item.result c.names.trim.digests c.trim_list_name.new.trim.digests c.names-test.true
          c.name-item.is (c.names.invariant.selected S (done.known.held S told)) (done.selected S told);
      trims = trims_next (begins (codes "w/")) string_bytes c.args.names.now c.names.name-index c.name-item.result [] (map planned_change c.names.trim.changes.items)
          (map planned_change c.trim_list_name.new.trim.changes.items) c.names-test.true c.name-item.is c.names.invariant.trims done.trims;
      known = keeps_on (g.K.Keeper.known c.args.keeper.now) (g.K.Keeper.known c.names.keeper) (g.K.Keeper.known c.trim_list_name.new.keeper) c.names.invariant.known
          done.known;
      keeps = calls.keeps_on _ _ _ _ _ _ _ (calls.ok_no_err _ _) c.names.invariant.keeps done.keeper;
    }

pub returns-clause-changes : goal.returns-clause-changes
returns-clause-changes g c S told listed =
    c.names.invariant.changes S told
    ∙ ap (flat_map (cut_at S c.args.keep))
    (kind_whole (begins (codes "w/")) string_bytes c.args.names.now c.names.name-index c.names-test.false ∙ ap (filter (begins (codes "w/"))) listed)

pub returns-clause-selected : goal.returns-clause-selected
returns-clause-selected g c S told listed =
    subst (λ ns. IsSetOf c.names.trim.digests (map (λ (s : Selector). s.strong) (flat_map (left_at S c.args.keep) ns)))
    (kind_whole (begins (codes "w/")) string_bytes c.args.names.now c.names.name-index c.names-test.false ∙ ap (filter (begins (codes "w/"))) listed)
    (c.names.invariant.selected S told)

pub returns-clause-trims : goal.returns-clause-trims
returns-clause-trims g c =
    subst (λ ns. AreTrims ns (map planned_change c.names.trim.changes.items))
    (kind_whole (begins (codes "w/")) string_bytes c.args.names.now c.names.name-index c.names-test.false) c.names.invariant.trims
