use Rattle.bx_io.proofs.Changes.{keeps_all}
use Rattle.two_phase.proofs.Used.{keeps_none, keeps_on, ok_no_err}
use Rattle.graph_memo.proofs.Put.{module_more, modules_cut, modules_whole, modules_done}
use Rattle.graph_memo.proofs.keeping.put_modules.Goals as goal

pub modules-init : goal.modules-init
modules-init g c = record {
  made = keeps_all (g.K.Keeper.known c.args.keeper.now);
  held = c.requires;
  keeps = keeps_none (g.K.Keeper.bound c.args.keeper.now) (g.K.Keeper.faults c.args.keeper.now) ⊥ (λ e. e);
}

pub modules-preserved : goal.modules-preserved
modules-preserved g c =
    let put = c.in_ok-put_specs.ensures in
    record {
      made =
          module_more c.args.tree.now (g.K.Keeper.known c.args.keeper.now) (g.K.Keeper.known c.modules.keeper) (g.K.Keeper.known c.put_specs.new.keeper)
          c.args.modules.now c.modules.module-index c.module-item.result c.as_slice.result.now c.modules-test.true c.module-item.is c.as_slice.ensures.value
          c.modules.invariant.made put.made;
      held = put.held;
      keeps = keeps_on _ _ _ _ _ _ _ (ok_no_err _ _) c.modules.invariant.keeps put.keeper;
    }

pub returns-in_err-put_specs-clause-first : goal.returns-in_err-put_specs-clause-first
returns-in_err-put_specs-clause-first g c =
    modules_cut c.args.tree.now (g.K.Keeper.known c.args.keeper.now) (g.K.Keeper.known c.modules.keeper) (g.K.Keeper.known c.put_specs.new.keeper)
    c.args.modules.now c.modules.module-index c.module-item.result c.as_slice.result.now c.modules-test.true c.module-item.is c.as_slice.ensures.value
    c.modules.invariant.made c.in_err-put_specs.ensures.first

pub returns-clause-made : goal.returns-clause-made
returns-clause-made g c =
    modules_whole c.args.tree.now (g.K.Keeper.known c.args.keeper.now) (g.K.Keeper.known c.modules.keeper) c.args.modules.now c.modules.module-index
    c.modules-test.false c.modules.invariant.made

pub returns-clause-first : goal.returns-clause-first
returns-clause-first g c =
    modules_done c.args.tree.now (g.K.Keeper.known c.args.keeper.now) (g.K.Keeper.known c.modules.keeper) c.args.modules.now c.modules.module-index
    c.modules-test.false c.modules.invariant.made
