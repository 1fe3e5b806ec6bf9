use Rattle.std.proofs.Common.{◌≡◌, List, subst, sym}
use Rattle.std.specs.Prelude.{OnOk}
use Rattle.std.proofs.lemmas.Bool.{false≢true}
use Rattle.bx_tree.specs.Paths.{Atoms}
use Rattle.bx_tree_paths.specs.declared.path_table.PathId.{PathId}
use Rattle.bx_tree_paths.proofs.Numbered.{last_is, new_is_last, number_contained, there_stays}
use Rattle.bx_tree_paths.proofs.path_table.PathTable.add.Goals as goal

pub returns-in-Some-clause-added : goal.returns-in-Some-clause-added
returns-in-Some-clause-added c =
    sym (there_stays c.args.self.now c.args.path.now (number_contained c.args.self.now c.in-Some.id.0 c.args.path.now c.in-Some.ensures.found))

pub returns-in-None-clause-added : goal.returns-in-None-clause-added
returns-in-None-clause-added c =
    subst (λ (ps : List Atoms). OnOk c.push.result (c.push.new.self ≡ ps))
    (sym (new_is_last c.args.self.now c.args.path.now (λ k. false≢true (c.in-None.ensures.there.1 k)))) c.push.ensures.added

pub returns-in-None-clause-number : goal.returns-in-None-clause-number
returns-in-None-clause-number c =
    last_is (λ (id : PathId). id.0) c.args.self.now c.push.new.self c.args.path.now c.push.result c.push.ensures.added c.push.ensures.last
