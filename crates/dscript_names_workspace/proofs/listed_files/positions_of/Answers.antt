use Rattle.std.proofs.Common.{◌≡◌, ◌++◌, ◌∷◌, [], subst, sym, ◌∙◌, ap, arith}
use Rattle.dscript_names_workspace.specs.Paths.{AreWithin, paths_at}
use Rattle.dscript_names_workspace.proofs.Positions.{taken-next, tested-next, within-append}
use Rattle.dscript_names_workspace.proofs.listed_files.positions_of.Goals as goal

pub paths-preserved : goal.paths-preserved
paths-preserved c =
    let files = c.args.tree.now in
    let paths = c.args.paths.now in
    let i = c.paths.path-index in
    let d = c.path-item.result in
    let before = c.paths.positions.items in
    let position = c.in-Some.position in
    let pushed : c.push.new.self.items ≡ before ++ position ∷ [] = c.in_ok-push.ensures.items in
    record {
      tests = tested-next files paths i d position (omega arith) c.path-item.is c.in-Some.ensures ∙ c.paths.invariant.tests;
      files =
          ap (paths_at files) pushed
          ∙ taken-next files paths i d before position (omega arith) c.path-item.is c.paths.invariant.files c.in-Some.ensures;
      within =
          subst (AreWithin files) (sym pushed)
          (within-append files before (position ∷ []) c.paths.invariant.within (c.in-Some.ensures.0, tt));
    }
