use Rattle.std.proofs.Common.{Option, map, subst, arith}
use Rattle.bx_tree.specs.FileInputs.{input_path}
use Rattle.std.proofs.lemmas.List.{length-map}
use Rattle.pip_model_types.specs.Made.{made_files}
use Rattle.pip_model_types.specs.declared.made.MadeFile.{MadeFile}
use Rattle.pip_model_types.proofs.SameFiles.{distinct_paths}
use Rattle.std.specs.Prelude.{IfSome, ◌≡◌}
use Rattle.two_phase.specs.Finding.{FindsOne}
use Rattle.two_phase.proofs.Used.{ok_no_err}
use Rattle.cache_care_check.specs.Describing.{IsDeclared}
use Rattle.cache_care_check.proofs.Described.{declared_all, declared_more, declared_none, declared_rise, one_missing}
use Rattle.cache_care_check.proofs.Steps.{no_step, one_step}
use Rattle.cache_care_check.proofs.describing.declared_files.Goals as goal

pub files-init : goal.files-init
files-init g c = record {
  so_far = declared_none (g.K.Keeper.known c.args.keeper.now).held (map input_path c.args.files.now) c.args.digests.now c.new-made.result.items
      c.new-made.ensures.items;
  right = c.requires.right;
  steps = no_step (g.K.Keeper.known c.args.keeper.now) (g.K.Keeper.bound c.args.keeper.now) (g.K.Keeper.faults c.args.keeper.now);
}

pub returns-in-None-clause-found : goal.returns-in-None-clause-found
returns-in-None-clause-found g c =
    one_missing (g.K.Keeper.known c.declared.new.keeper).held (map input_path c.args.files.now) c.args.digests.now c.files.place
    (input_path c.index-files-place.result) c.index-digests-place.result (omega (arith, c.files-test.true, c.requires.one_each)) c.index-digests-place.is
    (subst (λ (o : Option MadeFile). FindsOne (g.K.Keeper.known c.declared.new.keeper).held
    (λ S f. IsDeclared S (input_path c.index-files-place.result) c.index-digests-place.result f) o) c.in-None.is c.in_ok-file.ensures.found)

pub files-preserved : goal.files-preserved
files-preserved g c = record {
  so_far =
      declared_more (g.K.Keeper.known c.files.keeper).held (g.K.Keeper.known c.declared.new.keeper).held c.args.files.now c.args.digests.now c.files.place
      c.files.made.items c.push.new.self.items c.in-Some.file c.index-files-place.result c.index-digests-place.result c.requires.one_each
      c.files-test.true c.index-files-place.is c.index-digests-place.is c.in_ok-file.ensures.known.held c.files.invariant.so_far
      (subst (λ (o : Option MadeFile). FindsOne (g.K.Keeper.known c.declared.new.keeper).held
      (λ S f. IsDeclared S (input_path c.index-files-place.result) c.index-digests-place.result f) o) c.in-Some.is c.in_ok-file.ensures.found)
      (subst (λ (o : Option MadeFile). IfSome o (λ (f : MadeFile). f.path ≡ input_path c.index-files-place.result)) c.in-Some.is c.in_ok-file.ensures.path)
      c.in_ok-push-in-Some.ensures.items;
  right = c.in_ok-file.ensures.right;
  steps = one_step (g.K.Keeper.known c.args.keeper.now) (g.K.Keeper.known c.files.keeper) (g.K.Keeper.known c.declared.new.keeper) _ _ _ _ _ _ _ (ok_no_err _ _)
      c.files.invariant.steps c.in_ok-file.ensures.known c.in_ok-file.ensures.keeper;
}

pub of-requires : goal.of-requires
of-requires g c =
    distinct_paths (made_files c.files.made.items)
    (declared_rise (g.K.Keeper.known c.files.keeper).held (map input_path c.args.files.now) c.args.digests.now c.files.place c.files.made.items
    c.files.invariant.so_far (omega (arith, c.files-test.false, length-map c.args.files.now input_path)) c.requires.rising)

pub returns-clause-found : goal.returns-clause-found
returns-clause-found g c =
    declared_all (g.K.Keeper.known c.files.keeper).held (map input_path c.args.files.now) c.args.digests.now c.files.place c.files.made.items c.in_ok-of.field-0
    c.files.invariant.so_far (omega (arith, c.files-test.false, length-map c.args.files.now input_path))
    (omega (arith, c.files-test.false, c.requires.one_each)) c.requires.rising c.in_ok-of.ensures.same c.in_ok-of.ensures.rising
