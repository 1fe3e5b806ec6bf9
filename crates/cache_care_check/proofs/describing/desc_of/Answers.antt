use Rattle.std.proofs.Common.{ℕ, List, Option, None, Some, map, subst}
use Rattle.bx_tree.specs.FileInputs.{input_path}
use Rattle.bx_tree.specs.Trees.{Files}
use Rattle.bx_tree.specs.declared.file_input.FileInput.{FileInput}
use Rattle.content_store.specs.Contents.{IsContent}
use Rattle.two_phase.specs.Finding.{FindsOne}
use Rattle.cache_care_check.specs.Describing.{AreDeclared}
use Rattle.cache_care_check.proofs.Described.{desc_found, no_files}
use Rattle.cache_care_check.proofs.describing.desc_of.Goals as goal

pub returns-in-Some-2-clause-found : goal.returns-in-Some-2-clause-found
returns-in-Some-2-clause-found g c =
    desc_found (g.K.Keeper.known c.get.new.keeper).held (g.K.Keeper.known c.declared_files.new.keeper).held c.args.parts c.in-Some.exe c.in-Some-2.files
    c.in_ok-files.ensures.known.held c.requires.no_pips
    (subst (λ (o : Option (List ℕ)). FindsOne (g.K.Keeper.known c.get.new.keeper).held (λ S x. IsContent S c.args.parts.exe x) o) c.in-Some.is
    c.in_ok-exe.ensures.found)
    (subst (λ (ds : List (List ℕ)). FindsOne (g.K.Keeper.known c.declared_files.new.keeper).held
    (λ S m. AreDeclared S (map input_path c.args.parts.process.files) ds m) (Some c.in-Some-2.files)) c.digests-digests.ensures
    (subst (λ (fs : List FileInput). FindsOne (g.K.Keeper.known c.declared_files.new.keeper).held
    (λ S m. AreDeclared S (map input_path fs) c.digests-digests.result.now m) (Some c.in-Some-2.files)) c.files-inputs.ensures.files
    (subst (λ (o : Option Files). FindsOne (g.K.Keeper.known c.declared_files.new.keeper).held
    (λ S m. AreDeclared S (map input_path c.files-inputs.result.now) c.digests-digests.result.now m) o) c.in-Some-2.is c.in_ok-files.ensures.found)))

pub returns-in-None-2-clause-found : goal.returns-in-None-2-clause-found
returns-in-None-2-clause-found g c =
    no_files (g.K.Keeper.known c.declared_files.new.keeper).held c.args.parts
    (subst (λ (ds : List (List ℕ)). FindsOne (g.K.Keeper.known c.declared_files.new.keeper).held
    (λ S m. AreDeclared S (map input_path c.args.parts.process.files) ds m) None) c.digests-digests.ensures
    (subst (λ (fs : List FileInput). FindsOne (g.K.Keeper.known c.declared_files.new.keeper).held
    (λ S m. AreDeclared S (map input_path fs) c.digests-digests.result.now m) None) c.files-inputs.ensures.files
    (subst (λ (o : Option Files). FindsOne (g.K.Keeper.known c.declared_files.new.keeper).held
    (λ S m. AreDeclared S (map input_path c.files-inputs.result.now) c.digests-digests.result.now m) o) c.in-None-2.is c.in_ok-files.ensures.found)))
