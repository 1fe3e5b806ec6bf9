use Rattle.std.proofs.Common.{ℕ, List, Option, ◌∙◌, subst}
use Rattle.bx_tree.specs.FileInputs.{input_path}
use Rattle.content_store.specs.Contents.{IsContent}
use Rattle.two_phase.specs.Finding.{FindsOne}
use Rattle.cache_care_check.proofs.Described.{declared_as, not_declared}
use Rattle.cache_care_check.proofs.describing.declared.Goals as goal

pub returns-in_ok-share-in-Some-clause-found : goal.returns-in_ok-share-in-Some-clause-found
returns-in_ok-share-in-Some-clause-found g c =
    declared_as (g.K.Keeper.known c.get.new.keeper).held (input_path c.args.file.now) c.in_ok-share-in-Some.field-0 c.args.digest.now c.in-Some.blob
    (c.in_ok-share-in-Some.ensures ∙ c.path.ensures)
    (subst (λ (o : Option (List ℕ)). FindsOne (g.K.Keeper.known c.get.new.keeper).held (λ S x. IsContent S c.args.digest.now x) o) c.in-Some.is
    c.in_ok-blob.ensures.found)

pub returns-in-None-clause-found : goal.returns-in-None-clause-found
returns-in-None-clause-found g c =
    not_declared (g.K.Keeper.known c.get.new.keeper).held (input_path c.args.file.now) c.args.digest.now
    (subst (λ (o : Option (List ℕ)). FindsOne (g.K.Keeper.known c.get.new.keeper).held (λ S x. IsContent S c.args.digest.now x) o) c.in-None.is
    c.in_ok-blob.ensures.found)
