use Rattle.std.proofs.Common.{ℕ, List, Option, subst}
use Rattle.content_store.specs.Contents.{IsContent}
use Rattle.two_phase.specs.Finding.{FindsOne}
use Rattle.cache_care_check.proofs.Judged.{another_path, compared, path_differs, path_same}
use Rattle.cache_care_check.proofs.judging.is_file.Goals as goal

pub returns-then-ne-clause-same : goal.returns-then-ne-clause-same
returns-then-ne-clause-same g c =
    another_path (g.K.Keeper.known c.args.keeper.now).held c.args.output.now c.args.file.now.path c.args.file.now.blob
    (path_differs c.args.output.now.path c.args.file.now.path c.ne.result c.ne.ensures c.if-ne.true)

pub returns-in-Some-clause-same : goal.returns-in-Some-clause-same
returns-in-Some-clause-same g c =
    compared (g.K.Keeper.known c.get.new.keeper).held c.args.output.now c.args.file.now.path c.args.file.now.blob c.in-Some.held c.bytes.result.now
    c.bytes-in-Some.result.now c.eq.result (path_same c.args.output.now.path c.args.file.now.path c.ne.result c.ne.ensures c.if-ne.false)
    (subst (λ (o : Option (List ℕ)). FindsOne (g.K.Keeper.known c.get.new.keeper).held (λ S x. IsContent S c.args.output.now.digest x) o) c.in-Some.is
    c.in_ok-held.ensures.found)
    c.bytes.ensures c.bytes-in-Some.ensures c.eq.ensures
