use Rattle.std.proofs.Common.{ℕ, List, Option, Result, IfOk, sym, subst}
use Rattle.memo_format.specs.StoreNames.{at_blob}
use Rattle.content_store.specs.Contents.{IsContent}
use Rattle.two_phase.specs.Finding.{FindsOne}
use Rattle.cache_care_check.specs.Findings.{IsFinding}
use Rattle.cache_care_check.specs.declared.fault.CareFault.{CareFault}
use Rattle.cache_care_check.specs.declared.surveying.Finding.{Finding}
use Rattle.cache_care_check.proofs.Surveyed.{content_missing, content_there}
use Rattle.cache_care_check.proofs.surveying.of_content.Goals as goal
use Rattle.cache_care_check.proofs.surveying.of_content.Goals.{in-Some, in-None}

pub returns-clause-finding : goal.returns-clause-finding
returns-clause-finding g c = λ S is. elim c.match-branch-2.branch [
  | in-Some w ↦
      subst (λ (r : Result Finding CareFault). IfOk r (IsFinding S (at_blob c.args.digest.now))) (sym w.result-is)
      (content_there (g.K.Keeper.known c.get.new.keeper).held c.args.digest.now w.in-Some.field-0
      (subst (λ (o : Option (List ℕ)). FindsOne (g.K.Keeper.known c.get.new.keeper).held (λ S x. IsContent S c.args.digest.now x) o) w.in-Some.is
      c.in_ok-get.ensures.found) S is)
  | in-None w ↦
      subst (λ (r : Result Finding CareFault). IfOk r (IsFinding S (at_blob c.args.digest.now))) (sym w.result-is)
      (content_missing (g.K.Keeper.known c.get.new.keeper).held c.args.digest.now c.bytes-bytes.ensures.is_digest
      (subst (λ (o : Option (List ℕ)). FindsOne (g.K.Keeper.known c.get.new.keeper).held (λ S x. IsContent S c.args.digest.now x) o) w.in-None.is
      c.in_ok-get.ensures.found) S is)
]
