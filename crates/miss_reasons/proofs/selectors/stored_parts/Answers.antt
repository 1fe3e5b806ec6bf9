use Rattle.std.proofs.Common.{ℕ, List, Option, subst}
use Rattle.content_store.specs.Contents.{IsContent}
use Rattle.two_phase.specs.Finding.{FindsOne}
use Rattle.miss_reasons.proofs.Reading.{no_strong, strong_given}
use Rattle.miss_reasons.proofs.selectors.stored_parts.Goals as goal

pub returns-in-Some-clause-found : goal.returns-in-Some-clause-found
returns-in-Some-clause-found g c =
    strong_given (g.R.KeepReader.held c.content.new.reader) c.args.digest.now c.in-Some.text c.bytes.result.now c.strong_in.result
    (subst (λ (o : Option (List ℕ)). FindsOne (g.R.KeepReader.held c.content.new.reader) (λ S y. IsContent S c.args.digest.now y) o) c.in-Some.is c.in_ok-text.ensures.found)
    c.bytes.ensures c.strong_in.ensures.read

pub returns-in-None-clause-found : goal.returns-in-None-clause-found
returns-in-None-clause-found g c =
    no_strong (g.R.KeepReader.held c.content.new.reader) c.args.digest.now
    (subst (λ (o : Option (List ℕ)). FindsOne (g.R.KeepReader.held c.content.new.reader) (λ S y. IsContent S c.args.digest.now y) o) c.in-None.is c.in_ok-text.ensures.found)
