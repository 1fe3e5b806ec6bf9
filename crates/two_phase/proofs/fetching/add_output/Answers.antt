use Rattle.std.proofs.Common.{◌≡◌, ℕ, List, Option, IfSome, subst}
use Rattle.sha2.specs.Sha256.{sha256}
use Rattle.content_store.specs.Contents.{IsContent}
use Rattle.two_phase.specs.Finding.{FindsOne}
use Rattle.two_phase.proofs.Fetched.{no_put, put_given}
use Rattle.two_phase.proofs.fetching.add_output.Goals as goal

pub returns-in-Some-clause-added : goal.returns-in-Some-clause-added
returns-in-Some-clause-added g c =
    put_given (g.R.KeepReader.held c.content.new.reader) c.args.writes c.args.output.now c.in-Some.blob c.put_output.result
    (subst (λ (o : Option (List ℕ)). FindsOne (g.R.KeepReader.held c.content.new.reader) (λ S y. IsContent S c.args.output.now.digest y) o) c.in-Some.is c.in_ok-blob.ensures.found)
    (subst (λ (o : Option (List ℕ)). IfSome o (λ bytes. sha256 bytes ≡ c.args.output.now.digest)) c.in-Some.is c.in_ok-blob.ensures.digest)
    c.put_output.ensures.put

pub returns-in-None-clause-added : goal.returns-in-None-clause-added
returns-in-None-clause-added g c =
    no_put (g.R.KeepReader.held c.content.new.reader) c.args.writes c.args.output.now
    (subst (λ (o : Option (List ℕ)). FindsOne (g.R.KeepReader.held c.content.new.reader) (λ S y. IsContent S c.args.output.now.digest y) o) c.in-None.is c.in_ok-blob.ensures.found)
