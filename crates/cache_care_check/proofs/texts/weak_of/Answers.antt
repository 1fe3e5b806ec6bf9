use Rattle.std.proofs.Common.{ℕ, List, Option, subst}
use Rattle.content_store.specs.Contents.{IsContent}
use Rattle.prints.specs.ReadWeak.{read_weak_text}
use Rattle.two_phase.specs.Finding.{FindsOne}
use Rattle.cache_care_check.proofs.FoundTexts.{no_text, text_found}
use Rattle.cache_care_check.proofs.texts.weak_of.Goals as goal

pub returns-in-Some-clause-found : goal.returns-in-Some-clause-found
returns-in-Some-clause-found g c =
    text_found read_weak_text (g.K.Keeper.known c.get.new.keeper).held c.args.digest.now c.in-Some.text c.bytes.result.now c.weak_in.result
    (subst (λ (o : Option (List ℕ)). FindsOne (g.K.Keeper.known c.get.new.keeper).held (λ S y. IsContent S c.args.digest.now y) o) c.in-Some.is c.in_ok-text.ensures.found)
    c.bytes.ensures c.weak_in.ensures.read

pub returns-in-None-clause-found : goal.returns-in-None-clause-found
returns-in-None-clause-found g c =
    no_text read_weak_text (g.K.Keeper.known c.get.new.keeper).held c.args.digest.now
    (subst (λ (o : Option (List ℕ)). FindsOne (g.K.Keeper.known c.get.new.keeper).held (λ S y. IsContent S c.args.digest.now y) o) c.in-None.is c.in_ok-text.ensures.found)
