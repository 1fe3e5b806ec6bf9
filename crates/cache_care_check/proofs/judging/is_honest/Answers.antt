use Rattle.std.proofs.Common.{Option, subst}
use Rattle.two_phase.specs.Finding.{FindsOne}
use Rattle.cache_care_check.specs.Judging.{AreTexts}
use Rattle.cache_care_check.specs.declared.texts.EntryTexts.{EntryTexts}
use Rattle.cache_care_check.proofs.Judged.{honest_where, no_texts}
use Rattle.cache_care_check.proofs.judging.is_honest.Goals as goal

pub returns-in-Some-clause-honest : goal.returns-in-Some-clause-honest
returns-in-Some-clause-honest g c =
    honest_where (g.K.Keeper.known c.texts_of.new.keeper).held (g.K.Keeper.known c.keeps_texts.new.keeper).held c.args.entry.now c.in-Some.texts
    c.keeps_texts.result c.keeps_texts.ensures.known.held
    (subst (λ (o : Option EntryTexts). FindsOne (g.K.Keeper.known c.texts_of.new.keeper).held (λ S t. AreTexts S c.args.entry.now t) o) c.in-Some.is
    c.in_ok-texts.ensures.found)
    c.keeps_texts.ensures.keeps

pub returns-in-None-clause-honest : goal.returns-in-None-clause-honest
returns-in-None-clause-honest g c =
    no_texts (g.K.Keeper.known c.texts_of.new.keeper).held c.args.entry.now
    (subst (λ (o : Option EntryTexts). FindsOne (g.K.Keeper.known c.texts_of.new.keeper).held (λ S t. AreTexts S c.args.entry.now t) o) c.in-None.is
    c.in_ok-texts.ensures.found)
