use Rattle.std.proofs.Common.{◌∙◌, subst, sym, List, Option}
use Rattle.std.proofs.lemmas.Bool.{false≢true}
use Rattle.std.proofs.lemmas.Bool.Decides.{Decides-eqb}
use Rattle.observed.specs.declared.ask.Ask.{Ask as AnyAsk}
use Rattle.observed.specs.Texts.{ReadsAsks}
use Rattle.observed.proofs.ReadTexts.{asks_closed, asks_open}
use Rattle.observed.proofs.texts.asks_of.Goals as goal

pub returns-then-not-is_empty : goal.returns-then-not-is_empty
returns-then-not-is_empty c =
    asks_open c.args.lines.now c.in-Some.rest.now c.in-Some.last.now c.in-Some.ensures.cases.0
    (λ none. false≢true (sym c.if-not-is_empty.true ∙ c.is_empty.ensures ∙ (Decides-eqb _ 0).1 none))

pub returns : goal.returns
returns c =
    subst (λ (o : Option (List AnyAsk)). ReadsAsks c.all_asks.result o)
    (asks_closed c.args.lines.now c.in-Some.rest.now c.in-Some.last.now c.in-Some.ensures.cases.0
    ((Decides-eqb _ 0).0 (sym c.is_empty.ensures ∙ c.if-not-is_empty.false)))
    c.all_asks.ensures
