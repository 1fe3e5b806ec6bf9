use Rattle.std.proofs.Common.{◌≡◌, ◌<◌, ℕ, Option, false, length, subst, sym, ◌∙◌}
use Rattle.std.specs.Prelude.{All, MatchOption}
use Rattle.std.specs.List.{HoldsAt}
use Rattle.std.proofs.lemmas.List.{get_or_default}
use Rattle.observed.specs.Asks.{same_ask}
use Rattle.observed.specs.Orders.{same_ask_is}
use Rattle.run_record.proofs.Recorded.{ask_from_search}
use Rattle.run_record.proofs.answers.place_of.Goals as goal

pub returns-then-eq : goal.returns-then-eq
returns-then-eq c = (
  c.if-guess-asks.true,
  λ d.
      get_or_default c.args.asks.now c.args.guess d c.index-asks-guess.result c.if-guess-asks.true
      ∙ sym c.index-asks-guess.is ∙ same_ask_is c.index-asks-guess.result c.args.ask.now (sym c.eq.ensures ∙ c.if-eq.true),
)

pub returns : goal.returns
returns c =
    subst (λ (o : Option ℕ). MatchOption o (All (λ q. same_ask c.args.ask.now q ≡ false) c.args.asks.now)
    (λ place. (place < length c.args.asks.now) × HoldsAt (λ q. q ≡ c.args.ask.now) c.args.asks.now place)) (sym c.ok.ensures.value)
    (ask_from_search c.args.asks.now c.args.ask.now c.binary_search.result c.requires c.binary_search.ensures.bound c.binary_search.ensures.position)
