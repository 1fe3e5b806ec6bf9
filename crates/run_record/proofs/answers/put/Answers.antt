use Rattle.std.proofs.Common.{List, ap, map, slice_set, sym, ◌∙◌}
use Rattle.observed.specs.declared.access.Access.{Access}
use Rattle.observed.specs.declared.access.Answer.{Answer}
use Rattle.run_record.specs.Answered.{or_absent, with_access}
use Rattle.run_record.proofs.Recorded.{none_put, put_there}
use Rattle.run_record.proofs.answers.put.Goals as goal

pub returns-in_ok-answers-in-Some : goal.returns-in_ok-answers-in-Some
returns-in_ok-answers-in-Some c =
    λ f before.
    let asks = c.args.asks.now in
    ap (λ (xs : List Answer). slice_set xs c.in-Some.place c.in_ok-answers-in-Some.field-0) before
    ∙ ap (λ (x : Answer). slice_set (map (λ q. or_absent (f q)) asks) c.in-Some.place x) c.in_ok-answers-in-Some.ensures
    ∙ put_there asks c.in-Some.place c.in-Asked.ask c.in-Asked.ask c.in-Asked.answer f c.requires.order c.in-Some.ensures.0 (c.in-Some.ensures.1 c.in-Asked.ask)
    ∙ ap (λ (access : Access). map (λ q. or_absent (with_access access q (f q))) asks) (sym c.in-Asked.is)

pub returns-in-None : goal.returns-in-None
returns-in-None c =
    λ f before.
    let asks = c.args.asks.now in
    before ∙ none_put c.in-Asked.ask c.in-Asked.answer f asks c.in-None.ensures
    ∙ ap (λ (access : Access). map (λ q. or_absent (with_access access q (f q))) asks) (sym c.in-Asked.is)
