use Rattle.std.proofs.Common.{◌≡◌, ◌-◌, length, take, ap, sym, subst, ◌∙◌}
use Rattle.dscript_sdk_pips.specs.States.{State, TreeState, with_asks, with_pip}
use Rattle.dscript_sdk_pips.proofs.Asked.{ask_noted, ask_taken_back}
use Rattle.dscript_sdk_pips.proofs.state.SdkState.add_asked.Goals as goal

pub returns-in-Ok-clause-added : goal.returns-in-Ok-clause-added
returns-in-Ok-clause-added c = λ value.
    ap (λ (s : State). with_pip c.args.site.now.file c.args.kind value s)
    (sym (ask_noted c.args.self.now c.note.new.self c.args.ask c.in_ok-note.ensures.noted))
    ∙ c.in-Ok.ensures.added value

pub returns-in-Err-clause-unchanged : goal.returns-in-Err-clause-unchanged
returns-in-Err-clause-unchanged c =
    ask_taken_back c.args.self.now c.note.new.self c.take_back.new.self c.args.ask c.in_ok-note.ensures.noted
    (subst (λ (s : TreeState). c.take_back.new.self ≡ with_asks (take (length s.asks - 1) s.asks) s) c.in-Err.ensures.unchanged
    c.take_back.ensures)
