-- States over a source tree with one more ask.
use Rattle.std.proofs.Common.{◌≡◌, ◌-◌, List, [], ◌∷◌, ◌++◌, length, take, ap, ◌∙◌, arith, length-append}
use Rattle.std.proofs.lemmas.List.{take_at}
use Rattle.dscript_sdk_calls.specs.declared.tree_ask.TreeAsk.{TreeAsk}
use Rattle.dscript_sdk_pips.specs.States.{TreeState, over_tree, with_ask, with_asks}

-- an ask that was noted is one more ask
pub ask_noted : (before after : TreeState) (ask : TreeAsk) → after ≡ with_asks (before.asks ++ ask ∷ []) before
    → over_tree after ≡ with_ask ask (over_tree before)
ask_noted before after ask noted = ap over_tree noted

-- an ask that was noted and taken back leaves the state as it was
pub ask_taken_back : (before noted after : TreeState) (ask : TreeAsk) → noted ≡ with_asks (before.asks ++ ask ∷ []) before
    → after ≡ with_asks (take (length noted.asks - 1) noted.asks) noted → after ≡ before
ask_taken_back before noted after ask e f =
    f ∙ ap (λ (s : TreeState). with_asks (take (length s.asks - 1) s.asks) s) e
    ∙ ap (λ (asks : List TreeAsk). with_asks asks before)
    (take_at before.asks (ask ∷ []) (length (before.asks ++ ask ∷ []) - 1) (omega (arith, length-append before.asks (ask ∷ []))))
