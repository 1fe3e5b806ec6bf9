use Rattle.std.proofs.Common.{◌≡◌, ℕ, ◌-◌, List, length, take, vec_len, ap, ◌∙◌, arith}
use Rattle.dscript_sdk_calls.specs.declared.tree_ask.TreeAsk.{TreeAsk}
use Rattle.dscript_sdk_pips.specs.States.{TreeState, with_asks}
use Rattle.dscript_sdk_pips.proofs.state.SdkState.take_back.Goals as goal

pub returns : goal.returns
returns c =
    let inside = c.self.inside in
    let here : TreeState =
    record { sources = inside.tree.now; pips = inside.pips.items; counts = inside.counts; asks = inside.asks.items } in
    let size : vec_len inside.asks ≡ length inside.asks.items = omega (arith, inside.asks.ok.0) in
    ap (λ (asks : List TreeAsk). with_asks asks here)
    (c.pop.ensures.rest ∙ ap (λ (n : ℕ). take (n - 1) inside.asks.items) size)
    ∙ ap (λ (s : TreeState). with_asks (take (length s.asks - 1) s.asks) s) c.self.view_is
