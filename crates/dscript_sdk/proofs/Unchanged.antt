-- A call that changes nothing comes to its answer and the state before it, or to its fault; and one that asks the
-- tree comes to its answer and the state with its ask.
use Rattle.std.proofs.Common.{◌≡◌, List, [], ◌∷◌, ◌++◌, Option, Some, None, Ok, Err, MatchResult, Result, ap, sym, ◌∙◌}
use Rattle.std.specs.Prelude.{IfOk, IfErr}
use Rattle.bx_tree.specs.Paths.{Atoms}
use Rattle.dscript_program.specs.declared.ambient.Ambient.{Ambient}
use Rattle.dscript_value.specs.declared.value.Value.{Value}
use Rattle.dscript_value.specs.Plain.{Plain, plain_of}
use Rattle.dscript_sdk_values.specs.declared.fault.SdkFault.{SdkFault}
use Rattle.dscript_sdk_values.specs.Outcomes.{Outcome, Refuses, ◌>>=◌}
use Rattle.dscript_sdk_calls.specs.declared.tree_ask.TreeAsk.{TreeAsk}
use Rattle.dscript_sdk_pips.specs.States.{State, TreeState, asking, over_tree, unchanged, with_ask, with_asks}
use Rattle.dscript_sdk_pips.proofs.Asked.{ask_noted}
use Rattle.dscript_sdk.specs.Calls.{call_of}
use Rattle.dscript_sdk.specs.Members.{answer_with, noted_if}

pub answered : (o : Outcome Plain) (s : State) (r : Result Value SdkFault)
    → MatchResult r (λ v. o ≡ Ok (plain_of v)) (λ f. Refuses f o) → IfOk r (λ v. unchanged o s ≡ Ok (plain_of v, s))
answered o s (Ok v) h = ap (λ x. unchanged x s) h
answered o s (Err f) h = tt

-- that, of an ambient call
pub left_alone : (name other : Ambient) (spec : Atoms) (args : List Plain) (o : Outcome Plain) (s : State) (r : Result Value SdkFault)
    → name ≡ other → call_of other spec args s ≡ unchanged o s → MatchResult r (λ v. o ≡ Ok (plain_of v)) (λ f. Refuses f o)
    → IfOk r (λ v. call_of name spec args s ≡ Ok (plain_of v, s))
left_alone name other spec args o s (Ok v) is comes h = ap (λ (a : Ambient). call_of a spec args s) is ∙ comes ∙ ap (λ (x : Outcome Plain). unchanged x s) h
left_alone name other spec args o s (Err f) is comes h = tt

pub refused : (o : Outcome Plain) (s : State) (r : Result Value SdkFault)
    → MatchResult r (λ v. o ≡ Ok (plain_of v)) (λ f. Refuses f o) → IfErr r (λ f. Refuses f (unchanged o s))
refused o s (Ok v) h = tt
refused o s (Err f) h = λ n. ap (λ x. unchanged x s) (h n)

-- ## Calls that ask the tree

pub asked_once
    : (o : Outcome (Plain × TreeAsk)) (before after : TreeState) (value : Plain) (ask : TreeAsk) → o ≡ Ok (value, ask)
    → after ≡ with_asks (before.asks ++ ask ∷ []) before → asking o (over_tree before) ≡ Ok (value, over_tree after)
asked_once o before after value ask e noted =
    ap (λ (x : Outcome (Plain × TreeAsk)). asking x (over_tree before)) e
    ∙ ap (λ (s : State). Ok (value, s)) (sym (ask_noted before after ask noted))

pub asking_refused : (o : Outcome (Plain × TreeAsk)) (s : State) (fault : SdkFault) → Refuses fault o → Refuses fault (asking o s)
asking_refused o s fault h = λ n. ap (λ (x : Outcome (Plain × TreeAsk)). asking x s) (h n)

pub answered_with
    : (ask : Option TreeAsk) (o : Outcome Plain) (s after : State) (value : Plain) → o ≡ Ok value → after ≡ noted_if ask s
    → answer_with ask o s ≡ Ok (value, after)
answered_with None o s after value e noted =
    ap (λ (x : Outcome Plain). unchanged x s) e ∙ ap (λ (t : State). Ok (value, t)) (sym noted)
answered_with (Some ask) o s after value e noted =
    ap (λ (x : Outcome Plain). x >>= λ y. Ok (y, with_ask ask s)) e ∙ ap (λ (t : State). Ok (value, t)) (sym noted)

pub refused_with
    : (ask : Option TreeAsk) (o : Outcome Plain) (s : State) (fault : SdkFault) → Refuses fault o → Refuses fault (answer_with ask o s)
refused_with None o s fault h = λ n. ap (λ (x : Outcome Plain). unchanged x s) (h n)
refused_with (Some ask) o s fault h = λ n. ap (λ (x : Outcome Plain). x >>= λ y. Ok (y, with_ask ask s)) (h n)
