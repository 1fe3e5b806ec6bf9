-- What callbacks are called with, and what all of them come to.
use Rattle.std.specs.Prelude.{◌≡◌, ℕ, ◌+◌, pos, List, [], ◌∷◌, map, Option, Some, None}
use Rattle.std.specs.declared.alloc.Global.{Global}
use Rattle.std.specs.declared.vec.Vec.{Vec}
use Rattle.dscript_sdk_members.specs.declared.member.Member.{Member}
use Rattle.dscript_sdk_members.specs.declared.member.Member.TheVariants as members
use Rattle.dscript_sdk_values.specs.Answers.{list_answer}
use Rattle.dscript_eval_operators.specs.CallbackArguments.{Function}
use Rattle.dscript_eval_meaning.specs.Acts.{Acts}
use Rattle.dscript_eval_meaning.specs.Callbacks.{filtered, joined, mapped, reduced}
use Rattle.dscript_eval_meaning.specs.Evaluating.{Gives, answered, ◌>>=◌}
use Rattle.dscript_value.specs.Plain as plain
use Rattle.dscript_value.specs.Plain.{Plain, plain_of}
use Rattle.dscript_value.specs.declared.value.Value.{Value}
use Rattle.dscript_eval_frames.specs.Works.{item_of, items_from}
use Rattle.dscript_eval_frames.specs.declared.work.Callback.{Callback}
use Rattle.dscript_eval_frames.specs.declared.work.Callback.TheVariants as kinds
use Rattle.dscript_eval_frames.specs.declared.work.Callbacks.{Callbacks}

-- an item and its number; in a reduction the value so far comes before them
abbrev pub args_of : Callback → Plain → Plain → ℕ → List Plain
args_of kinds.Reduce so_far item number = so_far ∷ item ∷ plain.Number (pos number) ∷ []
args_of _ so_far item number = item ∷ plain.Number (pos number) ∷ []

-- the arguments of the callback with the next item, or none where there are no more items
abbrev pub AreNextArgs : Callbacks → Plain → Option (Vec Value Global) → Type 0
AreNextArgs c so_far None = items_from c c.next ≡ []
AreNextArgs c so_far (Some args) =
    (items_from c c.next ≡ item_of c ∷ items_from c (c.next + 1))
    × (map plain_of args.items ≡ args_of c.kind so_far (item_of c) c.next)

-- callbacks with all these items, and what is made of what they give
abbrev pub loop_form : Acts → Plain → Callback → Function → List Plain → Gives Plain
loop_form act so_far kinds.Map f items = mapped act f 0 items >>= λ ys. answered (list_answer ys)
loop_form act so_far kinds.Filter f items = filtered act f 0 items >>= λ ys. answered (list_answer ys)
loop_form act so_far kinds.MapMany f items = joined act f 0 [] items >>= λ ys. answered (list_answer ys)
loop_form act so_far kinds.Reduce f items = reduced act f 0 so_far items

-- what kind of callbacks a member has; other members have none
abbrev pub kind_named : Option Member → Option Callback
kind_named (Some members.Map) = Some kinds.Map
kind_named (Some members.Filter) = Some kinds.Filter
kind_named (Some members.MapMany) = Some kinds.MapMany
kind_named (Some members.Reduce) = Some kinds.Reduce
kind_named _ = None
