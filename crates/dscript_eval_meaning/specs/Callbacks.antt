-- The members of lists that call functions. A callback gets an item and its number.
use Rattle.std.specs.Prelude.{ℕ, ◌+◌, pos, if◌then◌else◌, List, [], ◌∷◌, Option, Some}
use Rattle.dscript_value.specs.Plain as plain
use Rattle.dscript_value.specs.Plain.{Plain}
use Rattle.dscript_sdk_values.specs.Answers.{list_answer}
use Rattle.dscript_sdk_members.specs.declared.member.Member.{Member}
use Rattle.dscript_sdk_members.specs.declared.member.Member.TheVariants as members
use Rattle.dscript_eval_operators.specs.CallbackArguments.{Function, callback_in, reduction_in}
use Rattle.dscript_eval_operators.specs.Spreads.{with_items_of}
use Rattle.dscript_eval_operators.specs.Truth.{is_true}
use Rattle.dscript_eval_meaning.specs.declared.fault.EvalKind.TheVariants as kinds
use Rattle.dscript_eval_meaning.specs.Acts.{Acts, Call}
use Rattle.dscript_eval_meaning.specs.Evaluating.{Gives, answered, fails, gives, ◌>>=◌}

module _ (act : Acts) where
  -- Each callback opens a call, whatever function it is.
  abbrev pub called_back : Function → List Plain → Gives Plain
  called_back f args = act (Call f.0 f.1 args)

  -- what a callback gives at each of these items, of which the first has this number
  abbrev pub mapped : Function → ℕ → List Plain → Gives (List Plain)
  mapped f number [] = gives []
  mapped f number (x ∷ xs) =
      called_back f (x ∷ plain.Number (pos number) ∷ []) >>= λ y.
      mapped f (number + 1) xs >>= λ ys.
      gives (y ∷ ys)

  -- the items at which a callback gives what counts as true
  abbrev pub filtered : Function → ℕ → List Plain → Gives (List Plain)
  filtered f number [] = gives []
  filtered f number (x ∷ xs) =
      called_back f (x ∷ plain.Number (pos number) ∷ []) >>= λ y.
      filtered f (number + 1) xs >>= λ kept.
      gives (if is_true y then x ∷ kept else kept)

  -- The items of the lists that a callback gives, after those that are done. Each list is looked at
  -- before the next callback.
  abbrev pub joined : Function → ℕ → List Plain → List Plain → Gives (List Plain)
  joined f number done [] = gives done
  joined f number done (x ∷ xs) =
      called_back f (x ∷ plain.Number (pos number) ∷ []) >>= λ y.
      answered (with_items_of done y) >>= λ more.
      joined f (number + 1) more xs

  -- the value so far comes before the item and its number
  abbrev pub reduced : Function → ℕ → Plain → List Plain → Gives Plain
  reduced f number so_far [] = gives so_far
  reduced f number so_far (x ∷ xs) =
      called_back f (so_far ∷ x ∷ plain.Number (pos number) ∷ []) >>= λ y.
      reduced f (number + 1) y xs

  -- the call of a member that calls functions; a list has no other
  unfoldable pub callbacks : Option Member → List Plain → List Plain → Gives Plain
  callbacks (Some members.Map) items args =
      answered (callback_in args) >>= λ f. mapped f 0 items >>= λ ys. answered (list_answer ys)
  callbacks (Some members.Filter) items args =
      answered (callback_in args) >>= λ f. filtered f 0 items >>= λ ys. answered (list_answer ys)
  callbacks (Some members.MapMany) items args =
      answered (callback_in args) >>= λ f. joined f 0 [] items >>= λ ys. answered (list_answer ys)
  callbacks (Some members.Reduce) items args =
      answered (reduction_in args) >>= λ r. reduced r.0 0 r.1 items
  callbacks _ items args = fails kinds.Missing
