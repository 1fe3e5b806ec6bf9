-- The items and the arguments of callbacks, as they are read and made.
use Rattle.std.proofs.Common.{◌≡◌, ℕ, ◌+◌, List, [], ◌∷◌, ◌++◌, append_assoc, map, IfOk, Result, Ok, Err, ap, sym, ◌∙◌, subst}
use Rattle.std.specs.declared.alloc.Global.{Global}
use Rattle.std.specs.declared.vec.Vec.{Vec}
use Rattle.dscript_value.specs.Plain.{Plain, plain_of}
use Rattle.dscript_value.specs.declared.value.Value.{Value}
use Rattle.dscript_eval_frames.specs.Works.{item_of, items_from}
use Rattle.dscript_eval_frames.specs.declared.work.Callback.{Callback}
use Rattle.dscript_eval_frames.specs.declared.work.Callbacks.{Callbacks}
use Rattle.dscript_eval.specs.CallbackArgs.{args_of}
use Rattle.dscript_eval.proofs.CallbackMoves.{next_item}

-- a copy of the next item
pub item_read
    : {E : Type 0} (r : Result Value E) (c : Callbacks) (x : Value)
    → items_from c c.next ≡ plain_of x ∷ items_from c (c.next + 1) → IfOk r (λ copy. plain_of copy ≡ plain_of x)
    → IfOk r (λ item. plain_of item ≡ item_of c)
item_read r c x is same =
    let P : Plain → Type 0 = λ y. IfOk r (λ item. plain_of item ≡ y) in
    subst P (sym (next_item c (plain_of x) (c.next + 1) is)) same

-- two values are added
pub added_two
    : {A E : Type 0} (r : Result A E) (a b c : List Plain) (x y z w : Plain) → b ≡ a ++ x ∷ []
    → IfOk r (λ done. c ≡ b ++ y ∷ []) → x ≡ z → y ≡ w → IfOk r (λ done. c ≡ a ++ z ∷ w ∷ [])
added_two (Ok done) a b c x y z w first second same other =
    second
    ∙ ap (λ l. l ++ y ∷ []) first
    ∙ append_assoc a (x ∷ []) (y ∷ [])
    ∙ ap (λ p. a ++ p ∷ y ∷ []) same
    ∙ ap (λ p. a ++ z ∷ p ∷ []) other
added_two (Err e) a b c x y z w first second same other = second

-- others are added to the first value
pub after_first
    : (none : List Value) (b c rest : List Plain) (x y : Plain) → none ≡ [] → b ≡ map plain_of none ++ x ∷ [] → x ≡ y
    → c ≡ b ++ rest → c ≡ y ∷ rest
after_first none b c rest x y empty first same more =
    more
    ∙ ap (λ l. l ++ rest) first
    ∙ ap (λ (vs : List Value). (map plain_of vs ++ x ∷ []) ++ rest) empty
    ∙ ap (λ p. p ∷ rest) same

-- the arguments of callbacks of a kind
pub args_as
    : {E : Type 0} (r : Result (Vec Value Global) E) (k kind : Callback) (so_far x : Plain) (n : ℕ) → k ≡ kind
    → IfOk r (λ args. map plain_of args.items ≡ args_of kind so_far x n)
    → IfOk r (λ args. map plain_of args.items ≡ args_of k so_far x n)
args_as r k kind so_far x n is are =
    let P : Callback → Type 0 = λ l. IfOk r (λ args. map plain_of args.items ≡ args_of l so_far x n) in
    subst P (sym is) are

-- the arguments with the next item
pub next_args_are
    : (c : Callbacks) (so_far x : Plain) (args : List Plain) → items_from c c.next ≡ x ∷ items_from c (c.next + 1)
    → args ≡ args_of c.kind so_far x c.next
    → (items_from c c.next ≡ item_of c ∷ items_from c (c.next + 1)) × (args ≡ args_of c.kind so_far (item_of c) c.next)
next_args_are c so_far x args more are = (
  more ∙ ap (λ y. y ∷ items_from c (c.next + 1)) (sym (next_item c x (c.next + 1) more)),
  are ∙ ap (λ y. args_of c.kind so_far y c.next) (sym (next_item c x (c.next + 1) more)),
)
