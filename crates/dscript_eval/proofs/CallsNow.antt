-- What comes of callbacks that are called at once.
use Rattle.std.proofs.Common.{◌≡◌, ◌≢◌, ℕ, zero, suc, ◌+◌, ◌-◌, ◌<◌, ◌≤◌, List, [], ◌∷◌, length, map, take, MatchResult, Option, Some, None, Result, Ok, Err, refl, ap, sym, ◌∙◌, subst, arith}
use Rattle.std.specs.Prelude.{slice_get}
use Rattle.dscript_program.specs.BoundTree as tree
use Rattle.dscript_program.specs.BoundTree.{ExprData}
use Rattle.dscript_program.specs.ProgramData.{FunctionData}
use Rattle.dscript_value.specs.Plain as plain
use Rattle.dscript_value.specs.Plain.{Plain}
use Rattle.dscript_value.specs.declared.parts.Callee.{Callee}
use Rattle.dscript_value.specs.declared.parts.Callee.TheVariants as callees
use Rattle.dscript_eval_operators.specs.CallbackArguments.{Function}
use Rattle.dscript_eval_meaning.specs.Acts.{Act, Acts, Call}
use Rattle.dscript_eval_meaning.specs.Callbacks.{called_back}
use Rattle.dscript_eval_meaning.specs.Evaluating.{followed}
use Rattle.dscript_eval_meaning.specs.Expressions.{value}
use Rattle.dscript_eval_meaning.specs.Frames.{filled, function_frame, within}
use Rattle.dscript_eval_meaning.specs.Lookups.{function_at}
use Rattle.dscript_eval_meaning.specs.Meaning.{acts, function_call}
use Rattle.dscript_eval_meaning.specs.States.{State}
use Rattle.dscript_eval_meaning.specs.Statements.{On, body_value}
use Rattle.dscript_eval_direct.specs.Now.{IsAtOnce, Knowledge, Knows}
use Rattle.dscript_eval_frames.specs.Forms.{acts_at}
use Rattle.dscript_eval_frames.specs.Views.{View}
use Rattle.dscript_eval_frames.specs.Works.{Answer, comes_with, function_of, item_of, items_from, run}
use Rattle.dscript_eval_frames.specs.declared.stop.Stop.{Stop}
use Rattle.dscript_eval_frames.specs.declared.work.Callback.{Callback}
use Rattle.dscript_eval_frames.specs.declared.work.Callbacks.{Callbacks}
use Rattle.dscript_eval_frames.specs.declared.work.CallWork.TheVariants as call
use Rattle.dscript_eval_frames.specs.declared.work.Work.TheVariants as works
use Rattle.dscript_eval_frames.specs.declared.stop.Stop.TheVariants as stops
use Rattle.dscript_eval_frames.proofs.Kept.{memory_stops}
use Rattle.dscript_eval_frames.proofs.Opening.{acts_open}
use Rattle.dscript_eval.specs.AtOnce.{AreLeft, IsBodyGiven, IsCalled}
use Rattle.dscript_eval.specs.CallbackArgs.{args_of}
use Rattle.dscript_eval.proofs.CallMoves.{expr_value}
use Rattle.dscript_eval.proofs.CallbackMoves.{loop_move, next_item}

-- ## Arguments as known locals

filled_at
    : (n : ℕ) (xs : List Plain) (k : ℕ) (x : Plain) → length xs ≤ n → slice_get xs k ≡ Some x
    → slice_get (filled n xs) k ≡ Some x
filled_at n [] k x le is = absurd (let e : None ≡ Some x = is in cc)
filled_at zero (y ∷ ys) k x le is = absurd (omega (arith, le))
filled_at (suc n) (y ∷ ys) zero x le is = is
filled_at (suc n) (y ∷ ys) (suc k) x le is = filled_at n ys k x (omega (arith, le)) is

take_length : (n : ℕ) (xs : List Plain) → length (take n xs) ≤ n
take_length zero xs = omega arith
take_length (suc n) [] = omega arith
take_length (suc n) (x ∷ xs) = let h = take_length n xs in omega (arith, h)

pub knows_args
    : (v : View) (f : FunctionData) (held args : List Plain) (k : Knowledge) → v.program.files ≡ k.files → f.file ≡ k.file
    → f.first_local ≡ k.first → k.own ≡ take (length f.params) args → v.state.constants ≡ k.constants
    → length f.params ≤ f.local_count → Knows k v.program (record v.state { frame = function_frame f held args })
knows_args v f held args k files file first own constants le = record {
  files_are = files;
  file_is = file;
  first_is = first;
  own_are = λ n x there. filled_at f.local_count (take (length f.params) args) n x
      (let h = take_length (length f.params) args in omega (arith, h, le))
      (ap (λ xs. slice_get xs n) (sym own) ∙ there);
  constants_are = constants;
}

-- ## Bodies

pub body_given
    : (v w : View) (f : FunctionData) (e : ExprData) (args : List Plain) (known : Knowledge) (left : ℕ) (x : Plain) (later : ℕ)
    → IsAtOnce known e left x later
    → ((held : List Plain) → Knows known v.program (record v.state { frame = function_frame f held args })) → left ≡ v.state.left
    → w ≡ record v { given = x; state = record v.state { left = later } } → IsBodyGiven v w f e args
body_given v w f e args known left x later now knows left_is is = record {
  value = λ held act.
      ap (λ n. value v.program act e (record v.state { frame = function_frame f held args; left = n })) (sym left_is)
      ∙ now v.program act (record v.state { frame = function_frame f held args }) (knows held)
      ∙ ap (λ (z : View). Ok (z.given, record v.state { frame = function_frame f held args; left = z.state.left })) (sym is);
  others = is ∙ ap (λ (z : View). record v { given = z.given; state = record v.state { left = z.state.left } }) (sym is);
}

-- the arguments may be written in another way
pub item_given
    : (v w : View) (f : FunctionData) (e : ExprData) (x y n m : Plain) → y ≡ x → m ≡ n
    → IsBodyGiven v w f e (y ∷ m ∷ []) → IsBodyGiven v w f e (x ∷ n ∷ [])
item_given v w f e x y n m same other given =
    let P : List Plain → Type 0 = λ xs. IsBodyGiven v w f e xs in
    subst P (ap (λ z. z ∷ m ∷ []) same ∙ ap (λ z. x ∷ z ∷ []) other) given

pub reduction_given
    : (v w : View) (f : FunctionData) (e : ExprData) (a b x y n m : Plain) → b ≡ a → y ≡ x → m ≡ n
    → IsBodyGiven v w f e (b ∷ y ∷ m ∷ []) → IsBodyGiven v w f e (a ∷ x ∷ n ∷ [])
reduction_given v w f e a b x y n m first same other given =
    let P : List Plain → Type 0 = λ xs. IsBodyGiven v w f e xs in
    subst P (ap (λ z. z ∷ y ∷ m ∷ []) first ∙ ap (λ z. a ∷ z ∷ m ∷ []) same ∙ ap (λ z. a ∷ x ∷ z ∷ []) other) given

-- the arguments of callbacks of a kind
pub kind_given
    : (v w : View) (f : FunctionData) (e : ExprData) (kind known : Callback) (so_far x : Plain) (n : ℕ) → kind ≡ known
    → IsBodyGiven v w f e (args_of known so_far x n) → IsBodyGiven v w f e (args_of kind so_far x n)
kind_given v w f e kind known so_far x n is given =
    let P : Callback → Type 0 = λ k. IsBodyGiven v w f e (args_of k so_far x n) in subst P (sym is) given

-- a function whose body is given is called
call_given
    : (v w : View) (number : ℕ) (f : FunctionData) (e : ExprData) (held args : List Plain) → 0 < v.openable
    → function_at v.program number ≡ Some f → f.body ≡ tree.Expr e → IsBodyGiven v w f e args
    → acts_at v (Call (callees.Place number) held args) v.state ≡ Ok (w.given, w.state)
call_given v w number f e held args some found body given =
    let act = acts v.program (v.openable - 1) in
    acts_open v.program v.openable (Call (callees.Place number) held args) v.state some
    ∙ ap (λ o. function_call v.program act o held args v.state) found
    ∙ ap (λ b. within (function_frame f held args) (body_value v.program act b) v.state) body
    ∙ ap (λ m. within (function_frame f held args) m v.state) (expr_value v.program act e)
    ∙ ap (λ r. followed r (λ x after. Ok (x, record after { frame = v.state.frame }))) (given.value held act)
    ∙ ap (λ (z : View). Ok (w.given, z.state)) (sym given.others)

pub called_given
    : (v w : View) (c : Callbacks) (number : ℕ) (f : FunctionData) (e : ExprData) (x : Plain)
    → (function_of c.function).0 ≡ callees.Place number
    → items_from c c.next ≡ x ∷ items_from c (c.next + 1) → 0 < v.openable
    → function_at v.program number ≡ Some f → f.body ≡ tree.Expr e
    → IsBodyGiven v w f e (args_of c.kind v.given x c.next) → IsCalled v w c
called_given v w c number f e x callee more some found body given =
    let args = args_of c.kind v.given x c.next in
    let item = next_item c x (c.next + 1) more in
    record {
      item = more ∙ ap (λ y. y ∷ items_from c (c.next + 1)) (sym item);
      value = ap (λ (g : Callee). acts_at v (Call g (function_of c.function).1 (args_of c.kind v.given (item_of c) c.next)) v.state) callee
          ∙ ap (λ y. acts_at v (Call (callees.Place number) (function_of c.function).1 (args_of c.kind v.given y c.next)) v.state) item
          ∙ call_given v w number f e (function_of c.function).1 args some found body given;
      others = given.others ∙ ap (λ (z : View). record v { given = w.given; state = z.state }) (sym given.others);
    }

-- ## Callbacks

pub called_then
    : (v w : View) (c : Callbacks) → IsCalled v w c
    → comes_with (works.Call (call.Loop c)) v ≡ comes_with (works.Call (call.Came c)) w
called_then v w c is =
    loop_move v c (item_of c) (args_of c.kind v.given (item_of c) c.next) is.item refl
    ∙ ap (λ r. followed r (λ x later. run v.program (works.Call (call.Came c) ∷ v.work) On v.openable x later)) is.value
    ∙ ap (λ (z : View). comes_with (works.Call (call.Came c)) z) (sym is.others)

-- the callbacks after the next item are left
pub left_after
    : (r : Result (Unit {0}) Stop) (c d : Callbacks) (before : Answer) (w : View)
    → MatchResult r (λ _. d ≡ record c { next = c.next + 1 }) (λ stop. stop ≡ stops.Memory)
    → before ≡ comes_with (works.Call (call.Loop (record c { next = c.next + 1 }))) w → AreLeft r d before w
left_after (Ok done) c d before w is move = move ∙ ap (λ e. comes_with (works.Call (call.Loop e)) w) (sym is)
left_after (Err stop) c d before w is move = memory_stops stop before is
