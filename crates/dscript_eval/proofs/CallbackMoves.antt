-- What comes of callbacks comes of the works in their places.
use Rattle.std.proofs.Common.{◌≡◌, ◌≢◌, ℕ, ◌+◌, ◌-◌, ◌<◌, pos, true, false, if◌then◌else◌, List, [], ◌∷◌, ◌++◌, append_assoc, drop, map, Option, Some, None, Ok, Err, refl, ap, sym, subst, ◌∙◌, arith}
use Rattle.std.specs.Prelude.{unwrap_or}
use Rattle.std.proofs.lemmas.List.{append-nil}
use Rattle.dscript_value.specs.Grown.{grown_items}
use Rattle.dscript_value.specs.Plain as plain
use Rattle.dscript_value.specs.Plain.{Plain}
use Rattle.dscript_value.specs.declared.growing.GrowingList.{GrowingList}
use Rattle.dscript_sdk_values.specs.Answers.{list_answer}
use Rattle.dscript_sdk_values.specs.declared.fault.SdkFault.{SdkFault}
use Rattle.dscript_sdk_values.specs.Outcomes.{Refuses}
use Rattle.dscript_program.specs.declared.ambient.Ambient.{Ambient as AmbientCall}
use Rattle.dscript_value.specs.Plain.{item_list, plain_values}
use Rattle.dscript_value.specs.declared.parts.Callee.{Callee}
use Rattle.dscript_value.specs.declared.parts.Callee.TheVariants as callees
use Rattle.dscript_eval_operators.specs.CallbackArguments.{Function, callback_in, reduction_in}
use Rattle.dscript_eval_operators.specs.Spreads.{with_items_of}
use Rattle.dscript_eval_operators.specs.Truth.{is_true}
use Rattle.dscript_eval_meaning.specs.Acts.{Acts, Call}
use Rattle.dscript_eval_meaning.specs.Callbacks.{called_back, callbacks, filtered, joined, mapped, reduced}
use Rattle.dscript_eval_meaning.specs.Calls.{ambient, held_method, items_of}
use Rattle.dscript_sdk.specs.Members.{is_callback_found, is_callback_named}
use Rattle.dscript_sdk_members.specs.Names.{member_named}
use Rattle.dscript_sdk_values.specs.Kinds.{items_in}
use Rattle.dscript_sdk_values.specs.declared.fault.SdkFault.TheVariants as sdk_faults
use Rattle.dscript_eval_meaning.specs.Meaning.{acts}
use Rattle.dscript_eval_meaning.specs.Evaluating.{Gives, answered, fails, followed, ◌>>=◌}
use Rattle.dscript_eval_meaning.specs.States.{State}
use Rattle.dscript_eval_meaning.specs.Statements.{On}
use Rattle.dscript_sdk_members.specs.declared.member.Member.{Member}
use Rattle.dscript_sdk_members.specs.declared.member.Member.TheVariants as members
use Rattle.dscript_eval_meaning.specs.declared.fault.EvalKind.TheVariants as eval_kinds
use Rattle.dscript_eval.specs.CallbackArgs.{args_of, kind_named, loop_form}
use Rattle.dscript_eval_frames.specs.Forms.{acts_at, each_form}
use Rattle.dscript_eval_frames.specs.Keeps.{StopsWith}
use Rattle.dscript_eval_frames.specs.Faults.{stop_in}
use Rattle.dscript_eval_frames.specs.declared.stop.Stop.{Stop}
use Rattle.dscript_eval_frames.specs.Views.{View}
use Rattle.dscript_eval_frames.specs.Works.{Answer, came, comes, comes_by, comes_with, done_of, function_of, item_of, items_from, loops, run}
use Rattle.dscript_eval_frames.specs.declared.work.Callback.{Callback}
use Rattle.dscript_eval_frames.specs.declared.work.Callback.TheVariants as kinds
use Rattle.dscript_eval_frames.specs.declared.work.Callbacks.{Callbacks}
use Rattle.dscript_eval_frames.specs.declared.work.CallWork.TheVariants as call
use Rattle.dscript_eval_frames.specs.declared.work.Work.TheVariants as works
use Rattle.dscript_eval_frames.proofs.Opening.{acts_open}
use Rattle.dscript_eval_frames.proofs.Followed.{followed-followed, followed-same}
use Rattle.dscript_eval_frames.proofs.ItemLists.{item_there}
use Rattle.dscript_eval_frames.proofs.Refused.{stops_first}

-- ## After the last item

abbrev loop_by : View → Callback → Callbacks → List Plain → Gives Plain
loop_by v kinds.Map c xs =
    mapped (acts_at v) (function_of c.function) c.next xs >>= λ ys. answered (list_answer (done_of c ++ ys))
loop_by v kinds.Filter c xs =
    filtered (acts_at v) (function_of c.function) c.next xs >>= λ ys. answered (list_answer (done_of c ++ ys))
loop_by v kinds.MapMany c xs =
    joined (acts_at v) (function_of c.function) c.next (done_of c) xs >>= λ ys. answered (list_answer ys)
loop_by v kinds.Reduce c xs = reduced (acts_at v) (function_of c.function) c.next v.given xs

loop_is
    : (v : View) (kind : Callback) (c : Callbacks)
    → loops v.program (acts_at v) v.given kind c ≡ loop_by v kind c (items_from c c.next)
loop_is v kinds.Map c = refl
loop_is v kinds.Filter c = refl
loop_is v kinds.MapMany c = refl
loop_is v kinds.Reduce c = refl

end_by
    : (v : View) (kind : Callback) (c : Callbacks) → kind ≢ kinds.Reduce
    → comes_by (loop_by v kind c []) v ≡ comes_by (answered (list_answer (done_of c))) v
end_by v kinds.Map c n = ap (λ xs. comes_by (answered (list_answer xs)) v) (append-nil (done_of c))
end_by v kinds.Filter c n = ap (λ xs. comes_by (answered (list_answer xs)) v) (append-nil (done_of c))
end_by v kinds.MapMany c n = refl
end_by v kinds.Reduce c n = absurd (n refl)

pub loop_end
    : (v : View) (c : Callbacks) → c.kind ≢ kinds.Reduce → items_from c c.next ≡ []
    → comes_with (works.Call (call.Loop c)) v ≡ comes_by (answered (list_answer (done_of c))) v
loop_end v c n none =
    ap (λ m. comes_by m v) (loop_is v c.kind c) ∙ ap (λ xs. comes_by (loop_by v c.kind c xs) v) none ∙ end_by v c.kind c n

pub reduction_end
    : (v : View) (c : Callbacks) → c.kind ≡ kinds.Reduce → items_from c c.next ≡ []
    → comes_with (works.Call (call.Loop c)) v ≡ comes v
reduction_end v c is none =
    ap (λ k. comes_by (loops v.program (acts_at v) v.given k c) v) is
    ∙ ap (λ xs. comes_by (reduced (acts_at v) (function_of c.function) c.next v.given xs) v) none

-- ## The next item

next_by
    : (v : View) (kind : Callback) (c : Callbacks) (x : Plain) → item_of c ≡ x
    → comes_by (loop_by v kind c (x ∷ items_from c (c.next + 1))) v
    ≡ followed (called_back (acts_at v) (function_of c.function) (args_of kind v.given x c.next) v.state)
    (λ y later. followed (came v.program (acts_at v) y kind c later) (λ z s. run v.program v.work On v.openable z s))
next_by v kinds.Map c x is =
    let f = function_of c.function in
    let calls = called_back (acts_at v) f (x ∷ plain.Number (pos c.next) ∷ []) v.state in
    ap (λ r. followed r (λ z s. run v.program v.work On v.openable z s)) (followed-followed calls _ _)
    ∙ followed-followed calls _ _
    ∙ followed-same calls _ _
    (λ y s. ap (λ r. followed r (λ z later. run v.program v.work On v.openable z later))
    (followed-followed (mapped (acts_at v) f (c.next + 1) (items_from c (c.next + 1)) s) _ _))
next_by v kinds.Filter c x is =
    let f = function_of c.function in
    let calls = called_back (acts_at v) f (x ∷ plain.Number (pos c.next) ∷ []) v.state in
    ap (λ r. followed r (λ z s. run v.program v.work On v.openable z s)) (followed-followed calls _ _)
    ∙ followed-followed calls _ _
    ∙ followed-same calls _ _
    (λ y s. ap (λ r. followed r (λ z later. run v.program v.work On v.openable z later))
    (followed-followed (filtered (acts_at v) f (c.next + 1) (items_from c (c.next + 1)) s) _ _
    ∙ ap (λ i. followed (filtered (acts_at v) f (c.next + 1) (items_from c (c.next + 1)) s)
    (λ kept. answered (list_answer (done_of c ++ (if is_true y then i ∷ kept else kept))))) (sym is)))
next_by v kinds.MapMany c x is =
    let f = function_of c.function in
    let calls = called_back (acts_at v) f (x ∷ plain.Number (pos c.next) ∷ []) v.state in
    ap (λ r. followed r (λ z s. run v.program v.work On v.openable z s)) (followed-followed calls _ _)
    ∙ followed-followed calls _ _
    ∙ followed-same calls _ _
    (λ y s. ap (λ r. followed r (λ z later. run v.program v.work On v.openable z later))
    (followed-followed (answered (with_items_of (done_of c) y) s) _ _))
next_by v kinds.Reduce c x is =
    followed-followed (called_back (acts_at v) (function_of c.function) (v.given ∷ x ∷ plain.Number (pos c.next) ∷ []) v.state) _ _

-- the item at the next position
pub next_item : (c : Callbacks) (x : Plain) (n : ℕ) → items_from c c.next ≡ x ∷ items_from c n → item_of c ≡ x
next_item c x n is =
    ap (λ o. unwrap_or o plain.Undefined) (item_there (item_list (plain_values c.items).items) c.next x (items_from c n) is)

pub loop_move
    : (v : View) (c : Callbacks) (x : Plain) (args : List Plain) → items_from c c.next ≡ x ∷ items_from c (c.next + 1)
    → args ≡ args_of c.kind v.given x c.next
    → comes_with (works.Call (call.Loop c)) v
    ≡ comes_by (called_back (acts_at v) (function_of c.function) args) (record v { work = works.Call (call.Came c) ∷ v.work })
loop_move v c x args more args_are =
    ap (λ m. comes_by m v) (loop_is v c.kind c)
    ∙ ap (λ xs. comes_by (loop_by v c.kind c xs) v) more
    ∙ next_by v c.kind c x (next_item c x (c.next + 1) more)
    ∙ ap (λ xs. comes_by (called_back (acts_at v) (function_of c.function) xs) (record v { work = works.Call (call.Came c) ∷ v.work })) (sym args_are)

pub loop_next
    : (v w : View) (c : Callbacks) (f : Function) (x : Plain) (args : List Plain)
    → items_from c c.next ≡ x ∷ items_from c (c.next + 1) → args ≡ args_of c.kind v.given x c.next
    → f ≡ function_of c.function → w ≡ record v { work = works.Call (call.Came c) ∷ v.work }
    → comes_with (works.Call (call.Loop c)) v ≡ comes_by (called_back (acts_at w) f args) w
loop_next v w c f x args more args_are function_is is =
    loop_move v c x args more args_are
    ∙ ap (λ g. comes_by (called_back (acts_at v) g args) (record v { work = works.Call (call.Came c) ∷ v.work })) (sym function_is)
    ∙ ap (λ (z : View). comes_by (called_back (acts_at z) f args) z) (sym is)

-- ## What a callback gave

came_as
    : (v : View) (kind : Callback) (c : Callbacks) → c.kind ≡ kind
    → comes_with (works.Call (call.Came c)) v ≡ comes_by (came v.program (acts_at v) v.given kind c) v
came_as v kind c is = ap (λ k. comes_by (came v.program (acts_at v) v.given k c) v) is

loops_as
    : (v : View) (kind : Callback) (c : Callbacks) → c.kind ≡ kind
    → comes_by (loops v.program (acts_at v) v.given kind c) v ≡ comes_with (works.Call (call.Loop c)) v
loops_as v kind c is = ap (λ k. comes_by (loops v.program (acts_at v) v.given k c) v) (sym is)

-- what `map` gets is an item
pub came_map
    : (v w : View) (c : Callbacks) (more : GrowingList) → c.kind ≡ kinds.Map
    → grown_items more ≡ done_of c ++ v.given ∷ [] → w ≡ record v { given = plain.Undefined }
    → comes_with (works.Call (call.Came c)) v
    ≡ comes_with (works.Call (call.Loop (record c { done = more; next = c.next + 1 }))) w
came_map v w c more kind is taken =
    let calls = mapped (acts_at v) (function_of c.function) (c.next + 1) (items_from c (c.next + 1)) v.state in
    came_as v kinds.Map c kind
    ∙ ap (λ r. followed r (λ x later. run v.program v.work On v.openable x later))
    (followed-same calls _ _
    (λ ys s. ap (λ xs. answered (list_answer xs) s)
    (sym (append_assoc (done_of c) (v.given ∷ []) ys) ∙ ap (λ xs. xs ++ ys) (sym is))))
    ∙ loops_as (record v { given = plain.Undefined }) kinds.Map (record c { done = more; next = c.next + 1 }) kind
    ∙ ap (λ (u : View). comes_with (works.Call (call.Loop (record c { done = more; next = c.next + 1 }))) u) (sym taken)

pub came_dropped
    : (v : View) (c : Callbacks) → c.kind ≡ kinds.Filter → is_true v.given ≡ false
    → comes_with (works.Call (call.Came c)) v
    ≡ comes_with (works.Call (call.Loop (record c { next = c.next + 1 }))) v
came_dropped v c kind never =
    came_as v kinds.Filter c kind
    ∙ ap (λ b. comes_by (filtered (acts_at v) (function_of c.function) (c.next + 1) (items_from c (c.next + 1)) >>= λ ys.
    answered (list_answer (done_of c ++ (if b then item_of c ∷ ys else ys)))) v) never
    ∙ loops_as v kinds.Filter (record c { next = c.next + 1 }) kind

pub came_kept
    : (v : View) (c : Callbacks) (more : GrowingList) → c.kind ≡ kinds.Filter → is_true v.given ≡ true
    → grown_items more ≡ done_of c ++ item_of c ∷ []
    → comes_with (works.Call (call.Came c)) v
    ≡ comes_with (works.Call (call.Loop (record c { done = more; next = c.next + 1 }))) v
came_kept v c more kind holds is =
    let calls = filtered (acts_at v) (function_of c.function) (c.next + 1) (items_from c (c.next + 1)) v.state in
    came_as v kinds.Filter c kind
    ∙ ap (λ b. comes_by (filtered (acts_at v) (function_of c.function) (c.next + 1) (items_from c (c.next + 1)) >>= λ ys.
    answered (list_answer (done_of c ++ (if b then item_of c ∷ ys else ys)))) v) holds
    ∙ ap (λ r. followed r (λ x later. run v.program v.work On v.openable x later))
    (followed-same calls _ _
    (λ ys s. ap (λ xs. answered (list_answer xs) s)
    (sym (append_assoc (done_of c) (item_of c ∷ []) ys) ∙ ap (λ xs. xs ++ ys) (sym is))))
    ∙ loops_as v kinds.Filter (record c { done = more; next = c.next + 1 }) kind

-- what `mapMany` gets are items
pub came_many
    : (v : View) (c : Callbacks) (more : GrowingList) → c.kind ≡ kinds.MapMany
    → with_items_of (done_of c) v.given ≡ Ok (grown_items more)
    → comes_with (works.Call (call.Came c)) v
    ≡ comes_with (works.Call (call.Loop (record c { done = more; next = c.next + 1 }))) v
came_many v c more kind is =
    came_as v kinds.MapMany c kind
    ∙ ap (λ o. comes_by (answered o >>= λ done. joined (acts_at v) (function_of c.function) (c.next + 1) done (items_from c (c.next + 1))
    >>= λ ys. answered (list_answer ys)) v) is
    ∙ loops_as v kinds.MapMany (record c { done = more; next = c.next + 1 }) kind

pub many_stops
    : (v : View) (c : Callbacks) (stop : Stop) (fault : SdkFault) → c.kind ≡ kinds.MapMany
    → stop ≡ stop_in v.state.frame.file fault → Refuses fault (with_items_of (done_of c) v.given)
    → StopsWith stop (comes_with (works.Call (call.Came c)) v)
many_stops v c stop fault kind is h =
    let P : Answer → Type 0 = λ a. StopsWith stop a in
    subst P (sym (came_as v kinds.MapMany c kind))
    (stops_first stop (with_items_of (done_of c) v.given) fault _ _ v.state is h)

-- what `reduce` gets is the value so far
pub came_reduced
    : (v : View) (c : Callbacks) → c.kind ≡ kinds.Reduce
    → comes_with (works.Call (call.Came c)) v
    ≡ comes_with (works.Call (call.Loop (record c { next = c.next + 1 }))) v
came_reduced v c kind =
    came_as v kinds.Reduce c kind ∙ loops_as v kinds.Reduce (record c { next = c.next + 1 }) kind

-- ## Where callbacks begin

abbrev loop_with : View → Callback → Function → ℕ → List Plain → List Plain → Gives Plain
loop_with v kinds.Map f n done xs = mapped (acts_at v) f n xs >>= λ ys. answered (list_answer (done ++ ys))
loop_with v kinds.Filter f n done xs = filtered (acts_at v) f n xs >>= λ ys. answered (list_answer (done ++ ys))
loop_with v kinds.MapMany f n done xs = joined (acts_at v) f n done xs >>= λ ys. answered (list_answer ys)
loop_with v kinds.Reduce f n done xs = reduced (acts_at v) f n v.given xs

loops_with
    : (v : View) (kind : Callback) (c : Callbacks)
    → loop_with v kind (function_of c.function) c.next (done_of c) (items_from c c.next)
    ≡ loops v.program (acts_at v) v.given kind c
loops_with v kinds.Map c = refl
loops_with v kinds.Filter c = refl
loops_with v kinds.MapMany c = refl
loops_with v kinds.Reduce c = refl

form_with
    : (v : View) (kind : Callback) (f : Function) (items : List Plain)
    → loop_form (acts_at v) v.given kind f items ≡ loop_with v kind f 0 [] items
form_with v kinds.Map f items = refl
form_with v kinds.Filter f items = refl
form_with v kinds.MapMany f items = refl
form_with v kinds.Reduce f items = refl

pub loop_begins
    : (v : View) (kind : Callback) (c : Callbacks) (f : Function) (items : List Plain)
    → c.kind ≡ kind → function_of c.function ≡ f → item_list (plain_values c.items).items ≡ items
    → c.next ≡ 0 → grown_items c.done ≡ []
    → comes_by (loop_form (acts_at v) v.given kind f items) v ≡ comes_with (works.Call (call.Loop c)) v
loop_begins v kind c f items kind_is function_is items_are next_is done_is =
    ap (λ m. comes_by m v) (form_with v kind f items)
    ∙ ap (λ g. comes_by (loop_with v kind g 0 [] items) v) (sym function_is)
    ∙ ap (λ xs. comes_by (loop_with v kind (function_of c.function) 0 [] (drop 0 xs)) v) (sym items_are)
    ∙ ap (λ n. comes_by (loop_with v kind (function_of c.function) n [] (items_from c n)) v) (sym next_is)
    ∙ ap (λ ds. comes_by (loop_with v kind (function_of c.function) c.next ds (items_from c c.next)) v) (sym done_is)
    ∙ ap (λ m. comes_by m v) (loops_with v kind c)
    ∙ loops_as v kind c kind_is

-- the function of a callback is read first
each_is
    : (act : Acts) (so_far : Plain) (kind : Callback) (items args : List Plain) (s : State) → kind ≢ kinds.Reduce
    → each_form act kind items args s ≡ followed (answered (callback_in args) s) (λ f. loop_form act so_far kind f items)
unfolding callbacks
each_is act so_far kinds.Map items args s never = refl
each_is act so_far kinds.Filter items args s never = refl
each_is act so_far kinds.MapMany items args s never = refl
each_is act so_far kinds.Reduce items args s never = absurd (never refl)

reduce_is
    : (act : Acts) (items args : List Plain) (s : State)
    → each_form act kinds.Reduce items args s
    ≡ followed (answered (reduction_in args) s) (λ r. loop_form act r.1 kinds.Reduce r.0 items)
unfolding callbacks
reduce_is act items args s = refl

pub each_begins
    : (v : View) (kind : Callback) (items args : List Plain) (f : Function) → kind ≢ kinds.Reduce
    → callback_in args ≡ Ok f
    → comes_by (each_form (acts_at v) kind items args) v ≡ comes_by (loop_form (acts_at v) v.given kind f items) v
each_begins v kind items args f never is =
    ap (λ r. followed r (λ x later. run v.program v.work On v.openable x later)) (each_is (acts_at v) v.given kind items args v.state never)
    ∙ ap (λ o. followed (followed (answered o v.state) (λ g. loop_form (acts_at v) v.given kind g items))
    (λ x later. run v.program v.work On v.openable x later)) is

pub each_stops
    : (v : View) (kind : Callback) (items args : List Plain) (stop : Stop) (fault : SdkFault) → kind ≢ kinds.Reduce
    → stop ≡ stop_in v.state.frame.file fault → Refuses fault (callback_in args)
    → StopsWith stop (comes_by (each_form (acts_at v) kind items args) v)
each_stops v kind items args stop fault never is h =
    let P : Answer → Type 0 = λ a. StopsWith stop a in
    subst P
    (sym (ap (λ r. followed r (λ x later. run v.program v.work On v.openable x later)) (each_is (acts_at v) v.given kind items args v.state never)))
    (stops_first stop (callback_in args) fault _ _ v.state is h)

pub reduce_begins
    : (v w : View) (items args : List Plain) (f : Function) (x : Plain)
    → reduction_in args ≡ Ok (f, x) → w ≡ record v { given = x }
    → comes_by (each_form (acts_at v) kinds.Reduce items args) v ≡ comes_by (loop_form (acts_at w) w.given kinds.Reduce f items) w
reduce_begins v w items args f x is given_is =
    ap (λ r. followed r (λ y later. run v.program v.work On v.openable y later)) (reduce_is (acts_at v) items args v.state)
    ∙ ap (λ o. followed (followed (answered o v.state) (λ r. loop_form (acts_at v) r.1 kinds.Reduce r.0 items))
    (λ y later. run v.program v.work On v.openable y later)) is
    ∙ ap (λ (z : View). comes_by (loop_form (acts_at z) z.given kinds.Reduce f items) z) (sym given_is)

pub reduce_stops
    : (v : View) (items args : List Plain) (stop : Stop) (fault : SdkFault)
    → stop ≡ stop_in v.state.frame.file fault → Refuses fault (reduction_in args)
    → StopsWith stop (comes_by (each_form (acts_at v) kinds.Reduce items args) v)
reduce_stops v items args stop fault is h =
    let P : Answer → Type 0 = λ a. StopsWith stop a in
    subst P
    (sym (ap (λ r. followed r (λ y later. run v.program v.work On v.openable y later)) (reduce_is (acts_at v) items args v.state)))
    (stops_first stop (reduction_in args) fault _ _ v.state is h)

-- ## Callbacks that are no functions with bodies

pub called_at
    : (v : View) (f : Function) (callee : Callee) (args : List Plain) → f.0 ≡ callee
    → comes_by (called_back (acts_at v) f args) v ≡ comes_by (acts_at v (Call callee f.1 args)) v
called_at v f callee args is = ap (λ c. comes_by (acts_at v (Call c f.1 args)) v) is

pub called_ambient
    : (v : View) (name : AmbientCall) (held args : List Plain) → 0 < v.openable
    → comes_by (acts_at v (Call (callees.Ambient name) held args)) v ≡ comes_by (ambient v.program name args) v
called_ambient v name held args some =
    ap (λ r. followed r (λ x later. run v.program v.work On v.openable x later))
    (acts_open v.program v.openable (Call (callees.Ambient name) held args) v.state some)

pub called_member
    : (v w : View) (name : List ℕ) (held args : List Plain) → 0 < v.openable
    → w ≡ record v { work = works.Close ∷ v.work; openable = v.openable - 1 }
    → comes_by (acts_at v (Call (callees.Member name) held args)) v ≡ comes_by (held_method (acts_at w) held name args) w
called_member v w name held args some is =
    let calls = held_method (acts v.program (v.openable - 1)) held name args v.state in
    let same : v.openable ≡ v.openable - 1 + 1 = omega (arith, some) in
    ap (λ r. followed r (λ x later. run v.program v.work On v.openable x later))
    (acts_open v.program v.openable (Call (callees.Member name) held args) v.state some)
    ∙ followed-same calls _ _ (λ x later. ap (λ n. run v.program v.work On n x later) same)
    ∙ ap (λ (z : View). comes_by (held_method (acts_at z) held name args) z) (sym is)

-- ## Members by the kind of their callbacks

abbrev pub by_kind : Acts → Option Callback → List Plain → List Plain → Gives Plain
by_kind act None items args = fails eval_kinds.Missing
by_kind act (Some kind) items args = each_form act kind items args

callbacks_by
    : (act : Acts) (member : Option Member) (items args : List Plain) (s : State)
    → callbacks act member items args s ≡ by_kind act (kind_named member) items args s
unfolding callbacks
callbacks_by act None items args s = refl
callbacks_by act (Some members.Length) items args s = refl
callbacks_by act (Some members.Contains) items args s = refl
callbacks_by act (Some members.StartsWith) items args s = refl
callbacks_by act (Some members.EndsWith) items args s = refl
callbacks_by act (Some members.Split) items args s = refl
callbacks_by act (Some members.Concat) items args s = refl
callbacks_by act (Some members.Join) items args s = refl
callbacks_by act (Some members.Map) items args s = refl
callbacks_by act (Some members.Filter) items args s = refl
callbacks_by act (Some members.MapMany) items args s = refl
callbacks_by act (Some members.Reduce) items args s = refl
callbacks_by act (Some members.Name) items args s = refl
callbacks_by act (Some members.Parent) items args s = refl
callbacks_by act (Some members.Path) items args s = refl
callbacks_by act (Some members.Combine) items args s = refl
callbacks_by act (Some members.ChangeExtension) items args s = refl
callbacks_by act (Some members.Root) items args s = refl
callbacks_by act (Some members.GetFile) items args s = refl
callbacks_by act (Some members.GetContent) items args s = refl
callbacks_by act (Some members.GetOutputFile) items args s = refl
callbacks_by act (Some members.GetOutputDirectory) items args s = refl

pub callbacks_are
    : (v : View) (member : Option Member) (kind : Option Callback) (items args : List Plain) → kind ≡ kind_named member
    → comes_by (callbacks (acts_at v) member items args) v ≡ comes_by (by_kind (acts_at v) kind items args) v
callbacks_are v member kind items args is =
    ap (λ r. followed r (λ x later. run v.program v.work On v.openable x later)) (callbacks_by (acts_at v) member items args v.state)
    ∙ ap (λ k. comes_by (by_kind (acts_at v) k items args) v) (sym is)

-- ## Lists

listed_by
    : (y : Plain) (member : Option Member) → is_callback_found y member ≡ true → (fault : SdkFault)
    → items_in y ≡ Err fault → ⊥
listed_by y None holds fault is = let never : false ≡ true = holds in cc
listed_by (plain.Listed depth items) (Some m) holds fault is = let never : Ok (item_list items) ≡ Err fault = is in cc
listed_by plain.Undefined (Some m) holds fault is = let never : false ≡ true = holds in cc
listed_by (plain.Flag a) (Some m) holds fault is = let never : false ≡ true = holds in cc
listed_by (plain.Number a) (Some m) holds fault is = let never : false ≡ true = holds in cc
listed_by (plain.Text a) (Some m) holds fault is = let never : false ≡ true = holds in cc
listed_by (plain.Path a) (Some m) holds fault is = let never : false ≡ true = holds in cc
listed_by (plain.File a) (Some m) holds fault is = let never : false ≡ true = holds in cc
listed_by (plain.Directory a) (Some m) holds fault is = let never : false ≡ true = holds in cc
listed_by (plain.Relative a) (Some m) holds fault is = let never : false ≡ true = holds in cc
listed_by (plain.Atom a) (Some m) holds fault is = let never : false ≡ true = holds in cc
listed_by (plain.Object a b) (Some m) holds fault is = let never : false ≡ true = holds in cc
listed_by (plain.Function a b c) (Some m) holds fault is = let never : false ≡ true = holds in cc
listed_by (plain.Static a) (Some m) holds fault is = let never : false ≡ true = holds in cc
listed_by (plain.Process a) (Some m) holds fault is = let never : false ≡ true = holds in cc
listed_by (plain.Artifact a) (Some m) holds fault is = let never : false ≡ true = holds in cc
listed_by (plain.Argument a) (Some m) holds fault is = let never : false ≡ true = holds in cc

listed : (name : List ℕ) (y : Plain) → is_callback_named name y ≡ true → (fault : SdkFault) → items_in y ≡ Err fault → ⊥
unfolding is_callback_named
listed name y holds fault is = listed_by y (member_named name) holds fault is

not_listed
    : (name : List ℕ) (y : Plain) (file : ℕ) (fault : SdkFault) (before : Answer) → is_callback_named name y ≡ true
    → Refuses fault (items_in y) → StopsWith (stop_in file fault) before
not_listed name y file sdk_faults.Kind before holds h = absurd (listed name y holds sdk_faults.Kind (h (λ e. cc)))
not_listed name y file sdk_faults.Missing before holds h = absurd (listed name y holds sdk_faults.Missing (h (λ e. cc)))
not_listed name y file sdk_faults.Range before holds h = absurd (listed name y holds sdk_faults.Range (h (λ e. cc)))
not_listed name y file sdk_faults.BadPath before holds h = absurd (listed name y holds sdk_faults.BadPath (h (λ e. cc)))
not_listed name y file sdk_faults.BadArgument before holds h = absurd (listed name y holds sdk_faults.BadArgument (h (λ e. cc)))
not_listed name y file (sdk_faults.User message) before holds h = absurd (listed name y holds (sdk_faults.User message) (h (λ e. cc)))
not_listed name y file sdk_faults.Memory before holds h = tt

-- a value without items has no callbacks
pub no_callbacks
    : (name : List ℕ) (y : Plain) (file : ℕ) (fault : SdkFault) (stop : Stop) (before : Answer)
    → is_callback_named name y ≡ true → stop ≡ stop_in file fault → Refuses fault (items_in y) → StopsWith stop before
no_callbacks name y file fault stop before holds is h =
    let P : Stop → Type 0 = λ e. StopsWith e before in subst P (sym is) (not_listed name y file fault before holds h)

items_by : (y : Plain) (items : List Plain) → items_in y ≡ Ok items → items_of y ≡ items
items_by (plain.Listed depth its) items is = let same : Ok (item_list its) ≡ Ok items = is in cc
items_by plain.Undefined items is = let never : Err sdk_faults.Kind ≡ Ok items = is in cc
items_by (plain.Flag a) items is = let never : Err sdk_faults.Kind ≡ Ok items = is in cc
items_by (plain.Number a) items is = let never : Err sdk_faults.Kind ≡ Ok items = is in cc
items_by (plain.Text a) items is = let never : Err sdk_faults.Kind ≡ Ok items = is in cc
items_by (plain.Path a) items is = let never : Err sdk_faults.Kind ≡ Ok items = is in cc
items_by (plain.File a) items is = let never : Err sdk_faults.Kind ≡ Ok items = is in cc
items_by (plain.Directory a) items is = let never : Err sdk_faults.Kind ≡ Ok items = is in cc
items_by (plain.Relative a) items is = let never : Err sdk_faults.Kind ≡ Ok items = is in cc
items_by (plain.Atom a) items is = let never : Err sdk_faults.Kind ≡ Ok items = is in cc
items_by (plain.Object a b) items is = let never : Err sdk_faults.Kind ≡ Ok items = is in cc
items_by (plain.Function a b c) items is = let never : Err sdk_faults.Kind ≡ Ok items = is in cc
items_by (plain.Static a) items is = let never : Err sdk_faults.Kind ≡ Ok items = is in cc
items_by (plain.Process a) items is = let never : Err sdk_faults.Kind ≡ Ok items = is in cc
items_by (plain.Artifact a) items is = let never : Err sdk_faults.Kind ≡ Ok items = is in cc
items_by (plain.Argument a) items is = let never : Err sdk_faults.Kind ≡ Ok items = is in cc

pub callbacks_with
    : (v : View) (member other : Option Member) (y : Plain) (items args : List Plain) → other ≡ member → items_in y ≡ Ok items
    → comes_by (callbacks (acts_at v) member (items_of y) args) v ≡ comes_by (callbacks (acts_at v) other items args) v
callbacks_with v member other y items args same is =
    ap (λ m. comes_by (callbacks (acts_at v) m (items_of y) args) v) (sym same)
    ∙ ap (λ xs. comes_by (callbacks (acts_at v) other xs args) v) (items_by y items is)
