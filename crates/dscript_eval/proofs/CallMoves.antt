-- What comes of calls comes of the works in their places.
use Rattle.std.proofs.Common.{◌≡◌, ℕ, zero, suc, ◌+◌, ◌-◌, ◌<◌, List, [], ◌∷◌, ◌++◌, append_assoc, length, map, Option, Some, None, Ok, Err, cond, true, false, refl, ap, sym, ◌∙◌, subst, arith}
use Rattle.std.specs.Borrow.{Bor}
use Rattle.std.specs.declared.alloc.Global.{Global}
use Rattle.std.specs.declared.vec.Vec.{Vec}
use Rattle.std.proofs.lemmas.List.{append-nil}
use Rattle.dscript_program.specs.BoundTree as tree
use Rattle.dscript_program.specs.BoundTree.{BodyData, ExprData, StmtData, to_exprs, to_stmts}
use Rattle.dscript_program.specs.ProgramData.{FunctionData, ProgramData}
use Rattle.dscript_program.specs.Views.{expr_data, stmt_data}
use Rattle.dscript_program.specs.declared.bound.BoundExpr.{BoundExpr}
use Rattle.dscript_program.specs.declared.bound.BoundStmt.{BoundStmt}
use Rattle.dscript_value.specs.Plain as plain
use Rattle.dscript_value.specs.Plain.{Plain, item_list, plain_of}
use Rattle.dscript_value.specs.declared.value.Value.{Value}
use Rattle.dscript_value.specs.declared.parts.Callee.TheVariants as callees
use Rattle.dscript_program.specs.declared.ambient.Ambient.{Ambient}
use Rattle.bx_tree.specs.Paths.{Atoms}
use Rattle.bx_tree.proofs.Lists.{none_left}
use Rattle.dscript_sdk_members.specs.Names.{member_named}
use Rattle.dscript_sdk_pips.specs.States.{State as Calls}
use Rattle.dscript_sdk.specs.Calls.{call_of}
use Rattle.dscript_sdk.specs.Members.{is_callback_named, method_of}
use Rattle.dscript_eval_operators.specs.CallbackArguments.{Function}
use Rattle.dscript_sdk_values.specs.Outcomes.{Outcome, Refuses}
use Rattle.dscript_sdk_values.specs.declared.fault.SdkFault.{SdkFault}
use Rattle.dscript_sdk_values.specs.declared.fault.SdkFault.TheVariants as sdk_faults
use Rattle.dscript_eval_frames.specs.Faults.{stop_in}
use Rattle.dscript_eval_frames.specs.Keeps.{StopsWith}
use Rattle.dscript_eval_frames.specs.declared.stop.Stop.{Stop}
use Rattle.dscript_eval_meaning.specs.declared.fault.EvalKind.TheVariants as kinds
use Rattle.dscript_eval_meaning.specs.Acts.{Act, Acts, Call, Demand}
use Rattle.dscript_eval_meaning.specs.Callbacks.{callbacks}
use Rattle.dscript_eval_meaning.specs.Calls.{ambient, applied, call_of_function, items_of, method, plain_method, with_calls}
use Rattle.dscript_eval_meaning.specs.Evaluating.{Fault, Gives, fails, followed, gives, ◌>>=◌}
use Rattle.dscript_eval_meaning.specs.Expressions.{arguments, value}
use Rattle.dscript_eval_meaning.specs.Frames.{function_frame, within}
use Rattle.dscript_eval_meaning.specs.Lookups.{function_at, path_at}
use Rattle.dscript_eval_meaning.specs.Meaning.{acts, function_call, opened}
use Rattle.dscript_eval_meaning.specs.States as meaning
use Rattle.dscript_eval_meaning.specs.States.{State}
use Rattle.dscript_eval_meaning.specs.Statements.{Way, Back, On, all, body_value, returned}
use Rattle.dscript_eval_frames.specs.Forms.{acts_at, value_at}
use Rattle.dscript_eval_frames.specs.Views.{View}
use Rattle.dscript_eval_frames.specs.Frames.{frame_of}
use Rattle.dscript_eval.specs.Bodies.{body_comes}
use Rattle.dscript_eval_frames.specs.Works.{Answer, callee_in, comes, comes_by, comes_with, run, used}
use Rattle.dscript_eval_frames.specs.declared.frame.Frame.{Frame}
use Rattle.dscript_eval_frames.specs.declared.work.CallWork.TheVariants as call
use Rattle.dscript_eval_frames.specs.declared.work.ExprWork.TheVariants as expr
use Rattle.dscript_eval_frames.specs.declared.work.StmtWork.TheVariants as stmt
use Rattle.dscript_eval_frames.specs.declared.work.Use.{Use}
use Rattle.dscript_eval_frames.specs.declared.work.Work.{Work}
use Rattle.dscript_eval_frames.specs.declared.work.Work.TheVariants as works
use Rattle.dscript_eval_frames.proofs.Opening.{acts_open}
use Rattle.dscript_eval_exprs.proofs.Equations.{arguments-are, no_arguments-is}
use Rattle.dscript_eval_frames.proofs.Followed.{followed-followed, followed-same}

-- ## Bodies

-- a body ends, and the frame from before is back
pub left_move
    : (v u w : View) (frame : Frame) → u ≡ record v { openable = v.openable + 1 }
    → w ≡ record u { state = record u.state { frame = frame_of frame } } → comes_with (works.Leave frame) v ≡ comes w
left_move v u w frame ended restored =
    ap (λ (z : View). comes (record z { state = record z.state { frame = frame_of frame } })) (sym ended)
    ∙ ap comes (sym restored)

-- where a body ends
left_at
    : (p : ProgramData) (ws : List Work) (frame : Frame) (way : Way) (openable : ℕ) (s : State)
    → run p (works.Leave frame ∷ ws) way openable plain.Undefined s
    ≡ run p ws On (openable + 1) (returned way) (record s { frame = frame_of frame })
left_at p ws frame On openable s = refl
left_at p ws frame (Back x) openable s = refl

-- an expression in a frame of its own
pub expr_body
    : (p : ProgramData) (act : Acts) (inside : meaning.Frame) (e : ExprData) (ws : List Work) (frame : Frame)
    (openable outside : ℕ) (s : State)
    → openable + 1 ≡ outside → frame_of frame ≡ s.frame
    → followed (within inside (value p act e) s) (λ x later. run p ws On outside x later)
    ≡ followed (value p act e (record s { frame = inside })) (λ x later. run p (works.Leave frame ∷ ws) On openable x later)
expr_body p act inside e ws frame openable outside s openable_is frame_is =
    followed-followed (value p act e (record s { frame = inside })) _ _
    ∙ followed-same (value p act e (record s { frame = inside })) _ _
    (λ x later. ap (λ n. run p ws On n x (record later { frame = s.frame })) (sym openable_is)
    ∙ ap (λ f. run p ws On (openable + 1) x (record later { frame = f })) (sym frame_is))

-- statements in a frame of their own
pub stmts_body
    : (p : ProgramData) (act : Acts) (inside : meaning.Frame) (ss : List StmtData) (ws : List Work) (frame : Frame)
    (openable outside : ℕ) (s : State)
    → openable + 1 ≡ outside → frame_of frame ≡ s.frame
    → followed (within inside (body_value p act (tree.Stmts ss)) s) (λ x later. run p ws On outside x later)
    ≡ followed (all p act (to_stmts ss) (record s { frame = inside }))
    (λ way later. run p (works.Leave frame ∷ ws) way openable plain.Undefined later)
unfolding body_value
stmts_body p act inside ss ws frame openable outside s openable_is frame_is =
    let body = all p act (to_stmts ss) (record s { frame = inside }) in
    followed-followed (followed body (λ way after. Ok (returned way, after))) _ _
    ∙ followed-followed body _ _
    ∙ followed-same body _ _
    (λ way later. ap (λ n. run p ws On n (returned way) (record later { frame = s.frame })) (sym openable_is)
    ∙ ap (λ f. run p ws On (openable + 1) (returned way) (record later { frame = f })) (sym frame_is)
    ∙ sym (left_at p ws frame way openable later))

-- what a call of a function with a body comes to
called_function
    : (v : View) (number : ℕ) (held args : List Plain) (f : FunctionData) → 0 < v.openable
    → function_at v.program number ≡ Some f
    → comes_by (acts_at v (Call (callees.Place number) held args)) v
    ≡ followed (within (function_frame f held args) (body_value v.program (acts v.program (v.openable - 1)) f.body) v.state)
    (λ x later. run v.program v.work On v.openable x later)
called_function v number held args f some found =
    ap (λ r. followed r (λ x later. run v.program v.work On v.openable x later))
    (acts_open v.program v.openable (Call (callees.Place number) held args) v.state some
    ∙ ap (λ o. function_call v.program (acts v.program (v.openable - 1)) o held args v.state) found)

-- the value of a body that is an expression
pub expr_value : (p : ProgramData) (act : Acts) (e : ExprData) → body_value p act (tree.Expr e) ≡ value p act e
unfolding body_value
expr_value p act e = refl

pub opened_body
    : (v : View) (number : ℕ) (held args : List Plain) (f : FunctionData) (frame : meaning.Frame) → 0 < v.openable
    → function_at v.program number ≡ Some f → frame ≡ function_frame f held args
    → comes_by (acts_at v (Call (callees.Place number) held args)) v ≡ body_comes f.body frame v
opened_body v number held args f frame some found is =
    called_function v number held args f some found ∙ ap (λ g. body_comes f.body g v) (sym is)

pub no_code
    : (v : View) (number : ℕ) (held args : List Plain) → 0 < v.openable → function_at v.program number ≡ None
    → comes_by (acts_at v (Call (callees.Place number) held args)) v
    ≡ Err (Fault kinds.Kind v.state.frame.file None)
no_code v number held args some none =
    ap (λ r. followed r (λ x later. run v.program v.work On v.openable x later))
    (acts_open v.program v.openable (Call (callees.Place number) held args) v.state some
    ∙ ap (λ o. function_call v.program (acts v.program (v.openable - 1)) o held args v.state) none)

-- a body that is an expression begins
pub begin_expr
    : (v u : View) (body : BodyData) (frame : meaning.Frame) (e : Bor BoundExpr) (before : Frame) → 0 < v.openable
    → body ≡ tree.Expr (expr_data e.now) → frame_of before ≡ v.state.frame
    → u ≡ record v { openable = v.openable - 1; state = record v.state { frame = frame } }
    → body_comes body frame v
    ≡ comes (record u { work = works.Expr (expr.Value e) ∷ works.Leave before ∷ u.work })
begin_expr v u body frame e before some body_is frame_is entered =
    let act = acts v.program (v.openable - 1) in
    ap (λ b. body_comes b frame v) body_is
    ∙ ap (λ m. followed (within frame m v.state) (λ x later. run v.program v.work On v.openable x later))
    (expr_value v.program act (expr_data e.now))
    ∙ expr_body v.program act frame (expr_data e.now) v.work before (v.openable - 1) v.openable v.state (omega (arith, some)) frame_is
    ∙ ap (λ (z : View). comes (record z { work = works.Expr (expr.Value e) ∷ works.Leave before ∷ z.work })) (sym entered)

-- a body of statements begins
pub begin_stmts
    : (v u : View) (body : BodyData) (frame : meaning.Frame) (ms : Bor (List BoundStmt)) (before : Frame)
    → 0 < v.openable → body ≡ tree.Stmts (map stmt_data ms.now) → frame_of before ≡ v.state.frame
    → u ≡ record v { openable = v.openable - 1; state = record v.state { frame = frame } }
    → body_comes body frame v
    ≡ comes (record u { work = works.Stmt (stmt.All ms) ∷ works.Leave before ∷ u.work })
begin_stmts v u body frame ms before some body_is frame_is entered =
    let act = acts v.program (v.openable - 1) in
    ap (λ b. body_comes b frame v) body_is
    ∙ stmts_body v.program act frame (map stmt_data ms.now) v.work before (v.openable - 1) v.openable v.state (omega (arith, some)) frame_is
    ∙ ap (λ (z : View). comes (record z { work = works.Stmt (stmt.All ms) ∷ works.Leave before ∷ z.work })) (sym entered)

-- ## Calls of values

pub applied_function
    : (v : View) (f : Plain) (args : List Plain) (g : Function) → callee_in f ≡ Some g
    → comes_by (applied v.program (acts_at v) f args) v ≡ comes_by (call_of_function v.program (acts_at v) g.0 g.1 args) v
unfolding applied
applied_function v (plain.Function callee depth held) args g is =
    let e : (callee, item_list held) ≡ g = cc in
    ap (λ (q : Function). comes_by (call_of_function v.program (acts_at v) q.0 q.1 args) v) e
applied_function v _ args g is = let never : None ≡ Some g = is in cc

pub applied_none
    : (v : View) (f : Plain) (args : List Plain) → callee_in f ≡ None
    → comes_by (applied v.program (acts_at v) f args) v ≡ Err (Fault kinds.Kind v.state.frame.file None)
unfolding applied
applied_none v (plain.Function callee depth held) args is =
    let never : Some (callee, item_list held) ≡ None = is in cc
applied_none v _ args is = refl

-- the call of a member function that calls no functions
pub plain_method_move
    : (v : View) (x : Plain) (name : List ℕ) (args : List Plain) → is_callback_named name x ≡ false
    → comes_by (method (acts_at v) x name args) v ≡ comes_by (plain_method x name args) v
unfolding method
plain_method_move v x name args never =
    ap (λ b. comes_by (cond b (callbacks (acts_at v) (member_named name) (items_of x) args) (plain_method x name args)) v) never

pub callback_method_move
    : (v : View) (x : Plain) (name : List ℕ) (args : List Plain) → is_callback_named name x ≡ true
    → comes_by (method (acts_at v) x name args) v
    ≡ comes_by (callbacks (acts_at v) (member_named name) (items_of x) args) v
unfolding method
callback_method_move v x name args holds =
    ap (λ b. comes_by (cond b (callbacks (acts_at v) (member_named name) (items_of x) args) (plain_method x name args)) v) holds

-- an ambient call that gives a value
pub ambient_move
    : (v u : View) (name : Ambient) (args : List Plain) (file : Atoms) (x : Plain) (after : Calls)
    → file ≡ path_at v.program v.state.frame.file → call_of name file args v.state.calls ≡ Ok (x, after)
    → u ≡ record v { state = record v.state { calls = after } }
    → comes_by (ambient v.program name args) v ≡ comes_by (gives x) u
unfolding ambient
ambient_move v u name args file x after file_is is changed =
    ap (λ f. followed (with_calls v.state (call_of name f args v.state.calls)) (λ y later. run v.program v.work On v.openable y later)) (sym file_is)
    ∙ ap (λ r. followed (with_calls v.state r) (λ y later. run v.program v.work On v.openable y later)) is
    ∙ ap (λ (z : View). comes_by (gives x) z) (sym changed)

refused_call
    : (change : Outcome (Plain × Calls)) (fault : SdkFault) (s : State) (k : Plain → Gives (Unit {0}))
    → Refuses fault change → StopsWith (stop_in s.frame.file fault) (followed (with_calls s change) k)
refused_call change sdk_faults.Kind s k h = ap (λ r. followed (with_calls s r) k) (h (λ e. cc))
refused_call change sdk_faults.Missing s k h = ap (λ r. followed (with_calls s r) k) (h (λ e. cc))
refused_call change sdk_faults.Range s k h = ap (λ r. followed (with_calls s r) k) (h (λ e. cc))
refused_call change sdk_faults.BadPath s k h = ap (λ r. followed (with_calls s r) k) (h (λ e. cc))
refused_call change sdk_faults.BadArgument s k h = ap (λ r. followed (with_calls s r) k) (h (λ e. cc))
refused_call change (sdk_faults.User message) s k h = ap (λ r. followed (with_calls s r) k) (h (λ e. cc))
refused_call change sdk_faults.Memory s k h = tt

-- an ambient call that is refused
pub ambient_stops
    : (stop : Stop) (v : View) (name : Ambient) (args : List Plain) (file : Atoms) (fault : SdkFault)
    → file ≡ path_at v.program v.state.frame.file → Refuses fault (call_of name file args v.state.calls)
    → stop ≡ stop_in v.state.frame.file fault → StopsWith stop (comes_by (ambient v.program name args) v)
unfolding ambient
ambient_stops stop v name args file fault file_is h is =
    let k : Plain → Gives (Unit {0}) = λ x later. run v.program v.work On v.openable x later in
    let P : Stop → Type 0 = λ e. StopsWith e (comes_by (ambient v.program name args) v) in
    let Q : Atoms → Type 0 = λ f. Refuses fault (call_of name f args v.state.calls) in
    subst P (sym is)
    (refused_call (call_of name (path_at v.program v.state.frame.file) args v.state.calls) fault v.state k (subst Q file_is h))

-- a call of a member function that gives a value
pub method_move
    : (v u : View) (x y : Plain) (name : List ℕ) (args : List Plain) (after : Calls)
    → is_callback_named name x ≡ false → method_of v.state.calls x name args ≡ Ok (y, after)
    → u ≡ record v { state = record v.state { calls = after } }
    → comes_by (method (acts_at v) x name args) v ≡ comes_by (gives y) u
method_move v u x y name args after never is changed =
    plain_method_move v x name args never
    ∙ ap (λ r. followed (with_calls v.state r) (λ z later. run v.program v.work On v.openable z later)) is
    ∙ ap (λ (w : View). comes_by (gives y) w) (sym changed)

-- a call of a member function that is refused
pub method_stops
    : (stop : Stop) (v : View) (x : Plain) (name : List ℕ) (args : List Plain) (fault : SdkFault)
    → is_callback_named name x ≡ false → Refuses fault (method_of v.state.calls x name args)
    → stop ≡ stop_in v.state.frame.file fault → StopsWith stop (comes_by (method (acts_at v) x name args) v)
method_stops stop v x name args fault never h is =
    let k : Plain → Gives (Unit {0}) = λ y later. run v.program v.work On v.openable y later in
    let P : Stop → Type 0 = λ e. StopsWith e (comes_by (method (acts_at v) x name args) v) in
    let Q : Answer → Type 0 = λ a. StopsWith (stop_in v.state.frame.file fault) a in
    subst P (sym is)
    (subst Q (sym (plain_method_move v x name args never)) (refused_call (method_of v.state.calls x name args) fault v.state k h))

-- ## Arguments

abbrev then_used : View → Use → List Plain → Gives (List Plain) → Gives Plain
then_used v use' done m = m >>= λ xs. used v.program (acts_at v) use' (done ++ xs)

pub arguments_end
    : (v : View) (es : Bor (List BoundExpr)) (done : Vec Value Global) (use' : Use) → length es.now ≡ 0
    → comes_with (works.Call (call.Arguments es done use')) v
    ≡ comes_by (used v.program (acts_at v) use' (map plain_of done.items)) v
arguments_end v es done use' none =
    ap (λ xs. comes_by (then_used v use' (map plain_of done.items) (arguments v.program (acts_at v) (to_exprs (map expr_data xs)))) v)
    (none_left es.now none)
    ∙ ap (λ r. followed (followed r (λ xs. used v.program (acts_at v) use' (map plain_of done.items ++ xs)))
    (λ x later. run v.program v.work On v.openable x later)) (no_arguments-is v.program (acts_at v) v.state)
    ∙ ap (λ xs. comes_by (used v.program (acts_at v) use' xs) v) (append-nil (map plain_of done.items))

pub arguments_move
    : (v : View) (es others : Bor (List BoundExpr)) (e : Bor BoundExpr) (done : Vec Value Global) (use' : Use)
    → es.now ≡ e.now ∷ others.now
    → comes_with (works.Call (call.Arguments es done use')) v
    ≡ comes (record v { work = works.Expr (expr.Value e) ∷ works.Call (call.Argument others done use') ∷ v.work })
arguments_move v es others e done use' is =
    ap (λ xs. comes_by (then_used v use' (map plain_of done.items) (arguments v.program (acts_at v) (to_exprs (map expr_data xs)))) v) is
    ∙ ap (λ r. followed (followed r (λ xs. used v.program (acts_at v) use' (map plain_of done.items ++ xs)))
    (λ x later. run v.program v.work On v.openable x later))
    (arguments-are v.program (acts_at v) v.state (expr_data e.now) (to_exprs (map expr_data others.now)))
    ∙ ap (λ r. followed r (λ x later. run v.program v.work On v.openable x later)) (followed-followed (value_at v (expr_data e.now) v.state) _ _)
    ∙ followed-followed (value_at v (expr_data e.now) v.state) _ _
    ∙ followed-same (value_at v (expr_data e.now) v.state) _ _
    (λ x s. ap (λ r. followed r (λ y later. run v.program v.work On v.openable y later))
    (followed-followed (arguments v.program (acts_at v) (to_exprs (map expr_data others.now)) s) _ _))

-- the argument that is given is added after those that are done
pub argument_move
    : (v w : View) (others : Bor (List BoundExpr)) (done more : Vec Value Global) (use' : Use)
    → map plain_of more.items ≡ map plain_of done.items ++ v.given ∷ [] → w ≡ record v { given = plain.Undefined }
    → comes_with (works.Call (call.Argument others done use')) v ≡ comes_with (works.Call (call.Arguments others more use')) w
argument_move v w others done more use' is taken =
    ap (λ r. followed r (λ x later. run v.program v.work On v.openable x later))
    (followed-same (arguments v.program (acts_at v) (to_exprs (map expr_data others.now)) v.state) _ _
    (λ xs s. ap (λ ys. used v.program (acts_at v) use' ys s)
    (sym (append_assoc (map plain_of done.items) (v.given ∷ []) xs) ∙ ap (λ ys. ys ++ xs) (sym is))))
    ∙ ap (λ (u : View). comes_with (works.Call (call.Arguments others more use')) u) (sym taken)
