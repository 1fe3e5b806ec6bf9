-- What comes of statements comes of the works in their places.
use Rattle.std.proofs.Common.{◌≡◌, ◌≢◌, ℕ, true, false, List, [], ◌∷◌, length, drop, map, option_map, Option, Some, None, Ok, refl, ap, sym, ◌∙◌}
use Rattle.std.specs.Prelude.{if◌then◌else◌}
use Rattle.std.specs.Borrow.{Bor}
use Rattle.bx_tree.proofs.Lists.{none_left}
use Rattle.dscript_ast.specs.declared.expr.LoopKind.{LoopKind}
use Rattle.dscript_program.specs.BoundTree as tree
use Rattle.dscript_program.specs.BoundTree.{StmtData, StmtRow, a_stmt, more_stmts, no_stmt, no_stmts, to_stmt, to_stmts}
use Rattle.dscript_program.specs.ProgramData.{ProgramData}
use Rattle.dscript_program.specs.Views.{expr_data, stmt_data}
use Rattle.dscript_program.specs.declared.bound.BoundExpr.{BoundExpr}
use Rattle.dscript_program.specs.declared.bound.BoundStmt.{BoundStmt}
use Rattle.dscript_value.specs.Plain as plain
use Rattle.dscript_value.specs.Plain.{Plain, PlainValues, item_list, plain_values}
use Rattle.dscript_eval_meaning.specs.Acts.{Acts}
use Rattle.dscript_sdk_values.specs.Kinds.{items_in}
use Rattle.dscript_eval_operators.specs.Truth.{is_true}
use Rattle.dscript_eval_meaning.specs.Evaluating.{Gives, answered, followed, gives, spend, ◌>>=◌, ◌>>◌}
use Rattle.dscript_eval_meaning.specs.Frames.{bind, with_local}
use Rattle.dscript_eval_meaning.specs.Meaning.{acts}
use Rattle.dscript_eval_meaning.specs.States as meaning
use Rattle.dscript_eval_meaning.specs.States.{State}
use Rattle.dscript_eval_meaning.specs.Statements.{Way, Back, On, all, does, next, otherwise, turns}
use Rattle.dscript_eval_frames.specs.Forms.{acts_at, bind_form, stmt_form, turn_form, unset_form, value_at}
use Rattle.dscript_eval_frames.specs.Costs.{stmt_cost}
use Rattle.dscript_eval_frames.specs.Views.{View}
use Rattle.dscript_eval_frames.specs.Works.{Continuation, comes, comes_with, goes_by, returned_by, run, unwound}
use Rattle.dscript_eval_frames.specs.declared.work.ExprWork.TheVariants as expr
use Rattle.dscript_eval_frames.specs.declared.work.StmtWork.{StmtWork}
use Rattle.dscript_eval_frames.specs.declared.work.StmtWork.TheVariants as stmt
use Rattle.dscript_eval_frames.specs.declared.frame.Frame.{Frame}
use Rattle.dscript_eval_frames.specs.declared.work.Work.{Work}
use Rattle.dscript_eval_frames.specs.declared.work.Work.TheVariants as works
use Rattle.dscript_eval_frames.proofs.Forms.{no_steps}
use Rattle.dscript_eval_frames.proofs.Followed.{followed-followed, followed-same}

-- the expression of a statement, and then what is left of the statement
pub then_stmt
    : (v : View) (e : Bor BoundExpr) (more : Plain → Gives Way) (w : StmtWork)
    → ((x : Plain) (s : State) → followed (more x s) (λ way later. run v.program v.work way v.openable plain.Undefined later)
    ≡ run v.program (works.Stmt w ∷ v.work) On v.openable x s)
    → goes_by (value_at v (expr_data e.now) >>= more) v
    ≡ comes (record v { work = works.Expr (expr.Value e) ∷ works.Stmt w ∷ v.work })
then_stmt v e more w same =
    followed-followed (value_at v (expr_data e.now) v.state) _ _
    ∙ followed-same (value_at v (expr_data e.now) v.state) _ _ same

-- statements after one that goes on or returns
on_or_back
    : (p : ProgramData) (ws : List Work) (others : Bor (List BoundStmt)) (openable : ℕ) (way : Way) (s : State)
    → followed (next way (all p (acts p openable) (to_stmts (map stmt_data others.now))) s)
    (λ way' later. run p ws way' openable plain.Undefined later)
    ≡ run p (works.Stmt (stmt.All others) ∷ ws) way openable plain.Undefined s
on_or_back p ws others openable On s = refl
on_or_back p ws others openable (Back x) s = refl

no_stmts-is : (p : ProgramData) (act : Acts) (s : State) → all p act no_stmts s ≡ gives On s
unfolding all
no_stmts-is p act s = refl

more_stmts-is
    : (p : ProgramData) (act : Acts) (m : StmtData) (more : StmtRow) (s : State)
    → all p act (more_stmts m more) s ≡ (does p act m >>= λ way. next way (all p act more)) s
unfolding all
more_stmts-is p act m more s = refl

pub all_end
    : (v : View) (ms : Bor (List BoundStmt)) → length ms.now ≡ 0
    → comes_with (works.Stmt (stmt.All ms)) v ≡ comes (record v { given = plain.Undefined })
all_end v ms none =
    ap (λ xs. followed (all v.program (acts_at v) (to_stmts (map stmt_data xs)) v.state)
    (λ way later. run v.program v.work way v.openable plain.Undefined later)) (none_left ms.now none)
    ∙ ap (λ r. followed r (λ way later. run v.program v.work way v.openable plain.Undefined later))
    (no_stmts-is v.program (acts_at v) v.state)

-- no statements after one that goes on or returns
last_on
    : (v : View) (others : Bor (List BoundStmt)) (way : Way) (s : State) → length others.now ≡ 0
    → run v.program (works.Stmt (stmt.All others) ∷ v.work) way v.openable plain.Undefined s
    ≡ run v.program v.work way v.openable plain.Undefined s
last_on v others On s none = all_end (record v { given = plain.Undefined; state = s }) others none
last_on v others (Back x) s none = refl

pub all_move
    : (v : View) (ms others : Bor (List BoundStmt)) (m : Bor BoundStmt) → ms.now ≡ m.now ∷ others.now
    → comes_with (works.Stmt (stmt.All ms)) v
    ≡ comes (record v { work = works.Stmt (stmt.Does m) ∷ works.Stmt (stmt.All others) ∷ v.work })
all_move v ms others m is =
    ap (λ xs. followed (all v.program (acts_at v) (to_stmts (map stmt_data xs)) v.state)
    (λ way later. run v.program v.work way v.openable plain.Undefined later)) is
    ∙ ap (λ r. followed r (λ way later. run v.program v.work way v.openable plain.Undefined later))
    (more_stmts-is v.program (acts_at v) (stmt_data m.now) (to_stmts (map stmt_data others.now)) v.state)
    ∙ followed-followed (does v.program (acts_at v) (stmt_data m.now) v.state) _ _
    ∙ followed-same (does v.program (acts_at v) (stmt_data m.now) v.state) _ _
    (λ way s. on_or_back v.program v.work others v.openable way s)

-- nothing is left after the last statement
pub all_last
    : (v : View) (ms others : Bor (List BoundStmt)) (m : Bor BoundStmt) → ms.now ≡ m.now ∷ others.now
    → length others.now ≡ 0
    → comes_with (works.Stmt (stmt.All ms)) v ≡ comes (record v { work = works.Stmt (stmt.Does m) ∷ v.work })
all_last v ms others m is none =
    all_move v ms others m is
    ∙ followed-same (does v.program (acts_at v) (stmt_data m.now) v.state) _ _
    (λ way s. last_on v others way s none)

-- the turns after one that goes on or returns
turned
    : (p : ProgramData) (ws : List Work) (n : ℕ) (body : Bor BoundStmt) (items : PlainValues) (i openable : ℕ) (way : Way) (s : State)
    → followed (next way (turns n (does p (acts p openable) (stmt_data body.now)) (drop i (item_list (plain_values items).items))) s)
    (λ way' later. run p ws way' openable plain.Undefined later)
    ≡ run p (works.Stmt (stmt.Turns n body items i) ∷ ws) way openable plain.Undefined s
turned p ws n body items i openable On s = refl
turned p ws n body items i openable (Back x) s = refl

-- ## Statements

-- The steps of a statement, and then the rest of it.
pub does_begins
    : (p : ProgramData) (act : Acts) (m : StmtData) (s : State)
    → does p act m s ≡ (spend (stmt_cost m) >> stmt_form p act m) s
unfolding does
does_begins p act (tree.Const n t e) s = refl
does_begins p act (tree.Let n t None) s = refl
does_begins p act (tree.Let n t (Some e)) s = refl
does_begins p act (tree.Assign n e) s = refl
does_begins p act (tree.If c m other) s = refl
does_begins p act (tree.For kind n list m) s = refl
does_begins p act (tree.Return None) s = refl
does_begins p act (tree.Return (Some e)) s = refl
does_begins p act (tree.Value e) s = refl
does_begins p act (tree.Block ss) s = no_steps (stmt_form p act (tree.Block ss)) s
does_begins p act tree.Empty s = no_steps (stmt_form p act tree.Empty) s

pub does_move
    : (v : View) (m : Bor BoundStmt)
    → comes_with (works.Stmt (stmt.Does m)) v
    ≡ goes_by (spend (stmt_cost (stmt_data m.now)) >> stmt_form v.program (acts_at v) (stmt_data m.now)) v
does_move v m =
    ap (λ r. followed r (λ way later. run v.program v.work way v.openable plain.Undefined later))
    (does_begins v.program (acts_at v) (stmt_data m.now) v.state)

pub bind_move
    : (v : View) (n : ℕ) (e : Bor BoundExpr)
    → goes_by (bind_form v.program (acts_at v) n (expr_data e.now)) v
    ≡ comes (record v { work = works.Expr (expr.Value e) ∷ works.Stmt (stmt.Bind n) ∷ v.work })
bind_move v n e = then_stmt v e (λ x. bind n x >> gives On) (stmt.Bind n) (λ x s. refl)

pub branch_move
    : (v : View) (c : Bor BoundExpr) (m : Bor BoundStmt) (other : Option (Bor BoundStmt))
    → goes_by (stmt_form v.program (acts_at v)
    (tree.If (expr_data c.now) (stmt_data m.now) (to_stmt (option_map (λ o. stmt_data o.now) other)))) v
    ≡ comes (record v { work = works.Expr (expr.Value c) ∷ works.Stmt (stmt.Branch m other) ∷ v.work })
branch_move v c m other =
    then_stmt v c
    (λ x. if is_true x then does v.program (acts_at v) (stmt_data m.now)
    else otherwise v.program (acts_at v) (to_stmt (option_map (λ o. stmt_data o.now) other)))
    (stmt.Branch m other) (λ x s. refl)

pub loop_move
    : (v : View) (kind : LoopKind) (n : ℕ) (list : Bor BoundExpr) (body : Bor BoundStmt)
    → goes_by (stmt_form v.program (acts_at v) (tree.For kind n (expr_data list.now) (stmt_data body.now))) v
    ≡ comes (record v { work = works.Expr (expr.Value list) ∷ works.Stmt (stmt.Start n body) ∷ v.work })
loop_move v kind n list body =
    then_stmt v list (λ x. answered (items_in x) >>= λ items. turns n (does v.program (acts_at v) (stmt_data body.now)) items)
    (stmt.Start n body) (λ x s. refl)

pub return_move
    : (v : View) (e : Bor BoundExpr)
    → goes_by (stmt_form v.program (acts_at v) (tree.Return (Some (expr_data e.now)))) v
    ≡ comes (record v { work = works.Expr (expr.Value e) ∷ works.Stmt stmt.Return ∷ v.work })
return_move v e = then_stmt v e (λ x. gives (Back x)) stmt.Return (λ x s. refl)

pub value_move
    : (v : View) (e : Bor BoundExpr)
    → goes_by (stmt_form v.program (acts_at v) (tree.Value (expr_data e.now))) v
    ≡ comes (record v { work = works.Expr (expr.Value e) ∷ works.Stmt stmt.Forget ∷ v.work })
value_move v e = then_stmt v e (λ x. gives On) stmt.Forget (λ x s. refl)

-- a local is bound to what is given
pub bound_move
    : (v w : View) (n : ℕ) (x : Plain) (frame : meaning.Frame) → x ≡ v.given → w ≡ record v { given = plain.Undefined }
    → frame ≡ with_local n x w.state.frame
    → comes_with (works.Stmt (stmt.Bind n)) v ≡ comes (record w { state = record w.state { frame = frame } })
bound_move v w n x frame given_is taken is =
    ap (λ (y : Plain). comes (record v { given = plain.Undefined; state = record v.state { frame = with_local n y v.state.frame } })) (sym given_is)
    ∙ ap (λ (z : View). comes (record z { state = record z.state { frame = with_local n x z.state.frame } })) (sym taken)
    ∙ ap (λ f. comes (record w { state = record w.state { frame = f } })) (sym is)

pub unset_move
    : (v w : View) (n : ℕ) → w ≡ record v { given = plain.Undefined }
    → goes_by (unset_form n) v ≡ comes_with (works.Stmt (stmt.Bind n)) w
unset_move v w n is = ap (λ (z : View). comes_with (works.Stmt (stmt.Bind n)) z) (sym is)

pub no_value_move
    : (v w : View) → w ≡ record v { given = plain.Undefined }
    → goes_by (gives (Back plain.Undefined)) v ≡ returned_by w.given w
no_value_move v w is = ap (λ (z : View). returned_by z.given z) (sym is)

-- ## Branches

pub branch_true
    : (v : View) (m : Bor BoundStmt) (other : Option (Bor BoundStmt)) → is_true v.given ≡ true
    → comes_with (works.Stmt (stmt.Branch m other)) v ≡ comes_with (works.Stmt (stmt.Does m)) v
branch_true v m other holds =
    ap (λ b. goes_by (if b then does v.program (acts_at v) (stmt_data m.now)
    else otherwise v.program (acts_at v) (to_stmt (option_map (λ o. stmt_data o.now) other))) v) holds

branch_false
    : (v : View) (m : Bor BoundStmt) (other : Option (Bor BoundStmt)) → is_true v.given ≡ false
    → comes_with (works.Stmt (stmt.Branch m other)) v
    ≡ goes_by (otherwise v.program (acts_at v) (to_stmt (option_map (λ o. stmt_data o.now) other))) v
branch_false v m other never =
    ap (λ b. goes_by (if b then does v.program (acts_at v) (stmt_data m.now)
    else otherwise v.program (acts_at v) (to_stmt (option_map (λ o. stmt_data o.now) other))) v) never

otherwise-is : (p : ProgramData) (act : Acts) (m : StmtData) (s : State) → otherwise p act (a_stmt m) s ≡ does p act m s
unfolding otherwise
otherwise-is p act m s = refl

pub no_other-is : (p : ProgramData) (act : Acts) (s : State) → otherwise p act no_stmt s ≡ gives On s
unfolding otherwise
no_other-is p act s = refl

pub branch_other
    : (v : View) (m o : Bor BoundStmt) (other : Option (Bor BoundStmt)) → other ≡ Some o → is_true v.given ≡ false
    → comes_with (works.Stmt (stmt.Branch m other)) v ≡ comes_with (works.Stmt (stmt.Does o)) v
branch_other v m o other is never =
    ap (λ x. comes_with (works.Stmt (stmt.Branch m x)) v) is
    ∙ branch_false v m (Some o) never
    ∙ ap (λ r. followed r (λ way later. run v.program v.work way v.openable plain.Undefined later))
    (otherwise-is v.program (acts_at v) (stmt_data o.now) v.state)

pub branch_none
    : (v : View) (m : Bor BoundStmt) (other : Option (Bor BoundStmt)) → other ≡ None → is_true v.given ≡ false
    → comes_with (works.Stmt (stmt.Branch m other)) v ≡ comes_with (works.Stmt stmt.Forget) v
branch_none v m other is never =
    ap (λ x. comes_with (works.Stmt (stmt.Branch m x)) v) is
    ∙ branch_false v m None never
    ∙ ap (λ r. followed r (λ way later. run v.program v.work way v.openable plain.Undefined later))
    (no_other-is v.program (acts_at v) v.state)

-- ## Turns

pub start_move
    : (v : View) (n : ℕ) (body : Bor BoundStmt) (items : PlainValues)
    → items_in v.given ≡ Ok (item_list (plain_values items).items)
    → comes_with (works.Stmt (stmt.Start n body)) v
    ≡ comes (record v { work = works.Stmt (stmt.Turns n body items 0) ∷ v.work })
start_move v n body items is =
    ap (λ o. goes_by (answered o >>= λ xs. turns n (does v.program (acts_at v) (stmt_data body.now)) xs) v) is

pub turns_end
    : (v : View) (n : ℕ) (body : Bor BoundStmt) (items : PlainValues) (i : ℕ)
    → drop i (item_list (plain_values items).items) ≡ []
    → comes_with (works.Stmt (stmt.Turns n body items i)) v ≡ comes_with (works.Stmt stmt.Forget) v
turns_end v n body items i none =
    ap (λ xs. goes_by (turns n (does v.program (acts_at v) (stmt_data body.now)) xs) v) none

-- a turn takes its step first
pub turn_first
    : (v : View) (n : ℕ) (body : Bor BoundStmt) (items : PlainValues) (i j : ℕ) (x : Plain)
    → drop i (item_list (plain_values items).items) ≡ x ∷ drop j (item_list (plain_values items).items)
    → comes_with (works.Stmt (stmt.Turns n body items i)) v
    ≡ goes_by (spend 1 >> turn_form v.program (acts_at v) n (stmt_data body.now) x (drop j (item_list (plain_values items).items))) v
turn_first v n body items i j x is =
    ap (λ xs. goes_by (turns n (does v.program (acts_at v) (stmt_data body.now)) xs) v) is

pub turn_move
    : (v : View) (n : ℕ) (body : Bor BoundStmt) (items : PlainValues) (j : ℕ) (x : Plain) (frame : meaning.Frame)
    → frame ≡ with_local n x v.state.frame
    → goes_by (turn_form v.program (acts_at v) n (stmt_data body.now) x (drop j (item_list (plain_values items).items))) v
    ≡ comes (record v {
      work = works.Stmt (stmt.Does body) ∷ works.Stmt (stmt.Turns n body items j) ∷ v.work;
      state = record v.state { frame = frame };
    })
turn_move v n body items j x frame is =
    let s1 : State = record v.state { frame = with_local n x v.state.frame } in
    followed-followed (does v.program (acts_at v) (stmt_data body.now) s1) _ _
    ∙ followed-same (does v.program (acts_at v) (stmt_data body.now) s1) _ _
    (λ way s. turned v.program v.work n body items j v.openable way s)
    ∙ ap (λ f. comes (record v {
      work = works.Stmt (stmt.Does body) ∷ works.Stmt (stmt.Turns n body items j) ∷ v.work;
      state = record v.state { frame = f };
    })) (sym is)

-- ## Returns

pub unwound_other
    : (w : Work) (x : Plain) (k : Continuation) (openable : ℕ) (s : State) → ((frame : Frame) → w ≢ works.Leave frame)
    → unwound w x k openable s ≡ k (Back x) openable plain.Undefined s
unwound_other (works.Expr w) x k openable s never = refl
unwound_other (works.Call w) x k openable s never = refl
unwound_other (works.Stmt w) x k openable s never = refl
unwound_other (works.Leave frame) x k openable s never = absurd (never frame refl)
unwound_other (works.Keep file decl frame) x k openable s never = refl
unwound_other works.Close x k openable s never = refl

-- work before the end of the body is passed over
pub passed_over
    : (v w : View) (work : Work) → v ≡ record w { work = work ∷ w.work } → ((frame : Frame) → work ≢ works.Leave frame)
    → returned_by v.given v ≡ returned_by w.given w
passed_over v w work is never =
    ap (λ (z : View). returned_by z.given z) is
    ∙ unwound_other work w.given (run w.program w.work) w.openable w.state never

-- the body ends
pub left_body
    : (v w : View) (frame : Frame) → v ≡ record w { work = works.Leave frame ∷ w.work }
    → returned_by v.given v ≡ comes_with (works.Leave frame) w
left_body v w frame is = ap (λ (z : View). returned_by z.given z) is

-- where nothing is left to be done, a return is the end
pub nothing_left : (v : View) → v.work ≡ [] → returned_by v.given v ≡ comes v
nothing_left v none =
    ap (λ ws. run v.program ws (Back v.given) v.openable plain.Undefined v.state) none
    ∙ sym (ap (λ ws. run v.program ws On v.openable v.given v.state) none)
