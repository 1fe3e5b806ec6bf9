-- What comes of the parts after a value comes of the works in their places.
use Rattle.std.proofs.Common.{◌≡◌, ℕ, Bool, true, false, cond, List, [], ◌∷◌, ◌++◌, length, map, refl, ap, sym, ◌∙◌}
use Rattle.std.specs.Borrow.{Bor}
use Rattle.std.specs.declared.alloc.Global.{Global}
use Rattle.std.specs.declared.vec.Vec.{Vec}
use Rattle.bx_tree.proofs.Lists.{none_left}
use Rattle.dscript_program.specs.BoundTree as tree
use Rattle.dscript_program.specs.BoundTree.{ExprRow, PartData, PartRow, more_parts, no_parts, to_exprs, to_parts}
use Rattle.dscript_program.specs.ProgramData.{ProgramData}
use Rattle.dscript_program.specs.Views.{expr_data, part_data}
use Rattle.dscript_program.specs.declared.bound.BoundExpr.{BoundExpr}
use Rattle.dscript_program.specs.declared.bound.BoundPart.{BoundPart}
use Rattle.dscript_value.specs.Plain as plain
use Rattle.dscript_value.specs.Plain.{Plain, plain_of}
use Rattle.dscript_value.specs.declared.value.Value.{Value}
use Rattle.dscript_eval_operators.specs.Indexing.{indexed}
use Rattle.dscript_sdk.specs.Members.{is_function_named, member_of}
use Rattle.dscript_eval_meaning.specs.Acts.{Acts}
use Rattle.dscript_eval_meaning.specs.Calls.{Named, Whole, applied, member, method, subject_call}
use Rattle.dscript_eval_meaning.specs.Evaluating.{Gives, answered, followed, gives, spend, step, ◌>>=◌, ◌>>◌}
use Rattle.dscript_eval_meaning.specs.Expressions.{after, arguments, value}
use Rattle.dscript_eval_meaning.specs.States.{State}
use Rattle.dscript_eval_meaning.specs.Statements.{On}
use Rattle.dscript_eval_frames.specs.Forms.{acts_at, begins_with_call, call_form, method_form, part_form, value_at}
use Rattle.dscript_eval_frames.specs.Views.{View}
use Rattle.dscript_eval_frames.specs.Works.{comes, comes_by, comes_with, run, used}
use Rattle.dscript_eval_frames.specs.declared.work.CallWork.TheVariants as call
use Rattle.dscript_eval_frames.specs.declared.work.ExprWork.TheVariants as expr
use Rattle.dscript_eval_frames.specs.declared.work.Use.{Use}
use Rattle.dscript_eval_frames.specs.declared.work.Use.TheVariants as uses
use Rattle.dscript_eval_frames.specs.declared.work.Work.TheVariants as works
use Rattle.dscript_eval_exprs.specs.AtOnce.{IsGiven}
use Rattle.dscript_eval_exprs.proofs.Equations.{call-is, index-is, member-is, no_parts-is}
use Rattle.dscript_eval_frames.proofs.Followed.{followed-end, followed-followed, followed-same}

-- ## Parts after a value

pub after_end
    : (v : View) (parts : Bor (List BoundPart)) → length parts.now ≡ 0
    → comes_with (works.Expr (expr.After parts)) v ≡ comes v
after_end v parts none =
    ap (λ ps. followed (after v.program (acts_at v) (to_parts (map part_data ps)) (Whole v.given) v.state)
    (λ x later. run v.program v.work On v.openable x later)) (none_left parts.now none)
    ∙ ap (λ r. followed r (λ x later. run v.program v.work On v.openable x later))
    (no_parts-is v.program (acts_at v) v.state (Whole v.given))

called_whole
    : (p : ProgramData) (act : Acts) (args : ExprRow) (more : PartRow) (f : Plain) (s : State)
    → (subject_call p act (arguments p act args) (Whole f) >>= λ y. after p act more (Whole y)) s
    ≡ (spend 1 >> part_form p act f (tree.Call args) more) s
unfolding subject_call
called_whole p act args more f s = followed-followed (step s) _ _

-- the step of a part, and then the rest
after_part
    : (p : ProgramData) (act : Acts) (part : PartData) (more : PartRow) (x : Plain) (s : State)
    → after p act (more_parts part more) (Whole x) s ≡ (spend 1 >> part_form p act x part more) s
after_part p act (tree.Member name) more x s = member-is p act s name more (Whole x)
after_part p act (tree.Index e) more x s = index-is p act s e more (Whole x)
after_part p act (tree.Call args) more x s = call-is p act s args more (Whole x) ∙ called_whole p act args more x s

pub after_move
    : (v : View) (parts others : Bor (List BoundPart)) (part : BoundPart) → parts.now ≡ part ∷ others.now
    → comes_with (works.Expr (expr.After parts)) v
    ≡ comes_by (spend 1 >> part_form v.program (acts_at v) v.given (part_data part) (to_parts (map part_data others.now))) v
after_move v parts others part is =
    ap (λ ps. followed (after v.program (acts_at v) (to_parts (map part_data ps)) (Whole v.given) v.state)
    (λ x later. run v.program v.work On v.openable x later)) is
    ∙ ap (λ r. followed r (λ x later. run v.program v.work On v.openable x later))
    (after_part v.program (acts_at v) (part_data part) (to_parts (map part_data others.now)) v.given v.state)

pub index_move
    : (v w : View) (e : Bor BoundExpr) (others : Bor (List BoundPart)) (x : Value)
    → plain_of x ≡ v.given → w ≡ record v { given = plain.Undefined }
    → comes_by (part_form v.program (acts_at v) v.given (tree.Index (expr_data e.now)) (to_parts (map part_data others.now))) v
    ≡ comes (record w { work = works.Expr (expr.Value e) ∷ works.Expr (expr.Index x) ∷ works.Expr (expr.After others) ∷ w.work })
index_move v w e others x same taken =
    followed-followed (value_at v (expr_data e.now) v.state) _ _
    ∙ followed-same (value_at v (expr_data e.now) v.state) _ _
    (λ i s. followed-followed (answered (indexed v.given i) s) _ _
    ∙ ap (λ g. followed (answered (indexed g i) s) (λ y later. run v.program (works.Expr (expr.After others) ∷ v.work) On v.openable y later)) (sym same))
    ∙ ap (λ (u : View). comes (record u { work = works.Expr (expr.Value e) ∷ works.Expr (expr.Index x) ∷ works.Expr (expr.After others) ∷ u.work })) (sym taken)

pub call_move
    : (v : View) (args : Bor (List BoundExpr)) (done : Vec Value Global) (use' : Use) (others : Bor (List BoundPart))
    → done.items ≡ []
    → comes_by (call_form v.program (acts_at v) (to_exprs (map expr_data args.now)) use' (to_parts (map part_data others.now))) v
    ≡ comes (record v { work = works.Call (call.Arguments args done use') ∷ works.Expr (expr.After others) ∷ v.work })
call_move v args done use' others none =
    followed-followed ((arguments v.program (acts_at v) (to_exprs (map expr_data args.now)) >>= λ xs. used v.program (acts_at v) use' xs) v.state) _ _
    ∙ ap (λ xs. followed ((arguments v.program (acts_at v) (to_exprs (map expr_data args.now)) >>= λ ys. used v.program (acts_at v) use' (map plain_of xs ++ ys)) v.state)
    (λ y later. run v.program (works.Expr (expr.After others) ∷ v.work) On v.openable y later)) (sym none)

-- where no parts follow, there comes what comes without them
pub last_part
    : (v : View) (m : Gives Plain) (others : Bor (List BoundPart)) → length others.now ≡ 0
    → comes_by m (record v { work = works.Expr (expr.After others) ∷ v.work }) ≡ comes_by m v
last_part v m others none =
    followed-same (m v.state) _ _ (λ x s. after_end (record v { given = x; state = s }) others none)

pub call_alone
    : (v : View) (args : Bor (List BoundExpr)) (done : Vec Value Global) (use' : Use) (others : Bor (List BoundPart))
    → done.items ≡ [] → length others.now ≡ 0
    → comes_by (call_form v.program (acts_at v) (to_exprs (map expr_data args.now)) use' (to_parts (map part_data others.now))) v
    ≡ comes_with (works.Call (call.Arguments args done use')) v
call_alone v args done use' others none last =
    call_move v args done use' others none
    ∙ last_part v (arguments v.program (acts_at v) (to_exprs (map expr_data args.now)) >>= λ xs.
    used v.program (acts_at v) use' (map plain_of done.items ++ xs)) others last

-- an index that was given at once
pub index_now
    : (v w : View) (e : Bor BoundExpr) (others : Bor (List BoundPart)) (x : Value) → IsGiven v w (expr_data e.now)
    → comes (record v { work = works.Expr (expr.Value e) ∷ works.Expr (expr.Index x) ∷ works.Expr (expr.After others) ∷ v.work })
    ≡ comes_with (works.Expr (expr.Index x)) (record w { work = works.Expr (expr.After others) ∷ w.work })
index_now v w e others x given =
    ap (λ r. followed r (λ y later. run v.program (works.Expr (expr.Index x) ∷ works.Expr (expr.After others) ∷ v.work) On v.openable y later))
    given.value
    ∙ ap (λ (z : View). comes_with (works.Expr (expr.Index x)) (record z { work = works.Expr (expr.After others) ∷ z.work }))
    (sym given.others)

pub index_next
    : (v w : View) (e : Bor BoundExpr) (others : Bor (List BoundPart)) (x : Value) → w ≡ v
    → comes (record v { work = works.Expr (expr.Value e) ∷ works.Expr (expr.Index x) ∷ works.Expr (expr.After others) ∷ v.work })
    ≡ comes (record w { work = works.Expr (expr.Value e) ∷ works.Expr (expr.Index x) ∷ works.Expr (expr.After others) ∷ w.work })
index_next v w e others x same =
    ap (λ (u : View). comes (record u { work = works.Expr (expr.Value e) ∷ works.Expr (expr.Index x) ∷ works.Expr (expr.After others) ∷ u.work }))
    (sym same)

-- ## Parts after a member

-- a member that is not called as a function is a value first
call_of_value
    : (p : ProgramData) (act : Acts) (args : ExprRow) (more : PartRow) (x : Plain) (name : List ℕ) (s : State)
    → is_function_named s.calls x name ≡ false
    → (subject_call p act (arguments p act args) (Named x name) >>= λ y. after p act more (Whole y)) s
    ≡ followed (member x name s) (λ f. subject_call p act (arguments p act args) (Whole f) >>= λ y. after p act more (Whole y))
unfolding subject_call
call_of_value p act args more x name s never =
    ap (λ b. followed (cond b (step >> arguments p act args >>= λ xs. method act x name xs)
    (member x name >>= λ f. step >> arguments p act args >>= λ xs. applied p act f xs) s) (λ y. after p act more (Whole y))) never
    ∙ followed-followed (member x name s) _ _

named_other
    : (p : ProgramData) (act : Acts) (parts : PartRow) (x : Plain) (name : List ℕ) (s : State)
    → (begins_with_call parts ≡ true → is_function_named s.calls x name ≡ false)
    → after p act parts (Named x name) s ≡ followed (member x name s) (λ y. after p act parts (Whole y))
named_other p act no_parts x name s h =
    no_parts-is p act s (Named x name)
    ∙ sym (followed-end (member x name s))
    ∙ sym (followed-same (member x name s) _ _ (λ y s1. no_parts-is p act s1 (Whole y)))
named_other p act (more_parts (tree.Member n) more) x name s h =
    member-is p act s n more (Named x name)
    ∙ sym (followed-same (member x name s) _ _ (λ y s1. member-is p act s1 n more (Whole y)))
named_other p act (more_parts (tree.Index e) more) x name s h =
    index-is p act s e more (Named x name)
    ∙ sym (followed-same (member x name s) _ _ (λ y s1. index-is p act s1 e more (Whole y)))
named_other p act (more_parts (tree.Call args) more) x name s h =
    call-is p act s args more (Named x name)
    ∙ call_of_value p act args more x name s (h refl)
    ∙ sym (followed-same (member x name s) _ _ (λ y s1. call-is p act s1 args more (Whole y)))

pub member_move
    : (v : View) (name : Bor (List ℕ)) (parts : Bor (List BoundPart))
    → (begins_with_call (to_parts (map part_data parts.now)) ≡ true → is_function_named v.state.calls v.given name.now ≡ false)
    → comes_with (works.Expr (expr.AfterMember name parts)) v
    ≡ comes_by (member v.given name.now) (record v { work = works.Expr (expr.After parts) ∷ v.work })
member_move v name parts h =
    ap (λ r. followed r (λ x later. run v.program v.work On v.openable x later))
    (named_other v.program (acts_at v) (to_parts (map part_data parts.now)) v.given name.now v.state h)
    ∙ followed-followed (member v.given name.now v.state) _ _

pub member_then
    : (v u : View) (name : Bor (List ℕ)) (parts : Bor (List BoundPart))
    → (begins_with_call (to_parts (map part_data parts.now)) ≡ true → is_function_named v.state.calls v.given name.now ≡ false)
    → u ≡ record v { work = works.Expr (expr.After parts) ∷ v.work }
    → comes_with (works.Expr (expr.AfterMember name parts)) v
    ≡ comes_by (answered (member_of u.state.calls u.given name.now)) u
unfolding member
member_then v u name parts h is =
    member_move v name parts h
    ∙ ap (λ (z : View). comes_by (answered (member_of z.state.calls z.given name.now)) z) (sym is)

-- a member after which no parts follow
pub member_alone
    : (v : View) (name : Bor (List ℕ)) (parts : Bor (List BoundPart))
    → (begins_with_call (to_parts (map part_data parts.now)) ≡ true → is_function_named v.state.calls v.given name.now ≡ false)
    → length parts.now ≡ 0
    → comes_with (works.Expr (expr.AfterMember name parts)) v
    ≡ comes_by (answered (member_of v.state.calls v.given name.now)) v
unfolding member
member_alone v name parts h none =
    member_move v name parts h ∙ last_part v (member v.given name.now) parts none

-- the call of a member function
method_part
    : (p : ProgramData) (act : Acts) (args : ExprRow) (more : PartRow) (x : Plain) (name : List ℕ) (s : State)
    → is_function_named s.calls x name ≡ true
    → (subject_call p act (arguments p act args) (Named x name) >>= λ y. after p act more (Whole y)) s
    ≡ (spend 1 >> method_form p act x name args more) s
unfolding subject_call
method_part p act args more x name s holds =
    ap (λ b. followed (cond b (step >> arguments p act args >>= λ xs. method act x name xs)
    (member x name >>= λ f. step >> arguments p act args >>= λ xs. applied p act f xs) s) (λ y. after p act more (Whole y))) holds
    ∙ followed-followed (step s) _ _

pub method_move
    : (v : View) (name : Bor (List ℕ)) (parts others : Bor (List BoundPart)) (args : Bor (List BoundExpr))
    → to_parts (map part_data parts.now)
    ≡ more_parts (tree.Call (to_exprs (map expr_data args.now))) (to_parts (map part_data others.now))
    → is_function_named v.state.calls v.given name.now ≡ true
    → comes_with (works.Expr (expr.AfterMember name parts)) v
    ≡ comes_by (spend 1 >> method_form v.program (acts_at v) v.given name.now (to_exprs (map expr_data args.now))
    (to_parts (map part_data others.now))) v
method_move v name parts others args is holds =
    ap (λ ps. followed (after v.program (acts_at v) ps (Named v.given name.now) v.state)
    (λ x later. run v.program v.work On v.openable x later)) is
    ∙ ap (λ r. followed r (λ x later. run v.program v.work On v.openable x later))
    (call-is v.program (acts_at v) v.state (to_exprs (map expr_data args.now)) (to_parts (map part_data others.now)) (Named v.given name.now)
    ∙ method_part v.program (acts_at v) (to_exprs (map expr_data args.now)) (to_parts (map part_data others.now)) v.given name.now v.state holds)

-- what is called is kept with the call
pub method_call_move
    : (v w : View) (args : ExprRow) (more : PartRow) (name named : List ℕ) (x : Value) → plain_of x ≡ v.given
    → named ≡ name → w ≡ record v { given = plain.Undefined }
    → comes_by (method_form v.program (acts_at v) v.given name args more) v
    ≡ comes_by (call_form w.program (acts_at w) args (uses.Method x named) more) w
method_call_move v w args more name named x same name_is taken =
    ap (λ g. comes_by (method_form v.program (acts_at v) g name args more) v) (sym same)
    ∙ ap (λ n. comes_by (method_form v.program (acts_at v) (plain_of x) n args more) v) (sym name_is)
    ∙ ap (λ (u : View). comes_by (call_form u.program (acts_at u) args (uses.Method x named) more) u) (sym taken)

pub apply_call_move
    : (v w : View) (args : ExprRow) (more : PartRow) (x : Value) → plain_of x ≡ v.given
    → w ≡ record v { given = plain.Undefined }
    → comes_by (part_form v.program (acts_at v) v.given (tree.Call args) more) v
    ≡ comes_by (call_form w.program (acts_at w) args (uses.Apply x) more) w
apply_call_move v w args more x same taken =
    ap (λ g. comes_by (part_form v.program (acts_at v) g (tree.Call args) more) v) (sym same)
    ∙ ap (λ (u : View). comes_by (call_form u.program (acts_at u) args (uses.Apply x) more) u) (sym taken)
