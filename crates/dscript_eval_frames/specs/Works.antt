-- What the machine comes to: each work has a meaning, by how the works after it go on.
use Rattle.std.specs.Prelude.{ℕ, ◌+◌, if◌then◌else◌, unwrap_or, slice_get, List, [], ◌∷◌, ◌++◌, drop, map}
use Rattle.std.specs.Prelude.{option_map, Option, Some, None, Result, Ok}
use Rattle.dscript_program.specs.BoundTree.{to_elements, to_exprs, to_holes, to_operands, to_parts, to_props}
use Rattle.dscript_program.specs.BoundTree.{to_stmt, to_stmts}
use Rattle.dscript_program.specs.ProgramData.{DeclData, FileData, ProgramData}
use Rattle.dscript_program.specs.Views.{element_data, expr_data, hole_data, operand_data, part_data}
use Rattle.dscript_program.specs.Views.{prop_data, stmt_data}
use Rattle.dscript_value.specs.Grown.{grown_items}
use Rattle.dscript_value.specs.Plain as plain
use Rattle.dscript_value.specs.Plain.{Plain, item_list, plain_field, plain_function, plain_of}
use Rattle.dscript_value.specs.Plain.{plain_values}
use Rattle.dscript_value.specs.declared.value.FunctionRef.{FunctionRef}
use Rattle.dscript_sdk_values.specs.Answers.{list_answer, text_answer}
use Rattle.dscript_sdk_values.specs.Kinds.{items_in}
use Rattle.dscript_sdk_values.specs.Outcomes.{Outcome}
use Rattle.dscript_eval_operators.specs.CallbackArguments.{Function}
use Rattle.dscript_eval_operators.specs.Indexing.{indexed}
use Rattle.dscript_eval_operators.specs.Operators.{operated, prefixed}
use Rattle.dscript_eval_operators.specs.PathLiterals.{first_hole}
use Rattle.dscript_eval_operators.specs.RelativeLiterals.{atom_literal, relative_literal}
use Rattle.dscript_eval_operators.specs.Spreads.{spread_fields, with_items_of}
use Rattle.dscript_eval_operators.specs.Texts.{literal_hole, template_hole}
use Rattle.dscript_eval_operators.specs.Truth.{is_true}
use Rattle.dscript_eval_meaning.specs.Acts.{Acts}
use Rattle.dscript_eval_meaning.specs.Callbacks.{filtered, joined, mapped, reduced}
use Rattle.dscript_eval_meaning.specs.Calls.{Named, Whole, applied, method}
use Rattle.dscript_eval_meaning.specs.Constants.{with_status}
use Rattle.dscript_eval_meaning.specs.Evaluating.{Gives, Stop, answered, followed, gives as no_cost, ◌>>=◌, ◌>>◌}
use Rattle.dscript_eval_meaning.specs.Expressions.{after, arguments, elements, fields, hole_texts, operands}
use Rattle.dscript_eval_meaning.specs.Expressions.{path_value, value}
use Rattle.dscript_eval_meaning.specs.Frames.{bind}
use Rattle.dscript_eval_meaning.specs.Meaning.{acts, demand_decls, demand_files}
use Rattle.dscript_eval_meaning.specs.States.{Done, State}
use Rattle.dscript_eval_meaning.specs.Statements.{Way, Back, On, all, does, otherwise, turns}
use Rattle.dscript_eval_frames.specs.Made.{object_answer}
use Rattle.dscript_eval_frames.specs.Views.{View}
use Rattle.dscript_eval_frames.specs.Frames.{frame_of}
use Rattle.dscript_eval_frames.specs.declared.work.Callback.{Callback}
use Rattle.dscript_eval_frames.specs.declared.work.Callback.TheVariants as kinds
use Rattle.dscript_eval_frames.specs.declared.work.Callbacks.{Callbacks}
use Rattle.dscript_eval_frames.specs.declared.work.CallWork.{CallWork}
use Rattle.dscript_eval_frames.specs.declared.work.CallWork.TheVariants as call
use Rattle.dscript_eval_frames.specs.declared.work.ExprWork.{ExprWork}
use Rattle.dscript_eval_frames.specs.declared.work.ExprWork.TheVariants as expr
use Rattle.dscript_eval_frames.specs.declared.work.Literal.{Literal}
use Rattle.dscript_eval_frames.specs.declared.work.Literal.TheVariants as literals
use Rattle.dscript_eval_frames.specs.declared.work.StmtWork.{StmtWork}
use Rattle.dscript_eval_frames.specs.declared.work.StmtWork.TheVariants as stmt
use Rattle.dscript_eval_frames.specs.declared.work.Use.{Use}
use Rattle.dscript_eval_frames.specs.declared.work.Use.TheVariants as uses
use Rattle.dscript_eval_frames.specs.declared.work.Work.{Work}
use Rattle.dscript_eval_frames.specs.declared.work.Work.TheVariants as works

-- how a literal reads its holes
abbrev pub reader : Literal → Plain → Outcome (List ℕ)
reader literals.Template = template_hole
reader literals.Relative = literal_hole
reader literals.Atom = literal_hole
reader (literals.Path letter base) = literal_hole

-- what a literal gives at its whole text
abbrev pub ended : ProgramData → Literal → List ℕ → Gives Plain
ended p literals.Template text = answered (text_answer text)
ended p literals.Relative text = answered (relative_literal text)
ended p literals.Atom text = answered (atom_literal text)
ended p (literals.Path letter base) text = path_value p letter base text

abbrev pub used : ProgramData → Acts → Use → List Plain → Gives Plain
used p act (uses.Apply f) args = applied p act (plain_of f) args
used p act (uses.Method x name) args = method act (plain_of x) name args

-- the function that a value is, if it is one
abbrev pub callee_in : Plain → Option Function
callee_in (plain.Function callee depth held) = Some (callee, item_list held)
callee_in _ = None

abbrev pub function_of : FunctionRef → Function
function_of f = ((plain_function f).callee, item_list (plain_function f).held.items)

abbrev pub items_from : Callbacks → ℕ → List Plain
items_from c n = drop n (item_list (plain_values c.items).items)

abbrev pub item_of : Callbacks → Plain
item_of c = unwrap_or (slice_get (item_list (plain_values c.items).items) c.next) plain.Undefined

abbrev pub done_of : Callbacks → List Plain
done_of c = grown_items c.done

abbrev pub decls_of : Option FileData → List DeclData
decls_of None = []
decls_of (Some f) = f.decls

module _ (p : ProgramData) (act : Acts) (given : Plain) where
  -- what is left of an expression, at the value that is given
  abbrev pub expr_gives : ExprWork → Gives Plain
  expr_gives (expr.Value e) = value p act (expr_data e.now)
  expr_gives (expr.Choose a b) =
      if is_true given then value p act (expr_data a.now) else value p act (expr_data b.now)
  expr_gives (expr.Operands more) = operands p act (to_operands (map operand_data more.now)) given
  expr_gives (expr.Operate op x more) =
      answered (operated op (plain_of x) given) >>= λ y.
      operands p act (to_operands (map operand_data more.now)) y
  expr_gives (expr.Prefix ops) = answered (prefixed ops.now given)
  expr_gives (expr.After parts) = after p act (to_parts (map part_data parts.now)) (Whole given)
  expr_gives (expr.AfterMember name parts) =
      after p act (to_parts (map part_data parts.now)) (Named given name.now)
  expr_gives (expr.Index x) = answered (indexed (plain_of x) given)
  expr_gives (expr.Items es done) =
      elements p act (to_elements (map element_data es.now)) (grown_items done) >>= λ items.
      answered (list_answer items)
  expr_gives (expr.Item es done) =
      elements p act (to_elements (map element_data es.now)) (grown_items done ++ given ∷ [])
      >>= λ items. answered (list_answer items)
  expr_gives (expr.SpreadItem es done) =
      answered (with_items_of (grown_items done) given) >>= λ more.
      elements p act (to_elements (map element_data es.now)) more >>= λ items.
      answered (list_answer items)
  expr_gives (expr.Fields ps done) =
      fields p act (to_props (map prop_data ps.now)) >>= λ found.
      answered (object_answer (map plain_field done.items ++ found))
  expr_gives (expr.Named name ps done) =
      fields p act (to_props (map prop_data ps.now)) >>= λ found.
      answered (object_answer (map plain_field done.items ++ (name.now, given) ∷ found))
  expr_gives (expr.SpreadFields ps done) =
      answered (spread_fields given) >>= λ these.
      fields p act (to_props (map prop_data ps.now)) >>= λ found.
      answered (object_answer (map plain_field done.items ++ these ++ found))
  expr_gives (expr.FirstHole letter text following holes) =
      answered (first_hole text.now given) >>= λ start.
      hole_texts p act literal_hole (to_holes (map hole_data holes.now)) >>= λ rest.
      path_value p letter start.0 (start.1 ++ following.now ++ rest)
  expr_gives (expr.Holes holes text literal) =
      hole_texts p act (reader literal) (to_holes (map hole_data holes.now)) >>= λ rest.
      ended p literal (text.items ++ rest)
  expr_gives (expr.Hole following holes text literal) =
      answered (reader literal given) >>= λ hole.
      hole_texts p act (reader literal) (to_holes (map hole_data holes.now)) >>= λ rest.
      ended p literal (text.items ++ hole ++ following.now ++ rest)

  -- callbacks from the next item on
  abbrev pub loops : Callback → Callbacks → Gives Plain
  loops kinds.Map c =
      mapped act (function_of c.function) c.next (items_from c c.next) >>= λ ys.
      answered (list_answer (done_of c ++ ys))
  loops kinds.Filter c =
      filtered act (function_of c.function) c.next (items_from c c.next) >>= λ ys.
      answered (list_answer (done_of c ++ ys))
  loops kinds.MapMany c =
      joined act (function_of c.function) c.next (done_of c) (items_from c c.next) >>= λ ys.
      answered (list_answer ys)
  loops kinds.Reduce c = reduced act (function_of c.function) c.next given (items_from c c.next)

  -- callbacks after the one at the next item, which gave what is given
  abbrev pub came : Callback → Callbacks → Gives Plain
  came kinds.Map c =
      mapped act (function_of c.function) (c.next + 1) (items_from c (c.next + 1)) >>= λ ys.
      answered (list_answer (done_of c ++ given ∷ ys))
  came kinds.Filter c =
      filtered act (function_of c.function) (c.next + 1) (items_from c (c.next + 1)) >>= λ ys.
      answered (list_answer (done_of c ++ (if is_true given then item_of c ∷ ys else ys)))
  came kinds.MapMany c =
      answered (with_items_of (done_of c) given) >>= λ more.
      joined act (function_of c.function) (c.next + 1) more (items_from c (c.next + 1)) >>= λ ys.
      answered (list_answer ys)
  came kinds.Reduce c =
      reduced act (function_of c.function) (c.next + 1) given (items_from c (c.next + 1))

  -- what is left of a call
  abbrev pub call_gives : CallWork → Gives Plain
  call_gives (call.Arguments es done use') =
      arguments p act (to_exprs (map expr_data es.now)) >>= λ xs.
      used p act use' (map plain_of done.items ++ xs)
  call_gives (call.Argument es done use') =
      arguments p act (to_exprs (map expr_data es.now)) >>= λ xs.
      used p act use' (map plain_of done.items ++ given ∷ xs)
  call_gives (call.Loop c) = loops c.kind c
  call_gives (call.Came c) = came c.kind c

  -- the constants from a file and a declaration in it on
  abbrev pub demands : ℕ → ℕ → Gives Way
  demands file decl =
      demand_decls act file decl (drop decl (decls_of (slice_get p.files file)))
      >> demand_files act (file + 1) (drop (file + 1) p.files) >> no_cost On

  -- what is left of a statement
  abbrev pub stmt_goes : StmtWork → Gives Way
  stmt_goes (stmt.Does m) = does p act (stmt_data m.now)
  stmt_goes (stmt.All ms) = all p act (to_stmts (map stmt_data ms.now))
  stmt_goes (stmt.Bind n) = bind n given >> no_cost On
  stmt_goes (stmt.Branch m other) =
      if is_true given then does p act (stmt_data m.now)
      else otherwise p act (to_stmt (option_map (λ o. stmt_data o.now) other))
  stmt_goes (stmt.Start n m) =
      answered (items_in given) >>= λ items. turns n (does p act (stmt_data m.now)) items
  stmt_goes (stmt.Turns n m items i) =
      turns n (does p act (stmt_data m.now)) (drop i (item_list (plain_values items).items))
  stmt_goes stmt.Return = no_cost (Back given)
  stmt_goes stmt.Forget = no_cost On
  stmt_goes (stmt.Demands file decl) = demands file decl

-- what is left: the state at the end, or why evaluation stops
abbrev pub Answer : Type 0
Answer = Result (Unit {0} × State) Stop

-- how the works after one go on, at a way, the calls that may be opened, a value and a state
abbrev pub Continuation : Type 0
Continuation = Way → ℕ → Plain → State → Answer

abbrev pub with_value : Continuation → ℕ → Gives Plain → State → Answer
with_value k openable m s = followed (m s) (λ x later. k On openable x later)

abbrev pub with_way : Continuation → ℕ → Gives Way → State → Answer
with_way k openable m s = followed (m s) (λ way later. k way openable plain.Undefined later)

abbrev pub does_work : ProgramData → Work → Continuation → ℕ → Plain → State → Answer
does_work p (works.Expr w) k openable given s =
    with_value k openable (expr_gives p (acts p openable) given w) s
does_work p (works.Call w) k openable given s =
    with_value k openable (call_gives p (acts p openable) given w) s
does_work p (works.Stmt w) k openable given s =
    with_way k openable (stmt_goes p (acts p openable) given w) s
does_work p (works.Leave frame) k openable given s =
    k On (openable + 1) given (record s { frame = frame_of frame })
does_work p (works.Keep file decl frame) k openable given s =
    k On (openable + 1) given (record s {
      frame = frame_of frame;
      constants = with_status s.constants file decl (Done given);
    })
does_work p works.Close k openable given s = k On (openable + 1) given s

-- a return passes over all work up to the end of the body
abbrev pub unwound : Work → Plain → Continuation → ℕ → State → Answer
unwound (works.Leave frame) x k openable s = k On (openable + 1) x (record s { frame = frame_of frame })
unwound _ x k openable s = k (Back x) openable plain.Undefined s

abbrev pub run : ProgramData → List Work → Continuation
run p [] way openable given s = Ok (tt, s)
run p (w ∷ ws) On openable given s = does_work p w (run p ws) openable given s
run p (w ∷ ws) (Back x) openable given s = unwound w x (run p ws) openable s

abbrev pub comes : View → Answer
comes v = run v.program v.work On v.openable v.given v.state

-- what comes where this work is next
abbrev pub comes_with : Work → View → Answer
comes_with w v = does_work v.program w (run v.program v.work) v.openable v.given v.state

-- what comes of the value of this
abbrev pub comes_by : Gives Plain → View → Answer
comes_by m v = with_value (run v.program v.work) v.openable m v.state

abbrev pub goes_by : Gives Way → View → Answer
goes_by m v = with_way (run v.program v.work) v.openable m v.state

abbrev pub returned_by : Plain → View → Answer
returned_by x v = run v.program v.work (Back x) v.openable plain.Undefined v.state
