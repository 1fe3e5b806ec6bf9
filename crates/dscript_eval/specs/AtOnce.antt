-- What the machine is after a callback that is called at once.
use Rattle.std.specs.Prelude.{◌≡◌, ℕ, ◌+◌, ◌∷◌, List, MatchResult, Ok, Result}
use Rattle.dscript_program.specs.BoundTree as tree
use Rattle.dscript_program.specs.BoundTree.{ExprData, StmtData, no_stmt}
use Rattle.dscript_program.specs.ProgramData.{FunctionData}
use Rattle.dscript_value.specs.Plain.{Plain}
use Rattle.dscript_eval_meaning.specs.Acts.{Acts}
use Rattle.dscript_eval_meaning.specs.Callbacks.{called_back}
use Rattle.dscript_eval_meaning.specs.Evaluating.{Gives, spend, ◌>>◌}
use Rattle.dscript_eval_meaning.specs.Expressions.{value}
use Rattle.dscript_eval_meaning.specs.Frames.{function_frame}
use Rattle.dscript_eval_meaning.specs.Statements.{Way, On, does}
use Rattle.dscript_eval_frames.specs.Forms.{acts_at, bind_form, stmt_form}
use Rattle.dscript_eval_frames.specs.Keeps.{StopsWith}
use Rattle.dscript_eval_frames.specs.Views.{View}
use Rattle.dscript_eval_frames.specs.Works.{Answer, comes_with, function_of, item_of, items_from}
use Rattle.dscript_eval.specs.CallbackArgs.{args_of}
use Rattle.dscript_eval_frames.specs.declared.stop.Stop.{Stop}
use Rattle.dscript_eval_frames.specs.declared.work.Callbacks.{Callbacks}
use Rattle.dscript_eval_frames.specs.declared.work.CallWork.TheVariants as call
use Rattle.dscript_eval_frames.specs.declared.work.Work.TheVariants as works

-- the step of a statement that binds a local to the value of an expression, and the statement
abbrev pub bind_step : ℕ → ExprData → View → Gives Way
bind_step n e v = spend 1 >> bind_form v.program (acts_at v) n e

-- the step of a statement that is done if a condition holds, and the statement
abbrev pub if_step : ExprData → StmtData → View → Gives Way
if_step c m v = spend 1 >> stmt_form v.program (acts_at v) (tree.If c m no_stmt)

abbrev pub does_at : StmtData → View → Gives Way
does_at m v = does v.program (acts_at v) m

-- a statement is done, the next one follows, and nothing but the state changed
pub record IsPassed (v w : View) (m : View → Gives Way) : Type 0 where
  pub value : m v v.state ≡ Ok (On, w.state)
  pub others : w ≡ record v { state = w.state }

-- an expression gives a value in the frame of a function, and nothing but the steps that are left changed
pub record IsBodyGiven (v w : View) (f : FunctionData) (e : ExprData) (args : List Plain) : Type 0 where
  pub value : (held : List Plain) (act : Acts)
      → value v.program act e (record v.state { frame = function_frame f held args })
      ≡ Ok (w.given, record v.state { frame = function_frame f held args; left = w.state.left })
  pub others : w ≡ record v { given = w.given; state = record v.state { left = w.state.left } }

-- the callback at the next item gave a value, in the state after it, and nothing else changed
pub record IsCalled (v w : View) (c : Callbacks) : Type 0 where
  pub item : items_from c c.next ≡ item_of c ∷ items_from c (c.next + 1)
  pub value : called_back (acts_at v) (function_of c.function) (args_of c.kind v.given (item_of c) c.next) v.state
      ≡ Ok (w.given, w.state)
  pub others : w ≡ record v { given = w.given; state = w.state }

-- these callbacks are left, to which this comes, or it stops so
abbrev pub AreLeft : Result (Unit {0}) Stop → Callbacks → Answer → View → Type 0
AreLeft result c before v =
    MatchResult result (λ _. before ≡ comes_with (works.Call (call.Loop c)) v) (λ stop. StopsWith stop before)
