-- What comes of statements that are done at once.
use Rattle.std.proofs.Common.{◌≡◌, ℕ, ◌-◌, ◌≤◌, cond, false, List, [], ◌∷◌, length, map, Ok, refl, ap, sym, ◌∙◌, subst}
use Rattle.std.specs.Borrow.{Bor}
use Rattle.dscript_program.specs.BoundTree as tree
use Rattle.dscript_program.specs.BoundTree.{ExprData, StmtData, no_stmt}
use Rattle.dscript_program.specs.Views.{stmt_data}
use Rattle.dscript_program.specs.declared.bound.BoundStmt.{BoundStmt}
use Rattle.std.specs.Prelude.{if◌then◌else◌}
use Rattle.dscript_value.specs.Plain as plain
use Rattle.dscript_value.specs.Plain.{Plain}
use Rattle.dscript_eval_operators.specs.Truth.{is_true}
use Rattle.dscript_eval_meaning.specs.Evaluating.{Gives, followed, gives, spend, ◌>>◌}
use Rattle.dscript_eval_meaning.specs.Frames.{bind, with_local}
use Rattle.dscript_eval_meaning.specs.States.{Frame, State}
use Rattle.dscript_eval_meaning.specs.Statements.{Way, On, does, otherwise}
use Rattle.dscript_eval_frames.specs.Costs.{stmt_cost}
use Rattle.dscript_eval_direct.specs.Now.{IsAtOnce, Knowledge, Knows}
use Rattle.dscript_eval_direct.proofs.Steps.{spent}
use Rattle.dscript_eval_frames.specs.Forms.{acts_at, bind_form, stmt_form}
use Rattle.dscript_eval_frames.specs.Views.{View}
use Rattle.dscript_eval_frames.specs.Works.{comes_with, run}
use Rattle.dscript_eval_frames.specs.declared.work.StmtWork.TheVariants as stmt
use Rattle.dscript_eval_frames.specs.declared.work.Work.TheVariants as works
use Rattle.dscript_eval.specs.AtOnce.{IsPassed, bind_step, does_at, if_step}
use Rattle.dscript_eval.proofs.StmtMoves.{all_move, does_begins, no_other-is}

pub bound_passes
    : (v w : View) (n : ℕ) (e : ExprData) (known : Knowledge) (after : ℕ) (x : Plain) (later : ℕ) (frame : Frame)
    → 1 ≤ v.state.left → after ≡ v.state.left - 1 → IsAtOnce known e after x later → Knows known v.program v.state
    → frame ≡ with_local n x v.state.frame → w ≡ record v { state = record v.state { left = later; frame = frame } }
    → IsPassed v w (bind_step n e)
bound_passes v w n e known after x later frame le after_is now knows frame_is is = record {
  value = spent 1 (bind_form v.program (acts_at v) n e) v.state v.state.left le
      ∙ ap (λ k. bind_form v.program (acts_at v) n e (record v.state { left = k })) (sym after_is)
      ∙ ap (λ r. followed r (λ y. bind n y >> gives On)) (now v.program (acts_at v) v.state knows)
      ∙ ap (λ f. Ok (On, record v.state { left = later; frame = f })) (sym frame_is)
      ∙ ap (λ (z : View). Ok (On, z.state)) (sym is);
  others = is ∙ ap (λ (z : View). record v { state = z.state }) (sym is);
}

pub untaken_passes
    : (v w : View) (c : ExprData) (m : StmtData) (known : Knowledge) (after : ℕ) (x : Plain) (later : ℕ)
    → 1 ≤ v.state.left → after ≡ v.state.left - 1 → IsAtOnce known c after x later → is_true x ≡ false
    → Knows known v.program v.state → w ≡ record v { state = record v.state { left = later } }
    → IsPassed v w (if_step c m)
untaken_passes v w c m known after x later le after_is now never knows is =
    let p = v.program in
    let act = acts_at v in
    record {
      value = spent 1 (stmt_form p act (tree.If c m no_stmt)) v.state v.state.left le
          ∙ ap (λ k. stmt_form p act (tree.If c m no_stmt) (record v.state { left = k })) (sym after_is)
          ∙ ap (λ r. followed r (λ y. if is_true y then does p act m else otherwise p act no_stmt)) (now p act v.state knows)
          ∙ ap (λ b. (if b then does p act m else otherwise p act no_stmt) (record v.state { left = later })) never
          ∙ no_other-is p act (record v.state { left = later })
          ∙ ap (λ (z : View). Ok (On, z.state)) (sym is);
      others = is ∙ ap (λ (z : View). record v { state = z.state }) (sym is);
    }

-- a statement takes its step, and then comes what is left of it
pub passes_as
    : (v w : View) (m d : StmtData) → m ≡ d → IsPassed v w (λ z. spend (stmt_cost d) >> stmt_form z.program (acts_at z) d)
    → IsPassed v w (does_at m)
passes_as v w m d is passed = record {
  value = ap (λ a. does v.program (acts_at v) a v.state) is ∙ does_begins v.program (acts_at v) d v.state ∙ passed.value;
  others = passed.others;
}

-- the others follow
pub passed_move
    : (v w : View) (ms others : Bor (List BoundStmt)) (m : Bor BoundStmt) → ms.now ≡ m.now ∷ others.now
    → IsPassed v w (does_at (stmt_data m.now))
    → comes_with (works.Stmt (stmt.All ms)) v ≡ comes_with (works.Stmt (stmt.All others)) w
passed_move v w ms others m is passed =
    all_move v ms others m is
    ∙ ap (λ r. followed r (λ way later. run v.program (works.Stmt (stmt.All others) ∷ v.work) way v.openable plain.Undefined later))
    passed.value
    ∙ ap (λ (z : View). comes_with (works.Stmt (stmt.All others)) z) (sym passed.others)
