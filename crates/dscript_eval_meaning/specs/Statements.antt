-- What statements do, and the value of a body.
use Rattle.std.specs.Prelude.{ℕ, if◌then◌else◌, List, [], ◌∷◌, Some, None}
use Rattle.dscript_value.specs.Plain.{Plain, Undefined}
use Rattle.dscript_sdk_values.specs.Kinds.{items_in}
use Rattle.dscript_program.specs.BoundTree as tree
use Rattle.dscript_program.specs.BoundTree.{StmtData, MaybeStmt, no_stmt, a_stmt, StmtRow, no_stmts}
use Rattle.dscript_program.specs.BoundTree.{more_stmts, BodyData, to_stmts}
use Rattle.dscript_program.specs.ProgramData.{ProgramData}
use Rattle.dscript_eval_operators.specs.Truth.{is_true}
use Rattle.dscript_eval_meaning.specs.Acts.{Acts}
use Rattle.dscript_eval_meaning.specs.Evaluating.{Gives, answered, gives, step, ◌>>=◌, ◌>>◌}
use Rattle.dscript_eval_meaning.specs.Expressions.{value}
use Rattle.dscript_eval_meaning.specs.Frames.{bind}

-- how a statement ends: the next one follows, or the body returns a value
pub data Way : Type 0 where
  On : Way
  Back : Plain → Way

-- what follows, unless the body returns
abbrev pub next : Way → Gives Way → Gives Way
next On more = more
next (Back x) more = gives (Back x)

-- a loop over these items, with a step for each turn
abbrev pub turns : ℕ → Gives Way → List Plain → Gives Way
turns n body [] = gives On
turns n body (x ∷ xs) = step >> bind n x >> body >>= λ way. next way (turns n body xs)

-- the value of a body that ended so
abbrev pub returned : Way → Plain
returned On = Undefined
returned (Back x) = x

module _ (p : ProgramData) (act : Acts) where
  unfoldable mutual
    pub does : StmtData → Gives Way
    does (tree.Const n t e) = step >> value p act e >>= λ x. bind n x >> gives On
    does (tree.Let n t None) = step >> bind n Undefined >> gives On
    does (tree.Let n t (Some e)) = step >> value p act e >>= λ x. bind n x >> gives On
    does (tree.Assign n e) = step >> value p act e >>= λ x. bind n x >> gives On
    does (tree.If c s other) =
        step >> value p act c >>= λ x. if is_true x then does s else otherwise other
    does (tree.For kind n list s) =
        step >> value p act list >>= λ xs. answered (items_in xs) >>= λ items. turns n (does s) items
    does (tree.Return None) = step >> gives (Back Undefined)
    does (tree.Return (Some e)) = step >> value p act e >>= λ x. gives (Back x)
    does (tree.Value e) = step >> value p act e >>= λ x. gives On
    does (tree.Block ss) = all ss
    does tree.Empty = gives On

    pub otherwise : MaybeStmt → Gives Way
    otherwise no_stmt = gives On
    otherwise (a_stmt s) = does s

    -- one after another, up to a return
    pub all : StmtRow → Gives Way
    all no_stmts = gives On
    all (more_stmts s more) = does s >>= λ way. next way (all more)

  -- the value of a body; one without a return gives undefined
  unfoldable pub body_value : BodyData → Gives Plain
  body_value (tree.Expr e) = value p act e
  body_value (tree.Stmts ss) = all (to_stmts ss) >>= λ way. gives (returned way)
