-- What comes of names and arrow functions.
use Rattle.std.proofs.Common.{◌≡◌, ℕ, List, [], map, IfOk, Option, Some, None, Result, Ok, Err, refl, ap, sym, ◌∙◌, subst}
use Rattle.std.specs.declared.alloc.Global.{Global}
use Rattle.std.specs.declared.vec.Vec.{Vec}
use Rattle.dscript_program.specs.declared.ambient.Ambient.{Ambient}
use Rattle.dscript_value.specs.declared.parts.Callee.TheVariants as callees
use Rattle.dscript_value.specs.Depths.{function_value}
use Rattle.dscript_value.specs.Plain.{Plain, plain_of}
use Rattle.dscript_value.specs.declared.value.Value.{Value}
use Rattle.dscript_sdk_values.specs.Answers.{function_answer}
use Rattle.dscript_sdk_values.specs.Outcomes.{unless_none}
use Rattle.dscript_sdk_values.specs.declared.fault.SdkFault.TheVariants.{Range}
use Rattle.dscript_program.specs.ProgramData.{FunctionData, KindData}
use Rattle.dscript_program.specs.declared.target.Target.TheVariants as targets
use Rattle.dscript_eval_meaning.specs.declared.fault.EvalKind.TheVariants as kinds
use Rattle.dscript_eval_meaning.specs.Evaluating.{Fault, answered, gives}
use Rattle.dscript_eval_meaning.specs.Expressions.{arrow, captured_of, declared, named}
use Rattle.dscript_eval_meaning.specs.Frames.{captures, local_value}
use Rattle.dscript_eval_meaning.specs.Lookups.{declared_at, function_at}
use Rattle.dscript_eval_meaning.specs.States.{State}
use Rattle.dscript_eval_frames.specs.Forms.{acts_at}
use Rattle.dscript_eval_frames.specs.Views.{View}
use Rattle.dscript_eval_frames.specs.Works.{comes_by}

pub local_name
    : (v : View) (n : ℕ) (x : Plain) → x ≡ local_value v.state.frame n
    → comes_by (named v.program (acts_at v) (targets.Local n)) v ≡ comes_by (gives x) v
unfolding named
local_name v n x is = ap (λ y. comes_by (gives y) v) (sym is)

pub declared_name
    : (v : View) (file decl : ℕ)
    → comes_by (named v.program (acts_at v) (targets.Declared file decl)) v
    ≡ comes_by (declared (acts_at v) file decl (declared_at v.program file decl)) v
unfolding named
declared_name v file decl = refl

pub ambient_name
    : (v : View) (call : Ambient) (x : Plain) → function_value (callees.Ambient call) [] ≡ Some x
    → comes_by (named v.program (acts_at v) (targets.Ambient call)) v ≡ comes_by (gives x) v
unfolding named
ambient_name v call x is = ap (λ o. comes_by (answered (unless_none Range o)) v) is

pub not_declared
    : (v : View) (file decl : ℕ) (kind : Option KindData) → kind ≡ None
    → comes_by (declared (acts_at v) file decl kind) v ≡ Err (Fault kinds.Kind v.state.frame.file None)
not_declared v file decl kind none = ap (λ k. comes_by (declared (acts_at v) file decl k) v) none

pub arrow_move
    : (v : View) (number : ℕ) (held : List Plain)
    → held ≡ captures (captured_of (function_at v.program number)) v.state
    → comes_by (arrow v.program number) v
    ≡ comes_by (answered (function_answer (callees.Place number) held)) v
unfolding arrow
arrow_move v number held is = ap (λ xs. comes_by (answered (function_answer (callees.Place number) xs)) v) (sym is)

-- what the captured locals hold
pub captured_are
    : {E : Type 0} (r : Result (Vec Value Global) E) (o : Option FunctionData) (f : FunctionData) (locals : List ℕ) (s : State)
    → o ≡ Some f → locals ≡ f.captured
    → IfOk r (λ values. map plain_of values.items ≡ map (λ n. local_value s.frame n) locals)
    → IfOk r (λ values. map plain_of values.items ≡ captures (captured_of o) s)
captured_are r o f locals s is locals_are held =
    let P : List ℕ → Type 0 =
    λ xs. IfOk r (λ values. map plain_of values.items ≡ map (λ n. local_value s.frame n) xs) in
    subst P (locals_are ∙ ap captured_of (sym is)) held
