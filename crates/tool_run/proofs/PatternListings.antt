-- A listing by a pattern, where a text is one and where it is none.
use Rattle.std.proofs.Common.{◌≡◌, ℕ, Bool, true, false, cond, List, Option, Result, Ok, Err, IfOk, refl, ap, sym, subst, ◌∙◌}
use Rattle.std.specs.declared.alloc.AllocError.{AllocError}
use Rattle.bx_tree.specs.Paths.{Atoms}
use Rattle.bx_path.specs.Globbing.{IsPattern, is_pattern}
use Rattle.bx_path.proofs.Patterns.{pattern_is, pattern_passes}
use Rattle.observed.specs.declared.ask.AskKind.TheVariants as kinds
use Rattle.observed.specs.declared.access.End.TheVariants as ends
use Rattle.tool_text.specs.declared.tool.Instr.{Instr}
use Rattle.tool_run.specs.declared.effect.Effect.{Effect}
use Rattle.tool_run.specs.declared.effect.Effect.TheVariants as effects
use Rattle.tool_run.specs.Machine.{Machine}
use Rattle.tool_run.specs.Instructions.{looks, looks_by}

none_there : (m : Machine) (i : Instr) (text : List ℕ) (path : Option Atoms) → (IsPattern text → ⊥)
    → (m, effects.Stops ends.BadProgram) ≡ looks_by m i text path
none_there m i text path none = by_test (is_pattern text) refl
  where
    by_test : (t : Bool) → is_pattern text ≡ t
        → (m, effects.Stops ends.BadProgram) ≡ cond t (looks m i (kinds.Match text) path) (m, effects.Stops ends.BadProgram)
    by_test true e = absurd (none (pattern_is text e))
    by_test false e = refl

-- where the bytes that were looked at are no pattern
pub by_none : (m : Machine) (i : Instr) (text bytes : List ℕ) (path : Option Atoms) → bytes ≡ text → (IsPattern bytes → ⊥)
    → (m, effects.Stops ends.BadProgram) ≡ looks_by m i text path
by_none m i text bytes path same none = none_there m i text path (λ is. none (subst IsPattern (sym same) is))

one_there : (m : Machine) (i : Instr) (text : List ℕ) (path : Option Atoms) → IsPattern text
    → looks m i (kinds.Match text) path ≡ looks_by m i text path
one_there m i text path is =
    ap (λ t. cond t (looks m i (kinds.Match text) path) (m, effects.Stops ends.BadProgram)) (sym (pattern_passes text is))

-- where they are one
pub by_pattern : (m m' : Machine) (i : Instr) (text bytes pattern : List ℕ) (path : Option Atoms) (r : Result Effect AllocError) → bytes ≡ text
    → IsPattern bytes → pattern ≡ bytes → IfOk r (λ e. (m', e) ≡ looks m i (kinds.Match pattern) path) → IfOk r (λ e. (m', e) ≡ looks_by m i text path)
by_pattern m m' i text bytes pattern path (Ok effect) same is p h =
    h ∙ ap (λ t. looks m i (kinds.Match t) path) (p ∙ same) ∙ one_there m i text path (subst IsPattern same is)
by_pattern m m' i text bytes pattern path (Err fault) same is p h = tt
