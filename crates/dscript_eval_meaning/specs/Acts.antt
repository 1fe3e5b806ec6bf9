-- What opens a call.
use Rattle.std.specs.Prelude.{ℕ, List}
use Rattle.dscript_value.specs.declared.parts.Callee.{Callee}
use Rattle.dscript_value.specs.Plain.{Plain}
use Rattle.dscript_eval_meaning.specs.Evaluating.{Gives}

-- A call of a declared function or of a callback of any kind, with the values that it holds and its
-- arguments; or a constant that is demanded for the first time. Other calls of ambient functions and
-- members open nothing.
pub data Act : Type 0 where
  Call : Callee → List Plain → List Plain → Act
  Demand : ℕ → ℕ → Act

-- how opened calls are evaluated
abbrev pub Acts : Type 0
Acts = Act → Gives Plain
