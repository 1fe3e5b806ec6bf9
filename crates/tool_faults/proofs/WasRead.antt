-- Whether something was read.
use Rattle.std.proofs.Common.{◌≡◌, true, false, Option, Result, Ok, Err, ap, sym, ◌∙◌, subst}
use Rattle.std.specs.Prelude.{is_some}
use Rattle.tool_text.specs.Reading.{ReadsTool}
use Rattle.tool_text.specs.declared.fault.ToolFault.{ToolFault}
use Rattle.tool_text.specs.declared.fault.ToolFault.TheVariants.{BadTool}

pub was_ok : {X : Type 0} (read : Result X ToolFault) (x : X) → read ≡ Ok x → (o : Option X) → ReadsTool read o → true ≡ is_some o
was_ok read x is o h = sym (ap is_some (subst (λ r. ReadsTool r o) is h))

pub was_bad : {X : Type 0} (read : Result X ToolFault) (fault : ToolFault) → read ≡ Err fault → fault ≡ BadTool → (o : Option X) → ReadsTool read o → false ≡ is_some o
was_bad read fault is bad o h = sym (ap is_some (subst (λ r. ReadsTool r o) (is ∙ ap Err bad) h))
