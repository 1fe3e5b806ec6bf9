use Rattle.std.proofs.Common.{Option, subst, sym}
use Rattle.tool_text.specs.declared.tool.Instr.{Instr}
use Rattle.tool_text.specs.Reading.{ReadsTool}
use Rattle.tool_text.proofs.Counts.{with_pattern, without_pattern}
use Rattle.tool_text.proofs.instr.listing.Goals as goal

pub returns-then-texts-eq3 : goal.returns-then-texts-eq3
returns-then-texts-eq3 c =
    subst (λ (o : Option Instr). ReadsTool c.matching_listing.result o) (sym (with_pattern c.args.texts.now c.if-texts-eq3.true)) c.matching_listing.ensures

pub returns : goal.returns
returns c = subst (λ (o : Option Instr). ReadsTool c.full_listing.result o) (sym (without_pattern c.args.texts.now c.if-texts-eq3.false)) c.full_listing.ensures
