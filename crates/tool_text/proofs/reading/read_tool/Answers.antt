use Rattle.std.proofs.Common.{◌∙◌, ap, subst, List, ℕ}
use Rattle.tool_text.specs.Reading.{ReadsTool, tool_from, tool_of}
use Rattle.tool_text.proofs.OneTool.{found, none}
use Rattle.tool_text.proofs.reading.read_tool.Goals as goal
use Rattle.bx_tree.specs.Lent.{texts_now}

read_as : (c : goal.After-drop-lines) → ReadsTool c.tool_of_lines.result (tool_of c.args.bytes.now)
read_as c =
    subst (λ (ls : List (List ℕ)). ReadsTool c.tool_of_lines.result (tool_from ls)) (ap texts_now c.as_slice.ensures.value ∙ c.in_ok-lines.ensures)
    c.tool_of_lines.ensures

pub returns-clause-found : goal.returns-clause-found
returns-clause-found c = found c.args.bytes.now c.tool_of_lines.result (read_as c)

pub returns-clause-none : goal.returns-clause-none
returns-clause-none c = none c.args.bytes.now c.tool_of_lines.result (read_as c)
