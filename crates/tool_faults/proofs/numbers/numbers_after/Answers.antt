use Rattle.std.proofs.Common.{◌≡◌, ℕ, List, [], Bor, arith, length}
use Rattle.tool_faults.proofs.LinesFrom.{all_numbers, numbers_added}
use Rattle.tool_faults.proofs.numbers.numbers_after.Goals as goal

abbrev no_text : Bor (List ℕ)
no_text = record { ref_ptr = (0, 0); now = [] }

pub lines-preserved : goal.lines-preserved
lines-preserved c =
    numbers_added c.args.rest.now c.lines.place no_text c.lines.numbers.items c.add_number.new.numbers.items _ (omega arith) c.in_ok-add_number.ensures c.lines.invariant

pub returns : goal.returns
returns c =
    let whole : length c.args.rest.now ≡ c.lines.place = omega arith in
    all_numbers c.args.rest.now c.lines.place c.lines.numbers.items _ whole c.lines.invariant
