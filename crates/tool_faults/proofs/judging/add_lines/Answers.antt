use Rattle.std.proofs.Common.{◌≡◌, ◌++◌, ◌∙◌, ℕ, List, [], Bor, ap, arith, length, map}
use Rattle.bx_tree.specs.Lent.{texts_now}
use Rattle.tool_text.specs.Reading.{label_of, place_of}
use Rattle.tool_text.specs.Tables.{place_in}
use Rattle.tool_faults.proofs.LinesFrom.{all_faults, by_places, faults_added}
use Rattle.tool_faults.proofs.judging.add_lines.Goals as goal

abbrev no_text : Bor (List ℕ)
no_text = record { ref_ptr = (0, 0); now = [] }

pub lines-preserved : goal.lines-preserved
lines-preserved c =
    let m = c.args.measure.now in
    faults_added c.args.lines.now c.lines.place no_text m.second (place_in m.table) m.numbers.items c.lines.found.items c.add_line.new.found.items _ (omega arith)
    c.in_ok-add_line.ensures c.lines.invariant

pub returns : goal.returns
returns c =
    let m = c.args.measure.now in
    let texts = texts_now c.args.lines.now in
    let whole : length c.args.lines.now ≡ c.lines.place = omega arith in
    all_faults c.args.lines.now c.lines.place m.second (place_in m.table) m.numbers.items c.lines.found.items _ whole c.lines.invariant
    ∙ ap (λ fs. c.args.found.now.items ++ fs) (by_places m.second (place_in m.table) (place_of (map label_of texts)) m.numbers.items texts c.requires)
