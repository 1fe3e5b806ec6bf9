use Rattle.std.proofs.Common.{◌≡◌, ◌∙◌, ℕ, List, [], Bor, arith, length, sym}
use Rattle.tool_text.specs.Tables.{place_in}
use Rattle.tool_faults.proofs.LinesFrom.{all_texts, bad_text, good_text, no_more_kinds}
use Rattle.tool_faults.proofs.operands.first_bad.Goals as goal

abbrev no_text : Bor (List ℕ)
no_text = record { ref_ptr = (0, 0); now = [] }

pub returns-in_default : goal.returns-in_default
returns-in_default c = sym (no_more_kinds c.args.texts.now c.texts.place (place_in c.args.table.now) c.args.kinds.now _ (sym c.in_default.ensures) c.texts.invariant)

pub returns-then-not-branch : goal.returns-then-not-branch
returns-then-not-branch c =
    bad_text c.args.texts.now c.texts.place no_text (place_in c.args.table.now) c.args.kinds.now c.in-Some.kind _ (omega arith) (sym c.in-Some.ensures)
    (sym c.in_ok-is_operand.ensures ∙ c.if-not-branch.true) c.texts.invariant

pub texts-preserved : goal.texts-preserved
texts-preserved c =
    good_text c.args.texts.now c.texts.place no_text (place_in c.args.table.now) c.args.kinds.now c.in-Some.kind _ (omega arith) (sym c.in-Some.ensures)
    (sym c.in_ok-is_operand.ensures ∙ c.if-not-branch.false) c.texts.invariant

pub returns : goal.returns
returns c =
    let whole : length c.args.texts.now ≡ c.texts.place = omega arith in
    sym (all_texts c.args.texts.now c.texts.place (place_in c.args.table.now) c.args.kinds.now _ whole c.texts.invariant)
