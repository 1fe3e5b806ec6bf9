use Rattle.std.proofs.Common.{Some, ap, map, sym, ◌∙◌}
use Rattle.violations.specs.Slots.{slot_files}
use Rattle.violations.proofs.FirstClash.{file_found, file_passed, no_file_left}
use Rattle.violations.proofs.clashes.first_clash.Goals as goal

pub returns-in-Some : goal.returns-in-Some
returns-in-Some c =
    ap Some c.in_ok-clash.ensures
    ∙ sym (file_found c.args.dirs.now c.args.pips.now (map slot_files c.args.slots.now) c.args.files.now c.files.file-index c.file-item.result
    c.in-Some.other c.files-test.true c.file-item.is (sym c.in-Some.ensures))
    ∙ c.files.invariant

pub files-preserved : goal.files-preserved
files-preserved c =
    sym (file_passed c.args.dirs.now c.args.pips.now (map slot_files c.args.slots.now) c.args.files.now c.files.file-index c.file-item.result
    c.files-test.true c.file-item.is (sym c.in_default.ensures)) ∙ c.files.invariant

pub returns : goal.returns
returns c =
    sym (no_file_left c.args.dirs.now c.args.pips.now (map slot_files c.args.slots.now) c.args.files.now c.files.file-index c.files-test.false)
    ∙ c.files.invariant
