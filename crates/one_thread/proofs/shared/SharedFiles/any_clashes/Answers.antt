use Rattle.std.proofs.Common.{refl}
use Rattle.one_thread.proofs.SharedSets.{next_clash, no_clash_left}
use Rattle.one_thread.proofs.shared.SharedFiles.any_clashes.Goals as goal

pub files-init : goal.files-init
files-init c = λ paths h. refl

pub returns-then-clashes : goal.returns-then-clashes
returns-then-clashes c = λ paths h.
    next_clash c.args.dirs.now c.args.files.now c.files.file-index c.file-item.result paths c.in_ok-clashes.clashes _ _ c.files-test.true c.file-item.is
    (c.in_ok-clashes.ensures paths h) c.if-clashes.true (c.files.invariant paths h)

pub files-preserved : goal.files-preserved
files-preserved c = λ paths h.
    next_clash c.args.dirs.now c.args.files.now c.files.file-index c.file-item.result paths c.in_ok-clashes.clashes _ _ c.files-test.true c.file-item.is
    (c.in_ok-clashes.ensures paths h) c.if-clashes.false (c.files.invariant paths h)

pub returns : goal.returns
returns c = λ paths h. no_clash_left c.args.dirs.now c.args.files.now c.files.file-index paths _ c.files-test.false (c.files.invariant paths h)
