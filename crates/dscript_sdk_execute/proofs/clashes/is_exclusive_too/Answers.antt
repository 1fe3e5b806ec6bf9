use Rattle.std.proofs.Common.{◌↔◌, IsTrue, subst, sym}
use Rattle.std.specs.List.{Contains}
use Rattle.dscript_sdk_execute.proofs.Sharing.{exclusive_found, none_shared}
use Rattle.dscript_sdk_execute.proofs.clashes.is_exclusive_too.Goals as goal

pub returns-then-not-dir : goal.returns-then-not-dir
returns-then-not-dir c = sym (none_shared c.args.dir.now c.args.dirs.now c.if-not-dir.true)

pub returns : goal.returns
returns c =
    exclusive_found c.args.dir.now c.args.dirs.now c.has_directory.result c.if-not-dir.false
    (subst (λ d. IsTrue c.has_directory.result ↔ Contains c.args.dirs.now d) c.in_ok-exclusive.ensures
    (subst (λ ds. IsTrue c.has_directory.result ↔ Contains ds c.in_ok-exclusive.exclusive) c.dirs.ensures.dirs
    c.has_directory.ensures))
