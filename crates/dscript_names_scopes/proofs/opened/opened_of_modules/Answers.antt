use Rattle.std.proofs.Common.{Some}
use Rattle.dscript_names_scopes.specs.Lookup.{opens}
use Rattle.dscript_names_scopes.proofs.Placed.{file_opened}
use Rattle.dscript_names_scopes.proofs.opened.opened_of_modules.Goals as goal

pub last-preserved : goal.last-preserved
last-preserved c = λ m x.
    file_opened (opens x (Some m)) c.last.left.now c.in-Some.before.now c.in-Some.file.now _ _ _ _
    c.in-Some.ensures.cases.0 (c.in_ok-add_file.ensures m x) (c.last.invariant m x)
