use Rattle.std.proofs.Common.{refl}
use Rattle.dscript_names_scopes.specs.Declarations.{sees_of}
use Rattle.dscript_names_scopes.proofs.FirstValues.{file_put}
use Rattle.dscript_names_scopes.proofs.tables.values_of_modules.Goals as goal

pub last-preserved : goal.last-preserved
last-preserved c = λ m name.
    file_put (sees_of c.args.viewer) m _ c.last.left.now c.in-Some.before.now c.in-Some.file.now name _ _ _
    c.in-Some.ensures.cases.0 refl (c.in_ok-add_file.ensures m name) (c.last.invariant m name)
