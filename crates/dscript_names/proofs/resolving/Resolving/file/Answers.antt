use Rattle.std.proofs.Common.{◌∙◌, refl}
use Rattle.dscript_names.proofs.Resolved.{file_resolved, file_is}
use Rattle.dscript_names.proofs.resolving.Resolving.file.Goals as goal

pub returns-in_ok-push-in-Ok : goal.returns-in_ok-push-in-Ok
returns-in_ok-push-in-Ok c =
    file_resolved c.args.self.now _ c.args.path _ c.in-Ok.ensures refl c.in_ok-push-in-Ok.ensures.items
    (file_is c.args.names.now c.args.path c.in-Ok.decls _ refl (c.in_ok-module.ensures ∙ c.module_number.ensures) refl)

pub returns-in-Err-Fault : goal.returns-in-Err-Fault
returns-in-Err-Fault c = (rw c.in-Err-Fault.field-0-is at c.in-Err-Fault.ensures, refl, refl)
