use Rattle.dscript_types_data.proofs.Fitted.{lists_no_kind, objects_no_kind}
use Rattle.dscript_types_data.proofs.fitting.is_of_one.Goals as goal

pub returns-in-Lists : goal.returns-in-Lists
returns-in-Lists c = rw c.in-Lists.is (lists_no_kind _ _)

pub returns-in-Objects : goal.returns-in-Objects
returns-in-Objects c = rw c.in-Objects.is (objects_no_kind _ _)
