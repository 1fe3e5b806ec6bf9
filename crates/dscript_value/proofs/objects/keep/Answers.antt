use Rattle.std.proofs.Common.{Some}
use Rattle.bx_tree.proofs.TextTables.{text_put}
use Rattle.dscript_value.proofs.objects.keep.Goals as goal

pub returns : goal.returns
returns c = λ other. text_put c.args.name.items c.args.places.now c.insert.new.self (Some c.args.place) c.in_ok-insert.ensures.updates other
