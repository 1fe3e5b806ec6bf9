use Rattle.std.proofs.Common.{map}
use Rattle.std.specs.Prelude.{string_bytes}
use Rattle.cache_care.specs.Planning.{planned_change}
use Rattle.cache_care.proofs.Cutting.{trims_dropped}
use Rattle.cache_care.proofs.trimming.trim_list.Goals as goal

pub returns-in-Err-BadForm-clause-trims : goal.returns-in-Err-BadForm-clause-trims
returns-in-Err-BadForm-clause-trims g c =
    λ names h.
    trims_dropped names (string_bytes c.args.name.now) (map planned_change c.args.trim.now.changes.items) (map planned_change c.drop_name.new.self.changes.items)
    c.in_ok-drop_name-in-Err-BadForm.ensures.changes h

pub returns-in-None-clause-trims : goal.returns-in-None-clause-trims
returns-in-None-clause-trims g c =
    λ names h.
    trims_dropped names (string_bytes c.args.name.now) (map planned_change c.args.trim.now.changes.items)
    (map planned_change c.drop_name-in-None.new.self.changes.items) c.in_ok-drop_name-in-None.ensures.changes h
