use Rattle.std.proofs.Common.{ap, sym, ◌∙◌}
use Rattle.std.specs.Option.{option_map}
use Rattle.dscript_types_data.specs.Views.{fields_now}
use Rattle.dscript_types_known.specs.Views.{finding_data}
use Rattle.dscript_types_notes.proofs.Meant.{extended_goes, extended_no_object, extended_open, extended_stop, extension}
use Rattle.dscript_types_notes.proofs.Written.{seen_as}
use Rattle.dscript_types_notes.proofs.notes.extended.Goals as goal

pub returns-in-Nothing : goal.returns-in-Nothing
returns-in-Nothing c =
    extended_stop c.args.world.now c.args.place.now c.args.nodes.now c.nodes.node-index c.nodes.rank (fields_now c.nodes.done) c.node-item.result c.nodes-test.true c.node-item.is c.nodes.invariant
    (seen_as c.args.world.now c.args.place.now finding_data (extension c.args.world.now c.args.place.now c.args.nodes.now c.nodes.node-index c.nodes.rank (fields_now c.nodes.done) c.node-item.result c.nodes-test.true c.node-item.is c.nodes.invariant) _ _ c.in-Nothing.is c.in_ok-t.ensures)

pub returns-in-Open : goal.returns-in-Open
returns-in-Open c =
    extended_open c.args.world.now c.args.place.now c.args.nodes.now c.nodes.node-index c.nodes.rank (fields_now c.nodes.done) c.node-item.result c.nodes-test.true c.node-item.is c.nodes.invariant
    (seen_as c.args.world.now c.args.place.now finding_data (extension c.args.world.now c.args.place.now c.args.nodes.now c.nodes.node-index c.nodes.rank (fields_now c.nodes.done) c.node-item.result c.nodes-test.true c.node-item.is c.nodes.invariant) _ _ c.in-Open.is c.in_ok-t.ensures)

pub returns-in-None : goal.returns-in-None
returns-in-None c =
    extended_no_object c.args.world.now c.args.place.now c.args.nodes.now c.nodes.node-index c.nodes.rank (fields_now c.nodes.done) c.node-item.result c.nodes-test.true c.node-item.is c.nodes.invariant c.in-Found.t c.in-Found.from
    (seen_as c.args.world.now c.args.place.now finding_data (extension c.args.world.now c.args.place.now c.args.nodes.now c.nodes.node-index c.nodes.rank (fields_now c.nodes.done) c.node-item.result c.nodes-test.true c.node-item.is c.nodes.invariant) _ _ c.in-Found.is c.in_ok-t.ensures)
    (sym c.in_ok-fields.ensures ∙ ap (option_map fields_now) c.in-None.is)

pub nodes-preserved : goal.nodes-preserved
nodes-preserved c =
    extended_goes c.args.world.now c.args.place.now c.args.nodes.now c.nodes.node-index c.nodes.rank (fields_now c.nodes.done) c.node-item.result c.nodes-test.true c.node-item.is c.nodes.invariant c.in-Found.t c.in-Found.from _ (fields_now c.in-Some.fields) _
    (seen_as c.args.world.now c.args.place.now finding_data (extension c.args.world.now c.args.place.now c.args.nodes.now c.nodes.node-index c.nodes.rank (fields_now c.nodes.done) c.node-item.result c.nodes-test.true c.node-item.is c.nodes.invariant) _ _ c.in-Found.is c.in_ok-t.ensures)
    c.larger-rank.ensures (sym c.in_ok-fields.ensures ∙ ap (option_map fields_now) c.in-Some.is) c.in_ok-put_fields-in-Some.ensures
