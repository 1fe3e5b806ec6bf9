use Rattle.std.proofs.Common.{List, [], subst, sym, take}
use Rattle.std.proofs.lemmas.List.{take_all}
use Rattle.bundle_folder.specs.Answers.{ListsNodes}
use Rattle.bundle_folder.specs.Stored.{stored}
use Rattle.bundle_folder.specs.declared.folder.Entry.{Entry}
use Rattle.bundle_folder.specs.declared.mem_folder.Placed.{Placed}
use Rattle.bundle_folder.proofs.Entries.{no_entries, stored_more}
use Rattle.bundle_folder.proofs.mem_folder.entries_of.Goals as goal
use Rattle.bx_tree.specs.Lent.{texts_now}

pub things-init : goal.things-init
things-init c =
    subst (λ (es : List Entry). ListsNodes (texts_now c.args.left_out.now) [] es) (sym c.new-entries.ensures.items)
    (no_entries (texts_now c.args.left_out.now))

pub things-preserved : goal.things-preserved
things-preserved c =
    let left = texts_now c.args.left_out.now in
    subst (λ ns. ListsNodes left ns c.add_entry.new.entries.items)
    (sym (stored_more c.args.things.now c.things.placed-index c.placed-item.result c.things-test.true c.placed-item.is))
    (c.in_ok-add_entry.ensures (stored (take c.things.placed-index c.args.things.now)) c.things.invariant)

pub returns : goal.returns
returns c =
    subst (λ (ts : List Placed). ListsNodes (texts_now c.args.left_out.now) (stored ts) c.things.entries.items)
    (take_all c.things.placed-index c.args.things.now c.things-test.false) c.things.invariant
