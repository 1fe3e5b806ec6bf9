use Rattle.std.proofs.Common.{◌++◌}
use Rattle.cache_care.specs.Naming.{in_entry, in_strong, in_weak, strong_at, weak_at}
use Rattle.cache_care.proofs.Sets.{adds_last}
use Rattle.cache_care.proofs.naming.add_named.Goals as goal

pub returns-clause-added : goal.returns-clause-added
returns-clause-added g c S told =
    let e = c.args.entry.now in
    let weak = in_weak (weak_at S e.weak) in
    let strong = in_strong (strong_at S e.strong) in
    adds_last c.add_strong_of.result c.args.named.now c.add_entry.new.named c.add_strong_of.new.named (in_entry e) (weak ++ strong) c.in_ok-add_entry.ensures
    (adds_last c.add_strong_of.result c.add_entry.new.named c.add_weak_of.new.named c.add_strong_of.new.named weak strong
    (c.in_ok-add_weak_of.ensures.added S (c.add_strong_of.ensures.known.held S told)) (c.add_strong_of.ensures.added S told))
