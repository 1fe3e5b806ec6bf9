use Rattle.std.proofs.Common.{◌≡◌, Some, take}
use Rattle.graph_texts.specs.Linking.{named_dirs}
use Rattle.graph_texts.proofs.linking.dirs_of.Given as goal

abbrev pub invariant-named : goal.invariant-named
invariant-named l = named_dirs l.pips (take l.dir-index l.named) ≡ Some l.dirs.items
