-- No fault of a bundle is out of memory.
use Rattle.std.proofs.Common.{◌≢◌}
use Rattle.bx_tree.specs.declared.bundle.BundleFault.TheVariants as faults

pub bad_bundle : faults.BadBundle ≢ faults.Memory
bad_bundle e = cc

pub bad_path : faults.BadPath ≢ faults.Memory
bad_path e = cc

pub unordered : faults.Unordered ≢ faults.Memory
unordered e = cc

pub nested : faults.Nested ≢ faults.Memory
nested e = cc

pub too_many_files : faults.TooManyFiles ≢ faults.Memory
too_many_files e = cc

pub too_large : faults.TooLarge ≢ faults.Memory
too_large e = cc
