use Rattle.bundle_folder.proofs.Free.{out_is_path, report_is_path}
use Rattle.bundle_folder.proofs.unpacking.clear.Goals as goal

pub clear_top-requires : goal.clear_top-requires
clear_top-requires g c = out_is_path

pub clear_top-requires-then-eq : goal.clear_top-requires-then-eq
clear_top-requires-then-eq g c = report_is_path
