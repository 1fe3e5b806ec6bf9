-- The files before this place have the same lines.
use Rattle.std.proofs.Common.{◌≡◌, length, take}
use Rattle.memo_format.specs.Found.{output_lines}
use Rattle.pip_model_types.specs.Made.{made_files}
use Rattle.sched_board.proofs.comparing.are_alike.Given as goal

abbrev pub invariant-files : goal.invariant-files
invariant-files l = output_lines (made_files (take l.place l.made)) ≡ output_lines (made_files (take l.place l.own))
