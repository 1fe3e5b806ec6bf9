use Rattle.std.proofs.Common.{◌≡◌, drop, map}
use Rattle.dscript_value.specs.Plain.{plain_of}
use Rattle.dscript_eval_meaning.specs.Frames.{captured_value}
use Rattle.dscript_eval_frames.proofs.captured.captured_at.Given as goal

abbrev pub invariant-captured : goal.invariant-captured
invariant-captured l =
    captured_value (drop l.place l.captured) (drop l.place (map plain_of l.held)) l.local
    ≡ captured_value l.captured (map plain_of l.held) l.local
