use Rattle.std.proofs.Common.{◌≡◌, ◌++◌, drop, map}
use Rattle.dscript_value.specs.Plain.{plain_of}
use Rattle.dscript_eval_meaning.specs.Frames.{local_value}
use Rattle.dscript_eval_frames.specs.Frames.{frame_of}
use Rattle.dscript_eval_frames.proofs.frame.Frame.locals.Given as goal

abbrev pub invariant-locals : goal.invariant-locals
invariant-locals l =
    map plain_of l.values.items ++ map (λ n. local_value (frame_of l.self) n) (drop l.local-index l.locals)
    ≡ map (λ n. local_value (frame_of l.self) n) l.locals
