-- What functions capture.
use Rattle.std.specs.Prelude.{◌<◌, ◌==◌}
use Rattle.std.specs.List.{AllByRecursion, IsDistinct}
use Rattle.dscript_program.specs.ProgramData.{FunctionData, ProgramData}

-- the captured locals come before the function's own, and none is there twice
abbrev pub HasOuterCaptures : FunctionData → Type 0
HasOuterCaptures f =
    AllByRecursion (λ n. n < f.first_local) f.captured × IsDistinct (λ n m. m == n) f.captured

-- each function of the program captures only outer locals, each once
abbrev pub AllCaptureOuter : ProgramData → Type 0
AllCaptureOuter p = AllByRecursion HasOuterCaptures p.functions
