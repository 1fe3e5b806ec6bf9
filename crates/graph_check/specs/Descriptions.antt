-- What tells a process from others.
use Rattle.std.specs.Prelude.{map}
use Rattle.pip_model_types.specs.declared.dir_inputs.DirInput.{DirInput}
use Rattle.pip_model_types.specs.declared.dir_inputs.DirInput.TheVariants.{Sealed, Opaque}
use Rattle.pip_model_types.specs.declared.pip.ProcessDesc.{ProcessDesc}

-- an input directory by its form and root alone, whichever pip's it is
abbrev pub without_pip : DirInput → DirInput
without_pip (Sealed pip form root) = Sealed 0 form root
without_pip (Opaque pip path) = Opaque 0 path

-- what tells a process from others: all that it says, but for whose directories it takes
abbrev pub description : ProcessDesc → ProcessDesc
description d = record d { dirs = map without_pip d.dirs }
