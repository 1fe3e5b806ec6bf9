-- When two processes declare the same, but for their files and the pips of the directories that they take.
use Rattle.std.specs.Prelude.{◌≡◌}
use Rattle.pip_model_types.specs.declared.pip.ProcessDesc.{ProcessDesc}
use Rattle.prints.specs.Processes.{numbered_from}

-- They call the same executable with the same arguments and variables in the same directory.
pub record IsSameCall (p q : ProcessDesc) : Type 0 where
  pub exe : p.exe ≡ q.exe
  pub args : p.args ≡ q.args
  pub env : p.env ≡ q.env
  pub dir : p.dir ≡ q.dir

-- They take directories of the same forms and paths, and declare the same outputs.
pub record AreSamePlaces (p q : ProcessDesc) : Type 0 where
  pub dirs : numbered_from 0 p.dirs ≡ numbered_from 0 q.dirs
  pub outs : p.outs ≡ q.outs
  pub outdirs : p.outdirs ≡ q.outdirs
  pub console : p.console ≡ q.console
