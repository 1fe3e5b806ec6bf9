-- A description is the same work as that of a process just where its parts are.
use Rattle.std.proofs.Common.{◌≡◌, ℕ, List, Option, map, refl, ap, sym, ◌∙◌}
use Rattle.bx_tree.specs.Paths.{Atoms}
use Rattle.bx_tree.specs.Trees.{Files, paths_of}
use Rattle.bx_tree.specs.declared.file_input.FileInput.TheVariants.{Source}
use Rattle.pip_model_types.specs.declared.args.EnvPair.{EnvPair}
use Rattle.pip_model_types.specs.declared.desc.Desc.{Desc}
use Rattle.pip_model_types.specs.declared.dir_inputs.DirInput.{DirInput}
use Rattle.pip_model_types.specs.declared.outputs.OutDir.{OutDir}
use Rattle.pip_model_types.specs.declared.pip.ProcessDesc.{ProcessDesc}
use Rattle.pip_view_inputs.specs.Contents.{bytes_at, input_file}
use Rattle.pip_view_inputs.specs.Plain.{desc_of}
use Rattle.pip_view_inputs.specs.Results.{ByPip}
use Rattle.prints.specs.Processes.{numbered_from, with_sources}
use Rattle.run_record.specs.Holding.{IsSameWork}
use Rattle.sched_board_slots.specs.SameProcesses.{AreSamePlaces, IsSameCall}

abbrev made_of : Atoms → List (List ℕ) → List EnvPair → Atoms → Files → List DirInput → List Atoms → List OutDir → Option Atoms → ProcessDesc
made_of exe args env dir files dirs outs outdirs console = record {
  exe = exe;
  args = args;
  env = env;
  dir = dir;
  files = map Source (paths_of files);
  dirs = dirs;
  outs = outs;
  outdirs = outdirs;
  console = console;
}

same_process : (fs gs : Files) (p q : ProcessDesc) → IsSameCall p q → AreSamePlaces p q → fs ≡ gs → with_sources fs p ≡ with_sources gs q
same_process fs gs p q call places files =
    ap (λ x. made_of x p.args p.env p.dir fs (numbered_from 0 p.dirs) p.outs p.outdirs p.console) call.exe
    ∙ ap (λ x. made_of q.exe x p.env p.dir fs (numbered_from 0 p.dirs) p.outs p.outdirs p.console) call.args
    ∙ ap (λ x. made_of q.exe q.args x p.dir fs (numbered_from 0 p.dirs) p.outs p.outdirs p.console) call.env
    ∙ ap (λ x. made_of q.exe q.args q.env x fs (numbered_from 0 p.dirs) p.outs p.outdirs p.console) call.dir
    ∙ ap (λ x. made_of q.exe q.args q.env q.dir x (numbered_from 0 p.dirs) p.outs p.outdirs p.console) files
    ∙ ap (λ x. made_of q.exe q.args q.env q.dir gs x p.outs p.outdirs p.console) places.dirs
    ∙ ap (λ x. made_of q.exe q.args q.env q.dir gs (numbered_from 0 q.dirs) x p.outdirs p.console) places.outs
    ∙ ap (λ x. made_of q.exe q.args q.env q.dir gs (numbered_from 0 q.dirs) q.outs x p.console) places.outdirs
    ∙ ap (λ x. made_of q.exe q.args q.env q.dir gs (numbered_from 0 q.dirs) q.outs q.outdirs x) places.console

module _ (shown : Desc) (tree : Files) (made : ByPip) (budget : ℕ) (p : ProcessDesc) where
  pub one_call : IsSameWork shown (desc_of tree made budget p) → IsSameCall shown.process p
  one_call work = record {
    exe = ap (λ (x : ProcessDesc). x.exe) work.process;
    args = ap (λ (x : ProcessDesc). x.args) work.process;
    env = ap (λ (x : ProcessDesc). x.env) work.process;
    dir = ap (λ (x : ProcessDesc). x.dir) work.process;
  }

  pub one_place : IsSameWork shown (desc_of tree made budget p) → AreSamePlaces shown.process p
  one_place work = record {
    dirs = ap (λ (x : ProcessDesc). x.dirs) work.process;
    outs = ap (λ (x : ProcessDesc). x.outs) work.process;
    outdirs = ap (λ (x : ProcessDesc). x.outdirs) work.process;
    console = ap (λ (x : ProcessDesc). x.console) work.process;
  }

  pub one_work : IsSameCall shown.process p → AreSamePlaces shown.process p → shown.budget ≡ budget → bytes_at tree p.exe ≡ shown.exe
      → shown.files ≡ map (input_file tree made) p.files → IsSameWork shown (desc_of tree made budget p)
  one_work call places steps exe files = record {
    process = same_process shown.files (map (input_file tree made) p.files) shown.process p call places files;
    exe = sym exe;
    files = files;
    budget = steps;
  }
