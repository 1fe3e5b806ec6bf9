-- What a run uses of a process that is given with its contents.
use Rattle.pip_model_types.specs.declared.desc.Desc.{Desc}
use Rattle.tool_text.specs.Reading.{tool_of}
use Rattle.tool_run.specs.Values.{variables}
use Rattle.tool_run.specs.Description.{Description}
use Rattle.pip_model_types.specs.Outputs.{outdir_paths}

-- The description of a process; its tool is the one whose text the executable has, if there is one.
abbrev pub described : Desc → Description
described d = record {
  tool = tool_of d.exe;
  exe = (d.process.exe, d.exe);
  files = d.files;
  dir = d.process.dir;
  args = d.process.args;
  env = variables d.process.env;
  outs = d.process.outs;
  outdirs = outdir_paths d.process.outdirs;
  console = d.process.console;
  budget = d.budget;
}
