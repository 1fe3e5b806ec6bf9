use Rattle.std.proofs.Common.{map}
use Rattle.dscript_program.specs.BoundTree.{to_holes}
use Rattle.dscript_program.specs.Views.{hole_data}
use Rattle.dscript_eval_frames.specs.Views.{seen}
use Rattle.dscript_eval_exprs.proofs.Rests.{path_as}
use Rattle.dscript_eval_exprs.proofs.exprs.any_path.Goals as goal

pub returns-in-Relative : goal.returns-in-Relative
returns-in-Relative c =
    path_as _ (seen c.args.machine.now) _ _ _ c.args.text.now (to_holes (map hole_data c.args.holes.now)) c.in-Relative.is
    c.begin_literal.ensures

pub returns-in-Atom : goal.returns-in-Atom
returns-in-Atom c =
    path_as _ (seen c.args.machine.now) _ _ _ c.args.text.now (to_holes (map hole_data c.args.holes.now)) c.in-Atom.is
    c.begin_literal-in-Atom.ensures

pub returns-in-Path : goal.returns-in-Path
returns-in-Path c =
    path_as _ (seen c.args.machine.now) _ _ _ c.args.text.now (to_holes (map hole_data c.args.holes.now)) c.in-Path.is
    c.begin_path.ensures

pub returns-in-File : goal.returns-in-File
returns-in-File c =
    path_as _ (seen c.args.machine.now) _ _ _ c.args.text.now (to_holes (map hole_data c.args.holes.now)) c.in-File.is
    c.begin_path-in-File.ensures

pub returns-in-Directory : goal.returns-in-Directory
returns-in-Directory c =
    path_as _ (seen c.args.machine.now) _ _ _ c.args.text.now (to_holes (map hole_data c.args.holes.now)) c.in-Directory.is
    c.begin_path-in-Directory.ensures
