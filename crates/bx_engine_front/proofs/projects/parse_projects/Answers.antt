use Rattle.std.proofs.Common.{ap}
use Rattle.std.proofs.lemmas.Result.{err_from_is_err_and}
use Rattle.dscript_names.specs.ProjectFiles.{all_parsed}
use Rattle.bx_engine_front.specs.Projects.{lent_files}
use Rattle.bx_engine_front.proofs.ProjectFiles.{all_read, each_short, more_read, none_read, refused_here}
use Rattle.bx_engine_front.proofs.projects.parse_projects.Goals as goal

pub files-init : goal.files-init
files-init c = none_read (lent_files c.args.files.now) (all_parsed c.new-parsed.result.items) (ap all_parsed c.new-parsed.ensures.items)

pub parse_project-requires : goal.parse_project-requires
parse_project-requires c =
    each_short c.args.files.now c.files.file-index c.file-item.result c.requires c.files-test.true c.file-item.is

pub returns-in_err-read : goal.returns-in_err-read
returns-in_err-read c =
    let p = err_from_is_err_and c.from_residual.result c.from_residual.ensures.1 in
    rw (p.1, p.2)
    (refused_here c.args.files.now c.files.file-index c.file-item.result c.files.parsed.items
    c.in_err-read.field-0.0 c.files-test.true c.file-item.is c.files.invariant c.in_err-read.ensures)

pub files-preserved : goal.files-preserved
files-preserved c =
    more_read c.args.files.now c.files.file-index c.file-item.result c.files.parsed.items c.push.new.self.items
    c.in_ok-read.read c.files-test.true c.file-item.is c.files.invariant c.in_ok-read.ensures c.in_ok-push.ensures.items

pub returns : goal.returns
returns c = all_read c.args.files.now c.files.file-index c.files.parsed.items c.files-test.false c.files.invariant
