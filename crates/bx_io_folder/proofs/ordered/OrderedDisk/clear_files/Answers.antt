use Rattle.std.proofs.Common.{◌≡◌, ◌∙◌, refl, arith, string_bytes}
use Rattle.std.proofs.lemmas.Grind.{common_steps}
use Rattle.bx_io_disk.specs.Files.{path_in}
use Rattle.bx_io_folder.proofs.Clearing.{cleared_all_files, cleared_more, clears_none, clears_on, no_file_yet}
use Rattle.bx_io_folder.proofs.ordered.OrderedDisk.clear_files.Goals as goal

pub files-init : goal.files-init
files-init g c = record {
  clears = λ known. clears_none _;
  cleared = λ known path left below. no_file_yet c.args.kind.now c.args.files.now path _ below;
  locked = c.requires;
  alone = refl;
  later = omega arith;
}

pub files-preserved : goal.files-preserved
files-preserved g c =
    let path : string_bytes c.in_ok-path.path ≡ path_in c.args.kind.now (string_bytes c.file-item.result) = grind (arith, common_steps) in record {
      clears = λ known. clears_on _ _ _ (c.files.invariant.clears known) (c.in_ok-clear_file.ensures.clears known);
      cleared = λ known q left below.
          cleared_more c.args.kind.now q c.as_str.result.now c.args.files.now c.files.file-index c.file-item.result (g.D.Disk.files c.files.self.disk)
          (g.D.Disk.files c.clear_file.new.self.disk) c.files-test.true c.file-item.is (c.as_str.ensures.value ∙ path) (c.in_ok-clear_file.ensures.clears known)
          (c.in_ok-clear_file.ensures.cleared known) (c.files.invariant.cleared known q left) left below;
      locked = c.in_ok-clear_file.ensures.locked;
      alone = c.in_ok-clear_file.ensures.alone ∙ c.files.invariant.alone;
      later = omega (arith, c.in_ok-clear_file.ensures.cause.later, c.files.invariant.later);
    }

pub returns-in_err-clear_file-clause-clears : goal.returns-in_err-clear_file-clause-clears
returns-in_err-clear_file-clause-clears g c known = clears_on _ _ _ (c.files.invariant.clears known) (c.in_err-clear_file.ensures.clears known)

pub returns-clause-cleared : goal.returns-clause-cleared
returns-clause-cleared g c known path left below =
    cleared_all_files c.args.kind.now path c.args.files.now c.files.file-index (g.D.Disk.files c.files.self.disk) c.files-test.false (c.files.invariant.cleared known path left) below
