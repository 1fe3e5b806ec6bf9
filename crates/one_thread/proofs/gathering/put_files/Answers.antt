use Rattle.std.proofs.Common.{ℕ, List, ap, ◌∙◌}
use Rattle.bx_tree.specs.Paths.{Atoms}
use Rattle.tool_run_writes.specs.Writes.{with_file}
use Rattle.one_thread.proofs.PutFiles.{file_more, files_end}
use Rattle.one_thread.proofs.gathering.put_files.Goals as goal

pub made-preserved : goal.made-preserved
made-preserved c =
    let files = c.made.files.entries in
    file_more c.args.made.now c.made.file-index c.file-item.result files c.insert.new.self.entries _ c.made-test.true c.file-item.is
    (c.in_ok-insert.ensures.entries
    ∙ ap (λ (p : Atoms). with_file files p c.in_ok-blob.blob) c.in_ok-path.ensures
    ∙ ap (λ (b : List ℕ). with_file files c.file-item.result.path b) c.in_ok-blob.ensures)
    c.made.invariant

pub returns : goal.returns
returns c = files_end c.args.made.now c.made.file-index c.made.files.entries _ c.made-test.false c.made.invariant
