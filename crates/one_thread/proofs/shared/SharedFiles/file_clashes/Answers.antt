use Rattle.std.proofs.Common.{sym, ◌∙◌}
use Rattle.std.proofs.lemmas.Result.{IfOk-weaker}
use Rattle.one_thread.proofs.SharedSets.{no_one_clash, one_clash}
use Rattle.one_thread.proofs.shared.SharedFiles.file_clashes.Goals as goal

pub returns-then-not-is_shared : goal.returns-then-not-is_shared
returns-then-not-is_shared c = λ paths h.
    no_one_clash c.args.dirs.now c.args.file.now paths (sym c.is_shared.ensures ∙ c.if-not-is_shared.true)

pub returns : goal.returns
returns c =
    IfOk-weaker c.clashes.result _ _
    (λ yes f. λ paths h. one_clash c.args.dirs.now c.args.file.now paths yes (sym c.is_shared.ensures ∙ c.if-not-is_shared.false) (f paths h))
    c.clashes.ensures
