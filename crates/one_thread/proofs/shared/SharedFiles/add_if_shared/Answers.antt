use Rattle.std.proofs.Common.{◌++◌, List, OnOk, append-nil, sym, subst, true, false, ◌∙◌}
use Rattle.bx_tree.specs.Paths.{Atoms}
use Rattle.one_thread.specs.Shared.{KeepsShared}
use Rattle.one_thread.proofs.SharedSets.{one_shared}
use Rattle.one_thread.proofs.shared.SharedFiles.add_if_shared.Goals as goal

pub returns-then-is_shared : goal.returns-then-is_shared
returns-then-is_shared c =
    subst (λ (more : List Atoms). OnOk c.add.result ((paths : List Atoms) → KeepsShared c.args.self.now.files c.args.self.now.dirs paths
    → KeepsShared c.add.new.self.files c.add.new.self.dirs (paths ++ more)))
    (one_shared c.args.dirs.now c.args.file.now true (sym c.is_shared.ensures ∙ c.if-is_shared.true)) c.add.ensures

pub returns : goal.returns
returns c = λ paths h.
    subst (λ (more : List Atoms). KeepsShared c.args.self.now.files c.args.self.now.dirs (paths ++ more))
    (one_shared c.args.dirs.now c.args.file.now false (sym c.is_shared.ensures ∙ c.if-is_shared.false))
    (subst (KeepsShared c.args.self.now.files c.args.self.now.dirs) (sym (append-nil paths)) h)
