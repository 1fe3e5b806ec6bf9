use Rattle.std.proofs.Common.{◌≡◌, ◌∙◌, ap, false, subst, sym}
use Rattle.bx_tree.specs.Trees.{Files, NoneNested, paths_of}
use Rattle.tool_run_writes.specs.Writes.{clashes, has_below}
use Rattle.tool_run_writes.proofs.DirectorySets.{below_put}
use Rattle.tool_run_writes.proofs.Unnested.{put_unnested}
use Rattle.tool_run_writes.proofs.writes.Writes.put.Goals as goal

pub invariant_of-result : goal.invariant_of-result
invariant_of-result c =
    let files = c.self.inside.files.entries in (
      λ q.
          c.in_ok-add_new_directories.ensures q
          ∙ sym (below_put files c.args.path c.args.blob q)
          ∙ ap (λ (now : Files). has_below now q) (sym c.in_ok-insert.ensures.entries),
      subst (λ (now : Files). NoneNested (paths_of now)) (sym c.in_ok-insert.ensures.entries)
          (put_unnested files c.args.path c.args.blob c.self.invariant.1
          (subst (λ (now : Files). clashes now c.args.path ≡ false) (sym c.self.view_is) (sym c.in_ok-clashes.ensures ∙ c.if-branch.false))),
    )
