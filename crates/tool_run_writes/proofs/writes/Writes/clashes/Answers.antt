use Rattle.std.proofs.Common.{◌≡◌, ◌∙◌, ◌||◌, IfOk, Bool, false, ap, sym, subst}
use Rattle.std.specs.List.{list_any}
use Rattle.bx_tree.specs.Trees.{Files}
use Rattle.bx_tree.specs.Below.{is_below}
use Rattle.tool_run_writes.specs.Writes.{clashes as some_clash}
use Rattle.tool_run_writes.proofs.DirectorySets.{clash_is}
use Rattle.tool_run_writes.proofs.Unnested.{known_unclashed}
use Rattle.tool_run_writes.proofs.writes.Writes.clashes.Goals as goal

pub returns-then-contains_key : goal.returns-then-contains_key
returns-then-contains_key c =
    let files = c.self.inside.files.entries in
    subst (λ (now : Files). false ≡ some_clash now c.args.path.now) c.self.view_is
    (sym (known_unclashed files c.args.path.now c.self.invariant.1 (sym c.contains_key.ensures ∙ c.if-contains_key.true)))

pub returns-then-has_below : goal.returns-then-has_below
returns-then-has_below c =
    sym (ap (λ t. t || list_any (λ f. is_below c.args.path.now f.0) c.args.self.now) (sym c.has_below.ensures ∙ c.if-has_below.true))
    ∙ clash_is c.args.self.now c.args.path.now

pub returns : goal.returns
returns c =
    subst (λ (t : Bool). IfOk c.has_file_above.result (λ yes. yes ≡ t))
    (sym (ap (λ t. t || list_any (λ f. is_below c.args.path.now f.0) c.args.self.now) (sym c.has_below.ensures ∙ c.if-has_below.false))
    ∙ clash_is c.args.self.now c.args.path.now)
    c.has_file_above.ensures
