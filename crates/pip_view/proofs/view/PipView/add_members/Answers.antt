use Rattle.std.proofs.Common.{◌≡◌, ◌++◌, ℕ, List, OnOk, ap, subst, ◌∙◌}
use Rattle.std.specs.Borrow.{Bor}
use Rattle.bx_tree.specs.Lent.{texts_now}
use Rattle.tool_run_writes.specs.Writes.{own_names}
use Rattle.pip_model_types.specs.declared.dir_inputs.DirInput.{DirInput}
use Rattle.pip_view.specs.Gathered.{dirs_now, members_of, opaque_of}
use Rattle.pip_view.specs.Seen.{KeepsView, ViewData}
use Rattle.pip_view.proofs.AroundMembers.{own_searched}
use Rattle.pip_view.proofs.view.PipView.add_members.Goals as goal

pub returns : goal.returns
returns c =
    let dir = c.args.dir.now in
    let kept = dirs_now c.self.inside.opaque.items in
    let others = c.self.inside.others in
    let near = c.in_ok-near.near in
    let found = dirs_now c.in_ok-opaque.opaque.items in
    let keeps = subst (λ (v : ViewData). KeepsView v kept others) c.self.view_is c.self.invariant in
    let from = c.in_ok-opaque.ensures ∙ ap (λ (ds : List (Bor DirInput)). opaque_of near (dirs_now ds)) c.as_slice.ensures.value in
    subst (λ (ns : List (List ℕ)). OnOk c.add_members.result (texts_now c.add_members.new.names.items ≡ texts_now c.args.names.now.items ++ ns))
    (ap (λ (ds : List (Bor DirInput)). own_names (members_of c.self.inside.inputs.now (dirs_now ds)) dir) c.as_slice-2.ensures.value
    ∙ ap (λ (v : ViewData). own_names (members_of v.inputs found) dir) c.self.view_is
    ∙ own_searched c.args.self.now dir kept others found near keeps from c.in_ok-near.ensures)
    c.add_members.ensures
