use Rattle.std.proofs.Common.{◌≡◌, ℕ, List, [], Option, None, IfOk, ap, length, rules, subst, sym, vec_len, ◌∙◌}
use Rattle.std.proofs.lemmas.Bool.{eqb-true}
use Rattle.std.specs.Borrow.{Bor}
use Rattle.bx_tree.specs.Trees.{file_at}
use Rattle.pip_model_types.specs.declared.dir_inputs.DirInput.{DirInput}
use Rattle.pip_view.specs.Gathered.{dirs_now, members_of, opaque_of}
use Rattle.pip_view.specs.Seen.{KeepsView, ViewData}
use Rattle.pip_view.proofs.AroundMembers.{at_searched, no_dirs}
use Rattle.pip_view.proofs.view.PipView.member.Goals as goal

pub returns-then-is_empty : goal.returns-then-is_empty
returns-then-is_empty c =
    let opaque = c.self.inside.opaque.items in
    let others = c.self.inside.others in
    let keeps = subst (λ (v : ViewData). KeepsView v (dirs_now opaque) others) c.self.view_is c.self.invariant in
    let long : vec_len c.self.inside.opaque ≡ length opaque = search rules in
    let none : length opaque ≡ 0 = sym long ∙ eqb-true (vec_len c.self.inside.opaque) 0 (sym c.is_empty.ensures ∙ c.if-is_empty.true) in
    at_searched c.args.self.now c.args.path.now (dirs_now opaque) others [] None keeps
    (sym (no_dirs opaque none)) tt

pub returns : goal.returns
returns c =
    let path = c.args.path.now in
    let kept = dirs_now c.self.inside.opaque.items in
    let others = c.self.inside.others in
    let near = c.in_ok-near.near in
    let found = dirs_now c.in_ok-opaque.opaque.items in
    let keeps = subst (λ (v : ViewData). KeepsView v kept others) c.self.view_is c.self.invariant in
    let from = c.in_ok-opaque.ensures ∙ ap (λ (ds : List (Bor DirInput)). opaque_of near (dirs_now ds)) c.as_slice.ensures.value in
    subst (λ (o : Option (List ℕ)). IfOk c.share_found.result (λ found. found ≡ o))
    (c.find_member.ensures
    ∙ ap (λ (ds : List (Bor DirInput)). file_at (members_of c.self.inside.inputs.now (dirs_now ds)) path) c.as_slice-2.ensures.value
    ∙ ap (λ (v : ViewData). file_at (members_of v.inputs found) path) c.self.view_is
    ∙ at_searched c.args.self.now path kept others found near keeps from c.in_ok-near.ensures)
    c.share_found.ensures
