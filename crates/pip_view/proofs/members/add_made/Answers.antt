use Rattle.std.proofs.Common.{◌≡◌, ◌++◌, List, ℕ, OnOk, ap, append-nil, subst, sym, ◌∙◌}
use Rattle.bx_tree.specs.Trees.{Files}
use Rattle.tool_run_writes.specs.Writes.{own_names}
use Rattle.pip_view_inputs.specs.Results.{files_by}
use Rattle.pip_view.specs.Gathered.{below_of}
use Rattle.pip_view.proofs.MadeLists.{made_rise, within_made}
use Rattle.pip_view.proofs.OpaqueMembers.{names_at, names_deeper}
use Rattle.pip_view.proofs.members.add_made.Goals as goal
use Rattle.bx_tree.specs.Lent.{texts_now}

pub returns-in_default : goal.returns-in_default
returns-in_default c =
    let path = c.args.path.now in
    let files = files_by c.args.inputs.now c.args.pip in
    sym (append-nil (texts_now c.args.names.now.items))
    ∙ ap (λ ns. texts_now c.args.names.now.items ++ ns)
    (ap (λ o. names_at o path files) c.in_default.ensures ∙ sym (names_deeper c.args.dir.now path files))

pub add_within-requires : goal.add_within-requires
add_within-requires c = made_rise c.made_by.result.now c.made_by.ensures.rising

pub returns : goal.returns
returns c =
    let path = c.args.path.now in
    let files = files_by c.args.inputs.now c.args.pip in
    subst (λ (ns : List (List ℕ)). OnOk c.add_within.result (texts_now c.add_within.new.names.items ≡ texts_now c.args.names.now.items ++ ns))
    (within_made path c.in-Some.root.now c.made_by.result.now
    ∙ ap (λ (fs : Files). own_names (below_of c.in-Some.root.now fs) path) c.made_by.ensures.files
    ∙ ap (λ o. names_at o path files) c.in-Some.ensures ∙ sym (names_deeper c.args.dir.now path files))
    c.add_within.ensures
