use Rattle.std.proofs.Common.{◌++◌, ◌∷◌, [], subst, sym, ◌∙◌}
use Rattle.std.proofs.lemmas.Bool.{false≢true}
use Rattle.bundle_folder.specs.Answers.{ListsNodes}
use Rattle.bundle_folder.specs.Places.{IsLeftOut}
use Rattle.bundle_folder.specs.Stored.{placed}
use Rattle.bundle_folder.proofs.Entries.{entries_more, left_out_more}
use Rattle.bundle_folder.proofs.mem_folder.add_entry.Goals as goal
use Rattle.bx_tree.specs.Lent.{texts_now}

pub returns-then-is_left_out : goal.returns-then-is_left_out
returns-then-is_left_out c nodes lists =
    let left = texts_now c.args.left_out.now in
    left_out_more left nodes c.args.entries.now.items (placed c.args.placed.now) lists
    (subst (IsLeftOut left) c.as_str-text.ensures.value (c.is_left_out.ensures.0 c.if-is_left_out.true))

pub returns : goal.returns
returns c nodes lists =
    let left = texts_now c.args.left_out.now in
    subst (λ es. ListsNodes left (nodes ++ placed c.args.placed.now ∷ []) es) (sym c.in_ok-push.ensures.items)
    (entries_more left nodes c.args.entries.now.items (placed c.args.placed.now)
    (record { place = c.in_ok-place.place; kind = c.kind-kind.result }) lists
    (λ h. false≢true (sym c.if-is_left_out.false ∙ c.is_left_out.ensures.1 (subst (IsLeftOut left) (sym c.as_str-text.ensures.value) h)))
    (c.in_ok-place.ensures.ok ∙ c.as_str-text.ensures.value) c.kind-kind.ensures)
