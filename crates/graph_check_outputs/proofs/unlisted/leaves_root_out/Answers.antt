use Rattle.std.proofs.Common.{ap, inl, inr, not, sym, ◌∙◌}
use Rattle.std.proofs.lemmas.Bool.{cases_Bool}
use Rattle.bx_tree_paths.proofs.Found.{found_there}
use Rattle.graph_check_outputs.proofs.unlisted.leaves_root_out.Goals as goal

pub returns-then-not-is_some : goal.returns-then-not-is_some
returns-then-not-is_some c =
    let found = found_there c.args.files.now c.args.seal.now.root c.place_of.result c.place_of.ensures in
    (λ t. cc, λ h. let t = c.is_some.ensures ∙ found.1 h.0 in let f = c.if-not-is_some.true in cc)

pub returns : goal.returns
returns c =
    let found = found_there c.args.files.now c.args.seal.now.root c.place_of.result c.place_of.ensures in (
      λ t. (
        found.0 (sym c.is_some.ensures ∙ c.if-not-is_some.false),
        λ member. let m = c.has_path.ensures.1 member in cc,
      ),
      λ h. elim (cases_Bool c.has_path.result) [
        | inl has ↦ absurd (h.1 (c.has_path.ensures.0 has))
        | inr lacks ↦ ap not lacks
      ],
    )
