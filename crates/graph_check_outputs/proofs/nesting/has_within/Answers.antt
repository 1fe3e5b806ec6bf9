use Rattle.std.proofs.Common.{inl, inr, refl, subst, sym, ◌∙◌}
use Rattle.std.specs.List.{Contains}
use Rattle.std.proofs.lemmas.Bool.{false≢true}
use Rattle.bx_tree_paths.proofs.Found.{found_there}
use Rattle.graph_check_outputs.proofs.nesting.has_within.Goals as goal

pub returns-then-is_some : goal.returns-then-is_some
returns-then-is_some c =
    let dir = c.args.dir.now in
    let found = found_there c.args.paths.now dir c.place_of.result c.place_of.ensures in
    let there = found.0 (sym c.is_some.ensures ∙ c.if-is_some.true) in
    (λ t. (there.0, dir, there.1, there.2, inl refl), λ any. refl)

pub returns : goal.returns
returns c =
    let paths = c.args.paths.now in
    let found = found_there paths c.args.dir.now c.place_of.result c.place_of.ensures in (
      λ t. let any = c.has_below.ensures.0 t in (any.0, any.1, any.2, any.3, inr any.4),
      λ (k, x, l, is, h). elim h [
        | inl e ↦ absurd (false≢true (sym c.if-is_some.false ∙ c.is_some.ensures ∙ found.1 (subst (Contains paths) e (k, l, is))))
        | inr below ↦ c.has_below.ensures.1 (k, x, l, is, below)
      ],
    )
