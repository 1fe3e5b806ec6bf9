use Rattle.std.proofs.Common.{inl, inr, map, refl, subst, sym, ◌∙◌}
use Rattle.std.specs.List.{Contains}
use Rattle.std.proofs.lemmas.Bool.{false≢true}
use Rattle.bx_tree.specs.FileInputs.{input_path}
use Rattle.bx_tree.specs.Paths.{Atoms}
use Rattle.graph_check_outputs.specs.Gathered.{IsLeftOut}
use Rattle.graph_check_outputs.proofs.InOrder.{any_same}
use Rattle.graph_check_outputs.proofs.unlisted.has_unlisted.Goals as goal

pub returns-then-any_left_out : goal.returns-then-any_left_out
returns-then-any_left_out c =
    let seal = c.args.seal.now in
    let any = any_same (IsLeftOut seal) seal.root c.items_below.result.now c.args.files.now (λ p h. h.0) c.items_below.ensures.all
    (c.any_left_out.ensures.0 c.if-any_left_out.true) in
    (λ t. (any.0, any.1, any.2, any.3, (inr any.4.0, any.4.1)), λ k. refl)

pub returns : goal.returns
returns c =
    let seal = c.args.seal.now in
    let files = c.args.files.now in (
      λ t. let h = c.leaves_root_out.ensures.0 t in (h.0.0, seal.root, h.0.1, h.0.2, (inl refl, h.1)),
      λ (k, x, l, is, h). elim h.0 [
        | inl e ↦ c.leaves_root_out.ensures.1
            (subst (Contains files) e (k, l, is), subst (λ (p : Atoms). Contains (map input_path seal.files) p → ⊥) e h.1)
        | inr below ↦ absurd (false≢true (sym c.if-any_left_out.false ∙ c.any_left_out.ensures.1
            (any_same (IsLeftOut seal) seal.root files c.items_below.result.now (λ p z. z.0) (sym c.items_below.ensures.all) (k, x, l, is, (below, h.1)))))
      ],
    )
