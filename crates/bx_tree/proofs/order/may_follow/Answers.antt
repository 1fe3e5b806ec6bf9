use Rattle.std.proofs.Common.{◌≡◌, codes, sym, subst, ◌∙◌}
use Rattle.std.proofs.lemmas.Bool.{false≢true}
use Rattle.std.proofs.lemmas.Slice.Eq.{bytes_eq-Decides}
use Rattle.bx_tree.specs.Bundle.{ComesAfterAll, HasNoAncestor}
use Rattle.bx_tree.specs.Views.{file_of, files_of}
use Rattle.bx_tree.proofs.TreeCheck.{root_never, may_follow, after_others, no_ancestor_among}
use Rattle.bx_tree.proofs.order.may_follow.Goals as goal

pub returns-then-eq : goal.returns-then-eq
returns-then-eq c = (
  λ e. absurd (false≢true e),
  λ t. absurd (root_never _ (file_of c.args.file.now) c.text-text.result.now c.text-text.ensures.text
      ((bytes_eq-Decides _ _).0 (sym c.eq.ensures ∙ c.if-eq.true)) t),
)

pub returns-then-not-comes_after : goal.returns-then-not-comes_after
returns-then-not-comes_after c = (
  λ e. absurd (false≢true e),
  λ t. absurd (false≢true (sym c.if-not-comes_after.true
      ∙ c.comes_after.ensures.1 (after_others _ (file_of c.args.file.now) c.as_bytes.result.now (c.as_bytes.ensures.value ∙ c.text-text.ensures.text) t))),
)

pub returns : goal.returns
returns c =
    let other = λ (e : c.text-text.result.now ≡ codes "."). false≢true (sym c.if-eq.false ∙ c.eq.ensures ∙ (bytes_eq-Decides _ _).1 e) in
    let text = c.text-text.result.now in
    let above = subst (ComesAfterAll (files_of c.args.before.now)) c.as_bytes.ensures.value (c.comes_after.ensures.0 c.if-not-comes_after.false) in (
      λ t. may_follow (files_of c.args.before.now) (file_of c.args.file.now) text c.requires c.text-text.ensures.is_path c.text-text.ensures.text other above
          (subst (HasNoAncestor (files_of c.args.before.now)) c.as_bytes-2.ensures.value (c.has_no_ancestor.ensures.0 t)),
      λ t. c.has_no_ancestor.ensures.1 (no_ancestor_among _ (file_of c.args.file.now) c.as_bytes-2.result.now (c.as_bytes-2.ensures.value ∙ c.text-text.ensures.text) t),
    )
