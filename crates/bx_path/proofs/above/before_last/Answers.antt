use Rattle.std.proofs.Common.{◌≡◌, ◌++◌, ◌∷◌, [], List, ℕ, ap, append-nil, append_assoc, length, subst, sym, ◌∙◌, arith}
use Rattle.bx_path.specs.Joining.{HasNoSlash}
use Rattle.bx_path.proofs.above.before_last.Goals as goal

nothing : (xs : List ℕ) → length xs ≡ 0 → xs ≡ []
nothing [] e = cc
nothing (x ∷ xs) e = absurd (omega (arith, e))

pub back-init : goal.back-init
back-init c = ([], tt, sym (append-nil c.args.text.now))

pub back-preserved : goal.back-preserved
back-preserved c =
    let last = c.in-Some.last.now in
    let after = c.back.invariant.0 in (
      last ∷ after,
      (c.if-last-eq47.false, c.back.invariant.1),
      c.back.invariant.2 ∙ ap (λ (left : List ℕ). left ++ after) c.in-Some.ensures.cases.0 ∙ append_assoc c.in-Some.before.now (last ∷ []) after,
    )

pub returns-then-last-eq47-clause-some : goal.returns-then-last-eq47-clause-some
returns-then-last-eq47-clause-some c =
    let last = c.in-Some.last.now in
    let after = c.back.invariant.0 in
    record {
      part = after;
      whole = c.back.invariant.1;
      text_is =
          c.back.invariant.2 ∙ ap (λ (left : List ℕ). left ++ after) c.in-Some.ensures.cases.0 ∙ append_assoc c.in-Some.before.now (last ∷ []) after
          ∙ ap (λ b. c.in-Some.before.now ++ b ∷ after) c.if-last-eq47.true;
    }

pub returns-clause-none : goal.returns-clause-none
returns-clause-none c =
    λ _.
    subst HasNoSlash (sym (c.back.invariant.2 ∙ ap (λ (left : List ℕ). left ++ c.back.invariant.0) (nothing c.back.left.now c.in_default.ensures.cases)))
    c.back.invariant.1
