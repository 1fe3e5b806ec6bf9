use Rattle.std.proofs.Common.{◌≡◌, List, ℕ, [], ◌∷◌, ◌++◌, ap, ◌∙◌, arith, Vec, Global, get_or, take}
use Rattle.std.specs.Borrow.{Bor}
use Rattle.std.specs.List.{join_with_byte}
use Rattle.bx_path.proofs.StepsOfTexts.{first_text, next_text}
use Rattle.bx_path.proofs.joining.text_of.Goals as goal
use Rattle.bx_path.proofs.joining.text_of.Goals.{then-i-gt0+in_ok-push, else-i-gt0}
use Rattle.bx_tree.specs.Lent.{texts_now}

pub loop-i-preserved : goal.loop-i-preserved
loop-i-preserved c =
    let d : Bor (List ℕ) = record { ref_ptr = (0, 0); now = [] } in
    let x : List ℕ = (get_or c.args.atoms.now c.loop-i.i d).now in
    let so_far : List ℕ = join_with_byte 47 (texts_now (take c.loop-i.i c.args.atoms.now)) in
    c.in_ok-extend_from_slice.ensures.items ∙ elim c.if-i-gt0.branch [
      | then-i-gt0+in_ok-push w ↦
          let pushed : c.if-i-gt0.text.items ≡ so_far ++ 47 ∷ [] =
          ap (λ (v : Vec ℕ Global). v.items) w.text-is ∙ w.in_ok-push.ensures.items ∙ ap (λ (t : List ℕ). t ++ 47 ∷ []) c.loop-i.invariant in
          ap (λ (t : List ℕ). t ++ x) pushed ∙ next_text c.args.atoms.now c.loop-i.i d c.loop-i-test.true w.if-i-gt0.true
      | else-i-gt0 w ↦
          let kept : c.if-i-gt0.text.items ≡ so_far = ap (λ (v : Vec ℕ Global). v.items) w.text-is ∙ c.loop-i.invariant in
          ap (λ (t : List ℕ). t ++ x) kept ∙ first_text c.args.atoms.now c.loop-i.i d c.loop-i-test.true (omega (arith, w.if-i-gt0.false))
    ]
