use Rattle.std.proofs.Common.{◌≡◌, false, Some, List, ℕ, codes, ap, sym, ◌∙◌, subst}
use Rattle.std.specs.Borrow.{Bor}
use Rattle.std.specs.List.{AllByRecursion}
use Rattle.std.specs.Str.{bytes_eq}
use Rattle.std.proofs.lemmas.Bool.{false≢true}
use Rattle.std.proofs.lemmas.List.{map-append, map_push}
use Rattle.bx_tree.specs.Paths.{IsAtom}
use Rattle.bx_path.proofs.StepsOfTexts.{step_none, step_down}
use Rattle.bx_path.proofs.joining.take_step.Goals as goal
use Rattle.bx_tree.specs.Lent.{texts_now}
use Rattle.bx_tree.proofs.Lists.{all_front}

pub returns-in-Some-clause-valid : goal.returns-in-Some-clause-valid
returns-in-Some-clause-valid c =
    let rest = c.in-Some.ensures.items in
    all_front IsAtom (texts_now c.pop.new.self.items) _
    (subst (AllByRecursion IsAtom) (ap texts_now rest ∙ map-append (λ (part : Bor (List ℕ)). part.now) c.pop.new.self.items _) c.requires)

pub returns-then-not-is_atom-clause-bad : goal.returns-then-not-is_atom-clause-bad
returns-then-not-is_atom-clause-bad c =
    let dot : bytes_eq c.args.part.now (codes ".") ≡ false = ap (bytes_eq c.args.part.now) (sym c.as_slice.ensures) ∙ sym c.if-eq.ensures in
    let dots : bytes_eq c.args.part.now (codes "..") ≡ false = ap (bytes_eq c.args.part.now) (sym c.as_slice-2.ensures) ∙ sym c.if-eq-2.ensures in
    λ _. step_none (texts_now c.args.atoms.now.items) c.args.part.now dot dots (λ h. false≢true (sym c.if-not-is_atom.true ∙ c.is_atom.ensures.1 h))

pub returns-clause-ok : goal.returns-clause-ok
returns-clause-ok c =
    let dot : bytes_eq c.args.part.now (codes ".") ≡ false = ap (bytes_eq c.args.part.now) (sym c.as_slice.ensures) ∙ sym c.if-eq.ensures in
    let dots : bytes_eq c.args.part.now (codes "..") ≡ false = ap (bytes_eq c.args.part.now) (sym c.as_slice-2.ensures) ∙ sym c.if-eq-2.ensures in
    step_down (texts_now c.args.atoms.now.items) c.args.part.now dot dots (c.is_atom.ensures.0 c.if-not-is_atom.false)
    ∙ ap Some (sym (ap texts_now c.in_ok-push.ensures.items ∙ map_push (λ (part : Bor (List ℕ)). part.now) c.args.atoms.now.items c.args.part))
