use Rattle.std.proofs.Common.{List, ℕ, rules}
use Rattle.std.specs.Borrow.{Bor}
use Rattle.std.proofs.lemmas.Iterator.{cases_from_any, YieldsList-from_slice}
use Rattle.bx_tree.proofs.AnyElement.{any_or_none}
use Rattle.bundle_folder.specs.Places.{IsWithin}
use Rattle.bundle_folder.proofs.Entries.{any_from_left_out, left_out_from_any}
use Rattle.bundle_folder.proofs.places.is_left_out.Goals as goal

pub returns : goal.returns
returns c =
    let any = any_or_none (λ (t : Bor (List ℕ)). IsWithin c.args.place.now t.now) _ _
    (cases_from_any _ _ _ (λ (t : Bor (List ℕ)). IsWithin c.args.place.now t.now) (λ (t : Bor (List ℕ)). IsWithin c.args.place.now t.now → ⊥) c.any.ensures.ran
    (YieldsList-from_slice c.args.tops.now cc) (λ x q k. search rules) (λ x q k. search rules)) in
    (λ t. left_out_from_any c.args.tops.now c.args.place.now (any.0 t), λ h. any.1 (any_from_left_out c.args.tops.now c.args.place.now h))
