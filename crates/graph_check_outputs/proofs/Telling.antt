-- Where some first pips have one output directory that not both share.
use Rattle.std.proofs.Common.{inl, inr, ℕ, ◌<◌, ◌≤◌, List, length, length-take, take, arith, subst, sym}
use Rattle.std.specs.Prelude.{◌↔◌}
use Rattle.std.proofs.lemmas.Bool.{cases_lt}
use Rattle.std.proofs.lemmas.List.{take_all, take-take}
use Rattle.pip_model_types.specs.declared.pip.Pip.{Pip}
use Rattle.graph_check_outputs.specs.Sharing.{HasUnshared, TellsUnshared, declared_dir_paths, lone_paths}
use Rattle.graph_check_outputs.proofs.Prefixes.{into, out_of}
use Rattle.graph_check_outputs.proofs.Unsharing.{ClashAt, clash_from_unshared, clash_within, unshared_from_clash}

clash_into : (pips : List Pip) (m i : ℕ) → i < m → ClashAt pips i → ClashAt (take m pips) i
clash_into pips m i l (j, below, (p, h)) =
    let first : j < m = omega (arith, below, l) in (
      j,
      below,
      (
        p,
        elim h [
          | inl x ↦ inl (into lone_paths pips m i p l x.0, into declared_dir_paths pips m j p first x.1)
          | inr x ↦ inr (into declared_dir_paths pips m i p l x.0, into lone_paths pips m j p first x.1)
        ],
      ),
    )

clash_out : (pips : List Pip) (m i : ℕ) → i < m → ClashAt (take m pips) i → ClashAt pips i
clash_out pips m i l (j, below, (p, h)) =
    let first : j < m = omega (arith, below, l) in (
      j,
      below,
      (
        p,
        elim h [
          | inl x ↦ inl (out_of lone_paths pips m i p l x.0, out_of declared_dir_paths pips m j p first x.1)
          | inr x ↦ inr (out_of declared_dir_paths pips m i p l x.0, out_of lone_paths pips m j p first x.1)
        ],
      ),
    )

-- whether pips clash is decided by the number of the first that clashes with an earlier one, or by their count
-- where none does
pub tells : (pips : List Pip) (n : ℕ) → ((j : ℕ) → j < n → ClashAt pips j → ⊥) → (n < length pips → ClashAt pips n) → TellsUnshared pips n
tells pips n none here m l = (
  λ h.
      let clash = clash_from_unshared (take m pips) h in
      let within = clash_within (take m pips) clash.0 clash.1 in
      let first : clash.0 < m = omega (arith, within, length-take m pips) in
      elim (cases_lt clash.0 n) [
        | inl early ↦ absurd (none clash.0 early (clash_out pips m clash.0 first clash.1))
        | inr late ↦ omega (arith, late, first)
      ],
  λ less. unshared_from_clash (take m pips) n (clash_into pips m n less (here (omega (arith, less, l)))),
)

-- a number that decides it for each beginning of a list decides it for each beginning of a beginning
pub tells_first : (pips : List Pip) (m n : ℕ) → TellsUnshared pips n → TellsUnshared (take m pips) n
tells_first pips m n tells_all k l =
    let long = length-take m pips in
    let less : k ≤ m = omega (arith, l, long) in
    subst (λ (ps : List Pip). HasUnshared ps ↔ (n < k)) (sym (take-take k m pips less)) (tells_all k (omega (arith, l, long)))

-- a number that decides it for each beginning of a list decides it for the whole list
pub tells_all : (pips : List Pip) (n : ℕ) → TellsUnshared pips n → HasUnshared pips ↔ (n < length pips)
tells_all pips n tells =
    subst (λ (ps : List Pip). HasUnshared ps ↔ (n < length pips)) (take_all (length pips) pips (omega arith)) (tells (length pips) (omega arith))
