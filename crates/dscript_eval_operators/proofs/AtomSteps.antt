-- The atoms of a relative path, part by part.
use Rattle.std.proofs.Common.{◌≡◌, ◌≢◌, ℕ, ◌+◌, ◌<◌, true, false, cond, List, [], ◌∷◌, ◌++◌, append_assoc, length, drop, get_or, drop-cons, add-one, codes, Ok, Err, refl, ap, sym, ◌∙◌, inl, inr}
use Rattle.std.specs.Borrow.{Bor}
use Rattle.std.specs.Str.{bytes_eq}
use Rattle.std.proofs.lemmas.Bool.{cases_Bool}
use Rattle.bx_tree.specs.Paths.{IsAtom}
use Rattle.bx_path.specs.Joining.{is_atom}
use Rattle.bx_path.proofs.StepsOfTexts.{is_atom_true, is_atom_false}
use Rattle.dscript_sdk_values.specs.declared.fault.SdkFault.{SdkFault}
use Rattle.dscript_sdk_values.specs.declared.fault.SdkFault.TheVariants.{BadPath}
use Rattle.dscript_sdk_values.specs.Outcomes.{Outcome, ◌>>=◌}
use Rattle.dscript_eval_operators.specs.RelativeLiterals.{atoms_of, part_before}
use Rattle.bx_tree.specs.Lent.{texts_now}

-- these atoms before those of an answer
abbrev pub before : List (List ℕ) → Outcome (List (List ℕ)) → Outcome (List (List ℕ))
before done (Ok atoms) = Ok (done ++ atoms)
before done (Err fault) = Err fault

-- what a part and those after it come to, by what these come to
abbrev IsRefused : Outcome (List (List ℕ)) → Type 0
IsRefused outcome = (fault : SdkFault) → outcome ≡ Err fault → fault ≡ BadPath

refused_after
    : (part : List ℕ) (rest : Outcome (List (List ℕ))) → IsRefused rest → IsRefused (rest >>= part_before part)
refused_after part (Err fault) h f e = h f e
refused_after part (Ok atoms) h f e = elim (cases_Bool (bytes_eq part (codes "."))) [
  | inl dot ↦ let is : Ok atoms ≡ Err f = sym (ap (λ b. cond b (Ok atoms) (cond (is_atom part) (Ok (part ∷ atoms)) (Err BadPath))) dot) ∙ e in cc
  | inr other ↦
      let is : cond (is_atom part) (Ok (part ∷ atoms)) (Err BadPath) ≡ Err f =
      sym (ap (λ b. cond b (Ok atoms) (cond (is_atom part) (Ok (part ∷ atoms)) (Err BadPath))) other) ∙ e in
      elim (cases_Bool (is_atom part)) [
        | inl atom ↦ let now : Ok (part ∷ atoms) ≡ Err f = sym (ap (λ b. cond b (Ok (part ∷ atoms)) (Err BadPath)) atom) ∙ is in cc
        | inr none ↦ let now : Err BadPath ≡ Err f = sym (ap (λ b. cond b (Ok (part ∷ atoms)) (Err BadPath)) none) ∙ is in cc
      ]
]

refused : (parts : List (List ℕ)) → IsRefused (atoms_of parts)
refused [] f e = cc
refused (part ∷ parts) f e = refused_after part (atoms_of parts) (refused parts) f e

dot_at
    : (done : List (List ℕ)) (part : List ℕ) (rest : Outcome (List (List ℕ))) → bytes_eq part (codes ".") ≡ true
    → before done (rest >>= part_before part) ≡ before done rest
dot_at done part (Err fault) dot = refl
dot_at done part (Ok atoms) dot =
    ap (λ b. before done (cond b (Ok atoms) (cond (is_atom part) (Ok (part ∷ atoms)) (Err BadPath)))) dot

atom_at
    : (done : List (List ℕ)) (part : List ℕ) (rest : Outcome (List (List ℕ))) → bytes_eq part (codes ".") ≡ false
    → IsAtom part → before done (rest >>= part_before part) ≡ before (done ++ part ∷ []) rest
atom_at done part (Err fault) other h = refl
atom_at done part (Ok atoms) other h =
    ap (λ b. before done (cond b (Ok atoms) (cond (is_atom part) (Ok (part ∷ atoms)) (Err BadPath)))) other
    ∙ ap (λ b. before done (cond b (Ok (part ∷ atoms)) (Err BadPath))) (is_atom_true part h)
    ∙ ap Ok (sym (append_assoc done (part ∷ []) atoms))

bad_at
    : (done : List (List ℕ)) (part : List ℕ) (rest : Outcome (List (List ℕ))) → IsRefused rest
    → bytes_eq part (codes ".") ≡ false → (IsAtom part → ⊥)
    → before done (rest >>= part_before part) ≡ Err BadPath
bad_at done part (Err fault) h other n = ap Err (h fault refl)
bad_at done part (Ok atoms) h other n =
    ap (λ b. before done (cond b (Ok atoms) (cond (is_atom part) (Ok (part ∷ atoms)) (Err BadPath)))) other
    ∙ ap (λ b. before done (cond b (Ok (part ∷ atoms)) (Err BadPath))) (is_atom_false part n)

pub dot_stays
    : (done : List (List ℕ)) (part : List ℕ) (parts : List (List ℕ)) → bytes_eq part (codes ".") ≡ true
    → before done (atoms_of (part ∷ parts)) ≡ before done (atoms_of parts)
dot_stays done part parts dot = dot_at done part (atoms_of parts) dot

pub atom_goes_down
    : (done : List (List ℕ)) (part : List ℕ) (parts : List (List ℕ)) → bytes_eq part (codes ".") ≡ false → IsAtom part
    → before done (atoms_of (part ∷ parts)) ≡ before (done ++ part ∷ []) (atoms_of parts)
atom_goes_down done part parts other h = atom_at done part (atoms_of parts) other h

pub other_is_bad
    : (done : List (List ℕ)) (part : List ℕ) (parts : List (List ℕ)) → bytes_eq part (codes ".") ≡ false
    → (IsAtom part → ⊥) → before done (atoms_of (part ∷ parts)) ≡ Err BadPath
other_is_bad done part parts other n = bad_at done part (atoms_of parts) (refused parts) other n

-- the parts from a place on
pub next_part
    : (parts : List (Bor (List ℕ))) (i : ℕ) (none : Bor (List ℕ)) → i < length parts
    → texts_now (drop i parts) ≡ (get_or parts i none).now ∷ texts_now (drop (i + 1) parts)
next_part parts i none less =
    ap texts_now (drop-cons parts i none less)
    ∙ ap (λ k. (get_or parts i none).now ∷ texts_now (drop k parts)) (sym (add-one i))
