-- What is found of a name is one thing, and a store is honest where no bad entry is found.
use Rattle.std.proofs.Common.{◌≡◌, ◌⊎◌, ◌↔◌, ℕ, Bool, true, false, List, [], ◌∷◌, ◌++◌, Some, refl, sym, ap, subst, ◌∙◌, inl, inr}
use Rattle.std.specs.FinMap.{contains_key-keys, get, keys}
use Rattle.std.specs.List.{list_any}
use Rattle.std.specs.Prelude.{is_some}
use Rattle.std.specs.Ordering.{eq_by_cmp, nat_cmp}
use Rattle.std.specs.Cmp.Lexicographic.{slice_cmp}
use Rattle.std.proofs.lemmas.Bool.{or_cases}
use Rattle.std.proofs.lemmas.Option.{same_Some}
use Rattle.bx_tree.specs.Members.{Has}
use Rattle.bx_io.specs.Holdings.{Holdings}
use Rattle.memo_format.specs.Entries.{read_entry_text}
use Rattle.memo_format.specs.StoreNames.{HoldsEntry, IsWellFormedName, at_entry, entry}
use Rattle.memo_format.specs.declared.entry.Entry.{Entry}
use Rattle.two_phase_meaning.specs.Honest.{Honest, HonestEntry}
use Rattle.two_phase_meaning.proofs.Puts.{same_name}
use Rattle.cache_care_check.specs.CareLists.{Remark, has_bad_remark, is_bad, remark_of, remarks_of}
use Rattle.cache_care_check.specs.Findings.{AreFindings, IsBadEntry, IsEntryAt, IsFinding, IsHonestEntry}
use Rattle.cache_care_check.specs.declared.surveying.Finding.{Finding}
use Rattle.cache_care_check.specs.declared.surveying.Finding.TheVariants as findings

-- ## Names that are held

has_any : (q : List ℕ) (names : List (List ℕ)) → list_any (eq_by_cmp (slice_cmp nat_cmp) q) names ≡ true → Has names q
has_any q [] e = absurd cc
has_any q (name ∷ names) e =
    elim (or_cases (eq_by_cmp (slice_cmp nat_cmp) q name) (list_any (eq_by_cmp (slice_cmp nat_cmp) q) names) e) [
      | inl here ↦ inl (sym (same_name q name here))
      | inr more ↦ inr (has_any q names more)
    ]

pub held_name : (S : Holdings) (q x : List ℕ) → get S q ≡ Some x → Has (keys S) q
held_name S q x e = has_any q (keys S) (sym (contains_key-keys S q) ∙ ap is_some e)

-- two entries that are held as one name says are one
pub one_entry : (S : Holdings) (name : List ℕ) (d e : Entry) → IsEntryAt S name d → IsEntryAt S name e → d ≡ e
one_entry S name d e h k =
    let bytes : h.held.0 ≡ k.held.0 =
    same_Some h.held.0 k.held.0
    (sym h.held.1 ∙ ap (get S) (sym h.name_is ∙ k.name_is) ∙ k.held.1) in
    same_Some d e (sym h.held.2 ∙ ap read_entry_text bytes ∙ k.held.2)

entry_well : (S : Holdings) (name : List ℕ) (e : Entry) → IsEntryAt S name e → IsWellFormedName S name
entry_well S name e h = entry e h.held h.name_is

-- ## One thing is found

not_both : (S : Holdings) (name : List ℕ) → IsBadEntry S name → IsHonestEntry S name → ⊥
not_both S name bad good =
    bad.dishonest (subst (HonestEntry S) (one_entry S name good.entry bad.entry good.held bad.held) good.honest)

pub one_found : (S : Holdings) (name : List ℕ) (a b : Finding) → IsFinding S name a → IsFinding S name b → a ≡ b
one_found S name findings.Damaged findings.Damaged h k = refl
one_found S name findings.Damaged findings.Bad h k = absurd (h (entry_well S name k.entry k.held))
one_found S name findings.Damaged findings.Honest h k = absurd (h (entry_well S name k.entry k.held))
one_found S name findings.Damaged findings.Other h k = absurd (h k.0)
one_found S name findings.Bad findings.Damaged h k = absurd (k (entry_well S name h.entry h.held))
one_found S name findings.Bad findings.Bad h k = refl
one_found S name findings.Bad findings.Honest h k = absurd (not_both S name h k)
one_found S name findings.Bad findings.Other h k = absurd (k.1 h.entry h.held)
one_found S name findings.Honest findings.Damaged h k = absurd (k (entry_well S name h.entry h.held))
one_found S name findings.Honest findings.Bad h k = absurd (not_both S name k h)
one_found S name findings.Honest findings.Honest h k = refl
one_found S name findings.Honest findings.Other h k = absurd (k.1 h.entry h.held)
one_found S name findings.Other findings.Damaged h k = absurd (k h.0)
one_found S name findings.Other findings.Bad h k = absurd (h.1 k.entry k.held)
one_found S name findings.Other findings.Honest h k = absurd (h.1 k.entry k.held)
one_found S name findings.Other findings.Other h k = refl

pub one_list : (S : Holdings) (names : List (List ℕ)) (a b : List Finding) → AreFindings S names a → AreFindings S names b → a ≡ b
one_list S [] a b h k = h ∙ sym k
one_list S (name ∷ names) [] b h k = absurd h
one_list S (name ∷ names) (f ∷ a) [] h k = absurd k
one_list S (name ∷ names) (f ∷ a) (g ∷ b) h k =
    ap (λ (x : Finding). x ∷ a) (one_found S name f g h.0 k.0) ∙ ap (λ (xs : List Finding). g ∷ xs) (one_list S names a b h.1 k.1)

-- ## Bad entries are told

-- a finding is told as bad just where it is
parted : (name : List ℕ) (f : Finding) (rest : List Remark) → has_bad_remark (remark_of name f ++ rest) ≡ false
    → (is_bad f ≡ false) × (has_bad_remark rest ≡ false)
parted name findings.Damaged rest e = (refl, e)
parted name findings.Bad rest e = let never : true ≡ false = e in absurd cc
parted name findings.Honest rest e = (refl, e)
parted name findings.Other rest e = (refl, e)

joined : (name : List ℕ) (f : Finding) (rest : List Remark) → is_bad f ≡ false → has_bad_remark rest ≡ false
    → has_bad_remark (remark_of name f ++ rest) ≡ false
joined name findings.Damaged rest h e = e
joined name findings.Bad rest h e = let never : true ≡ false = h in absurd cc
joined name findings.Honest rest h e = e
joined name findings.Other rest h e = e

good_found : (S : Holdings) (name : List ℕ) (f : Finding) → Honest S → IsFinding S name f → is_bad f ≡ false
good_found S name findings.Damaged honest h = refl
good_found S name findings.Bad honest h = absurd (h.dishonest (honest h.entry h.held.held))
good_found S name findings.Honest honest h = refl
good_found S name findings.Other honest h = refl

none_bad : (S : Holdings) (names : List (List ℕ)) (found : List Finding) → Honest S → AreFindings S names found
    → has_bad_remark (remarks_of names found) ≡ false
none_bad S [] found honest h = refl
none_bad S (name ∷ names) [] honest h = absurd h
none_bad S (name ∷ names) (f ∷ found) honest h =
    joined name f (remarks_of names found) (good_found S name f honest h.0) (none_bad S names found honest h.1)

found_good : (S : Holdings) (names : List (List ℕ)) (found : List Finding) → AreFindings S names found
    → has_bad_remark (remarks_of names found) ≡ false → (name : List ℕ) → Has names name
    → (f : Finding) × (IsFinding S name f × (is_bad f ≡ false))
found_good S [] found h e name k = absurd k
found_good S (n ∷ names) [] h e name k = absurd h
found_good S (n ∷ names) (f ∷ found) h e name k =
    let both = parted n f (remarks_of names found) e in
    elim k [
      | inl same ↦ (f, (subst (λ (q : List ℕ). IsFinding S q f) same h.0, both.0))
      | inr more ↦ found_good S names found h.1 both.1 name more
    ]

honest_found : (S : Holdings) (e : Entry) → HoldsEntry S e → (f : Finding) → IsFinding S (at_entry e.strong) f → is_bad f ≡ false
    → HonestEntry S e
honest_found S e held findings.Damaged h k = absurd (h (entry e held refl))
honest_found S e held findings.Bad h k = let never : true ≡ false = k in absurd cc
honest_found S e held findings.Honest h k =
    subst (HonestEntry S) (one_entry S (at_entry e.strong) h.entry e h.held (record { held = held; name_is = refl })) h.honest
honest_found S e held findings.Other h k = absurd (h.1 e (record { held = held; name_is = refl }))

pub tells : (S : Holdings) (found : List Finding) → AreFindings S (keys S) found
    → (Honest S ↔ (has_bad_remark (remarks_of (keys S) found) ≡ false))
tells S found h = (
  λ honest. none_bad S (keys S) found honest h,
  λ e x held.
      let good = found_good S (keys S) found h e (at_entry x.strong) (held_name S (at_entry x.strong) held.0 held.1) in
      honest_found S x held good.0 good.1.0 good.1.1,
)
