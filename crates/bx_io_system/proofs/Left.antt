-- What follows from what a source tells.
use Rattle.std.proofs.Common.{◌≡◌, ℕ, zero, suc, List, [], ◌∷◌, ◌++◌, length, take, drop, Option, Some, None, refl, sym, ap, subst, ◌∙◌, arith}
use Rattle.std.specs.Str.{bytes_eq}
use Rattle.std.proofs.lemmas.List.{take-append-drop}
use Rattle.std.proofs.lemmas.Slice.Eq.{bytes_eq-Decides}
use Rattle.bx_io_disk.specs.Events.{keep_if, gave, gave_bytes, is_nil, left_next, Event, given_of, ended_of}
use Rattle.std.proofs.Math.Seq.{take-append_seam}
use Rattle.std.proofs.lemmas.Grind.{common_steps}
use Rattle.bx_io_disk.proofs.Events.{keep_if_some}
use Rattle.bx_io_disk.specs.declared.kind.Kind.TheVariants as kinds
use Rattle.std.proofs.Common.{true, false, append-nil, ◌<◌, ◌≤◌}
use Rattle.std.proofs.lemmas.Option.{same_Some}

left_piece : (bytes : List ℕ) (was : Option (List ℕ)) (rest : List ℕ) → left_next (kinds.Gave, [], bytes) was ≡ Some rest → was ≡ Some (bytes ++ rest)
left_piece bytes None rest h = absurd (cc)
left_piece bytes (Some left) rest h =
    let kept = keep_if_some (bytes_eq (take (length bytes) left) bytes) (drop (length bytes) left) rest h in
    let front : take (length bytes) left ≡ bytes = (bytes_eq-Decides (take (length bytes) left) bytes).0 kept.0 in
    let back : drop (length bytes) left ≡ rest = kept.1 in
    ap Some (sym (take-append-drop (length bytes) left) ∙ ap (λ p. p ++ drop (length bytes) left) front ∙ ap (λ r. bytes ++ r) back)

left_end : (was : Option (List ℕ)) (rest : List ℕ) → left_next (kinds.Ended, [], []) was ≡ Some rest → was ≡ Some ([] ++ rest)
left_end None rest h = absurd (cc)
left_end (Some left) rest h = ap Some (keep_if_some (is_nil left) left rest h).1

pub left_gave : (n : ℕ) (bytes : List ℕ) (was : Option (List ℕ)) (rest : List ℕ) → left_next (gave n bytes) was ≡ Some rest → was ≡ Some (bytes ++ rest)
left_gave zero bytes was rest h = left_piece bytes was rest h
left_gave (suc n) [] was rest h = left_end was rest h
left_gave (suc n) (b ∷ bytes) was rest h = left_piece (b ∷ bytes) was rest h

-- telling goes on at a piece that agrees
pub left_on : (bytes rest : List ℕ) (was : Option (List ℕ)) → was ≡ Some (bytes ++ rest) → left_next (kinds.Gave, [], bytes) was ≡ Some rest
left_on bytes rest was is =
    let front : take (length bytes) (bytes ++ rest) ≡ bytes = take-append_seam bytes rest in
    let back : drop (length bytes) (bytes ++ rest) ≡ rest = grind (arith, common_steps) in
    rw is (rw (front, back) (ap (λ b. keep_if b rest) ((bytes_eq-Decides bytes bytes).1 refl)))

pub end_on : (was : Option (List ℕ)) → was ≡ Some [] → left_next (kinds.Ended, [], []) was ≡ Some []
end_on was is = rw is refl

-- ## What was given

given_bytes : (bytes : List ℕ) (events : List Event) → given_of (gave_bytes bytes ∷ events) ≡ given_of events ++ bytes
given_bytes [] events = sym (append-nil (given_of events))
given_bytes (b ∷ bytes) events = refl

pub given_gave : (n : ℕ) (bytes : List ℕ) (events : List Event) → given_of (gave n bytes ∷ events) ≡ given_of events ++ bytes
given_gave zero bytes events = refl
given_gave (suc n) bytes events = given_bytes bytes events

none_less : 0 < 0 → ⊥
none_less h = omega arith

-- bytes are no end
pub ended_gave : (n : ℕ) (bytes : List ℕ) (events : List Event) → 0 < length bytes → ended_of (gave n bytes ∷ events) ≡ false
ended_gave n [] events some = absurd (none_less some)
ended_gave zero (b ∷ bytes) events some = refl
ended_gave (suc n) (b ∷ bytes) events some = refl

-- no bytes where some were asked for are the end
ended_nothing : (n : ℕ) (events : List Event) → 0 < n → ended_of (gave n [] ∷ events) ≡ true
ended_nothing zero events some = absurd (none_less some)
ended_nothing (suc n) events some = refl

pub ended_none : (n : ℕ) (bytes : List ℕ) (events : List Event) → 0 < n → bytes ≡ [] → ended_of (gave n bytes ∷ events) ≡ true
ended_none n bytes events some none = subst (λ (b : List ℕ). ended_of (gave n b ∷ events) ≡ true) (sym none) (ended_nothing n events some)

some_not_none : (x : List ℕ) → ◌≡◌ {A = Option (List ℕ)} None (Some x) → ⊥
some_not_none x h = cc

left_none : (was : Option (List ℕ)) (rest : List ℕ) → left_next (kinds.Ended, [], []) was ≡ Some rest → rest ≡ []
left_none None rest h = absurd (some_not_none rest h)
left_none (Some []) rest h = sym (same_Some [] rest h)
left_none (Some (x ∷ left)) rest h = absurd (some_not_none rest h)

left_nothing : (n : ℕ) (was : Option (List ℕ)) (rest : List ℕ) → 0 < n → left_next (gave n []) was ≡ Some rest → rest ≡ []
left_nothing zero was rest some h = absurd (none_less some)
left_nothing (suc n) was rest some h = left_none was rest h

pub none_left_gave : (n : ℕ) (bytes : List ℕ) (was : Option (List ℕ)) (rest : List ℕ) → 0 < n → bytes ≡ [] → left_next (gave n bytes) was ≡ Some rest → rest ≡ []
none_left_gave n bytes was rest some none h = left_nothing n was rest some (subst (λ (b : List ℕ). left_next (gave n b) was ≡ Some rest) none h)

-- a call for no byte leaves whether the end was answered last
pub ended_unasked : (n : ℕ) (bytes : List ℕ) (events : List Event) → n ≡ 0 → length bytes ≤ n → ended_of (gave n bytes ∷ events) ≡ ended_of events
ended_unasked zero [] events none most = refl
ended_unasked zero (b ∷ bytes) events none most = absurd (omega (arith, most))
ended_unasked (suc n) bytes events none most = absurd (omega (arith, none))
