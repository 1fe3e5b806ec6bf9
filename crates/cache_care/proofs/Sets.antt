-- Sets of digests as they grow.
use Rattle.std.proofs.Common.{◌≡◌, ℕ, Bool, true, false, cond, List, [], ◌∷◌, ◌++◌, Option, Some, None, Result, Ok, Err, refl, sym, ap, ◌∙◌, subst}
use Rattle.std.specs.Prelude.{◌||◌, OnOk, is_some}
use Rattle.std.specs.BTreeMap.{UpdatesBy}
use Rattle.std.specs.Cmp.Lexicographic.{slice_cmp}
use Rattle.std.specs.List.{list_any}
use Rattle.std.specs.Map.{lookup}
use Rattle.std.specs.Ordering.{is_eq, nat_cmp}
use Rattle.std.specs.Str.{bytes_eq}
use Rattle.std.proofs.lemmas.List.Folds.{list_any-append}
use Rattle.bx_tree.specs.TextTables.{at_text}
use Rattle.bx_tree.proofs.TextTables.{text_put}
use Rattle.cache_care.specs.Digests.{AddsAll, IsSetOf, has_digest}
use Rattle.cache_care.specs.declared.digests.DigestSet.{DigestSet}

-- ## One digest

pub none_in : (set : DigestSet) → set.digests.entries ≡ [] → (q : List ℕ) → has_digest set q ≡ false
none_in set none q = ap (λ es. is_some (lookup (λ k. is_eq (slice_cmp nat_cmp q k.items)) es)) none

or_some : (b : Bool) (o : Option (Unit {0})) → is_some (cond b (Some tt) o) ≡ (b || is_some o)
or_some true o = refl
or_some false o = refl

pub added : (key digest : List ℕ) (old new : DigestSet) → key ≡ digest
    → UpdatesBy (λ a b. slice_cmp nat_cmp a.items b.items) (λ k. slice_cmp nat_cmp key k.items) old.digests new.digests (Some tt)
    → (q : List ℕ) → has_digest new q ≡ (bytes_eq digest q || has_digest old q)
added key digest old new is h q =
    ap is_some (text_put key old.digests new.digests (Some tt) h q) ∙ or_some (bytes_eq key q) (at_text old.digests q)
    ∙ ap (λ k. bytes_eq k q || has_digest old q) is

-- ## Digests of a list

or_swap : (a b c : Bool) → (a || (b || c)) ≡ ((b || a) || c)
or_swap true true c = refl
or_swap true false c = refl
or_swap false true c = refl
or_swap false false c = refl

or_none : (a : Bool) → (a || false) ≡ a
or_none true = refl
or_none false = refl

or_turned : (a b : Bool) → (a || b) ≡ (b || a)
or_turned true true = refl
or_turned true false = refl
or_turned false true = refl
or_turned false false = refl

pub adds_none : (set : DigestSet) → AddsAll set set []
adds_none set q = refl

pub adds_one : (before now : DigestSet) (digest : List ℕ) → ((q : List ℕ) → has_digest now q ≡ (bytes_eq digest q || has_digest before q))
    → AddsAll before now (digest ∷ [])
adds_one before now digest one q = one q ∙ ap (λ b. b || has_digest before q) (sym (or_none (bytes_eq digest q)))

pub adds_both : (before between now : DigestSet) (first next : List (List ℕ)) → AddsAll before between first → AddsAll between now next
    → AddsAll before now (first ++ next)
adds_both before between now first next one more q =
    more q ∙ ap (λ b. list_any (λ d. bytes_eq d q) next || b) (one q)
    ∙ or_swap (list_any (λ d. bytes_eq d q) next) (list_any (λ d. bytes_eq d q) first) (has_digest before q)
    ∙ ap (λ b. b || has_digest before q) (sym (list_any-append (λ d. bytes_eq d q) first next))

pub adds_same : (before now : DigestSet) (one other : List (List ℕ)) → one ≡ other → AddsAll before now one → AddsAll before now other
adds_same before now one other same h = subst (λ (ds : List (List ℕ)). AddsAll before now ds) same h

-- one digest more
pub adds_more : (before between now : DigestSet) (digests : List (List ℕ)) (digest : List ℕ) (all : List (List ℕ)) → all ≡ digests ++ digest ∷ []
    → AddsAll before between digests → ((q : List ℕ) → has_digest now q ≡ (bytes_eq digest q || has_digest between q)) → AddsAll before now all
adds_more before between now digests digest all is so_far one =
    adds_same before now (digests ++ digest ∷ []) all (sym is) (adds_both before between now digests (digest ∷ []) so_far (adds_one between now digest one))

-- the last step as a call answers it
pub adds_last : {E : Type 0} (r : Result (Unit {0}) E) (before between now : DigestSet) (first next : List (List ℕ)) → AddsAll before between first
    → OnOk r (AddsAll between now next) → OnOk r (AddsAll before now (first ++ next))
adds_last (Ok x) before between now first next one more = adds_both before between now first next one more
adds_last (Err e) before between now first next one more = tt

pub adds_last_one : {E : Type 0} (r : Result (Unit {0}) E) (before now : DigestSet) (digest : List ℕ)
    → OnOk r ((q : List ℕ) → has_digest now q ≡ (bytes_eq digest q || has_digest before q)) → OnOk r (AddsAll before now (digest ∷ []))
adds_last_one (Ok x) before now digest one = adds_one before now digest one
adds_last_one (Err e) before now digest one = tt

-- a set with more digests
pub set_more : (before now : DigestSet) (first next : List (List ℕ)) → IsSetOf before first → AddsAll before now next → IsSetOf now (first ++ next)
set_more before now first next is more q =
    more q ∙ ap (λ b. list_any (λ d. bytes_eq d q) next || b) (is q)
    ∙ or_turned (list_any (λ d. bytes_eq d q) next) (list_any (λ d. bytes_eq d q) first)
    ∙ sym (list_any-append (λ d. bytes_eq d q) first next)

-- ## By a test

pub adds_if : (b : Bool) (before now : DigestSet) (digests named : List (List ℕ)) → b ≡ true → named ≡ digests → AddsAll before now digests
    → AddsAll before now (cond b named [])
adds_if b before now digests named is same h =
    adds_same before now digests (cond b named []) (sym same ∙ ap (λ t. cond t named []) (sym is)) h

pub adds_not : (b : Bool) (before now : DigestSet) (named : List (List ℕ)) → b ≡ false → now ≡ before → AddsAll before now (cond b named [])
adds_not b before now named is same =
    adds_same before now [] (cond b named []) (ap (λ t. cond t named []) (sym is)) (subst (λ (set : DigestSet). AddsAll before set []) (sym same) (adds_none before))
