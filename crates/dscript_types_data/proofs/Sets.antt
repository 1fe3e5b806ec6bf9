-- Members are put into a set one by one.
use Rattle.std.proofs.Common.{◌≡◌, ◌<◌, List, [], ◌∷◌, ◌++◌, length, map, refl, ap, sym, ◌∙◌, arith}
use Rattle.std.proofs.lemmas.List.{map-append}
use Rattle.std.specs.BTreeSet.{insert_key}
use Rattle.std.specs.Ordering.{match_ordering}
use Rattle.std.specs.declared.cmp.Ordering.{Ordering}
use Rattle.std.specs.declared.cmp.Ordering.TheVariants.{Less, Equal, Greater}
use Rattle.dscript_types_data.specs.declared.types.Member.{Member}
use Rattle.dscript_types_data.specs.Orders.{shared_cmp}
use Rattle.dscript_types_data.specs.Views.{member_data, union_data}
use Rattle.dscript_types_meaning.specs.Codes.{member_cmp}
use Rattle.dscript_types_meaning.specs.Types.{MemberData}
use Rattle.dscript_types_meaning.specs.Unions.{set_of, union_of}

-- these members, and before them those of a set
abbrev pub set_over : List MemberData → List MemberData → List MemberData
set_over done [] = done
set_over done (m ∷ ms) = insert_key member_cmp (set_over done ms) m

pub over_last : (done ms : List MemberData) (m : MemberData) → set_over done (ms ++ m ∷ []) ≡ set_over (insert_key member_cmp done m) ms
over_last done [] m = refl
over_last done (n ∷ ms) m = ap (λ rest. insert_key member_cmp rest n) (over_last done ms m)

pub over_none : (ms : List MemberData) → set_over [] ms ≡ set_of ms
over_none [] = refl
over_none (m ∷ ms) = ap (λ rest. insert_key member_cmp rest m) (over_none ms)

insert_case
    : (o : Ordering) (m x : Member) (xs rest : List Member) (seen : List MemberData) → map member_data rest ≡ seen
    → map member_data (match_ordering o (m ∷ x ∷ xs) (x ∷ xs) (x ∷ rest))
    ≡ match_ordering o (member_data m ∷ member_data x ∷ map member_data xs) (member_data x ∷ map member_data xs) (member_data x ∷ seen)
insert_case Less m x xs rest seen e = refl
insert_case Equal m x xs rest seen e = refl
insert_case Greater m x xs rest seen e = ap (λ ys. member_data x ∷ ys) e

-- putting a member in its place, as contracts see it
pub insert_seen
    : (xs : List Member) (m : Member)
    → map member_data (insert_key shared_cmp xs m) ≡ insert_key member_cmp (map member_data xs) (member_data m)
insert_seen [] m = refl
insert_seen (x ∷ xs) m =
    insert_case (member_cmp (member_data m) (member_data x)) m x xs (insert_key shared_cmp xs m)
    (insert_key member_cmp (map member_data xs) (member_data m)) (insert_seen xs m)

-- the last of these is put into the set
pub one_put
    : (old new done next : List Member) (m : Member) (whole : List MemberData) → old ≡ new ++ m ∷ []
    → next ≡ insert_key shared_cmp done m → set_over (map member_data done) (map member_data old) ≡ whole
    → set_over (map member_data next) (map member_data new) ≡ whole
one_put old new done next m whole e f h =
    ap (λ ks. set_over (map member_data ks) (map member_data new)) f
    ∙ ap (λ ks. set_over ks (map member_data new)) (insert_seen done m)
    ∙ sym (over_last (map member_data done) (map member_data new) (member_data m))
    ∙ ap (λ ms. set_over (map member_data done) ms) (sym (ap (map member_data) e ∙ map-append member_data new (m ∷ [])))
    ∙ h

-- fewer than two members are in their order
pub few : (ms : List Member) → length ms < 2 → union_data ms ≡ union_of (map member_data ms)
unfolding union_of
few [] l = refl
few (m ∷ []) l = refl
few (m ∷ n ∷ ms) l = absurd (omega (arith, l))
