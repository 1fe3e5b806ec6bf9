-- A local gets its number at its place.
use Rattle.std.proofs.Common.{◌≡◌, ℕ, ◌+◌, ◌≤◌, Bool, true, false, not, cond, List, [], ◌∷◌, Some, None, zero, suc, get_or, length, refl, ap, sym, ◌∙◌, subst, arith, nat_lt, inl, inr, ◌++◌, reverse}
use Rattle.std.specs.List.{position, position_or_len}
use Rattle.std.specs.Str.{bytes_eq}
use Rattle.std.proofs.Math.ListN.{set}
use Rattle.std.proofs.lemmas.Bool.{cases_Bool}
use Rattle.dscript_names_scopes.specs.declared.local.Local.{Local}
use Rattle.dscript_names_scopes.specs.Blocks.{Block}
use Rattle.dscript_names_scopes.specs.Lookup.{declare_in, with_number}
use Rattle.dscript_names_scopes.proofs.Outwards.{reverse_last}

abbrev named : List ℕ → Local → Bool
named x l = bytes_eq l.name x

abbrev numbered : ℕ → Local → Local
numbered n l = record l { number = Some n }

-- the place of the first local of this name, or the length
abbrev place : List ℕ → List Local → ℕ
place x ls = position_or_len (named x) ls

pub with_number-set : (x : List ℕ) (n : ℕ) (ls : List Local) (d : Local)
    → with_number x n ls ≡ set ls (place x ls) (numbered n (get_or ls (place x ls) d))
with_number-set x n [] d = refl
with_number-set x n (l ∷ ls) d =
    let IsAt : ℕ → Type 0 = λ k. l ∷ with_number x n ls ≡ set (l ∷ ls) k (numbered n (get_or (l ∷ ls) k d)) in
    let next : suc (place x ls) ≡ 1 + place x ls = omega arith in
    elim (bytes_eq l.name x) as (λ b. cond b (numbered n l ∷ ls) (l ∷ with_number x n ls)
    ≡ set (l ∷ ls) (cond (not b) (1 + place x ls) 0)
    (numbered n (get_or (l ∷ ls) (cond (not b) (1 + place x ls) 0) d))) [
      | true ↦ refl
      | false ↦ subst IsAt next (ap (λ ks. l ∷ ks) (with_number-set x n ls d))
    ]

set_past : {X : Type 0} (ls : List X) (i : ℕ) (v : X) → length ls ≤ i → set ls i v ≡ ls
set_past [] i v h = refl
set_past (l ∷ ls) zero v h = absurd (omega arith)
set_past (l ∷ ls) (suc i) v h = ap (λ ks. l ∷ ks) (set_past ls i v (omega arith))

-- where the local is, and where there is none
pub numbered_at : (x : List ℕ) (n : ℕ) (ls : List Local) (d : Local) (i : ℕ)
    → position (λ l. bytes_eq l.name x) ls ≡ Some i → d ≡ get_or ls i d
    → with_number x n ls ≡ set ls i (record d { number = Some n })
numbered_at x n ls d i e is =
    let IsAt : ℕ → Type 0 = λ k. with_number x n ls ≡ set ls k (numbered n (get_or ls k d)) in
    elim (cases_Bool (nat_lt (place x ls) (length ls))) [
      | inl t ↦
          let same : place x ls ≡ i = cc in
          subst IsAt same (with_number-set x n ls d) ∙ ap (λ l. set ls i (numbered n l)) (sym is)
      | inr f ↦ cc
    ]

pub not_numbered : (x : List ℕ) (n : ℕ) (ls : List Local)
    → position (λ l. bytes_eq l.name x) ls ≡ None → with_number x n ls ≡ ls
not_numbered x n [] e = refl
not_numbered x n (l ∷ ls) e =
    elim (cases_Bool (nat_lt (place x (l ∷ ls)) (length (l ∷ ls)))) [
      | inl t ↦ cc
      | inr f ↦
          let past : length (l ∷ ls) ≤ place x (l ∷ ls) = grind (arith, f) in
          with_number-set x n (l ∷ ls) l ∙ set_past (l ∷ ls) (place x (l ∷ ls)) _ past
    ]

-- ## The innermost block

set_end : (prefix : List Block) (b v : Block) → set (prefix ++ b ∷ []) (length prefix) v ≡ prefix ++ v ∷ []
set_end [] b v = refl
set_end (a ∷ prefix) b v = ap (λ bs. a ∷ bs) (set_end prefix b v)

get_end : (prefix : List Block) (b d : Block) → get_or (prefix ++ b ∷ []) (length prefix) d ≡ b
get_end [] b d = refl
get_end (a ∷ prefix) b d = get_end prefix b d

last_of : (b : Block) (bs : List Block) → (prefix : List Block) × ((l : Block) × ((b ∷ bs ≡ prefix ++ l ∷ [])
    × (length bs ≡ length prefix)))
last_of b [] = ([], (b, (refl, refl)))
last_of b (c ∷ bs) =
    let r = last_of c bs in
    (b ∷ r.0, (r.1.0, (ap (λ ds. b ∷ ds) r.1.1.0, ap suc r.1.1.1)))

declared_end : (x : List ℕ) (n : ℕ) (prefix : List Block) (b : Block)
    → reverse (prefix ++ record b { locals = with_number x n b.locals } ∷ [])
    ≡ declare_in x n (reverse (prefix ++ b ∷ []))
declared_end x n prefix b =
    reverse_last prefix (record b { locals = with_number x n b.locals })
    ∙ sym (ap (declare_in x n) (reverse_last prefix b))

pub declared_last : (x : List ℕ) (n : ℕ) (bs : List Block) (i : ℕ) (d v : Block) → i + 1 ≡ length bs
    → d ≡ get_or bs i d → v ≡ record d { locals = with_number x n d.locals }
    → reverse (set bs i v) ≡ declare_in x n (reverse bs)
declared_last x n [] i d v e is made = absurd (omega arith)
declared_last x n (b ∷ bs) i d v e is made =
    let r = last_of b bs in
    let prefix = r.0 in
    let l = r.1.0 in
    let at : i ≡ length prefix = omega (arith, e, r.1.1.1) in
    let same : d ≡ l =
    is ∙ ap (λ k. get_or (b ∷ bs) k d) at ∙ ap (λ cs. get_or cs (length prefix) d) r.1.1.0 ∙ get_end prefix l d in
    let new : v ≡ record l { locals = with_number x n l.locals } =
    made ∙ ap (λ (c : Block). record c { locals = with_number x n c.locals }) same in
    ap (λ k. reverse (set (b ∷ bs) k v)) at ∙ ap (λ cs. reverse (set cs (length prefix) v)) r.1.1.0
    ∙ ap reverse (set_end prefix l v) ∙ ap (λ w. reverse (prefix ++ w ∷ [])) new
    ∙ declared_end x n prefix l ∙ sym (ap (λ cs. declare_in x n (reverse cs)) r.1.1.0)
