-- Locals by number, one after another.
use Rattle.std.proofs.Common.{◌++◌, ◌+◌, ◌==◌, ◌∙◌, ◌∷◌, ◌≡◌, ◌≤◌, ℕ, Bool, List, None, Option, Some, [], ap, arith, cond, false, map, refl, subst, sym, true}
use Rattle.std.proofs.lemmas.Bool.{eqb-false, eqb-true, ne_eqb}
use Rattle.std.specs.List.{filter, find, list_any}
use Rattle.std.specs.Option.{option_map, option_or}
use Rattle.dscript_types_known.specs.Findings.{Finding, Found, Nothing, Open, Tells, inside}
use Rattle.dscript_types_known.specs.Matching.{FoundLocal, FoundLocals, LocalMatches, captured_inside}
use Rattle.dscript_types_known.specs.Views.{locals_at}
use Rattle.dscript_types_known.specs.declared.locals.Locals.{Locals}
use Rattle.dscript_types_meaning.specs.Contexts.{Context, Local, captured_local, captured_locals, held_inside}
use Rattle.dscript_types_scenes.proofs.Scening.{one_matches}
use Rattle.dscript_types_scenes.specs.Functions.{IsCaptured}
use Rattle.dscript_types_scenes.specs.Scenes.{Matches, with_found}
use Rattle.dscript_types_scenes.specs.declared.scene.Scene.{Scene}

-- the first of a number
abbrev pub at_number : List Local → ℕ → Option Local
at_number ls n = find (λ (l : Local). l.number == n) ls

either
    : (b : Bool) (l : Local) (a r y : Option Local) → r ≡ option_or a y → cond b (Some l) r ≡ option_or (cond b (Some l) a) y
either true l a r y e = refl
either false l a r y e = e

at_append : (xs ys : List Local) (n : ℕ) → at_number (xs ++ ys) n ≡ option_or (at_number xs n) (at_number ys n)
at_append [] ys n = refl
at_append (x ∷ xs) ys n =
    either (x.number == n) x (at_number xs n) (at_number (xs ++ ys) n) (at_number ys n) (at_append xs ys n)

same_eqb : (a b : ℕ) → a ≡ b → (a == b) ≡ true
same_eqb a b e = grind arith

-- all numbers are below this one
abbrev pub AreBelow : List Local → ℕ → Type 0
AreBelow ls n = (k : ℕ) → n ≤ k → at_number ls k ≡ None

pub none_below : (n : ℕ) → AreBelow [] n
none_below n k l = refl

pub more_below : (ls : List Local) (n : ℕ) (l : Local) → l.number ≡ n → AreBelow ls n → AreBelow (ls ++ l ∷ []) (n + 1)
more_below ls n l is below k h =
    at_append ls (l ∷ []) k
    ∙ ap (λ o. option_or o (at_number (l ∷ []) k)) (below k (omega (arith, h)))
    ∙ ap (λ b. cond b (Some l) None) (ne_eqb l.number k (λ e. omega (arith, e, is, h)))

-- another local, of a number that none of those before it has
module _ (closed : Type 0) (n : ℕ) (locals : FoundLocals) (done rest : List Local) (number : ℕ) (f : FoundLocal) (l : Local)
    (is : l.number ≡ number) (fresh : at_number done number ≡ None) (own : LocalMatches closed n (Some f) (Some l))
    (kept : (k : ℕ) → LocalMatches closed n (locals k) (at_number (done ++ rest) k)) where
  pushed_at : (k : ℕ) (b : Bool) → (k == number) ≡ b → at_number (done ++ l ∷ rest) k ≡ cond b (Some l) (at_number (done ++ rest) k)
  pushed_at k true e =
      let same : k ≡ number = eqb-true k number e in
      at_append done (l ∷ rest) k
      ∙ ap (λ o. option_or o (at_number (l ∷ rest) k)) (ap (at_number done) same ∙ fresh)
      ∙ ap (λ b. cond b (Some l) (at_number rest k)) (same_eqb l.number k (is ∙ sym same))
  pushed_at k false e =
      at_append done (l ∷ rest) k
      ∙ ap (λ b. option_or (at_number done k) (cond b (Some l) (at_number rest k)))
      (ne_eqb l.number k (λ same. eqb-false k number e (sym same ∙ is)))
      ∙ sym (at_append done rest k)

  pub pushed : (k : ℕ) → LocalMatches closed n (with_found locals number f k) (at_number (done ++ l ∷ rest) k)
  pushed k =
      subst (λ (o : Option Local). LocalMatches closed n (with_found locals number f k) o) (sym (pushed_at k (k == number) refl))
      (one_matches closed n f l (locals k) (at_number (done ++ rest) k) (k == number) own (kept k))

-- ## What is captured

abbrev among : List ℕ → ℕ → Bool
among numbers k = list_any (λ n. k == n) numbers

module _ (numbers : List ℕ) (k : ℕ) (l : Local) (ls : List Local)
    (rest : at_number (captured_locals numbers ls) k ≡ cond (among numbers k) (option_map captured_local (at_number ls k)) None) where
  abbrev others : List Local
  others = filter (λ (m : Local). list_any (λ n. m.number == n) numbers) ls

  one_captured
      : (t b : Bool) → among numbers l.number ≡ t → (l.number == k) ≡ b
      → at_number (map captured_local (cond t (l ∷ others) others)) k
      ≡ cond (among numbers k) (option_map captured_local (cond b (Some l) (at_number ls k))) None
  one_captured true true et eb =
      ap (λ q. cond q (Some (captured_local l)) (at_number (captured_locals numbers ls) k)) eb
      ∙ sym (ap (λ q. cond q (Some (captured_local l)) None) (ap (among numbers) (sym (eqb-true l.number k eb)) ∙ et))
  one_captured true false et eb =
      ap (λ q. cond q (Some (captured_local l)) (at_number (captured_locals numbers ls) k)) eb ∙ rest
  one_captured false true et eb =
      rest
      ∙ ap (λ q. cond q (option_map captured_local (at_number ls k)) None) (ap (among numbers) (sym (eqb-true l.number k eb)) ∙ et)
      ∙ sym (ap (λ q. cond q (Some (captured_local l)) None) (ap (among numbers) (sym (eqb-true l.number k eb)) ∙ et))
  one_captured false false et eb = rest

nothing_else : (b : Bool) → cond b (option_map captured_local None) None ≡ None
nothing_else true = refl
nothing_else false = refl

captured_at
    : (numbers : List ℕ) (ls : List Local) (k : ℕ)
    → at_number (captured_locals numbers ls) k ≡ cond (among numbers k) (option_map captured_local (at_number ls k)) None
captured_at numbers [] k = sym (nothing_else (among numbers k))
captured_at numbers (l ∷ ls) k =
    one_captured numbers k l ls (captured_at numbers ls k) (among numbers l.number) (l.number == k) refl refl

inside_tells
    : {X : Type 0} (closed : Type 0) (n fewer : ℕ) (f : Finding X) (o : Option X) → n ≡ fewer + 1 → Tells closed n f o
    → Tells closed fewer (inside f) o
inside_tells closed n fewer (Found x rank) o e tells = (
  λ l. tells.0 (omega (arith, l, e)),
  λ l. tells.1 (omega (arith, l, e)),
)
inside_tells closed n fewer Nothing o e tells = tells
inside_tells closed n fewer Open o e tells = tells

captured_matches
    : (closed : Type 0) (n fewer : ℕ) (g : Option FoundLocal) (k : Option Local) → n ≡ fewer + 1 → LocalMatches closed n g k
    → LocalMatches closed fewer (option_map captured_inside g) (option_map captured_local k)
captured_matches closed n fewer None None e m = tt
captured_matches closed n fewer None (Some l) e m = m
captured_matches closed n fewer (Some f) None e m = m
captured_matches closed n fewer (Some f) (Some l) e m = (
  ap held_inside m.0,
  inside_tells closed n fewer f.type_data l.type_data e m.1,
)

if_matches
    : (closed : Type 0) (n : ℕ) (b : Bool) (g : Option FoundLocal) (k : Option Local) → LocalMatches closed n g k
    → LocalMatches closed n (cond b g None) (cond b k None)
if_matches closed n true g k m = m
if_matches closed n false g k m = tt

-- in the body of a callback
pub captures_match
    : (closed : Type 0) (n fewer : ℕ) (scene : Scene) (c : Context) (numbers : List ℕ) (locals : Locals)
    → IsCaptured scene numbers locals → Matches closed n scene c → n ≡ fewer + 1
    → (k : ℕ) → LocalMatches closed fewer (locals_at locals k) (at_number (captured_locals numbers c.locals) k)
captures_match closed n fewer scene c numbers locals is m e k =
    subst (λ (o : Option FoundLocal). LocalMatches closed fewer o (at_number (captured_locals numbers c.locals) k)) (sym (is k))
    (subst
    (λ (o : Option Local). LocalMatches closed fewer
    (cond (among numbers k) (option_map captured_inside (locals_at scene.locals k)) None) o)
    (sym (captured_at numbers c.locals k))
    (if_matches closed fewer (among numbers k) (option_map captured_inside (locals_at scene.locals k))
    (option_map captured_local (at_number c.locals k))
    (captured_matches closed n fewer (locals_at scene.locals k) (at_number c.locals k) e (m.locals k))))
