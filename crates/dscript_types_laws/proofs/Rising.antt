-- What hangs on what is known, and rises with it: what is known where less is known is known where more is.
use Rattle.std.proofs.Common.{◌≡◌, ℕ, Bool, true, false, cond, List, [], ◌∷◌, ◌++◌, Option, Some, None, refl, sym, ap, ◌∙◌, subst}
use Rattle.std.specs.List.{AllZip, find}
use Rattle.std.specs.Option.{option_and_then, option_map}
use Rattle.std.specs.Prelude.{◌==◌}
use Rattle.dscript_types_meaning.specs.Types.{TypeData}
use Rattle.dscript_types_meaning.specs.Contexts.{Answer, Ask, Callback, Captured, Constant, Context, Fixed, Hold, Known, Local, Meaning}
use Rattle.dscript_types_meaning.specs.Contexts.{Standing, Types, Variable, bare, gives}
use Rattle.dscript_types_meaning.specs.Contexts.{local_at, local_type, needs, only, type_if_variable, variable_type, with_bodies}
use Rattle.dscript_types_meaning.specs.Contexts.{with_local, ◌>>=◌, ◌>>◌}
use Rattle.dscript_types_laws.proofs.Pairs.{some_pair}

-- ## The order

-- what the one has the other has too
abbrev pub Below : {X : Type 0} → Option X → Option X → Type 0
Below {X} o q = (x : X) → o ≡ Some x → q ≡ Some x

abbrev pub LocalBelow : Local → Local → Type 0
LocalBelow l k = (l.number ≡ k.number) × (l.hold ≡ k.hold) × Below l.type_data k.type_data

pub record ContextBelow (c d : Context) : Type 0 where
  pub file : c.file ≡ d.file
  pub around : c.around ≡ d.around
  pub parameters : c.parameters ≡ d.parameters
  pub locals : AllZip LocalBelow c.locals d.locals

-- they stand in one file, in the same namespaces, and under the same type parameters
pub record SamePlace (c d : Context) : Type 0 where
  pub file : c.file ≡ d.file
  pub around : c.around ≡ d.around
  pub parameters : c.parameters ≡ d.parameters

pub same_place : {c d : Context} → ContextBelow c d → SamePlace c d
same_place {c} {d} below = record { file = below.file; around = below.around; parameters = below.parameters }

abbrev pub AskBelow : Ask → Ask → Type 0
AskBelow (Callback number c) (Callback other d) = (number ≡ other) × ContextBelow c d
AskBelow (Callback number c) b = ⊥
AskBelow (Meaning file decl) b = b ≡ Meaning file decl
AskBelow (Constant file decl) b = b ≡ Constant file decl
AskBelow (Answer file decl) b = b ≡ Answer file decl

abbrev pub KnownBelow : Known → Known → Type 0
KnownBelow k l = (a b : Ask) → AskBelow a b → Below (k a) (l b)

abbrev pub StandingBelow : Standing → Standing → Type 0
StandingBelow a b = (a.number ≡ b.number) × ContextBelow a.context b.context

-- a part that has a type there has it here, with bodies that stand in contexts above
pub record TypesBelow {X : Type 0} (m n : Types X) : Type 0 where
  pub at : (x : X) (bodies : List Standing) → m ≡ Some (x, bodies)
      → (others : List Standing) × (n ≡ Some (x, others)) × AllZip StandingBelow bodies others

-- ## Parts

zip_append
    : (a b c d : List Standing) → AllZip StandingBelow a b → AllZip StandingBelow c d
    → AllZip StandingBelow (a ++ c) (b ++ d)
zip_append [] [] c d p q = q
zip_append [] (y ∷ b) c d p q = absurd p
zip_append (x ∷ a) [] c d p q = absurd p
zip_append (x ∷ a) (y ∷ b) c d p q = (p.0, zip_append a b c d p.1 q)

module _ {X : Type 0} where
  pub below_itself : (o : Option X) → Below o o
  below_itself o x e = e

  pub gives_below : (x : X) → TypesBelow (gives x) (gives x)
  gives_below x = record {
    at = λ y bodies e. let s = some_pair x y [] bodies e in
        ([], ap (λ z. Some (z, [])) s.0, subst (λ bs. AllZip StandingBelow bs []) s.1 tt);
  }

  none_below : (n : Types X) → TypesBelow None n
  none_below n = record { at = λ y bodies e. absurd cc }

  some_below : (x : X) (q : Option X) → q ≡ Some x → TypesBelow (only (Some x)) (only q)
  some_below x q e = record {
    at = λ y bodies is. let s = some_pair x y [] bodies is in
        ([], ap only e ∙ ap (λ z. Some (z, [])) s.0, subst (λ bs. AllZip StandingBelow bs []) s.1 tt);
  }

  pub only_below : (o q : Option X) → Below o q → TypesBelow (only o) (only q)
  only_below None q below = none_below (only q)
  only_below (Some x) q below = some_below x q (below x refl)

pub needs_below : (b : Bool) → TypesBelow (needs b) (needs b)
needs_below true = gives_below tt
needs_below false = none_below None

turn_below
    : {Y : Type 0} (first others : List Standing) (m n : Types Y) → AllZip StandingBelow first others → TypesBelow m n
    → TypesBelow (with_bodies first m) (with_bodies others n)
turn_below first others None n zip below = none_below (with_bodies others n)
turn_below first others (Some r) n zip below = record {
  at = λ y bodies e.
      let s = some_pair r.0 y (first ++ r.1) bodies e in
      let b = below.at r.0 r.1 refl in (
        others ++ b.0,
        ap (with_bodies others) b.1 ∙ ap (λ z. Some (z, others ++ b.0)) s.0,
        subst (λ bs. AllZip StandingBelow bs (others ++ b.0)) s.1 (zip_append first others r.1 b.0 zip b.2),
      );
}

module _ {X Y : Type 0} where
  pub then_below
      : (m n : Types X) (f g : X → Types Y) → TypesBelow m n → ((x : X) → TypesBelow (f x) (g x))
      → TypesBelow (m >>= f) (n >>= g)
  then_below None n f g below more = none_below (n >>= g)
  then_below (Some r) n f g below more =
      let b = below.at r.0 r.1 refl in
      subst (λ o. TypesBelow (with_bodies r.1 (f r.0)) (o >>= g)) (sym b.1)
      (turn_below r.1 b.0 (f r.0) (g r.0) b.2 (more r.0))

  pub both_below
      : (m n : Types X) (f g : Types Y) → TypesBelow m n → TypesBelow f g → TypesBelow (m >> f) (n >> g)
  both_below m n f g below more = then_below m n (λ x. f) (λ x. g) below (λ x. more)

pub bare_below : {X : Type 0} (m n : Types X) → TypesBelow m n → Below (bare m) (bare n)
bare_below None n below x e = absurd cc
bare_below (Some r) n below x e =
    let b = below.at r.0 r.1 refl in
    let same : r.0 ≡ x = cc in ap bare b.1 ∙ ap Some same

-- ## Options

and_case
    : {X Y : Type 0} (o q : Option X) (f g : X → Option Y) → Below o q → ((x : X) → Below (f x) (g x))
    → Below (option_and_then f o) (option_and_then g q)
and_case None q f g below more y e = absurd cc
and_case (Some x) q f g below more y e = ap (option_and_then g) (below x refl) ∙ more x y e

pub and_below
    : {X Y : Type 0} (o q : Option X) (f g : X → Option Y) → Below o q → ((x : X) → Below (f x) (g x))
    → Below (option_and_then f o) (option_and_then g q)
and_below o q f g below more = and_case o q f g below more

pub map_below : {X Y : Type 0} (o q : Option X) (f : X → Y) → Below o q → Below (option_map f o) (option_map f q)
map_below None q f below y e = absurd cc
map_below (Some x) q f below y e = ap (option_map f) (below x refl) ∙ e

-- ## Locals

find_case
    : (l k : Local) (ls ks : List Local) (n : ℕ) (b : Bool) → LocalBelow l k → (l.number == n) ≡ b
    → ((x : Local) → find (λ (j : Local). j.number == n) ls ≡ Some x
    → (y : Local) × (find (λ (j : Local). j.number == n) ks ≡ Some y) × LocalBelow x y)
    → (x : Local) → cond b (Some l) (find (λ (j : Local). j.number == n) ls) ≡ Some x
    → (y : Local) × (cond (k.number == n) (Some k) (find (λ (j : Local). j.number == n) ks) ≡ Some y) × LocalBelow x y
find_case l k ls ks n true below is more x e =
    let same : l ≡ x = cc in
    let here : (k.number == n) ≡ true = ap (λ m. m == n) (sym below.0) ∙ is in
    (k, ap (λ b. cond b (Some k) (find (λ (j : Local). j.number == n) ks)) here, subst (λ z. LocalBelow z k) same below)
find_case l k ls ks n false below is more x e =
    let other : (k.number == n) ≡ false = ap (λ m. m == n) (sym below.0) ∙ is in
    let r = more x e in
    (r.0, ap (λ b. cond b (Some k) (find (λ (j : Local). j.number == n) ks)) other ∙ r.1, r.2)

-- a local that is seen there is seen here
pub find_below
    : (ls ks : List Local) (n : ℕ) → AllZip LocalBelow ls ks → (x : Local)
    → find (λ (j : Local). j.number == n) ls ≡ Some x
    → (y : Local) × (find (λ (j : Local). j.number == n) ks ≡ Some y) × LocalBelow x y
find_below [] ks n zip x e = absurd cc
find_below (l ∷ ls) [] n zip x e = absurd zip
find_below (l ∷ ls) (k ∷ ks) n zip x e =
    find_case l k ls ks n (l.number == n) zip.0 refl (find_below ls ks n zip.1) x e

type_case
    : (o q : Option Local) → ((x : Local) → o ≡ Some x → (y : Local) × (q ≡ Some y) × LocalBelow x y)
    → Below (option_and_then (λ (l : Local). l.type_data) o) (option_and_then (λ (l : Local). l.type_data) q)
type_case None q below t e = absurd cc
type_case (Some x) q below t e =
    let r = below x refl in ap (option_and_then (λ (l : Local). l.type_data)) r.1 ∙ r.2.2 t e

pub local_below : (c d : Context) (n : ℕ) → ContextBelow c d → Below (local_type c n) (local_type d n)
local_below c d n below =
    type_case (local_at c n) (local_at d n) (λ x e. find_below c.locals d.locals n below.locals x e)

variable_case : (h : Hold) (o q : Option TypeData) → Below o q → Below (type_if_variable h o) (type_if_variable h q)
variable_case Fixed o q below t e = absurd cc
variable_case Variable o q below t e = below t e
variable_case Captured o q below t e = absurd cc

assigned_case
    : (o q : Option Local) → ((x : Local) → o ≡ Some x → (y : Local) × (q ≡ Some y) × LocalBelow x y)
    → Below (option_and_then (λ (l : Local). type_if_variable l.hold l.type_data) o)
    (option_and_then (λ (l : Local). type_if_variable l.hold l.type_data) q)
assigned_case None q below t e = absurd cc
assigned_case (Some x) q below t e =
    let r = below x refl in
    ap (option_and_then (λ (l : Local). type_if_variable l.hold l.type_data)) r.1
    ∙ ap (λ h. type_if_variable h r.0.type_data) (sym r.2.1)
    ∙ variable_case x.hold x.type_data r.0.type_data r.2.2 t e

pub variable_below : (c d : Context) (n : ℕ) → ContextBelow c d → Below (variable_type c n) (variable_type d n)
variable_below c d n below =
    assigned_case (local_at c n) (local_at d n) (λ x e. find_below c.locals d.locals n below.locals x e)

-- with a further local
pub with_below
    : (c d : Context) (n : ℕ) (o q : Option TypeData) (h : Hold) → ContextBelow c d → Below o q
    → ContextBelow (with_local n o h c) (with_local n q h d)
with_below c d n o q h below more = record {
  file = below.file;
  around = below.around;
  parameters = below.parameters;
  locals = ((refl, refl, more), below.locals);
}

-- without a change
locals_itself : (ls : List Local) → AllZip LocalBelow ls ls
locals_itself [] = tt
locals_itself (l ∷ ls) = ((refl, refl, λ t e. e), locals_itself ls)

pub context_itself : (c : Context) → ContextBelow c c
context_itself c = record { file = refl; around = refl; parameters = refl; locals = locals_itself c.locals }

pub ask_itself : (a : Ask) → AskBelow a a
ask_itself (Meaning file decl) = refl
ask_itself (Constant file decl) = refl
ask_itself (Answer file decl) = refl
ask_itself (Callback number c) = (refl, context_itself c)
