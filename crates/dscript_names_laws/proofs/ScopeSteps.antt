-- What a step of a walk resolves is there.
use Rattle.std.proofs.Common.{◌≡◌, ◌⊎◌, ℕ, ◌+◌, ◌-◌, ◌<◌, ◌≤◌, ◌==◌, Bool, true, false, not, cond, nat_lt, List, [], ◌∷◌, ◌++◌, filter, length, Option, Some, None}
use Rattle.std.proofs.Common.{Result, Ok, Err, refl, sym, ap, ◌∙◌, subst, inl, inr, arith}
use Rattle.std.specs.Prelude.{IsSomeAnd, slice_get, ⊤}
use Rattle.std.specs.List.{AllByRecursion}
use Rattle.std.proofs.lemmas.Bool.{cases_lt, ltb-true, true≢false}
use Rattle.std.proofs.lemmas.List.{length-append}
use Rattle.bx_tree.specs.Members.{Has}
use Rattle.bx_tree.proofs.Lists.{all_append, all_weaker}
use Rattle.bx_tree.proofs.Members.{all_has, has_all, has_back, has_front}
use Rattle.dscript_ast.specs.ExprTree.{ParamTree, PartTrees}
use Rattle.dscript_program.specs.BoundTree.{BodyData}
use Rattle.dscript_program.specs.ProgramData.{FunctionData}
use Rattle.dscript_program.specs.declared.spec_fault.SpecKind.{SpecKind}
use Rattle.dscript_program.specs.declared.target.Target.{Target}
use Rattle.dscript_program.specs.declared.target.Target.TheVariants as targets
use Rattle.dscript_names_scopes.specs.Blocks.{Block}
use Rattle.dscript_names_scopes.specs.Lookup.{Site, assigned, found_at}
use Rattle.dscript_names_scopes.specs.Names.{World}
use Rattle.dscript_names_scopes.specs.declared.found.Found.{Found}
use Rattle.dscript_names_scopes.specs.declared.local.Local.{Local}
use Rattle.dscript_names_binding.specs.Binding.{assigns, bind_name, local_named, names_target}
use Rattle.dscript_names_binding.specs.Walk.{Here, Bound, Binds, chained, closed, continued, declare, each_once, function_in, function_of, gives, leave, next_local, or_fault, params_from, within, ◌>>=◌}
use Rattle.dscript_names_laws.specs.Whole.{HasLocal, IsOwn, Makes, Names, Scope, Sets, Use, body_uses, scope_of}
use Rattle.dscript_names_laws.proofs.ScopeBlocks.{IfNumber, IsOwnFrom, assigned_own, blocks_weaker, declared_in, declared_own, has_captured, params_numbered}
use Rattle.dscript_names_laws.proofs.Tables.{At, at_split}
use Rattle.dscript_names_laws.proofs.Targets.{AllNumbers, IfOkFound, InBlocks, IsDeclaredValue, IsTarget, name_found}

-- ## Lists

filter_has : {X : Type 0} (p : X → Bool) (xs : List X) (x : X) → Has (filter p xs) x → Has xs x × (p x ≡ true)
filter_has p [] x h = absurd h
filter_has p (y ∷ ys) x h = by_first (p y) refl (filter_has p ys x) h
  where
    by_first
        : (b : Bool) → p y ≡ b → (Has (filter p ys) x → Has ys x × (p x ≡ true))
        → Has (cond b (y ∷ filter p ys) (filter p ys)) x → Has (y ∷ ys) x × (p x ≡ true)
    by_first true e rest k = elim k [
      | inl same ↦ (inl same, ap p (sym same) ∙ e)
      | inr more ↦ let found = rest more in (inr found.0, found.1)
    ]
    by_first false e rest k = let found = rest k in (inr found.0, found.1)

once_has : (ns : List ℕ) (n : ℕ) → Has (each_once ns) n → Has ns n
once_has [] n h = absurd h
once_has (m ∷ ms) n h = elim h [
  | inl same ↦ inl same
  | inr more ↦ inr (once_has ms n (filter_has (λ k. not (k == m)) (each_once ms) n more).0)
]

captured_has : (first : ℕ) (names : List ℕ) (n : ℕ) → Has (each_once (filter (λ m. nat_lt m first) names)) n → Has names n × (n < first)
captured_has first names n h =
    let found = filter_has (λ m. nat_lt m first) names n (once_has (filter (λ m. nat_lt m first) names) n h) in
    (found.0, ltb-true n first found.1)

-- ## Where a walk is

-- The locals that are known are of one kind, and have numbers below the next; those of the running function are
-- not below its first.
pub record IsGoodHere (W : ℕ → Type 0) (first : ℕ) (here : Here) : Type 0 where
  pub low : first ≤ here.locals
  pub seen : InBlocks (λ n. W n × (n < here.locals)) here.blocks
  pub own : IsOwnFrom first here.blocks

seen_later : (W : ℕ → Type 0) (m n : ℕ) (blocks : List Block) → m ≤ n → InBlocks (λ k. W k × (k < m)) blocks → InBlocks (λ k. W k × (k < n)) blocks
seen_later W m n blocks le h = blocks_weaker (λ k. W k × (k < m)) (λ k. W k × (k < n)) (λ k p. (p.0, omega (arith, p.1, le))) blocks h

module _ (world : World) (table : List FunctionData) where
  -- ## What is used

  -- a local that is used is named in the walk; a function that is made captures what is named
  abbrev pub IsFine : (ℕ → Type 0) → ℕ → List ℕ → ℕ → Use → Type 0
  IsFine W first names limit (Names (targets.Local n)) = Has names n × W n × (n < limit)
  IsFine W first names limit (Names (targets.Declared file decl)) = IsDeclaredValue world file decl
  IsFine W first names limit (Names (targets.Ambient call)) = Unit {0}
  IsFine W first names limit (Sets n) = W n × (first ≤ n) × (n < limit)
  IsFine W first names limit (Makes f) =
      IsSomeAnd (slice_get table f) (λ (g : FunctionData). AllByRecursion (λ m. Has names m × W m × (m < limit)) g.captured)

  made_wider : (P Q : ℕ → Type 0) → ((n : ℕ) → P n → Q n) → (o : Option FunctionData)
      → IsSomeAnd o (λ (g : FunctionData). AllByRecursion P g.captured) → IsSomeAnd o (λ (g : FunctionData). AllByRecursion Q g.captured)
  made_wider P Q f None h = absurd h
  made_wider P Q f (Some g) h = all_weaker P Q f g.captured h

  fine_wider : (W : ℕ → Type 0) (first : ℕ) (names more : List ℕ) (limit next : ℕ) → ((n : ℕ) → Has names n → Has more n) → limit ≤ next → (u : Use)
      → IsFine W first names limit u → IsFine W first more next u
  fine_wider W first names more limit next within le (Names (targets.Local n)) h = (within n h.0, h.1, omega (arith, h.2, le))
  fine_wider W first names more limit next within le (Names (targets.Declared file decl)) h = h
  fine_wider W first names more limit next within le (Names (targets.Ambient call)) h = tt
  fine_wider W first names more limit next within le (Sets n) h = (h.0, h.1, omega (arith, h.2, le))
  fine_wider W first names more limit next within le (Makes f) h =
      made_wider (λ m. Has names m × W m × (m < limit)) (λ m. Has more m × W m × (m < next)) (λ m p. (within m p.0, p.1, omega (arith, p.2, le))) (slice_get table f) h

  -- what is used is there, in terms of the declared names
  abbrev pub IsThereIn : Scope → Use → Type 0
  IsThereIn s (Names (targets.Local n)) = HasLocal s n
  IsThereIn s (Names (targets.Declared file decl)) = IsDeclaredValue world file decl
  IsThereIn s (Names (targets.Ambient call)) = Unit {0}
  IsThereIn s (Sets n) = IsOwn s n
  IsThereIn s (Makes f) = IsSomeAnd (slice_get table f) (λ (g : FunctionData). AllByRecursion (HasLocal s) g.captured)

  pub record IsFineFunction (g : FunctionData) : Type 0 where
    pub file : g.file < length world.files
    pub params : length g.params ≤ g.local_count
    pub captured : AllByRecursion (λ n. n < g.first_local) g.captured
    pub uses : AllByRecursion (IsThereIn (scope_of g)) (body_uses g.body)

  -- ## What a walk leaves

  pub record Scoped {A : Type 0} (W : ℕ → Type 0) (first : ℕ) (R : A → List Use → Type 0) (here : Here) (b : Bound A) : Type 0 where
    pub uses : List Use
    pub is : R b.value uses
    pub rises : here.locals ≤ b.after.locals
    pub seen : InBlocks (λ n. W n × (n < b.after.locals)) b.after.blocks
    pub own : IsOwnFrom first b.after.blocks
    pub names : AllByRecursion (λ n. W n ⊎ (here.locals ≤ n)) b.names
    pub fine : AllByRecursion (IsFine W first b.names b.after.locals) uses
    pub inner : AllByRecursion IsFineFunction b.functions
    pub count : b.after.functions ≡ here.functions + length b.functions

  -- a result is a fault, or is so in a table that has its functions at their numbers
  abbrev pub GoodAt : {A : Type 0} → (ℕ → Type 0) → ℕ → (A → List Use → Type 0) → Here → Result (Bound A) SpecKind → Type 0
  GoodAt W first R here (Ok b) = At table here.functions b.functions → Scoped W first R here b
  GoodAt W first R here (Err kind) = ⊤

  pub record Scopes {A : Type 0} (W : ℕ → Type 0) (first : ℕ) (R : A → List Use → Type 0) (m : Binds A) (here : Here) : Type 0 where
    pub good : IsGoodHere W first here → GoodAt W first R here (m here)

  after_is_good : {A : Type 0} (W : ℕ → Type 0) (first : ℕ) (R : A → List Use → Type 0) (here : Here) (b : Bound A) → IsGoodHere W first here → Scoped W first R here b
      → IsGoodHere W first b.after
  after_is_good W first R here b h n = record { low = omega (arith, h.low, n.rises); seen = n.seen; own = n.own }

  good_after
      : {A B : Type 0} (W : ℕ → Type 0) (first : ℕ) (RA : A → List Use → Type 0) (RB : B → List Use → Type 0) (here : Here) (a : Bound A) (r : Result (Bound B) SpecKind)
      → IsGoodHere W first here → GoodAt W first RA here (Ok a)
      → ((ts : List Use) → here.locals ≤ a.after.locals → RA a.value ts → IsGoodHere W first a.after → GoodAt W first (λ c us. RB c (ts ++ us)) a.after r)
      → GoodAt W first RB here (chained a r)
  good_after W first RA RB here a (Err kind) good begin rest = tt
  good_after W first RA RB here a (Ok c) good begin rest = λ at.
      let parts = at_split table here.functions a.functions c.functions at in
      let n = begin parts.0 in
      let k = rest n.uses n.rises n.is (after_is_good W first RA here a good n) (subst (λ f. At table f c.functions) (sym n.count) parts.1) in
      let up : here.locals ≤ a.after.locals = n.rises in
      let on : a.after.locals ≤ c.after.locals = k.rises in
      record {
        uses = n.uses ++ k.uses;
        is = k.is;
        rises = omega (arith, up, on);
        seen = k.seen;
        own = k.own;
        names = all_append (λ m. W m ⊎ (here.locals ≤ m)) a.names c.names n.names
            (all_weaker (λ m. W m ⊎ (a.after.locals ≤ m)) (λ m. W m ⊎ (here.locals ≤ m))
            (λ m p. elim p [ inl w ↦ inl w | inr l ↦ inr (omega (arith, l, up)) ]) c.names k.names);
        fine = all_append (IsFine W first (a.names ++ c.names) c.after.locals) n.uses k.uses
            (all_weaker (IsFine W first a.names a.after.locals) (IsFine W first (a.names ++ c.names) c.after.locals)
            (fine_wider W first a.names (a.names ++ c.names) a.after.locals c.after.locals (λ m p. has_front a.names c.names m p) on) n.uses n.fine)
            (all_weaker (IsFine W first c.names c.after.locals) (IsFine W first (a.names ++ c.names) c.after.locals)
            (fine_wider W first c.names (a.names ++ c.names) c.after.locals c.after.locals (λ m p. has_back a.names c.names m p) (omega arith)) k.uses k.fine);
        inner = all_append IsFineFunction a.functions c.functions n.inner k.inner;
        count = k.count ∙ ap (λ f. f + length c.functions) n.count ∙ omega (arith, length-append a.functions c.functions);
      }

  good_continued
      : {A B : Type 0} (W : ℕ → Type 0) (first : ℕ) (RA : A → List Use → Type 0) (RB : B → List Use → Type 0) (here : Here) (r : Result (Bound A) SpecKind) (next : A → Binds B)
      → IsGoodHere W first here → GoodAt W first RA here r
      → ((now : Here) (a : A) (ts : List Use) → here.locals ≤ now.locals → RA a ts → Scopes W first (λ c us. RB c (ts ++ us)) (next a) now)
      → GoodAt W first RB here (continued r next)
  good_continued W first RA RB here (Err kind) next good begin rest = tt
  good_continued W first RA RB here (Ok a) next good begin rest =
      good_after W first RA RB here a (next a.value a.after) good begin (λ ts up is on. (rest a.after a.value ts up is).good on)

  pub step
      : {A B : Type 0} {W : ℕ → Type 0} {first : ℕ} {RA : A → List Use → Type 0} {RB : B → List Use → Type 0} {m : Binds A} {next : A → Binds B} {here : Here}
      → Scopes W first RA m here
      → ((now : Here) (a : A) (ts : List Use) → here.locals ≤ now.locals → RA a ts → Scopes W first (λ c us. RB c (ts ++ us)) (next a) now)
      → Scopes W first RB (m >>= next) here
  step {W = W} {first = first} {RA = RA} {RB = RB} {m = m} {next = next} {here = here} begin rest = record {
    good = λ good. good_continued W first RA RB here (m here) next good (begin.good good) rest;
  }

  pub done : {A : Type 0} {W : ℕ → Type 0} {first : ℕ} {R : A → List Use → Type 0} {x : A} {here : Here} → R x [] → Scopes W first R (gives x) here
  done is = record {
    good = λ good at. record {
      uses = [];
      is = is;
      rises = omega arith;
      seen = good.seen;
      own = good.own;
      names = tt;
      fine = tt;
      inner = tt;
      count = omega arith;
    };
  }

  -- ## Names

  abbrev pub IsNamed : Found → List Use → Type 0
  IsNamed f ts = ts ≡ Names f.target ∷ []

  target_names : (W : ℕ → Type 0) (limit low : ℕ) (t : Target) → IsTarget world (λ n. W n × (n < limit)) t → AllByRecursion (λ n. W n ⊎ (low ≤ n)) (local_named t)
  target_names W limit low (targets.Local n) h = (inl h.0, tt)
  target_names W limit low (targets.Declared file decl) h = tt
  target_names W limit low (targets.Ambient call) h = tt

  target_fine : (W : ℕ → Type 0) (first limit : ℕ) (t : Target) → IsTarget world (λ n. W n × (n < limit)) t → IsFine W first (local_named t) limit (Names t)
  target_fine W first limit (targets.Local n) h = (inl refl, h.0, h.1)
  target_fine W first limit (targets.Declared file decl) h = h
  target_fine W first limit (targets.Ambient call) h = tt

  name_good : (W : ℕ → Type 0) (first : ℕ) (here : Here) (r : Result Found SpecKind) → IsGoodHere W first here → IfOkFound world (λ n. W n × (n < here.locals)) r
      → GoodAt W first IsNamed here (continued (or_fault r here) names_target)
  name_good W first here (Err kind) good h = tt
  name_good W first here (Ok f) good h = λ at. record {
    uses = Names f.target ∷ [];
    is = refl;
    rises = omega arith;
    seen = good.seen;
    own = good.own;
    names = target_names W here.locals here.locals f.target h;
    fine = (target_fine W first here.locals f.target h, tt);
    inner = tt;
    count = omega arith;
  }

  pub name_scopes : (W : ℕ → Type 0) (first : ℕ) (site : Site) → slice_get world.files site.number ≡ Some site.file → (x : List ℕ) (parts : PartTrees) (here : Here)
      → Scopes W first IsNamed (bind_name world site x parts) here
  name_scopes W first site is x parts here = record {
    good = λ good. name_good W first here (found_at world site here.blocks x parts) good
        (name_found world (λ n. W n × (n < here.locals)) site is here.blocks good.seen x parts);
  }

  abbrev pub IsSet : ℕ → List Use → Type 0
  IsSet n ts = ts ≡ Sets n ∷ []

  assigned_good : (W : ℕ → Type 0) (first : ℕ) (here : Here) (r : Result ℕ SpecKind) → IsGoodHere W first here
      → IfNumber (λ n. (first ≤ n) × (W n × (n < here.locals))) r → GoodAt W first IsSet here (or_fault r here)
  assigned_good W first here (Err kind) good h = tt
  assigned_good W first here (Ok n) good h = λ at. record {
    uses = Sets n ∷ [];
    is = refl;
    rises = omega arith;
    seen = good.seen;
    own = good.own;
    names = tt;
    fine = ((h.1.0, h.0, h.1.1), tt);
    inner = tt;
    count = omega arith;
  }

  pub assigns_scopes : (W : ℕ → Type 0) (first : ℕ) (x : List ℕ) (here : Here) → Scopes W first IsSet (assigns x) here
  assigns_scopes W first x here = record {
    good = λ good. assigned_good W first here (assigned here.blocks x) good (assigned_own (λ n. W n × (n < here.locals)) first here.blocks x good.seen good.own);
  }

  -- ## Locals

  new_good : (W : ℕ → Type 0) (first : ℕ) (here : Here) → W here.locals → IsGoodHere W first here
      → GoodAt W first IsSet here (Ok (record { value = here.locals; after = record here { locals = here.locals + 1 }; functions = []; names = [] }))
  new_good W first here kind good = λ at. record {
    uses = Sets here.locals ∷ [];
    is = refl;
    rises = omega arith;
    seen = seen_later W here.locals (here.locals + 1) here.blocks (omega arith) good.seen;
    own = good.own;
    names = tt;
    fine = ((kind, good.low, omega arith), tt);
    inner = tt;
    count = omega arith;
  }

  -- a new local, which is of the kind and not below the first, and then what follows on its number
  pub new_scopes
      : {B : Type 0} {R : B → List Use → Type 0} (next : ℕ → Binds B) (W : ℕ → Type 0) (first : ℕ) → ((n : ℕ) → first ≤ n → W n) → (here : Here)
      → ((now : Here) → now.locals ≡ here.locals + 1 → W here.locals → first ≤ here.locals → Scopes W first (λ c us. R c (Sets here.locals ∷ us)) (next here.locals) now)
      → Scopes W first R (next_local >>= next) here
  new_scopes {R = R} next W first new here h = record {
    good = λ good.
        let now : Here = record here { locals = here.locals + 1 } in
        good_after W first IsSet R here (record { value = here.locals; after = now; functions = []; names = [] }) (next here.locals now) good
        (new_good W first here (new here.locals good.low) good)
        (λ ts up is on. subst (λ vs. GoodAt W first (λ c us. R c (vs ++ us)) now (next here.locals now)) (sym is)
        ((h now refl (new here.locals good.low) good.low).good on));
  }

  abbrev pub NoUses : {A : Type 0} → A → List Use → Type 0
  NoUses x ts = ts ≡ []

  pub declare_scopes : (W : ℕ → Type 0) (first : ℕ) (x : List ℕ) (n : ℕ) (here : Here) → W n → first ≤ n → n < here.locals → Scopes W first NoUses (declare x n) here
  declare_scopes W first x n here kind low below = record {
    good = λ good at. record {
      uses = [];
      is = refl;
      rises = omega arith;
      seen = declared_in (λ m. W m × (m < here.locals)) x n (kind, below) here.blocks good.seen;
      own = declared_own first x n low here.blocks good.own;
      names = tt;
      fine = tt;
      inner = tt;
      count = omega arith;
    };
  }

  -- ## Blocks and functions

  good_leave
      : {A : Type 0} (W : ℕ → Type 0) (first : ℕ) (R : A → List Use → Type 0) (here inside : Here) (r : Result (Bound A) SpecKind)
      → inside.locals ≡ here.locals → inside.functions ≡ here.functions → IsGoodHere W first here
      → GoodAt W first R inside r → GoodAt W first R here (leave here r)
  good_leave W first R here inside (Err kind) locals functions good h = tt
  good_leave W first R here inside (Ok b) locals functions good h = λ at.
      let n = h (subst (λ f. At table f b.functions) (sym functions) at) in
      let up : here.locals ≤ b.after.locals = subst (λ l. l ≤ b.after.locals) locals n.rises in
      record {
        uses = n.uses;
        is = n.is;
        rises = up;
        seen = seen_later W here.locals b.after.locals here.blocks up good.seen;
        own = good.own;
        names = subst (λ l. AllByRecursion (λ m. W m ⊎ (l ≤ m)) b.names) locals n.names;
        fine = n.fine;
        inner = n.inner;
        count = n.count ∙ ap (λ f. f + length b.functions) functions;
      }

  pub within_scopes
      : {A : Type 0} {R : A → List Use → Type 0} {m : Binds A} (W : ℕ → Type 0) (first : ℕ) (locals : List Local) (here : Here)
      → AllNumbers (λ n. W n × (n < here.locals)) locals → AllNumbers (λ n. first ≤ n) locals
      → ((inside : Here) → inside.locals ≡ here.locals → Scopes W first R m inside) → Scopes W first R (within locals m) here
  within_scopes {R = R} {m = m} W first locals here kinds lows h = record {
    good = λ good.
        let inside = record here { blocks = record { locals = locals; is_body = false } ∷ here.blocks } in
        good_leave W first R here inside (m inside) refl refl good
        ((h inside refl).good (record { low = good.low; seen = (kinds, good.seen); own = (lows, λ e. good.own) }));
  }

  abbrev pub IsBody : BodyData → List Use → Type 0
  IsBody b ts = body_uses b ≡ ts

  abbrev pub IsMaking : ℕ → List Use → Type 0
  IsMaking n ts = ts ≡ Makes n ∷ []

  -- the locals that a function sees: those outside, and its own
  abbrev pub Within : (ℕ → Type 0) → ℕ → ℕ → Type 0
  Within W first n = W n ⊎ (first ≤ n)

  module _ (W : ℕ → Type 0) (file : ℕ) (params : List ParamTree) (from first : ℕ) (b : Bound BodyData) (start : from ≡ first + length params) (up : from ≤ b.after.locals)
      (names : AllByRecursion (λ n. Within W first n ⊎ (from ≤ n)) b.names) where
    abbrev g : FunctionData
    g = function_of file params first b

    local_of : (n : ℕ) → Has b.names n → n < b.after.locals → HasLocal (scope_of g) n
    local_of n has below = elim (cases_lt n first) [
      | inl low ↦ inl (has_captured first b.names n has low)
      | inr high ↦ inr (high, omega (arith, below, high, up, start))
    ]

    outer_kind : (n : ℕ) → n < first → Within W first n ⊎ (from ≤ n) → W n
    outer_kind n low h = elim h [
      | inl seen ↦ elim seen [ inl w ↦ w | inr high ↦ absurd (omega (arith, low, high)) ]
      | inr high ↦ absurd (omega (arith, low, high, start))
    ]

    captured_fine : AllByRecursion (λ m. Has b.names m × W m × (m < b.after.locals)) g.captured
    captured_fine =
        all_has (λ m. Has b.names m × W m × (m < b.after.locals)) g.captured
        (λ m h. let found = captured_has first b.names m h in
        (found.0, outer_kind m found.1 (has_all (λ n. Within W first n ⊎ (from ≤ n)) b.names m names found.0), omega (arith, found.1, up, start)))

    made_there : (o : Option FunctionData) → IsSomeAnd o (λ (f : FunctionData). AllByRecursion (λ m. Has b.names m × Within W first m × (m < b.after.locals)) f.captured)
        → IsSomeAnd o (λ (f : FunctionData). AllByRecursion (HasLocal (scope_of g)) f.captured)
    made_there None h = absurd h
    made_there (Some f) h =
        all_weaker (λ m. Has b.names m × Within W first m × (m < b.after.locals)) (HasLocal (scope_of g)) (λ m p. local_of m p.0 p.2) f.captured h

    fine_there : (u : Use) → IsFine (Within W first) first b.names b.after.locals u → IsThereIn (scope_of g) u
    fine_there (Names (targets.Local n)) h = local_of n h.0 h.2
    fine_there (Names (targets.Declared file' decl)) h = h
    fine_there (Names (targets.Ambient call)) h = tt
    fine_there (Sets n) h = (h.1, omega (arith, h.1, h.2, up, start))
    fine_there (Makes f) h = made_there (slice_get table f) h

    function_fine : file < length world.files → (ts : List Use) → body_uses b.value ≡ ts → AllByRecursion (IsFine (Within W first) first b.names b.after.locals) ts
        → IsFineFunction g
    function_fine among ts is fine = record {
      file = among;
      params = omega (arith, up, start);
      captured = all_has (λ m. m < first) g.captured (λ m h. (captured_has first b.names m h).1);
      uses = subst (λ us. AllByRecursion (IsThereIn (scope_of g)) us) (sym is)
          (all_weaker (IsFine (Within W first) first b.names b.after.locals) (IsThereIn (scope_of g)) fine_there ts fine);
    }

    outer_names : AllByRecursion (λ n. W n ⊎ (first ≤ n)) b.names
    outer_names =
        all_weaker (λ n. Within W first n ⊎ (from ≤ n)) (λ n. W n ⊎ (first ≤ n))
        (λ n h. elim h [ inl seen ↦ seen | inr high ↦ inr (omega (arith, high, start)) ]) b.names names

  some_there : (P : FunctionData → Type 0) (o : Option FunctionData) (f : FunctionData) → o ≡ Some f → P f → IsSomeAnd o P
  some_there P o f e h = subst (λ (q : Option FunctionData). IsSomeAnd q P) (sym e) h

  good_closed
      : (W : ℕ → Type 0) (first file : ℕ) (params : List ParamTree) (here inside : Here) (r : Result (Bound BodyData) SpecKind) → file < length world.files
      → inside.locals ≡ here.locals + length params → inside.functions ≡ here.functions + 1 → IsGoodHere W first here
      → GoodAt (Within W here.locals) here.locals IsBody inside r → GoodAt W first IsMaking here (closed file params here r)
  unfolding At
  good_closed W first file params here inside (Err kind) among locals functions good h = tt
  good_closed W first file params here inside (Ok b) among locals functions good h = λ at.
      let n = h (subst (λ f. At table f b.functions) (sym functions) at.1) in
      let up : inside.locals ≤ b.after.locals = n.rises in
      let rise : here.locals ≤ b.after.locals = omega (arith, up, locals) in
      record {
        uses = Makes here.functions ∷ [];
        is = refl;
        rises = rise;
        seen = seen_later W here.locals b.after.locals here.blocks rise good.seen;
        own = good.own;
        names = outer_names W file params inside.locals here.locals b locals up n.names;
        fine = (
          some_there (λ (f : FunctionData). AllByRecursion (λ m. Has b.names m × W m × (m < b.after.locals)) f.captured) (slice_get table here.functions)
              (function_of file params here.locals b) at.0 (captured_fine W file params inside.locals here.locals b locals up n.names),
          tt,
        );
        inner = (function_fine W file params inside.locals here.locals b locals up n.names among n.uses n.is n.fine, n.inner);
        count = n.count ∙ ap (λ f. f + length b.functions) functions ∙ omega arith;
      }

  pub function_scopes
      : (W : ℕ → Type 0) (first file : ℕ) (params : List ParamTree) (locals : List Local) (body : Binds BodyData) (here : Here) → file < length world.files
      → ((P : ℕ → Type 0) → AllNumbers P locals)
      → ((inside : Here) → Scopes (Within W here.locals) here.locals IsBody body inside) → Scopes W first IsMaking (function_in file params locals body) here
  function_scopes W first file params locals body here among undeclared h = record {
    good = λ good.
        let V : ℕ → Type 0 = Within W here.locals in
        let inside : Here = record {
          blocks = record { locals = params_from here.locals params ++ locals; is_body = true } ∷ here.blocks;
          locals = here.locals + length params;
          functions = here.functions + 1;
        } in
        good_closed W first file params here inside (body inside) among refl refl good
        ((h inside).good (record {
          low = omega arith;
          seen = (
            numbers_append (λ n. V n × (n < here.locals + length params)) (params_from here.locals params) locals
                (params_numbered (λ n. V n × (n < here.locals + length params)) here.locals params (λ m low high. (inr low, high)))
                (undeclared (λ n. V n × (n < here.locals + length params))),
            blocks_weaker (λ n. W n × (n < here.locals)) (λ n. V n × (n < here.locals + length params)) (λ n p. (inl p.0, omega (arith, p.1))) here.blocks good.seen,
          );
          own = (
            numbers_append (λ n. here.locals ≤ n) (params_from here.locals params) locals
                (params_numbered (λ n. here.locals ≤ n) here.locals params (λ m low high. low)) (undeclared (λ n. here.locals ≤ n)),
            λ e. absurd (true≢false e),
          );
        }));
  }
    where
      numbers_append : (P : ℕ → Type 0) (xs ys : List Local) → AllNumbers P xs → AllNumbers P ys → AllNumbers P (xs ++ ys)
      numbers_append P xs ys h k = all_append (λ (l : Local). (n : ℕ) → l.number ≡ Some n → P n) xs ys h k
