-- Items and arguments, one after another.
use Rattle.std.proofs.Common.{◌++◌, ◌+◌, ◌<◌, ◌∙◌, ◌∷◌, ◌≡◌, ◌≤◌, ℕ, Bool, List, None, Option, Some, [], ap, append_assoc, drop, false, get_or, length, map, refl, subst, sym, true}
use Rattle.std.specs.declared.alloc.Global.{Global}
use Rattle.std.specs.declared.vec.Vec.{Vec}
use Rattle.dscript_program.specs.BoundTree as tree
use Rattle.dscript_program.specs.BoundTree.{ElementRow, ExprData, to_elements, to_exprs}
use Rattle.dscript_program.specs.ProgramData.{ProgramData}
use Rattle.dscript_program.specs.Views.{element_data, expr_data}
use Rattle.dscript_program.specs.declared.bound.BoundElement.{BoundElement}
use Rattle.dscript_program.specs.declared.bound.BoundExpr.{BoundExpr}
use Rattle.dscript_types_known.specs.declared.finding.Pending.{Pending}
use Rattle.dscript_types_meaning.specs.Contexts.{◌>>=◌, ◌>>◌, Context, Known, Standing, Types, gives, needs, only, with_bodies}
use Rattle.dscript_types_meaning.specs.Expressions.{arguments, expr_type, items, subject}
use Rattle.dscript_types_meaning.specs.Expressions as rules
use Rattle.dscript_types_meaning.specs.Sizes.{within_limit}
use Rattle.dscript_types_meaning.specs.Typed.{known_within}
use Rattle.dscript_types_meaning.specs.Types.{TypeData, list_type}
use Rattle.dscript_types_meaning.specs.Unions.{is_list_type, items_of, join_all}
use Rattle.dscript_types_notes.proofs.Meant.{drop_all, drop_next}
use Rattle.dscript_types_notes.specs.Means.{program_of}
use Rattle.dscript_types_notes.specs.declared.world.World.{World}
use Rattle.dscript_types_scenes.proofs.Going.{Going, at_once, begins, both_seen, ends, ends_none, goes_on, nil_right, opens, part_by_part, starts, stops}
use Rattle.dscript_types_scenes.proofs.Values.{ends_is}
use Rattle.dscript_types_scenes.specs.Scenes.{Closed, Matches, TypesAs}
use Rattle.dscript_types_scenes.specs.Subjects.{is_whole, only_found}
use Rattle.dscript_types_scenes.specs.Typings.{TypesTo, subject_data}
use Rattle.dscript_types_scenes.specs.declared.found.Seen.{Seen}
use Rattle.dscript_types_scenes.specs.declared.found.Typing.{Typing}
use Rattle.dscript_types_scenes.specs.declared.found.Typing.TheVariants as typings
use Rattle.dscript_types_scenes.specs.declared.scene.Scene.{Scene}
use Rattle.dscript_types_exprs.specs.Parts.{item_type, items_now}

-- ## One part and then another

-- the same comes after each
pub and_same
    : {X Y : Type 0} (m : Types X) (f g : X → Types Y) → ((x : X) → f x ≡ g x) → (m >>= f) ≡ (m >>= g)
and_same None f g same = refl
and_same (Some r) f g same = ap (with_bodies r.1) (same r.0)

and_gives : {X : Type 0} (m : Types X) → m ≡ (m >>= λ x. gives x)
and_gives None = refl
and_gives {X} (Some r) = ap (λ (bs : List Standing). Some (r.0, bs)) (sym (nil_right r.1))

-- ## Lists

abbrev pub after_these : List TypeData → Types (List TypeData) → Types (List TypeData)
after_these types m = m >>= λ ts. gives (types ++ ts)

abbrev pub and_first : Types TypeData → Types (List TypeData) → Types (List TypeData)
and_first item rest = item >>= λ t. rest >>= λ ts. gives (t ∷ ts)

first_after
    : (types : List TypeData) (item : Types TypeData) (rest : Types (List TypeData))
    → after_these types (and_first item rest) ≡ (item >>= λ t. after_these (types ++ t ∷ []) rest)
first_after types item rest =
    part_by_part item (λ t. rest >>= λ ts. gives (t ∷ ts)) (λ ts. gives (types ++ ts))
    ∙ and_same item (λ t. (rest >>= λ ts. gives (t ∷ ts)) >>= λ ts. gives (types ++ ts)) (λ t. after_these (types ++ t ∷ []) rest)
    (λ t. part_by_part rest (λ ts. gives (t ∷ ts)) (λ ts. gives (types ++ ts))
    ∙ and_same rest (λ ts. gives (types ++ t ∷ ts)) (λ ts. gives ((types ++ t ∷ []) ++ ts))
    (λ ts. ap gives (sym (append_assoc types (t ∷ []) ts))))

module _ (p : ProgramData) (closed : Type 0) (n : ℕ) where
  pub list_begins
      : (m : Types (List TypeData)) (types : List TypeData) → types ≡ [] → Going p closed n at_once m (after_these types m)
  list_begins m types e =
      begins p closed n m (after_these types m) (and_gives m ∙ ap (λ (us : List TypeData). after_these us m) (sym e))

  module _ (s : Seen) (whole m rest : Types (List TypeData)) (types : List TypeData) (item : Types TypeData)
      (is : m ≡ and_first item rest) (goes : Going p closed n s whole (after_these types m)) where
    step_is : after_these types m ≡ (item >>= λ t. after_these (types ++ t ∷ []) rest)
    step_is = ap (after_these types) is ∙ first_after types item rest

    pub list_goes
        : (t : TypeData) (r : Seen) (new : List TypeData) → TypesTo (λ (u : TypeData). u) p closed n (typings.Found t r) item
        → new ≡ types ++ t ∷ [] → Going p closed n (both_seen s r) whole (after_these new rest)
    list_goes t r new found made =
        subst (λ (us : List TypeData). Going p closed n (both_seen s r) whole (after_these us rest)) (sym made)
        (goes_on p closed n (λ (u : TypeData). u) s whole (after_these types m) item (λ u. after_these (types ++ u ∷ []) rest) step_is
        goes t r found)

    pub list_stops
        : TypesTo (λ (u : TypeData). u) p closed n typings.Nothing item → TypesTo items_now p closed n typings.Nothing whole
    list_stops found =
        stops p closed n (λ (u : TypeData). u) s whole (after_these types m) item (λ u. after_these (types ++ u ∷ []) rest) step_is goes
        items_now found

    pub list_opens
        : (a : Pending) → TypesTo (λ (u : TypeData). u) p closed n (typings.Open a) item
        → TypesTo items_now p closed n (typings.Open a) whole
    list_opens a found =
        opens p closed n (λ (u : TypeData). u) s whole (after_these types m) item (λ u. after_these (types ++ u ∷ []) rest) step_is goes
        items_now a a found

  pub list_ends
      : (s : Seen) (whole m : Types (List TypeData)) (types : Vec TypeData Global) → m ≡ gives []
      → Going p closed n s whole (after_these types.items m) → TypesTo items_now p closed n (typings.Found types s) whole
  list_ends s whole m types e goes =
      ends p closed n items_now s whole (after_these types.items m) goes types
      (ap (after_these types.items) e ∙ ap gives (nil_right types.items))

-- ## Items of lists

need_then : (b : Bool) (t : TypeData) (k : TypeData → Types (List TypeData)) → (needs b >> k t) ≡ ((needs b >> gives t) >>= k)
need_then true t k = refl
need_then false t k = refl

pub item_first
    : (p : ProgramData) (known : Known) (c : Context) (spread : Bool) (e : ExprData) (more : ElementRow)
    → items p known c (tree.more_elements (tree.Element spread e) more)
    ≡ and_first (item_type p known c spread e) (items p known c more)
unfolding items
item_first p known c false e more = refl
item_first p known c true e more =
    let k : TypeData → Types (List TypeData) = λ t. items p known c more >>= λ ts. gives (t ∷ ts) in
    and_same (expr_type p known c e) (λ t. needs (is_list_type t) >> k (items_of t))
    (λ t. (needs (is_list_type t) >> gives (items_of t)) >>= k) (λ t. need_then (is_list_type t) (items_of t) k)
    ∙ sym (part_by_part (expr_type p known c e) (λ t. needs (is_list_type t) >> gives (items_of t)) k)

-- ## In each context of a scene

module _ (w : World) (scene : Scene) where
  -- the items of a list
  module _ (elements : List BoundElement) where
    abbrev items_in : ℕ → ProgramData → Known → Context → Types (List TypeData)
    items_in i p known c = items p known c (to_elements (map element_data (drop i elements)))

    abbrev pub all_items : ProgramData → Known → Context → Types (List TypeData)
    all_items p known c = items p known c (to_elements (map element_data elements))

    abbrev pub ItemsGo : ℕ → List TypeData → Seen → Type 0
    ItemsGo i types s =
        (n more : ℕ) (c : Context) → n ≤ more → n ≤ w.left → Matches (Closed w more) n scene c
        → Going (program_of w) (Closed w more) n s (all_items (program_of w) (known_within (program_of w) n) c)
        (after_these types (items_in i (program_of w) (known_within (program_of w) n) c))

    pub items_begin : (types : List TypeData) (s : Seen) → types ≡ [] → s ≡ at_once → ItemsGo 0 types s
    items_begin types s e is n more c below within m =
        let p = program_of w in let known = known_within p n in
        subst (λ (r : Seen). Going p (Closed w more) n r (all_items p known c) (after_these types (all_items p known c))) (sym is)
        (list_begins p (Closed w more) n (all_items p known c) types e)

    module _ (i : ℕ) (types : List TypeData) (s : Seen) (goes : ItemsGo i types s) (element : BoundElement) (l : i < length elements)
        (e : element ≡ get_or elements i element) (spread : Bool) (value : ExprData)
        (is : element_data element ≡ tree.Element spread value) where
      abbrev pub item_in : ProgramData → Known → Context → Types TypeData
      item_in p known c = item_type p known c spread value

      item_step : (p : ProgramData) (known : Known) (c : Context)
          → items_in i p known c ≡ and_first (item_in p known c) (items_in (i + 1) p known c)
      item_step p known c =
          ap (λ es. items p known c (to_elements (map element_data es))) (drop_next elements i element l e)
          ∙ ap (λ d. items p known c (tree.more_elements d (to_elements (map element_data (drop (i + 1) elements))))) is
          ∙ item_first p known c spread value (to_elements (map element_data (drop (i + 1) elements)))

      pub items_go
          : (t : TypeData) (r z : Seen) (new : List TypeData) → TypesAs (λ (u : TypeData). u) w scene (typings.Found t r) item_in
          → z ≡ both_seen s r → new ≡ types ++ t ∷ [] → ItemsGo (i + 1) new z
      items_go t r z new found seen made n more c below within m =
          let p = program_of w in let known = known_within p n in
          subst (λ (q : Seen). Going p (Closed w more) n q (all_items p known c) (after_these new (items_in (i + 1) p known c))) (sym seen)
          (list_goes p (Closed w more) n s (all_items p known c) (items_in i p known c) (items_in (i + 1) p known c) types
          (item_in p known c) (item_step p known c) (goes n more c below within m) t r new (found n more c below within m) made)

      pub items_stop
          : TypesAs (λ (u : TypeData). u) w scene typings.Nothing item_in → TypesAs items_now w scene typings.Nothing all_items
      items_stop found n more c below within m =
          let p = program_of w in let known = known_within p n in
          list_stops p (Closed w more) n s (all_items p known c) (items_in i p known c) (items_in (i + 1) p known c) types
          (item_in p known c) (item_step p known c) (goes n more c below within m) (found n more c below within m)

      pub items_open
          : (a : Pending) → TypesAs (λ (u : TypeData). u) w scene (typings.Open a) item_in
          → TypesAs items_now w scene (typings.Open a) all_items
      items_open a found n more c below within m =
          let p = program_of w in let known = known_within p n in
          list_opens p (Closed w more) n s (all_items p known c) (items_in i p known c) (items_in (i + 1) p known c) types
          (item_in p known c) (item_step p known c) (goes n more c below within m) a (found n more c below within m)

    pub items_end
        : (i : ℕ) (types : Vec TypeData Global) (s : Seen) → length elements ≤ i → ItemsGo i types.items s
        → TypesAs items_now w scene (typings.Found types s) all_items
    unfolding items
    items_end i types s l goes n more c below within m =
        let p = program_of w in let known = known_within p n in
        list_ends p (Closed w more) n s (all_items p known c) (items_in i p known c) types
        (ap (λ es. items p known c (to_elements (map element_data es))) (drop_all elements i l)) (goes n more c below within m)

  -- arguments
  module _ (exprs : List BoundExpr) where
    abbrev arguments_in : ℕ → ProgramData → Known → Context → Types (List TypeData)
    arguments_in i p known c = arguments p known c (to_exprs (map expr_data (drop i exprs)))

    abbrev pub all_arguments : ProgramData → Known → Context → Types (List TypeData)
    all_arguments p known c = arguments p known c (to_exprs (map expr_data exprs))

    abbrev pub ArgumentsGo : ℕ → List TypeData → Seen → Type 0
    ArgumentsGo i types s =
        (n more : ℕ) (c : Context) → n ≤ more → n ≤ w.left → Matches (Closed w more) n scene c
        → Going (program_of w) (Closed w more) n s (all_arguments (program_of w) (known_within (program_of w) n) c)
        (after_these types (arguments_in i (program_of w) (known_within (program_of w) n) c))

    pub arguments_begin : (types : List TypeData) (s : Seen) → types ≡ [] → s ≡ at_once → ArgumentsGo 0 types s
    arguments_begin types s e is n more c below within m =
        let p = program_of w in let known = known_within p n in
        subst (λ (r : Seen). Going p (Closed w more) n r (all_arguments p known c) (after_these types (all_arguments p known c))) (sym is)
        (list_begins p (Closed w more) n (all_arguments p known c) types e)

    module _ (i : ℕ) (types : List TypeData) (s : Seen) (goes : ArgumentsGo i types s) (expr : BoundExpr) (l : i < length exprs)
        (e : expr ≡ get_or exprs i expr) where
      abbrev pub argument_in : ProgramData → Known → Context → Types TypeData
      argument_in p known c = expr_type p known c (expr_data expr)

      argument_step : (p : ProgramData) (known : Known) (c : Context)
          → arguments_in i p known c ≡ and_first (argument_in p known c) (arguments_in (i + 1) p known c)
      unfolding arguments
      argument_step p known c =
          ap (λ es. arguments p known c (to_exprs (map expr_data es))) (drop_next exprs i expr l e)

      pub arguments_go
          : (t : TypeData) (r z : Seen) (new : List TypeData) → TypesAs (λ (u : TypeData). u) w scene (typings.Found t r) argument_in
          → z ≡ both_seen s r → new ≡ types ++ t ∷ [] → ArgumentsGo (i + 1) new z
      arguments_go t r z new found seen made n more c below within m =
          let p = program_of w in let known = known_within p n in
          subst (λ (q : Seen). Going p (Closed w more) n q (all_arguments p known c) (after_these new (arguments_in (i + 1) p known c)))
          (sym seen)
          (list_goes p (Closed w more) n s (all_arguments p known c) (arguments_in i p known c) (arguments_in (i + 1) p known c) types
          (argument_in p known c) (argument_step p known c) (goes n more c below within m) t r new (found n more c below within m) made)

      pub arguments_stop
          : TypesAs (λ (u : TypeData). u) w scene typings.Nothing argument_in → TypesAs items_now w scene typings.Nothing all_arguments
      arguments_stop found n more c below within m =
          let p = program_of w in let known = known_within p n in
          list_stops p (Closed w more) n s (all_arguments p known c) (arguments_in i p known c) (arguments_in (i + 1) p known c) types
          (argument_in p known c) (argument_step p known c) (goes n more c below within m) (found n more c below within m)

      pub arguments_open
          : (a : Pending) → TypesAs (λ (u : TypeData). u) w scene (typings.Open a) argument_in
          → TypesAs items_now w scene (typings.Open a) all_arguments
      arguments_open a found n more c below within m =
          let p = program_of w in let known = known_within p n in
          list_opens p (Closed w more) n s (all_arguments p known c) (arguments_in i p known c) (arguments_in (i + 1) p known c) types
          (argument_in p known c) (argument_step p known c) (goes n more c below within m) a (found n more c below within m)

    pub arguments_end
        : (i : ℕ) (types : Vec TypeData Global) (s : Seen) → length exprs ≤ i → ArgumentsGo i types.items s
        → TypesAs items_now w scene (typings.Found types s) all_arguments
    unfolding arguments
    arguments_end i types s l goes n more c below within m =
        let p = program_of w in let known = known_within p n in
        list_ends p (Closed w more) n s (all_arguments p known c) (arguments_in i p known c) types
        (ap (λ es. arguments p known c (to_exprs (map expr_data es))) (drop_all exprs i l)) (goes n more c below within m)

-- ## Lists as values

module _ (w : World) (scene : Scene) (es : ElementRow) where
  abbrev pub items_of_row : ProgramData → Known → Context → Types (List TypeData)
  items_of_row p known c = items p known c es

  abbrev list_of : ProgramData → Known → Context → Types rules.Subject
  list_of p known c = subject p known c (tree.Elements es)

  abbrev listed : List TypeData → Types rules.Subject
  listed ts = rules.within (list_type (join_all ts))

  pub list_found
      : (types : Vec TypeData Global) (s : Seen) (item t : TypeData) (o : Option TypeData)
      → TypesAs items_now w scene (typings.Found types s) items_of_row → item ≡ join_all types.items → t ≡ list_type item
      → o ≡ within_limit t → TypesAs subject_data w scene (is_whole (only_found o s)) list_of
  unfolding subject
  list_found types s item t o found joins lists limits n more c below within m =
      let p = program_of w in let known = known_within p n in
      ends_is p (Closed w more) n s (list_of p known c) (listed types.items) o
      (starts p (Closed w more) n items_now types s (items_of_row p known c) listed (found n more c below within m))
      (ap (λ k. only k >>= rules.is) (sym (limits ∙ ap within_limit (lists ∙ ap list_type joins))))

  pub list_nothing : TypesAs items_now w scene typings.Nothing items_of_row → TypesAs subject_data w scene typings.Nothing list_of
  unfolding subject
  list_nothing found n more c below within m = ap (λ o. o >>= listed) (found n more c below within m)

  pub list_open
      : (a : Pending) → TypesAs items_now w scene (typings.Open a) items_of_row → TypesAs subject_data w scene (typings.Open a) list_of
  unfolding subject
  list_open a found n more c below within m = λ closed. ap (λ o. o >>= listed) (found n more c below within m closed)

-- ## An item

module _ (w : World) (scene : Scene) (spread : Bool) (value : ExprData) where
  abbrev pub item_of : ProgramData → Known → Context → Types TypeData
  item_of p known c = item_type p known c spread value

  abbrev pub item_value : ProgramData → Known → Context → Types TypeData
  item_value p known c = expr_type p known c value

  by_spread : (b : Bool) → spread ≡ b → (p : ProgramData) (known : Known) (c : Context) → item_of p known c ≡ item_type p known c b value
  by_spread b e p known c = ap (λ q. item_type p known c q value) e

  abbrev spreads : TypeData → Types TypeData
  spreads t = needs (is_list_type t) >> gives (items_of t)

  pub item_plain
      : (found : Typing TypeData) → spread ≡ false → TypesAs (λ (u : TypeData). u) w scene found item_value
      → TypesAs (λ (u : TypeData). u) w scene found item_of
  item_plain found e says n more c below within m =
      let p = program_of w in let known = known_within p n in
      subst (λ (o : Types TypeData). TypesTo (λ (u : TypeData). u) p (Closed w more) n found o) (sym (by_spread false e p known c))
      (says n more c below within m)

  nothing_spread : (b : Bool) (p : ProgramData) (known : Known) (c : Context) → item_value p known c ≡ None → item_type p known c b value ≡ None
  nothing_spread true p known c e = ap (λ o. o >>= spreads) e
  nothing_spread false p known c e = e

  pub item_nothing
      : TypesAs (λ (u : TypeData). u) w scene typings.Nothing item_value → TypesAs (λ (u : TypeData). u) w scene typings.Nothing item_of
  item_nothing found n more c below within m =
      nothing_spread spread (program_of w) (known_within (program_of w) n) c (found n more c below within m)

  pub item_open
      : (a : Pending) → TypesAs (λ (u : TypeData). u) w scene (typings.Open a) item_value
      → TypesAs (λ (u : TypeData). u) w scene (typings.Open a) item_of
  item_open a found n more c below within m = λ closed.
      nothing_spread spread (program_of w) (known_within (program_of w) n) c (found n more c below within m closed)

  module _ (passed : spread ≡ true) (t : TypeData) (s : Seen) (found : TypesAs (λ (u : TypeData). u) w scene (typings.Found t s) item_value) where
    at_item
        : (n more : ℕ) (c : Context) → n ≤ more → n ≤ w.left → Matches (Closed w more) n scene c
        → Going (program_of w) (Closed w more) n s (item_of (program_of w) (known_within (program_of w) n) c) (spreads t)
    at_item n more c below within m =
        let p = program_of w in let known = known_within p n in
        subst (λ (o : Types TypeData). Going p (Closed w more) n s o (spreads t)) (sym (by_spread true passed p known c))
        (starts p (Closed w more) n (λ (u : TypeData). u) t s (item_value p known c) spreads (found n more c below within m))

    pub item_no_list : is_list_type t ≡ false → TypesAs (λ (u : TypeData). u) w scene typings.Nothing item_of
    item_no_list e n more c below within m =
        let p = program_of w in let known = known_within p n in
        ends_none p (Closed w more) n (λ (u : TypeData). u) s (item_of p known c) (spreads t) (at_item n more c below within m)
        (ap (λ b. needs b >> gives (items_of t)) e)

    pub item_spread
        : (u : TypeData) → is_list_type t ≡ true → u ≡ items_of t → TypesAs (λ (v : TypeData). v) w scene (typings.Found u s) item_of
    item_spread u e is n more c below within m =
        let p = program_of w in let known = known_within p n in
        ends p (Closed w more) n (λ (v : TypeData). v) s (item_of p known c) (spreads t) (at_item n more c below within m) u
        (ap (λ b. needs b >> gives (items_of t)) e ∙ ap gives (sym is))
