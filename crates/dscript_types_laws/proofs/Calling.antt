-- Calls come to what their types say.
use Rattle.std.proofs.Common.{◌≡◌, ℕ, ◌+◌, Bool, true, false, cond, List, [], ◌∷◌, Option, Some, None, Result, Ok, Err, refl, sym, ap, ◌∙◌, subst}
use Rattle.std.specs.List.{AllByRecursion, AllZip}
use Rattle.std.specs.Prelude.{nat_lt}
use Rattle.dscript_value.specs.Depths.{greatest_depth}
use Rattle.dscript_value.specs.declared.makers.TheConstants.{MAX_DEPTH}
use Rattle.dscript_value.specs.declared.parts.Callee.TheVariants as callees
use Rattle.dscript_value.specs.Plain as plain
use Rattle.dscript_value.specs.Plain.{Plain, Items, item_list, to_items}
use Rattle.dscript_sdk_values.specs.declared.fault.SdkFault.{SdkFault}
use Rattle.dscript_sdk_values.specs.declared.fault.SdkFault.TheVariants.{Range}
use Rattle.dscript_sdk_values.specs.Answers.{function_answer}
use Rattle.dscript_sdk_values.specs.Outcomes.{unless_none}
use Rattle.dscript_sdk_members.specs.ListMembers.{is_callback}
use Rattle.dscript_sdk_members.specs.Names.{member_named}
use Rattle.dscript_sdk_members.specs.declared.member.Member.{Member}
use Rattle.dscript_sdk_pips.specs.States.{State as Calls}
use Rattle.dscript_sdk.specs.Calls.{call_of}
use Rattle.dscript_sdk.specs.Members as sdk
use Rattle.dscript_sdk.specs.Members.{is_callback_found, is_callback_named, is_callback_of, is_function_found, is_function_named, is_function_of}
use Rattle.dscript_sdk.specs.Members.{member_answer, member_of}
use Rattle.dscript_program.specs.BoundTree.{ExprRow}
use Rattle.dscript_program.specs.ProgramData.{ProgramData}
use Rattle.dscript_program.specs.declared.ambient.Ambient.{Ambient as AmbientCall}
use Rattle.dscript_eval_meaning.specs.Acts.{Acts}
use Rattle.dscript_eval_meaning.specs.Callbacks.{callbacks}
use Rattle.dscript_eval_meaning.specs.Calls as applied
use Rattle.dscript_eval_meaning.specs.Calls.{Subject as Applied, ambient, held_method, method, plain_method, with_calls}
use Rattle.dscript_eval_meaning.specs.Evaluating.{Gives, step, ◌>>=◌, ◌>>◌}
use Rattle.dscript_eval_meaning.specs.Lookups.{path_at}
use Rattle.dscript_eval_meaning.specs.States.{State}
use Rattle.dscript_types_meaning.specs.Types.{TypeData, never}
use Rattle.dscript_types_meaning.specs.Unions.{is_list_type, is_never, items_of}
use Rattle.dscript_types_meaning.specs.Access.{method_type}
use Rattle.dscript_types_meaning.specs.Ambients.{ambient_type}
use Rattle.dscript_types_meaning.specs.Contexts.{Context, Known, Local, Standing, needs, only}
use Rattle.dscript_types_meaning.specs.Expressions as typing
use Rattle.dscript_types_meaning.specs.Expressions.{Subject, Whole, Named, Function, Ambient, if_callback}
use Rattle.dscript_types_meaning.specs.Functions.{by_answer, callback_answer, callback_type, function_type, given_to}
use Rattle.dscript_types_meaning.specs.Values.{HasType}
use Rattle.dscript_types_values.proofs.Joining.{list_has}
use Rattle.dscript_types_laws.specs.Invariants.{ComesTo, HasMember, HoldsConstants, IsSound, IsSoundAt}
use Rattle.dscript_types_laws.specs.Invariants.{MayStand, OpensSoundly, Stands}
use Rattle.dscript_types_laws.proofs.Ambients.{ChangesTo, ambient_has, method_changes}
use Rattle.dscript_types_laws.proofs.Callbacks.{IsCalledBack, callbacks_sound}
use Rattle.dscript_types_laws.proofs.ListMethods.{callback_function, callback_stands, functions_there, is_function_there, method_has, method_stands}
use Rattle.dscript_types_laws.proofs.Operating.{AnswersOf}
use Rattle.dscript_types_laws.proofs.Sound.{answer, both, bound, spent}
use Rattle.dscript_types_laws.proofs.Typing.{AreChecked, checked_first, checked_more, in_turn, needs_is, only_is}

-- ## Members that are called

function_case
    : (y x : Plain) (name : List ℕ) (b : Bool)
    → unless_none Range (cond b (Some (plain.Function (callees.Member name) (greatest_depth (y ∷ []) + 1) (to_items (y ∷ [])))) None) ≡ Ok x
    → (depth : ℕ) × (x ≡ plain.Function (callees.Member name) depth (to_items (y ∷ [])))
function_case y x name true e =
    let same : plain.Function (callees.Member name) (greatest_depth (y ∷ []) + 1) (to_items (y ∷ [])) ≡ x = cc in
    (greatest_depth (y ∷ []) + 1, sym same)
function_case y x name false e = absurd cc

answer_case
    : (calls : Calls) (y x : Plain) (m : Member) (name : List ℕ) (b : Bool) → is_function_of calls m y ≡ b → b ≡ true
    → cond b (function_answer (callees.Member name) (y ∷ [])) (sdk.property_or_missing (sdk.property_at m y)) ≡ Ok x
    → (depth : ℕ) × (x ≡ plain.Function (callees.Member name) depth (to_items (y ∷ [])))
answer_case calls y x m name true is e at = function_case y x name (nat_lt (greatest_depth (y ∷ [])) MAX_DEPTH) at
answer_case calls y x m name false is e at = absurd cc

member_case
    : (calls : Calls) (y x : Plain) (m : Member) (name : List ℕ) → is_function_of calls m y ≡ true
    → member_answer calls name y (Some m) ≡ Ok x
    → (depth : ℕ) × (x ≡ plain.Function (callees.Member name) depth (to_items (y ∷ [])))
member_case calls y x m name e at = answer_case calls y x m name (is_function_of calls m y) refl e at

own_case
    : (calls : Calls) (y x : Plain) (m : Member) (name : List ℕ) → is_function_of calls m y ≡ true
    → sdk.or_else (sdk.own_member y name) (member_answer calls name y (Some m)) ≡ Ok x
    → (depth : ℕ) × (x ≡ plain.Function (callees.Member name) depth (to_items (y ∷ [])))
own_case calls plain.Undefined x m name e at = absurd cc
own_case calls (plain.Flag flag) x m name e at = absurd cc
own_case calls (plain.Number number) x m name e at = absurd cc
own_case calls (plain.Text text) x m name e at = member_case calls (plain.Text text) x m name e at
own_case calls (plain.Path path) x m name e at = member_case calls (plain.Path path) x m name e at
own_case calls (plain.File file) x m name e at = member_case calls (plain.File file) x m name e at
own_case calls (plain.Directory path) x m name e at = member_case calls (plain.Directory path) x m name e at
own_case calls (plain.Relative atoms) x m name e at = absurd cc
own_case calls (plain.Atom text) x m name e at = absurd cc
own_case calls (plain.Listed depth items) x m name e at = member_case calls (plain.Listed depth items) x m name e at
own_case calls (plain.Object depth fields) x m name e at = absurd cc
own_case calls (plain.Function callee depth held) x m name e at = absurd cc
own_case calls (plain.Static dir) x m name e at = member_case calls (plain.Static dir) x m name e at
own_case calls (plain.Process pip) x m name e at = member_case calls (plain.Process pip) x m name e at
own_case calls (plain.Artifact artifact) x m name e at = absurd cc
own_case calls (plain.Argument argument) x m name e at = absurd cc

found_case
    : (calls : Calls) (y x : Plain) (name : List ℕ) (o : Option Member) → is_function_found calls y o ≡ true
    → sdk.or_else (sdk.own_member y name) (member_answer calls name y o) ≡ Ok x
    → (depth : ℕ) × (x ≡ plain.Function (callees.Member name) depth (to_items (y ∷ [])))
found_case calls y x name None e at = absurd cc
found_case calls y x name (Some m) e at = own_case calls y x m name e at

-- a member that is a function is a function that holds the value
member_function
    : (calls : Calls) (y x : Plain) (name : List ℕ) → is_function_named calls y name ≡ true → member_of calls y name ≡ Ok x
    → (depth : ℕ) × (x ≡ plain.Function (callees.Member name) depth (to_items (y ∷ [])))
unfolding is_function_named member_of
member_function calls y x name e at = found_case calls y x name (member_named name) e at

callback_of_case : (m : Member) (x : Plain) → is_callback m ≡ false → is_callback_of m x ≡ false
callback_of_case m (plain.Listed depth items) e = e
callback_of_case m x e = refl

callback_case : (m : Member) (b : Bool) → is_callback m ≡ b → cond b (Some m) None ≡ None → is_callback m ≡ false
callback_case m true is e = absurd (let no : Some m ≡ None = e in cc)
callback_case m false is e = is

found_no_callback : (x : Plain) (o : Option Member) → if_callback o ≡ None → is_callback_found x o ≡ false
found_no_callback x None e = refl
found_no_callback x (Some m) e = callback_of_case m x (callback_case m (is_callback m) refl e)

no_callback : (x : Plain) (name : List ℕ) → if_callback (member_named name) ≡ None → is_callback_named name x ≡ false
unfolding is_callback_named
no_callback x name e = found_no_callback x (member_named name) e

if_callback_is : (o : Option Member) (m : Member) → if_callback o ≡ Some m → (o ≡ Some m) × (is_callback m ≡ true)
if_callback_is None m e = absurd cc
if_callback_is (Some k) m e = by_kind (is_callback k) refl e
  where
    by_kind : (b : Bool) → is_callback k ≡ b → cond b (Some k) None ≡ Some m → (Some k ≡ Some m) × (is_callback m ≡ true)
    by_kind true is at = let same : k ≡ m = cc in (at, ap is_callback (sym same) ∙ is)
    by_kind false is at = absurd cc

found_callback
    : (depth : ℕ) (xs : Items) (o : Option Member) (m : Member) → o ≡ Some m → is_callback m ≡ true
    → is_callback_found (plain.Listed depth xs) o ≡ true
found_callback depth xs o m e is = ap (is_callback_found (plain.Listed depth xs)) e ∙ is

named_callback
    : (depth : ℕ) (xs : Items) (name : List ℕ) (m : Member) → member_named name ≡ Some m → is_callback m ≡ true
    → is_callback_named name (plain.Listed depth xs) ≡ true
unfolding is_callback_named
named_callback depth xs name m e is = found_callback depth xs (member_named name) m e is

-- what a call of a member comes to, where it answers a value of a type
method_changes_there
    : (t : TypeData) (x : Plain) (name : List ℕ) (args : List Plain) (calls : Calls) → AnswersOf t (sdk.method_answer calls x name args)
    → ChangesTo t (sdk.method_of calls x name args)
unfolding sdk.method_of
method_changes_there t x name args calls h =
    method_changes t (sdk.function_ask_named calls x (member_named name)) (sdk.method_answer calls x name args) calls h

module _ (p : ProgramData) (known : Known) (act : Acts) where
  from_none : (locals : List Local) (A : Type 0) (Is : A → Type 0) (m : Gives A) → IsSound A known [] Is m → IsSound A known locals Is m
  from_none locals A Is m sound s holds constants = sound s tt constants

  -- ## Members that call no functions

  changed_sound
      : (t : TypeData) (s : State) (o : Result (Plain × Calls) SdkFault) → ChangesTo t o → HoldsConstants known s
      → ComesTo Plain known (λ x. HasType x t) s.frame (with_calls s o)
  changed_sound t s (Ok r) h constants = record { is = h; frame = refl; constants = constants }
  changed_sound t s (Err fault) h constants = answer known [] Plain (λ x. HasType x t) (Err fault) h s tt constants

  plain_sound
      : (locals : List Local) (t r : TypeData) (name : List ℕ) (given : List TypeData) (x : Plain) (args : List Plain)
      → if_callback (member_named name) ≡ None → method_type t name given ≡ Some r → HasType x t → AllZip HasType args given
      → IsSoundAt known locals r (method act x name args)
  unfolding method
  plain_sound locals t r name given x args none e h zip =
      subst (λ b. IsSoundAt known locals r (cond b (callbacks act (member_named name) (applied.items_of x) args) (plain_method x name args)))
      (sym (no_callback x name none))
      (λ s holds constants. changed_sound r s (sdk.method_of s.calls x name args)
      (method_changes_there r x name args s.calls (method_has t r name given args x s.calls e h zip)) constants)

  -- ## Members that call functions

  listed_sound
      : (locals : List Local) (t r a : TypeData) (name : List ℕ) (m : Member) (further given : List TypeData) (depth : ℕ)
      (xs : Items) (f : Plain) (args : List Plain) → member_named name ≡ Some m → is_callback m ≡ true → is_list_type t ≡ true
      → given_to m (items_of t) further ≡ Some given
      → cond (is_never t) (Some never) (by_answer m (items_of t) further r) ≡ Some a → HasType (plain.Listed depth xs) t
      → AllByRecursion (λ y. HasType y (items_of t)) (item_list xs) → IsCalledBack known act given r f → AllZip HasType args further
      → IsSoundAt known locals a (method act (plain.Listed depth xs) name (f ∷ args))
  unfolding method
  listed_sound locals t r a name m further given depth xs f args e is lists to by h all back zip =
      subst (λ b. IsSoundAt known locals a (cond b (callbacks act (member_named name) (item_list xs) (f ∷ args))
      (plain_method (plain.Listed depth xs) name (f ∷ args)))) (sym (named_callback depth xs name m e is))
      (subst (λ o. IsSoundAt known locals a (callbacks act o (item_list xs) (f ∷ args))) (sym e)
      (from_none locals Plain (λ y. HasType y a) _
      (callbacks_sound known act m t r a further given f depth xs args lists to by h all back zip)))

  calling_sound
      : (locals : List Local) (t r a : TypeData) (name : List ℕ) (m : Member) (further given : List TypeData) (x f : Plain)
      (args : List Plain) → member_named name ≡ Some m → is_callback m ≡ true → is_list_type t ≡ true
      → given_to m (items_of t) further ≡ Some given
      → cond (is_never t) (Some never) (by_answer m (items_of t) further r) ≡ Some a → HasType x t
      → IsCalledBack known act given r f → AllZip HasType args further
      → IsSoundAt known locals a (method act x name (f ∷ args))
  calling_sound locals t r a name m further given x f args e is lists to by h back zip =
      let l = list_has x t lists h in
      subst (λ y. IsSoundAt known locals a (method act y name (f ∷ args))) (sym l.2)
      (listed_sound locals t r a name m further given l.0 l.1 f args e is lists to by (subst (λ y. HasType y t) l.2 h) l.3 back zip)

  -- ## Members, called

  -- what is said of arguments, and of a member that is called with them
  module _ (locals : List Local) (t r : TypeData) (name : List ℕ) (Good : List Plain → Type 0) (args : Gives (List Plain))
      (given : IsSound (List Plain) known locals Good args)
      (function : (calls : Calls) (y : Plain) → HasType y t → is_function_named calls y name ≡ true)
      (comes : (y : Plain) (xs : List Plain) → HasType y t → Good xs → IsSoundAt known locals r (method act y name xs)) where
    called_at_once : (x : Plain) → HasType x t → IsSoundAt known locals r (applied.subject_call p act args (applied.Named x name))
    unfolding applied.subject_call
    called_at_once x h s holds constants =
        subst (λ b. ComesTo Plain known (λ y. HasType y r) s.frame
        ((cond b (step >> args >>= λ xs. method act x name xs)
        (applied.member x name >>= λ f. step >> args >>= λ xs. applied.applied p act f xs)) s))
        (sym (function s.calls x h))
        (both known locals _ Plain _ _ step _ (spent known locals 1)
        (bound known locals (List Plain) Plain Good (λ y. HasType y r) args (λ xs. method act x name xs) given
        (λ xs good. comes x xs h good)) s holds constants)

    called_as_value
        : (x y : Plain) (calls : Calls) → HasType y t → member_of calls y name ≡ Ok x
        → IsSoundAt known locals r (applied.subject_call p act args (applied.Whole x))
    unfolding applied.applied applied.subject_call
    called_as_value x y calls h at =
        let f = member_function calls y x name (function calls y h) at in
        subst (λ z. IsSoundAt known locals r (applied.subject_call p act args (applied.Whole z))) (sym f.1)
        (both known locals _ Plain _ _ step _ (spent known locals 1)
        (bound known locals (List Plain) Plain Good (λ z. HasType z r) args _ given (λ xs good. comes y xs h good)))

    member_called : (a : Applied) → Stands p (Named t name) a → IsSoundAt known locals r (applied.subject_call p act args a)
    member_called (applied.Whole x) h = called_as_value x h.0 h.1 h.2 h.3
    member_called (applied.Named x member) h =
        subst (λ n. IsSoundAt known locals r (applied.subject_call p act args (applied.Named x n))) (sym h.0) (called_at_once x h.1)

  -- ## Ambient calls

  ambient_sound
      : (locals : List Local) (t : TypeData) (call : AmbientCall) (given : List TypeData) (args : List Plain)
      → ambient_type call given ≡ Some t → AllZip HasType args given → IsSoundAt known locals t (ambient p call args)
  unfolding ambient
  ambient_sound locals t call given args e zip s holds constants =
      changed_sound t s (call_of call (path_at p s.frame.file) args s.calls)
      (ambient_has call given t (path_at p s.frame.file) args s.calls e zip) constants

  module _ (opens : OpensSoundly p known act) (c : Context) (es : ExprRow) (args : Gives (List Plain)) where
    -- what is said of the arguments of a call: of all, and of a callback and the further ones
    abbrev pub AllSound : Type 0
    AllSound =
        (given : List TypeData) (bodies : List Standing) → typing.arguments p known c es ≡ Some (given, bodies)
        → AreChecked p known bodies → IsSound (List Plain) known c.locals (λ xs. AllZip HasType xs given) args

    abbrev pub IsCalling : List TypeData → TypeData → List TypeData → List Plain → Type 0
    IsCalling given r further xs =
        (f : Plain) × (ys : List Plain) × (xs ≡ f ∷ ys) × IsCalledBack known act given r f × AllZip HasType ys further

    abbrev pub BackSound : Type 0
    BackSound =
        (given further : List TypeData) (r : TypeData) (first more : List Standing)
        → typing.further_arguments p known c es ≡ Some (further, first)
        → callback_answer p known c (typing.first_of es) given ≡ Some (r, more) → AreChecked p known first
        → AreChecked p known more → IsSound (List Plain) known c.locals (IsCalling given r further) args

    function_called
        : (file decl : ℕ) (given : List TypeData) (t : TypeData) (bodies : List Standing) (a : Applied)
        → typing.arguments p known c es ≡ Some (given, bodies) → AreChecked p known bodies
        → function_type p known file decl given ≡ Some t → AllSound → Stands p (Function file decl) a
        → IsSoundAt known c.locals t (applied.subject_call p act args a)
    unfolding applied.applied applied.subject_call
    function_called file decl given t bodies (applied.Whole x) typed checked is all h =
        subst (λ z. IsSoundAt known c.locals t (applied.subject_call p act args (applied.Whole z))) (sym h.7)
        (both known c.locals _ Plain _ _ step _ (spent known c.locals 1)
        (bound known c.locals (List Plain) Plain (λ xs. AllZip HasType xs given) (λ z. HasType z t) args _ (all given bodies typed checked)
        (λ xs zip. from_none c.locals Plain (λ z. HasType z t) _
        (opens.function file decl h.0 h.1 h.2 h.3 given xs t h.5 h.6 is zip))))
    function_called file decl given t bodies (applied.Named x name) typed checked is all h = absurd h

    ambient_called
        : (call : AmbientCall) (given : List TypeData) (t : TypeData) (bodies : List Standing) (a : Applied)
        → typing.arguments p known c es ≡ Some (given, bodies) → AreChecked p known bodies → ambient_type call given ≡ Some t
        → AllSound → Stands p (Ambient call) a → IsSoundAt known c.locals t (applied.subject_call p act args a)
    unfolding applied.applied applied.subject_call
    ambient_called call given t bodies (applied.Whole x) typed checked is all h =
        subst (λ z. IsSoundAt known c.locals t (applied.subject_call p act args (applied.Whole z))) (sym h.1)
        (both known c.locals _ Plain _ _ step _ (spent known c.locals 1)
        (bound known c.locals (List Plain) Plain (λ xs. AllZip HasType xs given) (λ z. HasType z t) args _ (all given bodies typed checked)
        (λ xs zip. ambient_sound c.locals t call given xs is zip)))
    ambient_called call given t bodies (applied.Named x name) typed checked is all h = absurd h

    named_called
        : (t : TypeData) (name : List ℕ) (o : Option Member) (a : Applied) (r : TypeData) (bodies : List Standing)
        → if_callback (member_named name) ≡ o
        → typing.member_call p known c t name (typing.first_of es) (typing.arguments p known c es)
        (typing.further_arguments p known c es) o ≡ Some (r, bodies)
        → AreChecked p known bodies → AllSound → BackSound → Stands p (Named t name) a
        → IsSoundAt known c.locals r (applied.subject_call p act args a)
    unfolding callback_type
    named_called t name None a r bodies is typed checked all back h =
        let first = in_turn (typing.arguments p known c es) _ r bodies typed in
        let answers = (only_is (method_type t name first.0) r first.2 first.4).0 in
        member_called c.locals t r name (λ xs. AllZip HasType xs first.0) args
        (all first.0 first.1 first.3 (checked_first p known first.1 first.2 bodies first.5 checked))
        (λ calls y g. let f = functions_there t r name first.0 y calls answers g in is_function_there calls y name f.0 f.1)
        (λ y xs g zip. plain_sound c.locals t r name first.0 y xs is answers g zip) a h
    named_called t name (Some m) a r bodies is typed checked all back h =
        let first = in_turn (typing.further_arguments p known c es) _ r bodies typed in
        let lists = in_turn (needs (is_list_type t)) _ r first.2 first.4 in
        let to = in_turn (only (given_to m (items_of t) first.0)) _ r lists.2 lists.4 in
        let called = in_turn (callback_answer p known c (typing.first_of es) to.0) _ r to.2 to.4 in
        let by = (only_is (cond (is_never t) (Some never) (by_answer m (items_of t) first.0 called.0)) r called.2 called.4).0 in
        let is_list = (needs_is (is_list_type t) lists.0 lists.1 lists.3).0 in
        let given = (only_is (given_to m (items_of t) first.0) to.0 to.1 to.3).0 in
        let name_is = if_callback_is (member_named name) m is in
        let one = checked_first p known first.1 first.2 bodies first.5 checked in
        let more = checked_more p known first.1 first.2 bodies first.5 checked in
        let two = checked_more p known lists.1 lists.2 first.2 lists.5 more in
        let three = checked_more p known to.1 to.2 lists.2 to.5 two in
        let four = checked_first p known called.1 called.2 to.2 called.5 three in
        member_called c.locals t r name (IsCalling to.0 called.0 first.0) args
        (back to.0 first.0 called.0 first.1 called.1 first.3 called.3 one four)
        (λ calls y g. let l = list_has y t is_list g in
        subst (λ z. is_function_named calls z name ≡ true) (sym l.2) (callback_function calls l.0 l.1 name m name_is.0 name_is.1))
        (λ y xs g calling. subst (λ zs. IsSoundAt known c.locals r (method act y name zs)) (sym calling.2)
        (calling_sound c.locals t called.0 r name m first.0 to.0 y calling.0 calling.1 name_is.0 name_is.1 is_list given by g
        calling.3 calling.4)) a h

    -- a call of what typing has a subject for
    pub call_sound
        : (s : Subject) (a : Applied) (r : TypeData) (bodies : List Standing)
        → typing.subject_call p known c (typing.first_of es) (typing.arguments p known c es) (typing.further_arguments p known c es) s
        ≡ Some (r, bodies)
        → AreChecked p known bodies → AllSound → BackSound → Stands p s a
        → IsSoundAt known c.locals r (applied.subject_call p act args a)
    unfolding typing.subject_call
    call_sound (Whole t) a r bodies typed checked all back h = absurd cc
    call_sound (Named t name) a r bodies typed checked all back h =
        named_called t name (if_callback (member_named name)) a r bodies refl typed checked all back h
    call_sound (Function file decl) a r bodies typed checked all back h =
        let first = in_turn (typing.arguments p known c es) _ r bodies typed in
        let is = (only_is (function_type p known file decl first.0) r first.2 first.4).0 in
        function_called file decl first.0 r first.1 a first.3 (checked_first p known first.1 first.2 bodies first.5 checked) is all h
    call_sound (Ambient call) a r bodies typed checked all back h =
        let first = in_turn (typing.arguments p known c es) _ r bodies typed in
        let is = (only_is (ambient_type call first.0) r first.2 first.4).0 in
        ambient_called call first.0 r first.1 a first.3 (checked_first p known first.1 first.2 bodies first.5 checked) is all h

    named_stands
        : (t : TypeData) (name : List ℕ) (o : Option Member) (r : TypeData) (bodies : List Standing)
        → if_callback (member_named name) ≡ o
        → typing.member_call p known c t name (typing.first_of es) (typing.arguments p known c es)
        (typing.further_arguments p known c es) o ≡ Some (r, bodies)
        → HasMember t name
    unfolding callback_type
    named_stands t name None r bodies is typed =
        let first = in_turn (typing.arguments p known c es) _ r bodies typed in
        method_stands t r name first.0 (only_is (method_type t name first.0) r first.2 first.4).0
    named_stands t name (Some m) r bodies is typed =
        let first = in_turn (typing.further_arguments p known c es) _ r bodies typed in
        let lists = in_turn (needs (is_list_type t)) _ r first.2 first.4 in
        let name_is = if_callback_is (member_named name) m is in
        callback_stands t name m (needs_is (is_list_type t) lists.0 lists.1 lists.3).0 name_is.0 name_is.1

    -- what is called may stand
    pub call_stands
        : (s : Subject) (r : TypeData) (bodies : List Standing)
        → typing.subject_call p known c (typing.first_of es) (typing.arguments p known c es) (typing.further_arguments p known c es) s
        ≡ Some (r, bodies)
        → MayStand s
    unfolding typing.subject_call
    call_stands (Whole t) r bodies typed = absurd cc
    call_stands (Named t name) r bodies typed = named_stands t name (if_callback (member_named name)) r bodies refl typed
    call_stands (Function file decl) r bodies typed = tt
    call_stands (Ambient call) r bodies typed = tt
