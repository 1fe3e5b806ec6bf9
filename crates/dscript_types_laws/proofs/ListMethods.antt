-- Member functions of lists, and those of all values of the types that have them.
use Rattle.std.proofs.Common.{◌≡◌, ℕ, ◌+◌, Bool, true, false, cond, ◌||◌, List, [], ◌∷◌, ◌++◌, Option, Some, None, Ok, Err}
use Rattle.std.proofs.Common.{refl, sym, ap, ◌∙◌, subst}
use Rattle.std.specs.List.{AllByRecursion, AllZip}
use Rattle.std.specs.Option.{option_and_then}
use Rattle.std.specs.Prelude.{is_some, nat_lt}
use Rattle.dscript_value.specs.Depths.{greatest_depth}
use Rattle.dscript_value.specs.declared.makers.TheConstants.{MAX_DEPTH}
use Rattle.dscript_value.specs.declared.parts.Callee.{Callee}
use Rattle.dscript_value.specs.declared.parts.Callee.TheVariants as callees
use Rattle.dscript_value.specs.Plain as plain
use Rattle.dscript_value.specs.Plain.{Plain, Items, item_list, to_items}
use Rattle.dscript_sdk_values.specs.declared.fault.SdkFault.TheVariants.{Range}
use Rattle.dscript_sdk_values.specs.Answers.{function_answer, text_answer}
use Rattle.dscript_sdk_values.specs.Kinds.{each_in, text_in}
use Rattle.dscript_sdk_values.specs.Outcomes.{Outcome, ◌>>=◌, unless_none}
use Rattle.dscript_sdk_members.specs.Functions.{MemberFunction}
use Rattle.dscript_sdk_members.specs.ListMembers.{concat_lists, contains_item, found_or, has_equal, is_callback, join_items, list_function}
use Rattle.dscript_sdk_members.specs.ListMembers.{separated_texts}
use Rattle.dscript_sdk_members.specs.Names.{member_named}
use Rattle.dscript_sdk_members.specs.declared.member.Member.{Member}
use Rattle.dscript_sdk_members.specs.declared.member.Member.TheVariants as members
use Rattle.dscript_sdk.specs.Members as sdk
use Rattle.dscript_sdk.specs.Members.{call_of_member, function_at, function_named, is_callback_of, is_function_found, is_function_named}
use Rattle.dscript_sdk.specs.Members.{is_function_of, member_answer, member_of}
use Rattle.dscript_sdk_pips.specs.States.{State as Calls}
use Rattle.dscript_types_meaning.specs.declared.kind.Kind.TheVariants as kinds
use Rattle.dscript_types_meaning.specs.Types.{TypeData, MemberData, Values, Lists, Objects, list_type}
use Rattle.dscript_types_meaning.specs.Sizes.{within_limit}
use Rattle.dscript_types_meaning.specs.Unions.{is_list_type, items_of, join}
use Rattle.dscript_types_meaning.specs.Fits.{fits}
use Rattle.dscript_types_meaning.specs.Operators.{at_each, boolean_type, may_be_alike, text_type}
use Rattle.dscript_types_meaning.specs.Access.{Signature, accessed, answer_of, arguments_fit, concatenated, contained, joined_texts}
use Rattle.dscript_types_meaning.specs.Access.{method_of, method_of_kind, method_of_list, method_named, method_type}
use Rattle.dscript_types_meaning.specs.Values.{HasType, IsOf}
use Rattle.dscript_types_values.proofs.Among.{or_right}
use Rattle.dscript_types_values.proofs.Fitting.{fits_kind}
use Rattle.dscript_types_values.proofs.Joining.{has_left, has_right, list_has}
use Rattle.dscript_types_values.proofs.KindForms.{items_are, kind_is, list_is}
use Rattle.dscript_types_laws.specs.Invariants.{Answers, HasMember}
use Rattle.dscript_types_laws.proofs.Comparing.{equal_answers, flag_has}
use Rattle.dscript_types_laws.proofs.Members.{accessed_has}
use Rattle.dscript_types_laws.proofs.Methods.{HasMethod, list_answered, method_kind_has, text_argument}
use Rattle.dscript_types_laws.proofs.Operating.{AnswersOf, answers_as, answers_wider, at_each_has, text_answered}
use Rattle.dscript_types_laws.proofs.Operators.{within_is}

-- ## Items

pub wider_all
    : (P Q : Plain → Type 0) (xs : List Plain) → ((x : Plain) → P x → Q x) → AllByRecursion P xs → AllByRecursion Q xs
wider_all P Q [] wide h = tt
wider_all P Q (x ∷ xs) wide h = (wide x h.0, wider_all P Q xs wide h.1)

pub append_all
    : (P : Plain → Type 0) (xs ys : List Plain) → AllByRecursion P xs → AllByRecursion P ys → AllByRecursion P (xs ++ ys)
append_all P [] ys p q = q
append_all P (x ∷ xs) ys p q = (p.0, append_all P xs ys p.1 q)

-- ## A list and the items of another

concat_case
    : (items : List Plain) (item t r : TypeData) (a : Plain) (args : List Plain) (b : Bool) → is_list_type t ≡ b
    → cond b (Some (list_type (join item (items_of t)))) None ≡ Some r → AllByRecursion (λ x. HasType x item) items
    → HasType a t → AnswersOf r (concat_lists items (a ∷ args))
concat_case items item t r a args false is e all h = absurd cc
concat_case items item t r a args true is e all h =
    let same : list_type (join item (items_of t)) ≡ r = cc in
    let l = list_has a t is h in
    subst (λ y. AnswersOf r (concat_lists items (y ∷ args))) (sym l.2)
    (answers_as (list_type (join item (items_of t))) r _ same
    (list_answered (items ++ item_list l.1) (join item (items_of t))
    (append_all (λ x. HasType x (join item (items_of t))) items (item_list l.1)
    (wider_all (λ x. HasType x item) (λ x. HasType x (join item (items_of t))) items (λ x g. has_left x item (items_of t) g) all)
    (wider_all (λ x. HasType x (items_of t)) (λ x. HasType x (join item (items_of t))) (item_list l.1)
    (λ x g. has_right x item (items_of t) g) l.3))))

concat_has
    : (items : List Plain) (item : TypeData) (args : List Plain) (given : List TypeData) (r : TypeData)
    → concatenated item given ≡ Some r → AllByRecursion (λ x. HasType x item) items → AllZip HasType args given
    → AnswersOf r (concat_lists items args)
concat_has items item [] given r e all zip = tt
concat_has items item (a ∷ args) [] r e all zip = absurd zip
concat_has items item (a ∷ args) (t ∷ given) r e all zip =
    concat_case items item t r a args (is_list_type t) refl e all zip.0

-- ## Whether an item is there

by_flag : (flag : Bool) (rest : Outcome Bool) → Answers Bool (λ b. Unit {0}) rest → Answers Bool (λ b. Unit {0}) (found_or (Some flag) rest)
by_flag true rest h = tt
by_flag false rest h = h

equal_found
    : (items : List Plain) (item t : TypeData) (x : Plain) → may_be_alike item t ≡ false
    → AllByRecursion (λ y. HasType y item) items → HasType x t → Answers Bool (λ b. Unit {0}) (has_equal items x)
equal_found [] item t x e all h = tt
equal_found (y ∷ ys) item t x e all h =
    let q = equal_answers y x item t e all.0 h in
    subst (λ o. Answers Bool (λ b. Unit {0}) (found_or o (has_equal ys x))) (sym q.1)
    (by_flag q.0 (has_equal ys x) (equal_found ys item t x e all.1 h))

flagged : (o : Outcome Bool) → Answers Bool (λ b. Unit {0}) o → AnswersOf boolean_type (o >>= λ found. Ok (plain.Flag found))
flagged (Ok b) h = flag_has b
flagged (Err fault) h = h

contains_case
    : (items : List Plain) (item t r : TypeData) (a : Plain) (args : List Plain) (b : Bool) → may_be_alike item t ≡ b
    → cond b None (Some boolean_type) ≡ Some r → AllByRecursion (λ x. HasType x item) items → HasType a t
    → AnswersOf r (contains_item items (a ∷ args))
contains_case items item t r a args true is e all h = absurd cc
contains_case items item t r a args false is e all h =
    let same : boolean_type ≡ r = cc in
    answers_as boolean_type r _ same (flagged (has_equal items a) (equal_found items item t a is all h))

contains_has
    : (items : List Plain) (item : TypeData) (args : List Plain) (given : List TypeData) (r : TypeData)
    → contained item given ≡ Some r → AllByRecursion (λ x. HasType x item) items → AllZip HasType args given
    → AnswersOf r (contains_item items args)
contains_has items item [] given r e all zip = tt
contains_has items item (a ∷ args) [] r e all zip = absurd zip
contains_has items item (a ∷ args) (t ∷ given) r e all zip =
    contains_case items item t r a args (may_be_alike item t) refl e all zip.0

-- ## Texts with a separator

read_more
    : (text : List ℕ) (o : Outcome (List (List ℕ))) → Answers (List (List ℕ)) (λ xs. Unit {0}) o
    → Answers (List (List ℕ)) (λ xs. Unit {0}) (o >>= λ xs. Ok (text ∷ xs))
read_more text (Ok xs) h = tt
read_more text (Err fault) h = h

texts_read
    : (items : List Plain) (item : TypeData) → fits item text_type ≡ true → AllByRecursion (λ x. HasType x item) items
    → Answers (List (List ℕ)) (λ xs. Unit {0}) (each_in text_in items)
texts_read [] item e all = tt
texts_read (x ∷ xs) item e all =
    let v = fits_kind x item kinds.String e all.0 in
    subst (λ y. Answers (List (List ℕ)) (λ zs. Unit {0}) (text_in y >>= λ text. each_in text_in xs >>= λ rest. Ok (text ∷ rest)))
    (sym v.1) (read_more v.0 (each_in text_in xs) (texts_read xs item e all.1))

joined_case
    : (separator : List ℕ) (o : Outcome (List (List ℕ))) → Answers (List (List ℕ)) (λ xs. Unit {0}) o
    → AnswersOf text_type (o >>= λ texts. text_answer (separated_texts separator texts))
joined_case separator (Ok texts) h = text_answered (separated_texts separator texts)
joined_case separator (Err fault) h = h

fit_case
    : (s : Signature) (given : List TypeData) (r : TypeData) (b : Bool) → arguments_fit s.takes given ≡ b
    → cond b (Some s.answers) None ≡ Some r → (arguments_fit s.takes given ≡ true) × (s.answers ≡ r)
fit_case s given r true is e = let same : s.answers ≡ r = cc in (is, same)
fit_case s given r false is e = absurd cc

pub answer_fits
    : (s : Signature) (given : List TypeData) (r : TypeData) → answer_of given s ≡ Some r
    → (arguments_fit s.takes given ≡ true) × (s.answers ≡ r)
answer_fits s given r e = fit_case s given r (arguments_fit s.takes given) refl e

abbrev text_signature : Signature
text_signature = record { takes = text_type ∷ []; answers = text_type }

join_case
    : (items : List Plain) (item : TypeData) (args : List Plain) (given : List TypeData) (r : TypeData) (b : Bool)
    → fits item text_type ≡ b → cond b (answer_of given text_signature) None ≡ Some r
    → AllByRecursion (λ x. HasType x item) items → AllZip HasType args given → AnswersOf r (join_items items args)
join_case items item args given r false is e all zip = absurd cc
join_case items item args given r true is e all zip =
    let a = answer_fits text_signature given r e in
    answers_as text_type r _ a.1
    (text_argument text_type args given _ a.0 zip
    (λ separator. joined_case separator (each_in text_in items) (texts_read items item is all)))

join_has
    : (items : List Plain) (item : TypeData) (args : List Plain) (given : List TypeData) (r : TypeData)
    → joined_texts item given ≡ Some r → AllByRecursion (λ x. HasType x item) items → AllZip HasType args given
    → AnswersOf r (join_items items args)
join_has items item args given r e all zip = join_case items item args given r (fits item text_type) refl e all zip

-- ## Members

-- the member function that a value has, and what it answers at arguments of these types
abbrev pub HasFunction : Option MemberFunction → List TypeData → TypeData → Type 0
HasFunction o given r =
    (f : MemberFunction) × (o ≡ Some f) × ((args : List Plain) → AllZip HasType args given → AnswersOf r (f args))

list_method_has
    : (m : Member) (item : TypeData) (given : List TypeData) (r : TypeData) (items : List Plain)
    → method_of_list m item given ≡ Some r → AllByRecursion (λ x. HasType x item) items
    → HasFunction (list_function m items) given r
unfolding list_function
list_method_has members.Concat item given r items e all =
    (concat_lists items, refl, λ args zip. concat_has items item args given r e all zip)
list_method_has members.Contains item given r items e all =
    (contains_item items, refl, λ args zip. contains_has items item args given r e all zip)
list_method_has members.Join item given r items e all =
    (join_items items, refl, λ args zip. join_has items item args given r e all zip)
list_method_has m item given r items e all = absurd cc

signature_case
    : (given : List TypeData) (o : Option Signature) (r : TypeData) → option_and_then (answer_of given) o ≡ Some r
    → (s : Signature) × (o ≡ Some s) × (answer_of given s ≡ Some r)
signature_case given None r e = absurd cc
signature_case given (Some s) r e = (s, refl, e)

method_there
    : (m : Member) (n : MemberData) (given : List TypeData) (r : TypeData) (x : Plain) (calls : Calls)
    → method_of m given n ≡ Some r → IsOf x n → HasFunction (function_at calls m x) given r
method_there m (Values k) given r x calls e h =
    let s = signature_case given (method_of_kind k m) r e in
    let f = answer_fits s.0 given r s.2 in
    let has : HasMethod calls m x s.0 = method_kind_has k m s.0 x calls s.1 (kind_is x k h) in
    (has.0, has.1, λ args zip. answers_as s.0.answers r (has.0 args) f.1 (has.2 args given f.0 zip))
method_there m (Lists item) given r x calls e h =
    let l = list_is x item h in
    subst (λ y. HasFunction (function_at calls m y) given r) (sym l.2)
    (list_method_has m item given r (item_list l.1) e (items_are l.1 item l.3))
method_there m (Objects row) given r x calls e h = absurd cc

named_there
    : (o : Option Member) (n : MemberData) (given : List TypeData) (r : TypeData) (x : Plain) (calls : Calls)
    → method_named o given n ≡ Some r → IsOf x n → HasFunction (function_named calls x o) given r
named_there None n given r x calls e h = absurd cc
named_there (Some m) n given r x calls e h = method_there m n given r x calls e h

method_case
    : (o : Option TypeData) (r : TypeData) → option_and_then within_limit o ≡ Some r → (s : TypeData) × (o ≡ Some s) × (s ≡ r)
method_case None r e = absurd cc
method_case (Some s) r e = (s, refl, within_is s r e)

-- a value of a type that has a member function has it
pub functions_there
    : (t r : TypeData) (name : List ℕ) (given : List TypeData) (x : Plain) (calls : Calls) → method_type t name given ≡ Some r
    → HasType x t → HasFunction (function_named calls x (member_named name)) given r
unfolding method_type
functions_there t r name given x calls e h =
    let a = accessed_has x t h in
    let c = method_case (at_each (method_named (member_named name) given) (accessed t)) r e in
    let p = at_each_has (method_named (member_named name) given) (accessed t) c.0 a.0 c.1 a.1 in
    let f = named_there (member_named name) a.0 given p.0 x calls p.1 a.2 in
    (f.0, f.1, λ args zip. answers_wider p.0 r (f.0 args) (λ y g. subst (λ u. HasType y u) c.2 (p.2 y g)) (f.2 args zip))

-- what a call of a member function answers at a value of a type that has it
pub method_has
    : (t r : TypeData) (name : List ℕ) (given : List TypeData) (args : List Plain) (x : Plain) (calls : Calls)
    → method_type t name given ≡ Some r → HasType x t → AllZip HasType args given
    → AnswersOf r (sdk.method_answer calls x name args)
unfolding sdk.method_answer
method_has t r name given args x calls e h zip =
    let f = functions_there t r name given x calls e h in
    subst (λ o. AnswersOf r (call_of_member calls x name args o)) (sym f.1) (f.2 args zip)

-- ## Members that are functions

is_found : (calls : Calls) (x : Plain) (o : Option Member) (f : MemberFunction) → function_named calls x o ≡ Some f
    → is_function_found calls x o ≡ true
is_found calls x None f e = absurd cc
is_found calls x (Some m) f e = or_right (is_callback_of m x) (is_some (function_at calls m x)) (ap is_some e)

pub is_function_there
    : (calls : Calls) (x : Plain) (name : List ℕ) (f : MemberFunction) → function_named calls x (member_named name) ≡ Some f
    → is_function_named calls x name ≡ true
unfolding is_function_named
is_function_there calls x name f e = is_found calls x (member_named name) f e

function_case
    : (callee : Callee) (held : List Plain) (b : Bool)
    → Answers Plain (λ y. Unit {0}) (unless_none Range (cond b (Some (plain.Function callee (greatest_depth held + 1) (to_items held))) None))
function_case callee held true = tt
function_case callee held false = tt

pub function_answers : (callee : Callee) (held : List Plain) → Answers Plain (λ y. Unit {0}) (function_answer callee held)
function_answers callee held = function_case callee held (nat_lt (greatest_depth held) MAX_DEPTH)

stands_case
    : (calls : Calls) (x : Plain) (m : Member) (name : List ℕ) (b : Bool) → is_function_of calls m x ≡ b → b ≡ true
    → Answers Plain (λ y. Unit {0}) (cond b (function_answer (callees.Member name) (x ∷ [])) (sdk.property_or_missing (sdk.property_at m x)))
stands_case calls x m name true is e = function_answers (callees.Member name) (x ∷ [])
stands_case calls x m name false is e = absurd cc

answer_stands
    : (calls : Calls) (x : Plain) (m : Member) (name : List ℕ) → is_function_of calls m x ≡ true
    → Answers Plain (λ y. Unit {0}) (member_answer calls name x (Some m))
answer_stands calls x m name e = stands_case calls x m name (is_function_of calls m x) refl e

own_stands
    : (calls : Calls) (x : Plain) (m : Member) (name : List ℕ) → is_function_of calls m x ≡ true
    → Answers Plain (λ y. Unit {0}) (sdk.or_else (sdk.own_member x name) (member_answer calls name x (Some m)))
own_stands calls plain.Undefined m name e = absurd cc
own_stands calls (plain.Flag flag) m name e = answer_stands calls (plain.Flag flag) m name e
own_stands calls (plain.Number number) m name e = answer_stands calls (plain.Number number) m name e
own_stands calls (plain.Text text) m name e = answer_stands calls (plain.Text text) m name e
own_stands calls (plain.Path path) m name e = answer_stands calls (plain.Path path) m name e
own_stands calls (plain.File file) m name e = answer_stands calls (plain.File file) m name e
own_stands calls (plain.Directory path) m name e = answer_stands calls (plain.Directory path) m name e
own_stands calls (plain.Relative atoms) m name e = answer_stands calls (plain.Relative atoms) m name e
own_stands calls (plain.Atom text) m name e = answer_stands calls (plain.Atom text) m name e
own_stands calls (plain.Listed depth items) m name e = answer_stands calls (plain.Listed depth items) m name e
own_stands calls (plain.Object depth fields) m name e = tt
own_stands calls (plain.Function callee depth held) m name e = answer_stands calls (plain.Function callee depth held) m name e
own_stands calls (plain.Static dir) m name e = answer_stands calls (plain.Static dir) m name e
own_stands calls (plain.Process pip) m name e = answer_stands calls (plain.Process pip) m name e
own_stands calls (plain.Artifact artifact) m name e = answer_stands calls (plain.Artifact artifact) m name e
own_stands calls (plain.Argument argument) m name e = answer_stands calls (plain.Argument argument) m name e

found_stands
    : (calls : Calls) (x : Plain) (name : List ℕ) (o : Option Member) → is_function_found calls x o ≡ true
    → Answers Plain (λ y. Unit {0}) (sdk.or_else (sdk.own_member x name) (member_answer calls name x o))
found_stands calls x name None e = absurd cc
found_stands calls x name (Some m) e = own_stands calls x m name e

-- a member that is a function is there
pub function_stands
    : (calls : Calls) (x : Plain) (name : List ℕ) → is_function_named calls x name ≡ true
    → Answers Plain (λ y. Unit {0}) (member_of calls x name)
unfolding is_function_named member_of
function_stands calls x name e = found_stands calls x name (member_named name) e

-- a member that is called is there
pub method_stands
    : (t r : TypeData) (name : List ℕ) (given : List TypeData) → method_type t name given ≡ Some r → HasMember t name
method_stands t r name given e x calls h =
    let f = functions_there t r name given x calls e h in
    function_stands calls x name (is_function_there calls x name f.0 f.1)

-- a member of lists that calls functions
listed_callback
    : (calls : Calls) (depth : ℕ) (items : Items) (o : Option Member) (m : Member) → o ≡ Some m → is_callback m ≡ true
    → is_function_found calls (plain.Listed depth items) o ≡ true
listed_callback calls depth items None m e is = absurd cc
listed_callback calls depth items (Some k) m e is =
    let same : k ≡ m = cc in
    or_left (is_callback k) (is_some (function_at calls k (plain.Listed depth items))) (ap is_callback same ∙ is)
  where
    or_left : (a b : Bool) → a ≡ true → (a || b) ≡ true
    or_left true b e = refl
    or_left false b e = absurd cc

pub callback_function
    : (calls : Calls) (depth : ℕ) (items : Items) (name : List ℕ) (m : Member) → member_named name ≡ Some m
    → is_callback m ≡ true → is_function_named calls (plain.Listed depth items) name ≡ true
unfolding is_function_named
callback_function calls depth items name m e is = listed_callback calls depth items (member_named name) m e is

pub callback_stands
    : (t : TypeData) (name : List ℕ) (m : Member) → is_list_type t ≡ true → member_named name ≡ Some m → is_callback m ≡ true
    → HasMember t name
callback_stands t name m lists e is x calls h =
    let l = list_has x t lists h in
    subst (λ y. Answers Plain (λ z. Unit {0}) (member_of calls y name)) (sym l.2)
    (function_stands calls (plain.Listed l.0 l.1) name (callback_function calls l.0 l.1 name m e is))
