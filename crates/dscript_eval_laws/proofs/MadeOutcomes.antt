-- What calls read of values that are made, and what they answer.
use Rattle.std.proofs.Common.{◌≡◌, ℕ, zero, suc, ◌+◌, Bool, true, false, cond, nat_le, List, [], ◌∷◌, map, length, Option, Some}
use Rattle.std.proofs.Common.{None, Ok, Err, ap, refl, subst, sym}
use Rattle.std.specs.Prelude.{◌^◌, nat_lt, pos, slice_get, unwrap_or}
use Rattle.std.specs.List.{AllByRecursion, cons_option, filter_map}
use Rattle.std.specs.Str.{bytes_eq}
use Rattle.bx_tree.specs.declared.file_input.FileInput.{FileInput}
use Rattle.pip_model_types.specs.Makers.{IsFileAmong}
use Rattle.pip_model_types.specs.declared.pip.Pip.{Pip}
use Rattle.dscript_value.specs.declared.makers.TheConstants.{MAX_DEPTH}
use Rattle.dscript_value.specs.declared.parts.ArgumentParts.{ArgumentParts as AnyArgument}
use Rattle.dscript_value.specs.declared.parts.Callee.{Callee}
use Rattle.dscript_value.specs.Depths.{field_at, greatest_depth, list_value, object_value, one_deeper, put_field}
use Rattle.dscript_value.specs.Depths.{put_fields, values_of}
use Rattle.dscript_value.specs.Plain as plain
use Rattle.dscript_value.specs.Plain.{Plain, PlainField, item_list, to_items, to_members}
use Rattle.dscript_sdk_values.specs.declared.fault.SdkFault.{SdkFault}
use Rattle.dscript_sdk_values.specs.declared.fault.SdkFault.TheVariants.{BadArgument, Range}
use Rattle.dscript_sdk_values.specs.declared.limits.TheConstants.{MAX_LIST_ITEMS, MAX_TEXT_BYTES}
use Rattle.dscript_sdk_values.specs.Answers.{function_answer, list_answer, number_answer, text_answer}
use Rattle.dscript_sdk_values.specs.Arguments.{one_of, two_of}
use Rattle.dscript_sdk_values.specs.Kinds.{argument_in, each_in, file_in, items_in, list_in, object_in}
use Rattle.dscript_sdk_values.specs.Objects.{field_in, fields_in, optional_in, optional_list_in}
use Rattle.dscript_sdk_values.specs.Objects.{read_if_there}
use Rattle.dscript_sdk_values.specs.Outcomes.{Outcome, ◌>>=◌, unless_none}
use Rattle.dscript_eval_laws.proofs.MadeValues.{AreFieldsMade, AreMade, IsArgumentMade, IsHolding, IsMade, items_made}
use Rattle.dscript_eval_laws.proofs.MadeValues.{made_items, made_members, members_made}

-- ## Outcomes

-- P of the value, if there is one
abbrev pub If : {A : Type 0} → (A → Type 0) → Outcome A → Type 0
If P (Ok x) = P x
If P (Err fault) = Unit {0}

abbrev pub IfThere : {A : Type 0} → (A → Type 0) → Option A → Type 0
IfThere P None = Unit {0}
IfThere P (Some x) = P x

abbrev pub Any : (A : Type 0) → A → Type 0
Any A x = Unit {0}

pub anything : {A : Type 0} (m : Outcome A) → If (Any A) m
anything (Ok x) = tt
anything (Err fault) = tt

pub and_then
    : {A B : Type 0} (P : A → Type 0) (Q : B → Type 0) (m : Outcome A) (f : A → Outcome B) → If P m
    → ((x : A) → P x → If Q (f x)) → If Q (m >>= f)
and_then P Q (Ok x) f h next = next x h
and_then P Q (Err fault) f h next = tt

pub either : {A : Type 0} (P : A → Type 0) (b : Bool) (x y : A) → P x → P y → P (cond b x y)
either P true x y h k = h
either P false x y h k = k

pub decided
    : {A : Type 0} (P : A → Type 0) (b : Bool) (x y : A) → (b ≡ true → P x) → (b ≡ false → P y)
    → P (cond b x y)
decided P true x y h k = h refl
decided P false x y h k = k refl

pub chosen
    : {A : Type 0} (P : A → Type 0) (b : Bool) (m other : Outcome A) → If P m → If P other
    → If P (cond b m other)
chosen P b m other h k = either (If P) b m other h k

pub unless_there
    : {A : Type 0} (P : A → Type 0) (fault : SdkFault) (o : Option A) → IfThere P o
    → If P (unless_none fault o)
unless_there P fault None h = tt
unless_there P fault (Some x) h = h

pub there_or : {A : Type 0} (P : A → Type 0) (o : Option A) (d : A) → IfThere P o → P d → P (unwrap_or o d)
there_or P None d h k = k
there_or P (Some x) d h k = h

cons_made
    : {Y : Type 0} (Q : Y → Type 0) (o : Option Y) (ys : List Y) → IfThere Q o → AllByRecursion Q ys
    → AllByRecursion Q (cons_option o ys)
cons_made Q None ys h k = k
cons_made Q (Some y) ys h k = (h, k)

pub filtered
    : {X Y : Type 0} (P : X → Type 0) (Q : Y → Type 0) (f : X → Option Y)
    → ((x : X) → P x → IfThere Q (f x)) → (xs : List X) → AllByRecursion P xs
    → AllByRecursion Q (filter_map f xs)
filtered P Q f next [] h = tt
filtered P Q f next (x ∷ xs) h =
    cons_made Q (f x) (filter_map f xs) (next x h.0) (filtered P Q f next xs h.1)

module _ (F : ℕ → ℕ → Type 0) where
  module _ (pips : List Pip) where
    -- ## Arguments

    pub one_made : (args : List Plain) → AreMade F pips args → If (IsMade F pips) (one_of args)
    one_made [] h = tt
    one_made (x ∷ more) h = h.0

    pub two_made
        : (args : List Plain) → AreMade F pips args
        → If (λ (two : Plain × Plain). IsMade F pips two.0 × IsMade F pips two.1) (two_of args)
    two_made [] h = tt
    two_made (x ∷ []) h = tt
    two_made (x ∷ y ∷ more) h = (h.0, h.1.0)

    -- ## Kinds

    pub file_made : (x : Plain) → IsMade F pips x → If (IsFileAmong pips) (file_in x)
    file_made (plain.File file) h = h
    file_made _ h = tt

    pub argument_made
        : (x : Plain) → IsMade F pips x → If (λ (a : AnyArgument). IsArgumentMade pips a.artifact) (argument_in x)
    argument_made (plain.Argument argument) h = h
    argument_made _ h = tt

    pub in_list : (x : Plain) → IsMade F pips x → If (AreMade F pips) (items_in x)
    in_list (plain.Listed depth items) h = items_made F pips items h
    in_list _ h = tt

    pub in_object : (x : Plain) → IsMade F pips x → If (AreFieldsMade F pips) (object_in x)
    in_object (plain.Object depth members) h = members_made F pips members h
    in_object _ h = tt

    pub each_made
        : {X : Type 0} (P : X → Type 0) (read : Plain → Outcome X)
        → ((x : Plain) → IsMade F pips x → If P (read x)) → (xs : List Plain) → AreMade F pips xs
        → If (AllByRecursion P) (each_in read xs)
    each_made P read reads [] h = tt
    each_made P read reads (x ∷ xs) h =
        and_then P (AllByRecursion P) (read x) _ (reads x h.0)
        (λ y k. and_then (AllByRecursion P) (AllByRecursion P) (each_in read xs) _
        (each_made P read reads xs h.1) (λ ys ks. (k, ks)))

    pub list_made
        : {X : Type 0} (P : X → Type 0) (read : Plain → Outcome X)
        → ((x : Plain) → IsMade F pips x → If P (read x)) → (x : Plain) → IsMade F pips x
        → If (AllByRecursion P) (list_in read x)
    list_made P read reads x h =
        and_then (AreMade F pips) (AllByRecursion P) (items_in x) (each_in read) (in_list x h)
        (λ xs k. each_made P read reads xs k)

    -- ## Objects

    pub fields_made
        : (required optional : List (List ℕ)) (x : Plain) → IsMade F pips x
        → If (AreFieldsMade F pips) (fields_in required optional x)
    fields_made required optional x h =
        and_then (AreFieldsMade F pips) (AreFieldsMade F pips) (object_in x) _ (in_object x h)
        (λ fields k. chosen (AreFieldsMade F pips) _ (Ok fields) (Err BadArgument) k tt)

    pub there_made
        : (fields : List PlainField) (name : List ℕ) → AreFieldsMade F pips fields
        → IfThere (IsMade F pips) (field_at fields name)
    there_made [] name h = tt
    there_made (f ∷ fs) name h =
        either (IfThere (IsMade F pips)) (bytes_eq f.0 name) (Some f.1) (field_at fs name) h.0
        (there_made fs name h.1)

    pub field_made
        : {X : Type 0} (P : X → Type 0) (fields : List PlainField) (name : List ℕ) (read : Plain → Outcome X)
        → AreFieldsMade F pips fields → ((x : Plain) → IsMade F pips x → If P (read x))
        → If P (field_in fields name read)
    field_made P fields name read h reads =
        and_then (IsMade F pips) P (unless_none BadArgument (field_at fields name)) read
        (unless_there (IsMade F pips) BadArgument (field_at fields name) (there_made fields name h)) reads

    if_there_made
        : {X : Type 0} (P : X → Type 0) (read : Plain → Outcome X)
        → ((x : Plain) → IsMade F pips x → If P (read x)) → (o : Option Plain) → IfThere (IsMade F pips) o
        → If (IfThere P) (read_if_there read o)
    if_there_made P read reads None h = tt
    if_there_made P read reads (Some x) h = and_then P (IfThere P) (read x) _ (reads x h) (λ y k. k)

    pub optional_made
        : {X : Type 0} (P : X → Type 0) (fields : List PlainField) (name : List ℕ) (read : Plain → Outcome X)
        → AreFieldsMade F pips fields → ((x : Plain) → IsMade F pips x → If P (read x))
        → If (IfThere P) (optional_in fields name read)
    optional_made P fields name read h reads =
        if_there_made P read reads (field_at fields name) (there_made fields name h)

    pub optional_list_made
        : {X : Type 0} (P : X → Type 0) (fields : List PlainField) (name : List ℕ)
        (read : Plain → Outcome (List X)) → AreFieldsMade F pips fields
        → ((x : Plain) → IsMade F pips x → If (AllByRecursion P) (read x))
        → If (AllByRecursion P) (optional_list_in fields name read)
    optional_list_made P fields name read h reads =
        and_then (IfThere (AllByRecursion P)) (AllByRecursion P) (optional_in fields name read) _
        (optional_made (AllByRecursion P) fields name read h reads)
        (λ items k. there_or (AllByRecursion P) items [] k tt)

    -- ## Answers

    pub deeper_made
        : (held : List Plain) (make : ℕ → Plain) → ((depth : ℕ) → IsMade F pips (make depth))
        → If (IsMade F pips) (unless_none Range (one_deeper held make))
    deeper_made held make makes =
        unless_there (IsMade F pips) Range (one_deeper held make)
        (either (IfThere (IsMade F pips)) (nat_lt (greatest_depth held) MAX_DEPTH)
        (Some (make (greatest_depth held + 1))) None (makes (greatest_depth held + 1)) tt)

    pub list_answered : (xs : List Plain) → AreMade F pips xs → If (IsMade F pips) (list_answer xs)
    list_answered xs h =
        chosen (IsMade F pips) (nat_le (length xs) MAX_LIST_ITEMS) (unless_none Range (list_value xs)) (Err Range)
        (deeper_made xs (λ depth. plain.Listed depth (to_items xs)) (λ depth. made_items F pips xs h)) tt

    listed_again : (xs : List Plain) → item_list (to_items xs) ≡ xs
    listed_again [] = refl
    listed_again (x ∷ xs) = ap (λ (ys : List Plain). x ∷ ys) (listed_again xs)

    pub function_answered
        : (callee : Callee) (held : List Plain) → IsHolding F callee (length held) → AreMade F pips held
        → If (IsMade F pips) (function_answer callee held)
    function_answered callee held count h =
        deeper_made held (λ depth. plain.Function callee depth (to_items held))
        (λ depth. (
          subst (λ (xs : List Plain). IsHolding F callee (length xs)) (sym (listed_again held)) count,
          (made_items F) pips held h,
        ))

    pub text_answered : (text : List ℕ) → If (IsMade F pips) (text_answer text)
    text_answered text =
        chosen (IsMade F pips) (nat_le (length text) MAX_TEXT_BYTES) (Ok (plain.Text text)) (Err Range) tt tt

    pub number_answered : (n : ℕ) → If (IsMade F pips) (number_answer n)
    number_answered n =
        chosen (IsMade F pips) (nat_lt n (2 ^ 31)) (Ok (plain.Number (pos n))) (Err Range) tt tt

    put_made
        : (fields : List PlainField) (f : PlainField) → AreFieldsMade F pips fields → IsMade F pips f.1
        → AreFieldsMade F pips (put_field fields f)
    put_made [] f h k = (k, tt)
    put_made (e ∷ es) f h k =
        either (AreFieldsMade F pips) (bytes_eq e.0 f.0) (f ∷ es) (e ∷ put_field es f) (k, h.1)
        (h.0, put_made es f h.1 k)

    puts_made
        : (done fields : List PlainField) → AreFieldsMade F pips done → AreFieldsMade F pips fields
        → AreFieldsMade F pips (put_fields done fields)
    puts_made done [] h k = h
    puts_made done (f ∷ fs) h k = puts_made (put_field done f) fs (put_made done f h k.0) k.1

    pub object_answered
        : (fields : List PlainField) → AreFieldsMade F pips fields
        → If (IsMade F pips) (unless_none Range (object_value fields))
    object_answered fields h =
        let whole = put_fields [] fields in
        deeper_made (values_of whole) (λ depth. plain.Object depth (to_members whole))
        (λ depth. made_members F pips whole (puts_made [] fields tt h))

    -- ## Lists

    pub item_made : (xs : List Plain) (n : ℕ) → AreMade F pips xs → IfThere (IsMade F pips) (slice_get xs n)
    item_made [] n h = tt
    item_made (x ∷ xs) zero h = h.0
    item_made (x ∷ xs) (suc n) h = item_made xs n h.1

    pub texts_made : (texts : List (List ℕ)) → AreMade F pips (map plain.Text texts)
    texts_made [] = tt
    texts_made (text ∷ texts) = (tt, texts_made texts)

    pub files_made
        : (files : List FileInput) → AllByRecursion (IsFileAmong pips) files → AreMade F pips (map plain.File files)
    files_made [] h = tt
    files_made (file ∷ files) h = (h.0, files_made files h.1)
