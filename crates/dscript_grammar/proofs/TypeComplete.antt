-- The reader of types is complete: a type that is derived at the start is read.
use Prim.Native.String.{String as Letters}
use Rattle.std.proofs.Common.{◌≡◌, ℕ, zero, suc, ◌+◌, ◌<◌, ◌≤◌, Bool, true, false, not, ◌||◌, List, [], ◌∷◌, length, Option, Some, None, codes, refl, ap, sym, ◌∙◌, subst, inl, inr, arith}
use Rattle.std.proofs.lemmas.Bool.Decides.{nat_tests}
use Rattle.dscript_lex.specs.declared.token.TokenKind.{TokenKind}
use Rattle.dscript_lex.specs.declared.token.TokenKind.TheVariants as kinds
use Rattle.dscript_grammar.specs.Language.{Language, nothing, punctuator, identifier, is_reserved, ◌⋅◌, only_if, times, separated, list}
use Rattle.dscript_grammar.specs.Reading.{Read, Reader, got, choose, pick, is_punctuator, at_punctuator, take_punctuator, read_identifier, read_flag, take_punctuator_bytes, at_punctuator_bytes, flag_by}
use Rattle.dscript_ast.specs.TypeTree.{TypeTree, Union, Array, Named, Str, Number, Undefined, True, False, Body, Function, FieldTree, Field, MemberTree, Property, Method, TypeTrees, no_types, more_types, FieldTrees, types_of, fields_of, members_of}
use Rattle.dscript_grammar.specs.TypeGrammar.{any_type, last_type, earlier_type, base_type, union, arguments, field, member, member_end, body, type_node, type_at}
use Rattle.dscript_grammar.specs.TypeReading.{above, at_identifier, at_fields, at_function, read_field, read_fields, read_method, read_member, after_member_end, read_ended, read_body, read_arguments, read_named, read_literal, read_enclosed, read_base, read_function, read_brackets, as_array, read_array, read_union, as_union, read_any, read_type}
use Rattle.dscript_grammar.proofs.Combinators.{Reads, reads_done, reads_bind, take_bind, choose_some, choose_none, if_true, if_false, reads_moved, punctuator_taken, name_complete, identifier_complete, flag_set, many_complete, separated_complete, list_complete, NotLonger, Consumes, token_consumes, identifier_consumes, not_longer, consumes_then, not_longer_then, flag_not_longer, many_not_longer, many_count, separated_count, separated_consumes, list_count, list_not_longer}
use Rattle.dscript_ast.proofs.TreeLists.{to_types-of, to_fields-of, to_members-of}

-- How many tokens types consume.
pub nothing_not_longer : NotLonger nothing
nothing_not_longer ts rest e = omega (arith, ap length e)

member_end_not_longer : NotLonger member_end
member_end_not_longer ts rest (inl e) = omega (arith, ap length e)
member_end_not_longer ts rest (inr (inl e)) = omega (arith, ap length e)
member_end_not_longer ts rest (inr (inr e)) = omega (arith, ap length e)

module _ (type : ℕ → TypeTree → Language) (consumes : (l : ℕ) (t : TypeTree) → Consumes (type l t)) where
  union_consumes : (xs : List TypeTree) → Consumes (union type xs)
  union_consumes [] ts rest p = absurd p
  union_consumes (t ∷ []) ts rest p = consumes last_type t ts rest p
  union_consumes (t ∷ u ∷ more) ts rest p =
      consumes_then (consumes earlier_type t) (not_longer (consumes_then (token_consumes _) (not_longer (union_consumes (u ∷ more))))) ts rest p

  union_count : (xs : List TypeTree) (ts rest : List TokenKind) → union type xs ts rest → length xs + length rest ≤ length ts
  union_count [] ts rest p = absurd p
  union_count (t ∷ []) ts rest p = let l : length rest < length ts = consumes last_type t ts rest p in omega arith
  union_count (t ∷ u ∷ more) ts rest (mid, p, (r, e, q)) =
      let l : length mid < length ts = consumes earlier_type t ts mid p in omega (arith, ap length e, union_count (u ∷ more) r rest q)

  arguments_not_longer : (args : TypeTrees) → NotLonger (arguments type args)
  arguments_not_longer no_types ts rest p = nothing_not_longer ts rest p
  arguments_not_longer (more_types t more) ts rest p =
      not_longer (consumes_then (token_consumes _) (not_longer (consumes_then (separated_consumes (type any_type) (consumes any_type) "," (t ∷ types_of more)) (not_longer (token_consumes _))))) ts rest p

  pub field_consumes : (f : FieldTree) → Consumes (field type f)
  field_consumes (Field x o t) ts rest p =
      consumes_then (identifier_consumes x) (not_longer_then (flag_not_longer "?" o) (not_longer (consumes_then (token_consumes _) (not_longer (consumes any_type t))))) ts rest p

  member_consumes : (m : MemberTree) → Consumes (member type m)
  member_consumes (Property x o t) ts rest p =
      consumes_then (token_consumes _) (not_longer_then (flag_not_longer "?" o) (not_longer (consumes_then (token_consumes _) (not_longer (consumes any_type t))))) ts rest p
  member_consumes (Method x o fs t) ts rest p =
      consumes_then (token_consumes _) (not_longer_then (flag_not_longer "?" o) (not_longer (consumes_then (token_consumes _)
      (not_longer_then (list_not_longer (field type) field_consumes (fields_of fs)) (not_longer (consumes_then (token_consumes _) (not_longer (consumes_then (token_consumes _) (not_longer (consumes any_type t)))))))))) ts rest p

  pub ended_consumes : (m : MemberTree) → Consumes (member type m ⋅ member_end)
  ended_consumes m ts rest p = consumes_then (member_consumes m) member_end_not_longer ts rest p

  pub body_consumes : (ms : List MemberTree) → Consumes (body type ms)
  body_consumes ms ts rest p =
      consumes_then (token_consumes _) (not_longer_then (many_not_longer (λ m. member type m ⋅ member_end) ended_consumes ms) (not_longer (token_consumes _))) ts rest p

  times_not_longer : (n : ℕ) → NotLonger (times n (punctuator "[" ⋅ punctuator "]"))
  times_not_longer zero ts rest p = nothing_not_longer ts rest p
  times_not_longer (suc n) ts rest p = not_longer (consumes_then (consumes_then (token_consumes _) (not_longer (token_consumes _))) (times_not_longer n)) ts rest p

  node_consumes : (t : TypeTree) → Consumes (type_node type t)
  node_consumes (Union row) ts rest p = union_consumes (types_of row) ts rest p.1
  node_consumes (Array t n) ts rest p = consumes_then (consumes base_type t) (times_not_longer n) ts rest p.1
  node_consumes (Named xs args) ts rest p = consumes_then (separated_consumes identifier identifier_consumes "." xs) (arguments_not_longer args) ts rest p
  node_consumes (Str s) ts rest p = token_consumes _ ts rest p
  node_consumes (Number n) ts rest p = token_consumes _ ts rest p
  node_consumes Undefined ts rest p = token_consumes _ ts rest p
  node_consumes True ts rest p = token_consumes _ ts rest p
  node_consumes False ts rest p = token_consumes _ ts rest p
  node_consumes (Body row) ts rest p = body_consumes (members_of row) ts rest p
  node_consumes (Function fs t) ts rest p =
      consumes_then (token_consumes _) (not_longer_then (list_not_longer (field type) field_consumes (fields_of fs)) (not_longer (consumes_then (token_consumes _) (not_longer (consumes_then (token_consumes _) (not_longer (consumes any_type t))))))) ts rest p

pub type_consumes : (h l : ℕ) (t : TypeTree) → Consumes (type_at h l t)
unfolding type_at
type_consumes zero l t ts rest p = absurd p
type_consumes (suc h) l t ts rest (inl p) = node_consumes (type_at h) (type_consumes h) t ts rest p.1
type_consumes (suc h) l t ts rest (inr p) = consumes_then (token_consumes _) (not_longer (consumes_then (type_consumes h any_type t) (not_longer (token_consumes _)))) ts rest p

word_undefined : not (is_reserved (codes "undefined")) ≡ false
unfolding is_reserved
word_undefined = refl

word_true : not (is_reserved (codes "true")) ≡ false
unfolding is_reserved
word_true = refl

word_false : not (is_reserved (codes "false")) ≡ false
unfolding is_reserved
word_false = refl

none_low : (l : ℕ) (t : TypeTree) (ts rest : List TokenKind) → type_at zero l t ts rest → ⊥
unfolding type_at
none_low l t ts rest p = p

-- The tokens that may follow a type.
pub record EndsNamed (rest : List TokenKind) : Type 0 where
  pub no_dot : take_punctuator "." rest ≡ None
  pub no_angle : take_punctuator "<" rest ≡ None

pub record EndsArray (rest : List TokenKind) : Type 0 where
  pub named : EndsNamed rest
  pub no_bracket : take_punctuator "[" rest ≡ None

pub record EndsType (rest : List TokenKind) : Type 0 where
  pub array : EndsArray rest
  pub no_bar : take_punctuator "|" rest ≡ None

pub not_taken : (s : Letters) {t : TokenKind} {ts r : List TokenKind} → ts ≡ t ∷ r → is_punctuator s t ≡ false → take_punctuator s ts ≡ None
unfolding take_punctuator_bytes pick
not_taken s {r = r} e f = ap (take_punctuator s) e ∙ ap (λ b. pick b (Some r) None) f

pub at_first : (s : Letters) {t : TokenKind} {ts r : List TokenKind} → ts ≡ t ∷ r → at_punctuator s ts ≡ is_punctuator s t
unfolding at_punctuator_bytes
at_first s e = ap (at_punctuator s) e

pub ends_at : {t : TokenKind} {ts r : List TokenKind} → ts ≡ t ∷ r → is_punctuator "." t ≡ false → is_punctuator "<" t ≡ false → is_punctuator "[" t ≡ false → is_punctuator "|" t ≡ false → EndsType ts
ends_at e dot angle bracket bar = record {
  array = record { named = record { no_dot = not_taken "." e dot; no_angle = not_taken "<" e angle }; no_bracket = not_taken "[" e bracket };
  no_bar = not_taken "|" e bar;
}

pub flag_complete : (s : Letters) (b : Bool) (ts : List TokenKind) {mid : List TokenKind} {h : ℕ} → only_if b (punctuator s) ts mid → take_punctuator s mid ≡ None → Reads (read_flag s ts) h b mid
unfolding flag_by
flag_complete s true ts e none = flag_set s e
flag_complete s false ts e none = choose_none _ (ap (take_punctuator s) e ∙ none) (reads_moved e (omega arith))

pub reads_as : {X : Type 0} {m : Option (Read X)} {h : ℕ} {v w : X} {rest : List TokenKind} → v ≡ w → Reads m h v rest → Reads m h w rest
reads_as {rest = rest} e r = record { height = r.height; within = r.within; is = r.is ∙ ap (λ x. got x r.height rest) e }

pub above_complete : {X : Type 0} {x : X} {depth n h : ℕ} {rest : List TokenKind} → n ≤ h → h ≤ depth → Reads (above depth n x rest) (suc h) x rest
unfolding above
above_complete {n = n} l k = if_true _ (grind (arith, nat_tests, l, k)) (reads_done (omega arith))

-- The first tokens of a type: those of a function type differ from those of every other type.
word_start : {x : List ℕ} {ts m : List TokenKind} → ts ≡ kinds.Word x ∷ m → at_punctuator ":" m ≡ false → at_punctuator "?" m ≡ false → at_fields ts ≡ false
unfolding at_fields
word_start {m = m} e c q = ap at_fields e ∙ ap (λ b. b || at_punctuator "?" m) c ∙ q

named_start : (type : ℕ → TypeTree → Language) (xs : List (List ℕ)) (args : TypeTrees) (ts mid rest : List TokenKind)
    → separated "." identifier xs ts mid → arguments type args mid rest → at_punctuator ":" rest ≡ false → at_punctuator "?" rest ≡ false → at_fields ts ≡ false
unfolding at_punctuator_bytes
named_start type [] args ts mid rest p a c q = absurd p
named_start type (x ∷ []) no_types ts mid rest p a c q = word_start p.0 (ap (at_punctuator ":") a ∙ c) (ap (at_punctuator "?") a ∙ q)
named_start type (x ∷ []) (more_types t more) ts mid rest p a c q = word_start p.0 (ap (at_punctuator ":") a.1) (ap (at_punctuator "?") a.1)
named_start type (x ∷ y ∷ more) args ts mid rest p a c q = word_start p.1.0 (ap (at_punctuator ":") p.2.1) (ap (at_punctuator "?") p.2.1)

pub type_start : (h l : ℕ) (t : TypeTree) (ts rest : List TokenKind) → type_at h l t ts rest → at_punctuator ":" rest ≡ false → at_punctuator "?" rest ≡ false → at_fields ts ≡ false
unfolding type_at at_fields at_punctuator_bytes
type_start zero l t ts rest p c q = absurd p
type_start (suc h) l t ts rest (inr p) c q = ap at_fields p.1
type_start (suc h) l (Union no_types) ts rest (inl p) c q = absurd p.1.1
type_start (suc h) l (Union (more_types t no_types)) ts rest (inl p) c q = type_start h last_type t ts rest p.1.1 c q
type_start (suc h) l (Union (more_types t (more_types u more))) ts rest (inl p) c q =
    type_start h earlier_type t ts p.1.1.0 p.1.1.1 (ap (at_punctuator ":") p.1.1.2.1) (ap (at_punctuator "?") p.1.1.2.1)
type_start (suc h) l (Array t zero) ts rest (inl p) c q = absurd (omega (arith, p.1.0))
type_start (suc h) l (Array t (suc n)) ts rest (inl p) c q =
    type_start h base_type t ts p.1.1.0 p.1.1.1 (ap (at_punctuator ":") p.1.1.2.1.1) (ap (at_punctuator "?") p.1.1.2.1.1)
type_start (suc h) l (Named xs args) ts rest (inl p) c q = named_start (type_at h) xs args ts p.1.0 rest p.1.1 p.1.2 c q
type_start (suc h) l (Str s) ts rest (inl p) c q = ap at_fields p.1
type_start (suc h) l (Number n) ts rest (inl p) c q = ap at_fields p.1
type_start (suc h) l Undefined ts rest (inl p) c q = word_start p.1 c q
type_start (suc h) l True ts rest (inl p) c q = word_start p.1 c q
type_start (suc h) l False ts rest (inl p) c q = word_start p.1 c q
type_start (suc h) l (Body row) ts rest (inl p) c q = ap at_fields p.1.1
type_start (suc h) l (Function fs t) ts rest (inl p) c q = ap at_fields p.1.1

ids_start : (xs : List (List ℕ)) (ts mid : List TokenKind) → separated "." identifier xs ts mid → (w : List ℕ) × (r : List TokenKind) × (ts ≡ kinds.Word w ∷ r) × (is_reserved w ≡ false)
ids_start [] ts mid p = absurd p
ids_start (x ∷ []) ts mid p = (x, mid, p.0, p.1)
ids_start (x ∷ y ∷ more) ts mid p = (x, p.0, p.1.0, p.1.1)

no_function : (h l : ℕ) (t : TypeTree) (ts rest : List TokenKind) → l ≤ 1 → type_at h l t ts rest → at_function ts ≡ false
unfolding type_at at_function take_punctuator_bytes at_punctuator_bytes choose pick
no_function zero l t ts rest within p = absurd p
no_function (suc h) l t ts rest within (inr (m, e, (m2, p, e2))) =
    ap at_function e ∙ type_start h any_type t m m2 p (ap (at_punctuator ":") e2) (ap (at_punctuator "?") e2)
no_function (suc h) l (Union row) ts rest within (inl p) = absurd (omega (arith, p.0))
no_function (suc h) l (Array t n) ts rest within (inl p) = no_function h base_type t ts p.1.1.0 (omega arith) p.1.1.1
no_function (suc h) l (Named xs args) ts rest within (inl p) = ap at_function (ids_start xs ts p.1.0 p.1.1).2
no_function (suc h) l (Str s) ts rest within (inl p) = ap at_function p.1
no_function (suc h) l (Number n) ts rest within (inl p) = ap at_function p.1
no_function (suc h) l Undefined ts rest within (inl p) = ap at_function p.1
no_function (suc h) l True ts rest within (inl p) = ap at_function p.1
no_function (suc h) l False ts rest within (inl p) = ap at_function p.1
no_function (suc h) l (Body row) ts rest within (inl p) = ap at_function p.1.1
no_function (suc h) l (Function fs t) ts rest within (inl p) = absurd (omega (arith, p.0))

-- `complete`: types that are parts are read, if the depth allows it.
module _ (type : Reader TypeTree) (depth : ℕ)
    (complete : (h : ℕ) → h ≤ depth → (t : TypeTree) (ts rest : List TokenKind) → type_at h any_type t ts rest → EndsType rest → Reads (type ts) h t rest) where
  module _ (h : ℕ) (fits : h ≤ depth) where
    pub field_complete : (f : FieldTree) (ts rest : List TokenKind) → field (type_at h) f ts rest → EndsType rest → Reads (read_field type ts) h f rest
    unfolding read_field
    field_complete (Field x o t) ts rest (m1, p, (m2, q, (m3, e, s))) f =
        reads_bind _ (identifier_complete {h = h} p) λ i li. reads_bind _ (flag_complete "?" o m1 {h = h} q (not_taken "?" e refl)) λ j lj.
        take_bind _ (punctuator_taken ":" e) (reads_bind _ (complete h fits t m3 rest s f) λ k lk. reads_done lk)

    field_start : (f : FieldTree) (ts rest : List TokenKind) → field (type_at h) f ts rest → at_punctuator ")" ts ≡ false
    field_start (Field x o t) ts rest p = at_first ")" p.1.0

    pub fields_complete : (fs : List FieldTree) (ts rest : List TokenKind) → (punctuator "(" ⋅ list (field (type_at h)) fs ⋅ punctuator ")") ts rest → Reads (read_fields type ts) h fs rest
    unfolding read_fields
    fields_complete fs ts rest (m1, e, (m2, p, e2)) =
        take_bind _ (punctuator_taken "(" e)
        (reads_bind _ (list_complete (field (type_at h)) (read_field type) h EndsType field_complete ")" (λ us after c. ends_at c refl refl refl refl) field_start
        fs m1 m2 (suc (length m1)) p (at_first ")" e2) (not_taken "," e2 refl) (ends_at e2 refl refl refl refl)
        (omega (arith, list_count (field (type_at h)) (field_consumes (type_at h) (type_consumes h)) fs m1 m2 p))) λ i li.
        take_bind _ (punctuator_taken ")" e2) (reads_done li))

    method_complete : (x : List ℕ) (o : Bool) (fs : FieldTrees) (t : TypeTree) (ts rest : List TokenKind)
        → (punctuator "(" ⋅ list (field (type_at h)) (fields_of fs) ⋅ punctuator ")" ⋅ punctuator ":" ⋅ type_at h any_type t) ts rest → EndsType rest
        → Reads (read_method type x o ts) h (Method x o fs t) rest
    unfolding read_method
    method_complete x o fs t ts rest (m1, e, (m2, p, (m3, e3, (m4, e4, s)))) f =
        reads_as (ap (λ g. Method x o g t) (to_fields-of fs))
        (reads_bind _ (fields_complete (fields_of fs) ts m3 (m1, e, (m2, p, e3))) λ i li. take_bind _ (punctuator_taken ":" e4)
        (reads_bind _ (complete h fits t m4 rest s f) λ k lk. reads_done (omega arith)))

    member_complete : (m : MemberTree) (ts rest : List TokenKind) → member (type_at h) m ts rest → EndsType rest → Reads (read_member type ts) h m rest
    unfolding read_member
    member_complete (Property x o t) ts rest (m1, p, (m2, q, (m3, e, s))) f =
        reads_bind _ (name_complete {h = h} p) λ i li. reads_bind _ (flag_complete "?" o m1 {h = h} q (not_taken "?" e refl)) λ j lj.
        choose_some _ _ (punctuator_taken ":" e) (reads_bind _ (complete h fits t m3 rest s f) λ k lk. reads_done lk)
    member_complete (Method x o fs t) ts rest (m1, p, (m2, q, s)) f =
        reads_bind _ (name_complete {h = h} p) λ i li. reads_bind _ (flag_complete "?" o m1 {h = h} q (not_taken "?" s.1 refl)) λ j lj.
        choose_none _ (not_taken ":" s.1 refl) (method_complete x o fs t m2 rest s f)

    -- the tokens that may follow a member and its end: a name, or the brace that closes the members
    record AfterMember (rest : List TokenKind) : Type 0 where
      pub ends : EndsType rest
      pub no_semicolon : take_punctuator ";" rest ≡ None
      pub no_comma : take_punctuator "," rest ≡ None

    after_at : {t : TokenKind} {ts r : List TokenKind} → ts ≡ t ∷ r → is_punctuator "." t ≡ false → is_punctuator "<" t ≡ false → is_punctuator "[" t ≡ false → is_punctuator "|" t ≡ false → is_punctuator ";" t ≡ false → is_punctuator "," t ≡ false → AfterMember ts
    after_at e dot angle bracket bar semicolon comma =
        record { ends = ends_at e dot angle bracket bar; no_semicolon = not_taken ";" e semicolon; no_comma = not_taken "," e comma }

    ended_complete : (m : MemberTree) (ts rest : List TokenKind) → (member (type_at h) m ⋅ member_end) ts rest → AfterMember rest → Reads (read_ended type ts) h m rest
    unfolding read_ended after_member_end choose
    ended_complete m ts rest (mid, p, inl e) f =
        reads_bind _ (member_complete m ts mid p (ends_at e refl refl refl refl)) λ i li. reads_moved (ap (λ o. choose o (choose (take_punctuator "," mid) mid (λ r. r)) (λ r. r)) (punctuator_taken ";" e)) li
    ended_complete m ts rest (mid, p, inr (inl e)) f =
        reads_bind _ (member_complete m ts mid p (ends_at e refl refl refl refl)) λ i li.
        reads_moved (ap (λ o. choose o (choose (take_punctuator "," mid) mid (λ r. r)) (λ r. r)) (not_taken ";" e refl) ∙ ap (λ o. choose o mid (λ r. r)) (punctuator_taken "," e)) li
    ended_complete m ts rest (mid, p, inr (inr e)) f =
        reads_bind _ (member_complete m ts mid p (subst EndsType (sym e) f.ends)) λ i li.
        reads_moved (ap (λ o. choose o (choose (take_punctuator "," mid) mid (λ r. r)) (λ r. r)) (ap (take_punctuator ";") e ∙ f.no_semicolon) ∙ ap (λ o. choose o mid (λ r. r)) (ap (take_punctuator ",") e ∙ f.no_comma) ∙ e) li

    ended_start : (m : MemberTree) (ts rest : List TokenKind) → (member (type_at h) m ⋅ member_end) ts rest → (not (at_punctuator "}" ts) ≡ true) × AfterMember ts
    ended_start (Property x o t) ts rest p = (ap not (at_first "}" p.1.1), after_at p.1.1 refl refl refl refl refl refl)
    ended_start (Method x o fs t) ts rest p = (ap not (at_first "}" p.1.1), after_at p.1.1 refl refl refl refl refl refl)

    pub body_complete : (ms : List MemberTree) (ts rest : List TokenKind) → body (type_at h) ms ts rest → Reads (read_body type ts) h ms rest
    unfolding read_body
    body_complete ms ts rest (m1, e, (m2, p, e2)) =
        take_bind _ (punctuator_taken "{" e)
        (reads_bind _ (many_complete (λ m. member (type_at h) m ⋅ member_end) (read_ended type) h AfterMember ended_complete (λ us. not (at_punctuator "}" us)) ended_start
        ms m1 m2 (suc (length m1)) p (ap not (at_first "}" e2)) (after_at e2 refl refl refl refl refl refl)
        (omega (arith, many_count (λ m. member (type_at h) m ⋅ member_end) (ended_consumes (type_at h) (type_consumes h)) ms m1 m2 p))) λ i li.
        take_bind _ (punctuator_taken "}" e2) (reads_done li))

    arguments_complete : (args : TypeTrees) (ts rest : List TokenKind) → arguments (type_at h) args ts rest → EndsNamed rest → Reads (read_arguments type ts) h args rest
    unfolding read_arguments
    arguments_complete no_types ts rest e f = choose_none _ (ap (take_punctuator "<") e ∙ f.no_angle) (reads_moved e (omega arith))
    arguments_complete (more_types t more) ts rest (m1, e, (m2, p, e2)) f =
        choose_some _ _ (punctuator_taken "<" e)
        (reads_as (to_types-of (more_types t more))
        (reads_bind _ (separated_complete (type_at h any_type) type h EndsType (complete h fits) "," (λ us after c. ends_at c refl refl refl refl)
        (t ∷ types_of more) m1 m2 (length m1) p (not_taken "," e2 refl) (ends_at e2 refl refl refl refl)
        (omega (arith, separated_count (type_at h any_type) (type_consumes h any_type) "," (t ∷ types_of more) m1 m2 p))) λ i li.
        take_bind _ (punctuator_taken ">" e2) (reads_done li)))

    no_dot_after : (args : TypeTrees) (ts rest : List TokenKind) → arguments (type_at h) args ts rest → EndsNamed rest → take_punctuator "." ts ≡ None
    no_dot_after no_types ts rest e f = ap (take_punctuator ".") e ∙ f.no_dot
    no_dot_after (more_types t more) ts rest p f = not_taken "." p.1 refl

    named_complete : (xs : List (List ℕ)) (args : TypeTrees) (ts rest : List TokenKind) → type_node (type_at h) (Named xs args) ts rest → EndsNamed rest
        → Reads (read_named type ts) (suc h) (Named xs args) rest
    unfolding read_named
    named_complete xs args ts rest (mid, p, q) f =
        reads_bind _ (separated_complete identifier read_identifier h (λ us. Unit {0}) (λ x us vs e u. identifier_complete e) "." (λ us after c. tt) xs ts mid (length ts) p (no_dot_after args mid rest q f) tt
        (omega (arith, separated_count identifier identifier_consumes "." xs ts mid p))) λ i li.
        reads_bind _ (arguments_complete args mid rest q f) λ j lj. reads_done (omega arith)

  -- a type before `[`
  base_complete : (h : ℕ) → h ≤ suc depth → (t : TypeTree) (ts rest : List TokenKind) → type_at h base_type t ts rest → EndsNamed rest → Reads (read_base type ts) h t rest
  unfolding type_at read_base read_enclosed read_literal at_identifier pick
  base_complete zero fits t ts rest p f = absurd p
  base_complete (suc h) fits t ts rest (inr (m1, e, (m2, p, e2))) f =
      choose_some _ _ (punctuator_taken "(" e) (reads_bind _ (complete h (omega arith) t m1 m2 p (ends_at e2 refl refl refl refl)) λ i li.
      take_bind _ (punctuator_taken ")" e2) (reads_done (omega arith)))
  base_complete (suc h) fits (Union row) ts rest (inl p) f = absurd (omega (arith, p.0))
  base_complete (suc h) fits (Array t n) ts rest (inl p) f = absurd (omega (arith, p.0))
  base_complete (suc h) fits (Function fs t) ts rest (inl p) f = absurd (omega (arith, p.0))
  base_complete (suc h) fits (Named xs args) ts rest (inl p) f =
      let s = ids_start xs ts p.1.0 p.1.1 in
      choose_none _ (not_taken "(" s.2 refl) (if_false _ (at_first "{" s.2) (if_true _ (ap at_identifier s.2 ∙ ap not s.3)
      (named_complete h (omega arith) xs args ts rest p.1 f)))
  base_complete (suc h) fits (Body row) ts rest (inl p) f =
      choose_none _ (not_taken "(" p.1.1 refl) (if_true _ (at_first "{" p.1.1)
      (reads_as (ap Body (to_members-of row)) (reads_bind _ (body_complete h (omega arith) (members_of row) ts rest p.1) λ i li. reads_done (omega arith))))
  base_complete (suc h) fits (Str s) ts rest (inl p) f =
      choose_none _ (not_taken "(" p.1 refl) (if_false _ (at_first "{" p.1) (if_false _ (ap at_identifier p.1) (record { height = 1; within = omega arith; is = ap read_literal p.1 })))
  base_complete (suc h) fits (Number n) ts rest (inl p) f =
      choose_none _ (not_taken "(" p.1 refl) (if_false _ (at_first "{" p.1) (if_false _ (ap at_identifier p.1) (record { height = 1; within = omega arith; is = ap read_literal p.1 })))
  base_complete (suc h) fits Undefined ts rest (inl p) f =
      choose_none _ (not_taken "(" p.1 refl) (if_false _ (at_first "{" p.1) (if_false _ (ap at_identifier p.1 ∙ word_undefined) (record { height = 1; within = omega arith; is = ap read_literal p.1 })))
  base_complete (suc h) fits True ts rest (inl p) f =
      choose_none _ (not_taken "(" p.1 refl) (if_false _ (at_first "{" p.1) (if_false _ (ap at_identifier p.1 ∙ word_true) (record { height = 1; within = omega arith; is = ap read_literal p.1 })))
  base_complete (suc h) fits False ts rest (inl p) f =
      choose_none _ (not_taken "(" p.1 refl) (if_false _ (at_first "{" p.1) (if_false _ (ap at_identifier p.1 ∙ word_false) (record { height = 1; within = omega arith; is = ap read_literal p.1 })))

  field_at : (x : List ℕ) (o : Bool) (t : TypeTree) (h : ℕ) (ts rest : List TokenKind) → field (type_at h) (Field x o t) ts rest → at_fields ts ≡ true
  unfolding at_fields at_punctuator_bytes
  field_at x true t h ts rest (m, p, (m2, e, q)) = ap at_fields p.0 ∙ ap (λ us. at_punctuator ":" us || at_punctuator "?" us) e
  field_at x false t h ts rest (m, p, (m2, e, q)) = ap at_fields p.0 ∙ ap (λ us. at_punctuator ":" us || at_punctuator "?" us) (e ∙ q.1)

  fields_start : (fs : List FieldTree) (h : ℕ) (ts m1 m2 rest : List TokenKind) → punctuator "(" ts m1 → list (field (type_at h)) fs m1 m2 → punctuator ")" m2 rest → at_function ts ≡ true
  unfolding at_function take_punctuator_bytes choose pick at_fields at_punctuator_bytes
  fields_start [] h ts m1 m2 rest e p e2 = ap at_function e ∙ ap at_fields (p ∙ e2)
  fields_start (Field x o t ∷ []) h ts m1 m2 rest e (mid, p, q) e2 = ap at_function e ∙ field_at x o t h m1 mid p
  fields_start (Field x o t ∷ g ∷ more) h ts m1 m2 rest e (mid, p, q) e2 = ap at_function e ∙ field_at x o t h m1 mid p

  -- a function type
  function_complete : (h : ℕ) → h ≤ depth → (fs : FieldTrees) (t : TypeTree) (ts rest : List TokenKind) → type_node (type_at h) (Function fs t) ts rest → EndsType rest
      → Reads (read_function type ts) (suc h) (Function fs t) rest
  unfolding read_function
  function_complete h fits fs t ts rest (m1, e, (m2, p, (m3, e3, (m4, e4, s)))) f =
      reads_as (ap (λ g. Function g t) (to_fields-of fs))
      (reads_bind _ (fields_complete h fits (fields_of fs) ts m3 (m1, e, (m2, p, e3))) λ i li. take_bind _ (punctuator_taken "=>" e4)
      (reads_bind _ (complete h fits t m4 rest s f) λ k lk. reads_done (omega arith)))

  times_count : (k : ℕ) (ts rest : List TokenKind) → times k (punctuator "[" ⋅ punctuator "]") ts rest → k + length rest ≤ length ts
  times_count zero ts rest e = omega (arith, ap length e)
  times_count (suc k) ts rest (mid, (m, e, e2), p) = omega (arith, ap length e, ap length e2, times_count k mid rest p)

  brackets_complete : (k n h : ℕ) (ts rest : List TokenKind) → times k (punctuator "[" ⋅ punctuator "]") ts rest → take_punctuator "[" rest ≡ None → k ≤ n → Reads (read_brackets n ts) h k rest
  unfolding read_brackets
  brackets_complete zero zero h ts rest e none l = reads_moved e (omega arith)
  brackets_complete zero (suc n) h ts rest e none l = choose_none _ (ap (take_punctuator "[") e ∙ none) (reads_moved e (omega arith))
  brackets_complete (suc k) zero h ts rest p none l = absurd (omega arith)
  brackets_complete (suc k) (suc n) h ts rest (mid, (m, e, e2), p) none l =
      choose_some _ _ (punctuator_taken "[" e) (take_bind _ (punctuator_taken "]" e2) (reads_bind _ (brackets_complete k n h mid rest p none (omega arith)) λ i li. reads_done (omega arith)))

  named_before : (n : ℕ) (ts rest : List TokenKind) → times (suc n) (punctuator "[" ⋅ punctuator "]") ts rest → EndsNamed ts
  named_before n ts rest (mid, (m, e, e2), p) = record { no_dot = not_taken "." e refl; no_angle = not_taken "<" e refl }

  plain_complete : (h : ℕ) → h ≤ suc depth → (t : TypeTree) (ts rest : List TokenKind) → type_at h base_type t ts rest → EndsArray rest → Reads (read_array type depth ts) h t rest
  unfolding read_array as_array
  plain_complete h fits t ts rest p f =
      reads_bind _ (base_complete h fits t ts rest p f.named) λ i li.
      reads_bind _ (brackets_complete zero (length rest) h rest rest refl f.no_bracket (omega arith)) λ j lj.
      if_true _ (grind (arith, nat_tests)) (reads_done li)

  -- a type of a union that another follows
  array_complete : (h : ℕ) → h ≤ suc depth → (t : TypeTree) (ts rest : List TokenKind) → type_at h earlier_type t ts rest → EndsArray rest → Reads (read_array type depth ts) h t rest
  unfolding read_array as_array type_at
  array_complete zero fits t ts rest p f = absurd p
  array_complete (suc h) fits (Array t zero) ts rest (inl p) f = absurd (omega (arith, p.1.0))
  array_complete (suc h) fits (Array t (suc n)) ts rest (inl (l, (k, (mid, p, q)))) f =
      reads_bind _ (base_complete h (omega arith) t ts mid p (named_before n mid rest q)) λ i li.
      reads_bind _ (brackets_complete (suc n) (length mid) h mid rest q f.no_bracket (omega (arith, times_count (suc n) mid rest q))) λ j lj.
      if_false _ (grind (arith, nat_tests)) (above_complete li (omega arith))
  array_complete (suc h) fits (Union row) ts rest (inl p) f = absurd (omega (arith, p.0))
  array_complete (suc h) fits (Function fs t) ts rest (inl p) f = absurd (omega (arith, p.0))
  array_complete (suc h) fits (Named xs args) ts rest (inl p) f = plain_complete (suc h) fits (Named xs args) ts rest (inl (omega arith, p.1)) f
  array_complete (suc h) fits (Str s) ts rest (inl p) f = plain_complete (suc h) fits (Str s) ts rest (inl (omega arith, p.1)) f
  array_complete (suc h) fits (Number n) ts rest (inl p) f = plain_complete (suc h) fits (Number n) ts rest (inl (omega arith, p.1)) f
  array_complete (suc h) fits Undefined ts rest (inl p) f = plain_complete (suc h) fits Undefined ts rest (inl (omega arith, p.1)) f
  array_complete (suc h) fits True ts rest (inl p) f = plain_complete (suc h) fits True ts rest (inl (omega arith, p.1)) f
  array_complete (suc h) fits False ts rest (inl p) f = plain_complete (suc h) fits False ts rest (inl (omega arith, p.1)) f
  array_complete (suc h) fits (Body row) ts rest (inl p) f = plain_complete (suc h) fits (Body row) ts rest (inl (omega arith, p.1)) f
  array_complete (suc h) fits t ts rest (inr p) f = plain_complete (suc h) fits t ts rest (inr p) f

  other_complete : (h : ℕ) → h ≤ suc depth → (n : ℕ) (t : TypeTree) (ts rest : List TokenKind) → type_at h earlier_type t ts rest → EndsType rest → Reads (read_union type depth (suc n) ts) h (t ∷ []) rest
  unfolding read_union
  other_complete h fits n t ts rest p f =
      if_false _ (no_function h earlier_type t ts rest (omega arith) p)
      (reads_bind _ (array_complete h fits t ts rest p f.array) λ i li. choose_none _ f.no_bar (reads_done li))

  -- the last type of a union, or the only one
  last_complete : (h : ℕ) → h ≤ suc depth → (n : ℕ) (t : TypeTree) (ts rest : List TokenKind) → type_at h last_type t ts rest → EndsType rest → Reads (read_union type depth (suc n) ts) h (t ∷ []) rest
  unfolding read_union type_at
  last_complete zero fits n t ts rest p f = absurd p
  last_complete (suc h) fits n (Function fs t) ts rest (inl p) f =
      if_true _ (fields_start (fields_of fs) h ts p.1.0 p.1.2.0 p.1.2.2.0 p.1.1 p.1.2.1 p.1.2.2.1)
      (reads_bind _ (function_complete h (omega arith) fs t ts rest p.1 f) λ i li. reads_done li)
  last_complete (suc h) fits n (Union row) ts rest (inl p) f = absurd (omega (arith, p.0))
  last_complete (suc h) fits n (Array t k) ts rest (inl p) f = other_complete (suc h) fits n (Array t k) ts rest (inl (omega arith, p.1)) f
  last_complete (suc h) fits n (Named xs args) ts rest (inl p) f = other_complete (suc h) fits n (Named xs args) ts rest (inl (omega arith, p.1)) f
  last_complete (suc h) fits n (Str s) ts rest (inl p) f = other_complete (suc h) fits n (Str s) ts rest (inl (omega arith, p.1)) f
  last_complete (suc h) fits n (Number m) ts rest (inl p) f = other_complete (suc h) fits n (Number m) ts rest (inl (omega arith, p.1)) f
  last_complete (suc h) fits n Undefined ts rest (inl p) f = other_complete (suc h) fits n Undefined ts rest (inl (omega arith, p.1)) f
  last_complete (suc h) fits n True ts rest (inl p) f = other_complete (suc h) fits n True ts rest (inl (omega arith, p.1)) f
  last_complete (suc h) fits n False ts rest (inl p) f = other_complete (suc h) fits n False ts rest (inl (omega arith, p.1)) f
  last_complete (suc h) fits n (Body row) ts rest (inl p) f = other_complete (suc h) fits n (Body row) ts rest (inl (omega arith, p.1)) f
  last_complete (suc h) fits n t ts rest (inr p) f = other_complete (suc h) fits n t ts rest (inr p) f

  union_complete : (h : ℕ) → h ≤ suc depth → (xs : List TypeTree) (ts rest : List TokenKind) (n : ℕ) → union (type_at h) xs ts rest → EndsType rest → length xs ≤ n
      → Reads (read_union type depth n ts) h xs rest
  unfolding read_union
  union_complete h fits [] ts rest n p f l = absurd p
  union_complete h fits (t ∷ more) ts rest zero p f l = absurd (omega arith)
  union_complete h fits (t ∷ []) ts rest (suc n) p f l = last_complete h fits n t ts rest p f
  union_complete h fits (t ∷ u ∷ more) ts rest (suc n) (mid, p, (r, e, q)) f l =
      if_false _ (no_function h earlier_type t ts mid (omega arith) p)
      (reads_bind _ (array_complete h fits t ts mid p (record { named = record { no_dot = not_taken "." e refl; no_angle = not_taken "<" e refl }; no_bracket = not_taken "[" e refl })) λ i li.
      choose_some _ _ (punctuator_taken "|" e) (reads_bind _ (union_complete h fits (u ∷ more) r rest n q f (omega arith)) λ j lj. reads_done (omega arith)))

  only_complete : (h : ℕ) → h ≤ suc depth → (t : TypeTree) (ts rest : List TokenKind) → type_at h last_type t ts rest → EndsType rest → Reads (read_any type depth ts) h t rest
  unfolding read_any as_union
  only_complete h fits t ts rest p f = reads_bind _ (last_complete h fits (length ts) t ts rest p f) λ i li. reads_done li

  any_complete : (h : ℕ) → h ≤ suc depth → (t : TypeTree) (ts rest : List TokenKind) → type_at h any_type t ts rest → EndsType rest → Reads (read_any type depth ts) h t rest
  unfolding read_any as_union type_at
  any_complete zero fits t ts rest p f = absurd p
  any_complete (suc h) fits (Union no_types) ts rest (inl p) f = absurd p.1.1
  any_complete (suc h) fits (Union (more_types t no_types)) ts rest (inl p) f = absurd (omega (arith, p.1.0))
  any_complete (suc h) fits (Union (more_types t (more_types u more))) ts rest (inl p) f =
      reads_as (ap (λ row. Union row) (to_types-of (more_types t (more_types u more))))
      (reads_bind _ (union_complete h (omega arith) (t ∷ u ∷ types_of more) ts rest (suc (length ts)) p.1.1 f
      (omega (arith, union_count (type_at h) (type_consumes h) (t ∷ u ∷ types_of more) ts rest p.1.1))) λ i li. above_complete li (omega arith))
  any_complete (suc h) fits (Function fs t) ts rest (inl p) f = only_complete (suc h) fits (Function fs t) ts rest (inl (omega arith, p.1)) f
  any_complete (suc h) fits (Array t k) ts rest (inl p) f = only_complete (suc h) fits (Array t k) ts rest (inl (omega arith, p.1)) f
  any_complete (suc h) fits (Named xs args) ts rest (inl p) f = only_complete (suc h) fits (Named xs args) ts rest (inl (omega arith, p.1)) f
  any_complete (suc h) fits (Str s) ts rest (inl p) f = only_complete (suc h) fits (Str s) ts rest (inl (omega arith, p.1)) f
  any_complete (suc h) fits (Number m) ts rest (inl p) f = only_complete (suc h) fits (Number m) ts rest (inl (omega arith, p.1)) f
  any_complete (suc h) fits Undefined ts rest (inl p) f = only_complete (suc h) fits Undefined ts rest (inl (omega arith, p.1)) f
  any_complete (suc h) fits True ts rest (inl p) f = only_complete (suc h) fits True ts rest (inl (omega arith, p.1)) f
  any_complete (suc h) fits False ts rest (inl p) f = only_complete (suc h) fits False ts rest (inl (omega arith, p.1)) f
  any_complete (suc h) fits (Body row) ts rest (inl p) f = only_complete (suc h) fits (Body row) ts rest (inl (omega arith, p.1)) f
  any_complete (suc h) fits t ts rest (inr p) f = only_complete (suc h) fits t ts rest (inr p) f

pub type_complete : (depth h : ℕ) → h ≤ depth → (t : TypeTree) (ts rest : List TokenKind) → type_at h any_type t ts rest → EndsType rest → Reads (read_type depth ts) h t rest
unfolding read_type
type_complete zero zero fits t ts rest p f = absurd (none_low any_type t ts rest p)
type_complete zero (suc h) fits t ts rest p f = absurd (omega arith)
type_complete (suc depth) h fits t ts rest p f = any_complete (read_type depth) depth (type_complete depth) h fits t ts rest p f
