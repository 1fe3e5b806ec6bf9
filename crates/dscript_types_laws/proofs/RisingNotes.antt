-- Contexts, annotations and parameters rise with what is known.
use Rattle.std.proofs.Common.{◌≡◌, ℕ, Bool, true, false, cond, List, [], ◌∷◌, ◌++◌, Option, Some, None, refl, sym, ap, ◌∙◌, subst}
use Rattle.std.specs.Bool.{beq}
use Rattle.std.specs.List.{AllZip, find, list_any}
use Rattle.std.specs.Option.{option_and_then, option_map}
use Rattle.std.specs.Prelude.{◌==◌}
use Rattle.dscript_ast.specs.ExprTree.{ParamTree}
use Rattle.dscript_ast.specs.TypeTree as tree
use Rattle.dscript_ast.specs.TypeTree.{TypeTree, TypeTrees, MemberTrees, to_members}
use Rattle.dscript_program.specs.BoundTree.{ExprData}
use Rattle.dscript_program.specs.ProgramData as declared
use Rattle.dscript_program.specs.ProgramData.{Dotted, KindData, ProgramData}
use Rattle.dscript_types_meaning.specs.Types.{TypeData, FieldData, object_type}
use Rattle.dscript_types_meaning.specs.Sizes.{within_limit}
use Rattle.dscript_types_meaning.specs.Unions.{if_optional, join_all, without_undefined}
use Rattle.dscript_types_meaning.specs.Objects.{put_field, put_fields}
use Rattle.dscript_types_meaning.specs.Contexts.{Captured, Context, Fixed, Hold, Known, Local, Meaning, Variable, captured_locals}
use Rattle.dscript_types_meaning.specs.Contexts.{held_inside, local_at}
use Rattle.dscript_types_meaning.specs.Lookups.{Place, found_type}
use Rattle.dscript_types_meaning.specs.Annotations.{all_meant, at_place, declared_or_known, declared_type, extended, fields_after}
use Rattle.dscript_types_meaning.specs.Annotations.{is_parameter, lists_of, meant, named_type, one_object}
use Rattle.dscript_types_meaning.specs.Narrowing.{Told, narrow_held, narrow_local, narrow_told, narrowed, told}
use Rattle.dscript_types_meaning.specs.Functions.{all_parameters, declared_parameter, noted}
use Rattle.dscript_types_laws.proofs.Rising.{Below, ContextBelow, KnownBelow, LocalBelow, SamePlace, and_below, below_itself, map_below}
use Rattle.dscript_types_laws.proofs.Rising.{with_below}

-- ## Contexts

filter_case
    : (l k : Local) (ls ks : List Local) (captured : List ℕ) (b : Bool) → LocalBelow l k
    → list_any (λ n. l.number == n) captured ≡ b
    → AllZip LocalBelow (captured_locals captured ls) (captured_locals captured ks)
    → AllZip LocalBelow (captured_locals captured (l ∷ ls)) (captured_locals captured (k ∷ ks))
filter_case l k ls ks captured true below is rest =
    let here : list_any (λ n. k.number == n) captured ≡ true
    = ap (λ m. list_any (λ n. m == n) captured) (sym below.0) ∙ is in
    rw (is, here) ((below.0, ap held_inside below.1, below.2), rest)
filter_case l k ls ks captured false below is rest =
    let other : list_any (λ n. k.number == n) captured ≡ false
    = ap (λ m. list_any (λ n. m == n) captured) (sym below.0) ∙ is in
    rw (is, other) rest

captured_below
    : (ls ks : List Local) (captured : List ℕ) → AllZip LocalBelow ls ks
    → AllZip LocalBelow (captured_locals captured ls) (captured_locals captured ks)
captured_below [] [] captured zip = tt
captured_below [] (k ∷ ks) captured zip = absurd zip
captured_below (l ∷ ls) [] captured zip = absurd zip
captured_below (l ∷ ls) (k ∷ ks) captured zip =
    filter_case l k ls ks captured (list_any (λ n. l.number == n) captured) zip.0 refl (captured_below ls ks captured zip.1)

append_below
    : (new ls ks : List Local) → AllZip LocalBelow ls ks → AllZip LocalBelow (new ++ ls) (new ++ ks)
append_below [] ls ks zip = zip
append_below (l ∷ new) ls ks zip = ((refl, refl, λ t e. e), append_below new ls ks zip)

-- the context of a callback's body, with the same parameters
pub callback_below
    : (c d : Context) (captured : List ℕ) (new : List Local) → ContextBelow c d
    → ContextBelow (record c { locals = new ++ captured_locals captured c.locals })
    (record d { locals = new ++ captured_locals captured d.locals })
callback_below c d captured new below = record {
  file = below.file;
  around = below.around;
  parameters = below.parameters;
  locals = append_below new (captured_locals captured c.locals) (captured_locals captured d.locals)
      (captured_below c.locals d.locals captured below.locals);
}

-- ## Narrowing

abbrev BothBelow : Option Local → Option Local → Type 0
BothBelow None None = Unit {0}
BothBelow None (Some k) = ⊥
BothBelow (Some l) None = ⊥
BothBelow (Some l) (Some k) = LocalBelow l k

both_case
    : (l k : Local) (ls ks : List Local) (n : ℕ) (b : Bool) → LocalBelow l k → (l.number == n) ≡ b
    → BothBelow (find (λ (j : Local). j.number == n) ls) (find (λ (j : Local). j.number == n) ks)
    → BothBelow (find (λ (j : Local). j.number == n) (l ∷ ls)) (find (λ (j : Local). j.number == n) (k ∷ ks))
both_case l k ls ks n true below is rest =
    let here : (k.number == n) ≡ true = ap (λ m. m == n) (sym below.0) ∙ is in rw (is, here) below
both_case l k ls ks n false below is rest =
    let other : (k.number == n) ≡ false = ap (λ m. m == n) (sym below.0) ∙ is in rw (is, other) rest

both_below
    : (ls ks : List Local) (n : ℕ) → AllZip LocalBelow ls ks
    → BothBelow (find (λ (j : Local). j.number == n) ls) (find (λ (j : Local). j.number == n) ks)
both_below [] [] n zip = tt
both_below [] (k ∷ ks) n zip = absurd zip
both_below (l ∷ ls) [] n zip = absurd zip
both_below (l ∷ ls) (k ∷ ks) n zip = both_case l k ls ks n (l.number == n) zip.0 refl (both_below ls ks n zip.1)

hold_case
    : (c d : Context) (n : ℕ) (o q : Option TypeData) (h : Hold) → ContextBelow c d → Below o q
    → ContextBelow (narrow_held n o h c) (narrow_held n q h d)
hold_case c d n o q Fixed below more =
    with_below c d n (option_map without_undefined o) (option_map without_undefined q) Fixed below (map_below o q without_undefined more)
hold_case c d n o q Variable below more = below
hold_case c d n o q Captured below more = below

local_case
    : (c d : Context) (n : ℕ) (o q : Option Local) → ContextBelow c d → BothBelow o q
    → ContextBelow (narrow_local n o c) (narrow_local n q d)
local_case c d n None None below both = below
local_case c d n None (Some k) below both = absurd both
local_case c d n (Some l) None below both = absurd both
local_case c d n (Some l) (Some k) below both =
    subst (λ h. ContextBelow (narrow_held n l.type_data l.hold c) (narrow_held n k.type_data h d)) both.1
    (hold_case c d n l.type_data k.type_data l.hold below both.2)

told_case
    : (c d : Context) (outcome : Bool) (t : Told) (b : Bool) → beq outcome t.1 ≡ b → ContextBelow c d
    → ContextBelow (narrow_told outcome (Some t) c) (narrow_told outcome (Some t) d)
told_case c d outcome t true is below =
    rw (is, narrow_told) (local_case c d t.0 (local_at c t.0) (local_at d t.0) below (both_below c.locals d.locals t.0 below.locals))
told_case c d outcome t false is below = rw (is, narrow_told) below

option_case
    : (c d : Context) (outcome : Bool) (o : Option Told) → ContextBelow c d
    → ContextBelow (narrow_told outcome o c) (narrow_told outcome o d)
option_case c d outcome None below = below
option_case c d outcome (Some t) below = told_case c d outcome t (beq outcome t.1) refl below

pub narrowed_below
    : (c d : Context) (outcome : Bool) (e : ExprData) → ContextBelow c d
    → ContextBelow (narrowed outcome e c) (narrowed outcome e d)
unfolding narrowed
narrowed_below c d outcome e below = option_case c d outcome (told e) below

-- ## Annotations

module _ (p : ProgramData) (k l : Known) (knows : KnownBelow k l) where
  place_below
      : (place : Place) (rest : Dotted) (ts : List TypeData) → Below (at_place k place rest ts) (at_place l place rest ts)
  place_below place [] [] t e = knows (Meaning place.0 place.1) (Meaning place.0 place.1) refl t e
  place_below place [] (u ∷ ts) t e = absurd cc
  place_below place (x ∷ rest) ts t e = absurd cc

  found_below
      : (found : Option (Place × Dotted)) (names : Dotted) (ts : List TypeData)
      → Below (declared_or_known k found names ts) (declared_or_known l found names ts)
  found_below None names ts t e = e
  found_below (Some f) names ts t e = place_below f.0 f.1 ts t e

  parameter_case
      : (b : Bool) (o q : Option TypeData) → Below o q → Below (cond b None o) (cond b None q)
  parameter_case true o q below t e = absurd cc
  parameter_case false o q below t e = below t e

  -- by the file, the namespaces and the type parameters of a context alone
  named_at
      : (file : ℕ) (around : Dotted) (parameters : List (List ℕ)) (names : Dotted) (ts : List TypeData)
      → Below (cond (is_parameter parameters names) None (declared_or_known k (found_type p file around names) names ts))
      (cond (is_parameter parameters names) None (declared_or_known l (found_type p file around names) names ts))
  named_at file around parameters names ts =
      parameter_case (is_parameter parameters names) _ _ (found_below (found_type p file around names) names ts)

  named_below
      : (c d : Context) (names : Dotted) (ts : List TypeData) → SamePlace c d
      → Below (named_type p k c names ts) (named_type p l d names ts)
  named_below c d names ts below t e =
      ap (λ file. cond (is_parameter d.parameters names) None (declared_or_known l (found_type p file d.around names) names ts)) (sym below.file)
      ∙ ap (λ around. cond (is_parameter d.parameters names) None (declared_or_known l (found_type p c.file around names) names ts)) (sym below.around)
      ∙ ap (λ params. cond (is_parameter params names) None (declared_or_known l (found_type p c.file c.around names) names ts)) (sym below.parameters)
      ∙ named_at c.file c.around c.parameters names ts t e

  module _ (c d : Context) (below : SamePlace c d) where
    mutual
      unfolding meant all_meant fields_after

      pub meant_below : (t : TypeTree) → Below (meant p k c t) (meant p l d t)
      meant_below (tree.Union ts) =
          and_below (all_meant p k c ts) (all_meant p l d ts) _ _ (all_below ts) (λ us. below_itself (within_limit (join_all us)))
      meant_below (tree.Array t n) =
          and_below (meant p k c t) (meant p l d t) _ _ (meant_below t) (λ u. below_itself (within_limit (lists_of n u)))
      meant_below (tree.Named names ts) =
          and_below (all_meant p k c ts) (all_meant p l d ts) _ _ (all_below ts)
          (λ us. and_below (named_type p k c names us) (named_type p l d names us) within_limit within_limit
          (named_below c d names us below) (λ u. below_itself (within_limit u)))
      meant_below (tree.Str text) = below_itself _
      meant_below (tree.Number n) = below_itself _
      meant_below tree.Undefined = below_itself _
      meant_below tree.True = below_itself _
      meant_below tree.False = below_itself _
      meant_below (tree.Body members) =
          and_below (fields_after p k c members []) (fields_after p l d members []) _ _ (fields_below members [])
          (λ fields. below_itself (within_limit (object_type fields)))
      meant_below (tree.Function parameters t) = below_itself None

      pub all_below : (ts : TypeTrees) → Below (all_meant p k c ts) (all_meant p l d ts)
      all_below tree.no_types = below_itself (Some [])
      all_below (tree.more_types t more) =
          and_below (meant p k c t) (meant p l d t) _ _ (meant_below t)
          (λ u. map_below (all_meant p k c more) (all_meant p l d more) (λ us. u ∷ us) (all_below more))

      pub fields_below
          : (members : MemberTrees) (done : List FieldData)
          → Below (fields_after p k c members done) (fields_after p l d members done)
      fields_below tree.no_members done = below_itself (Some done)
      fields_below (tree.more_members (tree.Property name optional t) more) done =
          and_below (meant p k c t) (meant p l d t) _ _ (meant_below t)
          (λ u. fields_below more (put_field done (record { name = name; optional = optional; type_data = u })))
      fields_below (tree.more_members (tree.Method name optional parameters t) more) done = below_itself None

    extended_below
        : (ts : List TypeTree) (done : List FieldData) → Below (extended p k c ts done) (extended p l d ts done)
    extended_below [] done = below_itself (Some done)
    extended_below (t ∷ ts) done =
        and_below (option_and_then (one_object) (meant p k c t)) (option_and_then (one_object) (meant p l d t)) _ _
        (and_below (meant p k c t) (meant p l d t) (one_object) (one_object) (meant_below t) (λ u. below_itself (one_object u)))
        (λ fields. extended_below ts (put_fields done fields))

    pub declared_below : (kind : KindData) → Below (declared_type p k c kind) (declared_type p l d kind)
    declared_below (declared.Const note e) = below_itself None
    declared_below (declared.Function ts note number) = below_itself None
    declared_below (declared.Interface [] es ms) =
        and_below (extended p k c es []) (extended p l d es []) _ _ (extended_below es [])
        (λ fields. and_below (fields_after p k c (to_members ms) fields) (fields_after p l d (to_members ms) fields) _ _
        (fields_below (to_members ms) fields) (λ all. below_itself (within_limit (object_type all))))
    declared_below (declared.Interface (t ∷ ts) es ms) = below_itself None
    declared_below (declared.TypeAlias [] t) = meant_below t
    declared_below (declared.TypeAlias (u ∷ ts) t) = below_itself None

    pub noted_below : (optional : Bool) (t : TypeTree) → Below (noted p k c optional t) (noted p l d optional t)
    noted_below optional t =
        and_below (meant p k c t) (meant p l d t) _ _ (meant_below t) (λ u. below_itself (within_limit (if_optional optional u)))

    pub parameter_below : (param : ParamTree) → Below (declared_parameter p k c param) (declared_parameter p l d param)
    parameter_below param =
        and_below param.type_node param.type_node _ _ (below_itself param.type_node) (λ t. noted_below param.optional t)

    pub parameters_below
        : (params : List ParamTree) → Below (all_parameters p k c params) (all_parameters p l d params)
    parameters_below [] = below_itself (Some [])
    parameters_below (param ∷ more) =
        and_below (declared_parameter p k c param) (declared_parameter p l d param) _ _ (parameter_below param)
        (λ t. map_below (all_parameters p k c more) (all_parameters p l d more) (λ ts. t ∷ ts) (parameters_below more))
