-- Lists of annotations and members, one after another.
use Rattle.std.proofs.Common.{◌≡◌, ℕ, zero, suc, ◌+◌, ◌<◌, ◌≤◌, max, Bool, List, [], ◌∷◌, ◌++◌, drop, get_or, length, map, Option, Some, None, refl, ap, sym, ◌∙◌, subst, append_assoc, arith}
use Rattle.std.specs.Option.{option_and_then, option_map}
use Rattle.dscript_ast.specs.TypeTree as tree
use Rattle.dscript_ast.specs.TypeTree.{TypeTree, to_members, to_types}
use Rattle.dscript_ast.specs.Views.{member_tree, type_tree}
use Rattle.dscript_ast.specs.declared.type_node.Member.{Member as MemberNode}
use Rattle.dscript_ast.specs.declared.type_node.TypeNode.{TypeNode}
use Rattle.dscript_program.specs.ProgramData.{ProgramData}
use Rattle.dscript_types_known.specs.Findings.{Found, Nothing, Open}
use Rattle.dscript_types_meaning.specs.Annotations.{all_meant, extended, fields_after, meant, one_object}
use Rattle.dscript_types_meaning.specs.Contexts.{Context, Known}
use Rattle.dscript_types_meaning.specs.Objects.{put_field, put_fields}
use Rattle.dscript_types_meaning.specs.Sizes.{within_limit}
use Rattle.dscript_types_meaning.specs.Types.{FieldData, TypeData, object_type}
use Rattle.dscript_types_meaning.specs.declared.limits.TheConstants.{MAX_TYPE_NODES}
use Rattle.dscript_types_meaning.specs.Typed.{known_within}
use Rattle.dscript_types_notes.specs.Means.{Says, SaysFrom, found_if, object_after, program_of}
use Rattle.dscript_types_notes.specs.declared.world.Place.{Place}
use Rattle.dscript_types_notes.specs.declared.world.World.{World}
use Rattle.dscript_types_notes.proofs.Large.{too_many_fields}
use Rattle.dscript_types_notes.proofs.Going.{Answers, Goes, begins, begins_as, ends_in, from_says, goes_on, is_rest, opens, stops}

-- ## Lists

next : (i : ℕ) → suc i ≡ i + 1
next i = omega arith

pub drop_next
    : {X : Type 0} (xs : List X) (i : ℕ) (x : X) → i < length xs → x ≡ get_or xs i x → drop i xs ≡ x ∷ drop (i + 1) xs
drop_next xs i x l e = dropped xs i x l e ∙ ap (λ k. x ∷ drop k xs) (next i)
  where
    dropped : {X : Type 0} (xs : List X) (i : ℕ) (x : X) → i < length xs → x ≡ get_or xs i x → drop i xs ≡ x ∷ drop (suc i) xs
    dropped [] i x l e = absurd (omega (arith, l))
    dropped (y ∷ xs) zero x l e = ap (λ z. z ∷ xs) (sym e)
    dropped (y ∷ xs) (suc i) x l e = dropped xs i x (omega (arith, l)) e

pub drop_all : {X : Type 0} (xs : List X) (i : ℕ) → length xs ≤ i → drop i xs ≡ []
drop_all [] i l = dropped i
  where
    dropped : {X : Type 0} (i : ℕ) → drop {A = X} i [] ≡ []
    dropped zero = refl
    dropped (suc i) = refl
drop_all (x ∷ xs) zero l = absurd (omega (arith, l))
drop_all (x ∷ xs) (suc i) l = drop_all xs i (omega (arith, l))

pub append_nil : {X : Type 0} (xs : List X) → xs ++ [] ≡ xs
append_nil [] = refl
append_nil (x ∷ xs) = ap (λ ys. x ∷ ys) (append_nil xs)

-- ## Annotations

meant_then
    : (xs : List TypeData) (a : Option TypeData) (b : Option (List TypeData))
    → option_map (λ (us : List TypeData). xs ++ us) (option_and_then (λ (u : TypeData). option_map (λ (us : List TypeData). u ∷ us) b) a)
    ≡ option_and_then (λ (u : TypeData). option_map (λ (us : List TypeData). (xs ++ u ∷ []) ++ us) b) a
meant_then xs None b = refl
meant_then xs (Some u) None = refl
meant_then xs (Some u) (Some us) = ap Some (sym (append_assoc xs (u ∷ []) us))

nothing_before : (b : Option (List TypeData)) → b ≡ option_map (λ (us : List TypeData). [] ++ us) b
nothing_before None = refl
nothing_before (Some us) = refl

module _ (w : World) (place : Place) (nodes : List TypeNode) where
  abbrev pub all_whole : Answers (List TypeData)
  all_whole p known c = all_meant p known c (to_types (map type_tree nodes))

  -- these types, and those from a number on
  abbrev pub all_rest : ℕ → List TypeData → Answers (List TypeData)
  all_rest i types p known c =
      option_map (λ (us : List TypeData). types ++ us) (all_meant p known c (to_types (map type_tree (drop i nodes))))

  abbrev pub AllGoes : ℕ → ℕ → List TypeData → Type 0
  AllGoes i rank types = Goes w place 0 rank all_whole (all_rest i types)

  pub all_begin : (types : List TypeData) → types ≡ [] → AllGoes 0 0 types
  all_begin types e =
      begins_as w place 0 all_whole (all_rest 0 types)
      (λ p known c. nothing_before (all_whole p known c)
      ∙ ap (λ (ts : List TypeData). option_map (λ (us : List TypeData). ts ++ us) (all_whole p known c)) (sym e))

  module _ (i rank : ℕ) (types : List TypeData) (node : TypeNode) (l : i < length nodes) (e : node ≡ get_or nodes i node)
      (goes : AllGoes i rank types) where
    abbrev pub node_meant : Answers TypeData
    node_meant p known c = meant p known c (type_tree node)

    abbrev then_rest : TypeData → Answers (List TypeData)
    then_rest u = all_rest (i + 1) (types ++ u ∷ [])

    all_step : (p : ProgramData) (known : Known) (c : Context)
        → all_rest i types p known c ≡ option_and_then (λ u. then_rest u p known c) (node_meant p known c)
    unfolding all_meant
    all_step p known c =
        ap (λ ns. option_map (λ (us : List TypeData). types ++ us) (all_meant p known c (to_types (map type_tree ns))))
        (drop_next nodes i node l e)
        ∙ meant_then types (node_meant p known c) (all_meant p known c (to_types (map type_tree (drop (i + 1) nodes))))

    pub all_goes
        : (t : TypeData) (from new_rank : ℕ) (new : List TypeData) → Says w place (Found t from) node_meant
        → new_rank ≡ max rank from → new ≡ types ++ t ∷ [] → AllGoes (i + 1) new_rank new
    all_goes t from new_rank new says is made =
        subst (λ (r : ℕ). AllGoes (i + 1) r new) (sym is)
        (subst (λ (ts : List TypeData). AllGoes (i + 1) (max rank from) ts) (sym made)
        (goes_on w place 0 rank all_whole (all_rest i types) node_meant then_rest t from all_step says goes))

    pub all_stop : Says w place Nothing node_meant → Says w place Nothing all_whole
    all_stop says =
        from_says w place Nothing all_whole
        (stops w place 0 rank all_whole (all_rest i types) node_meant then_rest all_step says goes)

    pub all_open : Says w place Open node_meant → Says w place Open all_whole
    all_open says =
        from_says w place Open all_whole
        (opens w place 0 rank all_whole (all_rest i types) node_meant then_rest all_step says goes)

  pub all_end
      : (i rank : ℕ) (types : List TypeData) → length nodes ≤ i → AllGoes i rank types
      → Says w place (Found types rank) all_whole
  unfolding all_meant
  all_end i rank types l goes =
      from_says w place (Found types rank) all_whole
      (ends_in w place 0 rank all_whole (all_rest i types) (Found types rank) goes
      (is_rest w place rank (all_rest i types) (Some types) (λ known c at.
      ap (λ ns. option_map (λ (us : List TypeData). types ++ us) (all_meant (program_of w) known c (to_types (map type_tree ns))))
      (drop_all nodes i l)
      ∙ ap Some (append_nil types))))

-- ## What an interface extends

either_fields
    : {X : Type 0} (f : List FieldData → Option X) (a : Option TypeData)
    → option_and_then f (option_and_then one_object a) ≡ option_and_then (λ (u : TypeData). option_and_then f (one_object u)) a
either_fields f None = refl
either_fields f (Some u) = refl

module _ (w : World) (place : Place) (nodes : List TypeNode) where
  abbrev pub extended_whole : Answers (List FieldData)
  extended_whole p known c = extended p known c (map type_tree nodes) []

  abbrev pub extended_rest : ℕ → List FieldData → Answers (List FieldData)
  extended_rest i done p known c = extended p known c (map type_tree (drop i nodes)) done

  abbrev pub ExtendedGoes : ℕ → ℕ → List FieldData → Type 0
  ExtendedGoes i rank done = Goes w place 0 rank extended_whole (extended_rest i done)

  pub extended_begin : (done : List FieldData) → done ≡ [] → ExtendedGoes 0 0 done
  extended_begin done e =
      begins_as w place 0 extended_whole (extended_rest 0 done)
      (λ p known c. ap (extended p known c (map type_tree nodes)) (sym e))

  module _ (i rank : ℕ) (done : List FieldData) (node : TypeNode) (l : i < length nodes) (e : node ≡ get_or nodes i node)
      (goes : ExtendedGoes i rank done) where
    abbrev pub extension : Answers TypeData
    extension p known c = meant p known c (type_tree node)

    abbrev then_extended : TypeData → Answers (List FieldData)
    then_extended u p known c =
        option_and_then (λ fields. extended_rest (i + 1) (put_fields done fields) p known c) (one_object u)

    extended_step : (p : ProgramData) (known : Known) (c : Context)
        → extended_rest i done p known c ≡ option_and_then (λ u. then_extended u p known c) (extension p known c)
    extended_step p known c =
        ap (λ ns. extended p known c (map type_tree ns) done) (drop_next nodes i node l e)
        ∙ either_fields (λ fields. extended_rest (i + 1) (put_fields done fields) p known c) (extension p known c)

    to_object : (t : TypeData) (from : ℕ) → Says w place (Found t from) extension → Goes w place 0 (max rank from) extended_whole (then_extended t)
    to_object t from says =
        goes_on w place 0 rank extended_whole (extended_rest i done) extension then_extended t from extended_step says goes

    pub extended_goes
        : (t : TypeData) (from new_rank : ℕ) (fields new : List FieldData) → Says w place (Found t from) extension
        → new_rank ≡ max rank from → one_object t ≡ Some fields → new ≡ put_fields done fields → ExtendedGoes (i + 1) new_rank new
    extended_goes t from new_rank fields new says is object made =
        let to = to_object t from says in
        record {
          above = omega arith;
          same = λ n c over within at here.
              to.same n c over within at (omega (arith, is))
              ∙ ap (option_and_then (λ fields. extended_rest (i + 1) (put_fields done fields) (program_of w) (known_within (program_of w) n) c)) object
              ∙ ap (λ fs. extended_rest (i + 1) fs (program_of w) (known_within (program_of w) n) c) (sym made);
          none = λ n c over within at before. to.none n c over within at (omega (arith, is));
        }

    pub extended_no_object
        : (t : TypeData) (from : ℕ) → Says w place (Found t from) extension → one_object t ≡ None
        → Says w place Nothing extended_whole
    extended_no_object t from says none =
        from_says w place Nothing extended_whole
        (ends_in w place 0 (max rank from) extended_whole (then_extended t) Nothing (to_object t from says)
        (is_rest w place (max rank from) (then_extended t) None (λ known c at.
        ap (option_and_then (λ fields. extended_rest (i + 1) (put_fields done fields) (program_of w) known c)) none)))

    pub extended_stop : Says w place Nothing extension → Says w place Nothing extended_whole
    extended_stop says =
        from_says w place Nothing extended_whole
        (stops w place 0 rank extended_whole (extended_rest i done) extension then_extended extended_step says goes)

    pub extended_open : Says w place Open extension → Says w place Open extended_whole
    extended_open says =
        from_says w place Open extended_whole
        (opens w place 0 rank extended_whole (extended_rest i done) extension then_extended extended_step says goes)

  pub extended_end
      : (i rank : ℕ) (done : List FieldData) → length nodes ≤ i → ExtendedGoes i rank done
      → Says w place (Found done rank) extended_whole
  extended_end i rank done l goes =
      from_says w place (Found done rank) extended_whole
      (ends_in w place 0 rank extended_whole (extended_rest i done) (Found done rank) goes
      (is_rest w place rank (extended_rest i done) (Some done) (λ known c at.
      ap (λ ns. extended (program_of w) known c (map type_tree ns) done) (drop_all nodes i l))))

-- ## Members of objects

module _ (w : World) (place : Place) (low : ℕ) (members : List MemberNode) (first : List FieldData) where
  abbrev pub object_whole : Answers TypeData
  object_whole p known c = object_after p known c (to_members (map member_tree members)) first

  abbrev pub object_rest : ℕ → List FieldData → Answers TypeData
  object_rest i done p known c = object_after p known c (to_members (map member_tree (drop i members))) done

  abbrev pub ObjectGoes : ℕ → ℕ → List FieldData → Type 0
  ObjectGoes i rank done = Goes w place low rank object_whole (object_rest i done)

  pub object_begin : ObjectGoes 0 low first
  object_begin = begins w place low object_whole

  module _ (i rank : ℕ) (done : List FieldData) (member : MemberNode) (l : i < length members)
      (e : member ≡ get_or members i member) (goes : ObjectGoes i rank done) where
    module _ (name : List ℕ) (optional : Bool) (node : TypeNode) (is : member_tree member ≡ tree.Property name optional (type_tree node)) where
      abbrev pub property : Answers TypeData
      property p known c = meant p known c (type_tree node)

      abbrev then_object : TypeData → Answers TypeData
      then_object u = object_rest (i + 1) (put_field done (record { name = name; optional = optional; type_data = u }))

      and_then_twice
          : {X Y Z : Type 0} (f : Y → Option Z) (g : X → Option Y) (a : Option X)
          → option_and_then f (option_and_then g a) ≡ option_and_then (λ (x : X). option_and_then f (g x)) a
      and_then_twice f g None = refl
      and_then_twice f g (Some x) = refl

      object_step : (p : ProgramData) (known : Known) (c : Context)
          → object_rest i done p known c ≡ option_and_then (λ u. then_object u p known c) (property p known c)
      unfolding fields_after
      object_step p known c =
          ap (λ ms. object_after p known c (to_members (map member_tree ms)) done) (drop_next members i member l e)
          ∙ ap (λ m. object_after p known c (tree.more_members m (to_members (map member_tree (drop (i + 1) members)))) done) is
          ∙ and_then_twice (λ fields. within_limit (object_type fields))
          (λ u. fields_after p known c (to_members (map member_tree (drop (i + 1) members)))
          (put_field done (record { name = name; optional = optional; type_data = u })))
          (property p known c)

      pub object_goes
          : (t : TypeData) (from new_rank : ℕ) (new : List FieldData) → Says w place (Found t from) property
          → new_rank ≡ max rank from
          → new ≡ put_field done (record { name = name; optional = optional; type_data = t }) → ObjectGoes (i + 1) new_rank new
      object_goes t from new_rank new says eq made =
          subst (λ (r : ℕ). ObjectGoes (i + 1) r new) (sym eq)
          (subst (λ (fs : List FieldData). ObjectGoes (i + 1) (max rank from) fs) (sym made)
          (goes_on w place low rank object_whole (object_rest i done) property then_object t from object_step says goes))

      pub object_stop : Says w place Nothing property → SaysFrom w place low Nothing object_whole
      object_stop says =
          stops w place low rank object_whole (object_rest i done) property then_object object_step says goes

      pub object_open : Says w place Open property → SaysFrom w place low Open object_whole
      object_open says =
          opens w place low rank object_whole (object_rest i done) property then_object object_step says goes

    -- a member that is a function
    pub object_method
        : (name : List ℕ) (optional : Bool) (parameters : tree.FieldTrees) (t : TypeTree)
        → member_tree member ≡ tree.Method name optional parameters t → SaysFrom w place low Nothing object_whole
    unfolding fields_after
    object_method name optional parameters t is =
        ends_in w place low rank object_whole (object_rest i done) Nothing goes
        (is_rest w place rank (object_rest i done) None (λ known c at.
        ap (λ ms. object_after (program_of w) known c (to_members (map member_tree ms)) done) (drop_next members i member l e)
        ∙ ap (λ m. object_after (program_of w) known c (tree.more_members m (to_members (map member_tree (drop (i + 1) members)))) done) is))

  -- more fields than nodes are allowed
  pub object_many
      : (i rank : ℕ) (done : List FieldData) → MAX_TYPE_NODES < length done → ObjectGoes i rank done
      → SaysFrom w place low Nothing object_whole
  object_many i rank done l goes =
      ends_in w place low rank object_whole (object_rest i done) Nothing goes
      (is_rest w place rank (object_rest i done) None (λ known c at.
      too_many_fields (program_of w) known c (to_members (map member_tree (drop i members))) done l))

  pub object_end
      : (i rank : ℕ) (done : List FieldData) → length members ≤ i → ObjectGoes i rank done
      → SaysFrom w place low (found_if (within_limit (object_type done)) rank) object_whole
  unfolding fields_after
  object_end i rank done l goes =
      ends_in w place low rank object_whole (object_rest i done) (found_if (within_limit (object_type done)) rank) goes
      (is_rest w place rank (object_rest i done) (within_limit (object_type done)) (λ known c at.
      ap (λ ms. object_after (program_of w) known c (to_members (map member_tree ms)) done) (drop_all members i l)))
