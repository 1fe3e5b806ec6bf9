-- What written types mean, where what their parts mean is found.
use Rattle.std.proofs.Common.{◌≡◌, ℕ, ◌<◌, Bool, true, false, if◌then◌else◌, List, [], ◌∷◌, Option, Some, None, refl, ap, sym, subst, ◌∙◌}
use Rattle.std.specs.Option.{option_and_then}
use Rattle.dscript_ast.specs.TypeTree as tree
use Rattle.dscript_ast.specs.TypeTree.{MemberTree, TypeTree, TypeTrees, to_members}
use Rattle.dscript_program.specs.ProgramData as declared
use Rattle.dscript_program.specs.ProgramData.{Dotted, ProgramData}
use Rattle.dscript_types_known.specs.Findings.{Finding, Found, Nothing, Open}
use Rattle.dscript_types_known.specs.Tables.{entry}
use Rattle.dscript_types_known.specs.declared.finding.Finding.{Finding as AnyFinding}
use Rattle.dscript_types_meaning.specs.Annotations.{all_meant, at_place, declared_or_known, declared_type, extended, is_parameter, lists_of, meant, named_type, undeclared}
use Rattle.dscript_types_meaning.specs.Contexts.{Context, Known}
use Rattle.dscript_types_meaning.specs.Functions.{noted}
use Rattle.dscript_types_meaning.specs.Lookups.{Place as Found_at, found_type}
use Rattle.dscript_types_meaning.specs.Sizes.{within_limit}
use Rattle.dscript_types_meaning.specs.Types.{FieldData, TypeData}
use Rattle.dscript_types_meaning.specs.Unions.{if_optional, join_all}
use Rattle.dscript_types_meaning.specs.declared.limits.TheConstants.{MAX_TYPE_NODES}
use Rattle.dscript_types_notes.specs.Means.{IsAt, IsSound, Says, SaysFrom, found_if, limited_data, meant_at, object_after, program_of, raised}
use Rattle.dscript_types_notes.specs.declared.world.Place.{Place}
use Rattle.dscript_types_notes.specs.declared.world.World.{World}
use Rattle.dscript_types_notes.proofs.Going.{Answers, is_rest, step_ends, step_found, step_opens, step_stops}
use Rattle.dscript_types_notes.proofs.Large.{too_many_lists}
use Rattle.dscript_types_notes.proofs.Naming.{found_is}
use Rattle.dscript_types_notes.proofs.Parts.{declared_says}

-- a finding, as it is seen
pub seen_as
    : {X Y : Type 0} (w : World) (place : Place) (view : AnyFinding Y → Finding X) (answer : Answers X) (x y : AnyFinding Y)
    → x ≡ y → Says w place (view x) answer → Says w place (view y) answer
seen_as {X} {Y} w place view answer x y e says = subst (λ (z : AnyFinding Y). Says w place (view z) answer) e says

module _ (w : World) (place : Place) where
  -- ## Unions

  module _ (ts : TypeTrees) where
    abbrev pub all_of : Answers (List TypeData)
    all_of p known c = all_meant p known c ts

    abbrev union_of : Answers TypeData
    union_of p known c = meant p known c (tree.Union ts)

    abbrev joined : List TypeData → Answers TypeData
    joined us p known c = within_limit (join_all us)

    union_is : (p : ProgramData) (known : Known) (c : Context)
        → union_of p known c ≡ option_and_then (λ us. joined us p known c) (all_of p known c)
    unfolding meant
    union_is p known c = refl

    pub union_found
        : (types : List TypeData) (rank : ℕ) (u : TypeData) (f : Finding TypeData) → Says w place (Found types rank) all_of
        → u ≡ join_all types → f ≡ found_if (within_limit u) rank → Says w place f union_of
    union_found types rank u f says is limited =
        subst (λ (g : Finding TypeData). Says w place g union_of)
        (sym (limited ∙ ap (λ (v : TypeData). found_if (within_limit v) rank) is))
        (step_ends w place union_of all_of joined union_is types rank (within_limit (join_all types)) says (λ known c at. refl))

    pub union_nothing : Says w place Nothing all_of → Says w place Nothing union_of
    union_nothing says = step_stops w place union_of all_of joined union_is says

    pub union_open : Says w place Open all_of → Says w place Open union_of
    union_open says = step_opens w place union_of all_of joined union_is says

  -- ## Lists

  module _ (t : TypeTree) (count : ℕ) where
    abbrev pub item_meant : Answers TypeData
    item_meant p known c = meant p known c t

    abbrev array_of : Answers TypeData
    array_of p known c = meant p known c (tree.Array t count)

    abbrev listed : TypeData → Answers TypeData
    listed u p known c = within_limit (lists_of count u)

    array_is : (p : ProgramData) (known : Known) (c : Context)
        → array_of p known c ≡ option_and_then (λ u. listed u p known c) (item_meant p known c)
    unfolding meant
    array_is p known c = refl

    pub array_found
        : (item : TypeData) (rank : ℕ) (u : TypeData) (f : Finding TypeData) → Says w place (Found item rank) item_meant
        → u ≡ lists_of count item → f ≡ found_if (within_limit u) rank → Says w place f array_of
    array_found item rank u f says is limited =
        subst (λ (g : Finding TypeData). Says w place g array_of)
        (sym (limited ∙ ap (λ (v : TypeData). found_if (within_limit v) rank) is))
        (step_ends w place array_of item_meant listed array_is item rank (within_limit (lists_of count item)) says (λ known c at. refl))

    pub array_nothing : Says w place Nothing item_meant → Says w place Nothing array_of
    array_nothing says = step_stops w place array_of item_meant listed array_is says

    pub array_open : Says w place Open item_meant → Says w place Open array_of
    array_open says = step_opens w place array_of item_meant listed array_is says

    pub array_many : MAX_TYPE_NODES < count → Says w place Nothing array_of
    array_many l = λ n more c below within at. array_is _ _ c ∙ too_many_lists count (item_meant _ _ c) l

  -- ## Names

  module _ (names : Dotted) (ts : TypeTrees) where
    abbrev pub arguments_of : Answers (List TypeData)
    arguments_of p known c = all_meant p known c ts

    abbrev name_of : Answers TypeData
    name_of p known c = meant p known c (tree.Named names ts)

    abbrev pub named : List TypeData → Answers TypeData
    named us p known c = option_and_then within_limit (named_type p known c names us)

    name_is : (p : ProgramData) (known : Known) (c : Context)
        → name_of p known c ≡ option_and_then (λ us. named us p known c) (arguments_of p known c)
    unfolding meant
    name_is p known c = refl

    pub named_found
        : (types : List TypeData) (rank : ℕ) (f : Finding TypeData) → Says w place (Found types rank) arguments_of
        → SaysFrom w place rank f (named types) → Says w place f name_of
    named_found types rank f says after = step_found w place name_of arguments_of named name_is types rank f says after

    pub named_nothing : Says w place Nothing arguments_of → Says w place Nothing name_of
    named_nothing says = step_stops w place name_of arguments_of named name_is says

    pub named_open : Says w place Open arguments_of → Says w place Open name_of
    named_open says = step_opens w place name_of arguments_of named name_is says

  -- the type of a name at types of its arguments
  module _ (names : Dotted) (types : List TypeData) (rank : ℕ) where
    abbrev pub named_at : Answers TypeData
    named_at p known c = option_and_then within_limit (named_type p known c names types)

    named_if : (known : Known) (c : Context) (parameter : Bool) → IsAt place c → parameter ≡ is_parameter place.parameters.now names
        → named_type (program_of w) known c names types
        ≡ (if parameter then None else declared_or_known known (found_type (program_of w) c.file c.around names) names types)
    named_if known c parameter at is =
        ap (λ (b : Bool). if b then None else declared_or_known known (found_type (program_of w) c.file c.around names) names types)
        (ap (λ (ps : List (List ℕ)). is_parameter ps names) at.parameters ∙ sym is)

    pub named_parameter : true ≡ is_parameter place.parameters.now names → SaysFrom w place rank Nothing named_at
    named_parameter is =
        is_rest w place rank named_at None
        (λ known c at. ap (option_and_then within_limit) (named_if known c true at is))

    -- no parameter
    module _ (none : false ≡ is_parameter place.parameters.now names) where
      named_by
          : (known : Known) (c : Context) (o : Option (Found_at × Dotted)) → IsAt place c
          → o ≡ found_type (program_of w) place.file place.around.now names
          → named_type (program_of w) known c names types ≡ declared_or_known known o names types
      named_by known c o at is =
          named_if known c false at none
          ∙ ap (λ (a : Dotted). declared_or_known known (found_type (program_of w) c.file a names) names types) at.around
          ∙ ap (λ (a : ℕ). declared_or_known known (found_type (program_of w) a place.around.now names) names types) at.file
          ∙ ap (λ (q : Option (Found_at × Dotted)). declared_or_known known q names types) (sym is)

      pub named_undeclared
          : (o : Option TypeData) (f : Finding TypeData) → None ≡ found_type (program_of w) place.file place.around.now names
          → o ≡ undeclared names types → f ≡ found_if (option_and_then within_limit o) rank → SaysFrom w place rank f named_at
      named_undeclared o f nowhere is limited =
          subst (λ (g : Finding TypeData). SaysFrom w place rank g named_at)
          (sym (limited ∙ ap (λ (q : Option TypeData). found_if (option_and_then within_limit q) rank) is))
          (is_rest w place rank named_at (option_and_then within_limit (undeclared names types))
          (λ known c at. ap (option_and_then within_limit) (named_by known c None at nowhere)))

      -- something is left over of the name, or there are arguments
      pub named_too_long
          : (found : Found_at × Dotted) → Some found ≡ found_type (program_of w) place.file place.around.now names
          → ((known : Known) → at_place known found.0 found.1 types ≡ None) → SaysFrom w place rank Nothing named_at
      named_too_long found is none_at =
          is_rest w place rank named_at None
          (λ known c at. ap (option_and_then within_limit) (named_by known c (Some found) at is ∙ none_at known))

  pub named_declared
      : (names : Dotted) (rank file decl : ℕ) (f : Finding TypeData) → IsSound w → false ≡ is_parameter place.parameters.now names
      → Some ((file, decl), []) ≡ found_type (program_of w) place.file place.around.now names
      → f ≡ raised rank (limited_data (entry w.table.now file decl))
      → SaysFrom w place rank f (named_at names [] rank)
  named_declared names rank file decl f sound none is raises =
      subst (λ (g : Finding TypeData). SaysFrom w place rank g (named_at names [] rank)) (sym raises)
      (declared_says w place rank file decl names sound
      (found_is (program_of w) place.file place.around.now names ((file, decl), []) (sym is))
      (λ known c at. named_by names [] rank none known c (Some ((file, decl), [])) at is))

  -- what is found by a name
  pub named_found_at
      : (names : Dotted) (types : List TypeData) (rank : ℕ) (at : Found_at) (rest : Dotted) (f : Finding TypeData) → IsSound w
      → false ≡ is_parameter place.parameters.now names
      → Some (at, rest) ≡ found_type (program_of w) place.file place.around.now names
      → f ≡ meant_at w.table.now at rest types rank → SaysFrom w place rank f (named_at names types rank)
  named_found_at names [] rank at [] f sound none is means = named_declared names rank at.0 at.1 f sound none is means
  named_found_at names (t ∷ types) rank at [] f sound none is means =
      subst (λ (g : Finding TypeData). SaysFrom w place rank g (named_at names (t ∷ types) rank)) (sym means)
      (named_too_long names (t ∷ types) rank none (at, []) is (λ known. refl))
  named_found_at names types rank at (x ∷ rest) f sound none is means =
      subst (λ (g : Finding TypeData). SaysFrom w place rank g (named_at names types rank)) (sym means)
      (named_too_long names types rank none (at, x ∷ rest) is (λ known. refl))

  -- ## What may be undefined too

  module _ (optional : Bool) (t : TypeTree) where
    abbrev pub note_meant : Answers TypeData
    note_meant p known c = meant p known c t

    abbrev note_of : Answers TypeData
    note_of p known c = noted p known c optional t

    abbrev with_option : TypeData → Answers TypeData
    with_option u p known c = within_limit (if_optional optional u)

    pub noted_found
        : (item : TypeData) (rank : ℕ) (u : TypeData) (f : Finding TypeData) → Says w place (Found item rank) note_meant
        → u ≡ if_optional optional item → f ≡ found_if (within_limit u) rank → Says w place f note_of
    noted_found item rank u f says is limited =
        subst (λ (g : Finding TypeData). Says w place g note_of)
        (sym (limited ∙ ap (λ (v : TypeData). found_if (within_limit v) rank) is))
        (step_ends w place note_of note_meant with_option (λ p known c. refl) item rank (within_limit (if_optional optional item)) says
        (λ known c at. refl))

    pub noted_nothing : Says w place Nothing note_meant → Says w place Nothing note_of
    noted_nothing says = step_stops w place note_of note_meant with_option (λ p known c. refl) says

    pub noted_open : Says w place Open note_meant → Says w place Open note_of
    noted_open says = step_opens w place note_of note_meant with_option (λ p known c. refl) says

  -- ## Interfaces

  module _ (es : List TypeTree) (ms : List MemberTree) where
    abbrev pub extension_of : Answers (List FieldData)
    extension_of p known c = extended p known c es []

    abbrev interface_of : Answers TypeData
    interface_of p known c = declared_type p known c (declared.Interface [] es ms)

    abbrev pub own_of : List FieldData → Answers TypeData
    own_of fields p known c = object_after p known c (to_members ms) fields

    pub interface_found
        : (fields : List FieldData) (rank : ℕ) (f : Finding TypeData) → Says w place (Found fields rank) extension_of
        → SaysFrom w place rank f (own_of fields) → Says w place f interface_of
    interface_found fields rank f says after =
        step_found w place interface_of extension_of own_of (λ p known c. refl) fields rank f says after

    pub interface_nothing : Says w place Nothing extension_of → Says w place Nothing interface_of
    interface_nothing says = step_stops w place interface_of extension_of own_of (λ p known c. refl) says

    pub interface_open : Says w place Open extension_of → Says w place Open interface_of
    interface_open says = step_opens w place interface_of extension_of own_of (λ p known c. refl) says
