-- The types of expressions rise with what is known.
use Rattle.std.proofs.Common.{ℕ, ◌+◌, Bool, true, false, cond, List, [], ◌∷◌, Option, Some, None, refl, subst}
use Rattle.std.specs.List.{AllZip}
use Rattle.dscript_ast.specs.ExprTree.{ParamTree}
use Rattle.dscript_ast.specs.TypeTree.{TypeTree}
use Rattle.dscript_program.specs.BoundTree as tree
use Rattle.dscript_program.specs.BoundTree.{ExprData, OperandRow, PartRow, ExprRow, ElementRow, PropRow, HoleRow}
use Rattle.dscript_program.specs.BoundTree.{no_exprs, more_exprs, no_operands, more_operands, no_parts, more_parts}
use Rattle.dscript_program.specs.BoundTree.{no_elements, more_elements, no_props, more_props, no_holes, more_holes}
use Rattle.dscript_program.specs.ProgramData as declared
use Rattle.dscript_program.specs.ProgramData.{DeclData, FunctionData, KindData, ProgramData}
use Rattle.dscript_program.specs.declared.target.Target.{Target}
use Rattle.dscript_program.specs.declared.target.Target.TheVariants as targets
use Rattle.dscript_sdk_members.specs.Names.{member_named}
use Rattle.dscript_sdk_members.specs.declared.member.Member.{Member}
use Rattle.dscript_types_meaning.specs.Types.{TypeData, FieldData}
use Rattle.dscript_types_meaning.specs.Sizes.{within_limit}
use Rattle.dscript_types_meaning.specs.Unions.{if_optional, is_list_type, items_of}
use Rattle.dscript_types_meaning.specs.Fits.{fits}
use Rattle.dscript_types_meaning.specs.Narrowing.{following, narrowed, outcome_of}
use Rattle.dscript_types_meaning.specs.Contexts.{Answer, Callback, Constant, Context, Known, Standing, Types}
use Rattle.dscript_types_meaning.specs.Contexts.{no_type, stands}
use Rattle.dscript_types_meaning.specs.Lookups.{decl_at, function_at}
use Rattle.dscript_types_meaning.specs.Functions.{all_parameters, answer_at, answer_of_decl, answer_of_kind, answer_standing}
use Rattle.dscript_types_meaning.specs.Functions.{arrow_answer, callback_answer, callback_context, callback_type}
use Rattle.dscript_types_meaning.specs.Functions.{context_of, first_or_undefined, function_type, given_locals, given_parameter}
use Rattle.dscript_types_meaning.specs.Functions.{given_to, noted, parameter, parameters_fit, rest_of}
use Rattle.dscript_types_meaning.specs.Expressions.{Subject, Whole, Named, Function, Ambient, after, arguments, expr_type, fields}
use Rattle.dscript_types_meaning.specs.Expressions.{first_of, further_arguments, holes_fit, if_callback, is, items, literal_fits}
use Rattle.dscript_types_meaning.specs.Expressions.{member_call, named, named_decl, named_kind, operands, subject, subject_call}
use Rattle.dscript_types_meaning.specs.Expressions.{typed, whole, within}
use Rattle.dscript_types_laws.proofs.Rising.{Below, ContextBelow, KnownBelow, StandingBelow, TypesBelow, and_below}
use Rattle.dscript_types_laws.proofs.Rising.{below_itself, both_below, context_itself, gives_below, local_below, map_below}
use Rattle.dscript_types_laws.proofs.Rising.{needs_below, only_below, same_place, then_below}
use Rattle.dscript_types_meaning.specs.Objects.{spread_fields, write_fields}
use Rattle.dscript_types_laws.proofs.Pairs.{some_pair}
use Rattle.dscript_types_laws.proofs.RisingNotes.{callback_below, narrowed_below, noted_below, parameters_below}

pub none_itself : {X : Type 0} → TypesBelow (no_type {X = X}) no_type
none_itself = record { at = λ x bodies e. absurd cc }

stands_below : (a b : Standing) → StandingBelow a b → TypesBelow (stands a) (stands b)
stands_below a b below = record {
  at = λ u bodies e. let s = some_pair tt u (a ∷ []) bodies e in
      (b ∷ [], refl, subst (λ bs. AllZip StandingBelow bs (b ∷ [])) s.1 (below, tt));
}

whole_below : (s : Subject) → TypesBelow (whole s) (whole s)
whole_below (Whole t) = gives_below t
whole_below (Named t name) = only_below _ _ (below_itself _)
whole_below (Function file decl) = none_itself
whole_below (Ambient call) = none_itself

is_below : (t : TypeData) → TypesBelow (is t) (is t)
is_below t = gives_below (Whole t)

within_below : (t : TypeData) → TypesBelow (within t) (within t)
within_below t = then_below _ _ _ _ (only_below _ _ (below_itself (within_limit t))) is_below

typed_below : (m n : Types Subject) → TypesBelow m n → TypesBelow (typed m) (typed n)
typed_below m n below = then_below m n whole whole below whole_below

module _ (p : ProgramData) (k l : Known) (knows : KnownBelow k l) where
  -- ## Names

  kind_below : (file decl : ℕ) (kind : KindData) → TypesBelow (named_kind k file decl kind) (named_kind l file decl kind)
  kind_below file decl (declared.Const t e) =
      then_below _ _ _ _ (only_below _ _ (knows (Constant file decl) (Constant file decl) refl)) is_below
  kind_below file decl (declared.Function ts t number) = gives_below (Function file decl)
  kind_below file decl (declared.Interface ts es ms) = none_itself
  kind_below file decl (declared.TypeAlias ts t) = none_itself

  decl_below : (file decl : ℕ) (o : Option DeclData) → TypesBelow (named_decl k file decl o) (named_decl l file decl o)
  decl_below file decl None = none_itself
  decl_below file decl (Some d) = kind_below file decl d.kind

  named_below
      : (c d : Context) (target : Target) → ContextBelow c d → TypesBelow (named p k c target) (named p l d target)
  unfolding named
  named_below c d (targets.Local n) below = then_below _ _ _ _ (only_below _ _ (local_below c d n below)) is_below
  named_below c d (targets.Declared file decl) below = decl_below file decl (decl_at p file decl)
  named_below c d (targets.Ambient call) below = gives_below (Ambient call)

  -- ## Calls of declared functions

  fit_case : (b : Bool) (o q : Option TypeData) → Below o q → Below (cond b o None) (cond b q None)
  fit_case true o q below = below
  fit_case false o q below = below_itself None

  at_below
      : (file decl : ℕ) (c : Context) (given : List TypeData) (f : Option FunctionData)
      → Below (answer_at p k file decl c given f) (answer_at p l file decl c given f)
  at_below file decl c given None = below_itself None
  at_below file decl c given (Some f) =
      and_below (all_parameters p k c f.params) (all_parameters p l c f.params) _ _
      (parameters_below p k l knows c c (same_place (context_itself c)) f.params)
      (λ types. fit_case (parameters_fit types given) _ _ (knows (Answer file decl) (Answer file decl) refl))

  of_kind_below
      : (file decl : ℕ) (d : DeclData) (given : List TypeData) (kind : KindData)
      → Below (answer_of_kind p k file decl d given kind) (answer_of_kind p l file decl d given kind)
  of_kind_below file decl d given (declared.Const t e) = below_itself None
  of_kind_below file decl d given (declared.Function ts t number) =
      at_below file decl (context_of file d ts) given (function_at p number)
  of_kind_below file decl d given (declared.Interface ts es ms) = below_itself None
  of_kind_below file decl d given (declared.TypeAlias ts t) = below_itself None

  of_decl_below
      : (file decl : ℕ) (given : List TypeData) (o : Option DeclData)
      → Below (answer_of_decl p k file decl given o) (answer_of_decl p l file decl given o)
  of_decl_below file decl given None = below_itself None
  of_decl_below file decl given (Some d) = of_kind_below file decl d given d.kind

  function_below
      : (file decl : ℕ) (given : List TypeData) → Below (function_type p k file decl given) (function_type p l file decl given)
  unfolding function_type
  function_below file decl given = of_decl_below file decl given (decl_at p file decl)

  -- ## Callbacks

  given_below
      : (c d : Context) (param : ParamTree) (given : TypeData) (note : Option TypeTree) → ContextBelow c d
      → Below (given_parameter p k c param given note) (given_parameter p l d param given note)
  given_below c d param given None below = below_itself (within_limit (if_optional param.optional given))
  given_below c d param given (Some t) below =
      and_below (noted p k c param.optional t) (noted p l d param.optional t) _ _
      (noted_below p k l knows c d (same_place below) param.optional t) (λ u. fit_case (fits given u) _ _ (below_itself (Some u)))

  locals_below
      : (c d : Context) (n : ℕ) (params : List ParamTree) (given : List TypeData) → ContextBelow c d
      → Below (given_locals p k c n params given) (given_locals p l d n params given)
  locals_below c d n [] given below = below_itself (Some [])
  locals_below c d n (param ∷ more) given below =
      and_below _ _ _ _ (given_below c d param (first_or_undefined given) param.type_node below)
      (λ t. map_below _ _ (λ locals. parameter n (Some t) ∷ locals) (locals_below c d (n + 1) more (rest_of given) below))

  standing_below
      : (number : ℕ) (c d : Context) → ContextBelow c d → TypesBelow (answer_standing p k number c) (answer_standing p l number d)
  standing_below number c d below =
      both_below _ _ _ _ (stands_below _ _ (refl, below))
      (only_below _ _ (knows (Callback number c) (Callback number d) (refl, below)))

  arrow_below
      : (number : ℕ) (c d : Context) (given : List TypeData) (f : Option FunctionData) → ContextBelow c d
      → TypesBelow (arrow_answer p k number c given f) (arrow_answer p l number d given f)
  arrow_below number c d given None below = none_itself
  arrow_below number c d given (Some f) below =
      then_below _ _ _ _ (only_below _ _ (locals_below c d f.first_local f.params given below))
      (λ locals. standing_below number (callback_context c f locals) (callback_context d f locals)
      (callback_below c d f.captured locals below))

  called_back_below
      : (c d : Context) (callback : Option ExprData) (given : List TypeData) → ContextBelow c d
      → TypesBelow (callback_answer p k c callback given) (callback_answer p l d callback given)
  unfolding callback_answer
  called_back_below c d None given below = none_itself
  called_back_below c d (Some (tree.Arrow number)) given below = arrow_below number c d given (function_at p number) below
  called_back_below c d (Some (tree.Name (targets.Declared file decl))) given below =
      only_below _ _ (function_below file decl given)
  called_back_below c d (Some _) given below = none_itself

  callback_type_below
      : (m : Member) (c d : Context) (t : TypeData) (callback : Option ExprData) (further : List TypeData)
      → ContextBelow c d
      → TypesBelow (callback_type p k m c t callback further) (callback_type p l m d t callback further)
  unfolding callback_type
  callback_type_below m c d t callback further below =
      both_below _ _ _ _ (needs_below (is_list_type t))
      (then_below _ _ _ _ (only_below _ _ (below_itself (given_to m (items_of t) further)))
      (λ given. then_below _ _ _ _ (called_back_below c d callback given below)
      (λ answer. only_below _ _ (below_itself _))))

  -- ## Calls

  member_call_below
      : (c d : Context) (t : TypeData) (name : List ℕ) (first : Option ExprData) (all allowed further others : Types (List TypeData))
      (m : Option Member) → ContextBelow c d → TypesBelow all allowed → TypesBelow further others
      → TypesBelow (member_call p k c t name first all further m) (member_call p l d t name first allowed others m)
  member_call_below c d t name first all allowed further others None below more rest =
      then_below _ _ _ _ more (λ given. only_below _ _ (below_itself _))
  member_call_below c d t name first all allowed further others (Some m) below more rest =
      then_below _ _ _ _ rest (λ given. callback_type_below m c d t first given below)

  subject_call_below
      : (c d : Context) (first : Option ExprData) (all allowed further others : Types (List TypeData)) (s : Subject)
      → ContextBelow c d → TypesBelow all allowed → TypesBelow further others
      → TypesBelow (subject_call p k c first all further s) (subject_call p l d first allowed others s)
  unfolding subject_call
  subject_call_below c d first all allowed further others (Whole t) below more rest = none_itself
  subject_call_below c d first all allowed further others (Named t name) below more rest =
      member_call_below c d t name first all allowed further others (if_callback (member_named name)) below more rest
  subject_call_below c d first all allowed further others (Function file decl) below more rest =
      then_below _ _ _ _ more (λ given. only_below _ _ (function_below file decl given))
  subject_call_below c d first all allowed further others (Ambient call) below more rest =
      then_below _ _ _ _ more (λ given. only_below _ _ (below_itself _))

  -- ## Expressions

  following_below
      : (outcome : Option Bool) (left : ExprData) (c d : Context) → ContextBelow c d
      → ContextBelow (following outcome left c) (following outcome left d)
  following_below None left c d below = below
  following_below (Some outcome) left c d below = narrowed_below c d outcome left below

  mutual
    unfolding subject operands after arguments further_arguments items fields holes_fit literal_fits

    pub subject_below
        : (e : ExprData) (c d : Context) → ContextBelow c d → TypesBelow (subject p k c e) (subject p l d e)
    subject_below (tree.Number n) c d below = is_below _
    subject_below (tree.Str text) c d below = is_below _
    subject_below tree.True c d below = is_below _
    subject_below tree.False c d below = is_below _
    subject_below tree.Undefined c d below = is_below _
    subject_below (tree.Template text holes) c d below = both_below _ _ _ _ (holes_below holes c d _ below) (is_below _)
    subject_below (tree.Path letter text holes) c d below = both_below _ _ _ _ (literal_below holes c d _ below) (is_below _)
    subject_below (tree.Elements es) c d below = then_below _ _ _ _ (items_below es c d below) (λ ts. within_below _)
    subject_below (tree.Object ps) c d below = then_below _ _ _ _ (fields_below ps c d [] below) (λ fs. within_below _)
    subject_below (tree.Name target) c d below = named_below c d target below
    subject_below (tree.Arrow number) c d below = none_itself
    subject_below (tree.Cond x a b) c d below =
        both_below _ _ _ _ (typed_below _ _ (subject_below x c d below))
        (then_below _ _ _ _ (typed_below _ _ (subject_below a (narrowed true x c) (narrowed true x d) (narrowed_below c d true x below)))
        (λ t. then_below _ _ _ _
        (typed_below _ _ (subject_below b (narrowed false x c) (narrowed false x d) (narrowed_below c d false x below)))
        (λ u. within_below _)))
    subject_below (tree.Chain e more) c d below =
        then_below _ _ _ _ (typed_below _ _ (subject_below e c d below)) (λ t. operands_below more (outcome_of more) c d e t below)
    subject_below (tree.Unary ops e) c d below =
        then_below _ _ _ _ (typed_below _ _ (subject_below e c d below))
        (λ t. then_below _ _ _ _ (only_below _ _ (below_itself _)) is_below)
    subject_below (tree.Postfix e parts) c d below =
        then_below _ _ _ _ (subject_below e c d below) (λ s. after_below parts c d s below)

    operands_below
        : (more : OperandRow) (outcome : Option Bool) (c d : Context) (left : ExprData) (t : TypeData) → ContextBelow c d
        → TypesBelow (operands p k outcome c left more t) (operands p l outcome d left more t)
    operands_below no_operands outcome c d left t below = is_below t
    operands_below (more_operands (tree.Operand op e) more) outcome c d left t below =
        then_below _ _ _ _ (typed_below _ _ (subject_below e (following outcome left c) (following outcome left d) (following_below outcome left c d below)))
        (λ u. then_below _ _ _ _ (only_below _ _ (below_itself _))
        (λ answer. operands_below more outcome (following outcome left c) (following outcome left d) e answer (following_below outcome left c d below)))

    after_below
        : (parts : PartRow) (c d : Context) (s : Subject) → ContextBelow c d
        → TypesBelow (after p k c parts s) (after p l d parts s)
    after_below no_parts c d s below = gives_below s
    after_below (more_parts (tree.Member name) more) c d s below =
        then_below _ _ _ _ (whole_below s) (λ t. after_below more c d (Named t name) below)
    after_below (more_parts (tree.Index e) more) c d s below =
        then_below _ _ _ _ (whole_below s) (λ t. then_below _ _ _ _ (typed_below _ _ (subject_below e c d below))
        (λ u. then_below _ _ _ _ (only_below _ _ (below_itself _)) (λ answer. after_below more c d (Whole answer) below)))
    after_below (more_parts (tree.Call es) more) c d s below =
        then_below _ _ _ _
        (subject_call_below c d (first_of es) _ _ _ _ s below (arguments_below es c d below) (further_below es c d below))
        (λ answer. after_below more c d (Whole answer) below)

    arguments_below
        : (es : ExprRow) (c d : Context) → ContextBelow c d → TypesBelow (arguments p k c es) (arguments p l d es)
    arguments_below no_exprs c d below = gives_below []
    arguments_below (more_exprs e more) c d below =
        then_below _ _ _ _ (typed_below _ _ (subject_below e c d below))
        (λ t. then_below _ _ _ _ (arguments_below more c d below) (λ ts. gives_below (t ∷ ts)))

    further_below
        : (es : ExprRow) (c d : Context) → ContextBelow c d
        → TypesBelow (further_arguments p k c es) (further_arguments p l d es)
    further_below no_exprs c d below = gives_below []
    further_below (more_exprs e more) c d below = arguments_below more c d below

    items_below : (es : ElementRow) (c d : Context) → ContextBelow c d → TypesBelow (items p k c es) (items p l d es)
    items_below no_elements c d below = gives_below []
    items_below (more_elements (tree.Element false e) more) c d below =
        then_below _ _ _ _ (typed_below _ _ (subject_below e c d below))
        (λ t. then_below _ _ _ _ (items_below more c d below) (λ ts. gives_below (t ∷ ts)))
    items_below (more_elements (tree.Element true e) more) c d below =
        then_below _ _ _ _ (typed_below _ _ (subject_below e c d below))
        (λ t. both_below _ _ _ _ (needs_below (is_list_type t))
        (then_below _ _ _ _ (items_below more c d below) (λ ts. gives_below (items_of t ∷ ts))))

    fields_below
        : (ps : PropRow) (c d : Context) (done : List FieldData) → ContextBelow c d
        → TypesBelow (fields p k c ps done) (fields p l d ps done)
    fields_below no_props c d done below = gives_below done
    fields_below (more_props (tree.Named name e) more) c d done below =
        then_below _ _ _ _ (typed_below _ _ (subject_below e c d below)) (λ t. fields_below more c d _ below)
    fields_below (more_props (tree.Quoted name e) more) c d done below =
        then_below _ _ _ _ (typed_below _ _ (subject_below e c d below)) (λ t. fields_below more c d _ below)
    fields_below (more_props (tree.Short name target) more) c d done below =
        then_below _ _ _ _ (typed_below _ _ (named_below c d target below)) (λ t. fields_below more c d _ below)
    fields_below (more_props (tree.Spread e) more) c d done below =
        then_below _ _ _ _ (typed_below _ _ (subject_below e c d below))
        (λ t. then_below {X = List FieldData} _ _ _ _ (only_below _ _ (below_itself (spread_fields t)))
        (λ fs. then_below _ _ _ _ (only_below _ _ (below_itself (write_fields done fs)))
        (λ now. fields_below more c d now below)))

    holes_below
        : (holes : HoleRow) (c d : Context) (allowed : TypeData) → ContextBelow c d
        → TypesBelow (holes_fit p k c allowed holes) (holes_fit p l d allowed holes)
    holes_below no_holes c d allowed below = gives_below tt
    holes_below (more_holes (tree.Hole e text) more) c d allowed below =
        then_below _ _ _ _ (typed_below _ _ (subject_below e c d below))
        (λ t. both_below _ _ _ _ (needs_below (fits t allowed)) (holes_below more c d allowed below))

    literal_below
        : (holes : HoleRow) (c d : Context) (allowed : TypeData) → ContextBelow c d
        → TypesBelow (literal_fits p k c allowed holes) (literal_fits p l d allowed holes)
    literal_below no_holes c d allowed below = gives_below tt
    literal_below (more_holes (tree.Hole e text) more) c d allowed below =
        then_below _ _ _ _ (typed_below _ _ (subject_below e c d below))
        (λ t. both_below _ _ _ _ (needs_below (fits t allowed)) (holes_below more c d _ below))

  pub expr_below
      : (e : ExprData) (c d : Context) → ContextBelow c d → TypesBelow (expr_type p k c e) (expr_type p l d e)
  expr_below e c d below = typed_below _ _ (subject_below e c d below)
