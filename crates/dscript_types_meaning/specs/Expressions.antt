-- The types of expressions.
--
-- An expression has a type where all its parts have one and its own rule is met. Where a function may stand,
-- which has no type, an expression comes to a subject.
use Rattle.std.specs.Prelude.{ℕ, Bool, true, false, if◌then◌else◌, List, [], ◌∷◌, Option, Some, None}
use Rattle.dscript_ast.specs.declared.expr.PathKind.{PathKind}
use Rattle.dscript_ast.specs.declared.expr.PathKind.TheVariants as letters
use Rattle.dscript_program.specs.BoundTree as tree
use Rattle.dscript_program.specs.BoundTree.{ExprData, OperandRow, PartRow, ExprRow, ElementRow, PropRow, HoleRow}
use Rattle.dscript_program.specs.BoundTree.{no_exprs, more_exprs, no_operands, more_operands, no_parts, more_parts}
use Rattle.dscript_program.specs.BoundTree.{no_elements, more_elements, no_props, more_props, no_holes, more_holes}
use Rattle.dscript_program.specs.ProgramData as declared
use Rattle.dscript_program.specs.ProgramData.{DeclData, KindData, ProgramData}
use Rattle.dscript_program.specs.declared.ambient.Ambient.{Ambient as AmbientCall}
use Rattle.dscript_program.specs.declared.target.Target.{Target}
use Rattle.dscript_program.specs.declared.target.Target.TheVariants as targets
use Rattle.dscript_sdk_members.specs.ListMembers.{is_callback}
use Rattle.dscript_sdk_members.specs.Names.{member_named}
use Rattle.dscript_sdk_members.specs.declared.member.Member.{Member}
use Rattle.dscript_types_meaning.specs.declared.kind.Kind.TheVariants as kinds
use Rattle.dscript_types_meaning.specs.Types.{TypeData, FieldData, kind_type, list_type, object_type}
use Rattle.dscript_types_meaning.specs.Sizes.{within_limit}
use Rattle.dscript_types_meaning.specs.Unions.{is_list_type, items_of, join, join_all, undefined_type}
use Rattle.dscript_types_meaning.specs.Fits.{fits}
use Rattle.dscript_types_meaning.specs.Objects.{holding, put_field, spread_fields, write_fields}
use Rattle.dscript_types_meaning.specs.Contexts.{Constant, Context, Known, Types, gives, local_type, needs}
use Rattle.dscript_types_meaning.specs.Contexts.{no_type, only, ◌>>=◌, ◌>>◌}
use Rattle.dscript_types_meaning.specs.Lookups.{decl_at}
use Rattle.dscript_types_meaning.specs.Narrowing.{following, narrowed, outcome_of}
use Rattle.dscript_types_meaning.specs.Operators.{boolean_type, leading_hole, literal_hole, number_type, operated}
use Rattle.dscript_types_meaning.specs.Operators.{prefixed, template_hole, text_type}
use Rattle.dscript_types_meaning.specs.Access.{indexed, member_type, method_type}
use Rattle.dscript_types_meaning.specs.Ambients.{ambient_type}
use Rattle.dscript_types_meaning.specs.Functions.{callback_type, function_type}

-- What an expression comes to: a value of a type, a member of such a value, a declared function, or an ambient
-- call. The last two, and members that are functions, are called at once or have no type.
pub data Subject : Type 0 where
  Whole : TypeData → Subject
  Named : TypeData → List ℕ → Subject
  Function : ℕ → ℕ → Subject
  Ambient : AmbientCall → Subject

-- the type of a subject as a value
abbrev pub whole : Subject → Types TypeData
whole (Whole t) = gives t
whole (Named t name) = only (member_type t name)
whole (Function file decl) = no_type
whole (Ambient call) = no_type

abbrev pub typed : Types Subject → Types TypeData
typed m = m >>= whole

abbrev pub is : TypeData → Types Subject
is t = gives (Whole t)

-- a type that is not too large
abbrev pub within : TypeData → Types Subject
within t = only (within_limit t) >>= is

-- ## Names

-- a constant has the type that is known of it, and an interface or an alias is no value
abbrev pub named_kind : Known → ℕ → ℕ → KindData → Types Subject
named_kind known file decl (declared.Const t e) = only (known (Constant file decl)) >>= is
named_kind known file decl (declared.Function ts t number) = gives (Function file decl)
named_kind known file decl (declared.Interface ts es ms) = no_type
named_kind known file decl (declared.TypeAlias ts t) = no_type

abbrev pub named_decl : Known → ℕ → ℕ → Option DeclData → Types Subject
named_decl known file decl None = no_type
named_decl known file decl (Some d) = named_kind known file decl d.kind

unfoldable pub named : ProgramData → Known → Context → Target → Types Subject
named p known c (targets.Local n) = only (local_type c n) >>= is
named p known c (targets.Declared file decl) = named_decl known file decl (decl_at p file decl)
named p known c (targets.Ambient call) = gives (Ambient call)

-- ## Calls

abbrev pub first_of : ExprRow → Option ExprData
first_of no_exprs = None
first_of (more_exprs e more) = Some e

abbrev pub if_callback : Option Member → Option Member
if_callback None = None
if_callback (Some member) = if is_callback member then Some member else None

-- the call of a member: of one that calls functions, whose first argument is its callback, or of another
abbrev pub member_call
    : ProgramData → Known → Context → TypeData → List ℕ → Option ExprData → Types (List TypeData)
    → Types (List TypeData) → Option Member → Types TypeData
member_call p known c t name first all further None = all >>= λ given. only (method_type t name given)
member_call p known c t name first all further (Some member) =
    further >>= λ given. callback_type p known member c t first given

-- The call of a subject, with its first argument, the types of all arguments, and those of the further ones. A
-- value is no function.
unfoldable pub subject_call
    : ProgramData → Known → Context → Option ExprData → Types (List TypeData) → Types (List TypeData)
    → Subject → Types TypeData
subject_call p known c first all further (Whole t) = no_type
subject_call p known c first all further (Named t name) =
    member_call p known c t name first all further (if_callback (member_named name))
subject_call p known c first all further (Function file decl) =
    all >>= λ given. only (function_type p known file decl given)
subject_call p known c first all further (Ambient call) = all >>= λ given. only (ambient_type call given)

-- ## Literals

-- the kind of a literal with a letter
abbrev pub letter_type : PathKind → TypeData
letter_type letters.Path = kind_type kinds.Path
letter_type letters.File = kind_type kinds.File
letter_type letters.Directory = kind_type kinds.Directory
letter_type letters.Relative = kind_type kinds.RelativePath
letter_type letters.Atom = kind_type kinds.PathAtom

-- what the first hole of a literal may hold, after a text: only at the very start of a path, a file or a directory
-- that is a base
abbrev pub first_hole : PathKind → List ℕ → TypeData
first_hole letters.Path [] = leading_hole
first_hole letters.File [] = leading_hole
first_hole letters.Directory [] = leading_hole
first_hole _ _ = literal_hole

-- ## Expressions

module _ (p : ProgramData) (known : Known) where
  unfoldable mutual
    pub subject : Context → ExprData → Types Subject
    -- literals
    subject c (tree.Number n) = is number_type
    subject c (tree.Str text) = is text_type
    subject c tree.True = is boolean_type
    subject c tree.False = is boolean_type
    subject c tree.Undefined = is undefined_type
    subject c (tree.Template text holes) = holes_fit c template_hole holes >> is text_type
    subject c (tree.Path letter text holes) = literal_fits c (first_hole letter text) holes >> is (letter_type letter)
    -- lists and objects
    subject c (tree.Elements es) = items c es >>= λ ts. within (list_type (join_all ts))
    subject c (tree.Object ps) = fields c ps [] >>= λ fs. within (object_type fs)
    -- names; a function that is no declaration stands only as a callback
    subject c (tree.Name target) = named p known c target
    subject c (tree.Arrow number) = no_type
    -- the union of the two sides, each under what the condition says
    subject c (tree.Cond x a b) =
        typed (subject c x) >> typed (subject (narrowed true x c) a) >>= λ t.
        typed (subject (narrowed false x c) b) >>= λ u. within (join t u)
    subject c (tree.Chain e more) = typed (subject c e) >>= λ t. operands (outcome_of more) c e more t
    subject c (tree.Unary ops e) = typed (subject c e) >>= λ t. only (prefixed ops t) >>= is
    subject c (tree.Postfix e parts) = subject c e >>= λ s. after c parts s

    -- The operands of a chain after one with this type, from left to right. Where each is evaluated only if all
    -- before it come out so, it stands under what they say.
    pub operands : Option Bool → Context → ExprData → OperandRow → TypeData → Types Subject
    operands outcome c left no_operands t = is t
    operands outcome c left (more_operands (tree.Operand op e) more) t =
        typed (subject (following outcome left c) e) >>= λ u. only (operated op t u) >>= λ answer.
        operands outcome (following outcome left c) e more answer

    -- the members, indices and calls after a subject
    pub after : Context → PartRow → Subject → Types Subject
    after c no_parts s = gives s
    after c (more_parts (tree.Member name) more) s = whole s >>= λ t. after c more (Named t name)
    after c (more_parts (tree.Index e) more) s =
        whole s >>= λ t. typed (subject c e) >>= λ u. only (indexed t u) >>= λ answer.
        after c more (Whole answer)
    after c (more_parts (tree.Call es) more) s =
        subject_call p known c (first_of es) (arguments c es) (further_arguments c es) s >>= λ answer.
        after c more (Whole answer)

    pub arguments : Context → ExprRow → Types (List TypeData)
    arguments c no_exprs = gives []
    arguments c (more_exprs e more) =
        typed (subject c e) >>= λ t. arguments c more >>= λ ts. gives (t ∷ ts)

    -- those after the first
    pub further_arguments : Context → ExprRow → Types (List TypeData)
    further_arguments c no_exprs = gives []
    further_arguments c (more_exprs e more) = arguments c more

    -- the types of items; a spread takes lists
    pub items : Context → ElementRow → Types (List TypeData)
    items c no_elements = gives []
    items c (more_elements (tree.Element false e) more) =
        typed (subject c e) >>= λ t. items c more >>= λ ts. gives (t ∷ ts)
    items c (more_elements (tree.Element true e) more) =
        typed (subject c e) >>= λ t. needs (is_list_type t) >> items c more >>= λ ts. gives (items_of t ∷ ts)

    -- the fields of an object after those before them; a spread takes objects and undefined
    pub fields : Context → PropRow → List FieldData → Types (List FieldData)
    fields c no_props done = gives done
    fields c (more_props (tree.Named name e) more) done =
        typed (subject c e) >>= λ t. fields c more (put_field done (holding name t))
    fields c (more_props (tree.Quoted name e) more) done =
        typed (subject c e) >>= λ t. fields c more (put_field done (holding name t))
    fields c (more_props (tree.Short name target) more) done =
        typed (named p known c target) >>= λ t. fields c more (put_field done (holding name t))
    fields c (more_props (tree.Spread e) more) done =
        typed (subject c e) >>= λ t. only (spread_fields t) >>= λ fs. only (write_fields done fs) >>= λ now.
        fields c more now

    -- each hole may hold values of this type
    pub holes_fit : Context → TypeData → HoleRow → Types (Unit {0})
    holes_fit c allowed no_holes = gives tt
    holes_fit c allowed (more_holes (tree.Hole e text) more) =
        typed (subject c e) >>= λ t. needs (fits t allowed) >> holes_fit c allowed more

    -- the first hole may hold values of this type
    pub literal_fits : Context → TypeData → HoleRow → Types (Unit {0})
    literal_fits c allowed no_holes = gives tt
    literal_fits c allowed (more_holes (tree.Hole e text) more) =
        typed (subject c e) >>= λ t. needs (fits t allowed) >> holes_fit c literal_hole more

  -- the type of an expression as a value
  abbrev pub expr_type : Context → ExprData → Types TypeData
  expr_type c e = typed (subject c e)
