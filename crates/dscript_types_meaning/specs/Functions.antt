-- The parameters of functions, and callbacks.
use Rattle.std.specs.Prelude.{ℕ, ◌+◌, Bool, true, false, if◌then◌else◌, List, [], ◌∷◌, ◌++◌}
use Rattle.std.specs.Prelude.{Option, Some, None}
use Rattle.std.specs.Option.{option_and_then, option_map}
use Rattle.dscript_ast.specs.ExprTree.{ParamTree}
use Rattle.dscript_ast.specs.TypeTree.{TypeTree}
use Rattle.dscript_program.specs.BoundTree as tree
use Rattle.dscript_program.specs.BoundTree.{ExprData}
use Rattle.dscript_program.specs.ProgramData as declared
use Rattle.dscript_program.specs.ProgramData.{DeclData, FunctionData, KindData, ProgramData}
use Rattle.dscript_program.specs.declared.target.Target.TheVariants as targets
use Rattle.dscript_sdk_members.specs.declared.member.Member.{Member}
use Rattle.dscript_sdk_members.specs.declared.member.Member.TheVariants as members
use Rattle.dscript_types_meaning.specs.Types.{TypeData, list_type, never}
use Rattle.dscript_types_meaning.specs.Sizes.{within_limit}
use Rattle.dscript_types_meaning.specs.Unions.{if_optional, is_list_type, is_never, items_of, undefined_type}
use Rattle.dscript_types_meaning.specs.Fits.{fits}
use Rattle.dscript_types_meaning.specs.Contexts.{Answer, Callback, Context, Fixed, Known, Local, Types}
use Rattle.dscript_types_meaning.specs.Contexts.{captured_locals, needs, no_type, only, stands, ◌>>=◌, ◌>>◌}
use Rattle.dscript_types_meaning.specs.Lookups.{around, decl_at, function_at}
use Rattle.dscript_types_meaning.specs.Annotations.{meant}
use Rattle.dscript_types_meaning.specs.Operators.{number_type}

-- the context of a declaration, before its locals
abbrev pub context_of : ℕ → DeclData → List (List ℕ) → Context
context_of file d parameters =
    record { file = file; around = around d.name; parameters = parameters; locals = [] }

-- ## Parameters

abbrev pub parameter : ℕ → Option TypeData → Local
parameter n t = record { number = n; type_data = t; hold = Fixed }

module _ (p : ProgramData) (known : Known) where
  -- what an annotation means; a parameter with `?` may hold undefined too
  abbrev pub noted : Context → Bool → TypeTree → Option TypeData
  noted c optional t = option_and_then (λ u. within_limit (if_optional optional u)) (meant p known c t)

  -- The type of a parameter of a declared function: without an annotation it has none.
  abbrev pub declared_parameter : Context → ParamTree → Option TypeData
  declared_parameter c param = option_and_then (noted c param.optional) param.type_node

  abbrev pub declared_locals : Context → ℕ → List ParamTree → List Local
  declared_locals c n [] = []
  declared_locals c n (param ∷ more) =
      parameter n (declared_parameter c param) ∷ declared_locals c (n + 1) more

  -- the context of the body of a declared function
  abbrev pub function_context : ℕ → DeclData → List (List ℕ) → FunctionData → Context
  function_context file d ts f =
      record (context_of file d ts) { locals = declared_locals (context_of file d ts) f.first_local f.params }

  -- the types of all parameters, if each has one
  abbrev pub all_parameters : Context → List ParamTree → Option (List TypeData)
  all_parameters c [] = Some []
  all_parameters c (param ∷ more) =
      option_and_then (λ t. option_map (λ ts. t ∷ ts) (all_parameters c more)) (declared_parameter c param)

-- Each parameter gets what is given, or undefined where nothing is, which must fit it; what is given beyond is free.
abbrev pub parameters_fit : List TypeData → List TypeData → Bool
parameters_fit [] given = true
parameters_fit (t ∷ more) [] = elim (fits undefined_type t) [
  | true ↦ parameters_fit more []
  | false ↦ false
]
parameters_fit (t ∷ more) (g ∷ given) = elim (fits g t) [
  | true ↦ parameters_fit more given
  | false ↦ false
]

-- ## What callbacks get

abbrev pub first_or_undefined : List TypeData → TypeData
first_or_undefined [] = undefined_type
first_or_undefined (g ∷ given) = g

abbrev pub rest_of : List TypeData → List TypeData
rest_of [] = []
rest_of (g ∷ given) = given

-- the context of the body of a callback, which sees the locals that it captures
abbrev pub callback_context : Context → FunctionData → List Local → Context
callback_context c f locals = record c { locals = locals ++ captured_locals f.captured c.locals }

-- ## Member functions that call functions

-- What a callback gets: an item and its number, and that of a reduction what has come so far before these, which
-- begins with the first of the further arguments.
abbrev pub given_to : Member → TypeData → List TypeData → Option (List TypeData)
given_to members.Reduce item [] = None
given_to members.Reduce item (start ∷ further) = Some (start ∷ item ∷ number_type ∷ [])
given_to _ item further = Some (item ∷ number_type ∷ [])

-- What the member gives where its callback answers this. What each step of a reduction answers must fit the start.
abbrev pub by_answer : Member → TypeData → List TypeData → TypeData → Option TypeData
by_answer members.Map item further answer = within_limit (list_type answer)
by_answer members.Filter item further answer = within_limit (list_type item)
by_answer members.MapMany item further answer =
    if is_list_type answer then within_limit (list_type (items_of answer)) else None
by_answer members.Reduce item (start ∷ further) answer = if fits answer start then Some start else None
by_answer _ item further answer = None

module _ (p : ProgramData) (known : Known) where
  -- ## Calls of declared functions

  -- what a declared function answers where this is given
  abbrev pub answer_at : ℕ → ℕ → Context → List TypeData → Option FunctionData → Option TypeData
  answer_at file decl c given None = None
  answer_at file decl c given (Some f) =
      option_and_then
      (λ types. if parameters_fit types given then known (Answer file decl) else None)
      (all_parameters p known c f.params)

  abbrev pub answer_of_kind : ℕ → ℕ → DeclData → List TypeData → KindData → Option TypeData
  answer_of_kind file decl d given (declared.Function ts t number) =
      answer_at file decl (context_of file d ts) given (function_at p number)
  answer_of_kind file decl d given _ = None

  abbrev pub answer_of_decl : ℕ → ℕ → List TypeData → Option DeclData → Option TypeData
  answer_of_decl file decl given None = None
  answer_of_decl file decl given (Some d) = answer_of_kind file decl d given d.kind

  unfoldable pub function_type : ℕ → ℕ → List TypeData → Option TypeData
  function_type file decl given = answer_of_decl file decl given (decl_at p file decl)

  -- ## Callbacks

  -- A parameter of a callback: what is given must fit its annotation, and is its type where it has none.
  abbrev pub given_parameter : Context → ParamTree → TypeData → Option TypeTree → Option TypeData
  given_parameter c param given None = within_limit (if_optional param.optional given)
  given_parameter c param given (Some t) =
      option_and_then (λ u. if fits given u then Some u else None) (noted p known c param.optional t)

  -- The parameters of a callback, of which those beyond what is given get undefined; none where one does not fit.
  abbrev pub given_locals : Context → ℕ → List ParamTree → List TypeData → Option (List Local)
  given_locals c n [] given = Some []
  given_locals c n (param ∷ more) given =
      option_and_then
      (λ t. option_map (λ locals. parameter n (Some t) ∷ locals) (given_locals c (n + 1) more (rest_of given)))
      (given_parameter c param (first_or_undefined given) param.type_node)

  -- what a function answers that stands as a callback; its body stands there too
  abbrev pub answer_standing : ℕ → Context → Types TypeData
  answer_standing number c = stands (record { number = number; context = c }) >> only (known (Callback number c))

  abbrev pub arrow_answer : ℕ → Context → List TypeData → Option FunctionData → Types TypeData
  arrow_answer number c given None = no_type
  arrow_answer number c given (Some f) =
      only (given_locals c f.first_local f.params given) >>= λ locals.
      answer_standing number (callback_context c f locals)

  -- A callback is a function that is no declaration, or a declared function.
  unfoldable pub callback_answer : Context → Option ExprData → List TypeData → Types TypeData
  callback_answer c (Some (tree.Arrow number)) given = arrow_answer number c given (function_at p number)
  callback_answer c (Some (tree.Name (targets.Declared file decl))) given =
      only (function_type file decl given)
  callback_answer c _ given = no_type

  -- The call of such a member of a type, all of whose values are lists. Members of `never` are never, whatever the
  -- callback answers.
  unfoldable pub callback_type : Member → Context → TypeData → Option ExprData → List TypeData → Types TypeData
  callback_type member c t callback further =
      needs (is_list_type t) >> only (given_to member (items_of t) further) >>= λ given.
      callback_answer c callback given >>= λ answer.
      only (if is_never t then Some never else by_answer member (items_of t) further answer)
