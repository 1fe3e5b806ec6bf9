-- In types no name is met.
use Rattle.std.proofs.Common.{ℕ, zero, suc, List, [], ◌∷◌}
use Rattle.dscript_ast.specs.TypeTree as types
use Rattle.dscript_ast.specs.TypeTree.{TypeTree, FieldTree, MemberTree, TypeTrees, types_of, fields_of, members_of}
use Rattle.dscript_ast.specs.ExprTree.{ParamTree}
use Rattle.dscript_grammar.specs.ExprGrammar.{param, params, type_note}
use Rattle.dscript_grammar.specs.Language.{Language, identifier, name, punctuator, ◌⋅◌, times}
use Rattle.dscript_grammar.specs.TypeGrammar.{any_type, arguments, body, field, member, member_end, type_at, type_node, union}
use Rattle.dscript_names_laws.proofs.Occurring.{Meets, meets_after, meets_either, meets_given, meets_never, meets_nothing, meets_token, skips_flag, skips_list, skips_many, skips_name, skips_optional, skips_separated}

skips_times : (n : ℕ) (A : Language) → Meets [] A → Meets [] (times n A)
skips_times zero A h = meets_nothing
skips_times (suc n) A h = meets_after h (skips_times n A h)

skips_word : (w : List ℕ) → Meets [] (name w)
skips_word w = meets_token _

module _ (type : ℕ → TypeTree → Language) (each : (l : ℕ) (t : TypeTree) → Meets [] (type l t)) where
  skips_union : (ts : List TypeTree) → Meets [] (union type ts)
  skips_union [] = meets_never []
  skips_union (t ∷ []) = each _ t
  skips_union (t ∷ u ∷ more) = meets_after (each _ t) (meets_after (meets_token _) (skips_union (u ∷ more)))

  skips_arguments : (ts : TypeTrees) → Meets [] (arguments type ts)
  skips_arguments types.no_types = meets_nothing
  skips_arguments (types.more_types t more) =
      meets_after (meets_token _)
      (meets_after (skips_separated (type any_type) (each any_type) "," (t ∷ types_of more)) (meets_token _))

  skips_field : (f : FieldTree) → Meets [] (field type f)
  skips_field (types.Field x optional t) =
      meets_after (skips_name x) (meets_after (skips_flag "?" optional) (meets_after (meets_token _) (each any_type t)))

  skips_member : (m : MemberTree) → Meets [] (member type m)
  skips_member (types.Property x optional t) =
      meets_after (skips_word x) (meets_after (skips_flag "?" optional) (meets_after (meets_token _) (each any_type t)))
  skips_member (types.Method x optional fields t) =
      meets_after (skips_word x) (meets_after (skips_flag "?" optional) (meets_after (meets_token _)
      (meets_after (skips_list (field type) skips_field (fields_of fields))
      (meets_after (meets_token _) (meets_after (meets_token _) (each any_type t))))))

  skips_end : Meets [] member_end
  skips_end = meets_either (meets_token _) (meets_either (meets_token _) meets_nothing)

  pub skips_body : (ms : List MemberTree) → Meets [] (body type ms)
  skips_body ms =
      meets_after (meets_token _)
      (meets_after (skips_many (λ m. member type m ⋅ member_end) (λ m. meets_after (skips_member m) skips_end) ms) (meets_token _))

  skips_node : (t : TypeTree) → Meets [] (type_node type t)
  skips_node (types.Union ts) = meets_given (skips_union (types_of ts))
  skips_node (types.Array t n) =
      meets_given (meets_after (each _ t) (skips_times n (punctuator "[" ⋅ punctuator "]") (meets_after (meets_token _) (meets_token _))))
  skips_node (types.Named names args) = meets_after (skips_separated identifier skips_name "." names) (skips_arguments args)
  skips_node (types.Str s) = meets_token _
  skips_node (types.Number n) = meets_token _
  skips_node types.Undefined = meets_token _
  skips_node types.True = meets_token _
  skips_node types.False = meets_token _
  skips_node (types.Body members) = skips_body (members_of members)
  skips_node (types.Function fields t) =
      meets_after (meets_token _) (meets_after (skips_list (field type) skips_field (fields_of fields))
      (meets_after (meets_token _) (meets_after (meets_token _) (each any_type t))))

pub skips_type : (h l : ℕ) (t : TypeTree) → Meets [] (type_at h l t)
unfolding type_at
skips_type zero l t = meets_never []
skips_type (suc h) l t =
    meets_either (meets_given (skips_node (type_at h) (skips_type h) t))
    (meets_after (meets_token _) (meets_after (skips_type h any_type t) (meets_token _)))

pub skips_note : (h : ℕ) (t : TypeTree) → Meets [] (type_note h t)
skips_note h t = meets_after (meets_token _) (skips_type h any_type t)

skips_param : (h : ℕ) (p : ParamTree) → Meets [] (param h p)
skips_param h p =
    meets_after (skips_name p.name) (meets_after (skips_flag "?" p.optional) (skips_optional (type_note h) (skips_note h) p.type_node))

pub skips_params : (h : ℕ) (ps : List ParamTree) → Meets [] (params h ps)
skips_params h ps = meets_after (meets_token _) (meets_after (skips_list (param h) (skips_param h) ps) (meets_token _))
