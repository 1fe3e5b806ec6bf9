-- Conditions and chains.
use Rattle.std.proofs.Common.{◌∙◌, ◌≡◌, ◌≤◌, ℕ, List, Option, ap, false, refl, sym, true}
use Rattle.dscript_ast.specs.declared.operator.BinaryOp.{BinaryOp}
use Rattle.dscript_ast.specs.declared.operator.UnaryOp.{UnaryOp}
use Rattle.dscript_program.specs.BoundTree.{ExprData}
use Rattle.dscript_program.specs.BoundTree as tree
use Rattle.dscript_program.specs.ProgramData.{ProgramData}
use Rattle.dscript_types_known.specs.declared.finding.Pending.{Pending}
use Rattle.dscript_types_meaning.specs.Contexts.{◌>>=◌, Context, Known, Types, only}
use Rattle.dscript_types_meaning.specs.Expressions.{expr_type, subject}
use Rattle.dscript_types_meaning.specs.Expressions as rules
use Rattle.dscript_types_meaning.specs.Narrowing.{narrowed}
use Rattle.dscript_types_meaning.specs.Operators.{operated, prefixed}
use Rattle.dscript_types_meaning.specs.Sizes.{within_limit}
use Rattle.dscript_types_meaning.specs.Typed.{known_within}
use Rattle.dscript_types_meaning.specs.Types.{TypeData}
use Rattle.dscript_types_meaning.specs.Unions.{join}
use Rattle.dscript_types_notes.specs.Means.{program_of}
use Rattle.dscript_types_notes.specs.declared.world.World.{World}
use Rattle.dscript_types_scenes.proofs.Going.{Going, both_seen, goes_on, opens, starts, stops}
use Rattle.dscript_types_scenes.proofs.Values.{ends_is, ends_only}
use Rattle.dscript_types_scenes.specs.Scenes.{Closed, GoesTo, Matches, TypesAs}
use Rattle.dscript_types_scenes.specs.Subjects.{is_whole, only_found}
use Rattle.dscript_types_scenes.specs.Typings.{subject_data}
use Rattle.dscript_types_scenes.specs.declared.found.Seen.{Seen}
use Rattle.dscript_types_scenes.specs.declared.found.Typing.TheVariants as typings
use Rattle.dscript_types_scenes.specs.declared.scene.Scene.{Scene}

abbrev pub typed_as : TypeData → TypeData
typed_as t = t

-- an expression as a value
abbrev pub value_of : ExprData → ProgramData → Known → Context → Types TypeData
value_of e p known c = expr_type p known c e

-- ## What there is only one part of

module _ (w : World) (scene : Scene) (e : ExprData) where
  -- operators before an operand
  module _ (ops : List UnaryOp) where
    abbrev unary : ProgramData → Known → Context → Types rules.Subject
    unary p known c = subject p known c (tree.Unary ops e)

    pub prefixes_found
        : (t : TypeData) (s : Seen) (o : Option TypeData) → TypesAs typed_as w scene (typings.Found t s) (value_of e)
        → o ≡ prefixed ops t → TypesAs subject_data w scene (is_whole (only_found o s)) unary
    unfolding subject
    prefixes_found t s o found is n more c below within m =
        let p = program_of w in let known = known_within p n in let closed = Closed w more in
        ends_is p closed n s (unary p known c) (only (prefixed ops t) >>= rules.is) o
        (starts p closed n typed_as t s (value_of e p known c) (λ u. only (prefixed ops u) >>= rules.is) (found n more c below within m))
        (ap (λ q. only q >>= rules.is) (sym is))

    pub prefixes_nothing : TypesAs typed_as w scene typings.Nothing (value_of e) → TypesAs subject_data w scene typings.Nothing unary
    unfolding subject
    prefixes_nothing found n more c below within m =
        ap (λ o. o >>= λ u. only (prefixed ops u) >>= rules.is) (found n more c below within m)

    pub prefixes_open
        : (a : Pending) → TypesAs typed_as w scene (typings.Open a) (value_of e) → TypesAs subject_data w scene (typings.Open a) unary
    unfolding subject
    prefixes_open a found n more c below within m = λ h.
        ap (λ o. o >>= λ u. only (prefixed ops u) >>= rules.is) (found n more c below within m h)

  -- an operand after a type
  module _ (op : BinaryOp) (t : TypeData) where
    abbrev pub operand_of : ProgramData → Known → Context → Types TypeData
    operand_of p known c = expr_type p known c e >>= λ u. only (operated op t u)

    pub operand_found
        : (u : TypeData) (s : Seen) (o : Option TypeData) → TypesAs typed_as w scene (typings.Found u s) (value_of e)
        → o ≡ operated op t u → TypesAs typed_as w scene (only_found o s) operand_of
    operand_found u s o found is n more c below within m =
        let p = program_of w in let known = known_within p n in let closed = Closed w more in
        ends_only p closed n s (operand_of p known c) (only (operated op t u)) o
        (starts p closed n typed_as u s (value_of e p known c) (λ v. only (operated op t v)) (found n more c below within m))
        (ap only (sym is))

    pub operand_nothing : TypesAs typed_as w scene typings.Nothing (value_of e) → TypesAs typed_as w scene typings.Nothing operand_of
    operand_nothing found n more c below within m =
        ap (λ o. o >>= λ v. only (operated op t v)) (found n more c below within m)

    pub operand_open
        : (a : Pending) → TypesAs typed_as w scene (typings.Open a) (value_of e) → TypesAs typed_as w scene (typings.Open a) operand_of
    operand_open a found n more c below within m = λ h.
        ap (λ o. o >>= λ v. only (operated op t v)) (found n more c below within m h)

-- ## Conditions

module _ (w : World) (scene : Scene) (x a b : ExprData) where
  abbrev cond_of : ProgramData → Known → Context → Types rules.Subject
  cond_of p known c = subject p known c (tree.Cond x a b)

  abbrev last_of : ProgramData → Known → Context → TypeData → Types rules.Subject
  last_of p known c t = expr_type p known (narrowed false x c) b >>= λ u. rules.within (join t u)

  abbrev sides_of : ProgramData → Known → Context → Types rules.Subject
  sides_of p known c = expr_type p known (narrowed true x c) a >>= last_of p known c

  pub choice_nothing : TypesAs typed_as w scene typings.Nothing (value_of x) → TypesAs subject_data w scene typings.Nothing cond_of
  unfolding subject
  choice_nothing found n more c below within m =
      ap (λ o. o >>= λ u. sides_of (program_of w) (known_within (program_of w) n) c) (found n more c below within m)

  pub choice_open
      : (q : Pending) → TypesAs typed_as w scene (typings.Open q) (value_of x) → TypesAs subject_data w scene (typings.Open q) cond_of
  unfolding subject
  choice_open q found n more c below within m = λ h.
      ap (λ o. o >>= λ u. sides_of (program_of w) (known_within (program_of w) n) c) (found n more c below within m h)

  module _ (y : TypeData) (s : Seen) (first : TypesAs typed_as w scene (typings.Found y s) (value_of x)) (inner : Scene)
      (goes_in : GoesTo w scene inner (λ p known c. narrowed true x c)) where
    at_first
        : (n more : ℕ) (c : Context) → n ≤ more → n ≤ w.left → Matches (Closed w more) n scene c
        → Going (program_of w) (Closed w more) n s (cond_of (program_of w) (known_within (program_of w) n) c)
        (sides_of (program_of w) (known_within (program_of w) n) c)
    unfolding subject
    at_first n more c below within m =
        let p = program_of w in let known = known_within p n in
        starts p (Closed w more) n typed_as y s (value_of x p known c) (λ u. sides_of p known c) (first n more c below within m)

    pub choice_second_nothing
        : TypesAs typed_as w inner typings.Nothing (value_of a) → TypesAs subject_data w scene typings.Nothing cond_of
    choice_second_nothing found n more c below within m =
        let p = program_of w in let known = known_within p n in
        stops p (Closed w more) n typed_as s (cond_of p known c) (sides_of p known c) (value_of a p known (narrowed true x c))
        (last_of p known c) refl (at_first n more c below within m) subject_data
        (found n more (narrowed true x c) below within (goes_in n more c below within m))

    pub choice_second_open
        : (q : Pending) → TypesAs typed_as w inner (typings.Open q) (value_of a) → TypesAs subject_data w scene (typings.Open q) cond_of
    choice_second_open q found n more c below within m =
        let p = program_of w in let known = known_within p n in
        opens p (Closed w more) n typed_as s (cond_of p known c) (sides_of p known c) (value_of a p known (narrowed true x c))
        (last_of p known c) refl (at_first n more c below within m) subject_data q q
        (found n more (narrowed true x c) below within (goes_in n more c below within m))

    module _ (t : TypeData) (r : Seen) (second : TypesAs typed_as w inner (typings.Found t r) (value_of a)) (outer : Scene)
        (goes_out : GoesTo w scene outer (λ p known c. narrowed false x c)) where
      at_second
          : (n more : ℕ) (c : Context) → n ≤ more → n ≤ w.left → Matches (Closed w more) n scene c
          → Going (program_of w) (Closed w more) n (both_seen s r) (cond_of (program_of w) (known_within (program_of w) n) c)
          (last_of (program_of w) (known_within (program_of w) n) c t)
      at_second n more c below within m =
          let p = program_of w in let known = known_within p n in
          goes_on p (Closed w more) n typed_as s (cond_of p known c) (sides_of p known c) (value_of a p known (narrowed true x c))
          (last_of p known c) refl (at_first n more c below within m) t r
          (second n more (narrowed true x c) below within (goes_in n more c below within m))

      abbrev join_of : ProgramData → Known → Context → TypeData → Types rules.Subject
      join_of p known c u = rules.within (join t u)

      pub choice_third_nothing
          : TypesAs typed_as w outer typings.Nothing (value_of b) → TypesAs subject_data w scene typings.Nothing cond_of
      choice_third_nothing found n more c below within m =
          let p = program_of w in let known = known_within p n in
          stops p (Closed w more) n typed_as (both_seen s r) (cond_of p known c) (last_of p known c t)
          (value_of b p known (narrowed false x c)) (join_of p known c) refl (at_second n more c below within m) subject_data
          (found n more (narrowed false x c) below within (goes_out n more c below within m))

      pub choice_third_open
          : (q : Pending) → TypesAs typed_as w outer (typings.Open q) (value_of b) → TypesAs subject_data w scene (typings.Open q) cond_of
      choice_third_open q found n more c below within m =
          let p = program_of w in let known = known_within p n in
          opens p (Closed w more) n typed_as (both_seen s r) (cond_of p known c) (last_of p known c t)
          (value_of b p known (narrowed false x c)) (join_of p known c) refl (at_second n more c below within m) subject_data q q
          (found n more (narrowed false x c) below within (goes_out n more c below within m))

      pub choice_found
          : (u : TypeData) (z : Seen) (v : TypeData) (o : Option TypeData)
          → TypesAs typed_as w outer (typings.Found u z) (value_of b) → v ≡ join t u → o ≡ within_limit v
          → TypesAs subject_data w scene (is_whole (only_found o (both_seen (both_seen s r) z))) cond_of
      choice_found u z v o found is limited n more c below within m =
          let p = program_of w in let known = known_within p n in
          ends_is p (Closed w more) n (both_seen (both_seen s r) z) (cond_of p known c) (join_of p known c u) o
          (goes_on p (Closed w more) n typed_as (both_seen s r) (cond_of p known c) (last_of p known c t)
          (value_of b p known (narrowed false x c)) (join_of p known c) refl (at_second n more c below within m) u z
          (found n more (narrowed false x c) below within (goes_out n more c below within m)))
          (ap (λ k. only k >>= rules.is) (sym (limited ∙ ap within_limit is)))
