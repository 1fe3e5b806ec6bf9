-- The operands of a chain, one after another.
use Rattle.std.proofs.Common.{◌+◌, ◌<◌, ◌∙◌, ◌≡◌, ◌≤◌, ℕ, Bool, List, Option, Some, ap, drop, get_or, length, map, subst, sym}
use Rattle.dscript_ast.specs.declared.operator.BinaryOp.{BinaryOp}
use Rattle.dscript_program.specs.BoundTree as tree
use Rattle.dscript_program.specs.BoundTree.{ExprData, to_operands}
use Rattle.dscript_program.specs.ProgramData.{ProgramData}
use Rattle.dscript_program.specs.Views.{operand_data}
use Rattle.dscript_program.specs.declared.bound.BoundOperand.{BoundOperand}
use Rattle.dscript_types_known.specs.declared.finding.Pending.{Pending}
use Rattle.dscript_types_meaning.specs.Contexts.{◌>>=◌, Context, Known, Types, only}
use Rattle.dscript_types_meaning.specs.Expressions as rules
use Rattle.dscript_types_meaning.specs.Expressions.{operands, subject}
use Rattle.dscript_types_meaning.specs.Narrowing.{following, outcome_of}
use Rattle.dscript_types_meaning.specs.Operators.{operated}
use Rattle.dscript_types_meaning.specs.Typed.{known_within}
use Rattle.dscript_types_meaning.specs.Types.{TypeData}
use Rattle.dscript_types_notes.proofs.Meant.{drop_all, drop_next}
use Rattle.dscript_types_notes.specs.Means.{program_of}
use Rattle.dscript_types_notes.specs.declared.world.World.{World}
use Rattle.dscript_types_scenes.proofs.Going.{Going, both_seen, goes_on, opens, part_by_part, starts, stops}
use Rattle.dscript_types_scenes.proofs.Scening.{same_matches}
use Rattle.dscript_types_scenes.proofs.Values.{ends_is}
use Rattle.dscript_types_scenes.specs.Scenes.{Closed, GoesTo, IsSameScene, Matches, TypesAs}
use Rattle.dscript_types_scenes.specs.Subjects.{is_whole, only_found}
use Rattle.dscript_types_scenes.specs.Typings.{subject_data}
use Rattle.dscript_types_scenes.specs.declared.found.Seen.{Seen}
use Rattle.dscript_types_scenes.specs.declared.found.Typing.TheVariants as typings
use Rattle.dscript_types_scenes.specs.declared.scene.Scene.{Scene}
use Rattle.dscript_types_exprs.proofs.Choosing.{operand_of, typed_as, value_of}

module _ (w : World) (scene : Scene) (first : ExprData) (more : List BoundOperand) where
  abbrev pub chain_of : ProgramData → Known → Context → Types rules.Subject
  chain_of p known c = subject p known c (tree.Chain first (to_operands (map operand_data more)))

  abbrev pub outcome : Option Bool
  outcome = outcome_of (to_operands (map operand_data more))

  abbrev rest_of : ℕ → ExprData → TypeData → ProgramData → Known → Context → Types rules.Subject
  rest_of i left t p known d = operands p known outcome d left (to_operands (map operand_data (drop i more))) t

  -- the scene of the last operand that was typed, its expression, the type so far, and what was seen
  abbrev pub ChainGoes : ℕ → Scene → ExprData → TypeData → Seen → Type 0
  ChainGoes i here left t s =
      (n most : ℕ) (c : Context) → n ≤ most → n ≤ w.left → Matches (Closed w most) n scene c
      → (d : Context) × Matches (Closed w most) n here d
      × Going (program_of w) (Closed w most) n s (chain_of (program_of w) (known_within (program_of w) n) c)
      (rest_of i left t (program_of w) (known_within (program_of w) n) d)

  pub chain_nothing : TypesAs typed_as w scene typings.Nothing (value_of first) → TypesAs subject_data w scene typings.Nothing chain_of
  unfolding subject
  chain_nothing found n most c below within m =
      ap (λ o. o >>= λ t. rest_of 0 first t (program_of w) (known_within (program_of w) n) c) (found n most c below within m)

  pub chain_open
      : (q : Pending) → TypesAs typed_as w scene (typings.Open q) (value_of first) → TypesAs subject_data w scene (typings.Open q) chain_of
  unfolding subject
  chain_open q found n most c below within m = λ h.
      ap (λ o. o >>= λ t. rest_of 0 first t (program_of w) (known_within (program_of w) n) c) (found n most c below within m h)

  pub chain_begins
      : (here : Scene) (t : TypeData) (s : Seen) → IsSameScene scene here
      → TypesAs typed_as w scene (typings.Found t s) (value_of first) → ChainGoes 0 here first t s
  unfolding subject
  chain_begins here t s same found n most c below within m =
      let p = program_of w in let known = known_within p n in (
        c,
        same_matches (Closed w most) n scene here c same m,
        starts p (Closed w most) n typed_as t s (value_of first p known c) (λ u. rest_of 0 first u p known c)
            (found n most c below within m),
      )

  pub chain_seen
      : (i : ℕ) (here : Scene) (left : ExprData) (t : TypeData) (r s : Seen) → r ≡ s → ChainGoes i here left t s
      → ChainGoes i here left t r
  chain_seen i here left t r s same goes = subst (λ (q : Seen). ChainGoes i here left t q) (sym same) goes

  module _ (i : ℕ) (here : Scene) (left : ExprData) (t : TypeData) (s : Seen) (goes : ChainGoes i here left t s)
      (operand : BoundOperand) (l : i < length more) (e : operand ≡ get_or more i operand)
      (op : BinaryOp) (value : ExprData) (is : operand_data operand ≡ tree.Operand op value) (new : Scene)
      (goes_in : GoesTo w here new (λ p known c. following outcome left c)) where
    operand_step
        : (p : ProgramData) (known : Known) (d : Context)
        → rest_of i left t p known d
        ≡ (operand_of w new value op t p known (following outcome left d) >>= λ a. rest_of (i + 1) value a p known (following outcome left d))
    unfolding operands
    operand_step p known d =
        ap (λ os. operands p known outcome d left (to_operands (map operand_data os)) t) (drop_next more i operand l e)
        ∙ ap (λ o. operands p known outcome d left (tree.more_operands o (to_operands (map operand_data (drop (i + 1) more)))) t) is
        ∙ sym (part_by_part (value_of value p known (following outcome left d)) (λ u. only (operated op t u))
        (λ a. rest_of (i + 1) value a p known (following outcome left d)))

    pub chain_goes
        : (answer : TypeData) (r : Seen) → TypesAs typed_as w new (typings.Found answer r) (operand_of w new value op t)
        → ChainGoes (i + 1) new value answer (both_seen s r)
    chain_goes answer r found n most c below within m =
        let p = program_of w in let known = known_within p n in
        let g = goes n most c below within m in
        let d = following outcome left g.0 in
        let there = goes_in n most g.0 below within g.1 in (
          d,
          there,
          goes_on p (Closed w most) n typed_as s (chain_of p known c) (rest_of i left t p known g.0)
              (operand_of w new value op t p known d) (λ a. rest_of (i + 1) value a p known d) (operand_step p known g.0) g.2 answer r
              (found n most d below within there),
        )

    pub chain_stops
        : TypesAs typed_as w new typings.Nothing (operand_of w new value op t) → TypesAs subject_data w scene typings.Nothing chain_of
    chain_stops found n most c below within m =
        let p = program_of w in let known = known_within p n in
        let g = goes n most c below within m in
        let d = following outcome left g.0 in
        stops p (Closed w most) n typed_as s (chain_of p known c) (rest_of i left t p known g.0)
        (operand_of w new value op t p known d) (λ a. rest_of (i + 1) value a p known d) (operand_step p known g.0) g.2 subject_data
        (found n most d below within (goes_in n most g.0 below within g.1))

    pub chain_opens
        : (q : Pending) → TypesAs typed_as w new (typings.Open q) (operand_of w new value op t)
        → TypesAs subject_data w scene (typings.Open q) chain_of
    chain_opens q found n most c below within m =
        let p = program_of w in let known = known_within p n in
        let g = goes n most c below within m in
        let d = following outcome left g.0 in
        opens p (Closed w most) n typed_as s (chain_of p known c) (rest_of i left t p known g.0)
        (operand_of w new value op t p known d) (λ a. rest_of (i + 1) value a p known d) (operand_step p known g.0) g.2 subject_data q q
        (found n most d below within (goes_in n most g.0 below within g.1))

  pub chain_ends
      : (i : ℕ) (here : Scene) (left : ExprData) (t : TypeData) (s : Seen) → length more ≤ i → ChainGoes i here left t s
      → TypesAs subject_data w scene (is_whole (only_found (Some t) s)) chain_of
  unfolding operands
  chain_ends i here left t s l goes n most c below within m =
      let p = program_of w in let known = known_within p n in
      let g = goes n most c below within m in
      ends_is p (Closed w most) n s (chain_of p known c) (rest_of i left t p known g.0) (Some t) g.2
      (ap (λ os. operands p known outcome g.0 left (to_operands (map operand_data os)) t) (drop_all more i l))
