-- Callbacks: what they get, what they answer, and what the members give that call them.
use Rattle.std.proofs.Common.{◌∙◌, ◌≡◌, ◌≤◌, ℕ, Bool, List, None, Option, Some, [], ap, false, if◌then◌else◌, refl, subst, sym, true}
use Rattle.std.specs.declared.alloc.Global.{Global}
use Rattle.std.specs.declared.vec.Vec.{Vec}
use Rattle.dscript_program.specs.BoundTree as tree
use Rattle.dscript_program.specs.BoundTree.{ExprData, ExprRow}
use Rattle.dscript_program.specs.ProgramData.{FunctionData, ProgramData}
use Rattle.dscript_program.specs.declared.target.Target.TheVariants as targets
use Rattle.dscript_sdk_members.specs.declared.member.Member.{Member}
use Rattle.dscript_types_known.specs.declared.finding.Pending.{Pending}
use Rattle.dscript_types_meaning.specs.Contexts.{◌>>=◌, ◌>>◌, Context, Known, Types, needs, no_type, only}
use Rattle.dscript_types_meaning.specs.Expressions.{arguments, further_arguments, is}
use Rattle.dscript_types_meaning.specs.Expressions as rules
use Rattle.dscript_types_meaning.specs.Functions.{arrow_answer, by_answer, callback_answer, callback_type, given_to}
use Rattle.dscript_types_meaning.specs.Lookups.{function_at}
use Rattle.dscript_types_meaning.specs.Typed.{known_within}
use Rattle.dscript_types_meaning.specs.Types.{TypeData, never}
use Rattle.dscript_types_meaning.specs.Unions.{is_list_type, is_never, items_of}
use Rattle.dscript_types_notes.specs.Means.{program_of}
use Rattle.dscript_types_notes.specs.declared.world.World.{World}
use Rattle.dscript_types_scenes.proofs.Going.{Going, both_seen, ends_none, goes_on, no_bodies, opens, part_by_part, starts, stops}
use Rattle.dscript_types_scenes.proofs.Values.{ends_is}
use Rattle.dscript_types_scenes.specs.Functions.{target_answer}
use Rattle.dscript_types_scenes.specs.Scenes.{Closed, Matches, TypesAs}
use Rattle.dscript_types_scenes.specs.Shapes.{Arrow, Chain, Name, Other, ShapeData, Unary, Undefined, shape_of}
use Rattle.dscript_types_scenes.specs.Subjects.{is_whole, only_found}
use Rattle.dscript_types_scenes.specs.Typings.{TypesTo, subject_data}
use Rattle.dscript_types_scenes.specs.declared.found.Seen.{Seen}
use Rattle.dscript_types_scenes.specs.declared.found.Subject.{Subject}
use Rattle.dscript_types_scenes.specs.declared.found.Typing.{Typing}
use Rattle.dscript_types_scenes.specs.declared.found.Typing.TheVariants as typings
use Rattle.dscript_types_scenes.specs.declared.scene.Scene.{Scene}
use Rattle.dscript_types_exprs.proofs.Calling.{at_part, part_fails, part_nothing, part_open}
use Rattle.dscript_types_exprs.proofs.Choosing.{typed_as}
use Rattle.dscript_types_exprs.specs.Calls.{SeesOn, callback_subject}
use Rattle.dscript_types_exprs.specs.Parts.{items_now}

-- ## What stands as a callback

module _ (p : ProgramData) (known : Known) (c : Context) (given : List TypeData) where
  abbrev pub callback_shaped : ShapeData → Types TypeData
  callback_shaped (Arrow number) = arrow_answer p known number c given (function_at p number)
  callback_shaped (Name target) = target_answer p known given target
  callback_shaped Undefined = no_type
  callback_shaped (Unary operators operand) = no_type
  callback_shaped (Chain first more) = no_type
  callback_shaped Other = no_type

  pub callback_by_shape : (e : ExprData) → callback_answer p known c (Some e) given ≡ callback_shaped (shape_of e)
  unfolding callback_answer
  callback_by_shape (tree.Arrow number) = refl
  callback_by_shape (tree.Name (targets.Declared file decl)) = refl
  callback_by_shape (tree.Name (targets.Local number)) = refl
  callback_by_shape (tree.Name (targets.Ambient call)) = refl
  callback_by_shape _ = refl

module _ (w : World) (scene : Scene) (e : ExprData) (given : List TypeData) (shape : ShapeData) (is : shape ≡ shape_of e) where
  abbrev pub answer_of : ProgramData → Known → Context → Types TypeData
  answer_of p known c = callback_answer p known c (Some e) given

  by_shape : (n : ℕ) (c : Context)
      → answer_of (program_of w) (known_within (program_of w) n) c
      ≡ callback_shaped (program_of w) (known_within (program_of w) n) c given shape
  by_shape n c =
      callback_by_shape (program_of w) (known_within (program_of w) n) c given e
      ∙ ap (callback_shaped (program_of w) (known_within (program_of w) n) c given) (sym is)

  -- what is no callback
  pub no_callback
      : ((p : ProgramData) (known : Known) (c : Context) → callback_shaped p known c given shape ≡ None)
      → TypesAs typed_as w scene typings.Nothing answer_of
  no_callback none n more c below within m = by_shape n c ∙ none (program_of w) (known_within (program_of w) n) c

  pub answers_as
      : (found : Typing TypeData) (answer : ProgramData → Known → Context → Types TypeData)
      → ((n : ℕ) (c : Context) → callback_shaped (program_of w) (known_within (program_of w) n) c given shape
      ≡ answer (program_of w) (known_within (program_of w) n) c)
      → TypesAs typed_as w scene found answer → TypesAs typed_as w scene found answer_of
  answers_as found answer same says n more c below within m =
      subst (λ (o : Types TypeData). TypesTo typed_as (program_of w) (Closed w more) n found o)
      (sym (by_shape n c ∙ same n c)) (says n more c below within m)

-- a function that is no declaration
pub arrow_answers
    : (w : World) (scene : Scene) (e : ExprData) (given : List TypeData) (number : ℕ) (f : FunctionData) (found : Typing TypeData)
    → Arrow number ≡ shape_of e → function_at (program_of w) number ≡ Some f
    → TypesAs typed_as w scene found (λ p known c. arrow_answer p known number c given (Some f))
    → TypesAs typed_as w scene found (λ p known c. callback_answer p known c (Some e) given)
arrow_answers w scene e given number f found is there says =
    answers_as w scene e given (Arrow number) is found (λ p known c. arrow_answer p known number c given (Some f))
    (λ n c. ap (arrow_answer (program_of w) (known_within (program_of w) n) number c given) there) says

-- a function that is not there
pub no_arrow_answers
    : (w : World) (scene : Scene) (e : ExprData) (given : List TypeData) (number : ℕ) → Arrow number ≡ shape_of e
    → function_at (program_of w) number ≡ None
    → TypesAs typed_as w scene typings.Nothing (λ p known c. callback_answer p known c (Some e) given)
no_arrow_answers w scene e given number is none =
    answers_as w scene e given (Arrow number) is typings.Nothing (λ p known c. no_type)
    (λ n c. ap (arrow_answer (program_of w) (known_within (program_of w) n) number c given) none) (λ n more c below within m. refl)

-- ## Calls with a callback

module _ (p : ProgramData) (known : Known) (c : Context) (member : Member) (t : TypeData) where
  abbrev pub given_by : TypeData → List TypeData → Option TypeData
  given_by answer further = if is_never t then Some never else by_answer member (items_of t) further answer

  abbrev answer_then : Option ExprData → List TypeData → List TypeData → Types TypeData
  answer_then callback further given = callback_answer p known c callback given >>= λ answer. only (given_by answer further)

  callback_step
      : (callback : Option ExprData) (further : List TypeData) (b : Bool) (o : Option (List TypeData)) → is_list_type t ≡ b
      → given_to member (items_of t) further ≡ o
      → callback_type p known member c t callback further ≡ (needs b >> only o >>= answer_then callback further)
  unfolding callback_type
  callback_step callback further b o lists gets =
      ap (λ q. needs q >> only (given_to member (items_of t) further) >>= answer_then callback further) lists
      ∙ ap (λ g. needs b >> only g >>= answer_then callback further) gets

  pub no_list : (callback : Option ExprData) (further : List TypeData) → is_list_type t ≡ false
      → (callback_type p known member c t callback further >>= is) ≡ None
  no_list callback further lists =
      ap (λ o. o >>= is) (callback_step callback further false (given_to member (items_of t) further) lists refl)

  pub nothing_given : (callback : Option ExprData) (further : List TypeData) → is_list_type t ≡ true
      → given_to member (items_of t) further ≡ None → (callback_type p known member c t callback further >>= is) ≡ None
  nothing_given callback further lists gets = ap (λ o. o >>= is) (callback_step callback further true None lists gets)

  pub called_back
      : (e : ExprData) (further given : List TypeData) → is_list_type t ≡ true → given_to member (items_of t) further ≡ Some given
      → (callback_type p known member c t (Some e) further >>= is)
      ≡ (callback_answer p known c (Some e) given >>= λ answer. only (given_by answer further) >>= is)
  called_back e further given lists gets =
      ap (λ o. o >>= is)
      (callback_step (Some e) further true (Some given) lists gets ∙ no_bodies (only (Some given) >>= answer_then (Some e) further)
      ∙ no_bodies (answer_then (Some e) further given))
      ∙ part_by_part (callback_answer p known c (Some e) given) (λ answer. only (given_by answer further)) is

  -- no callback is given
  none_answers : (further : List TypeData) (b : Bool) (o : Option (List TypeData)) → (needs b >> only o >>= answer_then None further) ≡ None
  unfolding callback_answer
  none_answers further false o = refl
  none_answers further true None = refl
  none_answers further true (Some given) = refl

  pub no_callback_given : (further : List TypeData) → (callback_type p known member c t None further >>= is) ≡ None
  no_callback_given further =
      ap (λ o. o >>= is)
      (callback_step None further (is_list_type t) (given_to member (items_of t) further) refl refl
      ∙ none_answers further (is_list_type t) (given_to member (items_of t) further))

module _ (w : World) (scene : Scene) (member : Member) (t : TypeData) (seen : Seen) where
  abbrev pub CalledBack : ExprRow → Typing Subject → Type 0
  CalledBack es end = SeesOn w scene seen end (λ p known c. callback_subject p known c member t es)

  -- no arguments
  pub back_alone : CalledBack tree.no_exprs typings.Nothing
  unfolding further_arguments
  back_alone n more c below within m before found =
      let p = program_of w in let known = known_within p n in
      ends_none p (Closed w more) n subject_data seen (before >>= λ u. callback_subject p known c member t tree.no_exprs)
      (callback_subject p known c member t tree.no_exprs)
      (starts p (Closed w more) n (λ (u : Unit {0}). u) tt seen before (λ u. callback_subject p known c member t tree.no_exprs) found)
      (no_bodies (callback_type p known member c t None [] >>= is) ∙ no_callback_given p known c member t [])

  module _ (e : ExprData) (more_args : ExprRow) where
    abbrev further_of : ProgramData → Known → Context → Types (List TypeData)
    further_of p known c = arguments p known c more_args

    abbrev then_called : ProgramData → Known → Context → Unit {0} → List TypeData → Types rules.Subject
    then_called p known c u given = callback_type p known member c t (Some e) given >>= is

    abbrev Whole : Typing Subject → Type 0
    Whole end = CalledBack (tree.more_exprs e more_args) end

    pub back_nothing : TypesAs items_now w scene typings.Nothing further_of → Whole typings.Nothing
    unfolding further_arguments
    back_nothing found = part_nothing (λ (u : Unit {0}). u) items_now w scene tt seen further_of then_called found

    pub back_open : (a : Pending) → TypesAs items_now w scene (typings.Open a) further_of → Whole (typings.Open a)
    unfolding further_arguments
    back_open a found = part_open (λ (u : Unit {0}). u) items_now w scene tt seen further_of then_called a found

    module _ (types : Vec TypeData Global) (second : Seen) (typed : TypesAs items_now w scene (typings.Found types second) further_of) where
      pub back_no_list : is_list_type t ≡ false → Whole typings.Nothing
      unfolding further_arguments
      back_no_list lists =
          part_fails (λ (u : Unit {0}). u) items_now w scene tt seen further_of then_called types second typed
          (λ p known c. no_list p known c member t (Some e) types.items lists)

      pub back_not_given : is_list_type t ≡ true → given_to member (items_of t) types.items ≡ None → Whole typings.Nothing
      unfolding further_arguments
      back_not_given lists gets =
          part_fails (λ (u : Unit {0}). u) items_now w scene tt seen further_of then_called types second typed
          (λ p known c. nothing_given p known c member t (Some e) types.items lists gets)

      module _ (given : List TypeData) (lists : is_list_type t ≡ true) (gets : given_to member (items_of t) types.items ≡ Some given) where
        abbrev called_of : ProgramData → Known → Context → Types TypeData
        called_of p known c = callback_answer p known c (Some e) given

        abbrev gives_back : TypeData → Types rules.Subject
        gives_back answer = only (if is_never t then Some never else by_answer member (items_of t) types.items answer) >>= is

        at_call
            : (n more : ℕ) (c : Context) → n ≤ more → n ≤ w.left → Matches (Closed w more) n scene c
            → (before : Types (Unit {0})) → TypesTo (λ (u : Unit {0}). u) (program_of w) (Closed w more) n (typings.Found tt seen) before
            → Going (program_of w) (Closed w more) n (both_seen seen second)
            (before >>= λ u. callback_subject (program_of w) (known_within (program_of w) n) c member t (tree.more_exprs e more_args))
            (then_called (program_of w) (known_within (program_of w) n) c tt types.items)
        unfolding further_arguments
        at_call n more c below within m before found =
            at_part (λ (u : Unit {0}). u) items_now w scene tt seen further_of then_called types second typed n more c below within m before found

        pub back_none : TypesAs typed_as w scene typings.Nothing called_of → Whole typings.Nothing
        unfolding further_arguments
        back_none answers n more c below within m before found =
            let p = program_of w in let known = known_within p n in
            stops p (Closed w more) n typed_as (both_seen seen second)
            (before >>= λ u. callback_subject p known c member t (tree.more_exprs e more_args))
            (then_called p known c tt types.items) (called_of p known c) gives_back
            (called_back p known c member t e types.items given lists gets) (at_call n more c below within m before found) subject_data
            (answers n more c below within m)

        pub back_opens : (a : Pending) → TypesAs typed_as w scene (typings.Open a) called_of → Whole (typings.Open a)
        unfolding further_arguments
        back_opens a answers n more c below within m before found =
            let p = program_of w in let known = known_within p n in
            opens p (Closed w more) n typed_as (both_seen seen second)
            (before >>= λ u. callback_subject p known c member t (tree.more_exprs e more_args))
            (then_called p known c tt types.items) (called_of p known c) gives_back
            (called_back p known c member t e types.items given lists gets) (at_call n more c below within m before found) subject_data a a
            (answers n more c below within m)

        pub back_found
            : (answer : TypeData) (third : Seen) (o : Option TypeData) → TypesAs typed_as w scene (typings.Found answer third) called_of
            → o ≡ (if is_never t then Some never else by_answer member (items_of t) types.items answer)
            → Whole (is_whole (only_found o (both_seen (both_seen seen second) third)))
        unfolding further_arguments
        back_found answer third o answers made n more c below within m before found =
            let p = program_of w in let known = known_within p n in
            ends_is p (Closed w more) n (both_seen (both_seen seen second) third)
            (before >>= λ u. callback_subject p known c member t (tree.more_exprs e more_args)) (gives_back answer) o
            (goes_on p (Closed w more) n typed_as (both_seen seen second)
            (before >>= λ u. callback_subject p known c member t (tree.more_exprs e more_args))
            (then_called p known c tt types.items) (called_of p known c) gives_back
            (called_back p known c member t e types.items given lists gets) (at_call n more c below within m before found) answer third
            (answers n more c below within m))
            (ap (λ q. only q >>= is) (sym made))
