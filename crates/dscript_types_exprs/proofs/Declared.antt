-- What is found of declarations.
use Rattle.std.proofs.Common.{◌∙◌, ◌≡◌, ◌≤◌, ℕ, List, None, Option, Some, [], ap, arith, refl, subst, suc, sym}
use Rattle.std.specs.List.{list_all}
use Rattle.std.specs.Option.{option_and_then}
use Rattle.dscript_ast.specs.TypeTree.{TypeTree}
use Rattle.dscript_program.specs.BoundTree.{ExprData}
use Rattle.dscript_program.specs.ProgramData.{DeclData, Dotted, FunctionData, KindData, ProgramData}
use Rattle.dscript_program.specs.ProgramData as kinds
use Rattle.dscript_types_known.specs.Findings.{Finding, Found, Nothing, Open, Tells}
use Rattle.dscript_types_known.specs.Matching.{FoundLocal, LocalMatches}
use Rattle.dscript_types_known.specs.Tables.{ask_of}
use Rattle.dscript_types_known.specs.Views.{locals_at}
use Rattle.dscript_types_known.specs.declared.locals.Locals.{Locals}
use Rattle.dscript_types_meaning.specs.Annotations.{declared_type, meant}
use Rattle.dscript_types_meaning.specs.Bodies.{Declared, Use, annotated, answered, body_uses, decl_uses, function_uses, inferred, kind_uses, type_of_value}
use Rattle.dscript_types_meaning.specs.Contexts.{Context, Known, local_at}
use Rattle.dscript_types_meaning.specs.Functions.{context_of, declared_locals}
use Rattle.dscript_types_meaning.specs.Lookups.{around, decl_at, function_at}
use Rattle.dscript_types_meaning.specs.Typed.{answer_of_decl, answer_of_function, constant_of_decl, constant_of_kind, found, has_type, known_within, meaning_of_decl, number_of}
use Rattle.dscript_types_meaning.specs.Types.{TypeData}
use Rattle.dscript_types_notes.specs.Means.{IsAt, Says, found_if, program_of}
use Rattle.dscript_types_notes.specs.declared.world.Place.{Place}
use Rattle.dscript_types_notes.specs.declared.world.World.{World}
use Rattle.dscript_types_scenes.proofs.Scening.{tells_if}
use Rattle.dscript_types_scenes.proofs.Standing.{at_decl}
use Rattle.dscript_types_scenes.specs.Declarations.{FindsLocals, IsPlaceOf, parameters_of}
use Rattle.dscript_types_scenes.specs.Scenes.{Closed, FindsAnywhere, FindsAs, Matches}
use Rattle.dscript_types_scenes.specs.Typings.{FromOn}
use Rattle.dscript_types_scenes.specs.declared.scene.Scene.{Scene}
use Rattle.dscript_types_scenes.specs.declared.walk.Walk.{Walk}
use Rattle.dscript_types_exprs.specs.Bodies.{DeclIsRight, IsRightAs, IsRightIn, WalkedAs, in_function}
use Rattle.dscript_types_exprs.specs.Statements.{use_of}

-- ## Scenes of declarations

module _ (w : World) (place : Place) (scene : Scene) (placed : scene.place ≡ place) where
  stands_at : (c d : Context) → d.file ≡ c.file → d.around ≡ c.around → d.parameters ≡ c.parameters → IsAt place c → IsAt scene.place d
  stands_at c d files arounds parameters at =
      subst (λ (q : Place). IsAt q d) (sym placed)
      (record { file = files ∙ at.file; around = arounds ∙ at.around; parameters = parameters ∙ at.parameters })

  -- the body of a function
  pub in_body
      : (locals : Locals) (f : FunctionData) → scene.locals ≡ locals
      → FindsLocals w place locals (λ p known c. declared_locals p known c f.first_local f.params)
      → (n more : ℕ) (c : Context) → n ≤ more → n ≤ w.left → IsAt place c
      → Matches (Closed w more) n scene (in_function (program_of w) (known_within (program_of w) n) c f)
  in_body locals f held finds n more c below within at = record {
    place = stands_at c (in_function (program_of w) (known_within (program_of w) n) c f) refl refl refl at;
    locals = λ k. subst
        (λ (ls : Locals). LocalMatches (Closed w more) n (locals_at ls k) (local_at (in_function (program_of w) (known_within (program_of w) n) c f) k))
        (sym held) (finds n more c below within at k);
  }

  -- no locals
  pub outermost
      : ((k : ℕ) → locals_at scene.locals k ≡ None) → (closed : Type 0) (n : ℕ) (c : Context) → IsAt place c
      → Matches closed n scene (record c { locals = [] })
  outermost none closed n c at = record {
    place = stands_at c (record c { locals = [] }) refl refl refl at;
    locals = λ k. subst (λ (o : Option FoundLocal). LocalMatches closed n o None) (sym (none k)) tt;
  }

  -- a value without an annotation
  pub value_says
      : (e : ExprData) (note : Option TypeTree) (f : Finding TypeData) → ((k : ℕ) → locals_at scene.locals k ≡ None)
      → FindsAs w scene f (λ p known c. type_of_value p known c e note)
      → Says w place f (λ p known c. type_of_value p known (record c { locals = [] }) e note)
  value_says e note f none finds n more c below within at =
      finds n more (record c { locals = [] }) below within (outermost none (Closed w more) n c at)

  -- what a function answers without an annotation
  pub answer_says
      : (locals : Locals) (f : FunctionData) (note : Option TypeTree) (answer : Finding TypeData) → note ≡ None → scene.locals ≡ locals
      → FindsLocals w place locals (λ p known c. declared_locals p known c f.first_local f.params)
      → FindsAs w scene answer (λ p known c. inferred p known c f.body)
      → Says w place answer (λ p known c. answered p known (in_function p known c f) f.body note)
  answer_says locals f note answer none held finds answers n more c below within at =
      let p = program_of w in let known = known_within p n in
      subst (λ (o : Option TypeTree). Tells (Closed w more) n answer (answered p known (in_function p known c f) f.body o)) (sym none)
      (answers n more (in_function p known c f) below within (in_body locals f held finds n more c below within at))

-- an annotation
pub noted_says
    : (w : World) (place : Place) (e : ExprData) (note : Option TypeTree) (t : TypeTree) (f : Finding TypeData) → note ≡ Some t
    → Says w place f (λ p known c. meant p known c t)
    → Says w place f (λ p known c. type_of_value p known (record c { locals = [] }) e note)
noted_says w place e note t f is says n more c below within at =
    subst
    (λ (o : Option TypeTree). Tells (Closed w more) n f (type_of_value (program_of w) (known_within (program_of w) n) (record c { locals = [] }) e o))
    (sym is)
    (says n more (record c { locals = [] }) below within
    (record { file = at.file; around = at.around; parameters = at.parameters }))

module _ (w : World) (place : Place) (f : FunctionData) (note : Option TypeTree) (t : TypeTree) (is : note ≡ Some t) where
  abbrev answer_of : ProgramData → Known → Context → Option TypeData
  answer_of p known c = answered p known (in_function p known c f) f.body note

  noted_answer
      : (n : ℕ) (c : Context) → answer_of (program_of w) (known_within (program_of w) n) c
      ≡ option_and_then (annotated f.body) (meant (program_of w) (known_within (program_of w) n) (in_function (program_of w) (known_within (program_of w) n) c f) t)
  noted_answer n c =
      ap (answered (program_of w) (known_within (program_of w) n) (in_function (program_of w) (known_within (program_of w) n) c f) f.body) is

  at_body : (n : ℕ) (c : Context) → IsAt place c → IsAt place (in_function (program_of w) (known_within (program_of w) n) c f)
  at_body n c at = record { file = at.file; around = at.around; parameters = at.parameters }

  pub annotated_says
      : (u : TypeData) (rank : ℕ) (answer : Finding TypeData) → Says w place (Found u rank) (λ p known c. meant p known c t)
      → answer ≡ found_if (annotated f.body u) rank → Says w place answer answer_of
  annotated_says u rank answer says made n more c below within at =
      let known = known_within (program_of w) n in
      let d = in_function (program_of w) known c f in
      let m = says n more d below within (at_body n c at) in
      subst (λ (g : Finding TypeData). Tells (Closed w more) n g (answer_of (program_of w) known c)) (sym made)
      (tells_if (Closed w more) n rank (annotated f.body u) (answer_of (program_of w) known c)
      (λ l. noted_answer n c ∙ ap (option_and_then (annotated f.body)) (m.0 l))
      (λ l. noted_answer n c ∙ ap (option_and_then (annotated f.body)) (m.1 l)))

  pub annotated_nothing : Says w place Nothing (λ p known c. meant p known c t) → Says w place Nothing answer_of
  annotated_nothing says n more c below within at =
      noted_answer n c
      ∙ ap (option_and_then (annotated f.body)) (says n more (in_function (program_of w) (known_within (program_of w) n) c f) below within (at_body n c at))

  pub annotated_open : Says w place Open (λ p known c. meant p known c t) → Says w place Open answer_of
  annotated_open says n more c below within at = λ closed.
      noted_answer n c
      ∙ ap (option_and_then (annotated f.body))
      (says n more (in_function (program_of w) (known_within (program_of w) n) c f) below within (at_body n c at) closed)

module _ (w : World) (place : Place) (file : ℕ) (d : DeclData) (outer : Dotted) (arounds : around d.name ≡ outer)
    (is : IsPlaceOf place file outer d.kind) where
  -- from where on it is right
  pub constant_right
      : (right : Option ℕ) (note : Option TypeTree) (e : ExprData) → d.kind ≡ kinds.Const note e
      → IsRightIn w place right (λ p known c. use_of c (Declared note) e) → DeclIsRight w file d right
  constant_right right note e kind are n within closed =
      let p = program_of w in let known = known_within p n in
      subst (λ (us : List Use). FromOn right n (list_all (has_type p (suc n)) us))
      (ap (λ (k : KindData). use_of (context_of file d (parameters_of k)) (Declared note) e) kind
      ∙ sym (ap (kind_uses p known file d) kind))
      (are n n (context_of file d (parameters_of d.kind)) (omega arith) within (at_decl w place file d outer arounds is) closed)

  module _ (scene : Scene) (placed : scene.place ≡ place) (right : Option ℕ) where
    pub function_right
        : (ts : List (List ℕ)) (note : Option TypeTree) (numbered : ℕ) (g : FunctionData) (locals : Locals)
        → d.kind ≡ kinds.Function ts note numbered → function_at (program_of w) numbered ≡ Some g → scene.locals ≡ locals
        → FindsLocals w place locals (λ p known c. declared_locals p known c g.first_local g.params)
        → IsRightAs w scene right (λ p known c. body_uses p known note c g.body) → DeclIsRight w file d right
    function_right ts note numbered g locals kind has held finds are n within closed =
        let p = program_of w in let known = known_within p n in
        let c = context_of file d (parameters_of d.kind) in
        subst (λ (us : List Use). FromOn right n (list_all (has_type p (suc n)) us))
        (ap (λ (k : KindData). body_uses p known note (in_function p known (context_of file d (parameters_of k)) g) g.body) kind
        ∙ sym (ap (kind_uses p known file d) kind ∙ ap (function_uses p known file d ts note) has))
        (are n n (in_function p known c g) (omega arith) within
        (in_body w place scene placed locals g held finds n n c (omega arith) within (at_decl w place file d outer arounds is)) closed)

module _ (w : World) (place : Place) (file number : ℕ) (d : DeclData) (there : decl_at (program_of w) file number ≡ Some d)
    (outer : Dotted) (arounds : around d.name ≡ outer) (is : IsPlaceOf place file outer d.kind) where
  abbrev standing : Context
  standing = context_of file d (parameters_of d.kind)

  abbrev Finds : Finding TypeData → Type 0
  Finds f = FindsAnywhere w f (λ p known. found p known (ask_of file number d.kind))

  pub constant_found
      : (note : Option TypeTree) (e : ExprData) (f : Finding TypeData) → d.kind ≡ kinds.Const note e
      → Says w place f (λ p known c. type_of_value p known (record c { locals = [] }) e note) → Finds f
  constant_found note e f kind says n more below within =
      let p = program_of w in let known = known_within p n in
      subst (λ (o : Option TypeData). Tells (Closed w more) n f o)
      (ap (λ (k : KindData). type_of_value p known (context_of file d (parameters_of k)) e note) kind
      ∙ sym (ap (λ (k : KindData). found p known (ask_of file number k)) kind ∙ ap (constant_of_decl p known file) there
      ∙ ap (constant_of_kind p known file d) kind))
      (says n more standing below within (at_decl w place file d outer arounds is))

  pub answer_found
      : (ts : List (List ℕ)) (note : Option TypeTree) (numbered : ℕ) (g : FunctionData) (f : Finding TypeData)
      → d.kind ≡ kinds.Function ts note numbered → function_at (program_of w) numbered ≡ Some g
      → Says w place f (λ p known c. answered p known (in_function p known c g) g.body note) → Finds f
  answer_found ts note numbered g f kind has says n more below within =
      let p = program_of w in let known = known_within p n in
      subst (λ (o : Option TypeData). Tells (Closed w more) n f o)
      (ap (λ (k : KindData). answered p known (in_function p known (context_of file d (parameters_of k)) g) g.body note) kind
      ∙ sym (ap (λ (k : KindData). found p known (ask_of file number k)) kind ∙ ap (answer_of_decl p known file) there
      ∙ ap (λ (k : KindData). answer_of_function p known file d k (option_and_then (function_at p) (number_of k))) kind
      ∙ ap (answer_of_function p known file d (kinds.Function ts note numbered)) has))
      (says n more standing below within (at_decl w place file d outer arounds is))

  pub no_answer_found
      : (ts : List (List ℕ)) (note : Option TypeTree) (numbered : ℕ) → d.kind ≡ kinds.Function ts note numbered
      → function_at (program_of w) numbered ≡ None → Finds Nothing
  no_answer_found ts note numbered kind none n more below within =
      let p = program_of w in let known = known_within p n in
      ap (λ (k : KindData). found p known (ask_of file number k)) kind ∙ ap (answer_of_decl p known file) there
      ∙ ap (λ (k : KindData). answer_of_function p known file d k (option_and_then (function_at p) (number_of k))) kind
      ∙ ap (answer_of_function p known file d (kinds.Function ts note numbered)) none

  -- an interface or an alias
  pub type_found
      : (f : Finding TypeData) → ((p : ProgramData) (known : Known) → found p known (ask_of file number d.kind) ≡ meaning_of_decl p known file (decl_at p file number))
      → parameters_of d.kind ≡ [] → Says w place f (λ p known c. declared_type p known c d.kind) → Finds f
  type_found f asks none says n more below within =
      let p = program_of w in let known = known_within p n in
      subst (λ (o : Option TypeData). Tells (Closed w more) n f o)
      (ap (λ (ts : List (List ℕ)). declared_type p known (context_of file d ts) d.kind) none
      ∙ sym (asks p known ∙ ap (meaning_of_decl p known file) there))
      (says n more standing below within (at_decl w place file d outer arounds is))

module _ (w : World) (file : ℕ) (d : DeclData) where
  -- a declaration in which no expression stands
  pub nothing_right
      : ((known : Known) → decl_uses (program_of w) known file d ≡ []) → DeclIsRight w file d (Some 0)
  nothing_right none n within closed =
      subst (λ (us : List Use). FromOn (Some 0) n (list_all (has_type (program_of w) (suc n)) us))
      (sym (none (known_within (program_of w) n))) (λ l. refl, λ l. absurd (omega arith))

  -- nor where there is no function of this number
  pub function_missing
      : (ts : List (List ℕ)) (note : Option TypeTree) (numbered : ℕ) → d.kind ≡ kinds.Function ts note numbered
      → function_at (program_of w) numbered ≡ None → DeclIsRight w file d (Some 0)
  function_missing ts note numbered kind none =
      nothing_right
      (λ known. ap (kind_uses (program_of w) known file d) kind ∙ ap (function_uses (program_of w) known file d ts note) none)

-- the note of an annotation is that of its tree
pub note_says
    : (w : World) (place : Place) (f : Finding TypeData) (answer : Option TypeTree → ProgramData → Known → Context → Option TypeData)
    (a b : Option TypeTree) → a ≡ b → Says w place f (answer a) → Says w place f (answer b)
note_says w place f answer a b e says = subst (λ (o : Option TypeTree). Says w place f (answer o)) e says

-- a place, by the names that are around it
pub placed_as
    : (place : Place) (file : ℕ) (slice names outer : Dotted) (kind : KindData) → IsPlaceOf place file slice kind → slice ≡ names
    → names ≡ outer → IsPlaceOf place file outer kind
placed_as place file slice names outer kind is same made =
    subst (λ (xs : Dotted). IsPlaceOf place file xs kind) (same ∙ made) is

-- a scene without locals
pub outermost_right
    : (w : World) (place : Place) (scene : Scene) → scene.place ≡ place → ((k : ℕ) → locals_at scene.locals k ≡ None) → (right : Option ℕ)
    (uses : ProgramData → Known → Context → List Use) → IsRightAs w scene right uses → IsRightIn w place right uses
outermost_right w place scene placed none right uses are n more c below within at closed =
    are n more (record c { locals = [] }) below within (outermost w place scene placed none (Closed w more) n c at) closed

-- ## What kind a declaration is, by the note of its annotation

pub constant_kind
    : (k : KindData) (a b : Option TypeTree) (e : ExprData) → k ≡ kinds.Const a e → b ≡ a → k ≡ kinds.Const b e
constant_kind k a b e is same = is ∙ ap (λ o. kinds.Const o e) (sym same)

pub function_kind
    : (k : KindData) (ts : List (List ℕ)) (a b : Option TypeTree) (number : ℕ) → k ≡ kinds.Function ts a number → b ≡ a
    → k ≡ kinds.Function ts b number
function_kind k ts a b number is same = is ∙ ap (λ o. kinds.Function ts o number) (sym same)

pub walked_right
    : (w : World) (scene : Scene) (walk : Walk) (uses : ProgramData → Known → Context → List Use) → WalkedAs w scene walk uses
    → IsRightAs w scene walk.right uses
walked_right w scene walk uses walks n more c below within m closed = (walks n more c below within m).right closed

-- ## What is looked at

abbrev pub LooksAs : World → ℕ → DeclData → Finding TypeData → Type 0
LooksAs w file d f = (number : ℕ) → decl_at (program_of w) file number ≡ Some d
    → FindsAnywhere w f (λ p known. found p known (ask_of file number d.kind))

pub looks : (w : World) (file : ℕ) (d : DeclData) (f : Finding TypeData)
    → ((number : ℕ) → decl_at (program_of w) file number ≡ Some d → FindsAnywhere w f (λ p known. found p known (ask_of file number d.kind)))
    → LooksAs w file d f
looks w file d f h = h
