-- What holds at each step of the evaluation of a typed program.
use Rattle.std.specs.Prelude.{◌≡◌, ℕ, zero, suc, ◌+◌, ◌<◌, ◌≤◌, Bool, true, false, List, [], length, Contains, IfSome, Option, Some, Result, Ok, Err}
use Rattle.std.specs.List.{AllByRecursion, AllZip, list_all}
use Rattle.dscript_ast.specs.TypeTree.{TypeTree}
use Rattle.dscript_value.specs.declared.parts.Callee.TheVariants as callees
use Rattle.dscript_value.specs.Plain as plain
use Rattle.dscript_value.specs.Plain.{Plain}
use Rattle.dscript_sdk_values.specs.declared.fault.SdkFault.{SdkFault}
use Rattle.dscript_sdk_values.specs.declared.fault.SdkFault.TheVariants as sdk_faults
use Rattle.dscript_sdk_values.specs.Outcomes.{Outcome}
use Rattle.dscript_sdk_pips.specs.States.{State as Calls}
use Rattle.dscript_sdk.specs.Members.{member_of}
use Rattle.dscript_program.specs.BoundTree.{ExprData}
use Rattle.dscript_program.specs.ProgramData as declared
use Rattle.dscript_program.specs.ProgramData.{DeclData, FunctionData, ProgramData}
use Rattle.dscript_eval_meaning.specs.Calls as applied
use Rattle.dscript_eval_meaning.specs.Calls.{Subject as Applied}
use Rattle.dscript_eval_meaning.specs.Acts.{Acts, Call, Demand}
use Rattle.dscript_eval_meaning.specs.Constants.{status_in}
use Rattle.dscript_eval_meaning.specs.Evaluating.{Gives, Stop, Fault, TooMany}
use Rattle.dscript_eval_meaning.specs.Frames.{function_frame, local_value}
use Rattle.dscript_eval_meaning.specs.States.{Frame, State, Done}
use Rattle.dscript_types_laws.specs.Kinds.{IsNoKindFault}
use Rattle.dscript_types_meaning.specs.Types.{TypeData}
use Rattle.dscript_types_meaning.specs.Values.{HasType}
use Rattle.dscript_types_meaning.specs.Contexts.{Ask, Callback, Constant, Context, Known, Local, Standing, Variable}
use Rattle.dscript_types_meaning.specs.Lookups.{decl_at, function_at}
use Rattle.dscript_types_meaning.specs.Functions.{function_type}
use Rattle.dscript_types_meaning.specs.Expressions.{Subject, Whole, Named, Function, Ambient}
use Rattle.dscript_types_meaning.specs.Bodies.{Use, standing_uses, use_type}
use Rattle.dscript_types_meaning.specs.Typed.{found, with_bodies_that}

-- ## What is known

-- what is known is found where it is known
abbrev pub IsStable : ProgramData → Known → Type 0
IsStable p known = (ask : Ask) (t : TypeData) → known ask ≡ Some t → found p known ask ≡ Some t

-- ## Frames, constants and stops

-- a local holds a value of its type, if it has one
abbrev pub HoldsLocal : Frame → Local → Type 0
HoldsLocal frame l = IfSome l.type_data (λ t. HasType (local_value frame l.number) t)

-- the frame holds values of the types of all locals that are seen
abbrev pub HoldsLocals : Frame → List Local → Type 0
HoldsLocals frame locals = AllByRecursion (HoldsLocal frame) locals

-- a constant that is evaluated has a value of its type
abbrev pub HoldsConstants : Known → State → Type 0
HoldsConstants known s =
    (file decl : ℕ) (x : Plain) (t : TypeData) → status_in s.constants file decl ≡ Done x
    → known (Constant file decl) ≡ Some t → HasType x t

-- evaluation stops for another reason than the kind of a value
abbrev pub KeepsToKindsAt : Stop → Type 0
KeepsToKindsAt (Fault kind file message) = IsNoKindFault kind
KeepsToKindsAt TooMany = Unit {0}

-- a fault that says neither that a value is of another kind, nor that a member is missing
abbrev pub IsGoodFault : SdkFault → Type 0
IsGoodFault sdk_faults.Kind = ⊥
IsGoodFault sdk_faults.Missing = ⊥
IsGoodFault sdk_faults.Range = Unit {0}
IsGoodFault sdk_faults.BadPath = Unit {0}
IsGoodFault sdk_faults.BadArgument = Unit {0}
IsGoodFault (sdk_faults.User message) = Unit {0}
IsGoodFault sdk_faults.Memory = Unit {0}

-- what an operator, a member or a call answers is what it is said to be, or such a fault
abbrev pub Answers : (A : Type 0) → (A → Type 0) → Outcome A → Type 0
Answers A Is (Ok x) = Is x
Answers A Is (Err fault) = IsGoodFault fault

-- ## What evaluation comes to

-- what the value is, the frame from before, and constants that hold values of their types
pub record Comes (A : Type 0) (known : Known) (Is : A → Type 0) (before : Frame) (value : A) (after : State)
    : Type 0 where
  pub is : Is value
  pub frame : after.frame ≡ before
  pub constants : HoldsConstants known after

abbrev pub ComesTo : (A : Type 0) → Known → (A → Type 0) → Frame → Result (A × State) Stop → Type 0
ComesTo A known Is before (Ok r) = Comes A known Is before r.0 r.1
ComesTo A known Is before (Err stop) = KeepsToKindsAt stop

-- From each state whose frame holds these locals it comes to what is said. An expression changes no local.
abbrev pub IsSound : (A : Type 0) → Known → List Local → (A → Type 0) → Gives A → Type 0
IsSound A known locals Is m =
    (s : State) → HoldsLocals s.frame locals → HoldsConstants known s → ComesTo A known Is s.frame (m s)

-- a value of a type
abbrev pub IsSoundAt : Known → List Local → TypeData → Gives Plain → Type 0
IsSoundAt known locals t m = IsSound Plain known locals (λ x. HasType x t) m

-- ## Subjects

-- each value of the type has the member, as a function or not
abbrev pub HasMember : TypeData → List ℕ → Type 0
HasMember t name =
    (x : Plain) (calls : Calls) → HasType x t → Answers Plain (λ y. Unit {0}) (member_of calls x name)

-- The subject may stand as it is: if it is a member, then one that is there. A member that is no function is
-- looked at as a value, and one that is a function is called.
abbrev pub MayStand : Subject → Type 0
MayStand (Whole t) = Unit {0}
MayStand (Named t name) = HasMember t name
MayStand (Function file decl) = Unit {0}
MayStand (Ambient call) = Unit {0}

-- the value is the declared function with these numbers of file and declaration
abbrev pub IsFunctionOf : ProgramData → ℕ → ℕ → Plain → Type 0
IsFunctionOf p file decl x =
    (d : DeclData) × (ts : List (List ℕ)) × (note : Option TypeTree) × (number : ℕ) × (depth : ℕ)
    × (decl_at p file decl ≡ Some d) × (d.kind ≡ declared.Function ts note number)
    × (x ≡ plain.Function (callees.Place number) depth plain.End)

-- What the value of an expression is that comes to a subject: a value of the type, what the member of such a value
-- was found to be, or a function.
abbrev pub IsOfSubject : ProgramData → Subject → Plain → Type 0
IsOfSubject p (Whole t) x = HasType x t
IsOfSubject p (Named t name) x =
    (y : Plain) × (calls : Calls) × HasType y t × (member_of calls y name ≡ Ok x)
IsOfSubject p (Function file decl) x = IsFunctionOf p file decl x
IsOfSubject p (Ambient call) x = (depth : ℕ) × (x ≡ plain.Function (callees.Ambient call) depth plain.End)

-- What evaluation applies a part to where typing applies it to a subject. A member in parentheses has been looked
-- at already, and is a value there.
abbrev pub Stands : ProgramData → Subject → Applied → Type 0
Stands p s (applied.Whole x) = IsOfSubject p s x
Stands p (Named t name) (applied.Named x member) = (member ≡ name) × HasType x t
Stands p _ (applied.Named x member) = ⊥

-- ## Callbacks

-- The value is a function that holds the values of the locals which its body captures: with any arguments of the
-- types that are given, its frame holds the locals of the context in which the body stands.
abbrev pub IsCallback : ProgramData → List TypeData → ℕ → Context → Plain → Type 0
IsCallback p given number c x =
    (f : FunctionData) × (held : List Plain) × (depth : ℕ) × (function_at p number ≡ Some f)
    × (x ≡ plain.Function (callees.Place number) depth (plain.to_items held))
    × ((args : List Plain) → AllZip HasType args given → HoldsLocals (function_frame f held args) c.locals)

-- ## Scenes

-- The locals that a body sees whose own locals begin with the first number, where those from the second number on are not
-- bound yet: a variable is one of its own, and all locals of its number are of its type.
pub record IsScene (first free : ℕ) (locals : List Local) : Type 0 where
  pub bound : (l : Local) → Contains locals l → l.number < free
  pub own : (l : Local) → Contains locals l → l.hold ≡ Variable → first ≤ l.number
  pub alone
      : (l m : Local) → Contains locals l → Contains locals m → l.hold ≡ Variable → m.number ≡ l.number
      → (m.type_data ≡ l.type_data) × (m.hold ≡ Variable)

-- ## Calls that are opened

-- Whether an expression has a type where all this is known, and so has each expression in the bodies of the callbacks
-- in it, which are nested less deep than this.
unfoldable pub is_checked : ProgramData → Known → ℕ → Use → Bool
is_checked p known zero u = false
is_checked p known (suc n) u =
    with_bodies_that (λ body. list_all (λ v. is_checked p known n v) (standing_uses p known body)) (use_type p known u)

-- each expression in the body has a type
abbrev pub IsChecked : ProgramData → Known → ℕ → Standing → Type 0
IsChecked p known n body = list_all (is_checked p known n) (standing_uses p known body) ≡ true

-- What is opened comes to a value of the type that is known: a declared function, which holds nothing, at arguments
-- of the types that are given; a callback whose frame holds the locals of its body; and each constant, of which no
-- type may be known.
pub record OpensSoundly (p : ProgramData) (known : Known) (act : Acts) : Type 0 where
  pub function
      : (file decl : ℕ) (d : DeclData) (ts : List (List ℕ)) (note : Option TypeTree) (number : ℕ)
      (given : List TypeData) (args : List Plain) (t : TypeData) → decl_at p file decl ≡ Some d
      → d.kind ≡ declared.Function ts note number → function_type p known file decl given ≡ Some t
      → AllZip HasType args given → IsSoundAt known [] t (act (Call (callees.Place number) [] args))
  pub callback
      : (n number : ℕ) (c : Context) (f : FunctionData) (held args : List Plain) (t : TypeData)
      → function_at p number ≡ Some f → known (Callback number c) ≡ Some t
      → IsChecked p known n (record { number = number; context = c })
      → IsScene f.first_local (f.first_local + length f.params) c.locals
      → HoldsLocals (function_frame f held args) c.locals
      → IsSoundAt known [] t (act (Call (callees.Place number) held args))
  pub constant
      : (file decl : ℕ) (d : DeclData) (note : Option TypeTree) (e : ExprData) → decl_at p file decl ≡ Some d
      → d.kind ≡ declared.Const note e
      → IsSound Plain known [] (λ x. IfSome (known (Constant file decl)) (HasType x)) (act (Demand file decl))
