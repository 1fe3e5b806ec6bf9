-- A walk through a tree from left to right, which resolves names and counts locals and functions.
use Rattle.std.specs.Prelude.{ℕ, ◌+◌, ◌-◌, true, false, not, ◌==◌, nat_lt, List, [], ◌∷◌, ◌++◌, map, length}
use Rattle.std.specs.Prelude.{Option, Some, None, Result, Ok, Err, if◌then◌else◌}
use Rattle.std.specs.List.{filter, list_any}
use Rattle.std.specs.Str.{bytes_eq}
use Rattle.dscript_ast.specs.ExprTree.{ParamTree}
use Rattle.dscript_program.specs.BoundTree.{BodyData}
use Rattle.dscript_program.specs.ProgramData.{FunctionData}
use Rattle.dscript_program.specs.declared.spec_fault.SpecKind.{SpecKind}
use Rattle.dscript_names_scopes.specs.declared.local.Local.{Local}
use Rattle.dscript_names_scopes.specs.Blocks.{Block}
use Rattle.dscript_names_scopes.specs.Lookup.{declare_in}

-- where the walk is: the blocks around, the innermost first, and how many locals of the declaration and how
-- many functions come before
pub record Here : Type 0 where
  pub blocks : List Block
  pub locals : ℕ
  pub functions : ℕ

-- what a part of a tree comes to: its value, where the walk is after it, its functions, and the locals that
-- it names, the last two in the order of the text
pub record Bound (A : Type 0) : Type 0 where
  pub value : A
  pub after : Here
  pub functions : List FunctionData
  pub names : List ℕ

-- Resolving a part of a tree: what it comes to, or its first fault. Trees keep their parts in the order of
-- the text, and a dotted name is met at its first token, so that a walk from left to right meets the faults
-- in the order of their places.
abbrev pub Binds : Type 0 → Type 0
Binds A = Here → Result (Bound A) SpecKind

-- one after the other
abbrev pub chained : {A B : Type 0} → Bound A → Result (Bound B) SpecKind → Result (Bound B) SpecKind
chained b (Ok c) = Ok (record {
  value = c.value;
  after = c.after;
  functions = b.functions ++ c.functions;
  names = b.names ++ c.names;
})
chained b (Err kind) = Err kind

abbrev pub continued : {A B : Type 0} → Result (Bound A) SpecKind → (A → Binds B) → Result (Bound B) SpecKind
continued (Ok b) next = chained b (next b.value b.after)
continued (Err kind) next = Err kind

infixl 10 ◌>>=◌
abbrev pub ◌>>=◌ : {A B : Type 0} → Binds A → (A → Binds B) → Binds B
(m >>= next) here = continued (m here) next

-- a value, without a step
abbrev pub gives : {A : Type 0} → A → Binds A
gives x here = Ok (record { value = x; after = here; functions = []; names = [] })

abbrev pub fails : {A : Type 0} → SpecKind → Binds A
fails kind here = Err kind

-- nothing, unless there is a fault
abbrev pub no_fault : Option SpecKind → Binds (Option SpecKind)
no_fault None = gives None
no_fault (Some kind) = fails kind

-- a value, or a fault
abbrev pub or_fault : {A : Type 0} → Result A SpecKind → Binds A
or_fault (Ok x) here = gives x here
or_fault (Err kind) here = Err kind

abbrev pub in_turn : {A : Type 0} → List (Binds A) → Binds (List A)
in_turn [] = gives []
in_turn (m ∷ ms) = m >>= λ x. in_turn ms >>= λ xs. gives (x ∷ xs)

-- ## Locals and blocks

-- the next number of a local
abbrev pub next_local : Binds ℕ
next_local here = gives here.locals (record here { locals = here.locals + 1 })

abbrev pub declare : List ℕ → ℕ → Binds ℕ
declare x n here = gives n (record here { blocks = declare_in x n here.blocks })

-- the walk is outside of a block again
abbrev pub leave : {A : Type 0} → Here → Result (Bound A) SpecKind → Result (Bound A) SpecKind
leave here (Ok b) = Ok (record b { after = record b.after { blocks = here.blocks } })
leave here (Err kind) = Err kind

-- within a block that declares these locals
abbrev pub within : {A : Type 0} → List Local → Binds A → Binds A
within locals m here =
    leave here (m (record here { blocks = record { locals = locals; is_body = false } ∷ here.blocks }))

-- ## Functions

-- the parameters, numbered from the first
abbrev pub params_from : ℕ → List ParamTree → List Local
params_from n [] = []
params_from n (p ∷ ps) = record { name = p.name; is_let = false; number = Some n } ∷ params_from (n + 1) ps

-- each element once, where it first occurs
abbrev pub each_once : List ℕ → List ℕ
each_once [] = []
each_once (n ∷ ns) = n ∷ filter (λ m. not (m == n)) (each_once ns)

-- a number is added where it is not there yet
abbrev pub with_once : List ℕ → ℕ → List ℕ
with_once ns n = if list_any (λ m. m == n) ns then ns else ns ++ n ∷ []

-- A function captures the locals from outside that are named in it; they come before its first local.
abbrev pub function_of : ℕ → List ParamTree → ℕ → Bound BodyData → FunctionData
function_of file params first b = record {
  file = file;
  captured = each_once (filter (λ n. nat_lt n first) b.names);
  params = params;
  first_local = first;
  local_count = b.after.locals - first;
  body = b.value;
}

-- a function comes before those in its body, and it is its number
abbrev pub closed : ℕ → List ParamTree → Here → Result (Bound BodyData) SpecKind → Result (Bound ℕ) SpecKind
closed file params here (Ok b) = Ok (record {
  value = here.functions;
  after = record b.after { blocks = here.blocks };
  functions = function_of file params here.locals b ∷ b.functions;
  names = b.names;
})
closed file params here (Err kind) = Err kind

-- a function of the file with these parameters, whose body declares these locals
abbrev pub function_in : ℕ → List ParamTree → List Local → Binds BodyData → Binds ℕ
function_in file params locals body here =
    closed file params here (body (record {
      blocks = record { locals = params_from here.locals params ++ locals; is_body = true } ∷ here.blocks;
      locals = here.locals + length params;
      functions = here.functions + 1;
    }))

-- a declaration, whose locals are counted from 0
abbrev pub declaration : {A : Type 0} → Binds A → Binds A
declaration m here = m (record here { blocks = []; locals = 0 })
