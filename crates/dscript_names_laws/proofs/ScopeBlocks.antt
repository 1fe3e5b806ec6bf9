-- Blocks whose locals have numbers of some kind.
use Rattle.std.proofs.Common.{◌≡◌, ℕ, ◌+◌, ◌<◌, ◌≤◌, ◌==◌, Bool, true, false, not, cond, nat_lt, List, [], ◌∷◌, filter, length, Option, Some, None}
use Rattle.std.proofs.Common.{Result, Ok, Err, refl, sym, ap, subst, inl, inr, arith}
use Rattle.std.specs.Prelude.{find, ok_or}
use Rattle.std.specs.Str.{bytes_eq}
use Rattle.std.proofs.lemmas.Bool.{eqb-true, lt-ltb}
use Rattle.std.proofs.lemmas.Option.{same_Some}
use Rattle.bx_tree.specs.Members.{Has}
use Rattle.bx_tree.proofs.Lists.{all_append}
use Rattle.bx_tree.proofs.Members.{has_filter}
use Rattle.dscript_ast.specs.ExprTree as tree
use Rattle.dscript_ast.specs.ExprTree.{ParamTree, StmtTree, StmtTrees}
use Rattle.dscript_ast.specs.declared.expr.LoopKind.{LoopKind}
use Rattle.dscript_program.specs.declared.spec_fault.SpecKind.{SpecKind}
use Rattle.dscript_program.specs.declared.spec_fault.SpecKind.TheVariants as faults
use Rattle.dscript_names_binding.specs.Binding.{loop_local}
use Rattle.dscript_names_binding.specs.Walk.{each_once, params_from}
use Rattle.dscript_names_scopes.specs.Blocks.{Block, block_locals, stmt_locals}
use Rattle.dscript_names_scopes.specs.Lookup.{assigned, assigned_local, declare_in, local_in, with_number}
use Rattle.dscript_names_scopes.specs.declared.local.Local.{Local}
use Rattle.dscript_names_laws.proofs.Targets.{AllNumbers, InBlocks}

-- ## Numbers that are captured

by_equal : (n m : ℕ) (rest : List ℕ) (b : Bool) → (n == m) ≡ b → ((n == m) ≡ true → n ≡ m) → (not (n == m) ≡ true → Has rest n) → Has (m ∷ rest) n
by_equal n m rest true e same other = inl (sym (same e))
by_equal n m rest false e same other = inr (other (ap not e))

has_once : (ns : List ℕ) (n : ℕ) → Has ns n → Has (each_once ns) n
has_once [] n h = absurd h
has_once (m ∷ ms) n h = elim h [
  | inl same ↦ inl same
  | inr later ↦
      by_equal n m (filter (λ k. not (k == m)) (each_once ms)) (n == m) refl (eqb-true n m)
      (λ e. has_filter (λ k. not (k == m)) (each_once ms) n (has_once ms n later) e)
]

pub has_captured : (first : ℕ) (names : List ℕ) (n : ℕ) → Has names n → n < first → Has (each_once (filter (λ m. nat_lt m first) names)) n
has_captured first names n h low =
    has_once (filter (λ m. nat_lt m first) names) n (has_filter (λ m. nat_lt m first) names n h (lt-ltb n first low))

-- ## Locals

pub numbers_weaker : (P Q : ℕ → Type 0) → ((n : ℕ) → P n → Q n) → (ls : List Local) → AllNumbers P ls → AllNumbers Q ls
numbers_weaker P Q f [] h = tt
numbers_weaker P Q f (l ∷ ls) h = (λ n e. f n (h.0 n e), numbers_weaker P Q f ls h.1)

pub blocks_weaker : (P Q : ℕ → Type 0) → ((n : ℕ) → P n → Q n) → (blocks : List Block) → InBlocks P blocks → InBlocks Q blocks
blocks_weaker P Q f [] h = tt
blocks_weaker P Q f (b ∷ bs) h = (numbers_weaker P Q f b.locals h.0, blocks_weaker P Q f bs h.1)

chosen : (P : ℕ → Type 0) (b : Bool) (xs ys : List Local) → AllNumbers P xs → AllNumbers P ys → AllNumbers P (cond b xs ys)
chosen P true xs ys h k = h
chosen P false xs ys h k = k

numbered : (P : ℕ → Type 0) (x : List ℕ) (n : ℕ) → P n → (ls : List Local) → AllNumbers P ls → AllNumbers P (with_number x n ls)
numbered P x n p [] h = tt
numbered P x n p (l ∷ ls) h =
    chosen P (bytes_eq l.name x) (record l { number = Some n } ∷ ls) (l ∷ with_number x n ls)
    (λ m e. subst P (same_Some n m e) p, h.1) (h.0, numbered P x n p ls h.1)

pub declared_in : (P : ℕ → Type 0) (x : List ℕ) (n : ℕ) → P n → (blocks : List Block) → InBlocks P blocks → InBlocks P (declare_in x n blocks)
declared_in P x n p [] h = tt
declared_in P x n p (b ∷ bs) h = (numbered P x n p b.locals h.0, h.1)

none_numbered : (P : ℕ → Type 0) (s : StmtTree) → AllNumbers P (stmt_locals s)
none_numbered P (tree.Const x t e) = (λ n e'. absurd cc, tt)
none_numbered P (tree.Let x t e) = (λ n e'. absurd cc, tt)
none_numbered P _ = tt

pub stmt_undeclared : (P : ℕ → Type 0) (s : StmtTree) → AllNumbers P (stmt_locals s)
stmt_undeclared P s = none_numbered P s

pub block_undeclared : (P : ℕ → Type 0) (ss : StmtTrees) → AllNumbers P (block_locals ss)
block_undeclared P tree.no_stmts = tt
block_undeclared P (tree.more_stmts s ss) =
    all_append (λ (l : Local). (n : ℕ) → l.number ≡ Some n → P n) (stmt_locals s) (block_locals ss) (none_numbered P s) (block_undeclared P ss)

pub loop_numbered : (P : ℕ → Type 0) (kind : LoopKind) (x : List ℕ) (n : ℕ) → P n → AllNumbers P (loop_local kind x n)
loop_numbered P kind x n p = (λ m e. subst P (same_Some n m e) p, tt)

pub params_numbered : (P : ℕ → Type 0) (n : ℕ) (ps : List ParamTree) → ((m : ℕ) → n ≤ m → m < n + length ps → P m) → AllNumbers P (params_from n ps)
params_numbered P n [] h = tt
params_numbered P n (p ∷ ps) h =
    (λ m e. subst P (same_Some n m e) (h n (omega arith) (omega arith)), params_numbered P (n + 1) ps (λ m low high. h m (omega (arith, low)) (omega (arith, high))))

-- ## Blocks of one function

-- the blocks of the running function, up to its body, have no local below this number
abbrev pub IsOwnFrom : ℕ → List Block → Type 0
IsOwnFrom first [] = Unit {0}
IsOwnFrom first (b ∷ bs) = AllNumbers (λ n. first ≤ n) b.locals × (b.is_body ≡ false → IsOwnFrom first bs)

pub declared_own : (first : ℕ) (x : List ℕ) (n : ℕ) → first ≤ n → (blocks : List Block) → IsOwnFrom first blocks → IsOwnFrom first (declare_in x n blocks)
declared_own first x n low [] h = tt
declared_own first x n low (b ∷ bs) h = (numbered (λ m. first ≤ m) x n low b.locals h.0, h.1)

-- ## Assignments

abbrev pub IfNumber : (ℕ → Type 0) → Result ℕ SpecKind → Type 0
IfNumber P (Ok n) = P n
IfNumber P (Err kind) = Unit {0}

abbrev IfLocal : (ℕ → Type 0) → Option Local → Type 0
IfLocal P None = Unit {0}
IfLocal P (Some l) = (n : ℕ) → l.number ≡ Some n → P n

by_found : (P : ℕ → Type 0) (b : Bool) (l : Local) (rest : Option Local) → ((n : ℕ) → l.number ≡ Some n → P n) → IfLocal P rest → IfLocal P (cond b (Some l) rest)
by_found P true l rest h k = h
by_found P false l rest h k = k

local_numbers : (P : ℕ → Type 0) (test : Local → Bool) (ls : List Local) → AllNumbers P ls → IfLocal P (find test ls)
local_numbers P test [] h = tt
local_numbers P test (l ∷ ls) h = by_found P (test l) l (find test ls) h.0 (local_numbers P test ls h.1)

if_number : (P : ℕ → Type 0) (o : Option ℕ) (kind : SpecKind) → ((n : ℕ) → o ≡ Some n → P n) → IfNumber P (ok_or o kind)
if_number P None kind h = tt
if_number P (Some n) kind h = h n refl

if_let : (P : ℕ → Type 0) (b : Bool) (o : Option ℕ) → ((n : ℕ) → o ≡ Some n → P n) → IfNumber P (cond b (ok_or o faults.UnknownName) (Err faults.AssignCaptured))
if_let P true o h = if_number P o faults.UnknownName h
if_let P false o h = tt

by_local : (P : ℕ → Type 0) (o : Option Local) (body : Bool) (rest : Result ℕ SpecKind) → IfLocal P o → (body ≡ false → IfNumber P rest)
    → IfNumber P (elim o [ Some l ↦ assigned_local l | None ↦ cond body (Err faults.AssignCaptured) rest ])
by_local P (Some l) body rest h k = if_let P l.is_let l.number h
by_local P None true rest h k = tt
by_local P None false rest h k = k refl

pub assigned_own : (P : ℕ → Type 0) (first : ℕ) (blocks : List Block) (x : List ℕ) → InBlocks P blocks → IsOwnFrom first blocks
    → IfNumber (λ n. (first ≤ n) × P n) (assigned blocks x)
assigned_own P first [] x h own = tt
assigned_own P first (b ∷ bs) x h own =
    by_local (λ n. (first ≤ n) × P n) (local_in x b) b.is_body (assigned bs x)
    (local_numbers (λ n. (first ≤ n) × P n) (λ l. bytes_eq l.name x) b.locals (both_numbers b.locals own.0 h.0))
    (λ outside. assigned_own P first bs x h.1 (own.1 outside))
  where
    both_numbers : (ls : List Local) → AllNumbers (λ n. first ≤ n) ls → AllNumbers P ls → AllNumbers (λ n. (first ≤ n) × P n) ls
    both_numbers [] low p = tt
    both_numbers (l ∷ ls) low p = (λ n e. (low.0 n e, p.0 n e), both_numbers ls low.1 p.1)
