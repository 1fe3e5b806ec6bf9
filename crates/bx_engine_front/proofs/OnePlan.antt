-- A tree comes to one plan or to one fault.
use Rattle.std.proofs.Common.{◌≡◌, ℕ, ◌<◌, Bool, true, false, List, [], ◌∷◌, zero, suc, length, slice_get, inl, inr, ap, sym, subst, ◌∙◌, arith}
use Rattle.std.specs.Prelude.{Result, Ok, Err, Option, Some}
use Rattle.std.proofs.lemmas.Bool.{cases_lt}
use Rattle.bx_tree.specs.Paths.{Atoms}
use Rattle.bx_tree.specs.Trees.{Files}
use Rattle.dscript_eval_meaning.specs.Meaning.{Refusal, Refused as Stopped, Unnumbered, meaning}
use Rattle.dscript_eval_meaning.specs.declared.fault.EvalKind.{EvalKind}
use Rattle.dscript_program.specs.ProgramData.{FileData, ProgramData}
use Rattle.dscript_types_meaning.specs.Typed.{IsFirstUntyped, is_typed_file}
use Rattle.graph_check.specs.Rules.{KeepsRules, IsFirstBrokenRule as IsFirstBroken}
use Rattle.graph_check.specs.declared.fault.GraphKind.{GraphKind}
use Rattle.pip_model_types.specs.declared.pip.Pip.{Pip}
use Rattle.bx_engine_front.specs.Specifications.{AsksForTooMany, HasFault, IsProgram, MakesPips, PassesTypes, Plans, SpecificationFault, OfProgram, OfTypes, OfEvaluation, OfGraph}
use Rattle.bx_engine_front.specs.declared.limits.Limits.{Limits}
use Rattle.bx_engine_front.proofs.OneProgram.{malformed_or_program, one_malformed, one_program}

-- ## Answers of evaluation

two_pips : (p q : List Pip) (r : Result (List Pip) Refusal) → r ≡ Ok p → r ≡ Ok q → p ≡ q
two_pips p q r h k = cc

pips_or_stop : (p : List Pip) (s : Refusal) (r : Result (List Pip) Refusal) → r ≡ Ok p → r ≡ Err s → ⊥
pips_or_stop p s r h k = cc

stop_or_many : (which : EvalKind) (file : Atoms) (message : Option (List ℕ)) (r : Result (List Pip) Refusal) → r ≡ Err (Stopped which file message)
    → r ≡ Err Unnumbered → ⊥
stop_or_many which file message r h k = cc

two_stops : (a b : EvalKind) (f g : Atoms) (m n : Option (List ℕ)) (r : Result (List Pip) Refusal) → r ≡ Err (Stopped a f m) → r ≡ Err (Stopped b g n)
    → OfEvaluation a f m ≡ OfEvaluation b g n
two_stops a b f g m n r h k =
    let kinds : a ≡ b = cc in let files : f ≡ g = cc in let messages : m ≡ n = cc in
    ap (λ x. OfEvaluation x f m) kinds ∙ ap (λ (x : Atoms). OfEvaluation b x m) files ∙ ap (λ (x : Option (List ℕ)). OfEvaluation b g x) messages

-- two programs of a tree are evaluated alike
one_meaning : (limits : Limits) (tree : Files) (p q : ProgramData) → IsProgram tree p → IsProgram tree q
    → meaning p tree limits.eval_budget ≡ meaning q tree limits.eval_budget
one_meaning limits tree p q h k = ap (λ (x : ProgramData). meaning x tree limits.eval_budget) (one_program tree p q h k)

one_list : (limits : Limits) (tree : Files) (p q : List Pip) → MakesPips limits tree p → MakesPips limits tree q → p ≡ q
one_list limits tree p q h k =
    two_pips p q (meaning k.program tree limits.eval_budget)
    (sym (one_meaning limits tree h.program k.program h.is_program k.is_program) ∙ h.evaluates) k.evaluates

pub one_plan_lem : (limits : Limits) (tree : Files) (p q : List Pip) → Plans limits tree p → Plans limits tree q → p ≡ q
one_plan_lem limits tree p q h k = one_list limits tree p q h.makes k.makes

-- ## Types

-- what is got from a list is within it
get_within : {X : Type 0} (xs : List X) (n : ℕ) (x : X) → slice_get xs n ≡ Some x → n < length xs
get_within [] n x e = absurd cc
get_within (y ∷ ys) zero x e = omega arith
get_within (y ∷ ys) (suc n) x e = omega (arith, get_within ys n x e)

-- the file of a number is one file
one_place : (p : ProgramData) (n : ℕ) (f g : FileData) → slice_get p.files n ≡ Some f → slice_get p.files n ≡ Some g → f ≡ g
one_place p n f g h k = cc

true_or_false : (b : Bool) → b ≡ true → b ≡ false → ⊥
true_or_false b h k = cc

-- the first untyped files of a program have one number
one_number : (p : ProgramData) (a b : Atoms) (h : IsFirstUntyped p a) (k : IsFirstUntyped p b) → h.number ≡ k.number
one_number p a b h k = elim (cases_lt h.number k.number) [
  | inl l ↦ absurd (true_or_false (is_typed_file p h.number) (k.before h.number l) h.untyped)
  | inr l ↦ elim (cases_lt k.number h.number) [
    | inl m ↦ absurd (true_or_false (is_typed_file p k.number) (h.before k.number m) k.untyped)
    | inr m ↦ omega (arith, l, m)
  ]
]

one_untyped : (p : ProgramData) (a b : Atoms) → IsFirstUntyped p a → IsFirstUntyped p b → a ≡ b
one_untyped p a b h k =
    let same = subst (λ n. slice_get p.files n ≡ Some h.file) (one_number p a b h k) h.is in
    sym h.at ∙ ap (λ (f : FileData). f.path) (one_place p k.number h.file k.file same k.is) ∙ k.at

-- a program that passes is untyped nowhere
passes_or_untyped : (limits : Limits) (p : ProgramData) (a : Atoms) → limits.types ≡ true → PassesTypes limits p → IsFirstUntyped p a → ⊥
passes_or_untyped limits p a asked passes h =
    true_or_false (is_typed_file p h.number) (passes asked h.number (get_within p.files h.number h.file h.is)) h.untyped

-- two programs of a tree are one
same_tree_passes : (limits : Limits) (tree : Files) (p q : ProgramData) → IsProgram tree p → IsProgram tree q → PassesTypes limits p → PassesTypes limits q
same_tree_passes limits tree p q h k passes = subst (PassesTypes limits) (one_program tree p q h k) passes

typed_or_untyped : (limits : Limits) (tree : Files) (p : ProgramData) (a : Atoms) → IsProgram tree p → PassesTypes limits p
    → HasFault limits tree (OfTypes a) → ⊥
typed_or_untyped limits tree p a h passes k =
    passes_or_untyped limits k.1 a k.0 (same_tree_passes limits tree p k.1 h k.2 passes) k.3

-- ## Faults

pips_or_fault : (limits : Limits) (tree : Files) (pips : List Pip) (p : ProgramData) (which : EvalKind) (file : Atoms) (message : Option (List ℕ))
    → MakesPips limits tree pips → IsProgram tree p → meaning p tree limits.eval_budget ≡ Err (Stopped which file message) → ⊥
pips_or_fault limits tree pips p which file message h k is =
    pips_or_stop pips (Stopped which file message) (meaning p tree limits.eval_budget)
    (sym (one_meaning limits tree h.program p h.is_program k) ∙ h.evaluates) is

-- The rules of the graph have one first failure, which rules out that all hold.
pub record OneFailure : Type 0 where
  pub rule : (pips : List Pip) (tree : Files) (a b : GraphKind) (i j : ℕ) (f g : Atoms) → IsFirstBroken pips tree a i f → IsFirstBroken pips tree b j g
      → a ≡ b
  pub file : (pips : List Pip) (tree : Files) (a b : GraphKind) (i j : ℕ) (f g : Atoms) → IsFirstBroken pips tree a i f → IsFirstBroken pips tree b j g
      → f ≡ g
  pub never : (pips : List Pip) (tree : Files) (a : GraphKind) (i : ℕ) (f : Atoms) → KeepsRules pips tree → IsFirstBroken pips tree a i f → ⊥

one_rule : (one : OneFailure) (limits : Limits) (tree : Files) (a b : GraphKind) (f g : Atoms) → HasFault limits tree (OfGraph a f)
    → HasFault limits tree (OfGraph b g) → OfGraph a f ≡ OfGraph b g
one_rule one limits tree a b f g h k =
    let first = subst (λ (pips : List Pip). IsFirstBroken pips tree a h.2 f) (one_list limits tree h.0 k.0 h.1 k.1) h.3 in
    ap (λ x. OfGraph x f) (one.rule k.0 tree a b h.2 k.2 f g first k.3)
    ∙ ap (λ (x : Atoms). OfGraph b x) (one.file k.0 tree a b h.2 k.2 f g first k.3)

pub one_fault : (one : OneFailure) (limits : Limits) (tree : Files) (f g : SpecificationFault) → HasFault limits tree f → HasFault limits tree g → f ≡ g
one_fault one limits tree (OfProgram f) (OfProgram g) h k = ap OfProgram (one_malformed tree f g h k)
one_fault one limits tree (OfProgram f) (OfTypes a) h k = absurd (malformed_or_program tree f k.1 h k.2)
one_fault one limits tree (OfTypes a) (OfProgram g) h k = absurd (malformed_or_program tree g h.1 k h.2)
one_fault one limits tree (OfTypes a) (OfTypes b) h k =
    ap OfTypes (one_untyped k.1 a b (subst (λ (p : ProgramData). IsFirstUntyped p a) (one_program tree h.1 k.1 h.2 k.2) h.3) k.3)
one_fault one limits tree (OfTypes a) (OfEvaluation which file message) h k = absurd (typed_or_untyped limits tree k.0 a k.1 k.2 h)
one_fault one limits tree (OfTypes a) (OfGraph rule file) h k = absurd (typed_or_untyped limits tree k.1.program a k.1.is_program k.1.types h)
one_fault one limits tree (OfEvaluation which file message) (OfTypes b) h k = absurd (typed_or_untyped limits tree h.0 b h.1 h.2 k)
one_fault one limits tree (OfGraph rule file) (OfTypes b) h k = absurd (typed_or_untyped limits tree h.1.program b h.1.is_program h.1.types k)
one_fault one limits tree (OfProgram f) (OfEvaluation which file message) h k = absurd (malformed_or_program tree f k.0 h k.1)
one_fault one limits tree (OfProgram f) (OfGraph rule file) h k = absurd (malformed_or_program tree f k.1.program h k.1.is_program)
one_fault one limits tree (OfEvaluation which file message) (OfProgram g) h k = absurd (malformed_or_program tree g h.0 k h.1)
one_fault one limits tree (OfEvaluation a f m) (OfEvaluation b g n) h k =
    two_stops a b f g m n (meaning k.0 tree limits.eval_budget) (sym (one_meaning limits tree h.0 k.0 h.1 k.1) ∙ h.3) k.3
one_fault one limits tree (OfEvaluation which file message) (OfGraph rule g) h k =
    absurd (pips_or_fault limits tree k.0 h.0 which file message k.1 h.1 h.3)
one_fault one limits tree (OfGraph rule file) (OfProgram g) h k = absurd (malformed_or_program tree g h.1.program k h.1.is_program)
one_fault one limits tree (OfGraph rule file) (OfEvaluation which g message) h k =
    absurd (pips_or_fault limits tree h.0 k.0 which g message h.1 k.1 k.3)
one_fault one limits tree (OfGraph a f) (OfGraph b g) h k = one_rule one limits tree a b f g h k

pub plan_or_fault : (one : OneFailure) (limits : Limits) (tree : Files) (pips : List Pip) (fault : SpecificationFault) → Plans limits tree pips
    → HasFault limits tree fault → ⊥
plan_or_fault one limits tree pips (OfProgram f) h k = malformed_or_program tree f h.makes.program k h.makes.is_program
plan_or_fault one limits tree pips (OfTypes a) h k = typed_or_untyped limits tree h.makes.program a h.makes.is_program h.makes.types k
plan_or_fault one limits tree pips (OfEvaluation which file message) h k = pips_or_fault limits tree pips k.0 which file message h.makes k.1 k.3
plan_or_fault one limits tree pips (OfGraph rule file) h k =
    one.never k.0 tree rule k.2 file (subst (λ (ps : List Pip). KeepsRules ps tree) (one_list limits tree pips k.0 h.makes k.1) h.rules) k.3

-- ## Too many pips

many_or_list : (limits : Limits) (tree : Files) (pips : List Pip) → AsksForTooMany limits tree → MakesPips limits tree pips → ⊥
many_or_list limits tree pips h k =
    pips_or_stop pips Unnumbered (meaning k.program tree limits.eval_budget) k.evaluates
    (sym (one_meaning limits tree h.program k.program h.is_program k.is_program) ∙ h.unnumbered)

pub many_or_plan : (limits : Limits) (tree : Files) (pips : List Pip) → AsksForTooMany limits tree → Plans limits tree pips → ⊥
many_or_plan limits tree pips h k = many_or_list limits tree pips h k.makes

pub many_or_fault : (limits : Limits) (tree : Files) (fault : SpecificationFault) → AsksForTooMany limits tree → HasFault limits tree fault → ⊥
many_or_fault limits tree (OfProgram f) h k = malformed_or_program tree f h.program k h.is_program
many_or_fault limits tree (OfTypes a) h k = typed_or_untyped limits tree h.program a h.is_program h.types k
many_or_fault limits tree (OfEvaluation which file message) h k =
    stop_or_many which file message (meaning k.0 tree limits.eval_budget) k.3
    (sym (one_meaning limits tree h.program k.0 h.is_program k.1) ∙ h.unnumbered)
many_or_fault limits tree (OfGraph rule file) h k = many_or_list limits tree k.0 h k.1
