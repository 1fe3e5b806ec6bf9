-- Each tree comes to a plan or to a fault, or asks for more pips than can be numbered.
use Rattle.std.proofs.Common.{◌≡◌, ℕ, zero, suc, ◌<◌, Bool, true, false, ◌⊎◌, List, [], ◌∷◌, length, slice_get, inl, inr, refl, subst, arith}
use Rattle.std.specs.Prelude.{Result, Ok, Err, Some}
use Rattle.std.proofs.lemmas.Bool.{cases_Bool, cases_lt}
use Rattle.bx_tree.specs.Trees.{Files}
use Rattle.dscript_eval_meaning.specs.Meaning.{Refusal, Refused as Stopped, Unnumbered, meaning}
use Rattle.dscript_program.specs.SpecFaults.{FaultData}
use Rattle.dscript_program.specs.Workspaces.{ModuleData}
use Rattle.dscript_names.specs.Named.{named}
use Rattle.dscript_types_meaning.specs.Typed.{is_typed_file}
use Rattle.dscript_program.specs.ProgramData.{ProgramData}
use Rattle.dscript_names_scopes.specs.Declarations.{ParsedData}
use Rattle.dscript_names_workspace.proofs.SomeAnswer.{some_answer}
use Rattle.dscript_names_workspace.specs.Finding.{Finds}
use Rattle.dscript_names_workspace.specs.Workspaces.{Answer, Found, Refused}
use Rattle.graph_check.proofs.Verdicts.{some_answer_lem}
use Rattle.pip_model_types.specs.declared.pip.Pip.{Pip}
use Rattle.dscript_names.specs.ProjectFiles.{project_files}
use Rattle.bx_engine_front.specs.Specifications.{HasAnswer, HasModules, IsProgram, MakesPips, PassesTypes, OfProgram, OfTypes, OfEvaluation, OfGraph}
use Rattle.bx_engine_front.specs.declared.limits.Limits.{Limits}
use Rattle.bx_engine_front.proofs.ProjectFaults.{some_first_fault, some_parsing}

true_or_false : (b : Bool) → b ≡ true → b ≡ false → ⊥
true_or_false b h k = cc

of_pips : (limits : Limits) (tree : Files) (pips : List Pip) → MakesPips limits tree pips → HasAnswer limits tree
of_pips limits tree pips h = elim (some_answer_lem pips tree) [
  | inl keeps ↦ inl (pips, record { makes = h; rules = keeps })
  | inr first ↦ inr (inl (OfGraph first.0 first.2, (pips, h, first.1, first.3)))
]

of_typed : (limits : Limits) (tree : Files) (program : ProgramData) → IsProgram tree program → PassesTypes limits program → HasAnswer limits tree
of_typed limits tree program h types = by_meaning (meaning program tree limits.eval_budget) refl
  where
    by_meaning : (r : Result (List Pip) Refusal) → meaning program tree limits.eval_budget ≡ r → HasAnswer limits tree
    by_meaning (Ok pips) e = of_pips limits tree pips (record { program = program; is_program = h; types = types; evaluates = e })
    by_meaning (Err (Stopped kind file message)) e = inr (inl (OfEvaluation kind file message, (program, h, types, e)))
    by_meaning (Err Unnumbered) e = inr (inr (record { program = program; is_program = h; types = types; unnumbered = e }))

-- the first number at which a test fails, or that it fails at none
first_failing : (test : ℕ → Bool) (n : ℕ)
    → ((i : ℕ) → i < n → test i ≡ true)
    ⊎ ((i : ℕ) × (i < n) × (test i ≡ false) × ((j : ℕ) → j < i → test j ≡ true))
first_failing test zero = inl (λ i l. absurd (omega (arith, l)))
first_failing test (suc n) = elim (first_failing test n) [
  | inr found ↦ inr (found.0, omega (arith, found.1), found.2, found.3)
  | inl all ↦ elim (cases_Bool (test n)) [
    | inl passed ↦ inl (λ i l. elim (cases_lt i n) [
      | inl m ↦ all i m
      | inr m ↦ subst (λ k. test k ≡ true) (let e : n ≡ i = omega (arith, l, m) in e) passed
    ])
    | inr no_type ↦ inr (n, omega arith, no_type, all)
  ]
]

got : {X : Type 0} (xs : List X) (n : ℕ) → n < length xs → (x : X) × (slice_get xs n ≡ Some x)
got [] n l = absurd (omega (arith, l))
got (x ∷ xs) zero l = (x, refl)
got (x ∷ xs) (suc n) l = got xs n (omega (arith, l))

untyped_at : (limits : Limits) (tree : Files) (program : ProgramData) → IsProgram tree program → limits.types ≡ true → (n : ℕ)
    → n < length program.files → is_typed_file program n ≡ false → ((j : ℕ) → j < n → is_typed_file program j ≡ true) → HasAnswer limits tree
untyped_at limits tree program h asked n l untyped before =
    let file = got program.files n l in
    inr (inl (
      OfTypes file.0.path,
      (
        asked,
        program,
        h,
        record {
          number = n;
          file = file.0;
          is = file.1;
          at = refl;
          untyped = untyped;
          before = before;
        },
      ),
    ))

of_asked : (limits : Limits) (tree : Files) (program : ProgramData) → IsProgram tree program → limits.types ≡ true → HasAnswer limits tree
of_asked limits tree program h asked = elim (first_failing (λ n. is_typed_file program n) (length program.files)) [
  | inl all ↦ of_typed limits tree program h (λ e n l. all n l)
  | inr found ↦ untyped_at limits tree program h asked found.0 found.1 found.2 found.3
]

of_program : (limits : Limits) (tree : Files) (program : ProgramData) → IsProgram tree program → HasAnswer limits tree
of_program limits tree program h = elim (cases_Bool limits.types) [
  | inl asked ↦ of_asked limits tree program h asked
  | inr unasked ↦ of_typed limits tree program h (λ asked. absurd (true_or_false limits.types asked unasked))
]

of_files : (limits : Limits) (tree : Files) (modules : List ModuleData) (parsed : List ParsedData) → HasModules tree modules parsed → HasAnswer limits tree
of_files limits tree modules parsed h = by_names (named modules parsed) refl
  where
    by_names : (r : Result ProgramData FaultData) → named modules parsed ≡ r → HasAnswer limits tree
    by_names (Ok program) e = of_program limits tree program (record { modules = modules; parsed = parsed; reads = h; names = e })
    by_names (Err fault) e = inr (inl (OfProgram fault, inr (inr (modules, parsed, h, e))))

of_modules : (limits : Limits) (tree : Files) (modules : List ModuleData) → Finds tree (Found modules) → HasAnswer limits tree
of_modules limits tree modules h = elim (some_first_fault (project_files tree modules)) [
  | inl well ↦
      let parsed = some_parsing (project_files tree modules) well in
      of_files limits tree modules parsed.0 (record { finds = h; parses = parsed.1 })
  | inr ill ↦ inr (inl (OfProgram ill.0, inr (inl (modules, h, ill.1))))
]

of_answer : (limits : Limits) (tree : Files) (answer : Answer) → Finds tree answer → HasAnswer limits tree
of_answer limits tree (Found modules) h = of_modules limits tree modules h
of_answer limits tree (Refused fault) h = inr (inl (OfProgram fault, inl h))

pub some_plan_lem : (limits : Limits) (tree : Files) → HasAnswer limits tree
some_plan_lem limits tree = let found = some_answer tree in of_answer limits tree found.0 found.1
