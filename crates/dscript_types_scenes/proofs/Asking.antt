-- What a declared function answers.
use Rattle.std.proofs.Common.{◌<◌, ◌∙◌, ◌≡◌, ◌≤◌, ℕ, Bool, List, None, Option, Some, ap, arith, false, if◌then◌else◌, inl, inr, subst, sym, true}
use Rattle.std.proofs.Math.Nat.{le-max_left, le-max_right}
use Rattle.std.proofs.lemmas.Bool.{cases_lt}
use Rattle.std.specs.Option.{option_and_then}
use Rattle.dscript_ast.specs.TypeTree.{TypeTree}
use Rattle.dscript_program.specs.ProgramData as kinds
use Rattle.dscript_program.specs.ProgramData.{DeclData, FunctionData, KindData, ProgramData}
use Rattle.dscript_types_known.specs.Findings.{Finding, Found, Nothing, Open, Tells}
use Rattle.dscript_types_known.specs.Tables.{ask_of}
use Rattle.dscript_types_meaning.specs.Contexts.{Answer, Context, Known}
use Rattle.dscript_types_meaning.specs.Functions.{all_parameters, answer_at, answer_of_decl, answer_of_kind, context_of, function_type, parameters_fit}
use Rattle.dscript_types_meaning.specs.Lookups.{decl_at, function_at}
use Rattle.dscript_types_meaning.specs.Typed.{known_within}
use Rattle.dscript_types_meaning.specs.Types.{TypeData}
use Rattle.dscript_types_notes.proofs.Going.{under_both}
use Rattle.dscript_types_notes.specs.Means.{IsAt, Says, program_of, raised}
use Rattle.dscript_types_notes.specs.declared.world.Place.{Place}
use Rattle.dscript_types_notes.specs.declared.world.World.{World}
use Rattle.dscript_types_scenes.specs.Scenes.{Closed, FindsAnywhere}

-- after something that is known from a rank on
raised_tells
    : {X : Type 0} (closed : Type 0) (n rank : ℕ) (f : Finding X) (o whole : Option X) → (rank ≤ n → whole ≡ o) → (n < rank → whole ≡ None)
    → Tells closed n f o → Tells closed n (raised rank f) whole
raised_tells closed n rank (Found x from) o whole here before tells = (
  λ l. here (omega (arith, l, le-max_left rank from)) ∙ tells.0 (omega (arith, l, le-max_right rank from)),
  λ l. elim (cases_lt n rank) [
    | inl less ↦ before less
    | inr over ↦ here over ∙ tells.1 (under_both rank from n over l)
  ],
)
raised_tells closed n rank Nothing o whole here before tells = elim (cases_lt n rank) [
  | inl less ↦ before less
  | inr over ↦ here over ∙ tells
]
raised_tells closed n rank Open o whole here before tells = λ c. elim (cases_lt n rank) [
  | inl less ↦ before less
  | inr over ↦ here over ∙ tells c
]

module _ (w : World) (file decl : ℕ) (given : List TypeData) where
  abbrev pub answer_of : ProgramData → Known → Option TypeData
  answer_of p known = function_type p known file decl given

  at_decl : (o : Option DeclData) → decl_at (program_of w) file decl ≡ o → (known : Known)
      → answer_of (program_of w) known ≡ answer_of_decl (program_of w) known file decl given o
  unfolding function_type
  at_decl o e known = ap (answer_of_decl (program_of w) known file decl given) e

  pub none_there : None ≡ decl_at (program_of w) file decl → FindsAnywhere w Nothing answer_of
  none_there none n more below within = at_decl None (sym none) (known_within (program_of w) n)

  module _ (d : DeclData) (there : Some d ≡ decl_at (program_of w) file decl) where
    pub no_function
        : ((known : Known) → answer_of_kind (program_of w) known file decl d given d.kind ≡ None) → FindsAnywhere w Nothing answer_of
    no_function none n more below within =
        at_decl (Some d) (sym there) (known_within (program_of w) n) ∙ none (known_within (program_of w) n)

    module _ (ts : List (List ℕ)) (note : Option TypeTree) (number : ℕ) (kind : d.kind ≡ kinds.Function ts note number) where
      at_function : (o : Option FunctionData) → function_at (program_of w) number ≡ o → (known : Known)
          → answer_of (program_of w) known ≡ answer_at (program_of w) known file decl (context_of file d ts) given o
      at_function o e known =
          at_decl (Some d) (sym there) known ∙ ap (answer_of_kind (program_of w) known file decl d given) kind
          ∙ ap (answer_at (program_of w) known file decl (context_of file d ts) given) e

      pub function_missing : function_at (program_of w) number ≡ None → FindsAnywhere w Nothing answer_of
      function_missing none n more below within = at_function None none (known_within (program_of w) n)

      module _ (f : FunctionData) (has : function_at (program_of w) number ≡ Some f) (place : Place)
          (at : IsAt place (context_of file d ts)) where
        abbrev parameters_of : ProgramData → Known → Context → Option (List TypeData)
        parameters_of p known c = all_parameters p known c f.params

        abbrev if_fit : Known → List TypeData → Option TypeData
        if_fit known types = if parameters_fit types given then known (Answer file decl) else None

        step : (known : Known)
            → answer_of (program_of w) known ≡ option_and_then (if_fit known) (parameters_of (program_of w) known (context_of file d ts))
        step known = at_function (Some f) has known

        pub parameters_nothing : Says w place Nothing parameters_of → FindsAnywhere w Nothing answer_of
        parameters_nothing says n more below within =
            let known = known_within (program_of w) n in
            step known ∙ ap (option_and_then (if_fit known)) (says n more (context_of file d ts) below within at)

        pub parameters_open : Says w place Open parameters_of → FindsAnywhere w Open answer_of
        parameters_open says n more below within = λ closed.
            let known = known_within (program_of w) n in
            step known ∙ ap (option_and_then (if_fit known)) (says n more (context_of file d ts) below within at closed)

        module _ (types : List TypeData) (rank : ℕ) (says : Says w place (Found types rank) parameters_of) where
          here
              : (b : Bool) → parameters_fit types given ≡ b → (n more : ℕ) → n ≤ more → n ≤ w.left → rank ≤ n
              → answer_of (program_of w) (known_within (program_of w) n)
              ≡ (if b then known_within (program_of w) n (Answer file decl) else None)
          here b e n more below within l =
              let known = known_within (program_of w) n in
              step known ∙ ap (option_and_then (if_fit known)) ((says n more (context_of file d ts) below within at).0 l)
              ∙ ap (λ (q : Bool). if q then known (Answer file decl) else None) e

          before
              : (n more : ℕ) → n ≤ more → n ≤ w.left → n < rank → answer_of (program_of w) (known_within (program_of w) n) ≡ None
          before n more below within l =
              let known = known_within (program_of w) n in
              step known ∙ ap (option_and_then (if_fit known)) ((says n more (context_of file d ts) below within at).1 l)

          pub unfit : parameters_fit types given ≡ false → FindsAnywhere w Nothing answer_of
          unfit e n more below within = elim (cases_lt n rank) [
            | inl less ↦ before n more below within less
            | inr over ↦ here false e n more below within over
          ]

          pub asks
              : (entry found : Finding TypeData) → parameters_fit types given ≡ true
              → FindsAnywhere w entry (λ p known. known (ask_of file decl d.kind)) → found ≡ raised rank entry
              → FindsAnywhere w found answer_of
          asks entry found e tells is n more below within =
              let known = known_within (program_of w) n in
              subst (λ (g : Finding TypeData). Tells (Closed w more) n g (answer_of (program_of w) known)) (sym is)
              (raised_tells (Closed w more) n rank entry (known (Answer file decl)) (answer_of (program_of w) known)
              (here true e n more below within) (before n more below within)
              (subst (λ (k : KindData). Tells (Closed w more) n entry (known (ask_of file decl k))) kind (tells n more below within)))
