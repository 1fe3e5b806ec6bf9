-- Where declared functions stand, with their parameters as locals, and their annotations.
use Rattle.std.proofs.Common.{◌&&◌, ◌++◌, ◌+◌, ◌<◌, ◌∙◌, ◌∷◌, ◌≡◌, ◌≤◌, ℕ, Bool, List, None, Option, Some, [], ap, append_assoc, arith, drop, false, get_or, if◌then◌else◌, length, map, not, refl, subst, sym, true}
use Rattle.dscript_ast.specs.Views.{param_tree}
use Rattle.dscript_ast.specs.declared.expr.Param.{Param}
use Rattle.dscript_program.specs.BoundTree.{BodyData}
use Rattle.dscript_program.specs.ProgramData.{DeclData, Dotted, KindData, ProgramData}
use Rattle.dscript_types_known.specs.Findings.{Finding, Found, Nothing, Tells}
use Rattle.dscript_types_known.specs.Matching.{FoundLocal, LocalMatches}
use Rattle.dscript_types_known.specs.Views.{locals_at}
use Rattle.dscript_types_known.specs.declared.locals.Locals.{Locals}
use Rattle.dscript_types_meaning.specs.Bodies.{annotated, may_end}
use Rattle.dscript_types_meaning.specs.Contexts.{Context, Fixed, Known, Local}
use Rattle.dscript_types_meaning.specs.Fits.{fits}
use Rattle.dscript_types_meaning.specs.Functions.{context_of, declared_locals, declared_parameter, parameter}
use Rattle.dscript_types_meaning.specs.Lookups.{around}
use Rattle.dscript_types_meaning.specs.Typed.{known_within}
use Rattle.dscript_types_meaning.specs.Types.{TypeData}
use Rattle.dscript_types_meaning.specs.Unions.{undefined_type}
use Rattle.dscript_types_notes.proofs.Meant.{append_nil, drop_all, drop_next}
use Rattle.dscript_types_notes.specs.Means.{IsAt, Says, found_if, program_of}
use Rattle.dscript_types_notes.specs.declared.world.Place.{Place}
use Rattle.dscript_types_notes.specs.declared.world.World.{World}
use Rattle.dscript_types_scenes.proofs.Pushing.{AreBelow, at_number, more_below, none_below, pushed}
use Rattle.dscript_types_scenes.specs.Declarations.{FindsLocals, IsPlaceOf, parameters_of}
use Rattle.dscript_types_scenes.specs.Scenes.{Closed, with_found}

-- ## The same, said in another way

pub says_as
    : {X : Type 0} (w : World) (place : Place) (f : Finding X) (a b : ProgramData → Known → Context → Option X)
    → ((p : ProgramData) (known : Known) (c : Context) → a p known c ≡ b p known c) → Says w place f a → Says w place f b
says_as w place f a b same says n more c below within at =
    subst (λ o. Tells (Closed w more) n f o) (same (program_of w) (known_within (program_of w) n) c) (says n more c below within at)

-- ## The parameters of a function, as locals

module _ (w : World) (place : Place) (first : ℕ) (params : List Param) where
  abbrev whole : ProgramData → Known → Context → List Local
  whole p known c = declared_locals p known c first (map param_tree params)

  abbrev left_of : ℕ → ℕ → ProgramData → Known → Context → List Local
  left_of i number p known c = declared_locals p known c number (map param_tree (drop i params))

  -- the locals of the parameters before this one
  abbrev pub LocalsGo : ℕ → Locals → ℕ → Type 0
  LocalsGo i locals number =
      (n more : ℕ) (c : Context) → n ≤ more → n ≤ w.left → IsAt place c
      → (done : List Local)
      × (whole (program_of w) (known_within (program_of w) n) c ≡ done ++ left_of i number (program_of w) (known_within (program_of w) n) c)
      × AreBelow done number
      × ((k : ℕ) → LocalMatches (Closed w more) n (locals_at locals k) (at_number done k))

  pub locals_begin : (locals : Locals) → ((k : ℕ) → locals_at locals k ≡ None) → LocalsGo 0 locals first
  locals_begin locals none n more c below within at = (
    [],
    refl,
    none_below first,
    λ k. subst (λ (o : Option FoundLocal). LocalMatches (Closed w more) n o None) (sym (none k)) tt,
  )

  pub locals_go
      : (i : ℕ) (locals new : Locals) (number next : ℕ) (param : Param) (f : Finding TypeData) → LocalsGo i locals number
      → i < length params → param ≡ get_or params i param → next ≡ number + 1
      → Says w place f (λ p known c. declared_parameter p known c (param_tree param))
      → ((k : ℕ) → locals_at new k ≡ with_found (locals_at locals) number (record { type_data = f; hold = Fixed }) k)
      → LocalsGo (i + 1) new next
  locals_go i locals new number next param f goes l e numbers says adds =
      subst (λ (j : ℕ). LocalsGo (i + 1) new j) (sym numbers) going
    where
      going : LocalsGo (i + 1) new (number + 1)
      going n more c below within at =
          let p = program_of w in let known = known_within p n in
          let g = goes n more c below within at in
          let own : Local = parameter number (declared_parameter p known c (param_tree param)) in
          let fl : FoundLocal = record { type_data = f; hold = Fixed } in (
            g.0 ++ own ∷ [],
            g.1
                ∙ ap (λ ps. g.0 ++ declared_locals p known c number (map param_tree ps)) (drop_next params i param l e)
                ∙ sym (append_assoc g.0 (own ∷ []) (left_of (i + 1) (number + 1) p known c)),
            more_below g.0 number own refl g.2,
            λ k. subst (λ (o : Option FoundLocal). LocalMatches (Closed w more) n o (at_number (g.0 ++ own ∷ []) k)) (sym (adds k))
                (pushed (Closed w more) n (locals_at locals) g.0 [] number fl own refl (g.2 number (omega arith))
                (refl, says n more c below within at)
                (λ j. subst (λ (ls : List Local). LocalMatches (Closed w more) n (locals_at locals j) (at_number ls j)) (sym (append_nil g.0))
                (g.3 j)) k),
          )

  pub locals_end
      : (i : ℕ) (locals : Locals) (number : ℕ) → length params ≤ i → LocalsGo i locals number → FindsLocals w place locals whole
  locals_end i locals number l goes n more c below within at k =
      let p = program_of w in let known = known_within p n in
      let g = goes n more c below within at in
      subst (λ (ls : List Local). LocalMatches (Closed w more) n (locals_at locals k) (at_number ls k))
      (sym (g.1 ∙ ap (λ ps. g.0 ++ declared_locals p known c number (map param_tree ps)) (drop_all params i l) ∙ append_nil g.0)) (g.3 k)

-- ## Declarations

-- the names of the namespaces around a declaration
pub around_last : (xs : Dotted) (x : List ℕ) → around (xs ++ x ∷ []) ≡ xs
around_last [] x = refl
around_last (y ∷ []) x = refl
around_last (y ∷ z ∷ xs) x = ap (λ ys. y ∷ ys) (around_last (z ∷ xs) x)

module _ (w : World) (place : Place) (file : ℕ) (d : DeclData) (outer : Dotted) (arounds : around d.name ≡ outer)
    (is : IsPlaceOf place file outer d.kind) where
  abbrev stands : Context
  stands = context_of file d (parameters_of d.kind)

  pub at_decl : IsAt place stands
  at_decl = record { file = sym is.file; around = arounds ∙ sym is.around; parameters = sym is.parameters }

-- ## Annotations of functions

module _ (body : BodyData) (t : TypeData) (rank : ℕ) (ends : Bool) (is : ends ≡ may_end body) where
  abbrev by_end : Bool → Bool → Finding TypeData
  by_end b fit = found_if (if b && not fit then None else Some t) rank

  at_end : (b fit : Bool) → ends ≡ b → fits undefined_type t ≡ fit → by_end b fit ≡ found_if (annotated body t) rank
  at_end b fit e f =
      ap (λ q. by_end q fit) (sym e ∙ is) ∙ ap (by_end (may_end body)) (sym f)

  pub never_ends : ends ≡ false → Found t rank ≡ found_if (annotated body t) rank
  never_ends e = at_end false (fits undefined_type t) e refl

  pub ends_fitting : (u : TypeData) (fit : Bool) → u ≡ undefined_type → fit ≡ fits u t → fit ≡ true
      → Found t rank ≡ found_if (annotated body t) rank
  ends_fitting u fit same made passed = by_both ends refl
    where
      by_both : (b : Bool) → ends ≡ b → Found t rank ≡ found_if (annotated body t) rank
      by_both true e = at_end true true e (ap (λ v. fits v t) (sym same) ∙ sym made ∙ passed)
      by_both false e = at_end false true e (ap (λ v. fits v t) (sym same) ∙ sym made ∙ passed)

  pub ends_unfit : (u : TypeData) (fit : Bool) → u ≡ undefined_type → fit ≡ fits u t → ends ≡ true → fit ≡ false
      → Nothing ≡ found_if (annotated body t) rank
  ends_unfit u fit same made e fails = at_end true false e (ap (λ v. fits v t) (sym same) ∙ sym made ∙ fails)

-- ## The place of a declaration of a kind

pub at_kind
    : (place : Place) (file : ℕ) (d : DeclData) (k : KindData) → d.kind ≡ k → IsAt place (context_of file d (parameters_of d.kind))
    → IsAt place (context_of file d (parameters_of k))
at_kind place file d k is at = subst (λ (q : KindData). IsAt place (context_of file d (parameters_of q))) is at
