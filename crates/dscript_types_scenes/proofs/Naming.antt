-- What names come to.
use Rattle.std.proofs.Common.{◌∙◌, ◌≡◌, ℕ, List, None, Option, Some, ap, arith, refl, subst, sym}
use Rattle.std.specs.Option.{option_and_then}
use Rattle.dscript_ast.specs.TypeTree.{TypeTree}
use Rattle.dscript_program.specs.BoundTree.{ExprData}
use Rattle.dscript_program.specs.ProgramData as declared
use Rattle.dscript_program.specs.ProgramData.{DeclData}
use Rattle.dscript_program.specs.declared.ambient.Ambient.{Ambient}
use Rattle.dscript_program.specs.declared.target.Target.{Target}
use Rattle.dscript_program.specs.declared.target.Target.TheVariants as targets
use Rattle.dscript_types_known.specs.Findings.{Finding, Tells}
use Rattle.dscript_types_known.specs.Matching.{FoundLocal, LocalMatches}
use Rattle.dscript_types_known.specs.Tables.{IsClosed, IsClosedTo, ask_of, entry}
use Rattle.dscript_types_known.specs.Views.{finding_data, found_local, locals_at}
use Rattle.dscript_types_known.specs.declared.finding.Finding.{Finding as AnyFinding}
use Rattle.dscript_types_known.specs.declared.locals.Local.{Local as AnyLocal}
use Rattle.dscript_types_meaning.specs.Contexts.{◌>>=◌, Constant, Context, Known, Local, Types, gives, local_at, only}
use Rattle.dscript_types_meaning.specs.Expressions as rules
use Rattle.dscript_types_meaning.specs.Expressions.{named, named_decl, named_kind}
use Rattle.dscript_types_meaning.specs.Lookups.{decl_at}
use Rattle.dscript_types_meaning.specs.Typed.{known_within}
use Rattle.dscript_types_meaning.specs.Types.{TypeData}
use Rattle.dscript_types_notes.proofs.Parts.{tells_under}
use Rattle.dscript_types_notes.specs.Means.{IsSound, program_of}
use Rattle.dscript_types_notes.specs.declared.world.World.{World}
use Rattle.dscript_types_scenes.proofs.Going.{at_once, begins, ends}
use Rattle.dscript_types_scenes.proofs.Values.{finding_is}
use Rattle.dscript_types_scenes.specs.Scenes.{Closed, FindsAnywhere, TypesAs}
use Rattle.dscript_types_scenes.specs.Subjects.{in_finding, is_whole}
use Rattle.dscript_types_scenes.specs.Typings.{TypesTo, subject_data}
use Rattle.dscript_types_scenes.specs.declared.found.Seen.{Seen}
use Rattle.dscript_types_scenes.specs.declared.found.Subject.{Subject}
use Rattle.dscript_types_scenes.specs.declared.found.Subject.TheVariants as subjects
use Rattle.dscript_types_scenes.specs.declared.found.Typing.{Typing}
use Rattle.dscript_types_scenes.specs.declared.found.Typing.TheVariants as typings
use Rattle.dscript_types_scenes.specs.declared.scene.Scene.{Scene}

-- ## Locals

module _ (closed : Type 0) (n : ℕ) where
  pub seen_local
      : (f : FoundLocal) (o : Option FoundLocal) (k : Option Local) → o ≡ Some f → LocalMatches closed n o k
      → Tells closed n f.type_data (option_and_then (λ (l : Local). l.type_data) k)
  seen_local f o k e m = at_some f k (subst (λ (q : Option FoundLocal). LocalMatches closed n q k) e m)
    where
      at_some : (f : FoundLocal) (k : Option Local) → LocalMatches closed n (Some f) k
          → Tells closed n f.type_data (option_and_then (λ (l : Local). l.type_data) k)
      at_some f None m = absurd m
      at_some f (Some l) m = m.1

  pub unseen_local : (o : Option FoundLocal) (k : Option Local) → o ≡ None → LocalMatches closed n o k → k ≡ None
  unseen_local o k e m = at_none k (subst (λ (q : Option FoundLocal). LocalMatches closed n q k) e m)
    where
      at_none : (k : Option Local) → LocalMatches closed n None k → k ≡ None
      at_none None m = refl
      at_none (Some l) m = absurd m

module _ (scene : Scene) (number : ℕ) where
  pub local_found
      : (l : AnyLocal) (f : AnyFinding TypeData) → Some (found_local l) ≡ locals_at scene.locals number
      → finding_data f ≡ finding_data l.finding → (w : World)
      → TypesAs subject_data w scene (is_whole (in_finding f)) (λ p known c. named p known c (targets.Local number))
  unfolding named
  local_found l f there same w n more c below within m =
      finding_is (program_of w) (Closed w more) n f (option_and_then (λ (k : Local). k.type_data) (local_at c number))
      (subst (λ (g : Finding TypeData). Tells (Closed w more) n g (option_and_then (λ (k : Local). k.type_data) (local_at c number)))
      (sym same)
      (seen_local (Closed w more) n (found_local l) (locals_at scene.locals number) (local_at c number) (sym there)
      (m.locals number)))

  pub local_missing
      : None ≡ locals_at scene.locals number → (w : World)
      → TypesAs subject_data w scene typings.Nothing (λ p known c. named p known c (targets.Local number))
  unfolding named
  local_missing none w n more c below within m =
      ap (λ (k : Option Local). only (option_and_then (λ (l : Local). l.type_data) k) >>= rules.is)
      (unseen_local (Closed w more) n (locals_at scene.locals number) (local_at c number) (sym none) (m.locals number))

-- ## Declarations

module _ (w : World) (file decl : ℕ) where
  -- what is in the table is what is known
  pub entry_tells
      : (d : DeclData) → IsSound w → decl_at (program_of w) file decl ≡ Some d
      → FindsAnywhere w (entry w.table.now file decl) (λ p known. known (ask_of file decl d.kind))
  entry_tells d sound there n more below within =
      let p = program_of w in
      tells_under (IsClosedTo p w.table.now more) (IsClosed p w.table.now n) n (entry w.table.now file decl) _
      (λ closed. closed n below) (sound.right n file decl d (omega (arith, sound.within)) there)

  named_at
      : (o : Option DeclData) → decl_at (program_of w) file decl ≡ o → (n : ℕ) (c : Context)
      → named (program_of w) (known_within (program_of w) n) c (targets.Declared file decl)
      ≡ named_decl (known_within (program_of w) n) file decl o
  unfolding named
  named_at o e n c = ap (named_decl (known_within (program_of w) n) file decl) e

  module _ (scene : Scene) where
    pub none_declared
        : None ≡ decl_at (program_of w) file decl
        → TypesAs subject_data w scene typings.Nothing (λ p known c. named p known c (targets.Declared file decl))
    none_declared none n more c below within m = named_at None (sym none) n c

    module _ (d : DeclData) (there : Some d ≡ decl_at (program_of w) file decl) where
      pub constant_declared
          : (t : Option TypeTree) (e : ExprData) (f : AnyFinding TypeData) → IsSound w → d.kind ≡ declared.Const t e
          → finding_data f ≡ entry w.table.now file decl
          → TypesAs subject_data w scene (is_whole (in_finding f)) (λ p known c. named p known c (targets.Declared file decl))
      constant_declared t e f sound kind same n more c below within m =
          let p = program_of w in let known = known_within p n in
          subst (λ (o : Types rules.Subject). TypesTo subject_data p (Closed w more) n (is_whole (in_finding f)) o)
          (sym (named_at (Some d) (sym there) n c ∙ ap (named_kind known file decl) kind))
          (finding_is p (Closed w more) n f (known (Constant file decl))
          (subst (λ (g : Finding TypeData). Tells (Closed w more) n g (known (Constant file decl))) (sym same)
          (subst (λ k. Tells (Closed w more) n (entry w.table.now file decl) (known (ask_of file decl k))) kind
          (entry_tells d sound (sym there) n more below within))))

      pub function_declared
          : (ts : List (List ℕ)) (t : Option TypeTree) (number : ℕ) → d.kind ≡ declared.Function ts t number
          → TypesAs subject_data w scene (typings.Found (subjects.Function file decl) at_once)
          (λ p known c. named p known c (targets.Declared file decl))
      function_declared ts t number kind n more c below within m =
          let p = program_of w in let known = known_within p n in
          ends p (Closed w more) n subject_data at_once _ _
          (begins p (Closed w more) n (named p known c (targets.Declared file decl)) (gives (rules.Function file decl))
          (named_at (Some d) (sym there) n c ∙ ap (named_kind known file decl) kind))
          (subjects.Function file decl) refl

      pub type_declared
          : ((known : Known) → named_kind known file decl d.kind ≡ None)
          → TypesAs subject_data w scene typings.Nothing (λ p known c. named p known c (targets.Declared file decl))
      type_declared none n more c below within m = named_at (Some d) (sym there) n c ∙ none (known_within (program_of w) n)

module _ (w : World) (scene : Scene) where
  -- an ambient call
  pub ambient_named
      : (call : Ambient) (seen : Seen) → seen ≡ at_once
      → TypesAs subject_data w scene (typings.Found (subjects.Ambient call) seen) (λ p known c. named p known c (targets.Ambient call))
  unfolding named
  ambient_named call seen is n more c below within m =
      let p = program_of w in let known = known_within p n in
      subst
      (λ (s : Seen). TypesTo subject_data p (Closed w more) n (typings.Found (subjects.Ambient call) s)
      (named p known c (targets.Ambient call)))
      (sym is)
      (ends p (Closed w more) n subject_data at_once _ _
      (begins p (Closed w more) n (named p known c (targets.Ambient call)) (gives (rules.Ambient call)) refl)
      (subjects.Ambient call) refl)

  -- by what a name stands for
  pub by_target
      : (target other : Target) (found : Typing Subject) → target ≡ other
      → TypesAs subject_data w scene found (λ p known c. named p known c other)
      → TypesAs subject_data w scene found (λ p known c. named p known c target)
  by_target target other found is says =
      subst (λ (t : Target). TypesAs subject_data w scene found (λ p known c. named p known c t)) (sym is) says
