-- Names come to what their subjects say.
use Rattle.std.proofs.Common.{◌≡◌, ℕ, List, [], Option, Some, None, Result, Ok, Err, refl, sym, subst}
use Rattle.std.specs.Option.{option_and_then, option_map}
use Rattle.std.specs.Prelude.{IfSome, slice_get}
use Rattle.dscript_value.specs.declared.parts.Callee.TheVariants as callees
use Rattle.dscript_value.specs.Plain.{Plain}
use Rattle.dscript_sdk_values.specs.Answers.{function_answer}
use Rattle.dscript_ast.specs.TypeTree.{TypeTree}
use Rattle.dscript_program.specs.BoundTree.{ExprData}
use Rattle.dscript_program.specs.ProgramData as declared
use Rattle.dscript_program.specs.ProgramData.{DeclData, FileData, KindData, ProgramData}
use Rattle.dscript_program.specs.declared.target.Target.{Target}
use Rattle.dscript_program.specs.declared.target.Target.TheVariants as targets
use Rattle.dscript_eval_meaning.specs.Acts.{Acts, Demand}
use Rattle.dscript_eval_meaning.specs.Constants.{by_status, constant, status_in}
use Rattle.dscript_eval_meaning.specs.Evaluating.{Gives, Stop}
use Rattle.dscript_eval_meaning.specs.Expressions as eval
use Rattle.dscript_eval_meaning.specs.Frames.{local, local_value}
use Rattle.dscript_eval_meaning.specs.Lookups.{declared_at}
use Rattle.dscript_eval_meaning.specs.States.{State, Status, Waiting, Running, Done}
use Rattle.dscript_types_meaning.specs.Types.{TypeData}
use Rattle.dscript_types_meaning.specs.Values.{HasType}
use Rattle.dscript_types_meaning.specs.Contexts.{Constant, Context, Known, Local, Standing, local_at, local_type, only}
use Rattle.dscript_types_meaning.specs.Expressions as typing
use Rattle.dscript_types_meaning.specs.Expressions.{Subject, Whole, Named, Function, Ambient, is}
use Rattle.dscript_types_meaning.specs.Lookups.{decl_at, decls_in}
use Rattle.dscript_types_laws.specs.Invariants.{ComesTo, HoldsConstants, IsFunctionOf, IsOfSubject, IsSound}
use Rattle.dscript_types_laws.specs.Invariants.{OpensSoundly}
use Rattle.dscript_types_laws.proofs.Conditions.{local_held}
use Rattle.dscript_types_laws.proofs.Sound.{answer}
use Rattle.dscript_types_laws.proofs.Typing.{gives_is, in_turn, only_is}

-- ## Declarations at a number

decl_case
    : (o : Option FileData) (decl : ℕ)
    → option_and_then (λ (f : FileData). option_map (λ (d : DeclData). d.kind) (slice_get f.decls decl)) o
    ≡ option_map (λ (d : DeclData). d.kind) (slice_get (decls_in o) decl)
decl_case None decl = refl
decl_case (Some f) decl = refl

pub same_decl
    : (p : ProgramData) (file decl : ℕ)
    → declared_at p file decl ≡ option_map (λ (d : DeclData). d.kind) (decl_at p file decl)
same_decl p file decl = decl_case (slice_get p.files file) decl

-- ## Locals

type_case
    : (o : Option Local) (t : TypeData) → option_and_then (λ (l : Local). l.type_data) o ≡ Some t
    → (l : Local) × (o ≡ Some l) × (l.type_data ≡ Some t)
type_case None t e = absurd cc
type_case (Some l) t e = (l, refl, e)

module _ (p : ProgramData) (known : Known) (act : Acts) where
  local_sound
      : (c : Context) (n : ℕ) (t : TypeData) → local_type c n ≡ Some t
      → IsSound Plain known c.locals (λ x. HasType x t) (local n)
  local_sound c n t e s holds constants =
      let l = type_case (local_at c n) t e in
      let h = local_held s.frame c n l.0 l.1 holds in
      let at : HasType (local_value s.frame l.0.number) t
      = subst (λ o. IfSome o (λ u. HasType (local_value s.frame l.0.number) u)) l.2 h.0 in
      record { is = subst (λ k. HasType (local_value s.frame k) t) h.1 at; frame = refl; constants = constants }

  -- ## Constants

  status_sound
      : (file decl : ℕ) (t : TypeData) (locals : List Local) (s : State) (status : Status)
      → known (Constant file decl) ≡ Some t → status_in s.constants file decl ≡ status
      → IsSound Plain known [] (λ x. IfSome (known (Constant file decl)) (HasType x)) (act (Demand file decl))
      → HoldsConstants known s → ComesTo Plain known (λ x. HasType x t) s.frame (by_status act file decl status s)
  status_sound file decl t locals s Waiting is at demand constants =
      as_type (act (Demand file decl) s) (demand s tt constants)
    where
      as_type
          : (r : Result (Plain × State) Stop) → ComesTo Plain known (λ x. IfSome (known (Constant file decl)) (HasType x)) s.frame r
          → ComesTo Plain known (λ x. HasType x t) s.frame r
      as_type (Ok r) c = record {
        is = subst (λ o. IfSome o (HasType r.0)) is c.is;
        frame = c.frame;
        constants = c.constants;
      }
      as_type (Err stop) c = c
  status_sound file decl t locals s Running is at demand constants = tt
  status_sound file decl t locals s (Done x) is at demand constants =
      record { is = constants file decl x t at is; frame = refl; constants = constants }

  constant_sound
      : (opens : OpensSoundly p known act) (file decl : ℕ) (d : DeclData) (note : Option TypeTree) (e : ExprData) (t : TypeData)
      (locals : List Local) → decl_at p file decl ≡ Some d → d.kind ≡ declared.Const note e
      → known (Constant file decl) ≡ Some t → IsSound Plain known locals (λ x. HasType x t) (constant act file decl)
  unfolding constant
  constant_sound opens file decl d note e t locals at form is s holds constants =
      status_sound file decl t locals s (status_in s.constants file decl) is refl
      (opens.constant file decl d note e at form) constants

  -- ## Names

  whole_is
      : (t : TypeData) (s : Subject) (bodies : List Standing) (locals : List Local) (m : Gives Plain)
      → is t ≡ Some (s, bodies) → IsSound Plain known locals (λ x. HasType x t) m
      → IsSound Plain known locals (IsOfSubject p s) m
  whole_is t s bodies locals m e sound =
      subst (λ u. IsSound Plain known locals (IsOfSubject p u) m) (gives_is (Whole t) s bodies e).0 sound

  kind_sound
      : (opens : OpensSoundly p known act) (c : Context) (file decl : ℕ) (d : DeclData) (k : KindData) (s : Subject)
      (bodies : List Standing) → decl_at p file decl ≡ Some d → d.kind ≡ k
      → typing.named_kind known file decl k ≡ Some (s, bodies)
      → IsSound Plain known c.locals (IsOfSubject p s) (eval.declared act file decl (Some k))
  kind_sound opens c file decl d (declared.Const note e) s bodies at form typed =
      let t = in_turn (only (known (Constant file decl))) is s bodies typed in
      let known_type = (only_is (known (Constant file decl)) t.0 t.1 t.3).0 in
      whole_is t.0 s t.2 c.locals (constant act file decl) t.4
      (constant_sound opens file decl d note e t.0 c.locals at form known_type)
  kind_sound opens c file decl d (declared.Function ts note number) s bodies at form typed =
      subst (λ u. IsSound Plain known c.locals (IsOfSubject p u) (eval.declared act file decl (Some (declared.Function ts note number))))
      (gives_is (Function file decl) s bodies typed).0
      (answer known c.locals Plain (IsFunctionOf p file decl) (function_answer (callees.Place number) [])
      (d, ts, note, number, 1, at, form, refl))
  kind_sound opens c file decl d (declared.Interface ts es ms) s bodies at form typed = absurd cc
  kind_sound opens c file decl d (declared.TypeAlias ts t) s bodies at form typed = absurd cc

  decl_sound
      : (opens : OpensSoundly p known act) (c : Context) (file decl : ℕ) (o : Option DeclData) (s : Subject)
      (bodies : List Standing) → decl_at p file decl ≡ o → typing.named_decl known file decl o ≡ Some (s, bodies)
      → IsSound Plain known c.locals (IsOfSubject p s) (eval.declared act file decl (option_map (λ (d : DeclData). d.kind) o))
  decl_sound opens c file decl None s bodies at typed = absurd cc
  decl_sound opens c file decl (Some d) s bodies at typed =
      kind_sound opens c file decl d d.kind s bodies at refl typed

  pub named_sound
      : (opens : OpensSoundly p known act) (c : Context) (target : Target) (s : Subject) (bodies : List Standing)
      → typing.named p known c target ≡ Some (s, bodies)
      → IsSound Plain known c.locals (IsOfSubject p s) (eval.named p act target)
  unfolding typing.named eval.named
  named_sound opens c (targets.Local n) s bodies typed =
      let t = in_turn (only (local_type c n)) is s bodies typed in
      let has = (only_is (local_type c n) t.0 t.1 t.3).0 in
      whole_is t.0 s t.2 c.locals (local n) t.4 (local_sound c n t.0 has)
  named_sound opens c (targets.Declared file decl) s bodies typed =
      subst (λ k. IsSound Plain known c.locals (IsOfSubject p s) (eval.declared act file decl k)) (sym (same_decl p file decl))
      (decl_sound opens c file decl (decl_at p file decl) s bodies refl typed)
  named_sound opens c (targets.Ambient call) s bodies typed =
      subst (λ u. IsSound Plain known c.locals (IsOfSubject p u) (eval.named p act (targets.Ambient call)))
      (gives_is (Ambient call) s bodies typed).0
      (answer known c.locals Plain (IsOfSubject p (Ambient call)) (function_answer (callees.Ambient call) []) (1, refl))
