-- What may stand in holes.
use Rattle.std.proofs.Common.{◌≡◌, ℕ, Bool, true, false, ◌⊎◌, List, [], ◌∷◌, ◌++◌, Option, Some, None, Ok, Err, refl, sym, subst, inl, inr}
use Rattle.bx_tree.specs.Paths.{Atoms}
use Rattle.dscript_ast.specs.declared.expr.PathKind.{PathKind}
use Rattle.dscript_ast.specs.declared.expr.PathKind.TheVariants as letters
use Rattle.dscript_value.specs.Plain as plain
use Rattle.dscript_value.specs.Plain.{Plain}
use Rattle.dscript_sdk_values.specs.Outcomes.{Outcome, ◌>>=◌}
use Rattle.dscript_eval_operators.specs.PathLiterals.{base_of, first_hole, leading_hole}
use Rattle.dscript_eval_operators.specs.Texts as texts
use Rattle.dscript_types_meaning.specs.declared.kind.Kind.{Kind}
use Rattle.dscript_types_meaning.specs.declared.kind.Kind.TheVariants as kinds
use Rattle.dscript_types_meaning.specs.Types.{kind_type}
use Rattle.dscript_types_meaning.specs.Operators as types
use Rattle.dscript_types_meaning.specs.Operators.{boolean_type, types_of_kinds}
use Rattle.dscript_types_meaning.specs.Expressions as typing
use Rattle.dscript_types_meaning.specs.Values.{HasType}
use Rattle.dscript_types_values.proofs.Among.{Among}
use Rattle.dscript_types_values.proofs.Fitting.{has_kind}
use Rattle.dscript_types_values.proofs.Joining.{join_has, of_has}
use Rattle.dscript_types_values.proofs.KindForms.{IsKind}
use Rattle.dscript_types_laws.specs.Invariants.{Answers}

-- something is read
abbrev pub Reads : {A : Type 0} → Outcome A → Type 0
Reads {A} o = Answers A (λ x. Unit {0}) o

kinds_case
    : (x : Plain) (k : Kind) (ks : List Kind) → (HasType x (types_of_kinds ks) → (l : Kind) × Among ks l × IsKind l x)
    → HasType x (kind_type k) ⊎ HasType x (types_of_kinds ks) → (l : Kind) × Among (k ∷ ks) l × IsKind l x
kinds_case x k ks more (inl h) = (k, inl refl, has_kind x k h)
kinds_case x k ks more (inr h) = let r = more h in (r.0, inr r.1, r.2)

-- a value of one of these kinds
pub kinds_have : (x : Plain) (ks : List Kind) → HasType x (types_of_kinds ks) → (k : Kind) × Among ks k × IsKind k x
kinds_have x [] h = absurd (of_has x (types_of_kinds []) h).1
kinds_have x (k ∷ ks) h = kinds_case x k ks (kinds_have x ks) (join_has x (kind_type k) (types_of_kinds ks) h)

-- ## Path literals, relative paths and atoms

literal_case
    : (x : Plain) (k : Kind) → Among (kinds.String ∷ kinds.Number ∷ kinds.PathAtom ∷ kinds.RelativePath ∷ []) k → IsKind k x
    → Reads (texts.literal_hole x)
unfolding texts.literal_hole
literal_case x k (inl is) h =
    let v : IsKind kinds.String x = subst (λ l. IsKind l x) (sym is) h in subst (λ y. Reads (texts.literal_hole y)) (sym v.1) tt
literal_case x k (inr (inl is)) h =
    let v : IsKind kinds.Number x = subst (λ l. IsKind l x) (sym is) h in subst (λ y. Reads (texts.literal_hole y)) (sym v.1) tt
literal_case x k (inr (inr (inl is))) h =
    let v : IsKind kinds.PathAtom x = subst (λ l. IsKind l x) (sym is) h in subst (λ y. Reads (texts.literal_hole y)) (sym v.1) tt
literal_case x k (inr (inr (inr (inl is)))) h =
    let v : IsKind kinds.RelativePath x = subst (λ l. IsKind l x) (sym is) h in
    subst (λ y. Reads (texts.literal_hole y)) (sym v.1) tt
literal_case x k (inr (inr (inr (inr none)))) h = absurd none

pub literal_read : (x : Plain) → HasType x types.literal_hole → Reads (texts.literal_hole x)
literal_read x h =
    let r = kinds_have x (kinds.String ∷ kinds.Number ∷ kinds.PathAtom ∷ kinds.RelativePath ∷ []) h in
    literal_case x r.0 r.1 r.2

-- ## Bases

leading_text : (x : Plain) (o : Option Atoms) → (o ≡ None → Reads (texts.literal_hole x)) → Reads (leading_hole o x)
leading_text x (Some base) reads = tt
leading_text x None reads = then_text (texts.literal_hole x) (reads refl)
  where
    then_text : (o : Outcome (List ℕ)) → Reads o → Reads {A = Option Atoms × List ℕ} (o >>= λ text. Ok (None, text))
    then_text (Ok text) r = tt
    then_text (Err fault) r = r

base_case
    : (x : Plain) (k : Kind) → Among (kinds.Path ∷ kinds.File ∷ kinds.Directory ∷ []) k → IsKind k x
    → Reads (leading_hole (base_of x) x)
base_case x k (inl is) h =
    let v : IsKind kinds.Path x = subst (λ l. IsKind l x) (sym is) h in
    subst (λ y. Reads (leading_hole (base_of y) y)) (sym v.1) tt
base_case x k (inr (inl is)) h =
    let v : IsKind kinds.File x = subst (λ l. IsKind l x) (sym is) h in
    subst (λ y. Reads (leading_hole (base_of y) y)) (sym v.1) tt
base_case x k (inr (inr (inl is))) h =
    let v : IsKind kinds.Directory x = subst (λ l. IsKind l x) (sym is) h in
    subst (λ y. Reads (leading_hole (base_of y) y)) (sym v.1) tt
base_case x k (inr (inr (inr none))) h = absurd none

leading_case
    : (x : Plain) → HasType x types.literal_hole ⊎ HasType x (types_of_kinds (kinds.Path ∷ kinds.File ∷ kinds.Directory ∷ []))
    → Reads (leading_hole (base_of x) x)
leading_case x (inl h) = leading_text x (base_of x) (λ e. literal_read x h)
leading_case x (inr h) =
    let r = kinds_have x (kinds.Path ∷ kinds.File ∷ kinds.Directory ∷ []) h in base_case x r.0 r.1 r.2

leading_read : (x : Plain) → HasType x types.leading_hole → Reads (leading_hole (base_of x) x)
leading_read x h =
    leading_case x (join_has x types.literal_hole (types_of_kinds (kinds.Path ∷ kinds.File ∷ kinds.Directory ∷ [])) h)

-- where a literal begins with a text, its first hole is as the others
later_read : (b : ℕ) (bs : List ℕ) (x : Plain) → HasType x types.literal_hole → Reads (first_hole (b ∷ bs) x)
unfolding first_hole
later_read b bs x h = then_text (texts.literal_hole x) (literal_read x h)
  where
    then_text : (o : Outcome (List ℕ)) → Reads o → Reads {A = Option Atoms × List ℕ} (o >>= λ hole. Ok (None, b ∷ bs ++ hole))
    then_text (Ok text) r = tt
    then_text (Err fault) r = r

-- the first hole of a path, a file or a directory
pub first_read
    : (letter : PathKind) (text : List ℕ) (x : Plain) → HasType x (typing.first_hole letter text) → Reads (first_hole text x)
unfolding first_hole
first_read letters.Path [] x h = leading_read x h
first_read letters.Path (b ∷ bs) x h = later_read b bs x h
first_read letters.File [] x h = leading_read x h
first_read letters.File (b ∷ bs) x h = later_read b bs x h
first_read letters.Directory [] x h = leading_read x h
first_read letters.Directory (b ∷ bs) x h = later_read b bs x h
first_read letters.Relative [] x h = leading_text x (base_of x) (λ e. literal_read x h)
first_read letters.Relative (b ∷ bs) x h = later_read b bs x h
first_read letters.Atom [] x h = leading_text x (base_of x) (λ e. literal_read x h)
first_read letters.Atom (b ∷ bs) x h = later_read b bs x h

-- ## Templates

template_literal : (x : Plain) → Reads (texts.literal_hole x) → Reads (texts.template_hole x)
unfolding texts.template_hole texts.literal_hole
template_literal (plain.Flag true) r = tt
template_literal (plain.Flag false) r = tt
template_literal (plain.Path path) r = tt
template_literal (plain.File file) r = tt
template_literal (plain.Directory path) r = tt
template_literal plain.Undefined r = r
template_literal (plain.Number number) r = r
template_literal (plain.Text text) r = r
template_literal (plain.Relative atoms) r = r
template_literal (plain.Atom text) r = r
template_literal (plain.Listed depth items) r = r
template_literal (plain.Object depth members) r = r
template_literal (plain.Function callee depth held) r = r
template_literal (plain.Static dir) r = r
template_literal (plain.Process pip) r = r
template_literal (plain.Artifact artifact) r = r
template_literal (plain.Argument argument) r = r

template_base
    : (x : Plain) (k : Kind) → Among (kinds.Path ∷ kinds.File ∷ kinds.Directory ∷ []) k → IsKind k x
    → Reads (texts.template_hole x)
unfolding texts.template_hole
template_base x k (inl is) h =
    let v : IsKind kinds.Path x = subst (λ l. IsKind l x) (sym is) h in subst (λ y. Reads (texts.template_hole y)) (sym v.1) tt
template_base x k (inr (inl is)) h =
    let v : IsKind kinds.File x = subst (λ l. IsKind l x) (sym is) h in subst (λ y. Reads (texts.template_hole y)) (sym v.1) tt
template_base x k (inr (inr (inl is))) h =
    let v : IsKind kinds.Directory x = subst (λ l. IsKind l x) (sym is) h in
    subst (λ y. Reads (texts.template_hole y)) (sym v.1) tt
template_base x k (inr (inr (inr none))) h = absurd none

flag_read : (flag : Bool) → Reads (texts.template_hole (plain.Flag flag))
unfolding texts.template_hole
flag_read true = tt
flag_read false = tt

template_leading
    : (x : Plain) → HasType x types.literal_hole ⊎ HasType x (types_of_kinds (kinds.Path ∷ kinds.File ∷ kinds.Directory ∷ []))
    → Reads (texts.template_hole x)
template_leading x (inl h) = template_literal x (literal_read x h)
template_leading x (inr h) =
    let r = kinds_have x (kinds.Path ∷ kinds.File ∷ kinds.Directory ∷ []) h in template_base x r.0 r.1 r.2

template_case : (x : Plain) → HasType x types.leading_hole ⊎ HasType x boolean_type → Reads (texts.template_hole x)
template_case x (inl h) =
    template_leading x (join_has x types.literal_hole (types_of_kinds (kinds.Path ∷ kinds.File ∷ kinds.Directory ∷ [])) h)
template_case x (inr h) =
    let v = has_kind x kinds.Boolean h in subst (λ y. Reads (texts.template_hole y)) (sym v.1) (flag_read v.0)

pub template_read : (x : Plain) → HasType x types.template_hole → Reads (texts.template_hole x)
template_read x h = template_case x (join_has x types.leading_hole boolean_type h)
