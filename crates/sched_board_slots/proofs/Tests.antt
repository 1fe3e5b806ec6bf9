-- What tests of sameness decide.
use Rattle.std.proofs.Common.{◌≡◌, ◌==◌, ◌&&◌, ℕ, Bool, true, false, not, List, map, Option, Some, None, refl, ap, sym, ◌∙◌, subst, arith}
use Rattle.std.specs.Prelude.{◌↔◌, IfSome, is_some}
use Rattle.std.specs.Bool.{Decides}
use Rattle.std.proofs.lemmas.Bool.{and_parts, false≢true}
use Rattle.std.proofs.lemmas.Bool.Decides.{Decides-eqb}
use Rattle.bx_tree.specs.Orders.{same_path_decides}
use Rattle.bx_tree.specs.Paths.{Atoms, same_path}
use Rattle.pip_model_types.specs.Outputs.{same_outdir, sharing_rank}
use Rattle.pip_model_types.specs.declared.desc.Desc.{Desc}
use Rattle.pip_model_types.specs.declared.args.EnvPair.{EnvPair}
use Rattle.pip_model_types.specs.declared.outputs.OutDir.{OutDir}
use Rattle.pip_model_types.specs.declared.pip.ProcessDesc.{ProcessDesc}
use Rattle.observed.specs.declared.ask.Ask.{Ask}
use Rattle.observed.specs.declared.access.Answer.{Answer}
use Rattle.memo_format.specs.Found.{FoundParts, IsFoundFor}
use Rattle.run_record.specs.Facts.{Facts}
use Rattle.run_record.specs.Holding.{HoldsNow, IsSameWork}
use Rattle.run_record.proofs.SameWork.{one_weak, read_both}
use Rattle.sched_board_slots.specs.Slots.{HitHolds}

-- ## Tests of a part

-- where a part is not the same, the whole is not
pub refuted : (P Q : Type 0) (r : Bool) → r ≡ false → (r ≡ true) ↔ P → (Q → P) → (false ≡ true) ↔ Q
refuted P Q r off is part = (λ yes. absurd (let never : false ≡ true = yes in cc), λ q. absurd (false≢true (sym off ∙ is.1 (part q))))

-- the same of what is equal
pub of_same : (X : Type 0) (x y a b : X) (r : Bool) → x ≡ a → y ≡ b → (r ≡ true) ↔ (x ≡ y) → (r ≡ true) ↔ (a ≡ b)
of_same X x y a b r ex ey is = (λ e. sym ex ∙ is.0 e ∙ ey, λ e. is.1 (ex ∙ e ∙ sym ey))

-- ## Paths and directories

pub path_test : (x y : Atoms) (r : Bool) → r ≡ same_path x y → (r ≡ true) ↔ (x ≡ y)
path_test x y r is = (λ e. (same_path_decides x y).0 (sym is ∙ e), λ e. is ∙ (same_path_decides x y).1 e)

pub paths_test : (xs ys : List Atoms) (r : Bool) → Decides r (xs ≡ ys) → (r ≡ true) ↔ (xs ≡ ys)
paths_test xs ys r d = (d.0, d.1)

one_sharing : (a b : Bool) → sharing_rank a ≡ sharing_rank b → a ≡ b
one_sharing true true e = refl
one_sharing true false e = absurd (omega (arith, e))
one_sharing false true e = absurd (omega (arith, e))
one_sharing false false e = refl

abbrev outdir : Atoms → Bool → OutDir
outdir path shared = record { path = path; shared = shared }

both_true : (a b : Bool) → a ≡ true → b ≡ true → (a && b) ≡ true
both_true true true e f = refl
both_true true false e f = f
both_true false b e f = e

pub outdir_decides : (x y : OutDir) → Decides (same_outdir x y) (x ≡ y)
outdir_decides x y = (
  λ e.
      let parts = and_parts (same_path x.path y.path) (sharing_rank x.shared == sharing_rank y.shared) e in
      ap (λ p. outdir p x.shared) ((same_path_decides x.path y.path).0 parts.0)
      ∙ ap (outdir y.path) (one_sharing x.shared y.shared ((Decides-eqb (sharing_rank x.shared) (sharing_rank y.shared)).0 parts.1)),
  λ e.
      both_true (same_path x.path y.path) (sharing_rank x.shared == sharing_rank y.shared) ((same_path_decides x.path y.path).1 (ap (λ (d : OutDir). d.path) e))
      ((Decides-eqb (sharing_rank x.shared) (sharing_rank y.shared)).1 (ap (λ (d : OutDir). sharing_rank d.shared) e)),
)

-- ## Files, variables, consoles

pub pair_is : (f g : Atoms × List ℕ) → f.0 ≡ g.0 → f.1 ≡ g.1 → f ≡ g
pair_is f g path bytes = ap (λ (p : Atoms). (p, f.1)) path ∙ ap (λ (b : List ℕ). (g.0, b)) bytes

abbrev variable : List ℕ → List ℕ → EnvPair
variable name value = record { name = name; value = value }

pub variable_is : (a b : EnvPair) → a.name ≡ b.name → a.value ≡ b.value → a ≡ b
variable_is a b name value = ap (λ x. variable x a.value) name ∙ ap (variable b.name) value

pub console_none : (o b : Option Atoms) (r : Bool) → is_some o ≡ not r → b ≡ None → (r ≡ true) ↔ (o ≡ b)
console_none None b true is none = (λ e. sym none, λ e. refl)
console_none None b false is none = absurd (let never : false ≡ true = is in cc)
console_none (Some x) b true is none = absurd (let never : true ≡ false = is in cc)
console_none (Some x) b false is none = (λ e. absurd (let never : false ≡ true = e in cc), λ e. absurd (let never : Some x ≡ None = e ∙ none in cc))

-- ## Records

-- a process that is there
pub at_process : (P : ProcessDesc → Type 0) (o : Option ProcessDesc) (p : ProcessDesc) → o ≡ Some p → P p → IfSome o P
at_process P o p is h = subst (λ (x : Option ProcessDesc). IfSome x P) (sym is) h

pub holds_by : (own : Desc) (see view : Ask → Answer) (facts : Facts) (stored : List Answer) (asks : List Ask) (r : Bool) → view ≡ see → stored ≡ facts.answers
    → asks ≡ facts.paths → IsSameWork facts.desc own → (r ≡ true) ↔ (stored ≡ map view asks) → (r ≡ true) ↔ HoldsNow own see facts
holds_by own see view facts stored asks r seen es ea work is = (
  λ yes. record {
    work = work;
    answers = sym es ∙ is.0 yes ∙ ap (λ (v : Ask → Answer). map v asks) seen ∙ ap (map see) ea;
  },
  λ now. is.1 (es ∙ now.answers ∙ sym (ap (map see) ea) ∙ sym (ap (λ (v : Ask → Answer). map v asks) seen)),
)

-- ## Hits

-- what was found for one description was found for each of the same work
pub found_for_same : (f : FoundParts) (d e : Desc) → IsFoundFor f d → IsSameWork d e → IsFoundFor f e
found_for_same f d e is same = record { weak = is.weak ∙ one_weak d e same; read = read_both d e same is.read }

pub hit_by : (own : Desc) (see view : Ask → Answer) (f : FoundParts) (stored : List Answer) (asks : List Ask) (r : Bool) → view ≡ see → stored ≡ f.answers
    → asks ≡ f.paths → IsFoundFor f own → (r ≡ true) ↔ (stored ≡ map view asks) → r ≡ true → HitHolds own see f
hit_by own see view f stored asks r seen es ea is hold held = record {
  found_for = is;
  answers = sym es ∙ hold.0 held ∙ ap (λ (v : Ask → Answer). map v asks) seen ∙ ap (map see) ea;
}
