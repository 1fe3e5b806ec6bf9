use Rattle.std.proofs.Common.{◌≡◌, ◌≢◌, ◌∙◌, IfOk, Option, Some, codes, ap, refl, sym, subst}
use Rattle.std.proofs.lemmas.Bool.{false≢true}
use Rattle.std.proofs.lemmas.Slice.Eq.{bytes_eq-Decides}
use Rattle.bx_tree.specs.Paths.{Atoms, path_text}
use Rattle.bx_path.specs.Joining.{EndsWithPart, HasNoSlash, parent}
use Rattle.bx_tree.proofs.PathTexts.{root_from_text}
use Rattle.bx_path.proofs.Ancestors.{join_up, parent_alone, parent_named}
use Rattle.bx_path.proofs.above.parent.Goals as goal

pub returns-then-eq : goal.returns-then-eq
returns-then-eq c =
    let root : path_text c.args.path.now ≡ codes "." = sym c.text-text.ensures.text ∙ (bytes_eq-Decides c.text-text.result.now (codes ".")).0 (sym c.if-eq.ensures) in
    sym (ap parent (root_from_text c.args.path.now c.text-text.ensures.is_path root))

pub returns-in-Err-BadPath : goal.returns-in-Err-BadPath
returns-in-Err-BadPath c =
    subst (λ (o : Option Atoms). IfOk c.one_up.result (λ dir. dir ≡ o)) (join_up c.args.path.now c.text-text.ensures.is_path) c.one_up.ensures

pub returns-in_ok-root-in-None : goal.returns-in_ok-root-in-None
returns-in_ok-root-in-None c =
    let text : path_text c.args.path.now ≡ c.as_bytes.result.now = sym c.text-text.ensures.text ∙ sym c.as_bytes.ensures.value in
    let other : path_text c.args.path.now ≢ codes "." = λ e. absurd (false≢true (sym c.if-eq.false ∙ c.eq.ensures ∙ (bytes_eq-Decides c.text-text.result.now (codes ".")).1 (c.text-text.ensures.text ∙ e))) in
    let none : HasNoSlash (path_text c.args.path.now) = subst HasNoSlash (sym text) (c.in-None.ensures.none refl) in
    ap Some c.in_ok-root-in-None.ensures ∙ sym (parent_alone c.args.path.now c.text-text.ensures.is_path other none)

pub returns-in-Ok : goal.returns-in-Ok
returns-in-Ok c =
    let text : path_text c.args.path.now ≡ c.as_bytes.result.now = sym c.text-text.ensures.text ∙ sym c.as_bytes.ensures.value in
    let other : path_text c.args.path.now ≢ codes "." = λ e. absurd (false≢true (sym c.if-eq.false ∙ c.eq.ensures ∙ (bytes_eq-Decides c.text-text.result.now (codes ".")).1 (c.text-text.ensures.text ∙ e))) in
    let ends : EndsWithPart c.in-Some.before.now (path_text c.args.path.now) = subst (EndsWithPart c.in-Some.before.now) (sym text) c.in-Some.ensures.some in
    sym (parent_named c.args.path.now c.in-Ok.dir c.in-Some.before.now c.text-text.ensures.is_path other ends c.in-Ok.ensures)
