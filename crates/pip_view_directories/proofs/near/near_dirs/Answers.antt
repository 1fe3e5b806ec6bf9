use Rattle.std.proofs.Common.{◌≡◌, List, [], ℕ, length, ap, arith, subst, sym, ◌∙◌}
use Rattle.std.proofs.lemmas.Bool.{false≢true}
use Rattle.pip_model_types.specs.declared.dir_inputs.DirInput.{DirInput}
use Rattle.pip_model_types.specs.declared.pip.Pip.{Pip}
use Rattle.pip_model.specs.Listings.{ListsNear}
use Rattle.pip_view_directories.specs.Near.{AreOfSeals}
use Rattle.pip_view_directories.proofs.OfSeals.{near_found}
use Rattle.pip_view_directories.proofs.near.near_dirs.Goals as goal

pub returns : goal.returns
returns c =
    let pips = c.args.plan.now.pips in
    let dirs = c.args.dirs.now in
    let path = c.args.path.now in
    let seals = c.seals_near-seals.result.now in
    let found = c.in_ok-found.found.items in
    let some = λ (e : path ≡ []). false≢true (sym c.if-is_root.false ∙ c.is_root.ensures.root.1 e) in
    let long = ap (λ (ds : List DirInput). length ds) c.dirs-taken.ensures.dirs in
    let wide = c.requires.wide (omega (arith, long, c.if-taken-le-FEW_DIRS.false)) in
    let text = c.as_bytes.ensures.value ∙ c.text.ensures.text in
    near_found pips dirs path seals found c.of.result some c.requires.among
    (λ j lists. c.seals_near-seals.ensures wide j (subst (ListsNear pips j) (sym text) lists))
    (subst (λ (ps : List Pip). AreOfSeals ps dirs seals found) c.pips.ensures.pips
    (subst (λ (ds : List DirInput). AreOfSeals c.pips.result.now ds seals found) c.dirs-taken.ensures.dirs c.in_ok-found.ensures))
    c.of.ensures
