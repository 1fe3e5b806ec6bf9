use Rattle.std.proofs.Common.{Some, ap, sym, ◌≡◌, ◌++◌, ◌∷◌, ◌∙◌}
use Rattle.bx_tree.specs.Paths.{Atoms, Names, path_text}
use Rattle.std.proofs.lemmas.Bool.{false≢true}
use Rattle.bx_path.specs.Joining.{join_of}
use Rattle.bx_path.proofs.StepsOfTexts.{found_weaker, joined_below, joined_if_named}
use Rattle.bx_path.proofs.joining.joined_if_named.Goals as goal

pub returns-then-is_root : goal.returns-then-is_root
returns-then-is_root c =
    found_weaker (λ (path : Atoms). Names c.args.text.now path) (λ (path : Atoms). join_of c.args.base.now c.args.text.now ≡ Some path) c.named.result
    (λ path n. ap (λ base. join_of base c.args.text.now) (c.is_root.ensures.root.0 c.if-is_root.true) ∙ joined_if_named c.args.text.now path n)
    c.named.ensures

pub returns-else-is_root : goal.returns-else-is_root
returns-else-is_root c =
    found_weaker (λ (path : Atoms). Names (path_text c.args.base.now ++ 47 ∷ c.args.text.now) path)
    (λ (path : Atoms). join_of c.args.base.now c.args.text.now ≡ Some path) c.named_below.result
    (λ path n. joined_below c.args.base.now c.args.text.now path (λ e. absurd (false≢true (sym c.if-is_root.false ∙ c.is_root.ensures.root.1 e))) c.named_below.ensures.base.atoms n)
    c.named_below.ensures.found
