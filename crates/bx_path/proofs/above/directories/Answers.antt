use Rattle.std.proofs.Common.{◌∙◌, ◌||◌, ◌+◌, ◌<◌, List, length, Option, ap, sym, subst}
use Rattle.std.specs.List.{list_any}
use Rattle.bx_tree.specs.Paths.{Atoms, same_path}
use Rattle.bx_tree.specs.Below.{is_below}
use Rattle.bx_path.proofs.Ancestors.{below_parent, lies_at_or_below, one_up, parent_smaller, size_of, whole}
use Rattle.bx_path.proofs.above.directories.Goals as goal

pub dirs-init : goal.dirs-init
dirs-init c = λ q.
    ap (λ (xs : List Atoms). list_any (λ dir. same_path dir q) xs || lies_at_or_below c.in_ok-next.next q) c.new-dirs.ensures.items
    ∙ ap (λ (o : Option Atoms). lies_at_or_below o q) c.in_ok-next.ensures
    ∙ sym (below_parent c.args.path.now q)

pub dirs-preserved : goal.dirs-preserved
dirs-preserved c = λ q.
    ap (λ (xs : List Atoms). list_any (λ dir. same_path dir q) xs || lies_at_or_below c.in_ok-next-2.next q) c.in_ok-push.ensures.items
    ∙ one_up c.dirs.dirs.items c.in-Some.dir q c.in_ok-next-2.next (is_below c.args.path.now q) c.in_ok-next-2.ensures
    (ap (λ (o : Option Atoms). list_any (λ dir. same_path dir q) c.dirs.dirs.items || lies_at_or_below o q) (sym c.in-Some.is) ∙ c.dirs.invariant q)

pub dirs-smaller : goal.dirs-smaller
dirs-smaller c =
    subst (λ (o : Option Atoms). size_of c.in_ok-next-2.next < size_of o) (sym c.in-Some.is)
    (subst (λ (o : Option Atoms). size_of o < length c.in-Some.dir + 1) (sym c.in_ok-next-2.ensures) (parent_smaller c.in-Some.dir))

pub returns : goal.returns
returns c = λ q.
    sym (whole c.dirs.dirs.items q)
    ∙ ap (λ (o : Option Atoms). list_any (λ dir. same_path dir q) c.dirs.dirs.items || lies_at_or_below o q) (sym c.in_default.is)
    ∙ c.dirs.invariant q
