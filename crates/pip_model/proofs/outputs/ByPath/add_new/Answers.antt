use Rattle.std.proofs.Common.{◌≡◌, ℕ, ◌++◌, ◌∷◌, [], List, length, length-append, ap, arith, subst, ◌∙◌}
use Rattle.std.specs.List.{Contains}
use Rattle.std.specs.declared.alloc.Global.{Global}
use Rattle.std.specs.declared.vec.Vec.{Vec}
use Rattle.bx_tree.specs.Paths.{Atoms}
use Rattle.bx_tree_paths.proofs.Numbered.{new_is_last}
use Rattle.pip_model.specs.Outputs.{Numbered, found_in, number_at, numbers_of}
use Rattle.pip_model.proofs.PathNumbers.{path_added}
use Rattle.pip_model.proofs.outputs.ByPath.add_new.Goals as goal

pub invariant_of-self-in-Ok : goal.invariant_of-self-in-Ok
invariant_of-self-in-Ok c =
    let old = c.self.inside in
    let path = c.args.path.now in
    let numbers = c.in_ok-numbers.numbers in
    let none = λ (k : Contains old.paths path). c.requires (subst (λ (b : Numbered). Contains b.paths path) c.self.view_is k) in
    let paths = ap length (c.in-Ok.ensures.added ∙ new_is_last old.paths path none) in
    let pips = ap length c.in_ok-push.ensures.items in
    let size : length c.self.inside.pips.items ≡ length c.self.inside.paths = c.self.invariant in
    omega (arith, paths, pips, size, length-append old.paths (path ∷ []), length-append old.pips.items (numbers ∷ []))

pub returns-in-Ok : goal.returns-in-Ok
returns-in-Ok c = λ text.
    let old = c.self.inside in
    let path = c.args.path.now in
    let none = λ (k : Contains old.paths path). c.requires (subst (λ (b : Numbered). Contains b.paths path) c.self.view_is k) in
    ap (λ (ps : List Atoms). numbers_of text ps c.push.new.self.items) (c.in-Ok.ensures.added ∙ new_is_last old.paths path none)
    ∙ ap (λ (vs : List (Vec ℕ Global)). numbers_of text (old.paths ++ path ∷ []) vs) c.in_ok-push.ensures.items
    ∙ path_added text old.paths old.pips.items path c.args.number c.in_ok-numbers.numbers c.len.ensures.numbered.are_paths c.text.ensures.is_path
    none c.self.invariant c.in_ok-numbers.ensures
    ∙ ap (λ (b : Numbered). found_in b text ++ number_at c.args.number text path) c.self.view_is
