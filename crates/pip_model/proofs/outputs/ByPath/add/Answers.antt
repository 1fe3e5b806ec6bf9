use Rattle.std.proofs.Common.{◌≡◌, ℕ, ◌++◌, [], List, OnOk, ap, get_or, length, subst, sym, ◌∙◌, arith}
use Rattle.std.specs.List.{Contains}
use Rattle.std.proofs.lemmas.Bool.{false≢true}
use Rattle.std.proofs.lemmas.Option.{get_or_from_slice_get, slice_get_within}
use Rattle.bx_tree.specs.Paths.{Atoms}
use Rattle.pip_model.specs.Outputs.{Numbered, found_in, number_at}
use Rattle.pip_model.proofs.outputs.ByPath.add.Goals as goal

pub add_old-requires : goal.add_old-requires
add_old-requires c =
    omega (
      arith,
      slice_get_within c.self.inside.paths c.in-Some.id.0 c.args.path.now c.in-Some.ensures.found,
      ap (λ (b : Numbered). length b.paths) c.self.view_is,
    )

pub returns-in-Some : goal.returns-in-Some
returns-in-Some c =
    let there : get_or c.args.self.now.paths c.in-Some.id.0 [] ≡ c.args.path.now =
    ap (λ (b : Numbered). get_or b.paths c.in-Some.id.0 []) (sym c.self.view_is)
    ∙ get_or_from_slice_get c.self.inside.paths c.in-Some.id.0 c.args.path.now [] c.in-Some.ensures.found in
    subst (λ (p : Atoms). OnOk c.add_old.result ((text : List ℕ) → found_in c.add_old.new.self text
    ≡ found_in c.args.self.now text ++ number_at c.args.number text p)) there c.add_old.ensures

pub add_new-requires : goal.add_new-requires
add_new-requires c = λ k.
    false≢true (c.in-None.ensures.there.1 (subst (λ (b : Numbered). Contains b.paths c.args.path.now) (sym c.self.view_is) k))
