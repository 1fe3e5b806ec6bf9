use Rattle.std.proofs.Common.{◌≡◌, ◌∙◌, ℕ, refl, rules}
use Rattle.std.proofs.lemmas.Iterator.{YieldsList-from_map_by, YieldsList-from_slice}
use Rattle.std.proofs.lemmas.Iterator.Search.{cmp_from_yields_List}
use Rattle.std.specs.declared.cmp.Ordering.{Ordering}
use Rattle.std.specs.Ordering.{nat_cmp, ordering_then}
use Rattle.bx_tree.specs.Paths.{Atoms, path_cmp}
use Rattle.bx_tree.specs.declared.file_input.FileInput.{FileInput}
use Rattle.graph_check.specs.ProcessOrder.{maker_rank}
use Rattle.graph_check.proofs.Lists.{slice_cmp-map}
use Rattle.graph_check.proofs.descriptions.files_order.Goals as goal
use Rattle.bx_tree.specs.FileInputs.{input_path}

abbrev key : FileInput → Atoms × ℕ
key file = (input_path file, maker_rank file)

abbrev key_cmp : Atoms × ℕ → Atoms × ℕ → Ordering
key_cmp x y = ordering_then (path_cmp x.0 y.0) (nat_cmp x.1 y.1)

pub returns : goal.returns
returns c =
    cmp_from_yields_List (λ x y. y ≡ x) _ key_cmp c.cmp.result c.cmp.ensures.ran
    (YieldsList-from_map_by _ (λ r. (r.0.now, r.1)) key (YieldsList-from_slice c.args.a.now cc) c.map.ensures.closure (λ x r q k. search rules))
    (λ it e. YieldsList-from_map_by _ (λ r. (r.0.now, r.1)) key {f = c.map-2.result.f} (YieldsList-from_slice c.args.b.now cc) (cc) (λ x r q k. search rules))
    (λ x y. refl)
    ∙ slice_cmp-map key key_cmp c.args.a.now c.args.b.now
