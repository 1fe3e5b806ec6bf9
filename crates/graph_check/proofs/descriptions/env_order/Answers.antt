use Rattle.std.proofs.Common.{◌≡◌, ◌∙◌, ℕ, List, refl, rules}
use Rattle.std.proofs.lemmas.Iterator.{YieldsList-from_map_by, YieldsList-from_slice}
use Rattle.std.proofs.lemmas.Iterator.Search.{cmp_from_yields_List}
use Rattle.std.specs.declared.cmp.Ordering.{Ordering}
use Rattle.std.specs.Ordering.{ordering_then}
use Rattle.pip_model_types.specs.declared.args.EnvPair.{EnvPair}
use Rattle.graph_check.specs.ProcessOrder.{text_cmp}
use Rattle.graph_check.proofs.Lists.{slice_cmp-map}
use Rattle.graph_check.proofs.descriptions.env_order.Goals as goal

abbrev key : EnvPair → List ℕ × List ℕ
key v = (v.name, v.value)

abbrev key_cmp : List ℕ × List ℕ → List ℕ × List ℕ → Ordering
key_cmp x y = ordering_then (text_cmp x.0 y.0) (text_cmp x.1 y.1)

pub returns : goal.returns
returns c =
    cmp_from_yields_List (λ x y. y ≡ x) _ key_cmp c.cmp.result c.cmp.ensures.ran
    (YieldsList-from_map_by _ (λ r. (r.0.now, r.1.now)) key (YieldsList-from_slice c.args.a.now cc) c.map.ensures.closure (λ x r q k. search rules))
    (λ it e. YieldsList-from_map_by _ (λ r. (r.0.now, r.1.now)) key {f = c.map-2.result.f} (YieldsList-from_slice c.args.b.now cc) (cc) (λ x r q k. search rules))
    (λ x y. refl)
    ∙ slice_cmp-map key key_cmp c.args.a.now c.args.b.now
