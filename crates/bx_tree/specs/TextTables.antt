-- Tables by text.
use Rattle.std.specs.BTreeMap.{BTreeMap, get_by}
use Rattle.std.specs.declared.alloc.Global.{Global}
use Rattle.std.specs.Prelude.{List, Option, ℕ}
use Rattle.std.specs.declared.vec.Vec.{Vec}
use Rattle.std.specs.Ordering.{nat_cmp}
use Rattle.std.specs.Cmp.Lexicographic.{slice_cmp}

-- what a table by text has at this text
abbrev pub at_text : {X : Type 0} → BTreeMap (Vec ℕ Global) X → List ℕ → Option X
at_text table x = get_by (λ k. slice_cmp nat_cmp x k.items) table
