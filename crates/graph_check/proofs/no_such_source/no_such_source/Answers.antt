use Rattle.std.specs.List.{Contains}
use Rattle.bx_tree.specs.Paths.{Atoms}
use Rattle.bx_tree.specs.Trees.{Files, paths_of}
use Rattle.graph_check.specs.NoSuchSource.{named_sources}
use Rattle.graph_check_outputs.proofs.Firsts.{found_first, found_none, none_has}
use Rattle.graph_check.proofs.no_such_source.no_such_source.Goals as goal

abbrev IsMissing : Files → Atoms → Type 0
IsMissing tree path = Contains (paths_of tree) path → ⊥

pub returns-then-branch : goal.returns-then-branch
returns-then-branch c =
    found_first named_sources (IsMissing c.args.sources.now) c.args.pips.now c.pips.number c.index-pips-number.result c.pips-test.true
    c.index-pips-number.is (c.in_ok-has_missing.ensures.0 c.if-branch.true) c.pips.invariant

pub pips-preserved : goal.pips-preserved
pips-preserved c =
    found_none named_sources (IsMissing c.args.sources.now) c.args.pips.now c.pips.number c.index-pips-number.result c.pips-test.true
    c.index-pips-number.is (λ any. let t = c.in_ok-has_missing.ensures.1 any in cc) c.pips.invariant

pub returns : goal.returns
returns c = none_has named_sources (IsMissing c.args.sources.now) c.args.pips.now c.pips.number c.pips-test.false c.pips.invariant
