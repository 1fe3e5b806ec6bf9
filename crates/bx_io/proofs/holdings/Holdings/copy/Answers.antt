use Rattle.std.proofs.Common.{◌∙◌, ap, subst}
use Rattle.std.specs.FinMap.{from_entries}
use Rattle.std.specs.BTreeMap.{keys}
use Rattle.bx_io.specs.Holdings.{AreNames}
use Rattle.bx_io.proofs.Mapped.{held_names, contents_alike, names_alike, names_alike_of_contents}
use Rattle.bx_io.proofs.holdings.Holdings.copy.Goals as goal

pub invariant_of-result : goal.invariant_of-result
invariant_of-result c =
    let same = contents_alike c.self.inside.map.entries c.in_ok-clone.field-0.entries c.in_ok-clone.ensures.cases in
    names_alike (keys c.in_ok-clone.field-0) (keys c.self.inside.map) (names_alike_of_contents c.self.inside.map.entries c.in_ok-clone.field-0.entries same) c.self.invariant

pub returns-clause-names : goal.returns-clause-names
returns-clause-names c = subst AreNames c.self.view_is (held_names c.self.inside.map c.self.invariant)

pub returns-clause-same : goal.returns-clause-same
returns-clause-same c =
    ap from_entries (contents_alike c.self.inside.map.entries c.in_ok-clone.field-0.entries c.in_ok-clone.ensures.cases)
    ∙ c.self.view_is

pub returns-in_err-clone-clause-names : goal.returns-in_err-clone-clause-names
returns-in_err-clone-clause-names c = subst AreNames c.self.view_is (held_names c.self.inside.map c.self.invariant)
