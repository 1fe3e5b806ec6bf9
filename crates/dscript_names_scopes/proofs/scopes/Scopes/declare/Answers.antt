use Rattle.std.proofs.Common.{◌≡◌, ap, arith, length, ◌+◌, ◌∙◌}
use Rattle.dscript_names_scopes.specs.Lookup.{declare_in}
use Rattle.dscript_names_scopes.proofs.Numbering.{declared_last}
use Rattle.dscript_names_scopes.proofs.scopes.Scopes.declare.Goals as goal

pub returns : goal.returns
returns c =
    let blocks = c.self.inside.blocks in
    let last : c.in-Some.last + 1 ≡ length blocks.items =
    omega (arith, c.in-Some.ensures, c.len.ensures, blocks.ok.0) in
    declared_last c.args.name.now c.args.number blocks.items c.in-Some.last c.index_mut-block.result.now
    c.declare.new.self last c.index_mut-block.ensures.value c.declare.ensures
    ∙ ap (declare_in c.args.name.now c.args.number) c.self.view_is
