use Rattle.std.proofs.Common.{◌≡◌, Some, Vec, Global, map}
use Rattle.bx_io.specs.Holdings.{Holdings}
use Rattle.bx_io.proofs.Changes.{keeps_on}
use Rattle.retire.specs.Over.{RunsOver}
use Rattle.build_misses.specs.Reasoned.{AreReasoned}
use Rattle.build_misses.specs.declared.finding.Miss.{Miss}
use Rattle.explain.proofs.Told.{found_over, reader_told}
use Rattle.explain.proofs.misses_over.Goals as goal

pub returns-clause-over : goal.returns-clause-over
returns-clause-over g c = λ S held tells.
    let start = g.K.Keeper.known c.args.keeper.now in
    let named = g.K.Keeper.known c.names_of.new.keeper in
    let now = g.K.Reader.KeepReader.held c.find_misses-found.new.reader in
    let told : now ≡ Some S =
    reader_told start.held named.held (g.K.Reader.KeepReader.held c.in_ok-reader.reader) now S c.in_ok-names.ensures.held c.in_ok-reader.ensures.held c.find_misses-found.ensures.reader.held_is held
    (c.close.ensures.reader tells) in
    let plan = c.args.end.now.plan in
    found_over c.find_misses-found.result now S (λ (misses : Vec Miss Global) (T : Holdings). RunsOver plan.pips c.args.end.now.sources plan.tool_budget T (map (λ (m : Miss). m.pip) misses.items)) told
    c.find_misses-found.ensures.over

pub returns-clause-reasons : goal.returns-clause-reasons
returns-clause-reasons g c = λ S held tells.
    let start = g.K.Keeper.known c.args.keeper.now in
    let named = g.K.Keeper.known c.names_of.new.keeper in
    let now = g.K.Reader.KeepReader.held c.find_misses-found.new.reader in
    let told : now ≡ Some S =
    reader_told start.held named.held (g.K.Reader.KeepReader.held c.in_ok-reader.reader) now S c.in_ok-names.ensures.held c.in_ok-reader.ensures.held c.find_misses-found.ensures.reader.held_is held
    (c.close.ensures.reader tells) in
    let plan = c.args.end.now.plan in
    found_over c.find_misses-found.result now S (λ (misses : Vec Miss Global) (T : Holdings). AreReasoned plan.pips c.args.end.now.sources plan.tool_budget T misses.items) told
    c.find_misses-found.ensures.reasons

pub returns-clause-kept : goal.returns-clause-kept
returns-clause-kept g c =
    keeps_on (g.K.Keeper.known c.args.keeper.now) (g.K.Keeper.known c.names_of.new.keeper) (g.K.Keeper.known c.close.new.self) c.in_ok-names.ensures c.close.ensures.known
