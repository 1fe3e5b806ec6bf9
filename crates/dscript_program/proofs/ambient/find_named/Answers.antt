use Rattle.std.proofs.Common.{◌≡◌, ◌≢◌, sym, ◌∙◌, subst, arith, take}
use Rattle.std.specs.List.{All}
use Rattle.std.proofs.lemmas.Bool.{false≢true}
use Rattle.std.proofs.lemmas.List.{take_all}
use Rattle.std.proofs.lemmas.List.Elements.{All-more}
use Rattle.std.proofs.lemmas.Slice.Eq.{bytes_eq-Decides}
use Rattle.dscript_program.specs.Ambient.{written_name}
use Rattle.dscript_program.specs.declared.ambient.Ambient.{Ambient}
use Rattle.dscript_program.proofs.ambient.find_named.Goals as goal

pub calls-preserved : goal.calls-preserved
calls-preserved c =
    All-more (λ (call : Ambient). written_name call ≢ c.args.name.now) c.args.calls.now c.calls.call-index _ c.calls-test.true c.calls.invariant
    (λ e. false≢true (sym c.if-eq.false ∙ c.eq.ensures
    ∙ (bytes_eq-Decides c.as_bytes.result.now c.args.name.now).1 (c.as_bytes.ensures.value ∙ c.name.ensures ∙ e)))

pub returns : goal.returns
returns c = subst (All (λ (call : Ambient). written_name call ≢ c.args.name.now)) (take_all c.calls.call-index c.args.calls.now c.calls-test.false) c.calls.invariant
