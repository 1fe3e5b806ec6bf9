use Rattle.std.proofs.Common.{◌≡◌, Option, IfOk, IsSomeAnd, IsSome, sym, subst}
use Rattle.std.proofs.lemmas.Bool.{false≢true}
use Rattle.pip_model_types.specs.declared.pip.ProcessDesc.{ProcessDesc}
use Rattle.pip_model_types.specs.declared.desc.Desc.{Desc}
use Rattle.pip_view_inputs.specs.Plain.{desc_of}
use Rattle.pip_view_inputs.proofs.making.desc_among.Goals as goal

pub returns : goal.returns
returns c =
    subst (λ (o : Option ProcessDesc). IfOk c.desc_of_process.result (λ (desc : Desc). IsSomeAnd o
    (λ (process : ProcessDesc). desc ≡ desc_of c.args.sources.now c.args.inputs.now c.args.budget process)))
    c.in-Some.ensures c.desc_of_process.ensures

pub unreachable-requires : goal.unreachable-requires
unreachable-requires c = false≢true (subst IsSome (sym c.in-None.ensures) c.requires)
