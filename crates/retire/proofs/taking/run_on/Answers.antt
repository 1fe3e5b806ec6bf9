use Rattle.std.proofs.Common.{subst, sym}
use Rattle.std.specs.Prelude.{IfSome}
use Rattle.pip_model_types.specs.declared.desc.Desc.{Desc}
use Rattle.run_record.specs.Facts.{Facts, IsRun, Sound}
use Rattle.run_record.specs.Digests.{IsWeakOf}
use Rattle.retire.proofs.taking.run_on.Goals as goal

pub of-requires : goal.of-requires
of-requires g c = subst (λ (d : Desc). IfSome c.args.weak (IsWeakOf d)) (sym c.in_ok-ran.ensures.ran.desc) c.requires

pub returns-clause-ran : goal.returns-clause-ran
returns-clause-ran g c = subst (λ (f : Facts). IsRun f c.args.desc (g.V.View.answers c.args.view.now)) (sym c.of.ensures) c.in_ok-ran.ensures.ran

pub returns-clause-sound : goal.returns-clause-sound
returns-clause-sound g c = subst Sound (sym c.of.ensures) c.desc-sound.ensures.sound
