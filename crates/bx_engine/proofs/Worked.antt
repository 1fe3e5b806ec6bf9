-- What is promised of a workload that is written, from what was written.
use Rattle.std.proofs.Common.{◌≡◌, ◌⊎◌, inl, inr, ℕ, List, refl, subst}
use Rattle.bx_engine_generate.specs.Generated.{generated}
use Rattle.bx_engine.specs.Calls.{Written}
use Rattle.bx_engine.specs.Known.{Appends, AppendsPrefix}
use Rattle.bx_engine.specs.Workloads.{WritesWorkload}
use Rattle.bx_engine.specs.declared.status.Status.{Status}
use Rattle.bx_engine.specs.declared.status.Status.TheVariants as statuses

pub workload_written : (seed pips : ℕ) (status : Status) (out : Written) (text : List ℕ) → text ≡ generated seed pips
    → (status ≡ statuses.Done) ⊎ (status ≡ statuses.OutFailed) → (status ≡ statuses.Done → Appends out.before out.now text)
    → (status ≡ statuses.OutFailed → AppendsPrefix out.before out.now text) → WritesWorkload seed pips status out
workload_written seed pips status out text is came written begun = record {
  one_of = elim came [ inl done ↦ inl done | inr cut ↦ inr (inl cut) ];
  written = λ done. subst (λ (t : List ℕ). Appends out.before out.now t) is (written done);
  begun = λ cut. subst (λ (t : List ℕ). AppendsPrefix out.before out.now t) is (begun cut);
}

pub workload_unwritten : (seed pips : ℕ) (out : Written) → WritesWorkload seed pips statuses.OutOfMemory out
workload_unwritten seed pips out = record {
  one_of = inr (inr refl);
  written = λ done. absurd cc;
  begun = λ cut. absurd cc;
}

pub written_not_memory : (status : Status) → (status ≡ statuses.Done) ⊎ (status ≡ statuses.OutFailed) → status ≡ statuses.OutOfMemory → ⊥
written_not_memory status came memory = elim came [ inl done ↦ cc | inr cut ↦ cc ]
