use Rattle.std.proofs.Common.{inl, inr, ◌⊎◌, IsTrue, subst, sym}
use Rattle.std.specs.Prelude.{◌↔◌}
use Rattle.std.specs.List.{Any, Contains}
use Rattle.pip_model_types.specs.declared.pip.PipKind.{PipKind}
use Rattle.pip_model_types.specs.declared.pip.ProcessDesc.{ProcessDesc}
use Rattle.graph_check.specs.Described.{HasDescribed}
use Rattle.graph_check.specs.Twin.{descriptions}
use Rattle.graph_check.specs.Descriptions.{description}
use Rattle.graph_check.proofs.Twins.{among_once, described_once}
use Rattle.graph_check.proofs.twin.is_twin.Goals as goal

pub returns-in_ok-had-in-Process : goal.returns-in_ok-had-in-Process
returns-in_ok-had-in-Process c =
    let old = c.args.seen.now in
    let new = c.had.new.seen in
    let said = c.in_ok-had-in-Process.ensures in
    let d = description c.in-Process.process in
    let one = described_once (HasDescribed old) d in record {
      twin = subst (λ (k : PipKind). IsTrue c.in_ok-had-in-Process.field-0 ↔ Any (HasDescribed old) (descriptions k)) (sym c.in-Process.is)
          (λ t. one.0 (said.had.0 t), λ any. said.had.1 (one.1 any));
      added = subst (λ (k : PipKind). (e : ProcessDesc) → HasDescribed new e ↔ (HasDescribed old e ⊎ Contains (descriptions k) e)) (sym c.in-Process.is)
          (λ e. let once = among_once d e in (
            λ h. elim ((said.added e).0 h) [ inl before ↦ inl before | inr same ↦ inr (once.0 same) ],
            λ h. (said.added e).1 (elim h [ inl before ↦ inl before | inr among ↦ inr (once.1 among) ]),
          ));
    }
