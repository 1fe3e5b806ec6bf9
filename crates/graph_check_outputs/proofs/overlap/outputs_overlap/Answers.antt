use Rattle.std.proofs.Common.{inl, inr, length, refl, subst, sym}
use Rattle.graph_check_outputs.specs.Outputs.{declared_files, outputs}
use Rattle.graph_check_outputs.specs.Gathered.{IsListOf}
use Rattle.graph_check_outputs.specs.Sharing.{declared_dir_paths}
use Rattle.graph_check_outputs.proofs.Lists.{none_there}
use Rattle.graph_check_outputs.proofs.Overlapping.{file_dir_from, file_dir_to, nested_from, nested_to, no_file_dir}
use Rattle.graph_check_outputs.proofs.overlap.outputs_overlap.Goals as goal

pub returns-then-any_nested : goal.returns-then-any_nested
returns-then-any_nested c =
    let all = subst (IsListOf outputs c.args.pips.now) (sym c.as_slice.ensures.value) c.in_ok-outputs.ensures in
    (λ t. inl (nested_from c.args.pips.now c.as_slice.result.now all (c.any_nested.ensures.0 c.if-any_nested.true)), λ h. refl)

pub returns-then-is_empty : goal.returns-then-is_empty
returns-then-is_empty c = (
  λ t. cc,
  λ h. elim h [
    | inl nested ↦
        let all = subst (IsListOf outputs c.args.pips.now) (sym c.as_slice.ensures.value) c.in_ok-outputs.ensures in
        let t = c.any_nested.ensures.1 (nested_to c.args.pips.now c.as_slice.result.now all nested) in
        let f = c.if-any_nested.false in cc
    | inr file ↦ absurd (no_file_dir c.args.pips.now c.in_ok-dirs.dirs.items c.in_ok-dirs.ensures (none_there c.is_empty.result c.in_ok-dirs.dirs.len (length c.in_ok-dirs.dirs.items) c.is_empty.ensures c.if-is_empty.true c.in_ok-dirs.dirs.ok.0) file)
  ],
)

pub returns : goal.returns
returns c =
    let pips = c.args.pips.now in
    let all = subst (IsListOf outputs pips) (sym c.as_slice.ensures.value) c.in_ok-outputs.ensures in
    let files = subst (IsListOf declared_files pips) (sym c.as_slice-2.ensures.value) c.in_ok-files.ensures in
    let dirs = subst (IsListOf declared_dir_paths pips) (sym c.as_slice-3.ensures.value) c.in_ok-dirs.ensures in (
      λ t. file_dir_from pips c.as_slice-2.result.now c.as_slice-3.result.now files dirs (c.any_within.ensures.0 t),
      λ h. elim h [
        | inl nested ↦ let t = c.any_nested.ensures.1 (nested_to pips c.as_slice.result.now all nested) in let f = c.if-any_nested.false in cc
        | inr file ↦ c.any_within.ensures.1 (file_dir_to pips c.as_slice-2.result.now c.as_slice-3.result.now files dirs file)
      ],
    )
