use Rattle.std.proofs.Common.{rules}
use Rattle.std.specs.Ordering.{is_lt}
use Rattle.std.proofs.lemmas.List.Sorted.{answers_always, ranks_by}
use Rattle.bx_tree.specs.Orders.{path_cmp_total}
use Rattle.bx_tree.specs.Paths.{path_cmp}
use Rattle.bx_tree.specs.declared.file_input.FileInput.{FileInput}
use Rattle.pip_model_types.proofs.Placed.{rising_from_sorted}
use Rattle.pip_model_types.proofs.file_inputs.by_path.Goals as goal
use Rattle.bx_tree.specs.FileInputs.{input_path}

pub returns-clause-rising : goal.returns-clause-rising
returns-clause-rising c =
    rising_from_sorted input_path c.args.files.items c.sort_unstable_by.new.self.items c.requires c.sort_unstable_by.ensures.permutation
    (c.sort_unstable_by.ensures.sorted (λ (a b : FileInput). is_lt (path_cmp (input_path a) (input_path b))) (ranks_by path_cmp_total input_path)
    (answers_always _ _ _ (λ f a r g h. search rules)))
