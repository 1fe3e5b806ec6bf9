use Rattle.std.proofs.Common.{◌++◌, List, ℕ, map, ap, ◌∙◌}
use Rattle.std.specs.List.{flat_map}
use Rattle.prints.specs.Weak.{arg_line, env_line, out_line, outdir_line}
use Rattle.graph_texts.specs.Pips.{dir_ref}
use Rattle.graph_texts.specs.Rows.{done_line, in_line, indir_line}
use Rattle.graph_texts.proofs.ProcessLines.{joined_seven, lists_fit, lists_written}
use Rattle.graph_texts.proofs.process_lines.append_lists.Goals as goal

pub returns-clause-text : goal.returns-clause-text
returns-clause-text c =
    joined_seven c.args.text.now.items c.append_lines.new.text.items c.append_lines-2.new.text.items c.append_lines-3.new.text.items
    c.append_lines-4.new.text.items c.append_lines-5.new.text.items c.append_lines-6.new.text.items c.extend_from_slice.new.self.items
    (flat_map arg_line (map (λ t. t) c.texts.result.now)) (flat_map env_line (map (λ v. v) c.pairs.result.now))
    (flat_map in_line (map (λ f. f) c.files.result.now)) (flat_map indir_line (map dir_ref c.dirs.result.now))
    (flat_map out_line (map (λ p. p) c.paths.result.now)) (flat_map outdir_line (map (λ o. o) c.dirs-2.result.now)) done_line
    c.in_ok-append_lines.ensures.text c.in_ok-append_lines-2.ensures.text c.in_ok-append_lines-3.ensures.text
    c.in_ok-append_lines-4.ensures.text c.in_ok-append_lines-5.ensures.text c.in_ok-append_lines-6.ensures.text
    c.in_ok-extend_from_slice.ensures.items
    ∙ ap (λ (t : List ℕ). c.args.text.now.items ++ t)
    (lists_written c.args.process.now c.texts.result.now c.pairs.result.now c.files.result.now c.dirs.result.now c.paths.result.now c.dirs-2.result.now
    c.texts.ensures c.pairs.ensures.pairs c.files.ensures.files c.dirs.ensures.dirs c.paths.ensures.paths c.dirs-2.ensures.dirs)

pub returns-clause-lists : goal.returns-clause-lists
returns-clause-lists c =
    lists_fit c.args.process.now c.texts.result.now c.pairs.result.now c.files.result.now c.dirs.result.now c.paths.result.now c.dirs-2.result.now
    c.texts.ensures c.pairs.ensures.pairs c.files.ensures.files c.dirs.ensures.dirs c.paths.ensures.paths c.dirs-2.ensures.dirs
    c.in_ok-append_lines.ensures.fit c.in_ok-append_lines-2.ensures.fit c.pairs.ensures.sorted c.in_ok-append_lines-3.ensures.fit
    c.files.ensures.rising c.in_ok-append_lines-4.ensures.fit c.in_ok-append_lines-5.ensures.fit c.paths.ensures.rising
    c.in_ok-append_lines-6.ensures.fit c.dirs-2.ensures.rising
