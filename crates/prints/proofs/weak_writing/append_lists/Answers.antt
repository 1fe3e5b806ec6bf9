use Rattle.std.proofs.Common.{◌++◌, ◌∙◌, List, ℕ, map, ap, subst}
use Rattle.std.specs.List.{AllByRecursion, flat_map}
use Rattle.bx_tree.specs.Paths.{Atoms, IsPath}
use Rattle.pip_model_types.specs.declared.args.EnvPair.{EnvPair}
use Rattle.pip_model_types.specs.declared.dir_inputs.DirInput.{DirInput}
use Rattle.pip_model_types.specs.declared.outputs.OutDir.{OutDir}
use Rattle.prints.proofs.Joining.{joined_six}
use Rattle.prints.specs.Processes.{IsCountable, IsDirLine, IsOutDir, IsVariable}
use Rattle.prints.specs.Weak.{arg_line, dir_line, env_line, in_line, indir_line, line_of_file, out_line, outdir_line}
use Rattle.prints.proofs.DescTexts.{lists_weak, lists_written}
use Rattle.prints.proofs.weak_writing.append_lists.Goals as goal

pub returns-clause-text : goal.returns-clause-text
returns-clause-text c =
    let d = c.args.desc.now in
    joined_six c.args.text.now.items c.append_lines.new.text.items c.append_lines-2.new.text.items c.append_lines-3.new.text.items c.append_lines-4.new.text.items
    c.append_lines-5.new.text.items c.append_lines-6.new.text.items
    (flat_map arg_line (map (λ t. t) c.texts.result.now)) (flat_map env_line (map (λ v. v) c.pairs.result.now)) (flat_map in_line (map line_of_file c.files.result.now))
    (flat_map indir_line (map dir_line c.dirs.result.now)) (flat_map out_line (map (λ p. p) c.paths.result.now)) (flat_map outdir_line (map (λ o. o) c.dirs-2.result.now))
    c.in_ok-append_lines.ensures.text c.in_ok-append_lines-2.ensures.text c.in_ok-append_lines-3.ensures.text c.in_ok-append_lines-4.ensures.text
    c.in_ok-append_lines-5.ensures.text c.in_ok-append_lines-6.ensures.text
    ∙ ap (λ t. c.args.text.now.items ++ t)
    (lists_written d c.files.result.now c.files.ensures.files c.texts.result.now c.pairs.result.now c.dirs.result.now c.paths.result.now c.dirs-2.result.now
    c.texts.ensures c.pairs.ensures.pairs c.dirs.ensures.dirs c.paths.ensures.paths c.dirs-2.ensures.dirs)

pub returns-clause-weak : goal.returns-clause-weak
returns-clause-weak c =
    lists_weak c.args.desc.now c.files.result.now c.files.ensures.files
    (subst (λ (xs : List (List ℕ)). AllByRecursion IsCountable (map (λ t. t) xs)) c.texts.ensures c.in_ok-append_lines.ensures.fit)
    (subst (λ (xs : List EnvPair). AllByRecursion IsVariable (map (λ v. v) xs)) c.pairs.ensures.pairs c.in_ok-append_lines-2.ensures.fit)
    c.pairs.ensures.sorted c.in_ok-append_lines-3.ensures.fit c.files.ensures.rising
    (subst (λ (xs : List DirInput). AllByRecursion IsDirLine (map dir_line xs)) c.dirs.ensures.dirs c.in_ok-append_lines-4.ensures.fit) c.dirs.ensures.rising
    (subst (λ (xs : List Atoms). AllByRecursion IsPath (map (λ p. p) xs)) c.paths.ensures.paths c.in_ok-append_lines-5.ensures.fit) c.paths.ensures.rising
    (subst (λ (xs : List OutDir). AllByRecursion IsOutDir (map (λ o. o) xs)) c.dirs-2.ensures.dirs c.in_ok-append_lines-6.ensures.fit) c.dirs-2.ensures.rising
