use Rattle.std.proofs.Common.{List, ℕ, map, subst}
use Rattle.std.specs.List.{AllByRecursion}
use Rattle.bx_tree.specs.Paths.{Atoms, IsPath}
use Rattle.pip_model_types.specs.declared.args.EnvPair.{EnvPair}
use Rattle.pip_model_types.specs.declared.dir_inputs.DirInput.{DirInput}
use Rattle.pip_model_types.specs.declared.outputs.OutDir.{OutDir}
use Rattle.prints.specs.Processes.{IsCountable, IsDirLine, IsOutDir, IsVariable}
use Rattle.prints.specs.Weak.{dir_line}
use Rattle.prints.proofs.DescTexts.{lists_weak}
use Rattle.prints.proofs.weak_writing.known_lists.Goals as goal

pub returns : goal.returns
returns c =
    lists_weak c.args.desc.now c.files.result.now c.files.ensures.files
    (subst (λ (xs : List (List ℕ)). AllByRecursion IsCountable (map (λ t. t) xs)) c.texts.ensures c.have_lines.ensures)
    (subst (λ (xs : List EnvPair). AllByRecursion IsVariable (map (λ v. v) xs)) c.pairs.ensures.pairs c.have_lines-2.ensures)
    c.pairs.ensures.sorted c.have_lines-3.ensures c.files.ensures.rising
    (subst (λ (xs : List DirInput). AllByRecursion IsDirLine (map dir_line xs)) c.dirs.ensures.dirs c.have_lines-4.ensures) c.dirs.ensures.rising
    (subst (λ (xs : List Atoms). AllByRecursion IsPath (map (λ p. p) xs)) c.paths.ensures.paths c.have_lines-5.ensures) c.paths.ensures.rising
    (subst (λ (xs : List OutDir). AllByRecursion IsOutDir (map (λ o. o) xs)) c.dirs-2.ensures.dirs c.have_lines-6.ensures) c.dirs-2.ensures.rising
