use Rattle.std.proofs.Common.{◌≡◌, ℕ, List, ◌∙◌, IfOk, rules, subst}
use Rattle.std.proofs.lemmas.Iterator.{YieldsList-from_map_by}
use Rattle.std.proofs.lemmas.Iterator.Consumers.{YieldsList-from_rest, map_from_collect}
use Rattle.bx_tree.specs.Paths.{Atoms}
use Rattle.bx_tree.specs.Trees.{Files}
use Rattle.pip_model_types.specs.declared.made.MadeFile.{MadeFile}
use Rattle.pip_model_types.specs.Made.{made_files}
use Rattle.std.proofs.lemmas.List.{map-id}
use Rattle.pip_model_types.proofs.made.files_of.Goals as goal

pub returns-clause-files : goal.returns-clause-files
returns-clause-files c =
    subst (λ (files : Files). IfOk c.collect.result (λ made. made_files made.items ≡ files)) (map-id c.args.files.entries)
    (map_from_collect _ c.collect.ensures.ran
    (YieldsList-from_map_by _ (λ (f : MadeFile). (f.path, f.blob)) (λ (p : Atoms × List ℕ). p)
    (YieldsList-from_rest c.args.files.entries (c.map.ensures.source ∙ c.into_iter.ensures.into_iter_gives.0)) c.map.ensures.closure (λ x r q k. search rules)))
