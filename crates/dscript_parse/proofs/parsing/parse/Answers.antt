use Rattle.std.proofs.Common.{subst}
use Rattle.dscript_ast.specs.Views.{file_tree}
use Rattle.dscript_ast.specs.declared.file.Form.TheVariants as forms
use Rattle.dscript_grammar.specs.FileReading.{read_file}
use Rattle.dscript_parse_tokens.specs.Gives.{kinds, Parses}
use Rattle.dscript_parse.proofs.WholeFiles.{IsRead, finished, file_derived, file_only}
use Rattle.dscript_parse.proofs.parsing.parse.Goals as goal

config_read : (c : goal.After-whole) → IsRead forms.Config (kinds c.args.tokens.now) c.whole.result
config_read c =
    finished forms.Config (kinds c.args.tokens.now) _ c.config.result c.whole.result (λ n e. e)
    (subst (λ n. Parses file_tree (read_file n forms.Config) n c.args.tokens.now c.config.result) c.in_file.ensures c.config.ensures) c.whole.ensures

module_read : (c : goal.After-whole-in-Module) → IsRead forms.Module (kinds c.args.tokens.now) c.whole-in-Module.result
module_read c =
    finished forms.Module (kinds c.args.tokens.now) _ c.module.result c.whole-in-Module.result (λ n e. e)
    (subst (λ n. Parses file_tree (read_file n forms.Module) n c.args.tokens.now c.module.result) c.in_file-in-Module.ensures c.module.ensures) c.whole-in-Module.ensures

pub returns-in-Project-clause-exact : goal.returns-in-Project-clause-exact
returns-in-Project-clause-exact c = rw c.in-Project.is (file_derived forms.Project _ c.project.result c.project.ensures)

pub returns-in-Project-clause-only_file : goal.returns-in-Project-clause-only_file
returns-in-Project-clause-only_file c = rw c.in-Project.is (file_only forms.Project _ c.project.result c.project.ensures)

pub returns-in-Config-clause-exact : goal.returns-in-Config-clause-exact
returns-in-Config-clause-exact c = rw c.in-Config.is (file_derived forms.Config _ c.whole.result (config_read c))

pub returns-in-Config-clause-only_file : goal.returns-in-Config-clause-only_file
returns-in-Config-clause-only_file c = rw c.in-Config.is (file_only forms.Config _ c.whole.result (config_read c))

pub returns-in-Module-clause-exact : goal.returns-in-Module-clause-exact
returns-in-Module-clause-exact c = rw c.in-Module.is (file_derived forms.Module _ c.whole-in-Module.result (module_read c))

pub returns-in-Module-clause-only_file : goal.returns-in-Module-clause-only_file
returns-in-Module-clause-only_file c = rw c.in-Module.is (file_only forms.Module _ c.whole-in-Module.result (module_read c))
