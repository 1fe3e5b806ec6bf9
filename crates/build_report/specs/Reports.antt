-- The report of a build whose pips were gone through.
use Rattle.std.specs.Prelude.{ℕ, ◌+◌, List, [], ◌∷◌, ◌++◌, Option, codes, if◌then◌else◌}
use Rattle.std.specs.Fmt.{decimal}
use Rattle.std.specs.List.{list_all}
use Rattle.std.specs.Option.{option_map_or}
use Rattle.bx_tree.specs.Paths.{path_text}
use Rattle.pip_model_types.specs.declared.pip.Pip.{Pip}
use Rattle.pip_model_types.specs.declared.pip.PipKind.{PipKind}
use Rattle.violations.specs.Verdicts.{is_success}
use Rattle.violations.specs.declared.verdict.Verdict.{Verdict}
use Rattle.violations.specs.declared.verdict.Verdict.TheVariants as verdicts
use Rattle.violations.specs.declared.verdict.Violation.{Violation}
use Rattle.build_report.specs.Names.{deed_name, end_name, pip_name, violation_name}

-- the pip that a violation names beside its own, if it names one
abbrev pub other_text : Option ℕ → List ℕ
other_text other = option_map_or (λ j. codes " pip " ++ decimal j) other []

abbrev pub violation_text : Violation → List ℕ
violation_text v =
    codes "failed " ++ violation_name v.kind ++ codes " " ++ deed_name v.deed ++ codes " " ++ path_text v.path
    ++ other_text v.other

-- how a pip ended
abbrev pub end_text : Verdict → List ℕ
end_text verdicts.Succeeded = codes "succeeded"
end_text verdicts.Skipped = codes "skipped"
end_text (verdicts.Exit code) = codes "failed exit " ++ decimal code
end_text (verdicts.Tool end) = codes "failed tool " ++ end_name end
end_text (verdicts.MissingOutput path) = codes "failed missing-output " ++ path_text path
end_text (verdicts.Violated violation) = violation_text violation

abbrev pub pip_line : ℕ → PipKind → Verdict → List ℕ
pip_line number kind verdict =
    codes "pip " ++ decimal number ++ codes " " ++ pip_name kind ++ codes " "
    ++ end_text verdict ++ codes "\n"

-- a line for each pip that has a verdict, numbered from this number on
abbrev pub pip_lines : ℕ → List Pip → List Verdict → List ℕ
pip_lines number [] vs = []
pip_lines number (pip ∷ pips) [] = []
pip_lines number (pip ∷ pips) (v ∷ vs) = pip_line number pip.kind v ++ pip_lines (number + 1) pips vs

-- the lines that say whether all pips succeeded
abbrev pub head_text : List Verdict → List ℕ
head_text vs =
    if list_all is_success vs then codes "report 1\nverdict succeeded\n"
    else codes "report 1\nverdict failed\n"

-- the report of a build of these pips, which ended so
abbrev pub report_text : List Pip → List Verdict → List ℕ
report_text pips vs = head_text vs ++ pip_lines 0 pips vs
