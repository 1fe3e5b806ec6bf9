-- The path of the report.
use Rattle.std.proofs.Common.{codes, refl, lit<, lit≤, rules}
use Rattle.bx_tree.specs.Paths.{IsAtom, Names}
use Rattle.bx_engine.specs.Ending.{report_path}

atom_report : IsAtom (codes "report.txt")
atom_report = record { some = lit< tt; short = lit≤ tt; bytes = search rules; not_dot = λ e. cc; not_dots = λ e. cc }

pub named_report : Names (codes "report.txt") report_path
named_report = record { is_path = record { atoms = (atom_report, tt); short = lit≤ tt }; not_root = λ e. cc; text_is = refl }
