-- The paths of the two files.
use Rattle.std.proofs.Common.{codes, refl, lit<, lit≤, rules}
use Rattle.bx_tree.specs.Paths.{IsAtom, Names}
use Rattle.bx_engine_generate.specs.Generated.{specification_path, tool_path}

atom_specification : IsAtom (codes "build.dsc")
atom_specification = record { some = lit< tt; short = lit≤ tt; bytes = search rules; not_dot = λ e. cc; not_dots = λ e. cc }

pub named_specification : Names (codes "build.dsc") specification_path
named_specification = record { is_path = record { atoms = (atom_specification, tt); short = lit≤ tt }; not_root = λ e. cc; text_is = refl }

atom_tool : IsAtom (codes "cat.tool")
atom_tool = record { some = lit< tt; short = lit≤ tt; bytes = search rules; not_dot = λ e. cc; not_dots = λ e. cc }

pub named_tool : Names (codes "cat.tool") tool_path
named_tool = record { is_path = record { atoms = (atom_tool, tt); short = lit≤ tt }; not_root = λ e. cc; text_is = refl }
