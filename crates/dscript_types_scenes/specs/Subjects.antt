-- Subjects and values.
use Rattle.std.specs.Prelude.{ℕ, List, None, Option, Some}
use Rattle.dscript_types_known.specs.declared.finding.Finding.{Finding}
use Rattle.dscript_types_known.specs.declared.finding.Finding.TheVariants as findings
use Rattle.dscript_types_meaning.specs.Access.{member_type}
use Rattle.dscript_types_meaning.specs.Types.{TypeData}
use Rattle.dscript_types_scenes.specs.declared.found.Seen.{Seen}
use Rattle.dscript_types_scenes.specs.declared.found.Subject.{Subject}
use Rattle.dscript_types_scenes.specs.declared.found.Subject.TheVariants as subjects
use Rattle.dscript_types_scenes.specs.declared.found.Typing.{Typing}
use Rattle.dscript_types_scenes.specs.declared.found.Typing.TheVariants as typings

-- what there may not be, after this was seen
abbrev pub only_found : {X : Type 0} → Option X → Seen → Typing X
only_found None seen = typings.Nothing
only_found (Some x) seen = typings.Found x seen

-- a value of a type
abbrev pub is_whole : Typing TypeData → Typing Subject
is_whole (typings.Found t seen) = typings.Found (subjects.Whole t) seen
is_whole typings.Nothing = typings.Nothing
is_whole (typings.Open pending) = typings.Open pending

-- the type of a subject as a value
abbrev pub whole_of : Typing Subject → Typing TypeData
whole_of (typings.Found (subjects.Whole t) seen) = typings.Found t seen
whole_of (typings.Found (subjects.Named t name) seen) = only_found (member_type t name) seen
whole_of (typings.Found (subjects.Function file decl) seen) = typings.Nothing
whole_of (typings.Found (subjects.Ambient call) seen) = typings.Nothing
whole_of typings.Nothing = typings.Nothing
whole_of (typings.Open pending) = typings.Open pending

-- what is found without bodies
abbrev pub in_finding : {X : Type 0} → Finding X → Typing X
in_finding (findings.Found x rank) = typings.Found x (record { rank = rank; right = Some 0 })
in_finding findings.Nothing = typings.Nothing
in_finding (findings.Open pending) = (typings.Open pending)

-- a member of a value
abbrev pub named_typing : Typing TypeData → List ℕ → Typing Subject
named_typing (typings.Found t seen) name = typings.Found (subjects.Named t name) seen
named_typing typings.Nothing name = typings.Nothing
named_typing (typings.Open pending) name = (typings.Open pending)
