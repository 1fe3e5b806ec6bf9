use Rattle.std.proofs.Common.{◌≡◌, ◌++◌, drop}
use Rattle.std.specs.List.{flat_map}
use Rattle.dscript_sdk_members.specs.ListMembers.{separated_texts}
use Rattle.dscript_sdk_members.proofs.list_members.join_texts.Given as goal

abbrev pub invariant-texts : goal.invariant-texts
invariant-texts l =
    l.bytes.items ++ flat_map (λ text. l.separator ++ text) (drop l.text-index l.more) ≡ separated_texts l.separator l.texts
