use Rattle.std.proofs.Common.{◌≡◌, None, length}
use Rattle.std.specs.List.{last_or, slice_split}
use Rattle.bx_tree.proofs.PathTexts.{is_slash}
use Rattle.dscript_sdk_members.proofs.path_members.last_part.Given as goal

abbrev pub invariant-parts : goal.invariant-parts
invariant-parts l = last_or None (slice_split is_slash l.rest) ≡ last_or None (slice_split is_slash l.text)

abbrev pub decreases-parts : goal.decreases-parts
decreases-parts l = length l.rest
