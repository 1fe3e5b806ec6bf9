use Rattle.std.proofs.Common.{◌≡◌, take}
use Rattle.pip_view_inputs.proofs.sharing.share_texts.Given as goal

abbrev pub invariant-texts : goal.invariant-texts
invariant-texts l = l.shared.items ≡ take l.text-index l.texts
