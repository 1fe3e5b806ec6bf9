use Rattle.std.proofs.Common.{◌≡◌, sym, ◌∙◌}
use Rattle.memo_format.specs.StoreNames.{at_entry}
use Rattle.two_phase.proofs.Kept.{entry_there}
use Rattle.two_phase.proofs.rechecking.has_entry.Goals as goal

pub returns-in-Found-clause-held : goal.returns-in-Found-clause-held
returns-in-Found-clause-held g c = λ yes.
    let named : c.as_str.result.now ≡ at_entry c.args.entry.now.strong = c.as_str.ensures.value ∙ c.in_ok-name.ensures.name in
    entry_there (g.R.KeepReader.held c.get.new.self) c.args.entry.now c.as_str.result.now c.args.text.now c.in-Found.bytes named c.requires c.in-Found.ensures.found
    (sym c.as_slice.ensures.value ∙ c.are_same_bytes.ensures yes)
