use denote.Param.Send.{sendable}
use Rattle.std.proofs.Common.{Some, ap, sym, ◌∙◌, subst}
use Rattle.std.proofs.lemmas.Result.{IfOk-weaker}
use Rattle.memo_format.specs.StoreNames.{HoldsEntry}
use Rattle.two_phase.specs.Kept.{IsListed}
use Rattle.two_phase.proofs.Kept.{kept_all}
use Rattle.two_phase.proofs.rechecking.is_kept.Goals as goal

pub has_entry-requires : goal.has_entry-requires
has_entry-requires g c = (search (sendable, c.type_bounds.send-R), c.entry_text.ensures ∙ ap Some (sym c.entry-entry.ensures.entry))

pub returns-clause-kept : goal.returns-clause-kept
returns-clause-kept g c =
    IfOk-weaker c.has_files.result _ _
    (λ kept all yes. kept_all (g.R.KeepReader.held c.is_listed.new.reader) (g.R.KeepReader.held c.has_entry.new.reader) (g.R.KeepReader.held c.has_paths.new.reader)
    (g.R.KeepReader.held c.has_files.new.reader) c.args.found.now c.read_paths.result.now c.files.result.now
    c.in_ok-there.ensures.reader.held_is c.in_ok-read.ensures.reader.held_is c.has_files.ensures.reader.held_is c.read_paths.ensures.asks c.read_paths.ensures.digest
    (c.files.ensures.files ∙ c.made.ensures.made)
    (λ S told. subst (IsListed S) c.entry-entry.ensures.entry (c.in_ok-listed.ensures.listed c.if-not-listed.false S told))
    (λ S told. subst (HoldsEntry S) c.entry-entry.ensures.entry (c.in_ok-there.ensures.held c.if-not-there.false S told))
    (c.in_ok-read.ensures.held c.if-not-read.false) (all yes))
    c.has_files.ensures.held
