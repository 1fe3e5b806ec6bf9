use denote.Param.Send.{sendable}
use Rattle.std.proofs.Common.{ap, sym, ◌∙◌, subst}
use Rattle.std.proofs.lemmas.Result.{IfOk-weaker}
use Rattle.sha2.specs.Sha256.{sha256}
use Rattle.memo_format.specs.StoreNames.{HoldsBlob}
use Rattle.two_phase.proofs.Kept.{paths_there}
use Rattle.two_phase.proofs.rechecking.has_paths.Goals as goal

pub has_content-requires : goal.has_content-requires
has_content-requires g c = (
  search (sendable, c.type_bounds.send-R),
  c.digest-digest.ensures.digest ∙ c.text.ensures.read.digest_is ∙ ap sha256 (sym (c.bytes.ensures ∙ c.text.ensures.text)),
)

pub returns-clause-held : goal.returns-clause-held
returns-clause-held g c =
    IfOk-weaker c.has_content.result _ _
    (λ held there yes. paths_there (g.R.KeepReader.held c.has_content.new.reader) c.args.paths.now c.text.ensures.read
    (λ S told. subst (HoldsBlob S) (c.bytes.ensures ∙ c.text.ensures.text) (there yes S told)))
    c.has_content.ensures.held
