use Rattle.two_phase.proofs.Fetched.{content_found, no_content}
use Rattle.miss_reasons.proofs.selectors.content.Goals as goal

pub returns-in-Found-clause-found : goal.returns-in-Found-clause-found
returns-in-Found-clause-found g c = content_found (g.R.KeepReader.held c.get_blob.new.reader) c.args.digest.now c.in-Found.blob c.in-Found.ensures.fetched

pub returns-in-NotWell-clause-found : goal.returns-in-NotWell-clause-found
returns-in-NotWell-clause-found g c = no_content (g.R.KeepReader.held c.get_blob.new.reader) c.args.digest.now c.in-NotWell.ensures.fetched
