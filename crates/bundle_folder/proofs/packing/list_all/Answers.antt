use Rattle.bundle_folder.proofs.Rising.{cause_of}
use Rattle.bundle_folder.proofs.packing.list_all.Goals as goal

pub returns-in-Err-Failed-clause-cause : goal.returns-in-Err-Failed-clause-cause
returns-in-Err-Failed-clause-cause g c = cause_of _ _ (λ t. (c.in-Err-Failed.place, (cc))) c.list.ensures.cause
