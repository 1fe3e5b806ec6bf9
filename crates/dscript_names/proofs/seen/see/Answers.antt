use Rattle.dscript_names.proofs.SeenNames.{not_not, seen_more}
use Rattle.dscript_names.proofs.seen.see.Goals as goal

pub returns : goal.returns
returns c = record {
  was = not_not _ _ c.in_ok-insert.ensures.added;
  added = λ q. seen_more c.args.name q _ _ (c.in_ok-insert.ensures.updates.0 q);
}
