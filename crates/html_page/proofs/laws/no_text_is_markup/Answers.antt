use Rattle.html_page.proofs.Kept.{kept}
use Rattle.html_page.proofs.laws.no_text_is_markup.Goals as goal

pub returns : goal.returns
returns c = kept
