use Rattle.html_page.proofs.ReadBack.{read_back}
use Rattle.html_page.proofs.laws.text_is_read_back.Goals as goal

pub returns : goal.returns
returns c = read_back
