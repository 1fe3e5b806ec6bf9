use Rattle.std.proofs.Common.{refl}
use Rattle.html_page.specs.Pages.{head_text}
use Rattle.html_page.proofs.rendering.head.Goals as goal

pub returns : goal.returns
unfolding head_text
returns c = refl
