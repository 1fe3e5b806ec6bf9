use Rattle.std.proofs.Common.{refl}
use Rattle.two_phase_meaning.proofs.Found.{found}
use Rattle.two_phase_meaning.proofs.laws.hits.Goals as goal

pub returns : goal.returns
returns c = λ S d see honest reads apart s asks u. found S d see honest reads apart s u.by (u.list, u.held, (s, u.listed, refl))
