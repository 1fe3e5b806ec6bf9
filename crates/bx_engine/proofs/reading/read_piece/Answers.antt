use Rattle.std.proofs.Common.{◌≡◌, Ok, ap}
use Rattle.bx_engine.proofs.reading.read_piece.Goals as goal

pub returns-clause-end : goal.returns-clause-end
returns-clause-end g c none_read wanted =
    let none_came : c.in_ok-count.count ≡ 0 = cc in
    c.in_ok-count.ensures.end wanted (ap (λ n. Ok n) none_came)

pub returns-clause-none_left : goal.returns-clause-none_left
returns-clause-none_left g c none_read wanted =
    let none_came : c.in_ok-count.count ≡ 0 = cc in
    c.in_ok-count.ensures.none_left wanted (ap (λ n. Ok n) none_came)
