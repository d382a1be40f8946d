use Rattle.seat_api.proofs.Calls.{sits_first}
use Rattle.seat_api.proofs.seats.Seats.new.Goals as goal

pub invariant_of-result : goal.invariant_of-result
invariant_of-result g c = sits_first c.in-Ok.place.me c.in-Ok.ensures.first
