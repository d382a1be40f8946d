use Rattle.history_check.proofs.walk.Walk.find_line.Goals as goal

pub returns-in-Event : goal.returns-in-Event
returns-in-Event g c = rw c.in-Event.is (c.find_event.ensures c.in-Event.number c.in-Event.answer)
