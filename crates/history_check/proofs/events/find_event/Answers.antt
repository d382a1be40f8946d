use Rattle.history_check.proofs.events.find_event.Goals as goal

pub returns-in-Enter : goal.returns-in-Enter
returns-in-Enter g c = λ stage number answer. rw c.in-Enter.is (c.find_request.ensures stage number answer)

pub returns-in-GoOn : goal.returns-in-GoOn
returns-in-GoOn g c = λ stage number answer. rw c.in-GoOn.is (c.find_wait_end.ensures stage number c.in-GoOn._what answer)
