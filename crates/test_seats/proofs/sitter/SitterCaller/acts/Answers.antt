use Rattle.test_seats.proofs.sitter.SitterCaller.acts.Goals as goal

pub enter-requires-clause-fit : goal.enter-requires-clause-fit
enter-requires-clause-fit g c = c.in-Ok.ensures.fit g.J.Opening.opening c.args.self.now.seat.thread.0
