use Rattle.std.proofs.Common.{arith}
use Rattle.history_text.proofs.ShortAnswers.{shown_short}
use Rattle.history_text.proofs.write_event.push_answer.Goals as goal

pub push_answer-requires : goal.push_answer-requires
push_answer-requires c = omega (arith, shown_short c.args.names.now c.requires.names c.args.answer.now)

pub returns-clause-room : goal.returns-clause-room
returns-clause-room c = let short = shown_short c.args.names.now c.requires.names c.args.answer.now in (omega arith, omega arith)
