use Rattle.history_text.specs.LineWords.{fd_word}
use Rattle.history_text.proofs.Spaced.{all_put}
use Rattle.history_text.proofs.write_operands.push_ports.Goals as goal

pub returns-clause-items : goal.returns-clause-items
returns-clause-items c =
    all_put fd_word c.args.ports.now c.loop-port.port-index c.args.text.now.items c.loop-port.text.items c.loop-port-test.false c.loop-port.invariant.0
