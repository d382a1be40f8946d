use Rattle.std.proofs.Common.{◌≡◌, length}
use Rattle.line_reader.specs.Combinators.{items_to}
use Rattle.line_reader.specs.Operands.{is_no_stop}
use Rattle.line_reader.proofs.ItemByItem.{onto}
use Rattle.history_text.specs.Operands.{fd_from_word}
use Rattle.history_text.proofs.operands.Operands.port_list.Given as goal

abbrev pub invariant-loop-ports : goal.invariant-loop-ports
invariant-loop-ports l = onto l.ports (items_to is_no_stop fd_from_word l.self) ≡ items_to is_no_stop fd_from_word l.fn.self

abbrev pub decreases-loop-ports : goal.decreases-loop-ports
decreases-loop-ports l = length l.self.words
