use Rattle.std.proofs.Common.{◌≡◌, length}
use Rattle.line_reader.specs.Combinators.{items_to}
use Rattle.line_reader.specs.Operands.{is_no_stop}
use Rattle.history_text.specs.Operands.{thread_from_word}
use Rattle.line_reader.proofs.ItemByItem.{onto}
use Rattle.history_text.proofs.operands.Operands.threads.Given as goal

abbrev pub invariant-loop-threads : goal.invariant-loop-threads
invariant-loop-threads l = onto l.threads (items_to is_no_stop (thread_from_word l.names) l.self) ≡ items_to is_no_stop (thread_from_word l.names) l.fn.self

abbrev pub decreases-loop-threads : goal.decreases-loop-threads
decreases-loop-threads l = length l.self.words
