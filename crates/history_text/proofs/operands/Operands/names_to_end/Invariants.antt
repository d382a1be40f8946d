use Rattle.std.proofs.Common.{◌≡◌, length}
use Rattle.line_reader.specs.Combinators.{items_to}
use Rattle.line_reader.specs.Operands.{is_no_stop}
use Rattle.line_reader.specs.Operands.{name_from_word}
use Rattle.line_reader.proofs.ItemByItem.{onto}
use Rattle.history_text.proofs.operands.Operands.names_to_end.Given as goal

abbrev pub invariant-loop-names : goal.invariant-loop-names
invariant-loop-names l = onto l.names (items_to is_no_stop name_from_word l.self) ≡ items_to is_no_stop name_from_word l.fn.self

abbrev pub decreases-loop-names : goal.decreases-loop-names
decreases-loop-names l = length l.self.words
