use Rattle.std.proofs.Common.{◌≡◌, length}
use Rattle.line_reader.specs.Combinators.{items_to}
use Rattle.line_reader.specs.Operands.{is_rsize}
use Rattle.line_reader.proofs.ItemByItem.{onto}
use Rattle.history_text.specs.Operands.{pass_from_word}
use Rattle.history_text.proofs.operands.Operands.pass_list.Given as goal

abbrev pub invariant-loop-passes : goal.invariant-loop-passes
invariant-loop-passes l = onto l.passes (items_to is_rsize pass_from_word l.self) ≡ items_to is_rsize pass_from_word l.fn.self

abbrev pub decreases-loop-passes : goal.decreases-loop-passes
decreases-loop-passes l = length l.self.words
