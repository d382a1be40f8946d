use Rattle.std.proofs.Common.{◌≡◌, length}
use Rattle.line_reader.proofs.ItemByItem.{onto}
use Rattle.history_text.specs.Declarations.{members as members_read}
use Rattle.history_text.proofs.operands.Operands.members.Given as goal

abbrev pub invariant-loop-members : goal.invariant-loop-members
invariant-loop-members l = onto l.members (members_read l.self) ≡ members_read l.fn.self

abbrev pub decreases-loop-members : goal.decreases-loop-members
decreases-loop-members l = length l.self.words
