-- The name that an answer shows is short.
use Rattle.std.proofs.Common.{◌≤◌, length, arith}
use Rattle.dk_base.specs.declared.answer.Answer.{Answer}
use Rattle.dk_base.specs.declared.answer.Answer.TheVariants.{Info, Entered, EnteredNotice}
use Rattle.trace_text.specs.AnswerRoom.{shown_procedure}
use Rattle.history_text.specs.Names.{Names}
use Rattle.history_text.specs.Lookups.{procedure_word}
use Rattle.history_text.specs.ShortNames.{AreShort}

pub shown_short : (names : Names) → AreShort names → (answer : Answer) → length (shown_procedure (procedure_word names) answer) ≤ 16
shown_short names short (Info info) = short.procedures info.entry
shown_short names short (Entered call entry cookie bytes fds) = short.procedures entry
shown_short names short (EnteredNotice notice entry cookie) = short.procedures entry
shown_short names short answer = omega arith
