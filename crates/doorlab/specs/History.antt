-- What `doorlab history` answers and writes, by what was read.
use Rattle.std.specs.Prelude.{ℕ, ◌≡◌, List, Option, Result, Ok, Err, IfSome, ⊤}
use Rattle.std.specs.Io.KnownBytes.{Appends}
use Rattle.dk_base.specs.Words.{Rose}
use Rattle.line_forms.specs.declared.reason.Reason.TheVariants.{Size}
use Rattle.dk_base.specs.declared.reading.ReadText.{ReadText}
use Rattle.dk_base.specs.declared.reading.ReadText.TheVariants.{Whole, TooLong}
use Rattle.dk_base.specs.Input.{text_within_limit, IsWithinLimit, LeavesNone, LeavesRest}
use Rattle.dk_base.specs.Output.{AppendsFront}
use Rattle.history_check.specs.declared.verdict.Verdict.{Verdict}
use Rattle.history_check.specs.declared.verdict.Verdict.TheVariants.{Bad}
use Rattle.history_check.specs.Verdicts.{verdict}
use Rattle.history_check.specs.VerdictText.{verdict_text}
use Rattle.doorlab.specs.declared.history.TheConstants.{HISTORY_LIMIT}
use Rattle.doorlab.specs.declared.history.Reply.{Reply}
use Rattle.doorlab.specs.declared.status.Status.{Status}
use Rattle.doorlab.specs.declared.status.Status.TheVariants as status
use Rattle.doorlab.specs.Status.{status_of_verdict}

-- a text of more bytes than the limit is bad as a whole
abbrev pub verdict_of : ReadText → Verdict
verdict_of (Whole text) = verdict text
verdict_of TooLong = Bad 0 Size

-- a status that says what was asked, and not that memory, a read or a write failed
abbrev pub IsAnswer : Status → Type 0
IsAnswer status.Memory = ⊥
IsAnswer status.ReadFault = ⊥
IsAnswer status.WriteFault = ⊥
IsAnswer _ = ⊤

-- a status that comes with a text or with a front of one: memory did not lack, and no read failed
abbrev pub HasText : Status → Type 0
HasText status.Memory = ⊥
HasText status.ReadFault = ⊥
HasText _ = ⊤

-- what was read is all that the source had, where it tells, or more than the limit
pub record IsRead (old new : Option (List ℕ)) (read : ReadText) : Type 0 where
  pub told : IfSome old (λ bytes. read ≡ text_within_limit bytes HISTORY_LIMIT)
  pub within : IsWithinLimit HISTORY_LIMIT read
  pub ended : IfSome old (λ _. LeavesNone read new)

-- of a verdict all was written, with its status, or a front of its text where a write failed
pub record IsWritten (found : Verdict) (held_old held_new : Option (List ℕ)) (answer : Status) : Type 0 where
  pub whole : IsAnswer answer → (answer ≡ status_of_verdict found) × Appends held_old held_new (verdict_text found)
  pub front : answer ≡ status.WriteFault → AppendsFront held_old held_new (verdict_text found)

-- a reply tells of this verdict
pub record IsReplyTo (found : Verdict) (reply : Reply) : Type 0 where
  pub status : reply.status ≡ status_of_verdict found
  pub text : reply.text ≡ verdict_text found

-- some verdict was made, of which the reply tells, and it was written
abbrev pub IsWrittenOf : {E : Type 0} → Result Reply E → Option (List ℕ) → Option (List ℕ) → Status → Type 0
IsWrittenOf (Ok reply) held_old held_new answer = (found : Verdict) → IsReplyTo found reply → IsWritten found held_old held_new answer
IsWrittenOf (Err fault) held_old held_new answer = ⊥

-- a text was read, and the verdict on it was written
pub record Answered (left_old left_new held_old held_new : Option (List ℕ)) (answer : Status) : Type 0 where
  pub read : ReadText
  pub is_read : IsRead left_old left_new read
  pub written : IsWritten (verdict_of read) held_old held_new answer

-- how the input is left
pub record LeavesInput
    {Input : Type 0} (left : Input → Option (List ℕ)) (faults : Input → ℕ) (old new : Input) (answer : Status) : Type 0 where
  -- what is left is the end of what was left
  pub rest : LeavesRest (left old) (left new)
  -- ReadFault only where a read failed
  pub read_fault : answer ≡ status.ReadFault → Rose (faults old) (faults new)

-- how the output is left
pub record LeavesOutput
    {Output : Type 0} (faults : Output → ℕ) (old new : Output) (answer : Status) : Type 0 where
  -- WriteFault only where a write failed
  pub write_fault : answer ≡ status.WriteFault → Rose (faults old) (faults new)
  -- nothing is written where a read failed
  pub read_fault_writes_nothing : answer ≡ status.ReadFault → new ≡ old
  -- nothing is written for want of memory
  pub want_writes_nothing : answer ≡ status.Memory → new ≡ old
