-- The line that tells of a run of a load.
use Rattle.std.specs.Prelude.{ℕ, Bool, true, false, ◌&&◌, ◌++◌, List, length, count_by, codes, decimal}
use Rattle.spec_requests.specs.Types.{Event}
use Rattle.dk_base.specs.declared.answer.Answer.{Answer}
use Rattle.dk_base.specs.declared.answer.Answer.TheVariants.{WaitCall, Results}
use Rattle.dk_base.specs.declared.event.What.{What}
use Rattle.dk_base.specs.declared.event.What.TheVariants.{Call, Collect}
use Rattle.spec_requests.specs.Words.{ending_word}
use Rattle.spec_scripts.specs.Words.{History, ending_of}

abbrev pub is_call : What → Bool
is_call Call = true
is_call what = false

abbrev pub is_collect : What → Bool
is_collect Collect = true
is_collect what = false

abbrev pub is_wait_for_call : Answer → Bool
is_wait_for_call (WaitCall call) = true
is_wait_for_call answer = false

abbrev pub is_results : Answer → Bool
is_results (Results bytes fds grown) = true
is_results answer = false

-- a call was made: its thread waits for it
unfoldable pub makes_call : Event → Bool
makes_call event = is_call event.what && is_wait_for_call event.answer

-- a collect answered results
unfoldable pub collects_results : Event → Bool
collects_results event = is_collect event.what && is_results event.answer

-- `load N calls C ok K events E end WORD`
unfoldable pub summary_of : ℕ → History → List ℕ
summary_of n h =
    codes "load " ++ decimal n
    ++ codes " calls " ++ decimal (count_by makes_call h.events)
    ++ codes " ok " ++ decimal (count_by collects_results h.events)
    ++ codes " events " ++ decimal (length h.events)
    ++ codes " end " ++ ending_word (ending_of h.state)
