-- Room that is enough for the text of an answer.
use Rattle.std.specs.Prelude.{ℕ, ◌+◌, ◌*◌, List, [], length}
use Rattle.spec_requests.specs.Types.{Answer}
use Rattle.dk_base.specs.declared.answer.Answer.TheVariants.{Info, Entered, EnteredNotice, Results, Events, Errors}

-- how many descriptors, events or errors it lists
abbrev pub count_listed : Answer → ℕ
count_listed (Entered call entry cookie bytes fds) = length fds
count_listed (Results bytes fds grown) = length fds
count_listed (Events events) = length events
count_listed (Errors errors) = length errors
count_listed answer = 0

-- the name of the procedure that it shows, if it shows one; `names` is what procedures are called
abbrev pub shown_procedure : (ℕ → List ℕ) → Answer → List ℕ
shown_procedure names (Info info) = names info.entry
shown_procedure names (Entered call entry cookie bytes fds) = names entry
shown_procedure names (EnteredNotice notice entry cookie) = names entry
shown_procedure names answer = []

-- 320 bytes beside 70 for each item that it lists and the name: data are shown in at most 258, an event in at most 69
abbrev pub answer_room : (ℕ → List ℕ) → Answer → ℕ
answer_room names answer = 320 + 70 * count_listed answer + length (shown_procedure names answer)
