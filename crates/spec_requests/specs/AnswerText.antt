-- How a trace shows an answer.
use Rattle.std.specs.Prelude.{ℕ, Bool, true, false, List, [], ◌∷◌, ◌++◌, length, flat_map, codes, decimal, Option, Some, None}
use Rattle.std.specs.List.{join_with_byte}
use Rattle.dk_base.specs.Words.{errno_name}
use Rattle.spec_requests.specs.Types.{Answer, Attrs, DoorInfo, Errno, EventRec, Fd, Pid, Src}
use Rattle.dk_base.specs.declared.object.Src.TheVariants.{Fd as FromFd, User, Alert, Timer}
use Rattle.dk_base.specs.declared.answer.Answer.TheVariants.{Wait, WaitCall, Done, NewFd, TwoFds, Count, Available, Param, Info, Client, Child, Cancel, Data, Entered, EnteredNotice, EnterFailed, Results, OneEvent, Events, Errors, Failure}
use Rattle.line_forms.specs.Words.{attribute_words, poll_word, value_word}
use Rattle.spec_requests.specs.DataText.{data_text}

abbrev pub spaced_fd : Fd → List ℕ
spaced_fd fd = codes " " ++ decimal fd.0

-- ` fd N ..` where there are descriptors
abbrev pub fds_text : List Fd → List ℕ
fds_text [] = []
fds_text (fd ∷ fds) = codes " fd" ++ flat_map spaced_fd (fd ∷ fds)

abbrev pub grown_text : Bool → List ℕ
grown_text true = codes " grown"
grown_text false = []

abbrev pub yes_text : Bool → List ℕ
yes_text true = codes "yes"
yes_text false = codes "no"

-- words joined by `+`, or `none`
abbrev pub plus_joined_words : List (List ℕ) → List ℕ
plus_joined_words [] = codes "none"
plus_joined_words (word ∷ words) = join_with_byte 43 (word ∷ words)

abbrev pub attributes_text : Attrs → List ℕ
attributes_text attributes = plus_joined_words (attribute_words attributes)

abbrev pub target_text : Option Pid → List ℕ
target_text None = codes "-1"
target_text (Some process) = decimal process.0

-- whose door it is, and what it was made with; `procedure` is the name of the procedure
abbrev pub made_text : List ℕ → DoorInfo → List ℕ
made_text procedure info =
    codes "ok target " ++ target_text info.target
    ++ codes " proc " ++ procedure
    ++ codes " cookie " ++ decimal info.cookie

-- what door_info(3C) tells
abbrev pub info_text : List ℕ → DoorInfo → List ℕ
info_text procedure info =
    made_text procedure info
    ++ codes " attr " ++ attributes_text info.attrs
    ++ codes " unique " ++ decimal info.unique

-- where an event comes from, and what it tells
abbrev pub source_text : Src → EventRec → List ℕ
source_text FromFd event = codes "fd:" ++ decimal event.object ++ codes ":" ++ poll_word (record { 0 = event.events })
source_text User event = codes "user:0:" ++ decimal event.events
source_text Alert event = codes "alert:0:" ++ decimal event.events
-- the timer's id, and how often it fired
source_text Timer event = codes "timer:" ++ decimal event.object ++ codes ":" ++ decimal event.events

abbrev pub event_text : EventRec → List ℕ
event_text event = source_text event.source event ++ codes ":" ++ decimal event.user

abbrev pub spaced_event : EventRec → List ℕ
spaced_event event = codes " " ++ event_text event

-- how one port took an event
abbrev pub spaced_error : Option Errno → List ℕ
spaced_error None = codes " ok"
spaced_error (Some errno) = codes " " ++ errno_name errno

-- how an invocation begins: what it serves, the name of its procedure, and the door's cookie
abbrev pub invocation_text : List ℕ → List ℕ → ℕ → ℕ → List ℕ
invocation_text procedure item number cookie =
    codes "enter " ++ item ++ decimal number
    ++ codes " " ++ procedure
    ++ codes " " ++ decimal cookie

abbrev pub entered_text : List ℕ → ℕ → ℕ → List ℕ → List Fd → List ℕ
entered_text procedure call cookie bytes fds = invocation_text procedure (codes "c") call cookie ++ codes " " ++ data_text bytes ++ fds_text fds

abbrev pub notice_text : List ℕ → ℕ → ℕ → List ℕ
notice_text procedure notice cookie = invocation_text procedure (codes "n") notice cookie ++ codes " unref"

abbrev pub results_text : List ℕ → List Fd → Bool → List ℕ
results_text bytes fds grown = codes "ok " ++ data_text bytes ++ fds_text fds ++ grown_text grown

-- `names` is what procedures are called
abbrev pub answer_text : (ℕ → List ℕ) → Answer → List ℕ
answer_text names Wait = codes "wait"
answer_text names (WaitCall call) = codes "wait c" ++ decimal call
answer_text names Done = codes "ok"
answer_text names (NewFd fd) = codes "ok fd " ++ decimal fd.0
answer_text names (TwoFds read write) = codes "ok fd " ++ decimal read.0 ++ codes " " ++ decimal write.0
answer_text names (Count n) = codes "ok " ++ decimal n
answer_text names (Available n) = codes "ok " ++ decimal n
answer_text names (Param value) = codes "ok " ++ value_word value
answer_text names (Info info) = info_text (names info.entry) info
answer_text names (Client process) = codes "ok process " ++ decimal process.0
answer_text names (Child process) = codes "ok process " ++ decimal process.0
answer_text names (Cancel cancelled) = codes "ok " ++ yes_text cancelled
answer_text names (Data bytes) = codes "ok " ++ data_text bytes
answer_text names (Entered call entry cookie bytes fds) = entered_text (names entry) call cookie bytes fds
answer_text names (EnteredNotice notice entry cookie) = notice_text (names entry) notice cookie
answer_text names (EnterFailed call) = codes "EMFILE c" ++ decimal call
answer_text names (Results bytes fds grown) = results_text bytes fds grown
answer_text names (OneEvent event) = codes "ok " ++ event_text event
answer_text names (Events events) = codes "ok " ++ decimal (length events) ++ flat_map spaced_event events
answer_text names (Errors errors) = codes "ok" ++ flat_map spaced_error errors
answer_text names (Failure errno) = errno_name errno
