-- A reply to C, in words: eleven numbers, then the items of the answer, then the threads that became able to go on.
use Rattle.std.specs.Prelude.{ℕ, List, [], ◌∷◌, ◌++◌, Option, Some, None, Bool, true, false, length, map, flat_map}
use Rattle.dk_base.specs.declared.answer.Answer.TheVariants as answer
use Rattle.dk_base.specs.declared.error.Errno.TheVariants as errno
use Rattle.dk_base.specs.declared.object.Src.TheVariants as source
use Rattle.spec_kernel.specs.Types.{Answer, DoorInfo, Errno, EventRec, Fd, Pid, Src, Tid}
use Rattle.spec_histories.specs.Histories.{Entry}

abbrev pub errno_number : Errno → ℕ
errno_number errno.E2BIG = 1
errno_number errno.EAGAIN = 2
errno_number errno.EBADF = 3
errno_number errno.EBADFD = 4
errno_number errno.EBUSY = 5
errno_number errno.EINTR = 6
errno_number errno.EINVAL = 7
errno_number errno.EMFILE = 8
errno_number errno.ENFILE = 9
errno_number errno.ENOBUFS = 10
errno_number errno.ENOENT = 11
errno_number errno.ENOTSUP = 12
errno_number errno.EPERM = 13
errno_number errno.EPIPE = 14
errno_number errno.ETIME = 15

-- 0 where there was no error
abbrev pub error_number : Option Errno → ℕ
error_number None = 0
error_number (Some e) = errno_number e

abbrev pub source_number : Src → ℕ
source_number source.Fd = 0
source_number source.User = 1
source_number source.Alert = 2
source_number source.Timer = 3

abbrev pub flag_number : Bool → ℕ
flag_number true = 1
flag_number false = 0

-- 0 where the door's process has ended
abbrev pub target_number : Option Pid → ℕ
target_number None = 0
target_number (Some p) = p.0

abbrev pub fd_number : Fd → ℕ
fd_number fd = fd.0

abbrev pub thread_number : Tid → ℕ
thread_number t = t.0

abbrev pub event_numbers : EventRec → List ℕ
event_numbers e = source_number e.source ∷ e.object ∷ e.events ∷ e.user ∷ []

-- a kind and five numbers
abbrev pub six : ℕ → ℕ → ℕ → ℕ → ℕ → ℕ → List ℕ
six kind a b c d e = kind ∷ a ∷ b ∷ c ∷ d ∷ e ∷ []

-- the kind of an answer, and its numbers: those that it has not are 0
abbrev pub answer_numbers : Answer → List ℕ
answer_numbers answer.Wait = six 1 0 0 0 0 0
answer_numbers (answer.WaitCall call) = six 2 call 0 0 0 0
answer_numbers answer.Done = six 3 0 0 0 0 0
answer_numbers (answer.NewFd fd) = six 4 fd.0 0 0 0 0
answer_numbers (answer.TwoFds read write) = six 5 read.0 write.0 0 0 0
answer_numbers (answer.Count n) = six 6 n 0 0 0 0
answer_numbers (answer.Available n) = six 7 n 0 0 0 0
answer_numbers (answer.Param value) = six 8 value 0 0 0 0
answer_numbers (answer.Info info) = six 9 (target_number info.target) info.entry info.cookie info.attrs.0 info.unique
answer_numbers (answer.Client process) = six 10 process.0 0 0 0 0
answer_numbers (answer.Child process) = six 11 process.0 0 0 0 0
answer_numbers (answer.Cancel cancelled) = six 12 (flag_number cancelled) 0 0 0 0
answer_numbers (answer.Data bytes) = six 13 0 0 0 0 0
answer_numbers (answer.Entered call entry cookie bytes fds) = six 14 call entry cookie 0 0
answer_numbers (answer.EnteredNotice notice entry cookie) = six 15 notice entry cookie 0 0
answer_numbers (answer.EnterFailed call) = six 16 call 0 0 0 0
answer_numbers (answer.Results bytes fds grown) = six 17 (flag_number grown) 0 0 0 0
answer_numbers (answer.OneEvent event) = six 18 0 0 0 0 0
answer_numbers (answer.Events events) = six 19 0 0 0 0 0
answer_numbers (answer.Errors errors) = six 20 0 0 0 0 0
answer_numbers (answer.Failure e) = six 21 (errno_number e) 0 0 0 0

-- the bytes that an answer hands over
abbrev pub answer_bytes : Answer → List ℕ
answer_bytes (answer.Data bytes) = bytes
answer_bytes (answer.Entered call entry cookie bytes fds) = bytes
answer_bytes (answer.Results bytes fds grown) = bytes
answer_bytes _ = []

-- its descriptors; of each event four numbers; the error of each port
abbrev pub answer_items : Answer → List ℕ
answer_items (answer.Entered call entry cookie bytes fds) = map fd_number fds
answer_items (answer.Results bytes fds grown) = map fd_number fds
answer_items (answer.OneEvent event) = event_numbers event
answer_items (answer.Events events) = flat_map event_numbers events
answer_items (answer.Errors errors) = map error_number errors
answer_items _ = []

-- the event's number, the thread's root before it, the kind and the numbers of the answer; how many bytes, items and threads there are; the
-- items and the threads
abbrev pub words_of : ℕ → ℕ → Answer → List Tid → List ℕ
words_of number root a woken =
    (number ∷ root ∷ answer_numbers a)
    ++ (length (answer_bytes a) ∷ length (answer_items a) ∷ length woken ∷ [])
    ++ answer_items a
    ++ map thread_number woken

-- the words of the reply for an entry of a history, and the bytes beside them

abbrev pub reply_words : Entry → List ℕ
reply_words e = words_of e.number e.root e.answer e.woken

abbrev pub reply_bytes : Entry → List ℕ
reply_bytes e = answer_bytes e.answer
