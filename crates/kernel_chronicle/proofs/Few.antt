-- A small answer has few items and bytes.
use Rattle.std.proofs.Common.{◌≡◌, ap, ℕ, ◌≤◌, ◌&&◌, Bool, false, true, leb-true, nat_le, refl, List, [], ◌∷◌, Option, Some, None, length, map, sym, arith}
use Rattle.std.specs.Prelude.{IfOk}
use Rattle.dk_base.specs.declared.answer.Answer.TheVariants as answer
use Rattle.dk_base.specs.declared.request.Request.TheVariants as request
use Rattle.spec_kernel.specs.Small.{IsSmall, count_sent}
use Rattle.spec_kernel.specs.Types.{Answer, Errno, Fd, Request}
use Rattle.kernel_chronicle.specs.Replies.{answer_bytes, answer_items, error_number, fd_number}
use Rattle.trace_text.specs.AnswerRoom.{count_listed}
use Rattle.history_text.specs.RequestRoom.{request_room}
use Rattle.history_text.specs.Writable.{are_ports, is_message, is_writable}
use Rattle.history_text.specs.Words.{Names}
use Rattle.kernel_chronicle.proofs.Counts.{count_events}

fds_count : (fds : List Fd) → length (map fd_number fds) ≡ length fds
fds_count [] = omega arith
fds_count (f ∷ fds) = omega (arith, fds_count fds)

errors_count : (es : List (Option Errno)) → length (map error_number es) ≡ length es
errors_count [] = omega arith
errors_count (e ∷ es) = omega (arith, errors_count es)

pub few_items : (q : Option Request) (a : Answer) → IsSmall q a → count_sent q ≤ 16 → length (answer_items a) ≤ 256
few_items q (answer.Entered call entry cookie bytes fds) s n = omega (arith, s.1, fds_count fds)
few_items q (answer.Results bytes fds grown) s n = omega (arith, s.1, fds_count fds)
few_items q (answer.OneEvent event) s n = omega arith
few_items q (answer.Events events) s n = omega (arith, s, count_events events)
few_items q (answer.Errors errors) s n = omega (arith, s, n, errors_count errors)
few_items q _ s n = omega arith

pub few_bytes : (q : Option Request) (a : Answer) → IsSmall q a → length (answer_bytes a) ≤ 4096
few_bytes q (answer.Data bytes) s = s
few_bytes q (answer.Entered call entry cookie bytes fds) s = s.0
few_bytes q (answer.Results bytes fds grown) s = s.0
few_bytes q _ s = omega arith

pub few_listed : (q : Option Request) (a : Answer) → IsSmall q a → count_sent q ≤ 16 → count_listed a ≤ 64
few_listed q (answer.Entered call entry cookie bytes fds) s n = omega (arith, s.1)
few_listed q (answer.Results bytes fds grown) s n = omega (arith, s.1)
few_listed q (answer.Events events) s n = s
few_listed q (answer.Errors errors) s n = omega (arith, s, n)
few_listed q _ s n = omega arith

left : (a b : Bool) → (a && b) ≡ true → a ≡ true
left true b h = refl
left false b h = absurd (cc h)

right : (a b : Bool) → (a && b) ≡ true → b ≡ true
right true b h = h
right false b h = absurd (cc h)

-- a request that has a line sends to few ports
pub few_sent : (names : Names) (of : ℕ) (r : Request) → is_writable names of r ≡ true → count_sent (Some r) ≤ 16
few_sent names of (request.SendN ports events user) h = leb-true (length ports) 16 (right (nat_le 1 (length ports)) (nat_le (length ports) 16) h)
few_sent names of _ h = omega arith

pub none_sent : count_sent None ≤ 16
none_sent = omega arith

-- and its words are short
pub few_words : (names : Names) (of : ℕ) (r : Request) → is_writable names of r ≡ true → request_room r ≤ 33632
few_words names of (request.Call door bytes pass rsize) h =
    omega (arith, leb-true (length bytes) 8192 (left (nat_le (length bytes) 8192) (nat_le (length pass) 32) h), leb-true (length pass) 32 (right (nat_le (length bytes) 8192) (nat_le (length pass) 32) h))
few_words names of (request.Return bytes pass) h =
    omega (arith, leb-true (length bytes) 8192 (left (nat_le (length bytes) 8192) (nat_le (length pass) 32) h), leb-true (length pass) 32 (right (nat_le (length bytes) 8192) (nat_le (length pass) 32) h))
few_words names of (request.Write fd bytes) h = omega (arith, leb-true (length bytes) 8192 h)
few_words names of (request.SendN ports events user) h =
    omega (arith, leb-true (length ports) 16 (right (nat_le 1 (length ports)) (nat_le (length ports) 16) h))
few_words names of _ h = omega arith
