-- What a turn is told has bounds.
use Rattle.std.specs.Prelude.{ℕ, ◌≡◌, ◌≤◌, length, Option, Some}
use Rattle.dk_base.specs.declared.answer.Answer.TheVariants as answer
use Rattle.dk_base.specs.declared.limits.TheConstants.{ANSWER_ITEMS_MAX, DATA_MAX, PASS_MAX}
use Rattle.dk_base.specs.declared.request.Request.TheVariants as request
use Rattle.spec_kernel.specs.Types.{Answer, Request}

-- how many descriptors a turn sends an event to
abbrev pub count_sent : Option Request → ℕ
count_sent (Some (request.SendN fds events user)) = length fds
count_sent q = 0

-- what a turn is told: at most 4,096 bytes, 16 descriptors and 64 events, and of each descriptor that an event is sent to whether there
-- was an error
abbrev pub IsSmall : Option Request → Answer → Type 0
IsSmall q (answer.Data bytes) = length bytes ≤ DATA_MAX
IsSmall q (answer.Entered call entry cookie bytes fds) = (length bytes ≤ DATA_MAX) × (length fds ≤ PASS_MAX)
IsSmall q (answer.Results bytes fds grown) = (length bytes ≤ DATA_MAX) × (length fds ≤ PASS_MAX)
IsSmall q (answer.Events events) = length events ≤ ANSWER_ITEMS_MAX
IsSmall q (answer.Errors errors) = length errors ≡ count_sent q
IsSmall q _ = Unit {0}
