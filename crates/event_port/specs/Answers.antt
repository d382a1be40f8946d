-- What a call answers that may be refused, and may want memory.
use Rattle.std.specs.Prelude.{◌≡◌, ◌⊎◌, Option, Some, None, Result, Ok, Err}
use Rattle.dk_base.specs.declared.error.Errno.{Errno}
use Rattle.dk_base.specs.declared.error.Refusal.{Refusal}
use Rattle.dk_base.specs.declared.error.Refusal.TheVariants.{No, Memory}

-- with memory: refused with this error, if there is one
abbrev pub answer_of : Option Errno → Result Unit Refusal
answer_of None = Ok tt
answer_of (Some e) = Err (No e)

-- that answer; where there is no error, want of memory may stand in its place
abbrev pub AnswersOrWants : Result Unit Refusal → Option Errno → Type 0
AnswersOrWants result error = (result ≡ answer_of error) ⊎ ((result ≡ Err Memory) × (error ≡ None))
