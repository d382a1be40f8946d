-- What the reader's own contracts say of a line after others.
use Rattle.std.specs.Prelude.{◌≡◌, ℕ, ◌&&◌, not, nat_le, List, length, Option, Some, None, Result, MatchResult, if◌then◌else◌}
use Rattle.line_text.specs.Words.{has_name}
use Rattle.script_lang.specs.Types.{Line, Reason}
use Rattle.line_reader.specs.declared.fault.Fault.{Fault}
use Rattle.line_reader.specs.declared.fault.Fault.TheVariants.{Bad}
use Rattle.line_forms.specs.declared.reason.Reason.TheVariants.{Twice, Many, Body}
use Rattle.line_forms.specs.Words.{kind_of}
use Rattle.script_lang.specs.Context.{ContextValue, is_line_over_limit, is_request}

-- why a name may not be declared where these are
abbrev pub name_fault : List (List ℕ) → List ℕ → Option Reason
name_fault names name = if has_name names name then Some Twice else (if nat_le 64 (length names) then Some Many else None)

-- why a line of a body may not stand after these
abbrev pub line_fault : ContextValue → Line → Option Reason
line_fault context line =
    if is_line_over_limit context line then Some Many else (
    if context.after_repeat && not (is_request (kind_of line)) then Some Body else None)

-- a call answers the reason why something may not stand, or makes of it what is after it
abbrev pub Adds : {A : Type 0} → Option Reason → A → Result (Unit {0}) Fault → A → Type 0
Adds why after result new = MatchResult result (λ _. (why ≡ None) × (new ≡ after)) (λ fault. (reason : Reason) → fault ≡ Bad reason → why ≡ Some reason)
