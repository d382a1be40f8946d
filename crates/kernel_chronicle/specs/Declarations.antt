-- The lines by which C declares names, procedures and paths.
use Rattle.std.specs.Prelude.{ℕ, ◌≡◌, ◌+◌, ◌≤◌, ◌⊎◌, Bool, true, false, List, Result, Ok, Err, if◌then◌else◌}
use Rattle.line_forms.specs.declared.reason.Reason.{Reason}
use Rattle.line_forms.specs.declared.reason.Reason.TheVariants as reason
use Rattle.history_text.specs.declared.line.Line.{Line}
use Rattle.history_text.specs.declared.line.Line.TheVariants.{Name, Path, Procedure}
use Rattle.history_text.specs.declared.place.Place.{Place}
use Rattle.history_text.specs.declared.place.Stage.TheVariants.{Body}
use Rattle.history_text.specs.Words.{Names, line_read, with_line}
use Rattle.kernel_chronicle.specs.Written.{Written}

-- after the head, and before the end line
abbrev pub in_body : Place
in_body = record { stage = Body; late = false; full = false }

abbrev pub is_declaration : Line → Bool
is_declaration (Name child name members) = true
is_declaration (Procedure name process) = true
is_declaration (Path name text) = true
is_declaration _ = false

-- a line that declares nothing has no place here
abbrev pub only_declaration : Result Line Reason → Result Line Reason
only_declaration (Err r) = Err r
only_declaration (Ok line) = if is_declaration line then Ok line else Err reason.Word

-- what a line declares, where these names are declared before it
abbrev pub declaration_read : Names → List ℕ → Result Line Reason
declaration_read names text = only_declaration (line_read names in_body text)

-- the place of a reason in the list of the format, `cut` being 0; three of a script's have no place there
abbrev pub reason_number : Reason → ℕ
reason_number reason.Size = 1
reason_number reason.Byte = 2
reason_number reason.Header = 3
reason_number reason.Word = 4
reason_number reason.Form = 5
reason_number reason.Range = 6
reason_number reason.Twice = 7
reason_number reason.Many = 8
reason_number reason.Unknown = 9
reason_number reason.Body = 10
reason_number reason.Open = 11
reason_number reason.Trace = 12

-- a line was taken
pub record IsDeclared (before after : Written) (text : List ℕ) : Type 0 where
  pub line : Line
  pub read : declaration_read before.names text ≡ Ok line
  pub names : after.names ≡ with_line before.names line
  pub history : after.history ≡ before.history

-- or it was not, for this reason
pub record IsBadDeclaration (w : Written) (text : List ℕ) (status : ℕ) : Type 0 where
  pub why : Reason
  pub read : declaration_read w.names text ≡ Err why
  pub number : status ≡ 16 + reason_number why
