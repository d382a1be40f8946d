-- What the first word of a line says that it is, and which lines may come.
use Rattle.std.specs.Prelude.{ℕ, Bool, true, false, List, [], ◌∷◌, Option, Some, codes, if◌then◌else◌}
use Rattle.line_forms.specs.Words.{value_of_word}
use Rattle.line_text.specs.Words.{is_decimal}
use Rattle.history_text.specs.declared.place.Kind.TheVariants as kind
use Rattle.history_text.specs.declared.place.Stage.TheVariants.{Head, Body, Ended}
use Rattle.history_text.specs.declared.line.Line.TheVariants.{Process, Child, End}
use Rattle.history_text.specs.Types.{Kind, Line, Stage}

-- the word of each kind but an event
abbrev pub kind_word : Kind → List ℕ
kind_word kind.Process = codes "process"
kind_word kind.Child = codes "child"
kind_word kind.Name = codes "name"
kind_word kind.Procedure = codes "proc"
kind_word kind.Path = codes "path"
kind_word kind.End = codes "end"
kind_word kind.Event = []

abbrev pub worded_kinds : List Kind
worded_kinds = kind.Process ∷ kind.Child ∷ kind.Name ∷ kind.Procedure ∷ kind.Path ∷ kind.End ∷ []

-- a number, however long, begins an event
abbrev pub kind_of : List ℕ → Option Kind
kind_of word = if is_decimal word then Some kind.Event else value_of_word kind_word worded_kinds word

-- processes and children stand at the head alone, and nothing stands after the end line
abbrev pub may_stand : Stage → Kind → Bool
may_stand Head first = true
may_stand Body kind.Process = false
may_stand Body kind.Child = false
may_stand Body first = true
may_stand Ended first = false

abbrev pub stage_after : Stage → Line → Stage
stage_after stage (Process name limit members) = Head
stage_after stage (Child name parent members) = Head
stage_after stage (End ending number threads) = Ended
stage_after stage line = Body
