-- What the lines of a body do to its blocks.
use Rattle.std.specs.Prelude.{ℕ, zero, suc, ◌+◌, Option, Some, None}
use Rattle.line_forms.specs.declared.line.Kind.{Kind}
use Rattle.line_forms.specs.declared.line.Kind.TheVariants.{Act, Loop, Test, Closing}
use Rattle.line_forms.specs.declared.line.Line.{Line}
use Rattle.line_forms.specs.declared.line.Line.TheVariants.{Repeat, If, End}

abbrev pub kind_of : Line → Kind
kind_of (Repeat times) = Loop
kind_of (If cond) = Test
kind_of End = Closing
kind_of line = Act

-- how many blocks of a body are open after a line, where so many are before it; none where it closes the body
abbrev pub depth_after : ℕ → Kind → Option ℕ
depth_after depth Act = Some depth
depth_after depth Loop = Some (depth + 1)
depth_after depth Test = Some (depth + 1)
depth_after zero Closing = None
depth_after (suc depth) Closing = Some depth
