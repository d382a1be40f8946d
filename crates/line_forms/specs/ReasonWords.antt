-- The words of the reasons, in the order in which they apply to a line.
use Rattle.std.specs.Prelude.{ℕ, List, codes}
use Rattle.line_forms.specs.declared.reason.Reason.{Reason}
use Rattle.line_forms.specs.declared.reason.Reason.TheVariants.{Byte, Header, Word, Form, Range, Twice, Many, Body, Open, Unknown, Size, Trace}

abbrev pub reason_word : Reason → List ℕ
reason_word Byte = codes "byte"
reason_word Header = codes "header"
reason_word Word = codes "word"
reason_word Form = codes "form"
reason_word Range = codes "range"
reason_word Twice = codes "twice"
reason_word Many = codes "many"
reason_word Body = codes "body"
reason_word Open = codes "open"
reason_word Unknown = codes "unknown"
reason_word Size = codes "size"
reason_word Trace = codes "trace"
