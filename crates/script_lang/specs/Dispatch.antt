-- What the reader's own contracts say of the dispatch by first words.
use Rattle.std.specs.Prelude.{Option, Some, None, Err}
use Rattle.line_forms.specs.declared.reason.Reason.TheVariants.{Word}
use Rattle.line_reader.specs.Words.{Reader}
use Rattle.script_lang.specs.declared.item.ScriptLine.{ScriptLine}

-- what follows a first word, or the word is none of this place
abbrev pub item_reader : Option (Reader ScriptLine) → Reader ScriptLine
item_reader None rest = Err Word
item_reader (Some read) rest = read rest
