-- The line that answers a text that spells no script.
use Rattle.std.specs.Prelude.{ℕ, List, [], ◌∷◌, ◌++◌, codes, decimal}
use Rattle.line_text.specs.Words.{joined_words}
use Rattle.line_forms.specs.Words.{reason_word}
use Rattle.script_lang.specs.declared.bad.Bad.{Bad}

-- `bad line N REASON` and a line feed
abbrev pub bad_text : Bad → List ℕ
bad_text bad = joined_words (codes "bad" ∷ codes "line" ∷ decimal bad.line ∷ reason_word bad.reason ∷ []) ++ 10 ∷ []
