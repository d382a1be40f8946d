-- What is asked of a script beyond its value.
use Rattle.std.specs.Prelude.{ℕ, List}
use Rattle.script_lang.specs.Words.{ScriptValue, spells}

-- some text spells the script
abbrev pub IsSpelled : ScriptValue → Type 0
IsSpelled script = (source : List ℕ) × spells source script
