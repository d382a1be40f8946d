-- What every `Script` keeps.
use Rattle.std.specs.Prelude.{◌≡◌, Ok}
use Rattle.line_forms.specs.Words.{Tables}
use Rattle.script_lang.specs.Canonical.{canonical_text}
use Rattle.script_lang.specs.Parsing.{parse_result}
use Rattle.script_lang.specs.Scripts.{tables_of}
use Rattle.script_lang.specs.Value.{ScriptValue}

-- its names have their numbers, and its canonical text is read as this script
pub record IsScript (tables : Tables) (script : ScriptValue) : Type 0 where
  pub names : tables ≡ tables_of script
  pub again : parse_result (canonical_text script) ≡ Ok script
