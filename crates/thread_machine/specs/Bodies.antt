-- The bodies of a script that some text spells: every line is spelled, and every block is closed.
use Rattle.std.specs.Prelude.{ℕ, List, [], ◌∷◌}
use Rattle.script_lang.specs.Types.{Line}
use Rattle.line_forms.specs.Words.{SpellsLine, Tables}
use Rattle.thread_machine.specs.Places.{IsNested}

pub record IsSpelledLine (line : Line) : Type 0 where
  pub tables : Tables
  pub process : ℕ
  pub words : List (List ℕ)
  pub spells : SpellsLine tables process line words

abbrev pub AreSpelled : List Line → Type 0
AreSpelled [] = Unit {0}
AreSpelled (line ∷ lines) = IsSpelledLine line × AreSpelled lines

pub record IsBody (body : List Line) : Type 0 where
  pub nested : IsNested 0 body
  pub spelled : AreSpelled body
