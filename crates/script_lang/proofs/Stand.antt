-- Lines that stand after one another, with words that spell each.
use Rattle.std.proofs.Common.{◌≡◌, ℕ, true, List, [], ◌∷◌, length, inl, inr}
use Rattle.line_text.specs.Words.{words_of}
use Rattle.line_forms.specs.Words.{Tables}
use Rattle.script_lang.specs.declared.item.ScriptLine.{ScriptLine}
use Rattle.script_lang.specs.Context.{ContextValue, is_closed, context_after}
use Rattle.script_lang.specs.Spelled.{SpellsScriptLine, SpellsScriptLines, MayStand}

-- an item may stand after these and has a spelling, and what the others are
pub record Stands (tables : Tables) (context : ContextValue) (item : ScriptLine) (Others : Type 0) : Type 0 where
  pub words : List (List ℕ)
  pub spells : SpellsScriptLine tables (length context.processes) item words
  pub may_stand : MayStand context item
  pub others : Others

-- these items stand after these one after another, and the text may end after them
abbrev pub Stand : Tables → ContextValue → List ScriptLine → Type 0
Stand tables context [] = is_closed context ≡ true
Stand tables context (item ∷ items) = Stands tables context item (Stand tables (context_after context item) items)

pub spelled_stand : (tables : Tables) (context : ContextValue) (lines : List (List ℕ)) (items : List ScriptLine) → SpellsScriptLines tables context lines items → Stand tables context items
spelled_stand tables context [] [] h = h
spelled_stand tables context [] (item ∷ items) h = absurd h
spelled_stand tables context (line ∷ lines) [] h = spelled_stand tables context lines [] h.1.others
spelled_stand tables context (line ∷ lines) (item ∷ items) h =
    elim h.1 [
      | inl skipped ↦ spelled_stand tables context lines (item ∷ items) skipped.others
      | inr spelled ↦ record {
        words = words_of line;
        spells = spelled.spells;
        may_stand = spelled.may_stand;
        others = spelled_stand tables (context_after context item) lines items spelled.others;
      }
    ]
