-- Induction over the lines that spell items.
use Rattle.std.proofs.Common.{◌≡◌, ℕ, true, false, List, [], ◌∷◌, length, inl, inr}
use Rattle.line_text.specs.Words.{words_of}
use Rattle.line_forms.specs.Words.{Tables}
use Rattle.script_lang.specs.declared.item.ScriptLine.{ScriptLine}
use Rattle.script_lang.specs.Context.{ContextValue, is_closed, context_after}
use Rattle.script_lang.specs.Parsing.{is_skipped, is_printable_line}
use Rattle.script_lang.specs.Spelled.{SpellsScriptLine, MayStand, SpellsScriptLines}

-- a line that spells an item after these
pub record IsItem (tables : Tables) (context : ContextValue) (line : List ℕ) (item : ScriptLine) : Type 0 where
  pub printable : is_printable_line line ≡ true
  pub read : is_skipped line ≡ false
  pub spells : SpellsScriptLine tables (length context.processes) item (words_of line)
  pub may_stand : MayStand context item

-- what holds at the end of a text, and goes on holding with a skipped line and with an item in front, holds of the lines
-- that spell items
pub record IsKept (tables : Tables) (P : ContextValue → List (List ℕ) → List ScriptLine → Type 0) : Type 0 where
  pub ends : (context : ContextValue) → is_closed context ≡ true → P context [] []
  pub skips : (context : ContextValue) (line : List ℕ) (lines : List (List ℕ)) (items : List ScriptLine) → is_printable_line line ≡ true → is_skipped line ≡ true → P context lines items → P context (line ∷ lines) items
  pub goes_on : (context : ContextValue) (line : List ℕ) (lines : List (List ℕ)) (item : ScriptLine) (items : List ScriptLine) → IsItem tables context line item → P (context_after context item) lines items → P context (line ∷ lines) (item ∷ items)

pub along : (tables : Tables) (P : ContextValue → List (List ℕ) → List ScriptLine → Type 0) → IsKept tables P → (context : ContextValue) (lines : List (List ℕ)) (items : List ScriptLine) → SpellsScriptLines tables context lines items → P context lines items
along tables P kept context [] [] closed = kept.ends context closed
along tables P kept context [] (item ∷ items) spells = absurd spells
along tables P kept context (line ∷ lines) [] (printable, skipped) = kept.skips context line lines [] printable skipped.skipped (along tables P kept context lines [] skipped.others)
along tables P kept context (line ∷ lines) (item ∷ items) (printable, inl skipped) =
    kept.skips context line lines (item ∷ items) printable skipped.skipped (along tables P kept context lines (item ∷ items) skipped.others)
along tables P kept context (line ∷ lines) (item ∷ items) (printable, inr spelled) =
    kept.goes_on context line lines item items (record { printable = printable; read = spelled.read; spells = spelled.spells; may_stand = spelled.may_stand })
    (along tables P kept (context_after context item) lines items spelled.others)
