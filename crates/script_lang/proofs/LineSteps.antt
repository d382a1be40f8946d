-- The reading of the remaining lines, one line on.
use Rattle.std.proofs.Common.{◌≡◌, ℕ, Bool, true, false, ◌+◌, List, ◌∷◌, Option, Some, None, Result, Ok, Err, refl}
use Rattle.std.specs.Option.{option_or}
use Rattle.line_forms.specs.Words.{Tables}
use Rattle.script_lang.specs.Types.{Reason}
use Rattle.script_lang.specs.declared.bad.Bad.{Bad}
use Rattle.script_lang.specs.declared.draft.Draft.{Draft}
use Rattle.script_lang.specs.declared.item.ScriptLineRead.{ScriptLineRead}
use Rattle.script_lang.specs.Context.{ContextValue, context_after}
use Rattle.script_lang.specs.Drafts.{draft_after}
use Rattle.script_lang.specs.TextReaderContracts.{result_of_draft, parse_result_from, first_unknown_at, Agrees}
use Rattle.script_lang.specs.Parsing.{ScriptLinesRead, bad_line, first_unknown, line_read, lines_read, with_item}
use Rattle.script_lang.specs.Spelled.{is_of_place}
use Rattle.script_lang.proofs.DraftSteps.{draft_more}

-- a line that is skipped
pub skipped_line : (version : ℕ) (tables : Tables) (draft : Draft) (context : ContextValue) (unknown : Option ℕ) (n : ℕ) (line : List ℕ) (lines : List (List ℕ))
    → line_read version tables context line ≡ Ok None
    → parse_result_from version tables draft context unknown n (line ∷ lines) ≡ parse_result_from version tables draft context unknown (n + 1) lines
skipped_line version tables draft context unknown n line lines e = rw e refl

-- a bad line
pub bad_line_read : (version : ℕ) (tables : Tables) (draft : Draft) (context : ContextValue) (unknown : Option ℕ) (n : ℕ) (line : List ℕ) (lines : List (List ℕ)) (reason : Reason)
    → line_read version tables context line ≡ Err reason
    → parse_result_from version tables draft context unknown n (line ∷ lines) ≡ Err (bad_line n reason)
bad_line_read version tables draft context unknown n line lines reason e = rw e refl

-- the first line that names something that is not declared, after one line more
unknown_more : (unknown : Option ℕ) (n : ℕ) (known : Bool) (others : Option ℕ) → option_or (first_unknown_at unknown n known) others ≡ option_or unknown (first_unknown n known others)
unknown_more (Some m) n known others = refl
unknown_more None n true others = refl
unknown_more None n false others = refl

finished_more : (version : ℕ) (tables : Tables) (draft : Draft) (context : ContextValue) (unknown : Option ℕ) (n : ℕ) (found : ScriptLineRead) (others : Result ScriptLinesRead Bad)
    → Agrees draft context → is_of_place context.place found.item ≡ true
    → result_of_draft version tables draft context.depth unknown (with_item n found others)
    ≡ result_of_draft version tables (draft_after draft context.depth found.item) (context_after context found.item).depth (first_unknown_at unknown n found.known) others
finished_more version tables draft context unknown n found (Err fault) h p = refl
finished_more version tables draft context unknown n found (Ok others) h p =
    rw (draft_more version tables.paths draft context found.item others.items h p, unknown_more unknown n found.known others.unknown) refl

-- a line that is an item
pub item_line_read : (version : ℕ) (tables : Tables) (draft : Draft) (context : ContextValue) (unknown : Option ℕ) (n : ℕ) (line : List ℕ) (lines : List (List ℕ)) (found : ScriptLineRead)
    → line_read version tables context line ≡ Ok (Some found) → Agrees draft context → is_of_place context.place found.item ≡ true
    → parse_result_from version tables draft context unknown n (line ∷ lines)
    ≡ parse_result_from version tables (draft_after draft context.depth found.item) (context_after context found.item) (first_unknown_at unknown n found.known) (n + 1) lines
item_line_read version tables draft context unknown n line lines found e h p =
    rw e (finished_more version tables draft context unknown n found (lines_read version tables (n + 1) (context_after context found.item) lines) h p)
