-- The canonical text of a script spells it.
use Rattle.std.proofs.Common.{◌≡◌, ℕ, true, List, [], ◌∷◌, map, refl, sym, ap, ◌∙◌, subst}
use Rattle.std.specs.List.{list_all, flat_map}
use Rattle.std.proofs.lemmas.Bool.{and_parts, and_from}
use Rattle.line_text.specs.Words.{is_one_line, lines_of}
use Rattle.line_text.proofs.PrintableWords.{are_printable, is_one_line-printable}
use Rattle.line_text.proofs.TextLines.{lines_of-text_of_lines}
use Rattle.script_lang.specs.Context.{first_context}
use Rattle.script_lang.specs.Canonical.{header, item_line, canonical_text}
use Rattle.script_lang.specs.Scripts.{items_of, script_of_items, tables_of}
use Rattle.script_lang.specs.Spelled.{SpellsScript, SpellsLines, is_of_version, is_version, path_uses, path_count_after, spells}
use Rattle.script_lang.specs.Value.{ScriptValue}
use Rattle.script_lang.proofs.Stand.{Stand, spelled_stand}
use Rattle.script_lang.proofs.Versions.{header_printable, is_version_some, written_of_version}
use Rattle.script_lang.proofs.CanonicalScript.{written, rows_of, uses_same, written_script, script_written}
use Rattle.script_lang.proofs.CanonicalStands.{written_stand}
use Rattle.script_lang.proofs.CanonicalLines.{stand_spelled}

are_lines : (lines : List (List ℕ)) → list_all are_printable lines ≡ true → list_all is_one_line lines ≡ true
are_lines [] h = refl
are_lines (line ∷ lines) h =
    let parts = and_parts (are_printable line) (list_all are_printable lines) h in
    and_from _ _ (is_one_line-printable line parts.0) (are_lines lines parts.1)

abbrev canonical_lines : ScriptValue → List (List ℕ)
canonical_lines script = map (item_line (tables_of script)) (items_of script)

-- the canonical lines after the first
record IsCanonical (script : ScriptValue) : Type 0 where
  pub spelled : SpellsScript (canonical_lines script) script
  pub printable : list_all are_printable (canonical_lines script) ≡ true

script_again : (lines : List (List ℕ)) (script : ScriptValue) → is_version script.version ≡ true → SpellsScript lines script → IsCanonical script
script_again lines script versioned h =
    let tables = tables_of script in
    let stand = spelled_stand tables first_context lines h.items h.spells in
    let same : items_of script ≡ written h.items (rows_of h.items) = ap items_of (sym h.is_script) ∙ script_written script.version tables script.paths h.items stand in
    let stands : Stand tables first_context (items_of script) = subst (Stand tables first_context) (sym same) (written_stand tables h.items stand) in
    let spelled = stand_spelled tables first_context (items_of script) stands in
    record {
      spelled = record {
        items = items_of script;
        spells = spelled.spelled;
        of_version = ap (list_all (is_of_version script.version)) same ∙ written_of_version script.version (is_version_some script.version versioned) h.items (rows_of h.items) h.of_version;
        different_paths = h.different_paths;
        numbered_paths = ap (λ items. path_count_after 0 (flat_map path_uses items)) same ∙ ap (path_count_after 0) (uses_same h.items (rows_of h.items)) ∙ h.numbered_paths;
        is_script = ap (script_of_items script.version script.paths) same ∙ written_script script.version tables script.paths h.items stand ∙ h.is_script;
      };
      printable = spelled.printable;
    }

versioned_lines : (lines : List (List ℕ)) (script : ScriptValue) → SpellsLines lines script → is_version script.version ≡ true
versioned_lines [] script h = absurd h
versioned_lines (line ∷ lines) script h = h.0

lines_again : (lines : List (List ℕ)) (script : ScriptValue) → SpellsLines lines script → IsCanonical script
lines_again [] script h = absurd h
lines_again (line ∷ lines) script h = script_again lines script h.0 h.2

pub canonical_spelled : (text : List ℕ) (script : ScriptValue) → spells text script → spells (canonical_text script) script
unfolding spells canonical_text
canonical_spelled text script h =
    let again = lines_again (lines_of text) script h in
    let versioned = versioned_lines (lines_of text) script h in
    let first = header script.version in
    let lines = lines_of-text_of_lines (first ∷ canonical_lines script) (are_lines (first ∷ canonical_lines script) (and_from _ _ (header_printable script.version versioned) again.printable)) in
    subst (λ ls. SpellsLines ls script) (sym lines) (versioned, refl, again.spelled)
