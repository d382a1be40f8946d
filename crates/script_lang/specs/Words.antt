-- The words of this crate's specs, from one place, for the crates above.
pub use Rattle.script_lang.specs.BadText.{bad_text}
unfoldable pub use Rattle.script_lang.specs.Canonical.{canonical_text}
pub use Rattle.script_lang.specs.Context.{ContextValue, context_after, context_at_depth, context_with_variables, first_context, is_block_start, is_closed, is_closed_place, is_request, variables_with}
pub use Rattle.script_lang.specs.Decided.{IsDecided}
unfoldable pub use Rattle.script_lang.specs.Items.{budget_item, child_item, procedure_item, process_item, schedule_item, thread_item}
pub use Rattle.script_lang.specs.Parsing.{bad_line}
unfoldable pub use Rattle.script_lang.specs.Parsing.{line_read, line_spelling, parse_result}
pub use Rattle.script_lang.specs.Scripts.{before_line, body_from, budget_from, limit_at, name_of_procedure, procedures_from, process_of_item, script_of_items, tables_of, threads_from, turns_of_item, with_limits}
pub use Rattle.script_lang.specs.Spelled.{SkipsNext, SpellsLines, SpellsNext, SpellsScript, SpellsScriptLine, SpellsScriptLines, is_of_place, is_of_version, is_version, item_version}
unfoldable pub use Rattle.script_lang.specs.Spelled.{spells}
unfoldable pub use Rattle.script_lang.specs.TextTables.{tables_of_lines}
pub use Rattle.script_lang.specs.Value.{ScriptValue}
