-- The words of this crate's specs, from one place, for the crates above.
pub use Rattle.line_forms.specs.CanonicalWords.{data_words, desc_words, fd_word, joined_piece, line_words, operand_words, pass_word, path_word, piece_word, procedure_word, process_word, release_mark, thread_word, value_word, variable_word, wait_words, words_after_first}
pub use Rattle.line_forms.specs.DistinctTables.{AreDistinct, is_same_procedure}
pub use Rattle.line_forms.specs.Enumerated.{cond_of, cond_word, errno_of, errnos, mode_of, mode_word, modes, op_of, op_word, ops, param_of, param_word, params, value_of_word}
pub use Rattle.line_forms.specs.FlagWords.{attribute_if, bits_of_flags, flag_word}
pub use Rattle.line_forms.specs.GreatestNumbers.{greatest_32, greatest_64}
pub use Rattle.line_forms.specs.Keywords.{keyword_of, keyword_version, keyword_word, keywords_create_to_info, keywords_getn_to_end, keywords_getparam_to_detach, keywords_open_to_get, keywords_since_2}
unfoldable pub use Rattle.line_forms.specs.Keywords.{keyword_create_to_info, keyword_getn_to_end, keyword_getparam_to_detach, keyword_open_to_get, keyword_since_2}
pub use Rattle.line_forms.specs.Kinds.{depth_after, kind_of}
pub use Rattle.line_forms.specs.KnownPaths.{ArePaths, HasPaths}
pub use Rattle.line_forms.specs.LineKeyword.{keyword_of_line, line_version}
pub use Rattle.line_forms.specs.ReasonWords.{reason_word}
pub use Rattle.line_forms.specs.SameLine.{line_exact}
pub use Rattle.line_forms.specs.Sets.{Flag, attribute_flags, attribute_words, attributes_of, bits_of_word, is_in_set, is_word_of, poll_flags, poll_of, poll_word, set_from, with_bits}
pub use Rattle.line_forms.specs.Spelled.{Each, Ends, First, Spelling, SpellsAttributes, SpellsChild, SpellsCond, SpellsFd, SpellsIndexed, SpellsLine, SpellsMode, SpellsMorePieces, SpellsOp, SpellsParam, SpellsParent, SpellsPass, SpellsPassList, SpellsPath, SpellsPiece, SpellsPieces, SpellsPoll, SpellsPorts, SpellsProcedure, SpellsProcess, SpellsRsize, SpellsThread, SpellsValue, SpellsVariable, SpellsWait, Then, qualified_name}
pub use Rattle.line_forms.specs.TableChanges.{no_names}
pub use Rattle.line_forms.specs.Tables.{ProcedureName, Tables, child_number, earlier_number, entry_number, from_one, is_child, is_same, parent_at, parent_named, path_number, process_number, thread_number}
pub use Rattle.line_forms.specs.Uses.{fd_variables, pass_variables, paths_of, piece_variables, variables_of}
