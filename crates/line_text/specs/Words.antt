-- The words of this crate's specs, from one place, for the crates above.
pub use Rattle.line_text.specs.LineWords.{is_plain, is_plain_byte, is_word, joined_words, spaced_words, words_from, words_of, words_with}
pub use Rattle.line_text.specs.Lines.{is_one_line, is_printable, lines_of, text_of_lines}
pub use Rattle.line_text.specs.Names.{are_distinct, first_uses, has_name, is_letter, is_name, is_name_byte, with_distinct_name, with_distinct_names}
pub use Rattle.line_text.specs.Numbers.{bounded_number, is_decimal, is_digit}
pub use Rattle.line_text.specs.Parts.{part_before_last, parts_at}
pub use Rattle.line_text.specs.Spelled.{SpellsName, SpellsNumber, SpellsString}
pub use Rattle.line_text.specs.Strings.{hex_digit, quoted_text, string_of}
