-- Readers of one word, which neither look at the words that are left nor change them, and so lists that are read item by item.
use Rattle.std.proofs.Common.{◌≡◌, ℕ, List, Option, Some, None}
use Rattle.line_reader.specs.Combinators.{Reader, items_to}
use Rattle.line_reader.specs.ListContracts.{next_item}
use Rattle.line_reader.specs.Operands.{is_no_stop, is_rsize, name_from_word, number_from_word}
use Rattle.line_reader.proofs.ItemByItem.{IsByItem, items_by_item}
use Rattle.line_reader.proofs.SkippedWords.{SkipsWords, skips-declared_number, skips-name_from_word, skips-number_from_word, skips-pure, skips-then}
use Rattle.line_forms.specs.Words.{greatest_32}
use Rattle.line_text.specs.Words.{part_before_last}
use Rattle.history_text.specs.Names.{Names}
use Rattle.history_text.specs.Lookups.{thread_number}
use Rattle.history_text.specs.Operands.{fd_from_word, pass_from_word, pass_parts, thread_from_word}

pub skips-fd_from_word : (word : List ℕ) → SkipsWords (fd_from_word word)
skips-fd_from_word word = skips-then (number_from_word 0 greatest_32 word) _ (skips-number_from_word 0 greatest_32 word) (λ n. skips-pure _)

skips-pass_parts : (word : List ℕ) (front : Option (List ℕ)) → SkipsWords (pass_parts word front)
skips-pass_parts word None = skips-then (fd_from_word word) _ (skips-fd_from_word word) (λ fd. skips-pure _)
skips-pass_parts word (Some front) = skips-then (fd_from_word front) _ (skips-fd_from_word front) (λ fd. skips-pure _)

pub skips-pass_from_word : (word : List ℕ) → SkipsWords (pass_from_word word)
skips-pass_from_word word = skips-pass_parts word (part_before_last 33 word)

pub skips-thread_from_word : (names : Names) (word : List ℕ) → SkipsWords (thread_from_word names word)
skips-thread_from_word names word =
    skips-then (name_from_word word) _ (skips-name_from_word word) (λ name. skips-then _ _ (skips-declared_number (thread_number names name)) (λ n. skips-pure _))

pub passes_by_item : IsByItem (items_to is_rsize pass_from_word) (next_item is_rsize pass_from_word)
passes_by_item = items_by_item is_rsize pass_from_word skips-pass_from_word

pub ports_by_item : IsByItem (items_to is_no_stop fd_from_word) (next_item is_no_stop fd_from_word)
ports_by_item = items_by_item is_no_stop fd_from_word skips-fd_from_word

pub threads_by_item : (names : Names) → IsByItem (items_to is_no_stop (thread_from_word names)) (next_item is_no_stop (thread_from_word names))
threads_by_item names = items_by_item is_no_stop (thread_from_word names) (skips-thread_from_word names)

pub names_by_item : IsByItem (items_to is_no_stop name_from_word) (next_item is_no_stop name_from_word)
names_by_item = items_by_item is_no_stop name_from_word skips-name_from_word
