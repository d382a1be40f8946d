use Rattle.std.proofs.Common.{◌≡◌, ◌∷◌, append_assoc, sym}
use Rattle.std.specs.Prelude.{codes, decimal}
use Rattle.line_text.specs.Words.{joined_words}
use Rattle.spec_requests.specs.Words.{answer_text}
use Rattle.history_text.specs.Entries.{asked_of}
use Rattle.history_text.specs.Lookups.{procedure_word, thread_word}
use Rattle.history_text.specs.LineWords.{asked_words}
use Rattle.history_text.proofs.write_event.entry_in_parts.Goals as goal

pub returns : goal.returns
returns c =
    λ names entry.
    sym (append_assoc
    (joined_words (decimal entry.number ∷ thread_word names (record { 0 = entry.turn.thread }) ∷ thread_word names (record { 0 = entry.root }) ∷ asked_words names (asked_of entry.turn.request entry.what)))
    (codes " = ")
    (answer_text (procedure_word names) entry.answer))
