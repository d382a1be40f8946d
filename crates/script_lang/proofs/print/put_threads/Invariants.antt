use Rattle.std.proofs.Common.{◌≡◌, ◌++◌, take}
use Rattle.std.specs.Prelude.{map}
use Rattle.line_text.specs.Words.{spaced_words}
use Rattle.line_forms.specs.Words.{thread_word}
use Rattle.script_lang.proofs.print.put_threads.Given as goal

abbrev pub invariant-loop-thread : goal.invariant-loop-thread
invariant-loop-thread l = l.text ≡ l.initial.text ++ spaced_words (map (thread_word l.tables) (take l.thread-index l.threads))
