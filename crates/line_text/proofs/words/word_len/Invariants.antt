use Rattle.std.proofs.Common.{◌≡◌, true}
use Rattle.line_text.specs.LineWords.{is_in_word}
use Rattle.line_text.proofs.WordEnd.{Continues}
use Rattle.line_text.proofs.words.word_len.Given as goal

abbrev pub invariant-loop-len : goal.invariant-loop-len
invariant-loop-len l = (is_in_word l.mode ≡ true) × Continues l.fn.begun l.bytes l.mode l.len
