-- How a verdict is written.
use Rattle.std.specs.Prelude.{ℕ, List, [], ◌∷◌, ◌++◌, codes, decimal}
use Rattle.line_forms.specs.Words.{reason_word}
use Rattle.history_check.specs.declared.verdict.Verdict.{Verdict}
use Rattle.history_check.specs.declared.verdict.Verdict.TheVariants.{Legal, Cut, Bad, Illegal}

-- a word and a text after it; where the text is empty the word stands alone
abbrev pub worded_text : List ℕ → List ℕ → List ℕ
worded_text word [] = word
worded_text word (b ∷ bs) = word ++ 32 ∷ b ∷ bs

abbrev pub bad_line_text : ℕ → List ℕ → List ℕ
bad_line_text line reason = codes "bad line " ++ decimal line ++ 32 ∷ reason ++ 10 ∷ []

-- a line `legal N` with the number of events, a line `bad line N REASON`, or three lines: which line is illegal, what is wanted there,
-- and what stands there
unfoldable pub verdict_text : Verdict → List ℕ
verdict_text (Legal events) = codes "legal " ++ decimal events ++ 10 ∷ []
verdict_text (Cut line) = bad_line_text line (codes "cut")
verdict_text (Bad line reason) = bad_line_text line (reason_word reason)
verdict_text (Illegal line want have) =
    codes "illegal line " ++ decimal line ++ 10 ∷ []
    ++ worded_text (codes "want") want ++ 10 ∷ []
    ++ worded_text (codes "have") have ++ 10 ∷ []
