-- How a verdict is written.
use Rattle.std.specs.Prelude.{ℕ, List, [], ◌∷◌, ◌++◌, codes, decimal}
use Rattle.spec_traces.specs.declared.verdict.Verdict.{Verdict}
use Rattle.spec_traces.specs.declared.verdict.Verdict.TheVariants.{Legal, Differs}

-- a word and a text after it; where the text is empty the word stands alone
abbrev pub worded_text : List ℕ → List ℕ → List ℕ
worded_text word [] = word
worded_text word (b ∷ bs) = word ++ 32 ∷ b ∷ bs

-- a line `legal N` with the number of events, or three lines: which line differs, what is wanted there, and what stands there
unfoldable pub verdict_text : Verdict → List ℕ
verdict_text (Legal events) = codes "legal " ++ decimal events ++ 10 ∷ []
verdict_text (Differs line want have) =
    codes "illegal line " ++ decimal line ++ 10 ∷ []
    ++ worded_text (codes "want") want ++ 10 ∷ []
    ++ worded_text (codes "have") have ++ 10 ∷ []
