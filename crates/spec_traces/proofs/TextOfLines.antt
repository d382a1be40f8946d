-- Texts by their lines.
use Rattle.std.proofs.Common.{◌≡◌, inl, inr, ℕ, Bool, true, false, ◌==◌, cond, List, [], ◌∷◌, ◌++◌, refl, sym, ap, ◌∙◌, arith, append_assoc}
use Rattle.std.specs.List.{list_all, list_any, onto_first}
use Rattle.std.proofs.lemmas.Bool.{and_parts, or_parts, not-true, not_from_false}
use Rattle.std.proofs.lemmas.Bool.Decides.{nat_tests}
use Rattle.line_text.specs.Words.{is_one_line, lines_of, text_of_lines}
use Rattle.line_text.proofs.TextLines.{line_before, text_of_lines-append}
use Rattle.spec_traces.specs.LegalTraces.{IsTextOf}

-- a text is that of its lines, which may lack the last line feed

after_feed : (bs : List ℕ) → IsTextOf (text_of_lines (lines_of bs)) bs → IsTextOf (10 ∷ text_of_lines (lines_of bs)) (10 ∷ bs)
after_feed bs (inl same) = inl (ap (λ xs. 10 ∷ xs) same)
after_feed bs (inr same) = inr (ap (λ xs. 10 ∷ xs) same)

after_byte : (b : ℕ) (bs : List ℕ) (lines : List (List ℕ)) → lines_of bs ≡ lines → IsTextOf (text_of_lines lines) bs → IsTextOf (text_of_lines (onto_first b lines)) (b ∷ bs)
after_byte b [] [] e is = inr refl
after_byte b (c ∷ bs) [] e is = absurd (some_line c bs e)
  where
    onto_some : (c : ℕ) (lines : List (List ℕ)) → onto_first c lines ≡ [] → ⊥
    onto_some c [] e = cc
    onto_some c (line ∷ lines) e = cc

    by_feed : (c : ℕ) (bs : List ℕ) (feed : Bool) → cond feed ([] ∷ lines_of bs) (onto_first c (lines_of bs)) ≡ [] → ⊥
    by_feed c bs true e = cc
    by_feed c bs false e = onto_some c (lines_of bs) e

    some_line : (c : ℕ) (bs : List ℕ) → lines_of (c ∷ bs) ≡ [] → ⊥
    some_line c bs e = by_feed c bs (c == 10) e
after_byte b bs (line ∷ lines) e (inl same) = inl (ap (λ xs. b ∷ xs) same)
after_byte b bs (line ∷ lines) e (inr same) = inr (ap (λ xs. b ∷ xs) same)

by_feed : (b : ℕ) (bs : List ℕ) (feed : Bool) → (b == 10) ≡ feed → IsTextOf (text_of_lines (lines_of bs)) bs → IsTextOf (text_of_lines (cond feed ([] ∷ lines_of bs) (onto_first b (lines_of bs)))) (b ∷ bs)
by_feed b bs true e is = rw (is_ten b e) (after_feed bs is)
  where
    is_ten : (b : ℕ) → (b == 10) ≡ true → b ≡ 10
    is_ten b e = grind (arith, nat_tests)
by_feed b bs false e is = after_byte b bs (lines_of bs) refl is

pub text_of_its_lines : (text : List ℕ) → IsTextOf (text_of_lines (lines_of text)) text
text_of_its_lines [] = inl refl
text_of_its_lines (b ∷ bs) = by_feed b bs (b == 10) refl (text_of_its_lines bs)

-- the lines of a text of lines, the last of which may lack its line feed

pub lines_then : (lines : List (List ℕ)) (rest : List ℕ) → list_all is_one_line lines ≡ true → lines_of (text_of_lines lines ++ rest) ≡ lines ++ lines_of rest
lines_then [] rest h = refl
lines_then (line ∷ lines) rest h =
    let p = and_parts (is_one_line line) (list_all is_one_line lines) h in
    ap lines_of (append_assoc line (10 ∷ text_of_lines lines) rest)
    ∙ line_before line (text_of_lines lines ++ rest) p.0
    ∙ ap (λ others. line ∷ others) (lines_then lines rest p.1)

last_step : (b c : ℕ) (bs : List ℕ) → (b == 10) ≡ false → lines_of (c ∷ bs) ≡ (c ∷ bs) ∷ [] → lines_of (b ∷ c ∷ bs) ≡ (b ∷ c ∷ bs) ∷ []
last_step b c bs other e = rw (other, e) refl

pub last_line : (b : ℕ) (bs : List ℕ) → is_one_line (b ∷ bs) ≡ true → lines_of (b ∷ bs) ≡ (b ∷ bs) ∷ []
last_line b [] h =
    let p = or_parts (b == 10) false (not-true _ h) in
    rw p.0 refl
last_line b (c ∷ bs) h =
    let p = or_parts (b == 10) (list_any (λ x. x == 10) (c ∷ bs)) (not-true _ h) in
    last_step b c bs p.0 (last_line c bs (not_from_false _ p.1))

unended : (lines : List (List ℕ)) (b : ℕ) (bs : List ℕ) → text_of_lines (lines ++ (b ∷ bs) ∷ []) ≡ (text_of_lines lines ++ b ∷ bs) ++ 10 ∷ []
unended lines b bs = text_of_lines-append lines ((b ∷ bs) ∷ []) ∙ sym (append_assoc (text_of_lines lines) (b ∷ bs) (10 ∷ []))

-- the same with one byte more at the end
same_before_last : (xs ys : List ℕ) (b : ℕ) → xs ++ b ∷ [] ≡ ys ++ b ∷ [] → xs ≡ ys
same_before_last [] [] b e = refl
same_before_last [] (y ∷ []) b e = cc
same_before_last [] (y ∷ z ∷ ys) b e = cc
same_before_last (x ∷ []) [] b e = cc
same_before_last (x ∷ z ∷ xs) [] b e = cc
same_before_last (x ∷ xs) (y ∷ ys) b e =
    let first : x ≡ y = cc in
    let others : xs ++ b ∷ [] ≡ ys ++ b ∷ [] = cc in
    rw first (ap (λ zs. y ∷ zs) (same_before_last xs ys b others))

-- of lines of which the last is not empty
pub lines_of_text : (lines : List (List ℕ)) (b : ℕ) (bs text : List ℕ) → list_all is_one_line lines ≡ true → is_one_line (b ∷ bs) ≡ true
    → IsTextOf (text_of_lines (lines ++ (b ∷ bs) ∷ [])) text → lines_of text ≡ lines ++ (b ∷ bs) ∷ []
lines_of_text lines b bs text h k (inl same) =
    ap lines_of (same ∙ text_of_lines-append lines ((b ∷ bs) ∷ []))
    ∙ lines_then lines (text_of_lines ((b ∷ bs) ∷ [])) h
    ∙ ap (λ others. lines ++ others) (line_before (b ∷ bs) [] k)
lines_of_text lines b bs text h k (inr same) =
    ap lines_of (same_before_last text (text_of_lines lines ++ b ∷ bs) 10 (same ∙ unended lines b bs))
    ∙ lines_then lines (b ∷ bs) h
    ∙ ap (λ others. lines ++ others) (last_line b bs k)
