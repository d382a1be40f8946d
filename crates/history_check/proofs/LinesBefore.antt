-- What stands before the line that a verdict names is legal.
use Rattle.std.proofs.Common.{◌≡◌, ℕ, ◌+◌, ◌-◌, ◌≤◌, suc, List, [], ◌∷◌, Option, Some, None, take, refl, sym, subst, arith}
use Rattle.line_forms.specs.declared.reason.Reason.{Reason}
use Rattle.history_check.specs.Judging.{Found, found_at}
use Rattle.history_check.specs.Places.{Reached, at_start, state_of}
use Rattle.history_check.specs.Verdicts.{header_fault, line_found, verdict, verdict_after, verdict_from, verdict_of_lines, verdict_unless}
use Rattle.history_check.specs.WholeLines.{cut_part, whole_lines}
use Rattle.history_check.proofs.CutTexts.{IsSomeLegal}

record IsBefore (k : ℕ) (p : Reached) (lines : List (List ℕ)) (line : ℕ) : Type 0 where
  pub later : k ≤ line
  pub legal : IsSomeLegal (verdict_from k p (take (line - k) lines) [])

nothing_left : (k : ℕ) (p : Reached) (lines : List (List ℕ)) (line : ℕ) → Some k ≡ Some line → IsBefore k p lines line
nothing_left k p lines line e =
    let same : k ≡ line = cc in
    let none : line - k ≡ 0 = omega arith in
    record {
      later = omega arith;
      legal = subst (λ (n : ℕ). IsSomeLegal (verdict_from k p (take n lines) [])) (sym none) ((state_of p).events, refl);
    }

one_more : (k : ℕ) (p q : Reached) (have : List ℕ) (lines : List (List ℕ)) (line : ℕ) → found_at p have ≡ Found.GoesOn q → IsBefore (k + 1) q lines line → IsBefore k p (have ∷ lines) line
one_more k p q have lines line e h =
    let later : k + 1 ≤ line = h.later in
    let count : line - k ≡ suc (line - (k + 1)) = omega arith in
    record {
      later = omega arith;
      legal =
          subst (λ (n : ℕ). IsSomeLegal (verdict_from k p (take n (have ∷ lines)) [])) (sym count)
          (subst (λ (found : Found). IsSomeLegal (verdict_after k have (λ x. verdict_from (k + 1) x (take (line - (k + 1)) lines) []) found)) (sym e) h.legal);
    }

before_after :
    (k : ℕ) (p : Reached) (have : List ℕ) (lines : List (List ℕ)) (rest : List ℕ) (line : ℕ) (found : Found) → found_at p have ≡ found →
    ((q : Reached) → line_found (verdict_from (k + 1) q lines rest) ≡ Some line → IsBefore (k + 1) q lines line) →
    line_found (verdict_after k have (λ x. verdict_from (k + 1) x lines rest) found) ≡ Some line → IsBefore k p (have ∷ lines) line
before_after k p have lines rest line (Found.GoesOn q) is next e = one_more k p q have lines line is (next q e)
before_after k p have lines rest line (Found.IsBad reason) is next e = nothing_left k p (have ∷ lines) line e
before_after k p have lines rest line (Found.IsIllegal want) is next e = nothing_left k p (have ∷ lines) line e

before : (k : ℕ) (p : Reached) (lines : List (List ℕ)) (rest : List ℕ) (line : ℕ) → line_found (verdict_from k p lines rest) ≡ Some line → IsBefore k p lines line
before k p [] [] line e = cc
before k p [] (b ∷ bs) line e = nothing_left k p [] line e
before k p (have ∷ lines) rest line e =
    before_after k p have lines rest line (found_at p have) refl (λ q h. before (k + 1) q lines rest line h) e

of_first : (fault : Option Reason) (first : List ℕ) (lines : List (List ℕ)) (rest : List ℕ) (line : ℕ) → header_fault first ≡ fault → 2 ≤ line →
    line_found (verdict_unless fault (verdict_from 2 at_start lines rest)) ≡ Some line → IsSomeLegal (verdict_of_lines (take (line - 1) (first ∷ lines)) [])
of_first None first lines rest line is low e =
    let h : IsBefore 2 at_start lines line = before 2 at_start lines rest line e in
    let count : line - 1 ≡ suc (line - 2) = omega arith in
    subst (λ (n : ℕ). IsSomeLegal (verdict_of_lines (take n (first ∷ lines)) [])) (sym count)
    (subst (λ (fault : Option Reason). IsSomeLegal (verdict_unless fault (verdict_from 2 at_start (take (line - 2) lines) []))) (sym is) h.legal)
of_first (Some reason) first lines rest line is low e = let one : 1 ≡ line = cc in absurd (omega arith)

of_lines : (lines : List (List ℕ)) (rest : List ℕ) (line : ℕ) → 2 ≤ line → line_found (verdict_of_lines lines rest) ≡ Some line →
    IsSomeLegal (verdict_of_lines (take (line - 1) lines) [])
of_lines [] [] line low e = let one : 1 ≡ line = cc in absurd (omega arith)
of_lines [] (b ∷ bs) line low e = let one : 1 ≡ line = cc in absurd (omega arith)
of_lines (first ∷ lines) rest line low e = of_first (header_fault first) first lines rest line refl low e

pub legal_before : (text : List ℕ) (line : ℕ) → 2 ≤ line → line_found (verdict text) ≡ Some line → IsSomeLegal (verdict_of_lines (take (line - 1) (whole_lines text)) [])
unfolding verdict
legal_before text line low e = of_lines (whole_lines text) (cut_part text) line low e
