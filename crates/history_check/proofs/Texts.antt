-- The verdict on lines, one after the other.
use Rattle.std.proofs.Common.{◌≡◌, ℕ, ◌+◌, List, [], ◌∷◌, Some, None, Result, IfOk, refl, sym, ap, ◌∙◌, subst}
use Rattle.line_forms.specs.declared.reason.Reason.{Reason}
use Rattle.spec_histories.specs.Histories.{IsHistory}
use Rattle.history_check.specs.declared.verdict.Verdict.{Verdict}
use Rattle.history_check.specs.declared.verdict.Verdict.TheVariants.{Bad, Illegal, Legal}
use Rattle.history_check.specs.Judging.{Found, found_at}
use Rattle.history_check.specs.Places.{Reached, at_start}
use Rattle.history_check.specs.Verdicts.{header_fault, history_told, place_after, place_from, place_of_lines, verdict, verdict_at_end, verdict_from, verdict_unless, verdict_without_line}
use Rattle.history_check.specs.WholeLines.{cut_part, whole_lines}

module _ (line : ℕ) (p : Reached) (have rest others : List ℕ) (lines : whole_lines rest ≡ have ∷ whole_lines others) (cut : cut_part rest ≡ cut_part others) where
  pub goes_on : (q : Reached) → found_at p have ≡ Found.GoesOn q →
      verdict_from line p (whole_lines rest) (cut_part rest) ≡ verdict_from (line + 1) q (whole_lines others) (cut_part others)
  goes_on q e = rw (lines, cut, e) refl

  pub is_bad : (reason : Reason) → found_at p have ≡ Found.IsBad reason → verdict_from line p (whole_lines rest) (cut_part rest) ≡ Bad line reason
  is_bad reason e = rw (lines, e) refl

  pub is_illegal : (want : List ℕ) → found_at p have ≡ Found.IsIllegal want → verdict_from line p (whole_lines rest) (cut_part rest) ≡ Illegal line want have
  is_illegal want e = rw (lines, e) refl

-- where the lines lead
pub leads_on : (p q : Reached) (have rest others : List ℕ) → whole_lines rest ≡ have ∷ whole_lines others → found_at p have ≡ Found.GoesOn q →
    place_from p (whole_lines rest) ≡ place_from q (whole_lines others)
leads_on p q have rest others lines e =
    ap (place_from p) lines ∙ ap (place_after p (λ x. place_from x (whole_lines others))) e

pub leads_here : (p : Reached) (rest : List ℕ) → whole_lines rest ≡ [] → place_from p (whole_lines rest) ≡ p
leads_here p rest lines = ap (place_from p) lines

-- no whole line is left
pub at_the_end : (line : ℕ) (p : Reached) (rest : List ℕ) → whole_lines rest ≡ [] → cut_part rest ≡ rest →
    verdict_from line p (whole_lines rest) (cut_part rest) ≡ verdict_at_end line p rest
at_the_end line p rest lines cut = rw (lines, cut) refl

-- the first line

pub no_line : (text : List ℕ) → whole_lines text ≡ [] → cut_part text ≡ text → verdict text ≡ verdict_without_line text
unfolding verdict
no_line text lines cut = rw (lines, cut) refl

module _ (text first rest : List ℕ) (lines : whole_lines text ≡ first ∷ whole_lines rest) (cut : cut_part text ≡ cut_part rest) where
  first_line : verdict text ≡ verdict_unless (header_fault first) (verdict_from 2 at_start (whole_lines rest) (cut_part rest))
  unfolding verdict
  first_line = rw (lines, cut) refl

  pub no_header : (reason : Reason) → header_fault first ≡ Some reason → verdict text ≡ Bad 1 reason
  no_header reason e = rw (first_line, e) refl

  after_header : header_fault first ≡ None → verdict text ≡ verdict_from 2 at_start (whole_lines rest) (cut_part rest)
  after_header e = rw (first_line, e) refl

  pub found_after : {E : Type 0} (r : Result Verdict E) → header_fault first ≡ None →
      IfOk r (λ found. found ≡ verdict_from 2 at_start (whole_lines rest) (cut_part rest)) → IfOk r (λ found. found ≡ verdict text)
  found_after r e h = subst (λ (v : Verdict). IfOk r (λ found. found ≡ v)) (sym (after_header e)) h

  pub told_after : {E : Type 0} (r : Result Verdict E) →
      IfOk r (λ found. (events : ℕ) → found ≡ Legal events → IsHistory (place_from at_start (whole_lines rest)).history) →
      IfOk r (λ found. (events : ℕ) → found ≡ Legal events → IsHistory (history_told text))
  unfolding history_told
  told_after r h =
      subst (λ (lines : List (List ℕ)). IfOk r (λ found. (events : ℕ) → found ≡ Legal events → IsHistory (place_of_lines lines).history)) (sym lines) h

by_rest : {X : Type 0} (rest : List ℕ) (events : ℕ) → verdict_without_line rest ≡ Legal events → X
by_rest [] events e = cc
by_rest (b ∷ bs) events e = cc

pub no_legal : {X : Type 0} (text : List ℕ) (events : ℕ) → verdict_without_line text ≡ Legal events → X
no_legal text events e = by_rest text events e
