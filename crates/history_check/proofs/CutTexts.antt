-- A text that is cut after a line feed.
use Rattle.std.proofs.Common.{◌≡◌, ℕ, ◌+◌, ◌==◌, Bool, true, false, List, [], ◌∷◌, ◌++◌, Option, Some, None, refl, sym, ap, ◌∙◌, subst}
use Rattle.std.specs.Prelude.{if◌then◌else◌}
use Rattle.line_text.specs.Words.{is_one_line}
use Rattle.history_text.specs.Types.{Reason}
use Rattle.history_check.specs.declared.verdict.Verdict.{Verdict}
use Rattle.history_check.specs.declared.verdict.Verdict.TheVariants.{Legal}
use Rattle.history_check.specs.Judging.{Found, found_at}
use Rattle.history_check.specs.Places.{Reached, at_start, state_of}
use Rattle.history_check.specs.Verdicts.{header_fault, verdict, verdict_after, verdict_from, verdict_of_lines, verdict_unless}
use Rattle.history_check.specs.WholeLines.{cut_part, onto_line, whole_lines}

-- there is a line before a line feed
record HasLine (front : List ℕ) : Type 0 where
  pub first : List ℕ
  pub others : List (List ℕ)
  pub lines : whole_lines (front ++ 10 ∷ []) ≡ first ∷ others

with_byte : (b : ℕ) (front : List ℕ) (feed : Bool) → (b == 10) ≡ feed → HasLine front → HasLine (b ∷ front)
with_byte b front true e h =
    record { first = []; others = whole_lines (front ++ 10 ∷ []); lines = ap (λ (c : Bool). if c then [] ∷ whole_lines (front ++ 10 ∷ []) else onto_line b (whole_lines (front ++ 10 ∷ []))) e }
with_byte b front false e h =
    record {
      first = b ∷ h.first;
      others = h.others;
      lines =
          ap (λ (c : Bool). if c then [] ∷ whole_lines (front ++ 10 ∷ []) else onto_line b (whole_lines (front ++ 10 ∷ []))) e
          ∙ ap (onto_line b) h.lines;
    }

has_line : (front : List ℕ) → HasLine front
has_line [] = record { first = []; others = []; lines = refl }
has_line (b ∷ front) = with_byte b front (b == 10) refl (has_line front)

-- the lines before a line feed, and those after it

onto_some : (b : ℕ) (lines others : List (List ℕ)) (first : List ℕ) (more : List (List ℕ)) → lines ≡ first ∷ more → onto_line b (lines ++ others) ≡ onto_line b lines ++ others
onto_some b lines others first more e = subst (λ (xs : List (List ℕ)). onto_line b (xs ++ others) ≡ onto_line b xs ++ others) (sym e) refl

more_lines : (b : ℕ) (front rest : List ℕ) (feed : Bool) → (b == 10) ≡ feed → whole_lines (front ++ 10 ∷ rest) ≡ whole_lines (front ++ 10 ∷ []) ++ whole_lines rest →
    whole_lines (b ∷ front ++ 10 ∷ rest) ≡ whole_lines (b ∷ front ++ 10 ∷ []) ++ whole_lines rest
more_lines b front rest true e h =
    ap (λ (c : Bool). if c then [] ∷ whole_lines (front ++ 10 ∷ rest) else onto_line b (whole_lines (front ++ 10 ∷ rest))) e
    ∙ ap (λ (xs : List (List ℕ)). [] ∷ xs) h
    ∙ sym (ap (λ (c : Bool). (if c then [] ∷ whole_lines (front ++ 10 ∷ []) else onto_line b (whole_lines (front ++ 10 ∷ []))) ++ whole_lines rest) e)
more_lines b front rest false e h =
    let some : HasLine front = has_line front in
    ap (λ (c : Bool). if c then [] ∷ whole_lines (front ++ 10 ∷ rest) else onto_line b (whole_lines (front ++ 10 ∷ rest))) e
    ∙ ap (onto_line b) h
    ∙ onto_some b (whole_lines (front ++ 10 ∷ [])) (whole_lines rest) some.first some.others some.lines
    ∙ sym (ap (λ (c : Bool). (if c then [] ∷ whole_lines (front ++ 10 ∷ []) else onto_line b (whole_lines (front ++ 10 ∷ []))) ++ whole_lines rest) e)

lines_at_feed : (front rest : List ℕ) → whole_lines (front ++ 10 ∷ rest) ≡ whole_lines (front ++ 10 ∷ []) ++ whole_lines rest
lines_at_feed [] rest = refl
lines_at_feed (b ∷ front) rest = more_lines b front rest (b == 10) refl (lines_at_feed front rest)

-- nothing stands after a last line feed

has_feed_by : (b : ℕ) (front : List ℕ) (feed : Bool) → (b == 10) ≡ feed → is_one_line (front ++ 10 ∷ []) ≡ false → is_one_line (b ∷ front ++ 10 ∷ []) ≡ false
has_feed_by b front true e h = rw e refl
has_feed_by b front false e h = rw e h

has_feed : (front : List ℕ) → is_one_line (front ++ 10 ∷ []) ≡ false
has_feed [] = refl
has_feed (b ∷ front) = has_feed_by b front (b == 10) refl (has_feed front)

nothing_cut : (front : List ℕ) → cut_part (front ++ 10 ∷ []) ≡ []
nothing_cut [] = refl
nothing_cut (b ∷ front) =
    ap (λ (c : Bool). if c then b ∷ front ++ 10 ∷ [] else cut_part (front ++ 10 ∷ [])) (has_feed (b ∷ front)) ∙ nothing_cut front

-- the verdict

abbrev pub IsSomeLegal : Verdict → Type 0
IsSomeLegal found = (n : ℕ) × (found ≡ Legal n)

front_after :
    (k : ℕ) (a : List ℕ) (lines others : List (List ℕ)) (rest : List ℕ) (n : ℕ) (found : Found) →
    ((q : Reached) → verdict_from (k + 1) q (lines ++ others) rest ≡ Legal n → IsSomeLegal (verdict_from (k + 1) q lines [])) →
    verdict_after k a (λ q. verdict_from (k + 1) q (lines ++ others) rest) found ≡ Legal n →
    IsSomeLegal (verdict_after k a (λ q. verdict_from (k + 1) q lines []) found)
front_after k a lines others rest n (Found.GoesOn q) next e = next q e
front_after k a lines others rest n (Found.IsBad reason) next e = cc
front_after k a lines others rest n (Found.IsIllegal want) next e = cc

front : (k : ℕ) (p : Reached) (lines others : List (List ℕ)) (rest : List ℕ) (n : ℕ) → verdict_from k p (lines ++ others) rest ≡ Legal n → IsSomeLegal (verdict_from k p lines [])
front k p [] others rest n e = ((state_of p).events, refl)
front k p (a ∷ lines) others rest n e =
    front_after k a lines others rest n (found_at p a) (λ q h. front (k + 1) q lines others rest n h) e

front_unless : (fault : Option Reason) (lines others : List (List ℕ)) (rest : List ℕ) (n : ℕ) →
    verdict_unless fault (verdict_from 2 at_start (lines ++ others) rest) ≡ Legal n → IsSomeLegal (verdict_unless fault (verdict_from 2 at_start lines []))
front_unless None lines others rest n e = front 2 at_start lines others rest n e
front_unless (Some reason) lines others rest n e = cc

front_of_lines : (lines others : List (List ℕ)) (rest : List ℕ) (n : ℕ) (first : List ℕ) (more : List (List ℕ)) → lines ≡ first ∷ more →
    verdict_of_lines (lines ++ others) rest ≡ Legal n → IsSomeLegal (verdict_of_lines lines [])
front_of_lines lines others rest n first more is e =
    subst (λ (xs : List (List ℕ)). IsSomeLegal (verdict_of_lines xs [])) (sym is)
    (front_unless (header_fault first) more others rest n (subst (λ (xs : List (List ℕ)). verdict_of_lines (xs ++ others) rest ≡ Legal n) is e))

pub cut_after_feed : (text_front rest : List ℕ) (n : ℕ) → verdict (text_front ++ 10 ∷ rest) ≡ Legal n → IsSomeLegal (verdict (text_front ++ 10 ∷ []))
unfolding verdict
cut_after_feed text_front rest n e =
    let some : HasLine text_front = has_line text_front in
    subst (λ (x : List ℕ). IsSomeLegal (verdict_of_lines (whole_lines (text_front ++ 10 ∷ [])) x)) (sym (nothing_cut text_front))
    (front_of_lines (whole_lines (text_front ++ 10 ∷ [])) (whole_lines rest) (cut_part (text_front ++ 10 ∷ rest)) n some.first some.others some.lines
    (ap (λ (xs : List (List ℕ)). verdict_of_lines xs (cut_part (text_front ++ 10 ∷ rest))) (sym (lines_at_feed text_front rest)) ∙ e))
