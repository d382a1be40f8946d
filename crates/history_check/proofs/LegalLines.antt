-- Where the walk finds a text legal, its lines tell a legal history; and where they do, the walk finds it legal.
use Rattle.std.proofs.Common.{◌≡◌, ℕ, ◌+◌, Bool, true, false, List, [], ◌∷◌, Option, Some, None, Result, Ok, Err, refl, sym, ap, ◌∙◌, subst}
use Rattle.std.specs.Prelude.{bytes_eq, filter, not, if◌then◌else◌}
use Rattle.std.specs.List.{AllByRecursion}
use Rattle.std.proofs.lemmas.Slice.Eq.{bytes_eq-Decides}
use Rattle.line_forms.specs.declared.reason.Reason.{Reason}
use Rattle.line_forms.specs.declared.reason.Reason.TheVariants.{Header}
use Rattle.spec_histories.specs.Histories.{IsHistory}
use Rattle.history_text.specs.Laws.{ReadIsWritten}
use Rattle.history_text.specs.declared.line.Line.{Line}
use Rattle.history_text.specs.Words.{byte_fault, header, is_skipped, line_read, line_text}
use Rattle.history_check.specs.declared.verdict.Verdict.TheVariants.{Legal}
use Rattle.history_check.specs.Judging.{Found, found_at, found_at_read, found_at_skipped}
use Rattle.history_check.specs.LegalTexts.{AreTold, IsClean, IsLegalText, MayTell, Told, after_told, is_read, line_told, reached_by, texts_of}
use Rattle.history_check.specs.Places.{Reached, at_start, place_of, state_of}
use Rattle.history_check.specs.Verdicts.{header_fault, history_told, place_after, place_from, place_of_lines, unless_header, verdict, verdict_after, verdict_from, verdict_of_lines, verdict_unless}
use Rattle.history_check.specs.WholeLines.{cut_part, whole_lines}
use Rattle.history_check.proofs.ReadLines.{clean_read}
use Rattle.history_check.proofs.ToldLines.{Step, goes_on, step, then_is, told_found}

-- lines that are skipped are left out

skipped_out : (have : List ℕ) (lines : List (List ℕ)) → is_skipped have ≡ true → filter is_read (have ∷ lines) ≡ filter is_read lines
skipped_out have lines e = ap (λ (b : Bool). if not b then have ∷ filter is_read lines else filter is_read lines) e

read_kept : (have : List ℕ) (lines : List (List ℕ)) → is_skipped have ≡ false → filter is_read (have ∷ lines) ≡ have ∷ filter is_read lines
read_kept have lines e = ap (λ (b : Bool). if not b then have ∷ filter is_read lines else filter is_read lines) e

-- from a place on these lines tell a legal history, of so many events in all
record LegalFrom (p : Reached) (lines : List (List ℕ)) (n : ℕ) : Type 0 where
  pub told : List Told
  pub clean : AllByRecursion IsClean lines
  pub spelled : filter is_read lines ≡ texts_of p told
  pub in_place : AreTold p told
  pub reached : place_from p lines ≡ reached_by p told
  pub count : (state_of (reached_by p told)).events ≡ n

module _ (p : Reached) (have : List ℕ) (q : Reached) (lines : List (List ℕ)) (n : ℕ) (next : LegalFrom q lines n) (found : found_at p have ≡ Found.GoesOn q) where
  -- where the lines lead from a place that is this one
  leads : (r : Reached) → r ≡ q → place_from p (have ∷ lines) ≡ place_from r lines
  leads r e = ap (place_after p (λ x. place_from x lines)) (found ∙ ap Found.GoesOn (sym e))

  with_skipped : (fault : Option Reason) → is_skipped have ≡ true → byte_fault have ≡ fault → found_at_skipped p fault ≡ Found.GoesOn q → LegalFrom p (have ∷ lines) n
  with_skipped None skipped clean e =
      let h : LegalFrom p lines n = subst (λ (x : Reached). LegalFrom x lines n) (sym (goes_on p q e)) next in
      record {
        told = h.told;
        clean = (clean, h.clean);
        spelled = skipped_out have lines skipped ∙ h.spelled;
        in_place = h.in_place;
        reached = leads p (goes_on p q e) ∙ h.reached;
        count = h.count;
      }
  with_skipped (Some reason) skipped clean e = cc

  with_step : is_skipped have ≡ false → byte_fault have ≡ None → Step p have q → LegalFrom p (have ∷ lines) n
  with_step read clean s =
      let h : LegalFrom (after_told p s.told) lines n = subst (λ (x : Reached). LegalFrom x lines n) (sym s.after) next in
      record {
        told = s.told ∷ h.told;
        clean = (clean, h.clean);
        spelled = read_kept have lines read ∙ ap (λ (x : List ℕ). x ∷ filter is_read lines) (sym s.text) ∙ ap (λ (xs : List (List ℕ)). line_text p.names (line_told s.told) ∷ xs) h.spelled;
        in_place = (s.well, s.may, h.in_place);
        reached = leads (after_told p s.told) s.after ∙ h.reached;
        count = h.count;
      }

  with_read : ReadIsWritten → (read : Result Line Reason) → is_skipped have ≡ false → line_read p.names (place_of p) have ≡ read →
      found_at_read p have read ≡ Found.GoesOn q → LegalFrom p (have ∷ lines) n
  with_read law (Ok line) kept is e = with_step kept (clean_read p.names (place_of p) have line is) (step law p have line q is e)
  with_read law (Err reason) kept is e = cc

  by_kind : ReadIsWritten → (test : Bool) → is_skipped have ≡ test →
      (if test then found_at_skipped p (byte_fault have) else found_at_read p have (line_read p.names (place_of p) have)) ≡ Found.GoesOn q →
      LegalFrom p (have ∷ lines) n
  by_kind law true skipped e = with_skipped (byte_fault have) skipped refl e
  by_kind law false read e = with_read law (line_read p.names (place_of p) have) read refl e

  one_more : ReadIsWritten → LegalFrom p (have ∷ lines) n
  unfolding found_at
  one_more law = by_kind law (is_skipped have) refl found

-- the walk

same_count : (m n : ℕ) → Legal m ≡ Legal n → m ≡ n
same_count m n e = cc

record Legally (p : Reached) (lines : List (List ℕ)) (rest : List ℕ) (n : ℕ) : Type 0 where
  pub from : LegalFrom p lines n
  pub whole : rest ≡ []

after_line :
    ReadIsWritten → (k : ℕ) (p : Reached) (have : List ℕ) (lines : List (List ℕ)) (rest : List ℕ) (n : ℕ) (found : Found) →
    ((q : Reached) → verdict_from (k + 1) q lines rest ≡ Legal n → Legally q lines rest n) → found_at p have ≡ found →
    verdict_after k have (λ q. verdict_from (k + 1) q lines rest) found ≡ Legal n → Legally p (have ∷ lines) rest n
after_line law k p have lines rest n (Found.GoesOn q) next is e =
    let h : Legally q lines rest n = next q e in record { from = one_more p have q lines n h.from is law; whole = h.whole }
after_line law k p have lines rest n (Found.IsBad reason) next is e = cc
after_line law k p have lines rest n (Found.IsIllegal want) next is e = cc

legally : ReadIsWritten → (k : ℕ) (p : Reached) (lines : List (List ℕ)) (rest : List ℕ) (n : ℕ) → verdict_from k p lines rest ≡ Legal n → Legally p lines rest n
legally law k p [] [] n e =
    record {
      from = record { told = []; clean = tt; spelled = refl; in_place = tt; reached = refl; count = same_count (state_of p).events n e };
      whole = refl;
    }
legally law k p [] (b ∷ bs) n e = cc
legally law k p (have ∷ lines) rest n e =
    after_line law k p have lines rest n (found_at p have) (λ q f. legally law (k + 1) q lines rest n f) refl e

-- the first line

header_by : (line : List ℕ) (test : Bool) → bytes_eq line header ≡ test → (if test then None else Some Header) ≡ None → bytes_eq line header ≡ true
header_by line true same h = same
header_by line false same h = cc

is_header : (first : List ℕ) (fault : Option Reason) → unless_header first fault ≡ None → first ≡ header
is_header first None e = (bytes_eq-Decides first header).0 (header_by first (bytes_eq first header) refl e)
is_header first (Some reason) e = cc

of_first :
    ReadIsWritten → (text first : List ℕ) (lines : List (List ℕ)) (rest : List ℕ) (n : ℕ) (fault : Option Reason) →
    whole_lines text ≡ first ∷ lines → cut_part text ≡ rest → header_fault first ≡ fault →
    verdict_unless fault (verdict_from 2 at_start lines rest) ≡ Legal n → IsHistory (place_from at_start lines).history → IsLegalText text n
of_first law text first lines rest n None begins cut clean e legal =
    let h : Legally at_start lines rest n = legally law 2 at_start lines rest n e in
    record {
      lines = lines;
      begins = begins ∙ ap (λ (x : List ℕ). x ∷ lines) (is_header first (byte_fault first) clean);
      whole = cut ∙ h.whole;
      clean = h.from.clean;
      told = h.from.told;
      spelled = h.from.spelled;
      in_place = h.from.in_place;
      legal = subst (λ (p : Reached). IsHistory p.history) h.from.reached legal;
      count = h.from.count;
    }
of_first law text first lines rest n (Some reason) begins cut fault e legal = cc

of_lines :
    ReadIsWritten → (text : List ℕ) (lines : List (List ℕ)) (rest : List ℕ) (n : ℕ) → whole_lines text ≡ lines → cut_part text ≡ rest →
    verdict_of_lines lines rest ≡ Legal n → IsHistory (place_of_lines lines).history → IsLegalText text n
of_lines law text [] [] n begins cut e legal = cc
of_lines law text [] (b ∷ bs) n begins cut e legal = cc
of_lines law text (first ∷ lines) rest n begins cut e legal = of_first law text first lines rest n (header_fault first) begins cut refl e legal

pub is_legal : ReadIsWritten → (text : List ℕ) (n : ℕ) → verdict text ≡ Legal n → IsHistory (history_told text) → IsLegalText text n
unfolding verdict history_told
is_legal law text n e legal = of_lines law text (whole_lines text) (cut_part text) n refl refl e legal

-- the other way

first_of : (x y : List ℕ) (xs ys : List (List ℕ)) → x ∷ xs ≡ y ∷ ys → x ≡ y
first_of x y xs ys e = cc

rest_of : (x y : List ℕ) (xs ys : List (List ℕ)) → x ∷ xs ≡ y ∷ ys → xs ≡ ys
rest_of x y xs ys e = cc

abbrev Goes : ℕ → Reached → List (List ℕ) → ℕ → Type 0
Goes k p lines n = verdict_from k p lines [] ≡ Legal n

on : (k : ℕ) (p q : Reached) (have : List ℕ) (lines : List (List ℕ)) (n : ℕ) → found_at p have ≡ Found.GoesOn q → Goes (k + 1) q lines n → Goes k p (have ∷ lines) n
on k p q have lines n e h = ap (verdict_after k have (λ x. verdict_from (k + 1) x lines [])) e ∙ h

skipped_goes : (p : Reached) (have : List ℕ) → is_skipped have ≡ true → byte_fault have ≡ None → found_at p have ≡ Found.GoesOn p
unfolding found_at
skipped_goes p have skipped clean =
    then_is (is_skipped have) _ _ (Found.GoesOn p) skipped (ap (found_at_skipped p) clean)

read_by : (p : Reached) (have : List ℕ) (told : Told) (q : Reached) (test : Bool) → test ≡ false → found_at_read p have (line_read p.names (place_of p) have) ≡ Found.GoesOn q →
    (if test then found_at_skipped p (byte_fault have) else found_at_read p have (line_read p.names (place_of p) have)) ≡ Found.GoesOn q
read_by p have told q true e h = cc
read_by p have told q false e h = h

told_goes : (p : Reached) (have : List ℕ) (told : Told) → is_skipped have ≡ false → have ≡ line_text p.names (line_told told) →
    line_read p.names (place_of p) (line_text p.names (line_told told)) ≡ Ok (line_told told) → MayTell p told →
    found_at p have ≡ Found.GoesOn (after_told p told)
unfolding found_at
told_goes p have told kept text well may =
    let read : line_read p.names (place_of p) have ≡ Ok (line_told told) = ap (line_read p.names (place_of p)) text ∙ well in
    read_by p have told (after_told p told) (is_skipped have) kept (ap (found_at_read p have) read ∙ told_found p have told text may)

told_first :
    (k : ℕ) (p : Reached) (have : List ℕ) (lines : List (List ℕ)) (n : ℕ) (told : List Told) → is_skipped have ≡ false →
    ((q : Reached) (others : List Told) → filter is_read lines ≡ texts_of q others → AreTold q others → (state_of (reached_by q others)).events ≡ n → Goes (k + 1) q lines n) →
    have ∷ filter is_read lines ≡ texts_of p told → AreTold p told → (state_of (reached_by p told)).events ≡ n → Goes k p (have ∷ lines) n
told_first k p have lines n [] kept next spelled places count = cc
told_first k p have lines n (told ∷ others) kept next spelled places count =
    let text : have ≡ line_text p.names (line_told told) =
    first_of have (line_text p.names (line_told told)) (filter is_read lines) (texts_of (after_told p told) others) spelled in
    let rest : filter is_read lines ≡ texts_of (after_told p told) others =
    rest_of have (line_text p.names (line_told told)) (filter is_read lines) (texts_of (after_told p told) others) spelled in
    on k p (after_told p told) have lines n (told_goes p have told kept text places.0 places.1) (next (after_told p told) others rest places.2 count)

any_line :
    (k : ℕ) (p : Reached) (have : List ℕ) (lines : List (List ℕ)) (n : ℕ) (told : List Told) (test : Bool) → is_skipped have ≡ test → IsClean have →
    ((q : Reached) (others : List Told) → filter is_read lines ≡ texts_of q others → AreTold q others → (state_of (reached_by q others)).events ≡ n → Goes (k + 1) q lines n) →
    filter is_read (have ∷ lines) ≡ texts_of p told → AreTold p told → (state_of (reached_by p told)).events ≡ n → Goes k p (have ∷ lines) n
any_line k p have lines n told true skipped clean next spelled places count =
    on k p p have lines n (skipped_goes p have skipped clean) (next p told (sym (skipped_out have lines skipped) ∙ spelled) places count)
any_line k p have lines n told false kept clean next spelled places count =
    told_first k p have lines n told kept next (sym (read_kept have lines kept) ∙ spelled) places count

at_last : (k : ℕ) (p : Reached) (n : ℕ) (told : List Told) → [] ≡ texts_of p told → (state_of (reached_by p told)).events ≡ n → Goes k p [] n
at_last k p n [] spelled count = ap Legal count
at_last k p n (told ∷ others) spelled count = cc

goes :
    (k : ℕ) (p : Reached) (lines : List (List ℕ)) (n : ℕ) (told : List Told) → AllByRecursion IsClean lines → filter is_read lines ≡ texts_of p told →
    AreTold p told → (state_of (reached_by p told)).events ≡ n → Goes k p lines n
goes k p [] n told clean spelled places count = at_last k p n told spelled count
goes k p (have ∷ lines) n told clean spelled places count =
    any_line k p have lines n told (is_skipped have) refl clean.0 (λ q others s w c. goes (k + 1) q lines n others clean.1 s w c) spelled places count

pub is_found : (text : List ℕ) (n : ℕ) → IsLegalText text n → verdict text ≡ Legal n
unfolding verdict
is_found text n h =
    ap (λ (lines : List (List ℕ)). verdict_of_lines lines (cut_part text)) h.begins
    ∙ ap (verdict_from 2 at_start h.lines) h.whole
    ∙ goes 2 at_start h.lines n h.told h.clean h.spelled h.in_place h.count
