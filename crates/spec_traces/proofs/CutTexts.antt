-- Prefixes of texts, and the whole lines among them.
use Rattle.std.proofs.Common.{◌≡◌, ℕ, ◌+◌, ◌⊎◌, inl, inr, zero, suc, ◌==◌, ◌&&◌, ◌||◌, not, Bool, true, false, List, [], ◌∷◌, ◌++◌, length, take, refl, sym, ap, ◌∙◌, subst, arith, append_assoc, length-append}
use Rattle.std.specs.Prelude.{filter}
use Rattle.std.specs.List.{list_all, list_any}
use Rattle.std.proofs.lemmas.Bool.{and_from, and_parts, or_parts, not-true, not_from_false, false≢true}
use Rattle.std.proofs.lemmas.List.{take-append-le}
use Rattle.line_text.specs.Words.{is_one_line, text_of_lines}
use Rattle.spec_traces.specs.Fronts.{IsFrontOf, whole_lines}
use Rattle.spec_traces.specs.LegalTraces.{IsTextOf}
use Rattle.spec_traces.specs.Turns.{begins_with_digit}

-- prefixes

-- of a longer text
pub front_of_longer : (bytes text more : List ℕ) → IsFrontOf bytes text → IsFrontOf bytes (text ++ more)
front_of_longer bytes text more (k, few, e) =
    let both : length (text ++ more) ≡ length text + length more = length-append text more in
    (k, omega (arith, few, both), e ∙ sym (take-append-le k text more few))

-- after the same bytes
pub front_after : (first bytes text : List ℕ) → IsFrontOf bytes text → IsFrontOf (first ++ bytes) (first ++ text)
front_after [] bytes text is = is
front_after (b ∷ first) bytes text is = one_more (front_after first bytes text is)
  where
    one_more : IsFrontOf (first ++ bytes) (first ++ text) → IsFrontOf (b ∷ first ++ bytes) (b ∷ first ++ text)
    one_more (k, few, e) = (suc k, omega (arith, few), ap (λ xs. b ∷ xs) e)

-- of a text that may lack its last line feed
pub front_of_text : (bytes whole text : List ℕ) → IsTextOf whole text → IsFrontOf bytes text → IsFrontOf bytes whole
front_of_text bytes whole text (inl same) is = subst (IsFrontOf bytes) same is
front_of_text bytes whole text (inr same) is = subst (IsFrontOf bytes) same (front_of_longer bytes text (10 ∷ []) is)

-- the cut is in a line, or after its line feed
abbrev pub IsCut : List ℕ → List ℕ → List ℕ → Type 0
IsCut bytes line more = IsFrontOf bytes line ⊎ ((rest : List ℕ) × (bytes ≡ line ++ 10 ∷ rest) × IsFrontOf rest more)

onto_cut : (b : ℕ) (bytes front line more : List ℕ) → bytes ≡ b ∷ front → IsCut front line more → IsCut bytes (b ∷ line) more
onto_cut b bytes front line more e (inl (k, few, same)) = inl (suc k, omega (arith, few), e ∙ ap (λ xs. b ∷ xs) same)
onto_cut b bytes front line more e (inr (rest, same, is)) = inr (rest, e ∙ ap (λ xs. b ∷ xs) same, is)

pub cut_line : (line more bytes : List ℕ) → IsFrontOf bytes (line ++ 10 ∷ more) → IsCut bytes line more
cut_line [] more bytes (zero, few, e) = inl (0, omega arith, e)
cut_line [] more bytes (suc k, few, e) = inr (take k more, e, (k, omega (arith, few), refl))
cut_line (b ∷ line) more bytes (zero, few, e) = inl (0, omega arith, e)
cut_line (b ∷ line) more bytes (suc k, few, e) =
    onto_cut b bytes (take k (line ++ 10 ∷ more)) line more e (cut_line line more (take k (line ++ 10 ∷ more)) (k, omega (arith, few), refl))

-- lines

taken_line : (line : List ℕ) (k : ℕ) → is_one_line line ≡ true → is_one_line (take k line) ≡ true
taken_line [] zero one = refl
taken_line [] (suc k) one = refl
taken_line (b ∷ line) zero one = refl
taken_line (b ∷ line) (suc k) one =
    let p = or_parts (b == 10) (list_any (λ c. c == 10) line) (not-true _ one) in
    both (b == 10) (list_any (λ c. c == 10) (take k line)) p.0 (taken_line line k (not_from_false _ p.1))
  where
    both : (x y : Bool) → x ≡ false → not y ≡ true → not (x || y) ≡ true
    both true y e f = absurd (false≢true (sym e))
    both false y e f = f

-- a prefix of a line has no line feed
pub front_of_line : (bytes line : List ℕ) → is_one_line line ≡ true → IsFrontOf bytes line → is_one_line bytes ≡ true
front_of_line bytes line one (k, few, e) = ap is_one_line e ∙ taken_line line k one

has_feed : (line rest : List ℕ) → is_one_line (line ++ 10 ∷ rest) ≡ false
has_feed [] rest = refl
has_feed (b ∷ line) rest = either (b == 10) (list_any (λ c. c == 10) (line ++ 10 ∷ rest)) (has_feed line rest)
  where
    either : (x y : Bool) → not y ≡ false → not (x || y) ≡ false
    either true y e = refl
    either false y e = e

-- a line that ends in a line feed is whole
pub whole_line_first : (line rest : List ℕ) → whole_lines (line ++ 10 ∷ rest) ≡ line ++ 10 ∷ whole_lines rest
whole_line_first [] rest = refl
whole_line_first (b ∷ line) rest = rw (has_feed (b ∷ line) rest) (ap (λ xs. b ∷ xs) (whole_line_first line rest))

pub whole_lines_first : (lines : List (List ℕ)) (rest : List ℕ) → whole_lines (text_of_lines lines ++ rest) ≡ text_of_lines lines ++ whole_lines rest
whole_lines_first [] rest = refl
whole_lines_first (line ∷ lines) rest =
    ap whole_lines (append_assoc line (10 ∷ text_of_lines lines) rest)
    ∙ whole_line_first line (text_of_lines lines ++ rest)
    ∙ ap (λ xs. line ++ 10 ∷ xs) (whole_lines_first lines rest)
    ∙ sym (append_assoc line (10 ∷ text_of_lines lines) (whole_lines rest))

-- a line that is cut is not
pub no_whole_line : (bytes : List ℕ) → is_one_line bytes ≡ true → whole_lines bytes ≡ []
no_whole_line [] one = refl
no_whole_line (b ∷ bytes) one = rw one refl

-- lines that are no events'

abbrev pub is_other_line : List ℕ → Bool
is_other_line line = is_one_line line && not (begins_with_digit line)

-- the whole lines of these bytes are no events'
pub record HasOtherLines (bytes : List ℕ) : Type 0 where
  pub others : List (List ℕ)
  pub whole : whole_lines bytes ≡ text_of_lines others
  pub are : list_all is_other_line others ≡ true

pub no_other_lines : (bytes : List ℕ) → is_one_line bytes ≡ true → HasOtherLines bytes
no_other_lines bytes one = record { others = []; whole = no_whole_line bytes one; are = refl }

-- a prefix of such lines
pub other_lines : (lines : List (List ℕ)) (bytes : List ℕ) → list_all is_other_line lines ≡ true → IsFrontOf bytes (text_of_lines lines) → HasOtherLines bytes
other_lines [] bytes all (zero, few, e) = record { others = []; whole = ap whole_lines e; are = refl }
other_lines [] bytes all (suc k, few, e) = record { others = []; whole = ap whole_lines e; are = refl }
other_lines (line ∷ lines) bytes all is =
    let p = and_parts (is_other_line line) (list_all is_other_line lines) all in
    by_cut (cut_line line (text_of_lines lines) bytes is) p.0 (λ rest front. other_lines lines rest p.1 front)
  where
    first_line : (rest : List ℕ) → bytes ≡ line ++ 10 ∷ rest → is_other_line line ≡ true → HasOtherLines rest → HasOtherLines bytes
    first_line rest same own more =
        record {
          others = line ∷ more.others;
          whole = ap whole_lines same ∙ whole_line_first line rest ∙ ap (λ xs. line ++ 10 ∷ xs) more.whole;
          are = and_from (is_other_line line) (list_all is_other_line more.others) own more.are;
        }

    by_cut : IsCut bytes line (text_of_lines lines) → is_other_line line ≡ true → ((rest : List ℕ) → IsFrontOf rest (text_of_lines lines) → HasOtherLines rest) → HasOtherLines bytes
    by_cut (inl front) own later =
        no_other_lines bytes (front_of_line bytes line (and_parts (is_one_line line) (not (begins_with_digit line)) own).0 front)
    by_cut (inr (rest, same, front)) own later = first_line rest same own (later rest front)

pub others_are_lines : (lines : List (List ℕ)) → list_all is_other_line lines ≡ true → list_all is_one_line lines ≡ true
others_are_lines [] all = refl
others_are_lines (line ∷ lines) all =
    let p = and_parts (is_other_line line) (list_all is_other_line lines) all in
    let q = and_parts (is_one_line line) (not (begins_with_digit line)) p.0 in
    and_from (is_one_line line) (list_all is_one_line lines) q.0 (others_are_lines lines p.1)

pub others_no_digit : (lines : List (List ℕ)) → list_all is_other_line lines ≡ true → filter begins_with_digit lines ≡ []
others_no_digit [] all = refl
others_no_digit (line ∷ lines) all =
    let p = and_parts (is_other_line line) (list_all is_other_line lines) all in
    let q = and_parts (is_one_line line) (not (begins_with_digit line)) p.0 in
    rw (not-true (begins_with_digit line) q.1) (others_no_digit lines p.1)
