-- The two parts of an input.
use Rattle.std.proofs.Common.{◌≡◌, ◌⊎◌, inl, inr, ℕ, suc, ◌+◌, ◌<◌, Bool, true, false, ◌==◌, ◌&&◌, ◌||◌, cond, List, [], ◌∷◌, ◌++◌, length, take, drop, Option, Some, None, option_map, refl, sym, ap, ◌∙◌, subst, arith, append_assoc, append-nil}
use Rattle.std.specs.Prelude.{bytes_eq}
use Rattle.std.specs.List.{list_any, onto_first}
use Rattle.std.proofs.lemmas.Bool.{eqb-true, or_from, or_parts, false_from_ne_true, false≢true, true≢false}
use Rattle.std.proofs.lemmas.List.{take-append-drop}
use Rattle.std.proofs.lemmas.Slice.Eq.{bytes_eq-Decides}
use Rattle.line_text.specs.Words.{lines_of}
use Rattle.spec_traces.specs.TraceInput.{AreParts, HasNoTrace, before_place, begins_with_trace_line, is_trace_line, script_part, trace_line, trace_part, trace_place, trace_place_from}

-- the lines of a text with one byte more

lines_feed : (b : ℕ) (bytes : List ℕ) → (b == 10) ≡ true → lines_of (b ∷ bytes) ≡ [] ∷ lines_of bytes
lines_feed b bytes e = ap (λ feed. cond feed ([] ∷ lines_of bytes) (onto_first b (lines_of bytes))) e

lines_byte : (b : ℕ) (bytes : List ℕ) → (b == 10) ≡ false → lines_of (b ∷ bytes) ≡ onto_first b (lines_of bytes)
lines_byte b bytes e = ap (λ feed. cond feed ([] ∷ lines_of bytes) (onto_first b (lines_of bytes))) e

-- a text that is not empty has a line

onto_some : (b : ℕ) (lines : List (List ℕ)) → onto_first b lines ≡ [] → ⊥
onto_some b [] e = cc
onto_some b (line ∷ lines) e = cc

some_line : (b : ℕ) (bytes : List ℕ) → lines_of (b ∷ bytes) ≡ [] → ⊥
some_line b bytes e = by_feed (b == 10) e
  where
    by_feed : (feed : Bool) → cond feed ([] ∷ lines_of bytes) (onto_first b (lines_of bytes)) ≡ [] → ⊥
    by_feed true h = cc
    by_feed false h = onto_some b (lines_of bytes) h

no_lines : (bytes : List ℕ) → lines_of bytes ≡ [] → bytes ≡ []
no_lines [] e = refl
no_lines (b ∷ bytes) e = absurd (some_line b bytes e)

-- the first line stands at the beginning, and a line feed follows it or nothing does

abbrev BeginsWith : List ℕ → List ℕ → Type 0
BeginsWith bytes line = (bytes ≡ line) ⊎ ((rest : List ℕ) × (bytes ≡ line ++ 10 ∷ rest))

one_byte_more : (b : ℕ) (bytes line : List ℕ) → BeginsWith bytes line → BeginsWith (b ∷ bytes) (b ∷ line)
one_byte_more b bytes line (inl same) = inl (ap (λ xs. b ∷ xs) same)
one_byte_more b bytes line (inr more) = inr (more.0, ap (λ xs. b ∷ xs) more.1)

onto_line : (b : ℕ) (bytes : List ℕ) (before : List (List ℕ)) (line : List ℕ) (lines : List (List ℕ)) → lines_of bytes ≡ before →
    ((line : List ℕ) (lines : List (List ℕ)) → before ≡ line ∷ lines → BeginsWith bytes line) → onto_first b before ≡ line ∷ lines →
    BeginsWith (b ∷ bytes) line
onto_line b bytes [] line lines is h e =
    let own : b ∷ [] ≡ line = cc in
    inl (ap (λ xs. b ∷ xs) (no_lines bytes is) ∙ own)
onto_line b bytes (first ∷ others) line lines is h e =
    let own : b ∷ first ≡ line = cc in
    subst (BeginsWith (b ∷ bytes)) own (one_byte_more b bytes first (h first others refl))

first_line : (bytes line : List ℕ) (lines : List (List ℕ)) → lines_of bytes ≡ line ∷ lines → BeginsWith bytes line
first_line [] line lines e = let no : ⊥ = cc in absurd no
first_line (b ∷ bytes) line lines e = by_feed b bytes line lines (b == 10) refl e (first_line bytes)
  where
    by_feed : (b : ℕ) (bytes line : List ℕ) (lines : List (List ℕ)) (feed : Bool) → (b == 10) ≡ feed →
        cond feed ([] ∷ lines_of bytes) (onto_first b (lines_of bytes)) ≡ line ∷ lines →
        ((line : List ℕ) (lines : List (List ℕ)) → lines_of bytes ≡ line ∷ lines → BeginsWith bytes line) → BeginsWith (b ∷ bytes) line
    by_feed b bytes line lines true ten e h =
        let is : b ≡ 10 = eqb-true b 10 ten in
        let own : [] ≡ line = cc in
        subst (BeginsWith (b ∷ bytes)) own (inr (bytes, ap (λ x. x ∷ bytes) is))
    by_feed b bytes line lines false other e h = onto_line b bytes (lines_of bytes) line lines refl h e

-- the line `trace` and what stands after it

abbrev IsTail : List ℕ → List ℕ → Type 0
IsTail tail rest = (tail ≡ trace_line ++ 10 ∷ rest) ⊎ ((tail ≡ trace_line) × (rest ≡ []))

tail_lines : (tail rest : List ℕ) → IsTail tail rest → lines_of tail ≡ trace_line ∷ lines_of rest
tail_lines tail rest (inl e) = ap lines_of e
tail_lines tail rest (inr e) = ap lines_of e.0 ∙ ap (λ (bytes : List ℕ). trace_line ∷ lines_of bytes) (sym e.1)

tail_rest : (tail rest : List ℕ) → IsTail tail rest → drop 6 tail ≡ rest
tail_rest tail rest (inl e) = ap (λ (bytes : List ℕ). drop 6 bytes) e
tail_rest tail rest (inr e) = ap (λ (bytes : List ℕ). drop 6 bytes) e.0 ∙ sym e.1

tail_of : (bytes : List ℕ) → begins_with_trace_line bytes ≡ true → IsTail bytes (drop 6 bytes)
tail_of bytes h = by_length (bytes_eq bytes trace_line) refl h
  where
    by_length : (whole : Bool) → bytes_eq bytes trace_line ≡ whole → (whole || bytes_eq (trace_line ++ 10 ∷ []) (take 6 bytes)) ≡ true →
        IsTail bytes (drop 6 bytes)
    by_length true e k =
        let is : bytes ≡ trace_line = (bytes_eq-Decides bytes trace_line).0 e in
        inr (is, ap (λ (xs : List ℕ). drop 6 xs) is)
    by_length false e k =
        let is : trace_line ++ 10 ∷ [] ≡ take 6 bytes = (bytes_eq-Decides (trace_line ++ 10 ∷ []) (take 6 bytes)).0 k in
        inl (sym (take-append-drop 6 bytes) ∙ ap (λ (xs : List ℕ). xs ++ drop 6 bytes) (sym is))

-- bytes whose first line is `trace` begin with that line
trace_first : (bytes : List ℕ) → BeginsWith bytes trace_line → begins_with_trace_line bytes ≡ true
trace_first bytes (inl same) = ap begins_with_trace_line same
trace_first bytes (inr more) = ap begins_with_trace_line more.1

not_first : (bytes line : List ℕ) (lines : List (List ℕ)) → lines_of bytes ≡ line ∷ lines → begins_with_trace_line bytes ≡ false →
    is_trace_line line ≡ false
not_first bytes line lines e h = false_from_ne_true (is_trace_line line) is_not
  where
    is_not : is_trace_line line ≡ true → ⊥
    is_not t =
        let is : line ≡ trace_line = (bytes_eq-Decides line trace_line).0 t in
        let begins : BeginsWith bytes trace_line = subst (BeginsWith bytes) is (first_line bytes line lines e) in
        true≢false (sym (trace_first bytes begins) ∙ h)

-- no line is exactly `trace`; where the bytes begin within a line, their first is not counted

abbrev whole_lines : Bool → List (List ℕ) → List (List ℕ)
whole_lines true lines = lines
whole_lines false [] = []
whole_lines false (line ∷ lines) = lines

abbrev NoTrace : Bool → List (List ℕ) → Type 0
NoTrace begins lines = list_any is_trace_line (whole_lines begins lines) ≡ false

feed_step : (begins : Bool) (lines : List (List ℕ)) → NoTrace true lines → NoTrace begins ([] ∷ lines)
feed_step true lines h = h
feed_step false lines h = h

byte_step : (begins : Bool) (b : ℕ) (bytes : List ℕ) (lines more : List (List ℕ)) → lines_of (b ∷ bytes) ≡ onto_first b lines ++ more →
    (begins && begins_with_trace_line (b ∷ bytes)) ≡ false → NoTrace false lines → NoTrace begins (onto_first b lines)
byte_step false b bytes [] more e h none = refl
byte_step false b bytes (line ∷ lines) more e h none = none
byte_step true b bytes [] more e h none = or_from (is_trace_line (b ∷ [])) false (not_first (b ∷ bytes) (b ∷ []) more e h) refl
byte_step true b bytes (line ∷ lines) more e h none =
    or_from (is_trace_line (b ∷ line)) (list_any is_trace_line lines) (not_first (b ∷ bytes) (b ∷ line) (lines ++ more) e h) none

-- what is at a place

record Found (begins : Bool) (bytes : List ℕ) (place : ℕ) : Type 0 where
  script : List ℕ
  tail : List ℕ
  rest : List ℕ
  whole : bytes ≡ script ++ tail
  count : length script ≡ place
  is_tail : IsTail tail rest
  lines : lines_of bytes ≡ lines_of script ++ trace_line ∷ lines_of rest
  first : NoTrace begins (lines_of script)
  some : begins ≡ false → 0 < length script

abbrev IsSearched : Bool → List ℕ → Option ℕ → Type 0
IsSearched begins bytes None = NoTrace begins (lines_of bytes)
IsSearched begins bytes (Some place) = Found begins bytes place

onto_append : (b : ℕ) (lines more : List (List ℕ)) → (lines ≡ [] → ⊥) → onto_first b (lines ++ more) ≡ onto_first b lines ++ more
onto_append b [] more h = absurd (h refl)
onto_append b (line ∷ lines) more h = refl

lines_if_some : (bytes : List ℕ) → 0 < length bytes → lines_of bytes ≡ [] → ⊥
lines_if_some [] h e = omega arith
lines_if_some (b ∷ bytes) h e = some_line b bytes e

later : (begins : Bool) (b : ℕ) (bytes : List ℕ) (feed : Bool) → (b == 10) ≡ feed → (place : Option ℕ) →
    (begins && begins_with_trace_line (b ∷ bytes)) ≡ false → IsSearched feed bytes place →
    IsSearched begins (b ∷ bytes) (option_map (λ at. at + 1) place)
later begins b bytes true e None h s = subst (NoTrace begins) (sym (lines_feed b bytes e)) (feed_step begins (lines_of bytes) s)
later begins b bytes false e None h s =
    subst (NoTrace begins) (sym (lines_byte b bytes e))
    (byte_step begins b bytes (lines_of bytes) [] (lines_byte b bytes e ∙ sym (append-nil (onto_first b (lines_of bytes)))) h s)
later begins b bytes true e (Some place) h s =
    record {
      script = b ∷ s.script;
      tail = s.tail;
      rest = s.rest;
      whole = ap (λ xs. b ∷ xs) s.whole;
      count = omega (arith, s.count);
      is_tail = s.is_tail;
      lines = lines_feed b bytes e ∙ ap (λ lines. [] ∷ lines) s.lines
          ∙ ap (λ lines. lines ++ trace_line ∷ lines_of s.rest) (sym (lines_feed b s.script e));
      first = subst (NoTrace begins) (sym (lines_feed b s.script e)) (feed_step begins (lines_of s.script) s.first);
      some = λ within. omega arith;
    }
later begins b bytes false e (Some place) h s =
    let more : List (List ℕ) = trace_line ∷ lines_of s.rest in
    let same : lines_of (b ∷ bytes) ≡ onto_first b (lines_of s.script) ++ more =
    lines_byte b bytes e ∙ ap (onto_first b) s.lines
    ∙ onto_append b (lines_of s.script) more (lines_if_some s.script (s.some refl)) in
    record {
      script = b ∷ s.script;
      tail = s.tail;
      rest = s.rest;
      whole = ap (λ xs. b ∷ xs) s.whole;
      count = omega (arith, s.count);
      is_tail = s.is_tail;
      lines = same ∙ ap (λ lines. lines ++ more) (sym (lines_byte b s.script e));
      first = subst (NoTrace begins) (sym (lines_byte b s.script e)) (byte_step begins b bytes (lines_of s.script) more same h s.first);
      some = λ within. omega arith;
    }

step : (begins : Bool) (b : ℕ) (bytes : List ℕ) (here : Bool) → (begins && begins_with_trace_line (b ∷ bytes)) ≡ here →
    IsSearched (b == 10) bytes (trace_place_from (b == 10) bytes) →
    IsSearched begins (b ∷ bytes) (cond here (Some 0) (option_map (λ at. at + 1) (trace_place_from (b == 10) bytes)))
step true b bytes true h s =
    record {
      script = [];
      tail = b ∷ bytes;
      rest = drop 6 (b ∷ bytes);
      whole = refl;
      count = refl;
      is_tail = tail_of (b ∷ bytes) h;
      lines = tail_lines (b ∷ bytes) (drop 6 (b ∷ bytes)) (tail_of (b ∷ bytes) h);
      first = refl;
      some = λ within. absurd (true≢false within);
    }
step false b bytes true h s = absurd (false≢true h)
step begins b bytes false h s = later begins b bytes (b == 10) refl (trace_place_from (b == 10) bytes) h s

searched : (begins : Bool) (bytes : List ℕ) → IsSearched begins bytes (trace_place_from begins bytes)
searched true [] = refl
searched false [] = refl
searched begins (b ∷ bytes) = step begins b bytes (begins && begins_with_trace_line (b ∷ bytes)) refl (searched (b == 10) bytes)

-- the parts by the place

take_front : (front bytes : List ℕ) → take (length front) (front ++ bytes) ≡ front
take_front [] bytes = refl
take_front (b ∷ front) bytes = ap (λ xs. b ∷ xs) (take_front front bytes)

drop_front : (front bytes : List ℕ) (n : ℕ) → drop (length front + n) (front ++ bytes) ≡ drop n bytes
drop_front [] bytes n = let e : 0 + n ≡ n = omega arith in ap (λ (k : ℕ). drop k bytes) e
drop_front (b ∷ front) bytes n =
    let e : suc (length front) + n ≡ suc (length front + n) = omega arith in
    ap (λ (k : ℕ). drop k (b ∷ front ++ bytes)) e ∙ drop_front front bytes n

rest_is : (input script tail rest : List ℕ) → input ≡ script ++ tail → IsTail tail rest → drop (length script + 6) input ≡ rest
rest_is input script tail rest whole t =
    ap (λ (xs : List ℕ). drop (length script + 6) xs) whole ∙ drop_front script tail 6 ∙ tail_rest tail rest t

script_is : (input script tail : List ℕ) → input ≡ script ++ tail → take (length script) input ≡ script
script_is input script tail whole = ap (λ (xs : List ℕ). take (length script) xs) whole ∙ take_front script tail

bytes_of : (input script tail rest : List ℕ) → input ≡ script ++ tail → IsTail tail rest →
    (input ≡ script ++ trace_line ++ 10 ∷ rest) ⊎ ((input ≡ script ++ trace_line) × (rest ≡ []))
bytes_of input script tail rest whole (inl e) =
    inl (whole ∙ ap (λ xs. script ++ xs) e ∙ sym (append_assoc script trace_line (10 ∷ rest)))
bytes_of input script tail rest whole (inr e) = inr (whole ∙ ap (λ xs. script ++ xs) e.0, e.1)

found_at : (input trace : List ℕ) (place : Option ℕ) → IsSearched true input place →
    option_map (λ at. drop (at + 6) input) place ≡ Some trace → AreParts input (before_place input place) trace
found_at input trace None s e = let no : ⊥ = cc in absurd no
found_at input trace (Some place) s e =
    let script : take place input ≡ s.script = ap (λ (n : ℕ). take n input) (sym s.count) ∙ script_is input s.script s.tail s.whole in
    let dropped : drop (place + 6) input ≡ s.rest =
    ap (λ (n : ℕ). drop (n + 6) input) (sym s.count) ∙ rest_is input s.script s.tail s.rest s.whole s.is_tail in
    let given : drop (place + 6) input ≡ trace = cc in
    let parts : AreParts input s.script s.rest =
    record { bytes = bytes_of input s.script s.tail s.rest s.whole s.is_tail; lines = s.lines; first = s.first } in
    subst (λ (xs : List ℕ). AreParts input xs trace) (sym script)
    (subst (λ (xs : List ℕ). AreParts input s.script xs) (sym dropped ∙ given) parts)

none_at : (input : List ℕ) (place : Option ℕ) → IsSearched true input place → option_map (λ at. drop (at + 6) input) place ≡ None →
    (before_place input place ≡ input) × NoTrace true (lines_of input)
none_at input None s e = (refl, s)
none_at input (Some place) s e = let no : ⊥ = cc in absurd no

-- the parts that are found have the first line `trace` between them
pub found-parts : (input trace : List ℕ) → trace_part input ≡ Some trace → AreParts input (script_part input) trace
unfolding trace_place
found-parts input trace e = found_at input trace (trace_place_from true input) (searched true input) e

-- where no trace is found there is no line `trace`
pub no-parts : (input : List ℕ) → trace_part input ≡ None → HasNoTrace input
unfolding trace_place
no-parts input e = let none = none_at input (trace_place_from true input) (searched true input) e in record { whole = none.0; none = none.1 }

-- two parts with the first line `trace` between them are found

record IsLater (feed : Bool) (script tail rest : List ℕ) : Type 0 where
  lines : lines_of (script ++ tail) ≡ lines_of script ++ trace_line ∷ lines_of rest
  first : NoTrace feed (lines_of script)
  some : feed ≡ false → 0 < length script

feed_back : (begins : Bool) (lines : List (List ℕ)) → NoTrace begins ([] ∷ lines) → NoTrace true lines
feed_back true lines h = h
feed_back false lines h = h

byte_back : (begins : Bool) (b : ℕ) (lines : List (List ℕ)) → NoTrace begins (onto_first b lines) → NoTrace false lines
byte_back begins b [] h = refl
byte_back true b (line ∷ lines) h = (or_parts (is_trace_line (b ∷ line)) (list_any is_trace_line lines) h).1
byte_back false b (line ∷ lines) h = h

onto_same : (b : ℕ) (xs ys more : List (List ℕ)) → (xs ≡ [] → ⊥) → (ys ≡ [] → ⊥) → onto_first b xs ≡ onto_first b ys ++ more → xs ≡ ys ++ more
onto_same b [] ys more h k e = absurd (h refl)
onto_same b (x ∷ xs) [] more h k e = absurd (k refl)
onto_same b (x ∷ xs) (y ∷ ys) more h k e = cc

-- a line of one byte is not one with more
short_line : (b c : ℕ) (line : List ℕ) (lines more : List (List ℕ)) → onto_first b ((c ∷ line) ∷ lines) ≡ (b ∷ []) ∷ more → ⊥
short_line b c line lines more e = cc

within_line : (b : ℕ) (script tail rest : List ℕ) → IsTail tail rest →
    onto_first b (lines_of (script ++ tail)) ≡ onto_first b (lines_of script) ++ trace_line ∷ lines_of rest →
    (lines_of (script ++ tail) ≡ lines_of script ++ trace_line ∷ lines_of rest) × (0 < length script)
within_line b [] tail rest t e =
    absurd
    (short_line b _ _ (lines_of rest) (trace_line ∷ lines_of rest) (ap (onto_first b) (sym (tail_lines tail rest t)) ∙ e))
within_line b (c ∷ script) tail rest t e = (
  onto_same b (lines_of (c ∷ script ++ tail)) (lines_of (c ∷ script)) (trace_line ∷ lines_of rest) (some_line c (script ++ tail))
      (some_line c script) e,
  omega arith,
)

go_on : (begins : Bool) (b : ℕ) (script tail rest : List ℕ) (feed : Bool) → (b == 10) ≡ feed → IsTail tail rest →
    lines_of (b ∷ script ++ tail) ≡ lines_of (b ∷ script) ++ trace_line ∷ lines_of rest → NoTrace begins (lines_of (b ∷ script)) →
    IsLater feed script tail rest
go_on begins b script tail rest true ten t e none =
    let same : [] ∷ lines_of (script ++ tail) ≡ [] ∷ (lines_of script ++ trace_line ∷ lines_of rest) =
    sym (lines_feed b (script ++ tail) ten) ∙ e ∙ ap (λ lines. lines ++ trace_line ∷ lines_of rest) (lines_feed b script ten) in
    record {
      lines = cons_same _ _ same;
      first = feed_back begins (lines_of script) (subst (NoTrace begins) (lines_feed b script ten) none);
      some = λ within. absurd (true≢false within);
    }
  where
    cons_same : (xs ys : List (List ℕ)) → ◌≡◌ {A = List (List ℕ)} ([] ∷ xs) ([] ∷ ys) → xs ≡ ys
    cons_same xs ys e = cc
go_on begins b script tail rest false other t e none =
    let both = within_line b script tail rest t
    (sym (lines_byte b (script ++ tail) other) ∙ e ∙ ap (λ lines. lines ++ trace_line ∷ lines_of rest) (lines_byte b script other)) in
    record {
      lines = both.0;
      first = byte_back begins b (lines_of script) (subst (NoTrace begins) (lines_byte b script other) none);
      some = λ within. both.1;
    }

trace_is_first : (lines more others : List (List ℕ)) → (lines ≡ [] → ⊥) → trace_line ∷ others ≡ lines ++ more →
    list_any is_trace_line lines ≡ false → ⊥
trace_is_first [] more others h e none = h refl
trace_is_first (line ∷ lines) more others h e none =
    let is : trace_line ≡ line = first_same trace_line line others (lines ++ more) e in
    let p = or_parts (is_trace_line line) (list_any is_trace_line lines) none in
    true≢false (ap is_trace_line is ∙ p.0)
  where
    first_same : (x y : List ℕ) (xs ys : List (List ℕ)) → x ∷ xs ≡ y ∷ ys → x ≡ y
    first_same x y xs ys e = cc

not_here : (begins : Bool) (b : ℕ) (script bytes : List ℕ) (more : List (List ℕ)) → lines_of (b ∷ bytes) ≡ lines_of (b ∷ script) ++ more →
    NoTrace begins (lines_of (b ∷ script)) → (begins && begins_with_trace_line (b ∷ bytes)) ≡ false
not_here false b script bytes more e none = refl
not_here true b script bytes more e none =
    false_from_ne_true (begins_with_trace_line (b ∷ bytes)) (λ h.
    trace_is_first (lines_of (b ∷ script)) more (lines_of (drop 6 (b ∷ bytes))) (some_line b script)
    (sym (tail_lines (b ∷ bytes) (drop 6 (b ∷ bytes)) (tail_of (b ∷ bytes) h)) ∙ e) none)

at_tail : (tail rest : List ℕ) → IsTail tail rest → trace_place_from true tail ≡ Some 0
at_tail tail rest (inl e) = ap (trace_place_from true) e
at_tail tail rest (inr e) = ap (trace_place_from true) e.0

placed : (begins : Bool) (script tail rest : List ℕ) → IsTail tail rest →
    lines_of (script ++ tail) ≡ lines_of script ++ trace_line ∷ lines_of rest → NoTrace begins (lines_of script) →
    (begins ≡ false → 0 < length script) → trace_place_from begins (script ++ tail) ≡ Some (length script)
placed true [] tail rest t e none some = at_tail tail rest t
placed false [] tail rest t e none some = let no : 0 < 0 = some refl in absurd (omega arith)
placed begins (b ∷ script) tail rest t e none some =
    let later = go_on begins b script tail rest (b == 10) refl t e none in
    let other = not_here begins b script (script ++ tail) (trace_line ∷ lines_of rest) e none in
    let next : length script + 1 ≡ suc (length script) = omega arith in
    ap (λ here. cond here (Some 0) (option_map (λ at. at + 1) (trace_place_from (b == 10) (script ++ tail)))) other
    ∙ ap (option_map (λ at. at + 1)) (placed (b == 10) script tail rest t later.lines later.first later.some)
    ∙ ap Some next

record IsCut (input script rest : List ℕ) : Type 0 where
  tail : List ℕ
  whole : input ≡ script ++ tail
  is_tail : IsTail tail rest

cut_at : (input script rest : List ℕ) → (input ≡ script ++ trace_line ++ 10 ∷ rest) ⊎ ((input ≡ script ++ trace_line) × (rest ≡ [])) →
    IsCut input script rest
cut_at input script rest (inl e) =
    record { tail = trace_line ++ 10 ∷ rest; whole = e ∙ append_assoc script trace_line (10 ∷ rest); is_tail = inl refl }
cut_at input script rest (inr e) = record { tail = trace_line; whole = e.0; is_tail = inr (refl, e.1) }

place_of : (input script rest : List ℕ) → AreParts input script rest → IsCut input script rest → trace_place_from true input ≡ Some (length script)
place_of input script rest p cut =
    ap (trace_place_from true) cut.whole
    ∙ placed true script cut.tail rest cut.is_tail (ap lines_of (sym cut.whole) ∙ p.lines) p.first (λ within. absurd (true≢false within))

-- the parts are the only ones
pub parts-again : (input script trace : List ℕ) → AreParts input script trace → (script_part input ≡ script) × (trace_part input ≡ Some trace)
unfolding trace_place
parts-again input script trace p =
    let cut = cut_at input script trace p.bytes in
    let at = place_of input script trace p cut in (
      ap (before_place input) at ∙ script_is input script cut.tail cut.whole,
      ap (option_map (λ place. drop (place + 6) input)) at ∙ ap Some (rest_is input script cut.tail trace cut.whole cut.is_tail),
    )
