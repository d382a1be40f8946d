-- What a reading found is what stood there: the words that spell its value, and then those that it left.
use Rattle.std.proofs.Common.{◌≡◌, ℕ, Bool, true, false, cond, List, [], ◌∷◌, ◌++◌, Option, Some, None, Result, Ok, Err, refl, ap, sym, ◌∙◌, subst, append_assoc}
use Rattle.std.proofs.lemmas.Bool.{false≢true}
use Rattle.std.proofs.lemmas.Slice.Eq.{bytes_eq-Decides}
use Rattle.std.specs.Prelude.{bytes_eq, map}
use Rattle.line_reader.specs.Types.{Reason}
use Rattle.line_reader.specs.Combinators.{Reader, Rest, declared_number, first_of, items_from, items_to, next_word, optional_word, optional_word_of, pure, spelled_value, then_read, value_at_end, value_at_end_of, value_with_rest, ◌>>=◌}
use Rattle.line_reader.proofs.SkippedWords.{at_words}

-- each number was in its range, and each name declared
pub record IsClean (rest : Rest) : Type 0 where
  pub in_range : rest.in_range ≡ true
  pub known : rest.known ≡ true

-- these words stood before what is left, where all before it was clean too
pub record Stood (rest : Rest) (words : List (List ℕ)) (new : Rest) : Type 0 where
  pub clean : IsClean rest
  pub stood : rest.words ≡ words ++ new.words

-- after a clean reading of a value, words of which this holds stood there
pub record Finds {A : Type 0} (R : A → List (List ℕ) → Rest → Type 0) (rest : Rest) (x : A) (new : Rest) : Type 0 where
  pub words : List (List ℕ)
  pub holds : R x words new
  pub stood : Stood rest words new

pub record ReadsAs {A : Type 0} (read : Reader A) (R : A → List (List ℕ) → Rest → Type 0) : Type 0 where
  pub found : (rest : Rest) (x : A) (new : Rest) → read rest ≡ Ok (x, new) → IsClean new → Finds R rest x new

-- the words that a value is spelled by
pub record Spelled {A : Type 0} (read : Reader A) (spell : A → List (List ℕ)) : Type 0 where
  pub found : (rest : Rest) (x : A) (new : Rest) → read rest ≡ Ok (x, new) → IsClean new → Stood rest (spell x) new

-- results

abbrev value_or : {A : Type 0} → A → Result (A × Rest) Reason → A
value_or x (Err reason) = x
value_or x (Ok found) = found.0

abbrev rest_or : {A : Type 0} → Rest → Result (A × Rest) Reason → Rest
rest_or rest (Err reason) = rest
rest_or rest (Ok found) = found.1

abbrev is_read : {A : Type 0} → Result (A × Rest) Reason → Bool
is_read (Err reason) = false
is_read (Ok found) = true

pub same_value : {A : Type 0} (x y : A) (rest new : Rest) → ◌≡◌ {A = Result (A × Rest) Reason} (Ok (x, rest)) (Ok (y, new)) → x ≡ y
same_value x y rest new e = ap (value_or x) e

pub same_rest : {A : Type 0} (x y : A) (rest new : Rest) → ◌≡◌ {A = Result (A × Rest) Reason} (Ok (x, rest)) (Ok (y, new)) → rest ≡ new
same_rest x y rest new e = ap (rest_or rest) e

pub not_read : {A : Type 0} (reason : Reason) (y : A) (new : Rest) → ◌≡◌ {A = Result (A × Rest) Reason} (Err reason) (Ok (y, new)) → ⊥
not_read reason y new e = false≢true (ap is_read e)

-- one reading after another

join_stood : {B : Type 0} (spelling : List (List ℕ)) (R : B → List (List ℕ) → Rest → Type 0) (rest mid new : Rest) (y : B) → (IsClean mid → Stood rest spelling mid) → Finds (λ z words last. R z (spelling ++ words) last) mid y new → Finds R rest y new
join_stood spelling R rest mid new y before after =
    let first = before after.stood.clean in
    record {
      words = spelling ++ after.words;
      holds = after.holds;
      stood = record { clean = first.clean; stood = first.stood ∙ ap (λ words. spelling ++ words) after.stood.stood ∙ sym (append_assoc spelling after.words new.words) };
    }

then_found : {A B : Type 0} (read : Reader A) (spell : A → List (List ℕ)) (next : A → Reader B) (R : B → List (List ℕ) → Rest → Type 0) → Spelled read spell
    → ((x : A) → ReadsAs (next x) (λ y words new. R y (spell x ++ words) new))
    → (rest : Rest) (answer : Result (A × Rest) Reason) → read rest ≡ answer → (y : B) (new : Rest) → then_read next answer ≡ Ok (y, new) → IsClean new → Finds R rest y new
then_found read spell next R first others rest (Err reason) is y new e clean = absurd (not_read reason y new e)
then_found read spell next R first others rest (Ok given) is y new e clean =
    join_stood (spell given.0) R rest given.1 new y (λ mid. first.found rest given.0 given.1 is mid) ((others given.0).found given.1 y new e clean)

pub then-as : {A B : Type 0} {read : Reader A} {spell : A → List (List ℕ)} {next : A → Reader B} {R : B → List (List ℕ) → Rest → Type 0} → Spelled read spell
    → ((x : A) → ReadsAs (next x) (λ y words new. R y (spell x ++ words) new)) → ReadsAs (read >>= next) R
then-as {read = read} {spell = spell} {next = next} {R = R} first others = record { found = λ rest y new e clean. then_found read spell next R first others rest (read rest) refl y new e clean }

given_found : {A : Type 0} (x : A) (R : A → List (List ℕ) → Rest → Type 0) (rest : Rest) (y : A) (new : Rest) → ◌≡◌ {A = Result (A × Rest) Reason} (Ok (x, rest)) (Ok (y, new)) → R x [] rest → IsClean new → Finds R rest y new
given_found x R rest y new e holds clean =
    let same : rest ≡ new = same_rest x y rest new e in
    record {
      words = [];
      holds = subst (λ z. R z [] new) (same_value x y rest new e) (subst (λ last. R x [] last) same holds);
      stood = record { clean = subst IsClean (sym same) clean; stood = ap (λ last. last.words) same };
    }

pub pure-as : {A : Type 0} {x : A} {R : A → List (List ℕ) → Rest → Type 0} → ((rest : Rest) → R x [] rest) → ReadsAs (pure x) R
pure-as {x = x} {R = R} holds = record { found = λ rest y new e clean. given_found x R rest y new e (holds rest) clean }

end_found : {A : Type 0} (x : A) (R : A → List (List ℕ) → Rest → Type 0) → ((rest : Rest) → rest.words ≡ [] → R x [] rest) → (rest : Rest) (words : List (List ℕ)) (in_range : Bool) → rest.words ≡ words
    → (y : A) (new : Rest) → value_at_end_of x words in_range rest ≡ Ok (y, new) → IsClean new → Finds R rest y new
end_found x R holds rest [] true none y new e clean = given_found x R rest y new e (holds rest none) clean
end_found x R holds rest [] false none y new e clean = absurd (not_read _ y new e)
end_found x R holds rest (word ∷ words) in_range none y new e clean = absurd (not_read _ y new e)

-- the line ends here
pub end-as : {A : Type 0} {x : A} {R : A → List (List ℕ) → Rest → Type 0} → ((rest : Rest) → rest.words ≡ [] → R x [] rest) → ReadsAs (value_at_end x) R
end-as {x = x} {R = R} holds = record { found = λ rest y new e clean. end_found x R holds rest rest.words rest.in_range refl y new e clean }

-- a weaker relation holds too
pub weaker-as : {A : Type 0} {read : Reader A} {R S : A → List (List ℕ) → Rest → Type 0} → ReadsAs read R → ((x : A) (words : List (List ℕ)) (new : Rest) → R x words new → S x words new) → ReadsAs read S
weaker-as reads implies = record {
  found = λ rest x new e clean.
      let found = reads.found rest x new e clean in
      record { words = found.words; holds = implies x found.words new found.holds; stood = found.stood };
}

-- a reading whose words are those of its value
pub spelled_as : {A : Type 0} {read : Reader A} (spell : A → List (List ℕ)) → ReadsAs read (λ x words new. words ≡ spell x) → Spelled read spell
spelled_as spell reads = record {
  found = λ rest x new e clean.
      let found = reads.found rest x new e clean in
      record { clean = found.stood.clean; stood = found.stood.stood ∙ ap (λ words. words ++ new.words) found.holds };
}

-- the number of a name that is declared

undeclared_found : {B : Type 0} (next : ℕ → Reader B) (R : B → List (List ℕ) → Rest → Type 0) (number : Option ℕ) → ((n : ℕ) → ReadsAs (next n) (λ y words new. number ≡ Some n → R y words new))
    → (rest : Rest) (y : B) (new : Rest) → (declared_number number >>= next) rest ≡ Ok (y, new) → IsClean new → Finds R rest y new
undeclared_found next R None others rest y new e clean =
    let later = (others 0).found (record { words = rest.words; in_range = rest.in_range; known = false }) y new e clean in
    absurd (false≢true later.stood.clean.known)
undeclared_found next R (Some n) others rest y new e clean =
    let later = (others n).found rest y new e clean in
    record { words = later.words; holds = later.holds refl; stood = later.stood }

pub declared-as : {B : Type 0} {next : ℕ → Reader B} {R : B → List (List ℕ) → Rest → Type 0} {number : Option ℕ} → ((n : ℕ) → ReadsAs (next n) (λ y words new. number ≡ Some n → R y words new)) → ReadsAs (declared_number number >>= next) R
declared-as {next = next} {R = R} {number = number} others = record { found = λ rest y new e clean. undeclared_found next R number others rest y new e clean }

-- a reading whose words are told by a relation, and what comes after it

relate_found : {A B : Type 0} (read : Reader A) (S : A → List (List ℕ) → Type 0) (next : A → Reader B) (R : B → List (List ℕ) → Rest → Type 0) → ReadsAs read (λ x words mid. S x words)
    → ((x : A) → ReadsAs (next x) (λ y words new. (before : List (List ℕ)) → S x before → R y (before ++ words) new))
    → (rest : Rest) (answer : Result (A × Rest) Reason) → read rest ≡ answer → (y : B) (new : Rest) → then_read next answer ≡ Ok (y, new) → IsClean new → Finds R rest y new
relate_found read S next R first others rest (Err reason) is y new e clean = absurd (not_read reason y new e)
relate_found read S next R first others rest (Ok given) is y new e clean =
    let later = (others given.0).found given.1 y new e clean in
    let before = first.found rest given.0 given.1 is later.stood.clean in
    record {
      words = before.words ++ later.words;
      holds = later.holds before.words before.holds;
      stood = record { clean = before.stood.clean; stood = before.stood.stood ∙ ap (λ words. before.words ++ words) later.stood.stood ∙ sym (append_assoc before.words later.words new.words) };
    }

pub relate-as : {A B : Type 0} {read : Reader A} {next : A → Reader B} {R : B → List (List ℕ) → Rest → Type 0} (S : A → List (List ℕ) → Type 0) → ReadsAs read (λ x words mid. S x words)
    → ((x : A) → ReadsAs (next x) (λ y words new. (before : List (List ℕ)) → S x before → R y (before ++ words) new)) → ReadsAs (read >>= next) R
relate-as {read = read} {next = next} {R = R} S first others = record { found = λ rest y new e clean. relate_found read S next R first others rest (read rest) refl y new e clean }

-- a value that is there

value_then : {A B : Type 0} (next : A → Reader B) (R : B → List (List ℕ) → Rest → Type 0) (value : Option A) → ((x : A) → ReadsAs (next x) (λ y words new. value ≡ Some x → R y words new))
    → (rest : Rest) (y : B) (new : Rest) → (spelled_value value >>= next) rest ≡ Ok (y, new) → IsClean new → Finds R rest y new
value_then next R None others rest y new e clean = absurd (not_read _ y new e)
value_then next R (Some x) others rest y new e clean =
    let later = (others x).found rest y new e clean in
    record { words = later.words; holds = later.holds refl; stood = later.stood }

pub value-as : {A B : Type 0} {next : A → Reader B} {R : B → List (List ℕ) → Rest → Type 0} {value : Option A} → ((x : A) → ReadsAs (next x) (λ y words new. value ≡ Some x → R y words new)) → ReadsAs (spelled_value value >>= next) R
value-as {next = next} {R = R} {value = value} others = record { found = λ rest y new e clean. value_then next R value others rest y new e clean }

-- a reading that comes to the line's end had each number in its range

pub record Ends {A : Type 0} (read : Reader A) : Type 0 where
  pub in_range : (rest : Rest) (x : A) (new : Rest) → read rest ≡ Ok (x, new) → new.in_range ≡ true

range_of : {A : Type 0} (x : A) (rest : Rest) (words : List (List ℕ)) (in_range : Bool) → rest.in_range ≡ in_range → (y : A) (new : Rest) → value_at_end_of x words in_range rest ≡ Ok (y, new) → new.in_range ≡ true
range_of x rest [] true is y new e = ap (λ r. r.in_range) (sym (same_rest x y rest new e)) ∙ is
range_of x rest [] false is y new e = absurd (not_read _ y new e)
range_of x rest (word ∷ words) in_range is y new e = absurd (not_read _ y new e)

pub ends-here : {A : Type 0} {x : A} → Ends (value_at_end x)
ends-here {x = x} = record { in_range = λ rest y new e. range_of x rest rest.words rest.in_range refl y new e }

end_then : {A B : Type 0} (next : A → Reader B) → ((x : A) → Ends (next x)) → (answer : Result (A × Rest) Reason) (y : B) (new : Rest) → then_read next answer ≡ Ok (y, new) → new.in_range ≡ true
end_then next others (Err reason) y new e = absurd (not_read reason y new e)
end_then next others (Ok given) y new e = (others given.0).in_range given.1 y new e

pub ends-then : {A B : Type 0} (read : Reader A) {next : A → Reader B} → ((x : A) → Ends (next x)) → Ends (read >>= next)
ends-then read {next = next} others = record { in_range = λ rest y new e. end_then next others (read rest) y new e }

-- readers of one word

pub record WordRead (word spelling : List ℕ) (rest new : Rest) : Type 0 where
  pub clean : IsClean rest
  pub word_is : word ≡ spelling
  pub left : new.words ≡ rest.words

pub record WordSpelled {A : Type 0} (read : List ℕ → Reader A) (spell : A → List ℕ) : Type 0 where
  pub found : (word : List ℕ) (rest : Rest) (x : A) (new : Rest) → read word rest ≡ Ok (x, new) → IsClean new → WordRead word (spell x) rest new

first_found : {A : Type 0} (read : List ℕ → Reader A) (spell : A → List ℕ) → WordSpelled read spell → (words : List (List ℕ)) (rest : Rest) → rest.words ≡ words → (x : A) (new : Rest) → then_read read (first_of words rest) ≡ Ok (x, new) → IsClean new → Stood rest (spell x ∷ []) new
first_found read spell one [] rest is x new e clean = absurd (not_read _ x new e)
first_found read spell one (word ∷ words) rest is x new e clean =
    let found = one.found word (at_words words rest) x new e clean in
    record {
      clean = record { in_range = found.clean.in_range; known = found.clean.known };
      stood = is ∙ ap (λ w. w ∷ words) found.word_is ∙ ap (λ ws. spell x ∷ ws) (sym found.left);
    }

-- the next word, read so
pub word-spelled : {A : Type 0} {read : List ℕ → Reader A} {spell : A → List ℕ} → WordSpelled read spell → Spelled (next_word >>= read) (λ x. spell x ∷ [])
word-spelled {read = read} {spell = spell} one = record { found = λ rest x new e clean. first_found read spell one rest.words rest refl x new e clean }

pub next_word_spelled : Spelled next_word (λ word. word ∷ [])
next_word_spelled = record {
  found = λ rest x new e clean. (word-spelled {read = pure} {spell = λ word. word} (record {
    found = λ word last y later is ends.
        let same : last ≡ later = same_rest word y last later is in
        record { clean = subst IsClean (sym same) ends; word_is = same_value word y last later is; left = ap (λ r. r.words) (sym same) };
  })).found rest x new (next_pure rest.words rest ∙ e) clean;
}
  where
    next_pure : (words : List (List ℕ)) (rest : Rest) → then_read pure (first_of words rest) ≡ first_of words rest
    next_pure [] rest = refl
    next_pure (word ∷ words) rest = refl

value_found : {A : Type 0} (value : Option A) (rest : Rest) (x : A) (new : Rest) → spelled_value value rest ≡ Ok (x, new) → IsClean new → (value ≡ Some x) × IsClean rest × (new.words ≡ rest.words)
value_found None rest x new e clean = absurd (not_read _ x new e)
value_found (Some y) rest x new e clean =
    let same : rest ≡ new = same_rest y x rest new e in
    (ap Some (same_value y x rest new e), subst IsClean (sym same) clean, ap (λ r. r.words) (sym same))

-- a word of a table
pub table-spelled : {A : Type 0} (of : List ℕ → Option A) (spell : A → List ℕ) → ((word : List ℕ) (x : A) → of word ≡ Some x → word ≡ spell x) → WordSpelled (λ word. spelled_value (of word)) spell
table-spelled of spell only = record {
  found = λ word rest x new e clean.
      let found = value_found (of word) rest x new e clean in
      record { clean = found.1; word_is = only word x found.0; left = found.2 };
}

-- lists of words

-- the words of a list stood before what is left
pub record ListStood (rest : Rest) (words spelling : List (List ℕ)) (new : Rest) : Type 0 where
  pub clean : IsClean rest
  pub stood : words ≡ spelling ++ new.words

none_found : {A : Type 0} (spell : A → List ℕ) (words : List (List ℕ)) (rest : Rest) (xs : List A) (new : Rest) → value_with_rest words [] rest ≡ Ok (xs, new) → IsClean new → ListStood rest words (map spell xs) new
none_found spell words rest xs new e clean =
    let same : at_words words rest ≡ new = same_rest [] xs (at_words words rest) new e in
    let before : IsClean (at_words words rest) = subst IsClean (sym same) clean in
    record {
      clean = record { in_range = before.in_range; known = before.known };
      stood = ap (λ r. r.words) same ∙ ap (λ zs. map spell zs ++ new.words) (same_value [] xs (at_words words rest) new e);
    }

more_found : {A : Type 0} (spell : A → List ℕ) (first : A) (words : List (List ℕ)) (mid : Rest) (answer : Result (List A × Rest) Reason)
    → ((ys : List A) (last : Rest) → answer ≡ Ok (ys, last) → IsClean last → ListStood mid words (map spell ys) last)
    → (xs : List A) (new : Rest) → then_read (λ others. pure (first ∷ others)) answer ≡ Ok (xs, new) → IsClean new → ListStood mid (spell first ∷ words) (map spell xs) new
more_found spell first words mid (Err reason) others xs new e clean = absurd (not_read reason xs new e)
more_found spell first words mid (Ok given) others xs new e clean =
    let same : given.1 ≡ new = same_rest (first ∷ given.0) xs given.1 new e in
    let found = others given.0 given.1 refl (subst IsClean (sym same) clean) in
    record {
      clean = found.clean;
      stood = ap (λ ws. spell first ∷ ws) (found.stood ∙ ap (λ r. map spell given.0 ++ r.words) same) ∙ ap (λ zs. map spell zs ++ new.words) (same_value (first ∷ given.0) xs given.1 new e);
    }

item_found : {A : Type 0} (read : List ℕ → Reader A) (spell : A → List ℕ) → WordSpelled read spell → (next : A → Reader (List A)) (word : List ℕ) (words : List (List ℕ))
    → ((first : A) (mid : Rest) (xs : List A) (new : Rest) → next first mid ≡ Ok (xs, new) → IsClean new → ListStood mid (spell first ∷ words) (map spell xs) new)
    → (rest : Rest) (answer : Result (A × Rest) Reason) → read word rest ≡ answer → (xs : List A) (new : Rest) → then_read next answer ≡ Ok (xs, new) → IsClean new → ListStood rest (word ∷ words) (map spell xs) new
item_found read spell one next word words others rest (Err reason) is xs new e clean = absurd (not_read reason xs new e)
item_found read spell one next word words others rest (Ok given) is xs new e clean =
    let later = others given.0 given.1 xs new e clean in
    let first = one.found word rest given.0 given.1 is later.clean in
    record { clean = first.clean; stood = ap (λ w. w ∷ words) first.word_is ∙ later.stood }

stop_if : {A : Type 0} (spell : A → List ℕ) (stop : Bool) (read : Reader (List A)) (words : List (List ℕ)) (rest : Rest)
    → ((xs : List A) (new : Rest) → read rest ≡ Ok (xs, new) → IsClean new → ListStood rest words (map spell xs) new)
    → (xs : List A) (new : Rest) → cond stop (value_with_rest words []) read rest ≡ Ok (xs, new) → IsClean new → ListStood rest words (map spell xs) new
stop_if spell true read words rest others xs new e clean = none_found spell words rest xs new e clean
stop_if spell false read words rest others xs new e clean = others xs new e clean

items_found : {A : Type 0} (stops : List ℕ → Bool) (read : List ℕ → Reader A) (spell : A → List ℕ) → WordSpelled read spell → (words : List (List ℕ)) (rest : Rest) (xs : List A) (new : Rest)
    → items_from stops read words rest ≡ Ok (xs, new) → IsClean new → ListStood rest words (map spell xs) new
items_found stops read spell one [] rest xs new e clean = none_found spell [] rest xs new e clean
items_found stops read spell one (word ∷ words) rest xs new e clean =
    stop_if spell (stops word) (read word >>= (λ first. items_from stops read words >>= (λ others. pure (first ∷ others)))) (word ∷ words) rest (λ ys last is ends.
    item_found read spell one (λ first. items_from stops read words >>= (λ others. pure (first ∷ others))) word words (λ first mid zs end given done.
    more_found spell first words mid (items_from stops read words mid) (λ us final taken finished. items_found stops read spell one words mid us final taken finished) zs end given done) rest (read word rest) refl ys last is ends) xs new e clean

pub items-spelled : {A : Type 0} (stops : List ℕ → Bool) (read : List ℕ → Reader A) (spell : A → List ℕ) → WordSpelled read spell → Spelled (items_to stops read) (map spell)
items-spelled stops read spell one = record {
  found = λ rest xs new e clean.
      let found = items_found stops read spell one rest.words rest xs new e clean in
      record { clean = found.clean; stood = found.stood };
}

-- a word that may stand there

abbrev pub words_if : Bool → List ℕ → List (List ℕ)
words_if true word = word ∷ []
words_if false word = []

optional_if : (keyword word : List ℕ) (words : List (List ℕ)) (same : Bool) (rest : Rest) → bytes_eq word keyword ≡ same → rest.words ≡ word ∷ words → (x : Bool) (new : Rest)
    → cond same (value_with_rest words true) (pure false) rest ≡ Ok (x, new) → IsClean new → Stood rest (words_if x keyword) new
optional_if keyword word words true rest is at x new e clean =
    let same : at_words words rest ≡ new = same_rest true x (at_words words rest) new e in
    let before : IsClean (at_words words rest) = subst IsClean (sym same) clean in
    record {
      clean = record { in_range = before.in_range; known = before.known };
      stood = at ∙ ap (λ w. w ∷ words) ((bytes_eq-Decides word keyword).0 is) ∙ ap (λ r. keyword ∷ r.words) same ∙ ap (λ b. words_if b keyword ++ new.words) (same_value true x (at_words words rest) new e);
    }
optional_if keyword word words false rest is at x new e clean =
    let same : rest ≡ new = same_rest false x rest new e in
    record {
      clean = subst IsClean (sym same) clean;
      stood = ap (λ r. r.words) same ∙ ap (λ b. words_if b keyword ++ new.words) (same_value false x rest new e);
    }

optional_found : (keyword : List ℕ) (words : List (List ℕ)) (rest : Rest) → rest.words ≡ words → (x : Bool) (new : Rest) → optional_word_of keyword words rest ≡ Ok (x, new) → IsClean new → Stood rest (words_if x keyword) new
optional_found keyword [] rest at x new e clean =
    let same : rest ≡ new = same_rest false x rest new e in
    record {
      clean = subst IsClean (sym same) clean;
      stood = ap (λ r. r.words) same ∙ ap (λ b. words_if b keyword ++ new.words) (same_value false x rest new e);
    }
optional_found keyword (word ∷ words) rest at x new e clean = optional_if keyword word words (bytes_eq word keyword) rest refl at x new e clean

pub optional_spelled : (keyword : List ℕ) → Spelled (optional_word keyword) (λ here. words_if here keyword)
optional_spelled keyword = record { found = λ rest x new e clean. optional_found keyword rest.words rest refl x new e clean }
