-- Descriptors to be passed, `rsize`, and the descriptors of `sendn`.
use Rattle.std.proofs.Common.{◌≡◌, ℕ, ◌≤◌, Bool, true, false, cond, ◌&&◌, List, [], ◌∷◌, ◌++◌, length, Ok, refl, ap, sym, ◌∙◌, subst, inl, inr, arith, lit<}
use Rattle.std.specs.Prelude.{bytes_eq, codes, nat_le}
use Rattle.std.specs.List.{list_all}
use Rattle.std.proofs.lemmas.Bool.{and_parts}
use Rattle.std.proofs.lemmas.Bool.Decides.{nat_tests}
use Rattle.std.proofs.lemmas.Slice.Eq.{bytes_eq-Decides}
use Rattle.line_text.specs.Words.{is_word}
use Rattle.line_reader.specs.Types.{FdArg, PassArg}
use Rattle.line_reader.specs.Words.{Rest, fd_from_word, is_at_stop, is_no_stop, is_rsize, items_from, items_to, list_in_range, misspelling, nonempty_list, number, pass_from_word, passes, passes_after, ports, pure, rsize, rsize_after, then_read, value_with_rest, ◌>>=◌}
use Rattle.line_forms.specs.Words.{Each, Ends, Spelling, SpellsFd, SpellsPass, SpellsPassList, SpellsPorts, SpellsRsize, desc_words, greatest_64, pass_word}
use Rattle.line_reader.proofs.SkippedWords.{at_words}
use Rattle.law_lines.proofs.Given.{Clean, same_value, same_rest, no_answer, in_turn, number_given}
use Rattle.law_lines.proofs.DescriptorWords.{number_reader-spelled, fd_found, fd_again, pass_found, pass_again, pass_written, pass_is_word}
use Rattle.law_lines.proofs.DataWords.{GaveAll, ReadAll, reads_words, items_found, items_again, each_written, each_words, each_left}

-- a list's length

pub record IsCounted {A : Type 0} (low high : ℕ) (xs given : List A) (rest new : Rest) : Type 0 where
  pub is : given ≡ xs
  pub same : new ≡ rest
  pub least : low ≤ length xs
  pub most : length xs ≤ high

counted_if : {A : Type 0} (low high : ℕ) (xs : List A) (test : Bool) (rest : Rest) (given : List A) (new : Rest) → (nat_le low (length xs) && nat_le (length xs) high) ≡ test → cond test (pure xs) misspelling rest ≡ Ok (given, new) → IsCounted low high xs given rest new
counted_if low high xs true rest given new is e =
    let parts = and_parts (nat_le low (length xs)) (nat_le (length xs) high) is in
    record { is = sym (same_value e); same = sym (same_rest e); least = holds low (length xs) parts.0; most = holds (length xs) high parts.1 }
  where
    holds : (m n : ℕ) → nat_le m n ≡ true → m ≤ n
    holds m n h = grind (arith, nat_tests)
counted_if low high xs false rest given new is e = absurd (no_answer e)

pub counted_given : {A : Type 0} (low high : ℕ) (xs : List A) (rest : Rest) (given : List A) (new : Rest) → list_in_range low high xs rest ≡ Ok (given, new) → IsCounted low high xs given rest new
counted_given low high xs rest given new e = counted_if low high xs (nat_le low (length xs) && nat_le (length xs) high) rest given new refl e

pub counted_again : {A : Type 0} (low high : ℕ) (xs : List A) (rest : Rest) → low ≤ length xs → length xs ≤ high → list_in_range low high xs rest ≡ Ok (xs, rest)
counted_again low high xs rest least most = ap (λ test. cond test (pure xs) misspelling rest) (within low (length xs) high least most)
  where
    within : (l n h : ℕ) → l ≤ n → n ≤ h → (nat_le l n && nat_le n h) ≡ true
    within l n h p q = grind (arith, nat_tests)

pub at_least_one_given : {A : Type 0} (xs : List A) (rest : Rest) (given : List A) (new : Rest) → nonempty_list xs rest ≡ Ok (given, new) → IsCounted 1 (length xs) xs given rest new
at_least_one_given [] rest given new e = absurd (no_answer e)
at_least_one_given (x ∷ xs) rest given new e = record { is = sym (same_value e); same = sym (same_rest e); least = omega arith; most = omega arith }

pub at_least_one_again : {A : Type 0} (xs : List A) (rest : Rest) → 1 ≤ length xs → nonempty_list xs rest ≡ Ok (xs, rest)
at_least_one_again [] rest some = absurd (omega arith)
at_least_one_again (x ∷ xs) rest some = refl

-- passes

abbrev SpellsPasses : List PassArg → Spelling → Spelling
SpellsPasses xs Next words = SpellsPassList xs Next words

desc_found : (xs : List PassArg) (word : List ℕ) (words : List (List ℕ)) (rest mid new : Rest) → word ≡ codes "desc" → 1 ≤ length xs → length xs ≤ 32 → Clean rest → GaveAll (Each SpellsPass xs) words mid new → GaveAll (SpellsPasses xs) (word ∷ words) rest new
desc_found [] word words rest mid new desc least most clean items = absurd (omega arith)
desc_found (x ∷ xs) word words rest mid new desc least most clean items = record { clean = clean; spells = λ Next next. (most, (desc, items.spells Next next)) }

passes_if : (test : Bool) (word : List ℕ) (words : List (List ℕ)) (in_range known : Bool) (xs : List PassArg) (new : Rest)
    → let rest : Rest = record { words = word ∷ words; in_range = in_range; known = known } in
    bytes_eq word (codes "desc") ≡ test → then_read passes_after (cond test (value_with_rest words true) (pure false) rest) ≡ Ok (xs, new) → Clean new → GaveAll (SpellsPasses xs) (word ∷ words) rest new
passes_if true word words in_range known xs new is e clean =
    let rest : Rest = record { words = word ∷ words; in_range = in_range; known = known } in
    let turn = in_turn (items_to is_rsize pass_from_word) (list_in_range 1 32) (at_words words rest) xs new e in
    let count = counted_given 1 32 turn.x turn.mid xs new turn.then in
    let items = items_found SpellsPass is_rsize pass_from_word pass_found words (at_words words rest) turn.x turn.mid turn.first (subst Clean count.same clean) in
    let same_clean : Clean rest = record { in_range = items.clean.in_range; known = items.clean.known } in
    subst (λ ys. GaveAll (SpellsPasses ys) (word ∷ words) rest new) (sym count.is) (
    subst (λ r. GaveAll (SpellsPasses turn.x) (word ∷ words) rest r) (sym count.same) (
    desc_found turn.x word words rest (at_words words rest) turn.mid ((bytes_eq-Decides word (codes "desc")).0 is) count.least count.most same_clean items))
passes_if false word words in_range known xs new is e clean =
    let rest : Rest = record { words = word ∷ words; in_range = in_range; known = known } in
    let same : rest ≡ new = same_rest e in
    subst (λ ys. GaveAll (SpellsPasses ys) (word ∷ words) rest new) (same_value e) (record {
      clean = subst Clean (sym same) clean;
      spells = λ Next next. subst (λ r. Next r.words) (sym same) next;
    })

passes_at : (words : List (List ℕ)) (in_range known : Bool) (xs : List PassArg) (new : Rest)
    → let rest : Rest = record { words = words; in_range = in_range; known = known } in
    passes rest ≡ Ok (xs, new) → Clean new → GaveAll (SpellsPasses xs) words rest new
passes_at [] in_range known xs new e clean =
    let rest : Rest = record { words = []; in_range = in_range; known = known } in
    let same : rest ≡ new = same_rest e in
    subst (λ ys. GaveAll (SpellsPasses ys) [] rest new) (same_value e) (record {
      clean = subst Clean (sym same) clean;
      spells = λ Next next. subst (λ r. Next r.words) (sym same) next;
    })
passes_at (word ∷ words) in_range known xs new e clean = passes_if (bytes_eq word (codes "desc")) word words in_range known xs new refl e clean

pub passes_found : (rest : Rest) (xs : List PassArg) (new : Rest) → passes rest ≡ Ok (xs, new) → Clean new → GaveAll (SpellsPasses xs) rest.words rest new
passes_found rest xs new e clean = passes_at rest.words rest.in_range rest.known xs new e clean

-- a descriptor to be passed is no `rsize`
no_rsize : (word : List ℕ) (test : Bool) (x : PassArg) → SpellsPass x word → is_rsize word ≡ test → test ≡ false
no_rsize word true x spells is =
    let rest : Rest = record { words = []; in_range = true; known = true } in
    let e : pass_from_word (codes "rsize") rest ≡ Ok (x, rest) = ap (λ w. pass_from_word w rest) (sym ((bytes_eq-Decides word (codes "rsize")).0 is)) ∙ pass_again x word rest spells in
    absurd (no_answer e)
no_rsize word false x spells is = refl

-- `rsize` or nothing follows
abbrev pub rsize_or_end : List (List ℕ) → Bool
rsize_or_end [] = true
rsize_or_end (word ∷ words) = is_rsize word

stops_there : (words : List (List ℕ)) → rsize_or_end words ≡ true → is_at_stop is_rsize words ≡ true
stops_there [] stop = refl
stops_there (word ∷ words) stop = stop

no_desc : (words : List (List ℕ)) (rest : Rest) → rsize_or_end words ≡ true → passes (at_words words rest) ≡ Ok ([], at_words words rest)
no_desc [] rest stop = refl
no_desc (word ∷ words) rest stop =
    let is : word ≡ codes "rsize" = (bytes_eq-Decides word (codes "rsize")).0 stop in
    ap (λ w. then_read passes_after (cond (bytes_eq w (codes "desc")) (value_with_rest words true) (pure false) (at_words (word ∷ words) rest))) is

pub passes_again : (Next : Spelling) → ((words : List (List ℕ)) → Next words → rsize_or_end words ≡ true) → (xs : List PassArg) (words : List (List ℕ)) → SpellsPasses xs Next words → ReadAll (reads_words passes) xs Next words
passes_again Next stop [] words spells = record { left = words; next = spells; reads = λ rest. no_desc words rest (stop words spells) }
passes_again Next stop (x ∷ xs) [] spells = absurd spells.1
passes_again Next stop (x ∷ xs) (word ∷ words) spells =
    let items = items_again SpellsPass is_rsize pass_from_word pass_again (λ y w s. no_rsize w (is_rsize w) y s refl) Next (λ ws next. stops_there ws (stop ws next)) (x ∷ xs) words spells.1.1 in
    record {
      left = items.left;
      next = items.next;
      reads = λ rest.
          ap (λ w. then_read passes_after (cond (bytes_eq w (codes "desc")) (value_with_rest words true) (pure false) (at_words (word ∷ words) rest))) spells.1.0 ∙
          ap (then_read (list_in_range 1 32)) (items.reads (at_words words rest)) ∙
          counted_again 1 32 (x ∷ xs) (at_words items.left rest) (omega arith) spells.0;
    }

pub passes_written : (Next Written : Spelling) (written : List (List ℕ)) → Written written → (xs : List PassArg) (words : List (List ℕ)) → SpellsPasses xs Next words → SpellsPasses xs Written (desc_words xs ++ written)
passes_written Next Written written done [] words spells = done
passes_written Next Written written done (x ∷ xs) [] spells = absurd spells.1
passes_written Next Written written done (x ∷ xs) (word ∷ words) spells =
    (spells.0, (refl, each_written SpellsPass pass_word pass_written Next Written written done (x ∷ xs) words spells.1.1))

pub passes_words : (Next : Spelling) (xs : List PassArg) (words : List (List ℕ)) → SpellsPasses xs Next words → list_all is_word (desc_words xs) ≡ true
passes_words Next [] words spells = refl
passes_words Next (x ∷ xs) [] spells = absurd spells.1
passes_words Next (x ∷ xs) (word ∷ words) spells = each_words SpellsPass pass_word (λ y w s. pass_is_word y (pass_word y) (pass_written y w s)) Next (x ∷ xs) words spells.1.1

pub passes_left : (Next : Spelling) (xs : List PassArg) (words : List (List ℕ)) → SpellsPasses xs Next words → (left : List (List ℕ)) × Next left
passes_left Next [] words spells = (words, spells)
passes_left Next (x ∷ xs) [] spells = absurd spells.1
passes_left Next (x ∷ xs) (word ∷ words) spells = each_left SpellsPass Next (x ∷ xs) words spells.1.1

-- rsize

rsize_number : (word : List ℕ) (words : List (List ℕ)) (rest : Rest) (n : ℕ) (new : Rest) → word ≡ codes "rsize" → number 0 greatest_64 (at_words words rest) ≡ Ok (n, new) → Clean new → GaveAll (SpellsRsize n) (word ∷ words) rest new
rsize_number word [] rest n new is e clean = absurd (no_answer e)
rsize_number word (digits ∷ words) rest n new is e clean =
    let found = number_given 0 greatest_64 digits (at_words words rest) n new (lit< tt) e clean in
    let first_clean : Clean (at_words words rest) = subst Clean found.same clean in
    record {
      clean = record { in_range = first_clean.in_range; known = first_clean.known };
      spells = λ Next next. inr (is, (found.is, subst Next (ap (λ r. r.words) found.same) next));
    }

rsize_if : (test : Bool) (word : List ℕ) (words : List (List ℕ)) (in_range known : Bool) (n : ℕ) (new : Rest)
    → let rest : Rest = record { words = word ∷ words; in_range = in_range; known = known } in
    bytes_eq word (codes "rsize") ≡ test → then_read rsize_after (cond test (value_with_rest words true) (pure false) rest) ≡ Ok (n, new) → Clean new → GaveAll (SpellsRsize n) (word ∷ words) rest new
rsize_if true word words in_range known n new is e clean =
    let rest : Rest = record { words = word ∷ words; in_range = in_range; known = known } in
    rsize_number word words rest n new ((bytes_eq-Decides word (codes "rsize")).0 is) e clean
rsize_if false word words in_range known n new is e clean =
    let rest : Rest = record { words = word ∷ words; in_range = in_range; known = known } in
    let same : rest ≡ new = same_rest e in
    record {
      clean = subst Clean (sym same) clean;
      spells = λ Next next. inl (sym (same_value e), subst (λ r. Next r.words) (sym same) next);
    }

rsize_at : (words : List (List ℕ)) (in_range known : Bool) (n : ℕ) (new : Rest)
    → let rest : Rest = record { words = words; in_range = in_range; known = known } in
    rsize rest ≡ Ok (n, new) → Clean new → GaveAll (SpellsRsize n) words rest new
rsize_at [] in_range known n new e clean =
    let rest : Rest = record { words = []; in_range = in_range; known = known } in
    let same : rest ≡ new = same_rest e in
    record {
      clean = subst Clean (sym same) clean;
      spells = λ Next next. inl (sym (same_value e), subst (λ r. Next r.words) (sym same) next);
    }
rsize_at (word ∷ words) in_range known n new e clean = rsize_if (bytes_eq word (codes "rsize")) word words in_range known n new refl e clean

pub rsize_found : (rest : Rest) (n : ℕ) (new : Rest) → rsize rest ≡ Ok (n, new) → Clean new → GaveAll (SpellsRsize n) rest.words rest new
rsize_found rest n new e clean = rsize_at rest.words rest.in_range rest.known n new e clean

pub rsize_again : (n : ℕ) (words : List (List ℕ)) → SpellsRsize n Ends words → ReadAll (reads_words rsize) n Ends words
rsize_again n words (inl nothing) =
    record { left = []; next = refl; reads = λ rest. ap (λ ws. rsize (at_words ws rest)) nothing.1 ∙ ap (λ m. pure m (at_words [] rest)) (sym nothing.0) }
rsize_again n [] (inr some) = absurd some
rsize_again n (word ∷ []) (inr some) = absurd some.1
rsize_again n (word ∷ digits ∷ words) (inr some) =
    record {
      left = words;
      next = some.1.1;
      reads = λ rest.
          ap (λ w. then_read rsize_after (cond (bytes_eq w (codes "rsize")) (value_with_rest (digits ∷ words) true) (pure false) (at_words (word ∷ digits ∷ words) rest))) some.0 ∙
          number_reader-spelled 0 greatest_64 n digits (at_words words rest) (lit< tt) some.1.0;
    }

-- the rest of a line from `rsize` on follows descriptors to be passed, and both follow data
pub rsize_follows : (n : ℕ) (words : List (List ℕ)) → SpellsRsize n Ends words → rsize_or_end words ≡ true
rsize_follows n words (inl nothing) = ap rsize_or_end nothing.1
rsize_follows n [] (inr some) = refl
rsize_follows n (word ∷ words) (inr some) = ap is_rsize some.0

pub end_follows : (words : List (List ℕ)) → Ends words → rsize_or_end words ≡ true
end_follows words ended = ap rsize_or_end ended

-- ports

ports_at : (words : List (List ℕ)) (rest : Rest) (xs : List FdArg) (new : Rest) → (items_from is_no_stop fd_from_word words >>= list_in_range 1 16) rest ≡ Ok (xs, new) → Clean new → GaveAll (λ Next w. (1 ≤ length xs) × (length xs ≤ 16) × Each SpellsFd xs Next w) words rest new
ports_at words rest xs new e clean =
    let turn = in_turn (items_from is_no_stop fd_from_word words) (list_in_range 1 16) rest xs new e in
    let count = counted_given 1 16 turn.x turn.mid xs new turn.then in
    let items = items_found SpellsFd is_no_stop fd_from_word fd_found words rest turn.x turn.mid turn.first (subst Clean count.same clean) in
    record {
      clean = items.clean;
      spells = λ Next next. (
        subst (λ ys. 1 ≤ length ys) (sym count.is) count.least,
        subst (λ ys. length ys ≤ 16) (sym count.is) count.most,
        subst (λ ys. Each SpellsFd ys Next words) (sym count.is) (items.spells Next (subst (λ r. Next r.words) count.same next)),
      );
    }

pub ports_found : (rest : Rest) (xs : List FdArg) (new : Rest) → ports rest ≡ Ok (xs, new) → Clean new → GaveAll (λ Next w. (1 ≤ length xs) × (length xs ≤ 16) × Each SpellsFd xs Next w) rest.words rest new
ports_found rest xs new e clean = ports_at rest.words rest xs new e clean

stops_at_end : (words : List (List ℕ)) → Ends words → is_at_stop is_no_stop words ≡ true
stops_at_end words ended = ap (is_at_stop is_no_stop) ended

pub ports_again : (xs : List FdArg) (words : List (List ℕ)) → SpellsPorts xs words → ReadAll (reads_words ports) xs Ends words
ports_again xs words spells =
    let items = items_again SpellsFd is_no_stop fd_from_word fd_again (λ y w s. refl) Ends stops_at_end xs words spells.2 in
    record {
      left = items.left;
      next = items.next;
      reads = λ rest. ap (then_read (list_in_range 1 16)) (items.reads (at_words words rest)) ∙ counted_again 1 16 xs (at_words items.left rest) spells.0 spells.1;
    }
