-- The words of descriptors: what is read is spelled, what is spelled is read, and the word that is written spells it.
use Rattle.std.proofs.Common.{◌≡◌, ℕ, ◌<◌, ◌≤◌, ◌^◌, Bool, true, false, cond, ◌==◌, not, List, [], ◌∷◌, ◌++◌, Option, Some, None, Result, Ok, refl, ap, sym, ◌∙◌, subst, inl, inr, arith, append-nil, lit<}
use Rattle.std.specs.Prelude.{option_map, decimal}
use Rattle.std.specs.List.{list_all}
use Rattle.std.proofs.lemmas.Bool.{false≢true, and_parts, or_parts, eqb-true}
use Rattle.std.proofs.lemmas.Bool.Decides.{nat_tests}
use Rattle.std.proofs.lemmas.List.Folds.{list_all-append, list_any-append}
use Rattle.line_text.specs.Words.{SpellsNumber, is_decimal, is_digit, is_name, is_plain, is_plain_byte, is_word, part_before_last, parts_at}
use Rattle.line_text.proofs.DecimalWords.{number_spelled, is_decimal-decimal, is_plain-decimal}
use Rattle.line_text.proofs.Digits.{digits_of_decimal}
use Rattle.line_text.proofs.JoinedWords.{is_word-plain}
use Rattle.line_text.proofs.PartWords.{has, parts_again, parts_none, parts_found, front_again, front_found, name_lacks, is_plain-name}
use Rattle.line_reader.specs.Types.{FdArg, PassArg, Reason}
use Rattle.line_forms.specs.declared.line.FdArg.TheVariants.{Number as NumberFd, Of as OfFd}
use Rattle.line_reader.specs.Words.{Rest, descriptor_number, fd_from_word, misspelling, name_from_word, number_from_word, number_reader, pass_arg, pass_from_word, pass_parts, pure, then_read, variable_parts, ◌>>=◌}
use Rattle.line_forms.specs.Words.{SpellsFd, SpellsPass, fd_word, pass_word, release_mark, variable_word}
use Rattle.law_lines.proofs.Given.{Clean, same_value, same_rest, no_answer, in_turn, name_given, number_given}

-- a word gave this, and nothing else of the line was read
pub record Gave {A : Type 0} (Spells : A → List ℕ → Type 0) (x : A) (word : List ℕ) (rest new : Rest) : Type 0 where
  pub spells : Spells x word
  pub same : new ≡ rest

-- what is read is spelled

whole_variable : (b : ℕ) (word : List ℕ) (rest : Rest) (fd : FdArg) (new : Rest) → b ≡ 36 → variable_parts word None rest ≡ Ok (fd, new) → Gave SpellsFd fd (b ∷ word) rest new
whole_variable b word rest fd new sign e =
    let turn = in_turn (name_from_word word) (λ variable. pure (OfFd variable 0)) rest fd new e in
    let name = name_given word rest turn.x turn.mid turn.first in
    let is : OfFd turn.x 0 ≡ fd = same_value turn.then in
    let named : is_name turn.x ≡ true = ap is_name name.is ∙ name.named in
    subst (λ f. Gave SpellsFd f (b ∷ word) rest new) is (record {
      spells = inl (refl, (named, ap (λ c. c ∷ word) sign ∙ ap (λ bs. 36 ∷ bs) (sym name.is)));
      same = sym (same_rest turn.then) ∙ name.same;
    })

indexed_variable : (b : ℕ) (word : List ℕ) (parts : List ℕ × List ℕ) (rest : Rest) (fd : FdArg) (new : Rest) → b ≡ 36 → parts_at 46 word ≡ Some parts → variable_parts word (Some parts) rest ≡ Ok (fd, new) → Clean new
    → Gave SpellsFd fd (b ∷ word) rest new
indexed_variable b word parts rest fd new sign parted e clean =
    let turn = in_turn (name_from_word parts.0) (λ variable. number_from_word 0 15 parts.1 >>= (λ k. pure (OfFd variable k))) rest fd new e in
    let name = name_given parts.0 rest turn.x turn.mid turn.first in
    let index = in_turn (number_from_word 0 15 parts.1) (λ k. pure (OfFd turn.x k)) turn.mid fd new turn.then in
    let last : index.mid ≡ new = same_rest index.then in
    let number = number_given 0 15 parts.1 turn.mid index.x index.mid (lit< tt) index.first (subst Clean (sym last) clean) in
    let is : OfFd turn.x index.x ≡ fd = same_value index.then in
    let named : is_name turn.x ≡ true = ap is_name name.is ∙ name.named in
    let whole = (parts_found 46 word parts parted).put_together in
    subst (λ f. Gave SpellsFd f (b ∷ word) rest new) is (record {
      spells = inr (named, number.is.1, ap (λ c. c ∷ word) sign ∙ ap (λ bs. 36 ∷ bs) (whole ∙ ap (λ bs. bs ++ 46 ∷ parts.1) (sym name.is) ∙ ap (λ bs. turn.x ++ 46 ∷ bs) number.is.2));
      same = sym last ∙ number.same ∙ name.same;
    })

variable_found : (b : ℕ) (word : List ℕ) (parts : Option (List ℕ × List ℕ)) (rest : Rest) (fd : FdArg) (new : Rest) → b ≡ 36 → parts_at 46 word ≡ parts → variable_parts word parts rest ≡ Ok (fd, new) → Clean new
    → Gave SpellsFd fd (b ∷ word) rest new
variable_found b word None rest fd new sign parted e clean = whole_variable b word rest fd new sign e
variable_found b word (Some parts) rest fd new sign parted e clean = indexed_variable b word parts rest fd new sign parted e clean

number_found : (word : List ℕ) (rest : Rest) (fd : FdArg) (new : Rest) → descriptor_number word rest ≡ Ok (fd, new) → Clean new → Gave SpellsFd fd word rest new
number_found word rest fd new e clean =
    let turn = in_turn (number_from_word 0 255 word) (λ n. pure (NumberFd n)) rest fd new e in
    let last : turn.mid ≡ new = same_rest turn.then in
    let number = number_given 0 255 word rest turn.x turn.mid (lit< tt) turn.first (subst Clean (sym last) clean) in
    subst (λ f. Gave SpellsFd f word rest new) (same_value turn.then) (record { spells = number.is; same = sym last ∙ number.same })

fd_if : (test : Bool) (b : ℕ) (word : List ℕ) (rest : Rest) (fd : FdArg) (new : Rest) → (b == 36) ≡ test → cond test (variable_parts word (parts_at 46 word)) (descriptor_number (b ∷ word)) rest ≡ Ok (fd, new) → Clean new
    → Gave SpellsFd fd (b ∷ word) rest new
fd_if true b word rest fd new is e clean = variable_found b word (parts_at 46 word) rest fd new (eqb-true b 36 is) refl e clean
fd_if false b word rest fd new is e clean = number_found (b ∷ word) rest fd new e clean

pub fd_found : (word : List ℕ) (rest : Rest) (fd : FdArg) (new : Rest) → fd_from_word word rest ≡ Ok (fd, new) → Clean new → Gave SpellsFd fd word rest new
fd_found [] rest fd new e clean = absurd (no_answer e)
fd_found (b ∷ word) rest fd new e clean = fd_if (b == 36) b word rest fd new refl e clean

-- what is spelled is read

digit_is_no_sign : (b : ℕ) → is_digit b ≡ true → (b == 36) ≡ false
digit_is_no_sign b h = grind (arith, nat_tests)

pub number_reader-spelled : (low high n : ℕ) (word : List ℕ) (rest : Rest) → high < 2 ^ 64 → SpellsNumber low high n word → number_from_word low high word rest ≡ Ok (n, rest)
number_reader-spelled low high n word rest small spells = ap (λ number. number_reader number rest) (number_spelled low high n word small spells)

pub name_read-spelled : (name : List ℕ) (rest : Rest) → is_name name ≡ true → name_from_word name rest ≡ Ok (name, rest)
name_read-spelled name rest named = ap (λ test. cond test (pure name) misspelling rest) named

number_again : (n : ℕ) (word : List ℕ) (rest : Rest) → SpellsNumber 0 255 n word → is_decimal word ≡ true → fd_from_word word rest ≡ Ok (NumberFd n, rest)
number_again n [] rest spells decimal = absurd (false≢true decimal)
number_again n (b ∷ word) rest spells decimal =
    let digit = (and_parts (is_digit b) (list_all is_digit word) (digits_of_decimal (b ∷ word) decimal)).0 in
    ap (λ test. cond test (variable_parts word (parts_at 46 word)) (descriptor_number (b ∷ word)) rest) (digit_is_no_sign b digit) ∙
    ap (then_read (λ m. pure (NumberFd m))) (number_reader-spelled 0 255 n (b ∷ word) rest (lit< tt) spells)

whole_again : (variable : List ℕ) (rest : Rest) → is_name variable ≡ true → fd_from_word (36 ∷ variable) rest ≡ Ok (OfFd variable 0, rest)
whole_again variable rest named =
    ap (λ parts. variable_parts variable parts rest) (parts_none 46 variable (name_lacks 46 variable refl named)) ∙
    ap (then_read (λ v. pure (OfFd v 0))) (name_read-spelled variable rest named)

indexed_again : (variable : List ℕ) (k : ℕ) (rest : Rest) → is_name variable ≡ true → k ≤ 15 → fd_from_word (36 ∷ variable ++ 46 ∷ decimal k) rest ≡ Ok (OfFd variable k, rest)
indexed_again variable k rest named small =
    ap (λ parts. variable_parts (variable ++ 46 ∷ decimal k) parts rest) (parts_again 46 variable (decimal k) (name_lacks 46 variable refl named)) ∙
    ap (then_read (λ v. number_from_word 0 15 (decimal k) >>= (λ n. pure (OfFd v n)))) (name_read-spelled variable rest named) ∙
    ap (then_read (λ n. pure (OfFd variable n))) (number_reader-spelled 0 15 k (decimal k) rest (lit< tt) (omega arith, small, refl))

abbrev fd_given : ℕ → List ℕ → Rest → Result (FdArg × Rest) Reason
fd_given k variable rest = Ok (OfFd variable k, rest)

pub fd_again : (fd : FdArg) (word : List ℕ) (rest : Rest) → SpellsFd fd word → fd_from_word word rest ≡ Ok (fd, rest)
fd_again (NumberFd n) word rest spells = number_again n word rest spells (rw spells.2 (is_decimal-decimal n (omega arith)))
fd_again (OfFd variable k) word rest (inl whole) =
    ap (λ w. fd_from_word w rest) whole.1.1 ∙ whole_again variable rest whole.1.0 ∙ ap (λ n. fd_given n variable rest) (sym whole.0)
fd_again (OfFd variable k) word rest (inr indexed) =
    ap (λ w. fd_from_word w rest) indexed.2 ∙ indexed_again variable k rest indexed.0 indexed.1

-- the word that is written

written_variable : (test : Bool) (variable : List ℕ) (k : ℕ) → (k == 0) ≡ test → is_name variable ≡ true → k ≤ 15 → SpellsFd (OfFd variable k) (cond test (variable_word variable) (variable_word variable ++ 46 ∷ decimal k))
written_variable true variable k is named small = inl (eqb-true k 0 is, (named, refl))
written_variable false variable k is named small = inr (named, small, refl)

pub fd_written : (fd : FdArg) (word : List ℕ) → SpellsFd fd word → SpellsFd fd (fd_word fd)
fd_written (NumberFd n) word spells = (spells.0, spells.1, refl)
fd_written (OfFd variable k) word (inl whole) = written_variable (k == 0) variable k refl whole.1.0 (omega arith)
fd_written (OfFd variable k) word (inr indexed) = written_variable (k == 0) variable k refl indexed.0 indexed.1

-- words

plain_bytes : (word : List ℕ) → is_plain word ≡ true → list_all is_plain_byte word ≡ true
plain_bytes [] plain = absurd (false≢true plain)
plain_bytes (b ∷ word) plain = (and_parts (not (b == 34)) (list_all is_plain_byte (b ∷ word)) plain).1

pub plain_append : (word others : List ℕ) → is_plain word ≡ true → list_all is_plain_byte others ≡ true → is_plain (word ++ others) ≡ true
plain_append [] others plain more = absurd (false≢true plain)
plain_append (b ∷ word) others plain more =
    let parts = and_parts (not (b == 34)) (list_all is_plain_byte (b ∷ word)) plain in
    rw (parts.0, list_all-append is_plain_byte (b ∷ word) others) (rw (parts.1, more) refl)

pub plain_variable : (variable : List ℕ) → is_name variable ≡ true → is_plain (variable_word variable) ≡ true
plain_variable variable named = plain_bytes variable (is_plain-name variable named)

pub plain_after : (mark n : ℕ) → is_plain_byte mark ≡ true → n < 2 ^ 64 → list_all is_plain_byte (mark ∷ decimal n) ≡ true
plain_after mark n plain small = rw (plain, plain_bytes (decimal n) (is_plain-decimal n small)) refl

plain_spelled : (fd : FdArg) (word : List ℕ) → SpellsFd fd word → is_plain word ≡ true
plain_spelled (NumberFd n) word spells = rw spells.2 (is_plain-decimal n (omega arith))
plain_spelled (OfFd variable k) word (inl whole) = rw whole.1.1 (plain_variable variable whole.1.0)
plain_spelled (OfFd variable k) word (inr indexed) =
    rw indexed.2 (plain_append (variable_word variable) (46 ∷ decimal k) (plain_variable variable indexed.0) (plain_after 46 k refl (omega arith)))

pub fd_is_word : (fd : FdArg) (word : List ℕ) → SpellsFd fd word → is_word word ≡ true
fd_is_word fd word spells = is_word-plain word (plain_spelled fd word spells)

-- descriptors to be passed

pass_whole : (word : List ℕ) (rest : Rest) (pass : PassArg) (new : Rest) → pass_parts word None rest ≡ Ok (pass, new) → Clean new → Gave SpellsPass pass word rest new
pass_whole word rest pass new e clean =
    let turn = in_turn (fd_from_word word) (λ fd. pure (pass_arg fd false)) rest pass new e in
    let last : turn.mid ≡ new = same_rest turn.then in
    let fd = fd_found word rest turn.x turn.mid turn.first (subst Clean (sym last) clean) in
    subst (λ p. Gave SpellsPass p word rest new) (same_value turn.then) (record {
      spells = record { front = word; spells_fd = fd.spells; marked = sym (append-nil word) };
      same = sym last ∙ fd.same;
    })

pass_marked : (word front : List ℕ) (rest : Rest) (pass : PassArg) (new : Rest) → part_before_last 33 word ≡ Some front → pass_parts word (Some front) rest ≡ Ok (pass, new) → Clean new → Gave SpellsPass pass word rest new
pass_marked word front rest pass new marked e clean =
    let turn = in_turn (fd_from_word front) (λ fd. pure (pass_arg fd true)) rest pass new e in
    let last : turn.mid ≡ new = same_rest turn.then in
    let fd = fd_found front rest turn.x turn.mid turn.first (subst Clean (sym last) clean) in
    subst (λ p. Gave SpellsPass p word rest new) (same_value turn.then) (record {
      spells = record { front = front; spells_fd = fd.spells; marked = front_found 33 word front marked };
      same = sym last ∙ fd.same;
    })

pass_by : (front : Option (List ℕ)) (word : List ℕ) (rest : Rest) (pass : PassArg) (new : Rest) → part_before_last 33 word ≡ front → pass_parts word front rest ≡ Ok (pass, new) → Clean new → Gave SpellsPass pass word rest new
pass_by None word rest pass new marked e clean = pass_whole word rest pass new e clean
pass_by (Some front) word rest pass new marked e clean = pass_marked word front rest pass new marked e clean

pub pass_found : (word : List ℕ) (rest : Rest) (pass : PassArg) (new : Rest) → pass_from_word word rest ≡ Ok (pass, new) → Clean new → Gave SpellsPass pass word rest new
pass_found word rest pass new e clean = pass_by (part_before_last 33 word) word rest pass new refl e clean

-- a word that lacks a byte does not end with it
last_lacks : (mark : ℕ) (word : List ℕ) → has mark word ≡ false → part_before_last mark word ≡ None
last_lacks mark [] lacks = refl
last_lacks mark (b ∷ []) lacks = let parts = or_parts (b == mark) false lacks in rw parts.0 refl
last_lacks mark (b ∷ c ∷ word) lacks =
    let parts = or_parts (b == mark) (has mark (c ∷ word)) lacks in
    ap (option_map (λ rest. b ∷ rest)) (last_lacks mark (c ∷ word) parts.1)

digit_lacks : (b : ℕ) → is_digit b ≡ true → (b == 33) ≡ false
digit_lacks b h = grind (arith, nat_tests)

digits_lack : (digits : List ℕ) → list_all is_digit digits ≡ true → has 33 digits ≡ false
digits_lack [] digits = refl
digits_lack (b ∷ others) digits =
    let parts = and_parts (is_digit b) (list_all is_digit others) digits in
    rw (digit_lacks b parts.0, digits_lack others parts.1) refl

decimal_lacks : (n : ℕ) → n < 2 ^ 64 → has 33 (decimal n) ≡ false
decimal_lacks n small = digits_lack (decimal n) (digits_of_decimal (decimal n) (is_decimal-decimal n small))

fd_lacks : (fd : FdArg) (word : List ℕ) → SpellsFd fd word → has 33 word ≡ false
fd_lacks (NumberFd n) word spells = rw spells.2 (decimal_lacks n (omega arith))
fd_lacks (OfFd variable k) word (inl whole) = rw whole.1.1 (name_lacks 33 variable refl whole.1.0)
fd_lacks (OfFd variable k) word (inr indexed) =
    rw (indexed.2, list_any-append (λ b. b == 33) (36 ∷ variable) (46 ∷ decimal k)) (rw (name_lacks 33 variable refl indexed.0, decimal_lacks k (omega arith)) refl)

pass_again_with : (fd : FdArg) (release : Bool) (front : List ℕ) (rest : Rest) → SpellsFd fd front → pass_from_word (front ++ release_mark release) rest ≡ Ok (pass_arg fd release, rest)
pass_again_with fd true front rest spells =
    ap (λ parts. pass_parts (front ++ 33 ∷ []) parts rest) (front_again 33 front) ∙ ap (then_read (λ f. pure (pass_arg f true))) (fd_again fd front rest spells)
pass_again_with fd false front rest spells =
    ap (λ word. pass_from_word word rest) (append-nil front) ∙
    ap (λ parts. pass_parts front parts rest) (last_lacks 33 front (fd_lacks fd front spells)) ∙
    ap (then_read (λ f. pure (pass_arg f false))) (fd_again fd front rest spells)

pub pass_again : (pass : PassArg) (word : List ℕ) (rest : Rest) → SpellsPass pass word → pass_from_word word rest ≡ Ok (pass, rest)
pass_again pass word rest spells = ap (λ w. pass_from_word w rest) spells.marked ∙ pass_again_with pass.fd pass.release spells.front rest spells.spells_fd

pub pass_written : (pass : PassArg) (word : List ℕ) → SpellsPass pass word → SpellsPass pass (pass_word pass)
pass_written pass word spells = record { front = fd_word pass.fd; spells_fd = fd_written pass.fd spells.front spells.spells_fd; marked = refl }

plain_pass : (fd : FdArg) (release : Bool) (front : List ℕ) → SpellsFd fd front → is_plain (front ++ release_mark release) ≡ true
plain_pass fd true front spells = plain_append front (33 ∷ []) (plain_spelled fd front spells) refl
plain_pass fd false front spells = plain_append front [] (plain_spelled fd front spells) refl

pub pass_is_word : (pass : PassArg) (word : List ℕ) → SpellsPass pass word → is_word word ≡ true
pass_is_word pass word spells = rw spells.marked (is_word-plain (spells.front ++ release_mark pass.release) (plain_pass pass.fd pass.release spells.front spells.spells_fd))
