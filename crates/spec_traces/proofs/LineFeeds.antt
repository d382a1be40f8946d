-- No line feed stands in what a trace writes of an event, nor in its other lines.
use Rattle.std.proofs.Common.{◌≡◌, ℕ, ◌/◌, ◌%◌, ◌==◌, ◌&&◌, ◌||◌, ◌<◌, inl, inr, zero, suc, not, nat_le, Bool, true, false, cond, List, [], ◌∷◌, ◌++◌, length, map, flat_map, filter, find, codes, decimal, Option, Some, None, refl, ap, arith}
use Rattle.std.specs.List.{join_with_byte, list_all, list_any}
use Rattle.std.specs.Fmt.{digit_glyph, digits, digits_onto}
use Rattle.std.proofs.lemmas.Bool.{and_from, and_parts}
use Rattle.std.proofs.lemmas.Bool.Decides.{nat_tests}
use Rattle.line_text.specs.Words.{hex_digit, is_digit, is_letter, is_name, is_name_byte, is_one_line, is_printable, quoted_text}
use Rattle.line_text.specs.Strings.{is_marked, quoted_byte}
use Rattle.dk_base.specs.Words.{errno_name}
use Rattle.dk_base.specs.declared.answer.Answer.TheVariants.{Wait, WaitCall, Done, NewFd, TwoFds, Count, Available, Param, Info, Client, Child, Cancel, Data, Entered, EnteredNotice, EnterFailed, Results, OneEvent, Events, Errors, Failure}
use Rattle.dk_base.specs.declared.error.Errno.TheVariants.{E2BIG}
use Rattle.dk_base.specs.declared.event.What.TheVariants.{Create}
use Rattle.dk_base.specs.declared.object.Src.TheVariants as source
use Rattle.line_forms.specs.Words.{Flag, attribute_flags, attribute_words, is_in_set, poll_flags, poll_word, value_word}
use Rattle.line_forms.specs.Sets.{has_bits, word_or_empty}
use Rattle.line_forms.specs.GreatestNumbers.{greatest_64}
use Rattle.script_lang.specs.Words.{ScriptValue, spells}
use Rattle.spec_requests.specs.Types.{Answer, Attrs, DoorInfo, Errno, Event, EventRec, Fd, Pid, Src, Tid, What}
use Rattle.line_text.specs.Types.{PollSet}
use Rattle.spec_requests.specs.declared.ending.Ending.{Ending}
use Rattle.spec_requests.specs.declared.ending.Ending.TheVariants.{Complete, Stalled, Budget}
use Rattle.spec_requests.specs.AnswerText.{answer_text, attributes_text, entered_text, event_text, fds_text, grown_text, info_text, invocation_text, made_text, plus_joined_words, results_text, source_text, spaced_error, spaced_event, spaced_fd, target_text, yes_text}
use Rattle.spec_requests.specs.DataText.{data_text, digest_text}
use Rattle.work_ops.specs.Words.{digest_of, hex_byte, hex_text}
use Rattle.sha2.specs.Sha256.{sha256}
use Rattle.spec_requests.specs.TraceNames.{procedure_name, thread_name}
use Rattle.spec_requests.specs.TraceText.{end_line_of, ending_word, line_of, spaced_name, waiting_text}
use Rattle.spec_requests.specs.WhatWord.{what_word}
use Rattle.spec_traces.proofs.ScriptNames.{IsNameOrNone, procedure_name_or_none, thread_name_or_none}

-- texts with no line feed

-- a byte that is no line feed
abbrev pub is_no_feed : ℕ → Bool
is_no_feed b = not (b == 10)

-- no byte is a line feed
abbrev pub no_feed : List ℕ → Bool
no_feed bytes = list_all is_no_feed bytes

-- two texts, one after another
pub no_feed_append : (xs ys : List ℕ) → no_feed xs ≡ true → no_feed ys ≡ true → no_feed (xs ++ ys) ≡ true
no_feed_append [] ys h k = k
no_feed_append (x ∷ xs) ys h k =
    let p = and_parts (is_no_feed x) (no_feed xs) h in
    and_from (is_no_feed x) (no_feed (xs ++ ys)) p.0 (no_feed_append xs ys p.1 k)

-- a text for each item
pub no_feed_flat_map : {X : Type 0} (f : X → List ℕ) → ((x : X) → no_feed (f x) ≡ true) → (xs : List X) → no_feed (flat_map f xs) ≡ true
no_feed_flat_map f h [] = refl
no_feed_flat_map f h (x ∷ xs) = no_feed_append (f x) (flat_map f xs) (h x) (no_feed_flat_map f h xs)

-- texts with a byte between each two
pub no_feed_join : (b : ℕ) (words : List (List ℕ)) → is_no_feed b ≡ true → list_all no_feed words ≡ true → no_feed (join_with_byte b words) ≡ true
no_feed_join b [] own h = refl
no_feed_join b (word ∷ []) own h = (and_parts (no_feed word) true h).0
no_feed_join b (word ∷ next ∷ words) own h =
    let p = and_parts (no_feed word) (list_all no_feed (next ∷ words)) h in
    no_feed_append word (b ∷ join_with_byte b (next ∷ words)) p.0
    (and_from (is_no_feed b) (no_feed (join_with_byte b (next ∷ words))) own (no_feed_join b (next ∷ words) own p.1))

line_more : (first rest : Bool) → not first ≡ true → not rest ≡ true → not (first || rest) ≡ true
line_more true rest h k = h
line_more false rest h k = k

-- a text with no line feed is one line
pub one_line : (bytes : List ℕ) → no_feed bytes ≡ true → is_one_line bytes ≡ true
one_line [] h = refl
one_line (b ∷ bytes) h =
    let p = and_parts (is_no_feed b) (no_feed bytes) h in
    line_more (b == 10) (list_any (λ c. c == 10) bytes) p.0 (one_line bytes p.1)

-- bytes of a kind that no line feed has
all_no_feed : (test : ℕ → Bool) → ((b : ℕ) → test b ≡ true → is_no_feed b ≡ true) → (bytes : List ℕ) → list_all test bytes ≡ true →
    no_feed bytes ≡ true
all_no_feed test h [] k = refl
all_no_feed test h (b ∷ bytes) k =
    let p = and_parts (test b) (list_all test bytes) k in
    and_from (is_no_feed b) (no_feed bytes) (h b p.0) (all_no_feed test h bytes p.1)

-- decimal numbers

glyph_is_digit : (d : ℕ) → d < 10 → is_digit (digit_glyph false d) ≡ true
glyph_is_digit d h = grind (arith, nat_tests)

onto_digits : (k n : ℕ) (after : List ℕ) → list_all is_digit after ≡ true → list_all is_digit (digits_onto k 10 false n after) ≡ true
onto_digits zero n after h = h
onto_digits (suc k) n after h =
    let more : list_all is_digit (digit_glyph false (n % 10) ∷ after) ≡ true = and_from _ _ (glyph_is_digit (n % 10) (omega arith)) h in
    one_of (n / 10 == 0) (digit_glyph false (n % 10) ∷ after) _ more (onto_digits k (n / 10) (digit_glyph false (n % 10) ∷ after) more)
  where
    one_of : (b : Bool) (xs ys : List ℕ) → list_all is_digit xs ≡ true → list_all is_digit ys ≡ true → list_all is_digit (cond b xs ys) ≡ true
    one_of true xs ys p q = p
    one_of false xs ys p q = q

-- a number is written in digits alone
pub decimal_digits : (n : ℕ) → list_all is_digit (decimal n) ≡ true
unfolding digits
decimal_digits n = onto_digits 64 n [] refl

some_onto : (k n x : ℕ) (after : List ℕ) → 0 < length (digits_onto k 10 false n (x ∷ after))
some_onto zero n x after = omega arith
some_onto (suc k) n x after =
    one_of (n / 10 == 0) (digit_glyph false (n % 10) ∷ x ∷ after) _ (omega arith) (some_onto k (n / 10) (digit_glyph false (n % 10)) (x ∷ after))
  where
    one_of : (b : Bool) (xs ys : List ℕ) → 0 < length xs → 0 < length ys → 0 < length (cond b xs ys)
    one_of true xs ys p q = p
    one_of false xs ys p q = q

some_digits : (k n : ℕ) → 0 < length (digits_onto (suc k) 10 false n [])
some_digits k n = one_of (n / 10 == 0) (digit_glyph false (n % 10) ∷ []) _ (omega arith) (some_onto k (n / 10) (digit_glyph false (n % 10)) [])
  where
    one_of : (b : Bool) (xs ys : List ℕ) → 0 < length xs → 0 < length ys → 0 < length (cond b xs ys)
    one_of true xs ys p q = p
    one_of false xs ys p q = q

-- a number has a digit
pub decimal_some : (n : ℕ) → 0 < length (decimal n)
unfolding digits
decimal_some n = some_digits 63 n

digit_no_feed : (b : ℕ) → is_digit b ≡ true → is_no_feed b ≡ true
digit_no_feed b h = grind (arith, nat_tests)

-- a number has no line feed
pub decimal_no_feed : (n : ℕ) → no_feed (decimal n) ≡ true
decimal_no_feed n = all_no_feed is_digit digit_no_feed (decimal n) (decimal_digits n)

-- names

name_byte_no_feed : (b : ℕ) → is_name_byte b ≡ true → is_no_feed b ≡ true
name_byte_no_feed b h = grind (arith, nat_tests)

letter_no_feed : (b : ℕ) → is_letter b ≡ true → is_no_feed b ≡ true
letter_no_feed b h = grind (arith, nat_tests)

-- a name has no line feed
pub name_no_feed : (name : List ℕ) → is_name name ≡ true → no_feed name ≡ true
name_no_feed [] h = refl
name_no_feed (b ∷ bytes) h =
    let p = and_parts (is_letter b && nat_le (length bytes) 15) (list_all is_name_byte bytes) h in
    let q = and_parts (is_letter b) (nat_le (length bytes) 15) p.0 in
    and_from (is_no_feed b) (no_feed bytes) (letter_no_feed b q.0) (all_no_feed is_name_byte name_byte_no_feed bytes p.1)

-- strings

hex_no_feed : (n : ℕ) → is_no_feed (hex_digit n) ≡ true
hex_no_feed n = grind (arith, nat_tests)

marked_no_feed : (b : ℕ) → is_marked b ≡ true → is_no_feed b ≡ true
marked_no_feed b h = grind (arith, nat_tests)

printable_no_feed : (b : ℕ) → is_printable b ≡ true → is_no_feed b ≡ true
printable_no_feed b h = grind (arith, nat_tests)

quoted_byte_no_feed : (b : ℕ) → no_feed (quoted_byte b) ≡ true
quoted_byte_no_feed b = by_kind (is_marked b) (is_printable b) refl refl
  where
    hex_pair : (m n : ℕ) → no_feed (92 ∷ 120 ∷ hex_digit m ∷ hex_digit n ∷ []) ≡ true
    hex_pair m n =
        and_from (is_no_feed (hex_digit m)) (no_feed (hex_digit n ∷ [])) (hex_no_feed m)
        (and_from (is_no_feed (hex_digit n)) true (hex_no_feed n) refl)

    by_kind : (marked printable : Bool) → is_marked b ≡ marked → is_printable b ≡ printable →
        no_feed (cond marked (92 ∷ b ∷ []) (cond printable (b ∷ []) (92 ∷ 120 ∷ hex_digit (b / 16) ∷ hex_digit (b % 16) ∷ []))) ≡ true
    by_kind true printable m p = and_from (is_no_feed b) true (marked_no_feed b m) refl
    by_kind false true m p = and_from (is_no_feed b) true (printable_no_feed b p) refl
    by_kind false false m p = hex_pair (b / 16) (b % 16)

-- a string that is written has no line feed
pub quoted_no_feed : (bytes : List ℕ) → no_feed (quoted_text bytes) ≡ true
quoted_no_feed bytes = no_feed_append (flat_map quoted_byte bytes) (34 ∷ []) (no_feed_flat_map quoted_byte quoted_byte_no_feed bytes) refl

-- data

hex_byte_no_feed : (b : ℕ) → no_feed (hex_byte b) ≡ true
hex_byte_no_feed b =
    and_from (is_no_feed (hex_digit (b / 16))) (no_feed (hex_digit (b % 16) ∷ [])) (hex_no_feed (b / 16))
    (and_from (is_no_feed (hex_digit (b % 16))) true (hex_no_feed (b % 16)) refl)

-- bytes in hexadecimal have no line feed
pub hex_text_no_feed : (bytes : List ℕ) → no_feed (hex_text bytes) ≡ true
hex_text_no_feed bytes = no_feed_flat_map hex_byte hex_byte_no_feed bytes

named_digest : (n : ℕ) (digest : List ℕ) → no_feed digest ≡ true → no_feed (codes "sha256:" ++ decimal n ++ codes ":" ++ digest) ≡ true
named_digest n digest h =
    no_feed_append (codes "sha256:" ++ decimal n ++ codes ":") digest
    (no_feed_append (codes "sha256:" ++ decimal n) (codes ":") (no_feed_append (codes "sha256:") (decimal n) refl (decimal_no_feed n)) refl) h

-- data has no line feed
pub data_no_feed : (bytes : List ℕ) → no_feed (data_text bytes) ≡ true
data_no_feed bytes = by_length (nat_le (length bytes) 64)
  where
    by_length : (short : Bool) → no_feed (cond short (quoted_text bytes) (digest_text bytes)) ≡ true
    by_length true = quoted_no_feed bytes
    by_length false = named_digest (length bytes) (digest_of bytes) (hex_text_no_feed (sha256 bytes))

-- words of a fixed list

filtered_words : (test : Flag → Bool) (flags : List Flag) → list_all (λ f. no_feed f.word) flags ≡ true →
    list_all no_feed (map (λ f. f.word) (filter test flags)) ≡ true
filtered_words test [] h = refl
filtered_words test (f ∷ flags) h =
    let p = and_parts (no_feed f.word) (list_all (λ f. no_feed f.word) flags) h in
    by_test (test f) (filtered_words test flags p.1) p.0
  where
    by_test : (kept : Bool) → list_all no_feed (map (λ f. f.word) (filter test flags)) ≡ true → no_feed f.word ≡ true →
        list_all no_feed (map (λ f. f.word) (cond kept (f ∷ filter test flags) (filter test flags))) ≡ true
    by_test true others own = and_from (no_feed f.word) _ own others
    by_test false others own = others

plus_joined : (words : List (List ℕ)) → list_all no_feed words ≡ true → no_feed (plus_joined_words words) ≡ true
plus_joined [] h = refl
plus_joined (word ∷ words) h = no_feed_join 43 (word ∷ words) refl h

-- a set of attributes has no line feed
pub attributes_no_feed : (attributes : Attrs) → no_feed (attributes_text attributes) ≡ true
attributes_no_feed attributes = plus_joined (attribute_words attributes) (filtered_words (is_in_set attributes.0) attribute_flags refl)

found_word : (test : Flag → Bool) (flags : List Flag) → list_all (λ f. no_feed f.word) flags ≡ true → no_feed (word_or_empty (find test flags)) ≡ true
found_word test [] h = refl
found_word test (f ∷ flags) h =
    let p = and_parts (no_feed f.word) (list_all (λ f. no_feed f.word) flags) h in
    by_test (test f) (found_word test flags p.1) p.0
  where
    by_test : (here : Bool) → no_feed (word_or_empty (find test flags)) ≡ true → no_feed f.word ≡ true →
        no_feed (word_or_empty (cond here (Some f) (find test flags))) ≡ true
    by_test true others own = own
    by_test false others own = others

-- a set of events has no line feed
pub poll_no_feed : (set : PollSet) → no_feed (poll_word set) ≡ true
poll_no_feed set = found_word (has_bits set.0) poll_flags refl

-- a value of a parameter has no line feed
pub value_no_feed : (value : ℕ) → no_feed (value_word value) ≡ true
value_no_feed value = by_test (value == greatest_64)
  where
    by_test : (greatest : Bool) → no_feed (cond greatest (codes "max") (decimal value)) ≡ true
    by_test true = refl
    by_test false = decimal_no_feed value

-- the name of an error has no line feed
pub errno_no_feed : (errno : Errno) → no_feed (errno_name errno) ≡ true
errno_no_feed E2BIG = refl
errno_no_feed errno = refl

-- the word of an entry has no line feed
pub what_no_feed : (x : What) → no_feed (what_word x) ≡ true
what_no_feed Create = refl
what_no_feed x = refl

-- answers

-- three texts, one after another
between : (xs middle ys : List ℕ) → no_feed xs ≡ true → no_feed middle ≡ true → no_feed ys ≡ true → no_feed (xs ++ middle ++ ys) ≡ true
between xs middle ys h m k = no_feed_append (xs ++ middle) ys (no_feed_append xs middle h m) k

-- a name, or none, has no line feed
pub named_no_feed : (name : List ℕ) → IsNameOrNone name → no_feed name ≡ true
named_no_feed name (inl is) = name_no_feed name is
named_no_feed name (inr none) = ap no_feed none

spaced_fd_no_feed : (fd : Fd) → no_feed (spaced_fd fd) ≡ true
spaced_fd_no_feed fd = decimal_no_feed fd.0

fds_no_feed : (fds : List Fd) → no_feed (fds_text fds) ≡ true
fds_no_feed [] = refl
fds_no_feed (fd ∷ fds) = no_feed_append (codes " fd") (flat_map spaced_fd (fd ∷ fds)) refl (no_feed_flat_map spaced_fd spaced_fd_no_feed (fd ∷ fds))

grown_no_feed : (grown : Bool) → no_feed (grown_text grown) ≡ true
grown_no_feed true = refl
grown_no_feed false = refl

yes_no_feed : (yes : Bool) → no_feed (yes_text yes) ≡ true
yes_no_feed true = refl
yes_no_feed false = refl

target_no_feed : (target : Option Pid) → no_feed (target_text target) ≡ true
target_no_feed None = refl
target_no_feed (Some process) = decimal_no_feed process.0

-- no procedure's name has a line feed
abbrev pub AreShown : (ℕ → List ℕ) → Type 0
AreShown names = (entry : ℕ) → no_feed (names entry) ≡ true

made_no_feed : (procedure : List ℕ) → no_feed procedure ≡ true → (info : DoorInfo) → no_feed (made_text procedure info) ≡ true
made_no_feed procedure shown info =
    between (codes "ok target " ++ target_text info.target ++ codes " proc " ++ procedure) (codes " cookie ") (decimal info.cookie)
    (between (codes "ok target " ++ target_text info.target) (codes " proc ") procedure (target_no_feed info.target) refl shown)
    refl
    (decimal_no_feed info.cookie)

info_no_feed : (procedure : List ℕ) → no_feed procedure ≡ true → (info : DoorInfo) → no_feed (info_text procedure info) ≡ true
info_no_feed procedure shown info =
    between (made_text procedure info ++ codes " attr " ++ attributes_text info.attrs) (codes " unique ") (decimal info.unique)
    (between (made_text procedure info) (codes " attr ") (attributes_text info.attrs) (made_no_feed procedure shown info) refl
    (attributes_no_feed info.attrs))
    refl
    (decimal_no_feed info.unique)

source_no_feed : (src : Src) (event : EventRec) → no_feed (source_text src event) ≡ true
source_no_feed source.Fd event =
    between (codes "fd:" ++ decimal event.object) (codes ":") (poll_word (record { 0 = event.events })) (decimal_no_feed event.object) refl
    (poll_no_feed (record { 0 = event.events }))
source_no_feed source.User event = decimal_no_feed event.events
source_no_feed source.Alert event = decimal_no_feed event.events
source_no_feed source.Timer event =
    between (codes "timer:" ++ decimal event.object) (codes ":") (decimal event.events) (decimal_no_feed event.object) refl
    (decimal_no_feed event.events)

event_no_feed : (event : EventRec) → no_feed (event_text event) ≡ true
event_no_feed event =
    between (source_text event.source event) (codes ":") (decimal event.user) (source_no_feed event.source event) refl (decimal_no_feed event.user)

error_no_feed : (error : Option Errno) → no_feed (spaced_error error) ≡ true
error_no_feed None = refl
error_no_feed (Some errno) = errno_no_feed errno

invocation_no_feed : (procedure : List ℕ) → no_feed procedure ≡ true → (item : List ℕ) (number cookie : ℕ) → no_feed item ≡ true →
    no_feed (invocation_text procedure item number cookie) ≡ true
invocation_no_feed procedure shown item number cookie h =
    between (codes "enter " ++ item ++ decimal number ++ codes " " ++ procedure) (codes " ") (decimal cookie)
    (between (codes "enter " ++ item ++ decimal number) (codes " ") procedure
    (between (codes "enter ") item (decimal number) refl h (decimal_no_feed number))
    refl
    shown)
    refl
    (decimal_no_feed cookie)

entered_no_feed : (procedure : List ℕ) → no_feed procedure ≡ true → (call cookie : ℕ) (bytes : List ℕ) (fds : List Fd) →
    no_feed (entered_text procedure call cookie bytes fds) ≡ true
entered_no_feed procedure shown call cookie bytes fds =
    no_feed_append (invocation_text procedure (codes "c") call cookie ++ codes " " ++ data_text bytes) (fds_text fds)
    (between (invocation_text procedure (codes "c") call cookie) (codes " ") (data_text bytes)
    (invocation_no_feed procedure shown (codes "c") call cookie refl) refl (data_no_feed bytes))
    (fds_no_feed fds)

results_no_feed : (bytes : List ℕ) (fds : List Fd) (grown : Bool) → no_feed (results_text bytes fds grown) ≡ true
results_no_feed bytes fds grown =
    between (codes "ok " ++ data_text bytes) (fds_text fds) (grown_text grown) (data_no_feed bytes) (fds_no_feed fds) (grown_no_feed grown)

-- no answer has a line feed
pub answer_no_feed : (names : ℕ → List ℕ) → AreShown names → (answer : Answer) → no_feed (answer_text names answer) ≡ true
answer_no_feed names shown Wait = refl
answer_no_feed names shown (WaitCall call) = decimal_no_feed call
answer_no_feed names shown Done = refl
answer_no_feed names shown (NewFd fd) = decimal_no_feed fd.0
answer_no_feed names shown (TwoFds read write) =
    between (codes "ok fd " ++ decimal read.0) (codes " ") (decimal write.0) (decimal_no_feed read.0) refl (decimal_no_feed write.0)
answer_no_feed names shown (Count n) = decimal_no_feed n
answer_no_feed names shown (Available n) = decimal_no_feed n
answer_no_feed names shown (Param value) = value_no_feed value
answer_no_feed names shown (Info info) = info_no_feed (names info.entry) (shown info.entry) info
answer_no_feed names shown (Client process) = decimal_no_feed process.0
answer_no_feed names shown (Child process) = decimal_no_feed process.0
answer_no_feed names shown (Cancel cancelled) = yes_no_feed cancelled
answer_no_feed names shown (Data bytes) = data_no_feed bytes
answer_no_feed names shown (Entered call entry cookie bytes fds) = entered_no_feed (names entry) (shown entry) call cookie bytes fds
answer_no_feed names shown (EnteredNotice notice entry cookie) =
    no_feed_append (invocation_text (names entry) (codes "n") notice cookie) (codes " unref")
    (invocation_no_feed (names entry) (shown entry) (codes "n") notice cookie refl) refl
answer_no_feed names shown (EnterFailed call) = decimal_no_feed call
answer_no_feed names shown (Results bytes fds grown) = results_no_feed bytes fds grown
answer_no_feed names shown (OneEvent event) = event_no_feed event
answer_no_feed names shown (Events events) =
    no_feed_append (codes "ok " ++ decimal (length events)) (flat_map spaced_event events) (decimal_no_feed (length events))
    (no_feed_flat_map spaced_event event_no_feed events)
answer_no_feed names shown (Errors errors) = no_feed_flat_map spaced_error error_no_feed errors
answer_no_feed names shown (Failure errno) = errno_no_feed errno

-- lines

five_words : (a b c d e : List ℕ) → no_feed a ≡ true → no_feed b ≡ true → no_feed c ≡ true → no_feed d ≡ true → no_feed e ≡ true →
    list_all no_feed (a ∷ b ∷ c ∷ d ∷ e ∷ []) ≡ true
five_words a b c d e ha hb hc hd he = rw (ha, hb, hc, hd, he) refl

-- so it is in a script that a text spells
pub entries_shown : (text : List ℕ) (script : ScriptValue) → spells text script → AreShown (procedure_name script)
entries_shown text script s entry = named_no_feed (procedure_name script entry) (procedure_name_or_none text script s entry)

-- what is shown of a thread has no line feed
pub threads_shown : (text : List ℕ) (script : ScriptValue) → spells text script → (t : Tid) → no_feed (thread_name script t) ≡ true
threads_shown text script s t = named_no_feed (thread_name script t) (thread_name_or_none text script s t)

-- an event's line has no line feed
pub event_line_is_one : (text : List ℕ) (script : ScriptValue) → spells text script → (e : Event) → is_one_line (line_of script e) ≡ true
unfolding line_of
event_line_is_one text script s e =
    one_line (line_of script e)
    (no_feed_join 32 (decimal e.number ∷ thread_name script e.thread ∷ thread_name script e.root ∷ what_word e.what ∷ answer_text (procedure_name script) e.answer ∷ []) refl
    (five_words (decimal e.number) (thread_name script e.thread) (thread_name script e.root) (what_word e.what) (answer_text (procedure_name script) e.answer)
    (decimal_no_feed e.number)
    (threads_shown text script s e.thread)
    (threads_shown text script s e.root)
    (what_no_feed e.what)
    (answer_no_feed (procedure_name script) (entries_shown text script s) e.answer)))

ending_no_feed : (ending : Ending) → no_feed (ending_word ending) ≡ true
ending_no_feed Complete = refl
ending_no_feed Stalled = refl
ending_no_feed Budget = refl

waiting_no_feed : (script : ScriptValue) → ((t : Tid) → no_feed (thread_name script t) ≡ true) → (ending : Ending) (waiting : List Tid) →
    no_feed (waiting_text script ending waiting) ≡ true
waiting_no_feed script h Complete waiting = refl
waiting_no_feed script h Stalled waiting = no_feed_flat_map (spaced_name script) h waiting
waiting_no_feed script h Budget waiting = refl

-- the end line has no line feed
pub end_line_is_one : (text : List ℕ) (script : ScriptValue) → spells text script → (ending : Ending) (n : ℕ) (waiting : List Tid) →
    is_one_line (end_line_of script ending n waiting) ≡ true
unfolding end_line_of
end_line_is_one text script s ending n waiting =
    one_line (end_line_of script ending n waiting)
    (no_feed_append (codes "end " ++ ending_word ending ++ codes " " ++ decimal n) (waiting_text script ending waiting)
    (between (codes "end " ++ ending_word ending) (codes " ") (decimal n) (ending_no_feed ending) refl (decimal_no_feed n))
    (waiting_no_feed script (threads_shown text script s) ending waiting))

-- a line `tail N` has no line feed
pub tail_line_is_one : (n : ℕ) → is_one_line (codes "tail " ++ decimal n) ≡ true
tail_line_is_one n = one_line (codes "tail " ++ decimal n) (decimal_no_feed n)
