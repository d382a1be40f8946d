-- The lines that a reading found.
use Rattle.std.proofs.Common.{◌≡◌, ℕ, Bool, true, false, cond, List, [], ◌∷◌, ◌++◌, Option, Some, None, Ok, refl, ap, sym, ◌∙◌, subst, append-nil, arith}
use Rattle.std.proofs.lemmas.Bool.{false≢true}
use Rattle.std.proofs.lemmas.Slice.Eq.{bytes_eq-Decides}
use Rattle.std.specs.Prelude.{◌||◌, codes, decimal, flat_map, is_some, map, option_and_then, option_map, slice_get, unwrap_or}
use Rattle.dk_base.specs.ByNumber.{at_number}
use Rattle.dk_base.specs.declared.limits.TheConstants.{DESCRIPTORS_MAX}
use Rattle.line_reader.specs.Combinators.{Reader, Rest, declared_number, misspelling, next_word, nonempty_list, pure, spelled_value, value_with_rest, ◌>>=◌}
use Rattle.line_reader.specs.Operands.{is_no_stop, name, name_from_word, number, pid}
use Rattle.line_forms.proofs.Numbering.{no_value, same_some}
use Rattle.spec_requests.specs.Words.{what_word}
use Rattle.line_text.specs.Words.{is_name}
use Rattle.history_text.specs.declared.line.Ending.TheVariants.{Complete, Stalled, Open}
use Rattle.history_text.specs.declared.line.Line.TheVariants.{Name}
use Rattle.history_text.specs.declared.place.Kind.TheVariants as kind
use Rattle.history_text.specs.Types.{Ending, Kind, Line, Member, NamedProcess, Pid, Tid, What}
use Rattle.history_text.specs.Names.{Names, name_now, process_name}
use Rattle.history_text.specs.Lookups.{is_name_of, parent_of, process_of, process_word, thread_word, used_process_number, was_process_called}
use Rattle.history_text.specs.LineWords.{answer_part, asked_words, ending_word, line_words, member_words}
use Rattle.history_text.specs.Kinds.{kind_word}
use Rattle.history_text.specs.Declarations.{child_line, end_line, ending_of, for_each_member, if_child, if_has_parent, is_spare_of, member_called, member_of, members, members_of, name_line, path_line, procedure_line, process_line, waiting_after, with_member}
use Rattle.history_text.specs.Events.{event_line}
use Rattle.history_text.specs.Faults.{has_given_name, is_twice}
use Rattle.history_text.specs.LineWords.{member_kind}
use Rattle.history_text.specs.Operands.{names_to_end, number_64, process, string, the_word, thread}
use Rattle.history_text.specs.Requests.{asked_with}
use Rattle.history_text.specs.declared.limits.TheConstants.{PATH_TEXT_MAX}
use Rattle.history_text.specs.Reading.{line_of_words}
use Rattle.history_text.proofs.Found.{IsClean, ReadsAs, Spelled, Stood, declared-as, end-as, ends-here, ends-then, Ends, value-as, items-spelled, next_word_spelled, not_read, pure-as, relate-as, same_rest, same_value, spelled_as, then-as, weaker-as}
use Rattle.history_text.proofs.FoundNames.{number_passes, process_spelled, thread_spelled, thread_word_spelled}
use Rattle.history_text.proofs.FoundOperands.{name_spelled, name_word, number_64_spelled, number_spelled, string_spelled, the_word_spelled, word_of_value}
use Rattle.history_text.proofs.FoundRequests.{asked_found}

-- the words of a line were these, unless it declares something again, and no word is left
pub record IsWritten (names : Names) (line : Line) (words : List (List ℕ)) (new : Rest) : Type 0 where
  pub written : is_twice names line ≡ false → line_words names line ≡ words
  pub ended : new.words ≡ []
  pub plain : answer_part line ≡ []

-- members

member_if : (test : Bool) (kind word : List ℕ) (spare : Bool) (member : Member) → kind ≡ member_kind spare → cond test (Some (record { spare = spare; name = word })) None ≡ Some member → kind ∷ word ∷ [] ≡ member_words member
member_if true kind word spare member is e = ap (λ k. k ∷ word ∷ []) is ∙ ap member_words (same_some e)
member_if false kind word spare member is e = absurd (no_value e)

member_found : (kind word : List ℕ) (spare : Option Bool) → is_spare_of kind ≡ spare → (member : Member) → option_and_then (member_called word) spare ≡ Some member → kind ∷ word ∷ [] ≡ member_words member
member_found kind word None is member e = absurd (no_value e)
member_found kind word (Some spare) is member e = member_if (is_name word) kind word spare member (word_of_value member_kind (false ∷ true ∷ []) kind spare is) e

others_found : (member : Member) (others : Option (List Member)) (all : List Member) (words : List (List ℕ)) → ((ms : List Member) → others ≡ Some ms → words ≡ flat_map member_words ms)
    → with_member others member ≡ Some all → member_words member ++ words ≡ flat_map member_words all
others_found member None all words later e = absurd (no_value e)
others_found member (Some ms) all words later e = ap (λ ws. member_words member ++ ws) (later ms refl) ∙ ap (flat_map member_words) (same_some e)

two_found : (kind word : List ℕ) (words : List (List ℕ)) (member : Option Member) → member_of kind word ≡ member → (all : List Member) → ((ms : List Member) → members_of words ≡ Some ms → words ≡ flat_map member_words ms)
    → option_and_then (with_member (members_of words)) member ≡ Some all → kind ∷ word ∷ words ≡ flat_map member_words all
two_found kind word words None is all later e = absurd (no_value e)
two_found kind word words (Some member) is all later e =
    ap (λ ws. ws ++ words) (member_found kind word (is_spare_of kind) refl member is) ∙ others_found member (members_of words) all words later e

members_found : (words : List (List ℕ)) (all : List Member) → members_of words ≡ Some all → words ≡ flat_map member_words all
members_found [] all e = ap (flat_map member_words) (same_some e)
members_found (kind ∷ []) all e = absurd (no_value e)
members_found (kind ∷ word ∷ words) all e = two_found kind word words (member_of kind word) refl all (λ ms is. members_found words ms is) e

all_found : (found : Option (List Member)) (rest : Rest) → members_of rest.words ≡ found → (x : List Member) (new : Rest) → (spelled_value found >>= value_with_rest []) rest ≡ Ok (x, new) → IsClean new → Stood rest (flat_map member_words x) new
all_found None rest is x new e clean = absurd (not_read _ x new e)
all_found (Some ms) rest is x new e clean =
    let after : Rest = record { words = []; in_range = rest.in_range; known = rest.known } in
    let same : after ≡ new = same_rest ms x after new e in
    let before : IsClean after = subst IsClean (sym same) clean in
    record {
      clean = record { in_range = before.in_range; known = before.known };
      stood = members_found rest.words ms is ∙ sym (append-nil (flat_map member_words ms)) ∙ ap (λ r. flat_map member_words ms ++ r.words) same ∙ ap (λ zs. flat_map member_words zs ++ new.words) (same_value ms x after new e);
    }

members_spelled : Spelled members (flat_map member_words)
members_spelled = record { found = λ rest x new e clean. all_found (members_of rest.words) rest refl x new e clean }

-- declarations

process_found : (names : Names) → ReadsAs process_line (λ line words new. IsWritten names line (codes "process" ∷ words) new)
process_found names = then-as name_spelled (λ called. then-as (the_word_spelled (codes "limit")) (λ here. then-as (number_spelled 0 DESCRIPTORS_MAX (omega arith)) (λ limit. then-as members_spelled (λ with. end-as (λ rest ended.
    record { written = λ once. ap (λ ws. codes "process" ∷ called ∷ codes "limit" ∷ decimal limit ∷ ws) (sym (append-nil (flat_map member_words with))); ended = ended; plain = refl })))))

child_found : (names : Names) → ReadsAs (child_line names) (λ line words new. IsWritten names line (codes "child" ∷ words) new)
child_found names = then-as name_spelled (λ called. then-as (the_word_spelled (codes "of")) (λ here. then-as (process_spelled names) (λ parent. then-as members_spelled (λ with. end-as (λ rest ended.
    record { written = λ once. ap (λ ws. codes "child" ∷ called ∷ codes "of" ∷ process_word names parent ∷ ws) (sym (append-nil (flat_map member_words with))); ended = ended; plain = refl })))))

procedure_found : (names : Names) → ReadsAs (procedure_line names) (λ line words new. IsWritten names line (codes "proc" ∷ words) new)
procedure_found names = then-as name_spelled (λ called. then-as (the_word_spelled (codes "of")) (λ here. then-as (process_spelled names) (λ of. end-as (λ rest ended. record { written = λ once. refl; ended = ended; plain = refl }))))

path_found : (names : Names) → ReadsAs path_line (λ line words new. IsWritten names line (codes "path" ∷ words) new)
path_found names = then-as name_spelled (λ called. then-as (string_spelled 1 _) (λ text. end-as (λ rest ended. record { written = λ once. refl; ended = ended; plain = refl })))

-- new names

-- a process that was called so, and that no line gave another name, is called so
still_called : (called declared : List ℕ) (given : Option (List ℕ)) → is_some given ≡ false → is_name_of called declared given ≡ true → name_now declared given ≡ called
still_called called declared None none is = (bytes_eq-Decides declared called).0 is
still_called called declared (Some other) none is = absurd (false≢true (sym none))

child_if : (number : Option ℕ) (process n : ℕ) (parent : Option Pid) → if_has_parent process parent ≡ Some n → process ≡ n
child_if number process n None e = absurd (no_value e)
child_if number process n (Some parent) e = same_some e

is_child_of : (names : Names) (number : Option ℕ) (n : ℕ) → if_child names number ≡ Some n → number ≡ Some n
is_child_of names None n e = absurd (no_value e)
is_child_of names (Some process) n e = ap Some (child_if (Some process) process n (parent_of names process) e)

not_given : (names : Names) (n : ℕ) (process : NamedProcess) → at_number names.processes n ≡ Some process → has_given_name names n ≡ false → is_some process.given ≡ false
not_given names n process is none = sym (ap (λ found. is_some (option_and_then (λ p. p.given) found)) is) ∙ none

child_called : (names : Names) (called : List ℕ) (n : ℕ) → used_process_number names called ≡ Some n → has_given_name names n ≡ false → process_word names (pid n) ≡ called
child_called names called n e none =
    let found = number_passes (was_process_called called) names.processes n e in
    ap (λ process. unwrap_or (option_map process_name process) []) found.is ∙ still_called called found.item.declared found.item.given (not_given names n found.item found.is none) found.passes

each_if : (names : Names) (called : List (List ℕ)) (test : Bool) → ReadsAs (cond test (pure called) misspelling) (λ xs words new. (xs ≡ called) × (words ≡ []))
each_if names called true = pure-as (λ rest. (refl, refl))
each_if names called false = record { found = λ rest x new e clean. absurd (not_read _ x new e) }

each_found : (names : Names) (process : Option ℕ) (called : List (List ℕ)) → ReadsAs (for_each_member names process called) (λ xs words new. (xs ≡ called) × (words ≡ []))
each_found names None called = pure-as (λ rest. (refl, refl))
each_found names (Some process) called = each_if names called _

map_same : (xs : List (List ℕ)) → map (λ name. name) xs ≡ xs
map_same [] = refl
map_same (x ∷ xs) = ap (λ ys. x ∷ ys) (map_same xs)

names_spelled : Spelled names_to_end (map (λ name. name))
names_spelled = items-spelled is_no_stop name_from_word (λ name. name) name_word

not_late : (names : Names) (child : ℕ) (called : List ℕ) (each_name : List (List ℕ)) → is_twice names (Name (pid child) called each_name) ≡ false → has_given_name names child ≡ false
not_late names child called each_name once = first_false (has_given_name names child) _ _ _ once
  where
    first_false : (a b c d : Bool) → (((a || b) || c) || d) ≡ false → a ≡ false
    first_false true b c d e = e
    first_false false b c d e = refl

name_found : (names : Names) → ReadsAs (name_line names) (λ line words new. IsWritten names line (codes "name" ∷ words) new)
name_found names = then-as name_spelled (λ child. then-as name_spelled (λ called. then-as names_spelled (λ others.
    relate-as (λ xs words. (xs ≡ others) × (words ≡ [])) (each_found names (used_process_number names child) others) (λ each_name. declared-as (λ n. end-as (λ rest ended is before each.
    record {
      written = λ once.
          ap (λ w. codes "name" ∷ w ∷ called ∷ each_name) (child_called names child n (is_child_of names (used_process_number names child) n is) (not_late names n called each_name once)) ∙
          ap (λ ws. codes "name" ∷ child ∷ called ∷ ws) (each.0 ∙ sym (map_same others) ∙ sym (append-nil (map (λ name. name) others)) ∙ ap (λ ws. map (λ name. name) others ++ ws) (sym (append-nil before ∙ each.1)));
      ended = ended;
      plain = refl;
    }))))))

-- the end

some_threads : (threads : List Tid) → ReadsAs (nonempty_list threads) (λ xs words new. (xs ≡ threads) × (words ≡ []))
some_threads [] = record { found = λ rest x new e clean. absurd (not_read _ x new e) }
some_threads (thread ∷ threads) = pure-as (λ rest. (refl, refl))

waiting_found : (names : Names) (ending : Ending) → ReadsAs (waiting_after names ending) (λ threads words new. words ≡ map (thread_word names) threads)
waiting_found names Complete = pure-as (λ rest. refl)
waiting_found names Open = pure-as (λ rest. refl)
waiting_found names Stalled = then-as (items-spelled is_no_stop _ (thread_word names) (thread_word_spelled names)) (λ threads. weaker-as (some_threads threads) (λ xs words new is.
    ap (λ ws. map (thread_word names) threads ++ ws) is.1 ∙ append-nil (map (thread_word names) threads) ∙ ap (map (thread_word names)) (sym is.0)))

end_found : (names : Names) → ReadsAs (end_line names) (λ line words new. IsWritten names line (codes "end" ∷ words) new)
end_found names = then-as next_word_spelled (λ word. value-as (λ ending. then-as number_64_spelled (λ n. then-as (spelled_as (map (thread_word names)) (waiting_found names ending)) (λ threads. end-as (λ rest ended is.
    record {
      written = λ once. ap (λ w. codes "end" ∷ w ∷ decimal n ∷ map (thread_word names) threads) (sym (word_of_value ending_word (Complete ∷ Stalled ∷ Open ∷ []) word ending is)) ∙ ap (λ ws. codes "end" ∷ word ∷ decimal n ∷ ws) (sym (append-nil (map (thread_word names) threads)));
      ended = ended;
      plain = refl;
    })))))

-- events

pub record IsEvent (names : Names) (how : What) (answer : List ℕ) (line : Line) (words : List (List ℕ)) (new : Rest) : Type 0 where
  pub fourth : List ℕ
  pub fourth_is : slice_get words 3 ≡ Some fourth
  pub written : fourth ≡ what_word how → line_words names line ≡ words
  pub answered : answer_part line ≡ codes " = " ++ answer
  pub ended : new.words ≡ []

pub event_found : (names : Names) (late : Bool) (how : What) (answer : List ℕ) → ReadsAs (event_line names late how answer) (λ line words new. IsEvent names how answer line words new)
event_found names late how answer = then-as number_64_spelled (λ n. then-as (thread_spelled names) (λ of. then-as (thread_spelled names) (λ root. then-as next_word_spelled (λ word.
    relate-as (λ asked words. asked_words names asked ≡ what_word how ∷ words) (asked_found names (process_of names of) late how) (λ asked. end-as (λ rest ended before is.
    record {
      fourth = word;
      fourth_is = refl;
      written = λ same. ap (λ ws. decimal n ∷ thread_word names of ∷ thread_word names root ∷ ws) (is ∙ ap (λ w. w ∷ before) (sym same) ∙ ap (λ ws. word ∷ ws) (sym (append-nil before)));
      answered = refl;
      ended = ended;
    }))))))

pub event_ends : (names : Names) (late : Bool) (how : What) (answer : List ℕ) → Ends (event_line names late how answer)
event_ends names late how answer = ends-then number_64 (λ n. ends-then (thread names) (λ of. ends-then (thread names) (λ root. ends-then next_word (λ word. ends-then (asked_with names (process_of names of) late how) (λ asked. ends-here)))))

-- lines of all other kinds

pub record IsDeclared (names : Names) (word : List ℕ) (line : Line) (words : List (List ℕ)) (new : Rest) : Type 0 where
  pub first : List ℕ
  pub first_is : slice_get words 0 ≡ Some first
  pub written : first ≡ word → is_twice names line ≡ false → line_words names line ≡ words
  pub ended : new.words ≡ []
  pub plain : answer_part line ≡ []

after_word : (names : Names) (word : List ℕ) (read : Reader Line) → ReadsAs read (λ line words new. IsWritten names line (word ∷ words) new) → ReadsAs (next_word >>= (λ first. read)) (λ line words new. IsDeclared names word line words new)
after_word names word read reads = then-as next_word_spelled (λ first. weaker-as reads (λ line words new is.
    record { first = first; first_is = refl; written = λ same once. is.written once ∙ ap (λ w. w ∷ words) (sym same); ended = is.ended; plain = is.plain }))

pub line_found : (names : Names) (first : Kind) → ReadsAs (line_of_words names first) (λ line words new. IsDeclared names (kind_word first) line words new)
line_found names kind.Process = after_word names (codes "process") process_line (process_found names)
line_found names kind.Child = after_word names (codes "child") (child_line names) (child_found names)
line_found names kind.Name = after_word names (codes "name") (name_line names) (name_found names)
line_found names kind.Procedure = after_word names (codes "proc") (procedure_line names) (procedure_found names)
line_found names kind.Path = after_word names (codes "path") path_line (path_found names)
line_found names kind.End = after_word names (codes "end") (end_line names) (end_found names)
line_found names kind.Event = then-as next_word_spelled (λ first. record { found = λ rest x new e clean. absurd (not_read _ x new e) })

pub line_ends : (names : Names) (first : Kind) → Ends (line_of_words names first)
line_ends names kind.Process = ends-then next_word (λ first. ends-then name (λ called. ends-then (the_word (codes "limit")) (λ here. ends-then (number 0 DESCRIPTORS_MAX) (λ limit. ends-then members (λ with. ends-here)))))
line_ends names kind.Child = ends-then next_word (λ first. ends-then name (λ called. ends-then (the_word (codes "of")) (λ here. ends-then (process names) (λ parent. ends-then members (λ with. ends-here)))))
line_ends names kind.Name = ends-then next_word (λ first. ends-then name (λ child. ends-then name (λ called. ends-then names_to_end (λ others.
    ends-then (for_each_member names (used_process_number names child) others) (λ members. ends-then (declared_number (if_child names (used_process_number names child))) (λ n. ends-here))))))
line_ends names kind.Procedure = ends-then next_word (λ first. ends-then name (λ called. ends-then (the_word (codes "of")) (λ here. ends-then (process names) (λ of. ends-here))))
line_ends names kind.Path = ends-then next_word (λ first. ends-then name (λ called. ends-then (string 1 PATH_TEXT_MAX) (λ text. ends-here)))
line_ends names kind.End = ends-then next_word (λ first. ends-then next_word (λ word. ends-then (spelled_value (ending_of word)) (λ ending. ends-then number_64 (λ n. ends-then (waiting_after names ending) (λ threads. ends-here)))))
line_ends names kind.Event = ends-then next_word (λ first. record { in_range = λ rest x new e. absurd (not_read _ x new e) })
