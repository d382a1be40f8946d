-- What a line ends with.
use Rattle.std.proofs.Common.{◌≡◌, ℕ, ◌≤◌, Bool, true, false, cond, List, [], ◌∷◌, ◌++◌, Some, Ok, refl, ap, sym, ◌∙◌, subst, inl, inr, arith, append-nil, append_assoc}
use Rattle.std.specs.Prelude.{bytes_eq, codes, decimal, map, if◌then◌else◌}
use Rattle.std.specs.List.{list_all}
use Rattle.std.proofs.lemmas.List.Folds.{list_all-append}
use Rattle.std.proofs.lemmas.Slice.Eq.{bytes_eq-Decides}
use Rattle.line_text.specs.Types.{Attrs}
use Rattle.line_text.specs.Words.{is_word}
use Rattle.line_text.proofs.DecimalWords.{is_plain-decimal}
use Rattle.line_text.proofs.JoinedWords.{is_word-plain}
use Rattle.line_reader.specs.Types.{FdArg, Line, PassArg, Piece}
use Rattle.line_reader.specs.Words.{Reader, Rest, attributes, passes, pieces, ports, pure, rest_of, rsize, spelled_value, then_read, value_at_end, value_with_rest, wait_option, ◌>>=◌}
use Rattle.line_forms.specs.Words.{Each, Ends, Spelling, SpellsAttributes, SpellsFd, SpellsPassList, SpellsPieces, SpellsPorts, SpellsRsize, SpellsWait, attribute_words, attributes_of, data_words, desc_words, fd_word, greatest_64, wait_words}
use Rattle.line_reader.proofs.SkippedWords.{at_words}
use Rattle.law_lines.proofs.Given.{Clean, same_value, same_rest, in_turn, spelled_given, ended_given}
use Rattle.law_lines.proofs.DescriptorWords.{fd_written, fd_is_word}
use Rattle.law_lines.proofs.DataWords.{no_plus, pieces_found, pieces_again, pieces_written, pieces_words, pieces_left_after, each_written, each_words}
use Rattle.law_lines.proofs.PassWords.{passes_found, passes_again, passes_written, passes_words, passes_left, rsize_found, rsize_again, rsize_follows, end_follows, ports_found, ports_again}
use Rattle.law_lines.proofs.AttributesAgain.{attributes_written, attributes_words}

pub data Last : Type 0 where
  NoMore : Last
  TheAttributes : Last
  TheWait : Last
  ThePorts : Last
  TheData : Last
  DataPasses : Last
  DataPassesRsize : Last

abbrev pub LastValue : Last → Type 0
LastValue NoMore = Unit {0}
LastValue TheAttributes = Attrs
LastValue TheWait = Bool
LastValue ThePorts = List FdArg
LastValue TheData = List Piece
LastValue DataPasses = List Piece × List PassArg
LastValue DataPassesRsize = List Piece × List PassArg × ℕ

abbrev pub read_last : (last : Last) → (LastValue last → Line) → Reader Line
read_last NoMore line = value_at_end (line tt)
read_last TheAttributes line = attributes >>= (λ set. value_at_end (line set))
read_last TheWait line = wait_option >>= (λ wait. value_at_end (line wait))
read_last ThePorts line = ports >>= (λ fds. value_at_end (line fds))
read_last TheData line = pieces >>= (λ bytes. value_at_end (line bytes))
read_last DataPasses line = pieces >>= (λ bytes. passes >>= (λ pass. value_at_end (line (bytes, pass))))
read_last DataPassesRsize line = pieces >>= (λ bytes. passes >>= (λ pass. rsize >>= (λ room. value_at_end (line (bytes, pass, room)))))

abbrev pub SpellsLast : (last : Last) → LastValue last → Spelling
SpellsLast NoMore x words = Ends words
SpellsLast TheAttributes x words = SpellsAttributes x words
SpellsLast TheWait x words = SpellsWait x words
SpellsLast ThePorts x words = SpellsPorts x words
SpellsLast TheData x words = SpellsPieces x Ends words
SpellsLast DataPasses x words = SpellsPieces x.0 (SpellsPassList x.1 Ends) words
SpellsLast DataPassesRsize x words = SpellsPieces x.0 (SpellsPassList x.1 (SpellsRsize x.2 Ends)) words

abbrev pub last_words : (last : Last) → LastValue last → List (List ℕ)
last_words NoMore x = []
last_words TheAttributes x = attribute_words x
last_words TheWait x = wait_words x
last_words ThePorts x = map fd_word x
last_words TheData x = data_words x
last_words DataPasses x = data_words x.0 ++ desc_words x.1
last_words DataPassesRsize x = data_words x.0 ++ desc_words x.1 ++ codes "rsize" ∷ decimal x.2 ∷ []

-- what is read is spelled

pub record LastFound (last : Last) (make : LastValue last → Line) (line : Line) (rest : Rest) : Type 0 where
  pub x : LastValue last
  pub is : line ≡ make x
  pub clean : Clean rest
  pub spells : SpellsLast last x rest.words

record IsEnd (value line : Line) (rest : Rest) : Type 0 where
  is : line ≡ value
  clean : Clean rest
  words : rest.words ≡ []

end_found : (value : Line) (rest : Rest) (line : Line) (new : Rest) → value_at_end value rest ≡ Ok (line, new) → new.known ≡ true → IsEnd value line rest
end_found value rest line new e known =
    let end = ended_given value rest line new e in
    record { is = end.is; clean = record { in_range = end.in_range; known = ap (λ r. r.known) (sym end.same) ∙ known }; words = end.words }

attributes_found : (make : Attrs → Line) (rest : Rest) (line : Line) (new : Rest) → read_last TheAttributes make rest ≡ Ok (line, new) → new.known ≡ true → LastFound TheAttributes make line rest
attributes_found make rest line new e known =
    let turn = in_turn attributes (λ set. value_at_end (make set)) rest line new e in
    let inner = in_turn (spelled_value (attributes_of rest.words)) (value_with_rest []) rest turn.x turn.mid turn.first in
    let set = spelled_given (attributes_of rest.words) rest inner.x inner.mid inner.first in
    let end = end_found (make turn.x) turn.mid line new turn.then known in
    let same : at_words [] inner.mid ≡ turn.mid = same_rest inner.then in
    record {
      x = turn.x;
      is = end.is;
      clean = record {
        in_range = ap (λ r. r.in_range) (sym set.same) ∙ ap (λ r. r.in_range) same ∙ end.clean.in_range;
        known = ap (λ r. r.known) (sym set.same) ∙ ap (λ r. r.known) same ∙ end.clean.known;
      };
      spells = set.is ∙ ap Some (same_value inner.then);
    }

abbrev nowait_given : Bool → Reader Bool
nowait_given nowait = pure (if nowait then false else true)

wait_if : (test : Bool) (make : Bool → Line) (word : List ℕ) (words : List (List ℕ)) (in_range known : Bool) (line : Line) (new : Rest)
    → let rest : Rest = record { words = word ∷ words; in_range = in_range; known = known } in
    bytes_eq word (codes "nowait") ≡ test → then_read (λ wait. value_at_end (make wait)) (then_read nowait_given (cond test (value_with_rest words true) (pure false) rest)) ≡ Ok (line, new) → new.known ≡ true → LastFound TheWait make line rest
wait_if true make word words in_range known line new is e clean =
    let rest : Rest = record { words = word ∷ words; in_range = in_range; known = known } in
    let end = end_found (make false) (at_words words rest) line new e clean in
    record {
      x = false;
      is = end.is;
      clean = record { in_range = end.clean.in_range; known = end.clean.known };
      spells = ((bytes_eq-Decides word (codes "nowait")).0 is, end.words);
    }
wait_if false make word words in_range known line new is e clean =
    let rest : Rest = record { words = word ∷ words; in_range = in_range; known = known } in
    let end = end_found (make true) rest line new e clean in
    absurd (not_empty word words end.words)
  where
    not_empty : (word : List ℕ) (words : List (List ℕ)) → word ∷ words ≡ [] → ⊥
    not_empty word words e = cc

wait_at : (make : Bool → Line) (words : List (List ℕ)) (in_range known : Bool) (line : Line) (new : Rest)
    → let rest : Rest = record { words = words; in_range = in_range; known = known } in
    read_last TheWait make rest ≡ Ok (line, new) → new.known ≡ true → LastFound TheWait make line rest
wait_at make [] in_range known line new e clean =
    let rest : Rest = record { words = []; in_range = in_range; known = known } in
    let end = end_found (make true) rest line new e clean in
    record { x = true; is = end.is; clean = end.clean; spells = end.words }
wait_at make (word ∷ words) in_range known line new e clean = wait_if (bytes_eq word (codes "nowait")) make word words in_range known line new refl e clean

ports_last : (make : List FdArg → Line) (rest : Rest) (line : Line) (new : Rest) → read_last ThePorts make rest ≡ Ok (line, new) → new.known ≡ true → LastFound ThePorts make line rest
ports_last make rest line new e known =
    let turn = in_turn ports (λ fds. value_at_end (make fds)) rest line new e in
    let end = end_found (make turn.x) turn.mid line new turn.then known in
    let fds = ports_found rest turn.x turn.mid turn.first end.clean in
    record { x = turn.x; is = end.is; clean = fds.clean; spells = fds.spells Ends end.words }

data_last : (make : List Piece → Line) (rest : Rest) (line : Line) (new : Rest) → read_last TheData make rest ≡ Ok (line, new) → new.known ≡ true → LastFound TheData make line rest
data_last make rest line new e known =
    let turn = in_turn pieces (λ bytes. value_at_end (make bytes)) rest line new e in
    let end = end_found (make turn.x) turn.mid line new turn.then known in
    let bytes = pieces_found rest turn.x turn.mid turn.first end.clean in
    record { x = turn.x; is = end.is; clean = bytes.clean; spells = bytes.spells Ends end.words }

passes_last : (make : List Piece × List PassArg → Line) (rest : Rest) (line : Line) (new : Rest) → read_last DataPasses make rest ≡ Ok (line, new) → new.known ≡ true → LastFound DataPasses make line rest
passes_last make rest line new e known =
    let turn = in_turn pieces (λ bytes. passes >>= (λ pass. value_at_end (make (bytes, pass)))) rest line new e in
    let next = in_turn passes (λ pass. value_at_end (make (turn.x, pass))) turn.mid line new turn.then in
    let end = end_found (make (turn.x, next.x)) next.mid line new next.then known in
    let pass = passes_found turn.mid next.x next.mid next.first end.clean in
    let bytes = pieces_found rest turn.x turn.mid turn.first pass.clean in
    record { x = (turn.x, next.x); is = end.is; clean = bytes.clean; spells = bytes.spells (SpellsPassList next.x Ends) (pass.spells Ends end.words) }

rsize_last : (make : List Piece × List PassArg × ℕ → Line) (rest : Rest) (line : Line) (new : Rest) → read_last DataPassesRsize make rest ≡ Ok (line, new) → new.known ≡ true → LastFound DataPassesRsize make line rest
rsize_last make rest line new e known =
    let turn = in_turn pieces (λ bytes. passes >>= (λ pass. rsize >>= (λ room. value_at_end (make (bytes, pass, room))))) rest line new e in
    let next = in_turn passes (λ pass. rsize >>= (λ room. value_at_end (make (turn.x, pass, room)))) turn.mid line new turn.then in
    let later = in_turn rsize (λ room. value_at_end (make (turn.x, next.x, room))) next.mid line new next.then in
    let end = end_found (make (turn.x, next.x, later.x)) later.mid line new later.then known in
    let room = rsize_found next.mid later.x later.mid later.first end.clean in
    let pass = passes_found turn.mid next.x next.mid next.first room.clean in
    let bytes = pieces_found rest turn.x turn.mid turn.first pass.clean in
    record {
      x = (turn.x, next.x, later.x);
      is = end.is;
      clean = bytes.clean;
      spells = bytes.spells (SpellsPassList next.x (SpellsRsize later.x Ends)) (pass.spells (SpellsRsize later.x Ends) (room.spells Ends end.words));
    }

pub last_found : (last : Last) (make : LastValue last → Line) (rest : Rest) (line : Line) (new : Rest) → read_last last make rest ≡ Ok (line, new) → new.known ≡ true → LastFound last make line rest
last_found NoMore make rest line new e known = let end = end_found (make tt) rest line new e known in record { x = tt; is = end.is; clean = end.clean; spells = end.words }
last_found TheAttributes make rest line new e known = attributes_found make rest line new e known
last_found TheWait make rest line new e known = wait_at make rest.words rest.in_range rest.known line new e known
last_found ThePorts make rest line new e known = ports_last make rest line new e known
last_found TheData make rest line new e known = data_last make rest line new e known
last_found DataPasses make rest line new e known = passes_last make rest line new e known
last_found DataPassesRsize make rest line new e known = rsize_last make rest line new e known

-- what is spelled is read

pub end_again : (line : Line) (words : List (List ℕ)) → Ends words → value_at_end line (rest_of words) ≡ Ok (line, rest_of [])
end_again line words ended_words = ap (λ ws. value_at_end line (rest_of ws)) ended_words

wait_again : (make : Bool → Line) (wait : Bool) (words : List (List ℕ)) → SpellsWait wait words → read_last TheWait make (rest_of words) ≡ Ok (make wait, rest_of [])
wait_again make true words spells = ap (λ ws. read_last TheWait make (rest_of ws)) spells
wait_again make false [] spells = absurd spells
wait_again make false (word ∷ words) spells = ap (λ w. read_last TheWait make (rest_of (w ∷ words))) spells.0 ∙ end_again (make false) words spells.1

no_plus_after : (words : List (List ℕ)) → Ends words → no_plus words ≡ true
no_plus_after words ended_words = ap no_plus ended_words

no_plus_rsize : (n : ℕ) (words : List (List ℕ)) → SpellsRsize n Ends words → no_plus words ≡ true
no_plus_rsize n words (inl nothing) = ap no_plus nothing.1
no_plus_rsize n [] (inr some) = refl
no_plus_rsize n (word ∷ words) (inr some) = ap (λ w. no_plus (w ∷ words)) some.0

no_plus_passes : (Next : Spelling) → ((words : List (List ℕ)) → Next words → no_plus words ≡ true) → (xs : List PassArg) (words : List (List ℕ)) → SpellsPassList xs Next words → no_plus words ≡ true
no_plus_passes Next stop [] words spells = stop words spells
no_plus_passes Next stop (x ∷ xs) [] spells = refl
no_plus_passes Next stop (x ∷ xs) (word ∷ words) spells = ap (λ w. no_plus (w ∷ words)) spells.1.0

attributes_again : (make : Attrs → Line) (set : Attrs) (words : List (List ℕ)) → SpellsAttributes set words → read_last TheAttributes make (rest_of words) ≡ Ok (make set, rest_of [])
attributes_again make set words spells = ap (λ value. then_read (λ s. value_at_end (make s)) (then_read (value_with_rest []) (spelled_value value (rest_of words)))) spells

data_again : (make : List Piece → Line) (xs : List Piece) (words : List (List ℕ)) → SpellsPieces xs Ends words → read_last TheData make (rest_of words) ≡ Ok (make xs, rest_of [])
data_again make xs words spells =
    let bytes = pieces_again Ends no_plus_after xs words spells in
    ap (then_read (λ b. value_at_end (make b))) (bytes.reads (rest_of words)) ∙ end_again (make xs) bytes.left bytes.next

passes_last_again : (make : List Piece × List PassArg → Line) (xs : List Piece) (ps : List PassArg) (words : List (List ℕ)) → SpellsPieces xs (SpellsPassList ps Ends) words → read_last DataPasses make (rest_of words) ≡ Ok (make (xs, ps), rest_of [])
passes_last_again make xs ps words spells =
    let bytes = pieces_again (SpellsPassList ps Ends) (no_plus_passes Ends no_plus_after ps) xs words spells in
    let pass = passes_again Ends end_follows ps bytes.left bytes.next in
    ap (then_read (λ b. passes >>= (λ p. value_at_end (make (b, p))))) (bytes.reads (rest_of words)) ∙
    ap (then_read (λ p. value_at_end (make (xs, p)))) (pass.reads (rest_of bytes.left)) ∙
    end_again (make (xs, ps)) pass.left pass.next

rsize_last_again : (make : List Piece × List PassArg × ℕ → Line) (xs : List Piece) (ps : List PassArg) (n : ℕ) (words : List (List ℕ)) → SpellsPieces xs (SpellsPassList ps (SpellsRsize n Ends)) words → read_last DataPassesRsize make (rest_of words) ≡ Ok (make (xs, ps, n), rest_of [])
rsize_last_again make xs ps n words spells =
    let bytes = pieces_again (SpellsPassList ps (SpellsRsize n Ends)) (no_plus_passes (SpellsRsize n Ends) (no_plus_rsize n) ps) xs words spells in
    let pass = passes_again (SpellsRsize n Ends) (rsize_follows n) ps bytes.left bytes.next in
    let room = rsize_again n pass.left pass.next in
    ap (then_read (λ b. passes >>= (λ p. rsize >>= (λ r. value_at_end (make (b, p, r)))))) (bytes.reads (rest_of words)) ∙
    ap (then_read (λ p. rsize >>= (λ r. value_at_end (make (xs, p, r))))) (pass.reads (rest_of bytes.left)) ∙
    ap (then_read (λ r. value_at_end (make (xs, ps, r)))) (room.reads (rest_of pass.left)) ∙
    end_again (make (xs, ps, n)) room.left room.next

ports_last_again : (make : List FdArg → Line) (xs : List FdArg) (words : List (List ℕ)) → SpellsPorts xs words → read_last ThePorts make (rest_of words) ≡ Ok (make xs, rest_of [])
ports_last_again make xs words spells =
    let fds = ports_again xs words spells in
    ap (then_read (λ f. value_at_end (make f))) (fds.reads (rest_of words)) ∙ end_again (make xs) fds.left fds.next

pub last_again : (last : Last) (make : LastValue last → Line) (x : LastValue last) (words : List (List ℕ)) → SpellsLast last x words → read_last last make (rest_of words) ≡ Ok (make x, rest_of [])
last_again NoMore make x words spells = end_again (make x) words spells
last_again TheAttributes make x words spells = attributes_again make x words spells
last_again TheWait make x words spells = wait_again make x words spells
last_again ThePorts make x words spells = ports_last_again make x words spells
last_again TheData make x words spells = data_again make x words spells
last_again DataPasses make x words spells = passes_last_again make x.0 x.1 words spells
last_again DataPassesRsize make x words spells = rsize_last_again make x.0 x.1 x.2 words spells

-- the words that are written

wait_written : (wait : Bool) → SpellsWait wait (wait_words wait)
wait_written true = refl
wait_written false = (refl, refl)

rsize_small : (n : ℕ) (words : List (List ℕ)) → SpellsRsize n Ends words → n ≤ greatest_64
rsize_small n words (inl nothing) = omega arith
rsize_small n [] (inr some) = absurd some
rsize_small n (word ∷ []) (inr some) = absurd some.1
rsize_small n (word ∷ digits ∷ words) (inr some) = some.1.0.1

rsize_written : (n : ℕ) → n ≤ greatest_64 → SpellsRsize n Ends (codes "rsize" ∷ decimal n ∷ [])
rsize_written n small = inr (refl, ((omega arith, small, refl), refl))

rsize_after_data : (xs : List Piece) (ps : List PassArg) (n : ℕ) (words : List (List ℕ)) → SpellsPieces xs (SpellsPassList ps (SpellsRsize n Ends)) words → n ≤ greatest_64
rsize_after_data xs ps n words spells =
    let after = pieces_left_after (SpellsPassList ps (SpellsRsize n Ends)) xs words spells in
    let room = passes_left (SpellsRsize n Ends) ps after.0 after.1 in
    rsize_small n room.0 room.1

passes_last_written : (xs : List Piece) (ps : List PassArg) (words : List (List ℕ)) → SpellsPieces xs (SpellsPassList ps Ends) words → SpellsPieces xs (SpellsPassList ps Ends) (data_words xs ++ desc_words ps)
passes_last_written xs ps words spells =
    let after = pieces_left_after (SpellsPassList ps Ends) xs words spells in
    pieces_written (SpellsPassList ps Ends) (SpellsPassList ps Ends) (desc_words ps) (subst (SpellsPassList ps Ends) (append-nil (desc_words ps)) (passes_written Ends Ends [] refl ps after.0 after.1)) xs words spells

rsize_last_written : (xs : List Piece) (ps : List PassArg) (n : ℕ) (words : List (List ℕ)) → SpellsPieces xs (SpellsPassList ps (SpellsRsize n Ends)) words → SpellsPieces xs (SpellsPassList ps (SpellsRsize n Ends)) (data_words xs ++ desc_words ps ++ codes "rsize" ∷ decimal n ∷ [])
rsize_last_written xs ps n words spells =
    let after = pieces_left_after (SpellsPassList ps (SpellsRsize n Ends)) xs words spells in
    let room : List (List ℕ) = codes "rsize" ∷ decimal n ∷ [] in
    rw append_assoc (
    pieces_written (SpellsPassList ps (SpellsRsize n Ends)) (SpellsPassList ps (SpellsRsize n Ends)) (desc_words ps ++ room) (
    passes_written (SpellsRsize n Ends) (SpellsRsize n Ends) room (rsize_written n (rsize_after_data xs ps n words spells)) ps after.0 after.1) xs words spells)

pub last_written : (last : Last) (x : LastValue last) (words : List (List ℕ)) → SpellsLast last x words → SpellsLast last x (last_words last x)
last_written NoMore x words spells = refl
last_written TheAttributes x words spells = attributes_written words x spells
last_written TheWait x words spells = wait_written x
last_written ThePorts x words spells =
    (spells.0, spells.1, subst (Each SpellsFd x Ends) (append-nil (map fd_word x)) (each_written SpellsFd fd_word fd_written Ends Ends [] refl x words spells.2))
last_written TheData x words spells = subst (SpellsPieces x Ends) (append-nil (data_words x)) (pieces_written Ends Ends [] refl x words spells)
last_written DataPasses x words spells = passes_last_written x.0 x.1 words spells
last_written DataPassesRsize x words spells = rsize_last_written x.0 x.1 x.2 words spells

wait_is_words : (wait : Bool) → list_all is_word (wait_words wait) ≡ true
wait_is_words true = refl
wait_is_words false = refl

both : (xs ys : List (List ℕ)) → list_all is_word xs ≡ true → list_all is_word ys ≡ true → list_all is_word (xs ++ ys) ≡ true
both xs ys first second = list_all-append is_word xs ys ∙ rw (first, second) refl

rsize_words : (n : ℕ) → n ≤ greatest_64 → list_all is_word (codes "rsize" ∷ decimal n ∷ []) ≡ true
rsize_words n small = rw (is_word-plain (decimal n) (is_plain-decimal n (omega arith))) refl

passes_last_words : (xs : List Piece) (ps : List PassArg) (Next : Spelling) (words : List (List ℕ)) → SpellsPieces xs (SpellsPassList ps Next) words → list_all is_word (data_words xs ++ desc_words ps) ≡ true
passes_last_words xs ps Next words spells =
    let after = pieces_left_after (SpellsPassList ps Next) xs words spells in
    both (data_words xs) (desc_words ps) (pieces_words (SpellsPassList ps Next) xs words spells) (passes_words Next ps after.0 after.1)

pub last_are_words : (last : Last) (x : LastValue last) (words : List (List ℕ)) → SpellsLast last x words → list_all is_word (last_words last x) ≡ true
last_are_words NoMore x words spells = refl
last_are_words TheAttributes x words spells = attributes_words x
last_are_words TheWait x words spells = wait_is_words x
last_are_words ThePorts x words spells = each_words SpellsFd fd_word (λ y w s. fd_is_word y (fd_word y) (fd_written y w s)) Ends x words spells.2
last_are_words TheData x words spells = pieces_words Ends x words spells
last_are_words DataPasses x words spells = passes_last_words x.0 x.1 Ends words spells
last_are_words DataPassesRsize x words spells =
    both (data_words x.0 ++ desc_words x.1) (codes "rsize" ∷ decimal x.2 ∷ []) (passes_last_words x.0 x.1 (SpellsRsize x.2 Ends) words spells) (rsize_words x.2 (rsize_after_data x.0 x.1 x.2 words spells))
