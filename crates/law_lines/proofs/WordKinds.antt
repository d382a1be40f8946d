-- Operands of one word.
use Rattle.std.proofs.Common.{◌≡◌, ℕ, ◌<◌, ◌≤◌, ◌^◌, Bool, true, List, [], ◌∷◌, length, Ok, Err, refl, ap, sym, ◌∙◌, subst, arith}
use Rattle.std.specs.Prelude.{nat_lt, decimal, unwrap_or, option_map}
use Rattle.std.proofs.lemmas.Bool.Decides.{nat_tests}
use Rattle.line_text.specs.Types.{AlertMode, Op, Param, PathId, Pid, PollSet, Tid}
use Rattle.line_text.specs.Words.{SpellsName, SpellsNumber, is_name, is_word}
use Rattle.line_text.proofs.DecimalWords.{is_plain-decimal}
use Rattle.line_text.proofs.JoinedWords.{is_word-plain}
use Rattle.line_text.proofs.PartWords.{is_plain-name}
use Rattle.line_forms.specs.declared.reason.Reason.TheVariants.{Form}
use Rattle.line_reader.specs.Types.{Cond, FdArg}
use Rattle.line_forms.specs.Words.{AreDistinct, SpellsChild, SpellsCond, SpellsFd, SpellsMode, SpellsOp, SpellsParam, SpellsPath, SpellsPoll, SpellsProcedure, SpellsProcess, SpellsThread, SpellsValue, Tables, child_number, cond_of, cond_word, entry_number, fd_word, mode_of, mode_word, modes, op_of, op_word, ops, param_of, param_word, params, path_number, path_word, poll_of, poll_word, procedure_word, process_number, process_word, thread_number, thread_word, value_word}
use Rattle.line_reader.specs.Words.{Reader, Rest, child, condition, declared_number, fd, fd_from_word, mode, name, name_from_word, number, number_from_word, op, param, path, path_id, pid, poll, procedure, process, pure, spelled_value, then_read, thread, thread_from_word, tid, value, value_from_word, ◌>>=◌}
use Rattle.law_lines.proofs.Given.{Clean, same_value, same_rest, in_turn, name_given, number_given, declared_given, spelled_given}
use Rattle.line_reader.proofs.SkippedWords.{at_words}
use Rattle.line_forms.proofs.Numbering.{child_of_number, name_of_number, procedure_of_number, path_of_number, number_of_name, number_of_procedure, number_of_path, number_of_child}
use Rattle.law_lines.proofs.DescriptorWords.{number_reader-spelled, name_read-spelled, fd_found, fd_again, fd_written, fd_is_word}
use Rattle.law_lines.proofs.TableWords.{word_found, param_again, mode_again, op_again, cond_again, param_is_word, mode_is_word, op_is_word, cond_is_word, cond_found, poll_found, poll_again, poll_written, poll_is_word, value_found, value_again, value_written, value_is_word}

pub data WordKind : Type 0 where
  AName : WordKind
  AProcedure : WordKind
  AThread : WordKind
  AProcess : WordKind
  AChild : WordKind
  APath : WordKind
  ANumber : ℕ → ℕ → WordKind
  AnFd : WordKind
  APoll : WordKind
  AParam : WordKind
  AMode : WordKind
  AnOp : WordKind
  ACond : WordKind
  AValue : WordKind

abbrev pub WordValue : WordKind → Type 0
WordValue AName = List ℕ
WordValue AProcedure = ℕ
WordValue AThread = Tid
WordValue AProcess = Pid
WordValue AChild = Pid
WordValue APath = PathId
WordValue (ANumber low high) = ℕ
WordValue AnFd = FdArg
WordValue APoll = PollSet
WordValue AParam = Param
WordValue AMode = AlertMode
WordValue AnOp = Op
WordValue ACond = Cond
WordValue AValue = ℕ

-- the operand's reader, and the same at a word
abbrev pub read_word : Tables → ℕ → (kind : WordKind) → Reader (WordValue kind)
read_word tables of AName = name
read_word tables of AProcedure = procedure tables of
read_word tables of AThread = thread tables
read_word tables of AProcess = process tables
read_word tables of AChild = child tables of
read_word tables of APath = path tables
read_word tables of (ANumber low high) = number low high
read_word tables of AnFd = fd
read_word tables of APoll = poll
read_word tables of AParam = param
read_word tables of AMode = mode
read_word tables of AnOp = op
read_word tables of ACond = condition
read_word tables of AValue = value

abbrev pub read_at : Tables → ℕ → (kind : WordKind) → List ℕ → Reader (WordValue kind)
read_at tables of AName word = name_from_word word
read_at tables of AProcedure word = name_from_word word >>= (λ bytes. declared_number (entry_number tables of bytes))
read_at tables of AThread word = thread_from_word tables word
read_at tables of AProcess word = name_from_word word >>= (λ bytes. declared_number (process_number tables bytes) >>= (λ n. pure (pid n)))
read_at tables of AChild word = name_from_word word >>= (λ bytes. declared_number (child_number tables of bytes) >>= (λ n. pure (pid n)))
read_at tables of APath word = name_from_word word >>= (λ bytes. pure (path_id (path_number tables bytes)))
read_at tables of (ANumber low high) word = number_from_word low high word
read_at tables of AnFd word = fd_from_word word
read_at tables of APoll word = spelled_value (poll_of word)
read_at tables of AParam word = spelled_value (param_of word)
read_at tables of AMode word = spelled_value (mode_of word)
read_at tables of AnOp word = spelled_value (op_of word)
read_at tables of ACond word = spelled_value (cond_of word)
read_at tables of AValue word = value_from_word word

abbrev pub SpellsWord : Tables → ℕ → (kind : WordKind) → WordValue kind → List ℕ → Type 0
SpellsWord tables of AName x word = SpellsName x word
SpellsWord tables of AProcedure x word = SpellsProcedure tables of x word
SpellsWord tables of AThread x word = SpellsThread tables x word
SpellsWord tables of AProcess x word = SpellsProcess tables x word
SpellsWord tables of AChild x word = SpellsChild tables of x word
SpellsWord tables of APath x word = SpellsPath tables x word
SpellsWord tables of (ANumber low high) x word = SpellsNumber low high x word
SpellsWord tables of AnFd x word = SpellsFd x word
SpellsWord tables of APoll x word = SpellsPoll x word
SpellsWord tables of AParam x word = SpellsParam x word
SpellsWord tables of AMode x word = SpellsMode x word
SpellsWord tables of AnOp x word = SpellsOp x word
SpellsWord tables of ACond x word = SpellsCond x word
SpellsWord tables of AValue x word = SpellsValue x word

-- the word in the canonical text
abbrev pub word_of : Tables → (kind : WordKind) → WordValue kind → List ℕ
word_of tables AName x = x
word_of tables AProcedure x = procedure_word tables x
word_of tables AThread x = thread_word tables x
word_of tables AProcess x = process_word tables x
word_of tables AChild x = process_word tables x
word_of tables APath x = path_word tables x
word_of tables (ANumber low high) x = decimal x
word_of tables AnFd x = fd_word x
word_of tables APoll x = poll_word x
word_of tables AParam x = param_word x
word_of tables AMode x = mode_word x
word_of tables AnOp x = op_word x
word_of tables ACond x = cond_word x
word_of tables AValue x = value_word x

-- its numbers have at most 64 bits
abbrev pub is_small : WordKind → Bool
is_small (ANumber low high) = nat_lt high 18446744073709551616
is_small kind = true

-- a path of the value is in the table
abbrev pub HasPath : Tables → (kind : WordKind) → WordValue kind → Type 0 → Type 0
HasPath tables APath x Others = (x.0 < length tables.paths) × Others
HasPath tables AName x Others = Others
HasPath tables AProcedure x Others = Others
HasPath tables AThread x Others = Others
HasPath tables AProcess x Others = Others
HasPath tables AChild x Others = Others
HasPath tables (ANumber low high) x Others = Others
HasPath tables AnFd x Others = Others
HasPath tables APoll x Others = Others
HasPath tables AParam x Others = Others
HasPath tables AMode x Others = Others
HasPath tables AnOp x Others = Others
HasPath tables ACond x Others = Others
HasPath tables AValue x Others = Others

pub small_number : (high : ℕ) → nat_lt high 18446744073709551616 ≡ true → high < 2 ^ 64
small_number high small = grind (arith, nat_tests)

-- the reader, by the words that are left

pub nothing_left : (tables : Tables) (of : ℕ) (kind : WordKind) (in_range known : Bool)
    → let rest : Rest = record { words = []; in_range = in_range; known = known } in
    read_word tables of kind rest ≡ Err Form
nothing_left tables of AName in_range known = refl
nothing_left tables of AProcedure in_range known = refl
nothing_left tables of AThread in_range known = refl
nothing_left tables of AProcess in_range known = refl
nothing_left tables of AChild in_range known = refl
nothing_left tables of APath in_range known = refl
nothing_left tables of (ANumber low high) in_range known = refl
nothing_left tables of AnFd in_range known = refl
nothing_left tables of APoll in_range known = refl
nothing_left tables of AParam in_range known = refl
nothing_left tables of AMode in_range known = refl
nothing_left tables of AnOp in_range known = refl
nothing_left tables of ACond in_range known = refl
nothing_left tables of AValue in_range known = refl

pub word_left : (tables : Tables) (of : ℕ) (kind : WordKind) (word : List ℕ) (words : List (List ℕ)) (in_range known : Bool)
    → let rest : Rest = record { words = word ∷ words; in_range = in_range; known = known } in
    read_word tables of kind rest ≡ read_at tables of kind word (at_words words rest)
word_left tables of AName word words in_range known = refl
word_left tables of AProcedure word words in_range known = refl
word_left tables of AThread word words in_range known = refl
word_left tables of AProcess word words in_range known = refl
word_left tables of AChild word words in_range known = refl
word_left tables of APath word words in_range known = refl
word_left tables of (ANumber low high) word words in_range known = refl
word_left tables of AnFd word words in_range known = refl
word_left tables of APoll word words in_range known = refl
word_left tables of AParam word words in_range known = refl
word_left tables of AMode word words in_range known = refl
word_left tables of AnOp word words in_range known = refl
word_left tables of ACond word words in_range known = refl
word_left tables of AValue word words in_range known = refl

-- what is read is spelled

pub record Found (tables : Tables) (of : ℕ) (kind : WordKind) (x : WordValue kind) (word : List ℕ) (rest new : Rest) : Type 1 where
  pub same : new ≡ rest
  pub spells : (Others : Type 0) → HasPath tables kind x Others → SpellsWord tables of kind x word × Others

procedure_found : (tables : Tables) (of : ℕ) (word : List ℕ) (rest : Rest) (x : ℕ) (new : Rest) → read_at tables of AProcedure word rest ≡ Ok (x, new) → Clean new → Found tables of AProcedure x word rest new
procedure_found tables of word rest x new e clean =
    let turn = in_turn (name_from_word word) (λ bytes. declared_number (entry_number tables of bytes)) rest x new e in
    let named = name_given word rest turn.x turn.mid turn.first in
    let number = declared_given (entry_number tables of turn.x) turn.mid x new turn.then clean in
    let entry = ap (entry_number tables of) (sym named.is) ∙ number.is in
    record { same = number.same ∙ named.same; spells = λ Others others. ((named.named, procedure_of_number tables of word x entry), others) }

thread_found : (tables : Tables) (of : ℕ) (word : List ℕ) (rest : Rest) (x : Tid) (new : Rest) → read_at tables of AThread word rest ≡ Ok (x, new) → Clean new → Found tables of AThread x word rest new
thread_found tables of word rest x new e clean =
    let turn = in_turn (name_from_word word) (λ bytes. declared_number (thread_number tables bytes) >>= (λ n. pure (tid n))) rest x new e in
    let named = name_given word rest turn.x turn.mid turn.first in
    let later = in_turn (declared_number (thread_number tables turn.x)) (λ n. pure (tid n)) turn.mid x new turn.then in
    let last : later.mid ≡ new = same_rest later.then in
    let number = declared_given (thread_number tables turn.x) turn.mid later.x later.mid later.first (subst Clean (sym last) clean) in
    let numbered = ap (thread_number tables) (sym named.is) ∙ number.is in
    subst (λ t. Found tables of AThread t word rest new) (same_value later.then) (record {
      same = sym last ∙ number.same ∙ named.same;
      spells = λ Others others. ((named.named, name_of_number tables.threads word later.x numbered), others);
    })

process_found : (tables : Tables) (of : ℕ) (word : List ℕ) (rest : Rest) (x : Pid) (new : Rest) → read_at tables of AProcess word rest ≡ Ok (x, new) → Clean new → Found tables of AProcess x word rest new
process_found tables of word rest x new e clean =
    let turn = in_turn (name_from_word word) (λ bytes. declared_number (process_number tables bytes) >>= (λ n. pure (pid n))) rest x new e in
    let named = name_given word rest turn.x turn.mid turn.first in
    let later = in_turn (declared_number (process_number tables turn.x)) (λ n. pure (pid n)) turn.mid x new turn.then in
    let last : later.mid ≡ new = same_rest later.then in
    let number = declared_given (process_number tables turn.x) turn.mid later.x later.mid later.first (subst Clean (sym last) clean) in
    let numbered = ap (process_number tables) (sym named.is) ∙ number.is in
    subst (λ p. Found tables of AProcess p word rest new) (same_value later.then) (record {
      same = sym last ∙ number.same ∙ named.same;
      spells = λ Others others. ((named.named, name_of_number tables.processes word later.x numbered), others);
    })

child_found : (tables : Tables) (of : ℕ) (word : List ℕ) (rest : Rest) (x : Pid) (new : Rest) → read_at tables of AChild word rest ≡ Ok (x, new) → Clean new → Found tables of AChild x word rest new
child_found tables of word rest x new e clean =
    let turn = in_turn (name_from_word word) (λ bytes. declared_number (child_number tables of bytes) >>= (λ n. pure (pid n))) rest x new e in
    let named = name_given word rest turn.x turn.mid turn.first in
    let later = in_turn (declared_number (child_number tables of turn.x)) (λ n. pure (pid n)) turn.mid x new turn.then in
    let last : later.mid ≡ new = same_rest later.then in
    let number = declared_given (child_number tables of turn.x) turn.mid later.x later.mid later.first (subst Clean (sym last) clean) in
    let numbered = child_of_number tables of word later.x (ap (child_number tables of) (sym named.is) ∙ number.is) in
    subst (λ p. Found tables of AChild p word rest new) (same_value later.then) (record {
      same = sym last ∙ number.same ∙ named.same;
      spells = λ Others others. (((named.named, name_of_number tables.processes word later.x numbered.0), numbered.1), others);
    })

path_found : (tables : Tables) (of : ℕ) (word : List ℕ) (rest : Rest) (x : PathId) (new : Rest) → read_at tables of APath word rest ≡ Ok (x, new) → Found tables of APath x word rest new
path_found tables of word rest x new e =
    let turn = in_turn (name_from_word word) (λ bytes. pure (path_id (path_number tables bytes))) rest x new e in
    let named = name_given word rest turn.x turn.mid turn.first in
    let is : path_id (path_number tables word) ≡ x = ap (λ bytes. path_id (path_number tables bytes)) (sym named.is) ∙ same_value turn.then in
    subst (λ p. Found tables of APath p word rest new) is (record {
      same = sym (same_rest turn.then) ∙ named.same;
      spells = λ Others others. ((named.named, path_of_number tables word others.0), others.1);
    })

pub word_found_at : (tables : Tables) (of : ℕ) (kind : WordKind) (word : List ℕ) (rest : Rest) (x : WordValue kind) (new : Rest) → is_small kind ≡ true → read_at tables of kind word rest ≡ Ok (x, new) → Clean new → Found tables of kind x word rest new
word_found_at tables of AName word rest x new small e clean =
    let named = name_given word rest x new e in
    record { same = named.same; spells = λ Others others. ((ap is_name named.is ∙ named.named, sym named.is), others) }
word_found_at tables of AProcedure word rest x new small e clean = procedure_found tables of word rest x new e clean
word_found_at tables of AThread word rest x new small e clean = thread_found tables of word rest x new e clean
word_found_at tables of AProcess word rest x new small e clean = process_found tables of word rest x new e clean
word_found_at tables of AChild word rest x new small e clean = child_found tables of word rest x new e clean
word_found_at tables of APath word rest x new small e clean = path_found tables of word rest x new e
word_found_at tables of (ANumber low high) word rest x new small e clean =
    let number = number_given low high word rest x new (small_number high small) e clean in
    record { same = number.same; spells = λ Others others. (number.is, others) }
word_found_at tables of AnFd word rest x new small e clean = let found = fd_found word rest x new e clean in record { same = found.same; spells = λ Others others. (found.spells, others) }
word_found_at tables of APoll word rest x new small e clean = let found = spelled_given (poll_of word) rest x new e in record { same = found.same; spells = λ Others others. (poll_found word x found.is, others) }
word_found_at tables of AParam word rest x new small e clean = let found = spelled_given (param_of word) rest x new e in record { same = found.same; spells = λ Others others. (word_found param_word params word x found.is, others) }
word_found_at tables of AMode word rest x new small e clean = let found = spelled_given (mode_of word) rest x new e in record { same = found.same; spells = λ Others others. (word_found mode_word modes word x found.is, others) }
word_found_at tables of AnOp word rest x new small e clean = let found = spelled_given (op_of word) rest x new e in record { same = found.same; spells = λ Others others. (word_found op_word ops word x found.is, others) }
word_found_at tables of ACond word rest x new small e clean = let found = spelled_given (cond_of word) rest x new e in record { same = found.same; spells = λ Others others. (cond_found word x found.is, others) }
word_found_at tables of AValue word rest x new small e clean = let found = value_found word rest x new e clean in record { same = found.same; spells = λ Others others. (found.spells, others) }

-- what is spelled is read

pub word_again : (tables : Tables) (of : ℕ) (kind : WordKind) (word : List ℕ) (rest : Rest) (x : WordValue kind) → is_small kind ≡ true → AreDistinct tables → SpellsWord tables of kind x word → read_at tables of kind word rest ≡ Ok (x, rest)
word_again tables of AName word rest x small distinct spells = ap (λ w. name_from_word w rest) spells.1 ∙ name_read-spelled x rest spells.0
word_again tables of AProcedure word rest x small distinct spells =
    ap (then_read (λ bytes. declared_number (entry_number tables of bytes))) (name_read-spelled word rest spells.0) ∙
    ap (λ number. declared_number number rest) (number_of_procedure tables of x word distinct.procedures spells.1)
word_again tables of AThread word rest x small distinct spells =
    ap (then_read (λ bytes. declared_number (thread_number tables bytes) >>= (λ n. pure (tid n)))) (name_read-spelled word rest spells.0) ∙
    ap (λ number. then_read (λ n. pure (tid n)) (declared_number number rest)) (number_of_name tables.threads x.0 word distinct.threads spells.1)
word_again tables of AProcess word rest x small distinct spells =
    ap (then_read (λ bytes. declared_number (process_number tables bytes) >>= (λ n. pure (pid n)))) (name_read-spelled word rest spells.0) ∙
    ap (λ number. then_read (λ n. pure (pid n)) (declared_number number rest)) (number_of_name tables.processes x.0 word distinct.processes spells.1)
word_again tables of AChild word rest x small distinct spells =
    ap (then_read (λ bytes. declared_number (child_number tables of bytes) >>= (λ n. pure (pid n)))) (name_read-spelled word rest spells.0.0) ∙
    ap (λ number. then_read (λ n. pure (pid n)) (declared_number number rest)) (number_of_child tables of word x.0 (number_of_name tables.processes x.0 word distinct.processes spells.0.1) spells.1)
word_again tables of APath word rest x small distinct spells =
    ap (then_read (λ bytes. pure (path_id (path_number tables bytes)))) (name_read-spelled word rest spells.0) ∙
    ap (λ n. pure (path_id n) rest) (number_of_path tables x.0 word distinct.paths spells.1)
word_again tables of (ANumber low high) word rest x small distinct spells = number_reader-spelled low high x word rest (small_number high small) spells
word_again tables of AnFd word rest x small distinct spells = fd_again x word rest spells
word_again tables of APoll word rest x small distinct spells = ap (λ value. spelled_value value rest) (poll_again word x spells)
word_again tables of AParam word rest x small distinct spells = ap (λ value. spelled_value value rest) (ap param_of spells ∙ param_again x)
word_again tables of AMode word rest x small distinct spells = ap (λ value. spelled_value value rest) (ap mode_of spells ∙ mode_again x)
word_again tables of AnOp word rest x small distinct spells = ap (λ value. spelled_value value rest) (ap op_of spells ∙ op_again x)
word_again tables of ACond word rest x small distinct spells = ap (λ value. spelled_value value rest) (ap cond_of spells ∙ cond_again x)
word_again tables of AValue word rest x small distinct spells = value_again x word rest spells

-- the word that is written

-- of a declared name the word is the only one
pub word_written : (tables : Tables) (of : ℕ) (kind : WordKind) (word : List ℕ) (x : WordValue kind) → SpellsWord tables of kind x word → SpellsWord tables of kind x (word_of tables kind x)
word_written tables of AName word x spells = (spells.0, refl)
word_written tables of AProcedure word x spells =
    let is : procedure_word tables x ≡ word = ap (λ name. unwrap_or (option_map (λ procedure. procedure.name) name) []) spells.1 in
    subst (SpellsProcedure tables of x) (sym is) spells
word_written tables of AThread word x spells = subst (SpellsThread tables x) (sym (ap (λ name. unwrap_or name []) spells.1)) spells
word_written tables of AProcess word x spells = subst (SpellsProcess tables x) (sym (ap (λ name. unwrap_or name []) spells.1)) spells
word_written tables of AChild word x spells = subst (SpellsChild tables of x) (sym (ap (λ name. unwrap_or name []) spells.0.1)) spells
word_written tables of APath word x spells = subst (SpellsPath tables x) (sym (ap (λ name. unwrap_or name []) spells.1)) spells
word_written tables of (ANumber low high) word x spells = (spells.0, spells.1, refl)
word_written tables of AnFd word x spells = fd_written x word spells
word_written tables of APoll word x spells = poll_written word x spells
word_written tables of AParam word x spells = refl
word_written tables of AMode word x spells = refl
word_written tables of AnOp word x spells = refl
word_written tables of ACond word x spells = refl
word_written tables of AValue word x spells = value_written x word spells

-- words

name_is_word : (word : List ℕ) → is_name word ≡ true → is_word word ≡ true
name_is_word word named = is_word-plain word (is_plain-name word named)

number_is_word : (n high : ℕ) (word : List ℕ) → n ≤ high → high < 2 ^ 64 → word ≡ decimal n → is_word word ≡ true
number_is_word n high word least small is = rw is (is_word-plain (decimal n) (is_plain-decimal n (omega arith)))

pub spelled_is_word : (tables : Tables) (of : ℕ) (kind : WordKind) (word : List ℕ) (x : WordValue kind) → is_small kind ≡ true → SpellsWord tables of kind x word → is_word word ≡ true
spelled_is_word tables of AName word x small spells = name_is_word word (ap is_name spells.1 ∙ spells.0)
spelled_is_word tables of AProcedure word x small spells = name_is_word word spells.0
spelled_is_word tables of AThread word x small spells = name_is_word word spells.0
spelled_is_word tables of AProcess word x small spells = name_is_word word spells.0
spelled_is_word tables of AChild word x small spells = name_is_word word spells.0.0
spelled_is_word tables of APath word x small spells = name_is_word word spells.0
spelled_is_word tables of (ANumber low high) word x small spells = number_is_word x high word spells.1 (small_number high small) spells.2
spelled_is_word tables of AnFd word x small spells = fd_is_word x word spells
spelled_is_word tables of APoll word x small spells = poll_is_word word x spells
spelled_is_word tables of AParam word x small spells = ap is_word spells ∙ param_is_word x
spelled_is_word tables of AMode word x small spells = ap is_word spells ∙ mode_is_word x
spelled_is_word tables of AnOp word x small spells = ap is_word spells ∙ op_is_word x
spelled_is_word tables of ACond word x small spells = ap is_word spells ∙ cond_is_word x
spelled_is_word tables of AValue word x small spells = value_is_word x word spells
