-- The words that spell a line have printable bytes alone.
use Rattle.std.proofs.Common.{◌≡◌, ℕ, ◌<◌, ◌^◌, Bool, true, false, List, [], ◌∷◌, Option, Some, None, refl, ap, ◌∙◌, inl, inr, arith}
use Rattle.std.specs.Prelude.{codes, decimal, option_map, option_and_then}
use Rattle.std.specs.List.{list_all}
use Rattle.std.proofs.lemmas.Bool.{and_parts, and_from}
use Rattle.line_text.specs.Types.{AlertMode, Attrs, Errno, Op, Param}
use Rattle.dk_base.specs.declared.request.AlertMode.TheVariants.{Set, Update, Nothing}
use Rattle.dk_base.specs.declared.request.Op.TheVariants.{Upper, Reverse, Sum, Digest}
use Rattle.dk_base.specs.declared.request.Param.TheVariants.{DataMax, DataMin, DescMax}
use Rattle.dk_base.specs.declared.error.Errno.TheVariants.{E2BIG, EAGAIN, EBADF, EBADFD, EBUSY, EINTR, EINVAL, EMFILE, ENFILE, ENOBUFS, ENOENT, ENOTSUP, EPERM, EPIPE, ETIME}
use Rattle.dk_base.specs.Words.{errno_name}
use Rattle.std.proofs.lemmas.Slice.Eq.{bytes_eq-Decides}
use Rattle.line_text.specs.Words.{SpellsNumber}
use Rattle.line_text.proofs.PrintableWords.{are_printable, are_printable-append, are_printable-decimal, are_printable-name, are_printable-string}
use Rattle.line_reader.specs.Types.{Cond, FdArg, Line, PassArg, Piece}
use Rattle.line_forms.specs.declared.line.Cond.TheVariants.{Good, Yes, Unref, Errno as ErrnoCond}
use Rattle.line_forms.specs.declared.line.FdArg.TheVariants.{Number, Of as OfFd}
use Rattle.line_forms.specs.declared.line.Piece.TheVariants.{Text, Of, Fill}
use Rattle.line_forms.specs.declared.line.Line.TheVariants.{Create, Call, Return, Serve, Revoke, Bind, Unbind, Info, InfoQuery, GetParam, SetParam, Cred, TestCancel, Exit, Close, Dup, Attach, Detach, Open, Await, Pipe, Write, Read, PortCreate, Associate, Dissociate, Get, GetN, Send, SendN, Alert, TimerCreate, TimerSet, TimerDelete, Advance, Interrupt, Kill, Fork, Work, Ncd, Repeat, If, End}
use Rattle.line_forms.specs.Words.{Each, Ends, First, Flag, Spelling, SpellsFd, SpellsIndexed, SpellsLine, SpellsMorePieces, SpellsPass, SpellsPassList, SpellsPiece, SpellsPieces, SpellsRsize, SpellsVariable, SpellsWait, Tables, Then, attribute_flags, bits_of_word, cond_word, greatest_32, greatest_64, is_word_of, mode_word, op_word, param_word, poll_flags, release_mark, set_from, with_bits}
use Rattle.line_forms.proofs.Numbering.{no_value}
use Rattle.law_lines.proofs.WordKinds.{WordKind, WordValue, SpellsWord, is_small, small_number, AName, AProcedure, AThread, AProcess, AChild, APath, ANumber, AnFd, APoll, AParam, AMode, AnOp, ACond, AValue}
use Rattle.law_lines.proofs.LastOperands.{Last, LastValue, SpellsLast, NoMore, TheAttributes, TheWait, ThePorts, TheData, DataPasses, DataPassesRsize}
use Rattle.law_lines.proofs.Formats.{Values, SpellsAll, all_small}

-- words

number_printable : (n low high : ℕ) (word : List ℕ) → high < 2 ^ 64 → SpellsNumber low high n word → are_printable word ≡ true
number_printable n low high word small spells = ap are_printable spells.2 ∙ are_printable-decimal n (let most = spells.1 in omega arith)

variable_printable : (variable word : List ℕ) → SpellsVariable variable word → are_printable word ≡ true
variable_printable variable word spells = ap are_printable spells.1 ∙ are_printable-name variable spells.0

indexed_printable : (variable word : List ℕ) (k : ℕ) → SpellsIndexed variable k word → are_printable word ≡ true
indexed_printable variable word k spells =
    let least = spells.1 in
    ap are_printable spells.2 ∙ are_printable-append (36 ∷ variable) (46 ∷ decimal k) (are_printable-name variable spells.0) (are_printable-decimal k (omega arith))

fd_printable : (fd : FdArg) (word : List ℕ) → SpellsFd fd word → are_printable word ≡ true
fd_printable (Number n) word spells = number_printable n 0 255 word (omega arith) spells
fd_printable (OfFd variable k) word (inl plain) = variable_printable variable word plain.1
fd_printable (OfFd variable k) word (inr indexed) = indexed_printable variable word k indexed

mark_printable : (release : Bool) → are_printable (release_mark release) ≡ true
mark_printable true = refl
mark_printable false = refl

pass_printable : (pass : PassArg) (word : List ℕ) → SpellsPass pass word → are_printable word ≡ true
pass_printable pass word spells = ap are_printable spells.marked ∙ are_printable-append spells.front (release_mark pass.release) (fd_printable pass.fd spells.front spells.spells_fd) (mark_printable pass.release)

piece_printable : (piece : Piece) (word : List ℕ) → SpellsPiece piece word → are_printable word ≡ true
piece_printable (Text text) word spells = are_printable-string text word spells
piece_printable (Of variable) word spells = variable_printable variable word spells
piece_printable (Fill n) word spells = let most = spells.0 in ap are_printable spells.1 ∙ are_printable-append (codes "fill:") (decimal n) refl (are_printable-decimal n (omega arith))

param_printable : (param : Param) → are_printable (param_word param) ≡ true
param_printable DataMax = refl
param_printable DataMin = refl
param_printable DescMax = refl

mode_printable : (mode : AlertMode) → are_printable (mode_word mode) ≡ true
mode_printable Set = refl
mode_printable Update = refl
mode_printable Nothing = refl

op_printable : (op : Op) → are_printable (op_word op) ≡ true
op_printable Upper = refl
op_printable Reverse = refl
op_printable Sum = refl
op_printable Digest = refl

errno_printable : (errno : Errno) → are_printable (errno_name errno) ≡ true
errno_printable E2BIG = refl
errno_printable EAGAIN = refl
errno_printable EBADF = refl
errno_printable EBADFD = refl
errno_printable EBUSY = refl
errno_printable EINTR = refl
errno_printable EINVAL = refl
errno_printable EMFILE = refl
errno_printable ENFILE = refl
errno_printable ENOBUFS = refl
errno_printable ENOENT = refl
errno_printable ENOTSUP = refl
errno_printable EPERM = refl
errno_printable EPIPE = refl
errno_printable ETIME = refl

cond_printable : (of : Cond) → are_printable (cond_word of) ≡ true
cond_printable Good = refl
cond_printable Yes = refl
cond_printable Unref = refl
cond_printable (ErrnoCond errno) = errno_printable errno

-- a table's word
flag_printable : (flags : List Flag) (word : List ℕ) (bits : ℕ) → list_all (λ f. are_printable f.word) flags ≡ true → bits_of_word flags word ≡ Some bits → are_printable word ≡ true
flag_printable [] word bits all is = cc
flag_printable (f ∷ flags) word bits all is =
    let parts = and_parts (are_printable f.word) (list_all (λ g. are_printable g.word) flags) all in
    at (is_word_of word f) refl parts.0 (flag_printable flags word bits parts.1) is
  where
    at : (test : Bool) → is_word_of word f ≡ test → are_printable f.word ≡ true → (bits_of_word flags word ≡ Some bits → are_printable word ≡ true) → bits_of_word (f ∷ flags) word ≡ Some bits → are_printable word ≡ true
    at true test first later is = ap are_printable ((bytes_eq-Decides word f.word).0 test) ∙ first
    at false test first later is = later (rw test at is)

word_printable : (tables : Tables) (of : ℕ) (kind : WordKind) (x : WordValue kind) (word : List ℕ) → is_small kind ≡ true → SpellsWord tables of kind x word → are_printable word ≡ true
word_printable tables of AName x word small spells = ap are_printable spells.1 ∙ are_printable-name x spells.0
word_printable tables of AProcedure x word small spells = are_printable-name word spells.0
word_printable tables of AThread x word small spells = are_printable-name word spells.0
word_printable tables of AProcess x word small spells = are_printable-name word spells.0
word_printable tables of AChild x word small spells = are_printable-name word spells.0.0
word_printable tables of APath x word small spells = are_printable-name word spells.0
word_printable tables of (ANumber low high) x word small spells = number_printable x low high word (small_number high small) spells
word_printable tables of AnFd x word small spells = fd_printable x word spells
word_printable tables of APoll x word small spells = flag_printable poll_flags word x.0 refl spells
word_printable tables of AParam x word small spells = ap are_printable spells ∙ param_printable x
word_printable tables of AMode x word small spells = ap are_printable spells ∙ mode_printable x
word_printable tables of AnOp x word small spells = ap are_printable spells ∙ op_printable x
word_printable tables of ACond x word small spells = ap are_printable spells ∙ cond_printable x
word_printable tables of AValue x word small (inl greatest) = ap are_printable greatest.1
word_printable tables of AValue x word small (inr number) = number_printable x 0 greatest_64 word (omega arith) number

-- several words

abbrev pub Printable : List (List ℕ) → Type 0
Printable words = list_all are_printable words ≡ true

abbrev IsPrintable : Spelling → Type 0
IsPrintable Next = (words : List (List ℕ)) → Next words → Printable words

ends_printable : IsPrintable Ends
ends_printable words spells = ap (list_all are_printable) spells

pub first_printable : (P : List ℕ → Type 0) (Next : Spelling) → ((word : List ℕ) → P word → are_printable word ≡ true) → IsPrintable Next → IsPrintable (First P Next)
first_printable P Next first later [] spells = refl
first_printable P Next first later (word ∷ words) spells = and_from _ _ (first word spells.0) (later words spells.1)

then_printable : (keyword : List ℕ) (Next : Spelling) → are_printable keyword ≡ true → IsPrintable Next → IsPrintable (Then keyword Next)
then_printable keyword Next first later = first_printable (λ word. word ≡ keyword) Next (λ word is. ap are_printable is ∙ first) later

each_printable : {A : Type 0} (Spells : A → List ℕ → Type 0) → ((x : A) (word : List ℕ) → Spells x word → are_printable word ≡ true) → (Next : Spelling) → IsPrintable Next → (xs : List A) → IsPrintable (Each Spells xs Next)
each_printable Spells one Next later [] = later
each_printable Spells one Next later (x ∷ xs) = first_printable (Spells x) (Each Spells xs Next) (one x) (each_printable Spells one Next later xs)

more_printable : (Next : Spelling) → IsPrintable Next → (pieces : List Piece) → IsPrintable (SpellsMorePieces pieces Next)
more_printable Next later [] = later
more_printable Next later (piece ∷ pieces) =
    then_printable (codes "+") (First (SpellsPiece piece) (SpellsMorePieces pieces Next)) refl (
    first_printable (SpellsPiece piece) (SpellsMorePieces pieces Next) (piece_printable piece) (more_printable Next later pieces))

pieces_printable : (Next : Spelling) → IsPrintable Next → (pieces : List Piece) → IsPrintable (SpellsPieces pieces Next)
pieces_printable Next later [] words spells = absurd spells
pieces_printable Next later (piece ∷ pieces) words spells = first_printable (SpellsPiece piece) (SpellsMorePieces pieces Next) (piece_printable piece) (more_printable Next later pieces) words spells

passes_printable : (Next : Spelling) → IsPrintable Next → (passes : List PassArg) → IsPrintable (SpellsPassList passes Next)
passes_printable Next later [] words spells = later words spells
passes_printable Next later (pass ∷ passes) words spells = then_printable (codes "desc") (Each SpellsPass (pass ∷ passes) Next) refl (each_printable SpellsPass pass_printable Next later (pass ∷ passes)) words spells.1

rsize_printable : (room : ℕ) → IsPrintable (SpellsRsize room Ends)
rsize_printable room words (inl nothing) = ends_printable words nothing.1
rsize_printable room words (inr some) =
    then_printable (codes "rsize") (First (SpellsNumber 0 greatest_64 room) Ends) refl (
    first_printable (SpellsNumber 0 greatest_64 room) Ends (λ word spells. number_printable room 0 greatest_64 word (omega arith) spells) ends_printable) words some

set_printable : (words : List (List ℕ)) (more : Option ℕ) (found : ℕ) → ((n : ℕ) → set_from n words ≡ Some found → Printable words) → option_and_then (λ n. set_from n words) more ≡ Some found → Printable words
set_printable words None found later is = cc
set_printable words (Some n) found later is = later n is

flags_printable : (word : List ℕ) (words : List (List ℕ)) (set found : ℕ) (bits : Option ℕ) → bits_of_word attribute_flags word ≡ bits → ((n : ℕ) → set_from n words ≡ Some found → Printable words)
    → option_and_then (λ n. set_from n words) (option_and_then (with_bits set) bits) ≡ Some found → Printable (word ∷ words)
flags_printable word words set found None first later is = cc
flags_printable word words set found (Some bits) first later is = and_from _ _ (flag_printable attribute_flags word bits refl first) (set_printable words (with_bits set bits) found later is)

set_from_printable : (words : List (List ℕ)) (set found : ℕ) → set_from set words ≡ Some found → Printable words
set_from_printable [] set found is = refl
set_from_printable (word ∷ words) set found is = flags_printable word words set found (bits_of_word attribute_flags word) refl (λ n e. set_from_printable words n found e) is

attributes_printable : (words : List (List ℕ)) (set : Attrs) (found : Option ℕ) → set_from 0 words ≡ found → option_map (λ bits. record { 0 = bits }) found ≡ Some set → Printable words
attributes_printable words set None is e = absurd (no_value e)
attributes_printable words set (Some bits) is e = set_from_printable words 0 bits is

wait_printable : (wait : Bool) → IsPrintable (SpellsWait wait)
wait_printable true words spells = ends_printable words spells
wait_printable false words spells = then_printable (codes "nowait") Ends refl ends_printable words spells

last_printable : (last : Last) (x : LastValue last) → IsPrintable (SpellsLast last x)
last_printable NoMore x words spells = ends_printable words spells
last_printable TheAttributes x words spells = attributes_printable words x (set_from 0 words) refl spells
last_printable TheWait x words spells = wait_printable x words spells
last_printable ThePorts x words spells = each_printable SpellsFd fd_printable Ends ends_printable x words spells.2
last_printable TheData x words spells = pieces_printable Ends ends_printable x words spells
last_printable DataPasses x words spells = pieces_printable (SpellsPassList x.1 Ends) (passes_printable Ends ends_printable x.1) x.0 words spells
last_printable DataPassesRsize x words spells = pieces_printable (SpellsPassList x.1 (SpellsRsize x.2 Ends)) (passes_printable (SpellsRsize x.2 Ends) (rsize_printable x.2) x.1) x.0 words spells

all_printable : (tables : Tables) (of : ℕ) (kinds : List WordKind) (last : Last) (xs : Values kinds last) → all_small kinds ≡ true → IsPrintable (SpellsAll tables of kinds last xs)
all_printable tables of [] last xs small words spells = last_printable last xs words spells
all_printable tables of (kind ∷ kinds) last xs small words spells =
    let parts = and_parts (is_small kind) (all_small kinds) small in
    first_printable (SpellsWord tables of kind xs.0) (SpellsAll tables of kinds last xs.1) (λ word one. word_printable tables of kind xs.0 word parts.0 one) (all_printable tables of kinds last xs.1 parts.1) words spells

-- a line of such operands after its keyword
by_format : (tables : Tables) (of : ℕ) (kinds : List WordKind) (last : Last) (xs : Values kinds last) (keyword : List ℕ) → all_small kinds ≡ true → are_printable keyword ≡ true → IsPrintable (Then keyword (SpellsAll tables of kinds last xs))
by_format tables of kinds last xs keyword small first = then_printable keyword (SpellsAll tables of kinds last xs) first (all_printable tables of kinds last xs small)

pub line_printable : (tables : Tables) (of : ℕ) (line : Line) (words : List (List ℕ)) → SpellsLine tables of line words → Printable words
line_printable tables of line [] spells = refl
line_printable tables of (Create var entry cookie attrs) (word ∷ words) spells = by_format tables of (AName ∷ AProcedure ∷ ANumber 0 greatest_64 ∷ []) TheAttributes (var, (entry, (cookie, attrs))) (codes "create") refl refl (word ∷ words) spells
line_printable tables of (Call var door bytes pass room) (word ∷ words) spells = by_format tables of (AName ∷ AnFd ∷ []) DataPassesRsize (var, (door, (bytes, pass, room))) (codes "call") refl refl (word ∷ words) spells
line_printable tables of (Return bytes pass) (word ∷ words) spells = by_format tables of [] DataPasses (bytes, pass) (codes "return") refl refl (word ∷ words) spells
line_printable tables of Serve (word ∷ words) spells = by_format tables of [] NoMore tt (codes "serve") refl refl (word ∷ words) spells
line_printable tables of (Revoke door) (word ∷ words) spells = by_format tables of (AnFd ∷ []) NoMore (door, tt) (codes "revoke") refl refl (word ∷ words) spells
line_printable tables of (Bind door) (word ∷ words) spells = by_format tables of (AnFd ∷ []) NoMore (door, tt) (codes "bind") refl refl (word ∷ words) spells
line_printable tables of Unbind (word ∷ words) spells = by_format tables of [] NoMore tt (codes "unbind") refl refl (word ∷ words) spells
line_printable tables of (Info door) (word ∷ words) spells = by_format tables of (AnFd ∷ []) NoMore (door, tt) (codes "info") refl refl (word ∷ words) spells
line_printable tables of (GetParam door what) (word ∷ words) spells = by_format tables of (AnFd ∷ AParam ∷ []) NoMore (door, (what, tt)) (codes "getparam") refl refl (word ∷ words) spells
line_printable tables of (SetParam door what n) (word ∷ words) spells = by_format tables of (AnFd ∷ AParam ∷ AValue ∷ []) NoMore (door, (what, (n, tt))) (codes "setparam") refl refl (word ∷ words) spells
line_printable tables of Cred (word ∷ words) spells = by_format tables of [] NoMore tt (codes "cred") refl refl (word ∷ words) spells
line_printable tables of TestCancel (word ∷ words) spells = by_format tables of [] NoMore tt (codes "testcancel") refl refl (word ∷ words) spells
line_printable tables of Exit (word ∷ words) spells = by_format tables of [] NoMore tt (codes "exit") refl refl (word ∷ words) spells
line_printable tables of (Close what) (word ∷ words) spells = by_format tables of (AnFd ∷ []) NoMore (what, tt) (codes "close") refl refl (word ∷ words) spells
line_printable tables of (Dup var what) (word ∷ words) spells = by_format tables of (AName ∷ AnFd ∷ []) NoMore (var, (what, tt)) (codes "dup") refl refl (word ∷ words) spells
line_printable tables of (Attach door at) (word ∷ words) spells = by_format tables of (AnFd ∷ APath ∷ []) NoMore (door, (at, tt)) (codes "attach") refl refl (word ∷ words) spells
line_printable tables of (Detach at) (word ∷ words) spells = by_format tables of (APath ∷ []) NoMore (at, tt) (codes "detach") refl refl (word ∷ words) spells
line_printable tables of (Open var at) (word ∷ words) spells = by_format tables of (AName ∷ APath ∷ []) NoMore (var, (at, tt)) (codes "open") refl refl (word ∷ words) spells
line_printable tables of (Await at) (word ∷ words) spells = by_format tables of (APath ∷ []) NoMore (at, tt) (codes "await") refl refl (word ∷ words) spells
line_printable tables of (Pipe reading writing) (word ∷ words) spells = by_format tables of (AName ∷ AName ∷ []) NoMore (reading, (writing, tt)) (codes "pipe") refl refl (word ∷ words) spells
line_printable tables of (Write to bytes) (word ∷ words) spells = by_format tables of (AnFd ∷ []) TheData (to, bytes) (codes "write") refl refl (word ∷ words) spells
line_printable tables of (Read var from most) (word ∷ words) spells = by_format tables of (AName ∷ AnFd ∷ ANumber 1 4096 ∷ []) NoMore (var, (from, (most, tt))) (codes "read") refl refl (word ∷ words) spells
line_printable tables of (PortCreate var) (word ∷ words) spells = by_format tables of (AName ∷ []) NoMore (var, tt) (codes "pcreate") refl refl (word ∷ words) spells
line_printable tables of (Associate port object events user) (word ∷ words) spells = by_format tables of (AnFd ∷ AnFd ∷ APoll ∷ ANumber 0 greatest_64 ∷ []) NoMore (port, (object, (events, (user, tt)))) (codes "associate") refl refl (word ∷ words) spells
line_printable tables of (Dissociate port object) (word ∷ words) spells = by_format tables of (AnFd ∷ AnFd ∷ []) NoMore (port, (object, tt)) (codes "dissociate") refl refl (word ∷ words) spells
line_printable tables of (Get port wait) (word ∷ words) spells = by_format tables of (AnFd ∷ []) TheWait (port, wait) (codes "get") refl refl (word ∷ words) spells
line_printable tables of (GetN port most least wait) (word ∷ words) spells = by_format tables of (AnFd ∷ ANumber 0 64 ∷ ANumber 0 64 ∷ []) TheWait (port, (most, (least, wait))) (codes "getn") refl refl (word ∷ words) spells
line_printable tables of (Send port events user) (word ∷ words) spells = by_format tables of (AnFd ∷ ANumber 0 greatest_32 ∷ ANumber 0 greatest_64 ∷ []) NoMore (port, (events, (user, tt))) (codes "send") refl refl (word ∷ words) spells
line_printable tables of (SendN events user to) (word ∷ words) spells = by_format tables of (ANumber 0 greatest_32 ∷ ANumber 0 greatest_64 ∷ []) ThePorts (events, (user, to)) (codes "sendn") refl refl (word ∷ words) spells
line_printable tables of (Alert port how events user) (word ∷ words) spells = by_format tables of (AnFd ∷ AMode ∷ ANumber 0 greatest_32 ∷ ANumber 0 greatest_64 ∷ []) NoMore (port, (how, (events, (user, tt)))) (codes "alert") refl refl (word ∷ words) spells
line_printable tables of (TimerCreate port user) (word ∷ words) spells = by_format tables of (AnFd ∷ ANumber 0 greatest_64 ∷ []) NoMore (port, (user, tt)) (codes "tcreate") refl refl (word ∷ words) spells
line_printable tables of (TimerSet timer first interval) (word ∷ words) spells = by_format tables of (ANumber 0 31 ∷ ANumber 0 1000000000 ∷ ANumber 0 1000000000 ∷ []) NoMore (timer, (first, (interval, tt))) (codes "tset") refl refl (word ∷ words) spells
line_printable tables of (TimerDelete timer) (word ∷ words) spells = by_format tables of (ANumber 0 31 ∷ []) NoMore (timer, tt) (codes "tdelete") refl refl (word ∷ words) spells
line_printable tables of (Advance by) (word ∷ words) spells = by_format tables of (ANumber 1 10000 ∷ []) NoMore (by, tt) (codes "advance") refl refl (word ∷ words) spells
line_printable tables of (Interrupt whom) (word ∷ words) spells = by_format tables of (AThread ∷ []) NoMore (whom, tt) (codes "interrupt") refl refl (word ∷ words) spells
line_printable tables of (Kill whom) (word ∷ words) spells = by_format tables of (AProcess ∷ []) NoMore (whom, tt) (codes "kill") refl refl (word ∷ words) spells
line_printable tables of (Fork begins) (word ∷ words) spells = by_format tables of (AChild ∷ []) NoMore (begins, tt) (codes "fork") refl refl (word ∷ words) spells
line_printable tables of (Work var what bytes) (word ∷ words) spells = by_format tables of (AName ∷ AnOp ∷ []) TheData (var, (what, bytes)) (codes "work") refl refl (word ∷ words) spells
line_printable tables of (Ncd var bytes) (word ∷ words) spells = by_format tables of (AName ∷ []) TheData (var, bytes) (codes "ncd") refl refl (word ∷ words) spells
line_printable tables of (Repeat times) (word ∷ words) spells = by_format tables of (ANumber 1 1000000 ∷ []) NoMore (times, tt) (codes "repeat") refl refl (word ∷ words) spells
line_printable tables of (If what) (word ∷ words) spells = by_format tables of (ACond ∷ []) NoMore (what, tt) (codes "if") refl refl (word ∷ words) spells
line_printable tables of End (word ∷ words) spells = by_format tables of [] NoMore tt (codes "end") refl refl (word ∷ words) spells
line_printable tables of InfoQuery (word ∷ words) spells = then_printable (codes "info") (Then (codes "query") Ends) refl (then_printable (codes "query") Ends refl ends_printable) (word ∷ words) spells
