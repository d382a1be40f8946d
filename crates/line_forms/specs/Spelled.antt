-- Which words spell a line: from the line's values to words, one row for each command, with no reader. Two rows cite the
-- tables of Sets.antt, which the reader cites as well: a set of attributes, and a set of events of a poll.
use Rattle.std.specs.Prelude.{ℕ, ◌≡◌, ◌≤◌, ◌⊎◌, Bool, true, false, List, [], ◌∷◌, ◌++◌, Some, length, slice_get, codes, decimal}
use Rattle.line_text.specs.Types.{AlertMode, Attrs, Op, Param, PathId, Pid, PollSet, Tid}
use Rattle.line_text.specs.Words.{SpellsName, SpellsNumber, SpellsString, is_name}
use Rattle.line_forms.specs.declared.line.Cond.{Cond}
use Rattle.line_forms.specs.declared.line.FdArg.{FdArg}
use Rattle.line_forms.specs.declared.line.FdArg.TheVariants.{Number, Of as OfFd}
use Rattle.line_forms.specs.declared.line.PassArg.{PassArg}
use Rattle.line_forms.specs.declared.line.Piece.{Piece}
use Rattle.line_forms.specs.declared.line.Piece.TheVariants.{Text, Of, Fill}
use Rattle.line_forms.specs.declared.line.Line.{Line}
use Rattle.line_forms.specs.declared.line.Line.TheVariants.{Create, Call, Return, Serve, Revoke, Bind, Unbind, Info, InfoQuery, GetParam, SetParam, Cred, TestCancel, Exit, Close, Dup, Attach, Detach, Open, Await, Pipe, Write, Read, PortCreate, Associate, Dissociate, Get, GetN, Send, SendN, Alert, TimerCreate, TimerSet, TimerDelete, Advance, Interrupt, Kill, Fork, Work, Ncd, Repeat, If, End}
use Rattle.dk_base.specs.ByNumber.{at_number}
use Rattle.line_forms.specs.Tables.{Tables, ProcedureName, is_child}
use Rattle.line_forms.specs.Sets.{attributes_of, bits_of_word, poll_flags}
use Rattle.line_forms.specs.Enumerated.{param_word, mode_word, op_word, cond_word}
use Rattle.line_forms.specs.GreatestNumbers.{greatest_32, greatest_64}
use Rattle.line_forms.specs.CanonicalWords.{release_mark}

-- words

-- what is said of the words of a line from some place on
abbrev pub Spelling : Type 1
Spelling = List (List ℕ) → Type 0

-- no word is left
abbrev pub Ends : Spelling
Ends words = words ≡ []

-- one word, then others
abbrev pub First : (List ℕ → Type 0) → Spelling → Spelling
First P Next [] = ⊥
First P Next (word ∷ words) = P word × Next words

-- this word, then others
abbrev pub Then : List ℕ → Spelling → Spelling
Then keyword Next = First (λ word. word ≡ keyword) Next

-- a word for each of these, then others
abbrev pub Each : {A : Type 0} → (A → List ℕ → Type 0) → List A → Spelling → Spelling
Each Spells [] Next = Next
Each Spells (x ∷ xs) Next = First (Spells x) (Each Spells xs Next)

-- operands

abbrev pub SpellsProcess : Tables → Pid → List ℕ → Type 0
SpellsProcess tables process word = (is_name word ≡ true) × (at_number tables.processes process.0 ≡ Some word)

-- a process that stands before, where so many do
abbrev pub SpellsParent : Tables → ℕ → Pid → List ℕ → Type 0
SpellsParent tables before parent word = SpellsProcess tables parent word × (parent.0 ≤ before)

-- a child of this process
abbrev pub SpellsChild : Tables → ℕ → Pid → List ℕ → Type 0
SpellsChild tables process child word = SpellsProcess tables child word × (is_child tables process child.0 ≡ true)

abbrev pub SpellsThread : Tables → Tid → List ℕ → Type 0
SpellsThread tables thread word = (is_name word ≡ true) × (at_number tables.threads thread.0 ≡ Some word)

abbrev pub qualified_name : ℕ → List ℕ → ProcedureName
qualified_name process name = record { process = process; name = name }

-- a procedure of this process
abbrev pub SpellsProcedure : Tables → ℕ → ℕ → List ℕ → Type 0
SpellsProcedure tables process entry word = (is_name word ≡ true) × (slice_get tables.procedures entry ≡ Some (qualified_name process word))

abbrev pub SpellsPath : Tables → PathId → List ℕ → Type 0
SpellsPath tables path word = (is_name word ≡ true) × (slice_get tables.paths path.0 ≡ Some word)

-- $VAR; 36 is `$`
abbrev pub SpellsVariable : List ℕ → List ℕ → Type 0
SpellsVariable variable word = (is_name variable ≡ true) × (word ≡ 36 ∷ variable)

-- $VAR.K with K from 0 to 15; 36 is `$` and 46 is `.`
abbrev pub SpellsIndexed : List ℕ → ℕ → List ℕ → Type 0
SpellsIndexed variable k word = (is_name variable ≡ true) × (k ≤ 15) × (word ≡ 36 ∷ variable ++ 46 ∷ decimal k)

-- FD: a number from 0 to 255, $VAR for $VAR.0, or $VAR.K
abbrev pub SpellsFd : FdArg → List ℕ → Type 0
SpellsFd (Number n) word = SpellsNumber 0 255 n word
SpellsFd (OfFd variable k) word = ((k ≡ 0) × SpellsVariable variable word) ⊎ SpellsIndexed variable k word

-- PASS: an FD, with `!` at once after it for a release
pub record SpellsPass (pass : PassArg) (word : List ℕ) : Type 0 where
  pub front : List ℕ
  pub spells_fd : SpellsFd pass.fd front
  pub marked : word ≡ front ++ release_mark pass.release

-- a piece of DATA: a string, $VAR, or fill:N with N from 0 to 8192
abbrev pub SpellsPiece : Piece → List ℕ → Type 0
SpellsPiece (Text text) word = SpellsString text word
SpellsPiece (Of variable) word = SpellsVariable variable word
SpellsPiece (Fill n) word = (n ≤ 8192) × (word ≡ codes "fill:" ++ decimal n)

abbrev pub SpellsMorePieces : List Piece → Spelling → Spelling
SpellsMorePieces [] Next = Next
SpellsMorePieces (piece ∷ pieces) Next = Then (codes "+") (First (SpellsPiece piece) (SpellsMorePieces pieces Next))

-- DATA: one or more pieces, joined by the word `+`
abbrev pub SpellsPieces : List Piece → Spelling → Spelling
SpellsPieces [] Next words = ⊥
SpellsPieces (piece ∷ pieces) Next words = First (SpellsPiece piece) (SpellsMorePieces pieces Next) words

-- nothing, or `desc PASS ..` (1 to 32)
abbrev pub SpellsPassList : List PassArg → Spelling → Spelling
SpellsPassList [] Next words = Next words
SpellsPassList (pass ∷ passes) Next words = (length (pass ∷ passes) ≤ 32) × Then (codes "desc") (Each SpellsPass (pass ∷ passes) Next) words

-- nothing for 4096, or `rsize N`
abbrev pub SpellsRsize : ℕ → Spelling → Spelling
SpellsRsize rsize Next words = ((rsize ≡ 4096) × Next words) ⊎ Then (codes "rsize") (First (SpellsNumber 0 greatest_64 rsize) Next) words

-- FD .. (1 to 16) to the line's end
abbrev pub SpellsPorts : List FdArg → Spelling
SpellsPorts fds words = (1 ≤ length fds) × (length fds ≤ 16) × Each SpellsFd fds Ends words

-- ATTR .. to the line's end: each names an attribute, each at most once, and together they are the set
abbrev pub SpellsAttributes : Attrs → Spelling
SpellsAttributes set words = attributes_of words ≡ Some set

-- POLL
abbrev pub SpellsPoll : PollSet → List ℕ → Type 0
SpellsPoll set word = bits_of_word poll_flags word ≡ Some set.0

-- PARAM
abbrev pub SpellsParam : Param → List ℕ → Type 0
SpellsParam param word = word ≡ param_word param

-- MODE
abbrev pub SpellsMode : AlertMode → List ℕ → Type 0
SpellsMode mode word = word ≡ mode_word mode

-- OP
abbrev pub SpellsOp : Op → List ℕ → Type 0
SpellsOp op word = word ≡ op_word op

-- COND
abbrev pub SpellsCond : Cond → List ℕ → Type 0
SpellsCond cond word = word ≡ cond_word cond

-- the N of `setparam`: a number, or `max` for the greatest
abbrev pub SpellsValue : ℕ → List ℕ → Type 0
SpellsValue value word = ((value ≡ greatest_64) × (word ≡ codes "max")) ⊎ SpellsNumber 0 greatest_64 value word

-- nothing, or `nowait`
abbrev pub SpellsWait : Bool → Spelling
SpellsWait true = Ends
SpellsWait false = Then (codes "nowait") Ends

-- lines

-- these words spell the line, in a body of this process
abbrev pub SpellsLine : Tables → ℕ → Line → Spelling
SpellsLine tables process (Create var entry cookie attrs) = Then (codes "create") (First (SpellsName var) (First (SpellsProcedure tables process entry) (First (SpellsNumber 0 greatest_64 cookie) (SpellsAttributes attrs))))
SpellsLine tables process (Call var fd bytes pass rsize) = Then (codes "call") (First (SpellsName var) (First (SpellsFd fd) (SpellsPieces bytes (SpellsPassList pass (SpellsRsize rsize Ends)))))
SpellsLine tables process (Return bytes pass) = Then (codes "return") (SpellsPieces bytes (SpellsPassList pass Ends))
SpellsLine tables process Serve = Then (codes "serve") Ends
SpellsLine tables process (Revoke fd) = Then (codes "revoke") (First (SpellsFd fd) Ends)
SpellsLine tables process (Bind fd) = Then (codes "bind") (First (SpellsFd fd) Ends)
SpellsLine tables process Unbind = Then (codes "unbind") Ends
SpellsLine tables process (Info fd) = Then (codes "info") (First (SpellsFd fd) Ends)
SpellsLine tables process InfoQuery = Then (codes "info") (Then (codes "query") Ends)
SpellsLine tables process (GetParam fd param) = Then (codes "getparam") (First (SpellsFd fd) (First (SpellsParam param) Ends))
SpellsLine tables process (SetParam fd param value) = Then (codes "setparam") (First (SpellsFd fd) (First (SpellsParam param) (First (SpellsValue value) Ends)))
SpellsLine tables process Cred = Then (codes "cred") Ends
SpellsLine tables process TestCancel = Then (codes "testcancel") Ends
SpellsLine tables process Exit = Then (codes "exit") Ends
SpellsLine tables process (Close fd) = Then (codes "close") (First (SpellsFd fd) Ends)
SpellsLine tables process (Dup var fd) = Then (codes "dup") (First (SpellsName var) (First (SpellsFd fd) Ends))
SpellsLine tables process (Attach fd path) = Then (codes "attach") (First (SpellsFd fd) (First (SpellsPath tables path) Ends))
SpellsLine tables process (Detach path) = Then (codes "detach") (First (SpellsPath tables path) Ends)
SpellsLine tables process (Open var path) = Then (codes "open") (First (SpellsName var) (First (SpellsPath tables path) Ends))
SpellsLine tables process (Await path) = Then (codes "await") (First (SpellsPath tables path) Ends)
SpellsLine tables process (Pipe reading writing) = Then (codes "pipe") (First (SpellsName reading) (First (SpellsName writing) Ends))
SpellsLine tables process (Write fd bytes) = Then (codes "write") (First (SpellsFd fd) (SpellsPieces bytes Ends))
SpellsLine tables process (Read var fd most) = Then (codes "read") (First (SpellsName var) (First (SpellsFd fd) (First (SpellsNumber 1 4096 most) Ends)))
SpellsLine tables process (PortCreate var) = Then (codes "pcreate") (First (SpellsName var) Ends)
SpellsLine tables process (Associate port object events user) = Then (codes "associate") (First (SpellsFd port) (First (SpellsFd object) (First (SpellsPoll events) (First (SpellsNumber 0 greatest_64 user) Ends))))
SpellsLine tables process (Dissociate port object) = Then (codes "dissociate") (First (SpellsFd port) (First (SpellsFd object) Ends))
SpellsLine tables process (Get port wait) = Then (codes "get") (First (SpellsFd port) (SpellsWait wait))
SpellsLine tables process (GetN port most least wait) = Then (codes "getn") (First (SpellsFd port) (First (SpellsNumber 0 64 most) (First (SpellsNumber 0 64 least) (SpellsWait wait))))
SpellsLine tables process (Send port events user) = Then (codes "send") (First (SpellsFd port) (First (SpellsNumber 0 greatest_32 events) (First (SpellsNumber 0 greatest_64 user) Ends)))
SpellsLine tables process (SendN events user ports) = Then (codes "sendn") (First (SpellsNumber 0 greatest_32 events) (First (SpellsNumber 0 greatest_64 user) (SpellsPorts ports)))
SpellsLine tables process (Alert port mode events user) = Then (codes "alert") (First (SpellsFd port) (First (SpellsMode mode) (First (SpellsNumber 0 greatest_32 events) (First (SpellsNumber 0 greatest_64 user) Ends))))
SpellsLine tables process (TimerCreate port user) = Then (codes "tcreate") (First (SpellsFd port) (First (SpellsNumber 0 greatest_64 user) Ends))
SpellsLine tables process (TimerSet timer first interval) = Then (codes "tset") (First (SpellsNumber 0 31 timer) (First (SpellsNumber 0 1000000000 first) (First (SpellsNumber 0 1000000000 interval) Ends)))
SpellsLine tables process (TimerDelete timer) = Then (codes "tdelete") (First (SpellsNumber 0 31 timer) Ends)
SpellsLine tables process (Advance by) = Then (codes "advance") (First (SpellsNumber 1 10000 by) Ends)
SpellsLine tables process (Interrupt thread) = Then (codes "interrupt") (First (SpellsThread tables thread) Ends)
SpellsLine tables process (Kill whom) = Then (codes "kill") (First (SpellsProcess tables whom) Ends)
SpellsLine tables process (Fork child) = Then (codes "fork") (First (SpellsChild tables process child) Ends)
SpellsLine tables process (Work var op bytes) = Then (codes "work") (First (SpellsName var) (First (SpellsOp op) (SpellsPieces bytes Ends)))
SpellsLine tables process (Ncd var bytes) = Then (codes "ncd") (First (SpellsName var) (SpellsPieces bytes Ends))
SpellsLine tables process (Repeat times) = Then (codes "repeat") (First (SpellsNumber 1 1000000 times) Ends)
SpellsLine tables process (If cond) = Then (codes "if") (First (SpellsCond cond) Ends)
SpellsLine tables process End = Then (codes "end") Ends
