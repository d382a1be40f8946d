-- The laws on lines.
use Rattle.std.proofs.Common.{ℕ, List, [], ◌∷◌, Some, ap}
use Rattle.line_reader.specs.Types.{Keyword, Line}
use Rattle.line_forms.specs.declared.line.Line.TheVariants.{Create, Call, Return, Serve, Revoke, Bind, Unbind, Info, InfoQuery, GetParam, SetParam, Cred, TestCancel, Exit, Close, Dup, Attach, Detach, Open, Await, Pipe, Write, Read, PortCreate, Associate, Dissociate, Get, GetN, Send, SendN, Alert, TimerCreate, TimerSet, TimerDelete, Advance, Interrupt, Kill, Fork, Work, Ncd, Repeat, If, End}
use Rattle.line_forms.specs.Words.{AreDistinct, SpellsLine, Tables, keyword_word, line_words}
use Rattle.law_lines.specs.LineLaws.{IsReadBack, WasRead}
use Rattle.law_lines.proofs.LineFound.{line-found}
use Rattle.law_lines.proofs.LineAgain.{line-again}
use Rattle.law_lines.proofs.LineWritten.{line-written}

pub was_read-spelled : (tables : Tables) (process : ℕ) (keyword : Keyword) (words : List (List ℕ)) (line : Line) → WasRead tables process keyword words line → SpellsLine tables process line (keyword_word keyword ∷ words)
was_read-spelled tables process keyword words line was = line-found tables process keyword words line was.left was.reads was.known was.paths

pub not_empty : (tables : Tables) (process : ℕ) (line : Line) → SpellsLine tables process line [] → ⊥
not_empty tables process (Create var entry cookie attrs) spells = spells
not_empty tables process (Call var door bytes pass room) spells = spells
not_empty tables process (Return bytes pass) spells = spells
not_empty tables process Serve spells = spells
not_empty tables process (Revoke door) spells = spells
not_empty tables process (Bind door) spells = spells
not_empty tables process Unbind spells = spells
not_empty tables process (Info fd) spells = spells
not_empty tables process InfoQuery spells = spells
not_empty tables process (GetParam door what) spells = spells
not_empty tables process (SetParam door what n) spells = spells
not_empty tables process Cred spells = spells
not_empty tables process TestCancel spells = spells
not_empty tables process Exit spells = spells
not_empty tables process (Close what) spells = spells
not_empty tables process (Dup var what) spells = spells
not_empty tables process (Attach door at) spells = spells
not_empty tables process (Detach at) spells = spells
not_empty tables process (Open var at) spells = spells
not_empty tables process (Await at) spells = spells
not_empty tables process (Pipe reading writing) spells = spells
not_empty tables process (Write to bytes) spells = spells
not_empty tables process (Read var from most) spells = spells
not_empty tables process (PortCreate var) spells = spells
not_empty tables process (Associate port object events user) spells = spells
not_empty tables process (Dissociate port object) spells = spells
not_empty tables process (Get port wait) spells = spells
not_empty tables process (GetN port most least wait) spells = spells
not_empty tables process (Send port events user) spells = spells
not_empty tables process (SendN events user to) spells = spells
not_empty tables process (Alert port how events user) spells = spells
not_empty tables process (TimerCreate port user) spells = spells
not_empty tables process (TimerSet timer first interval) spells = spells
not_empty tables process (TimerDelete timer) spells = spells
not_empty tables process (Advance by) spells = spells
not_empty tables process (Interrupt whom) spells = spells
not_empty tables process (Kill whom) spells = spells
not_empty tables process (Fork begins) spells = spells
not_empty tables process (Work var what bytes) spells = spells
not_empty tables process (Ncd var bytes) spells = spells
not_empty tables process (Repeat times) spells = spells
not_empty tables process (If what) spells = spells
not_empty tables process End spells = spells

pub spelled-read_back : (tables : Tables) (process : ℕ) (line : Line) (words : List (List ℕ)) → AreDistinct tables → SpellsLine tables process line words → IsReadBack tables process line words
spelled-read_back tables process line [] distinct spells = absurd (not_empty tables process line spells)
spelled-read_back tables process line (word ∷ words) distinct spells =
    let read = line-again tables process line word words distinct spells in
    record { keyword = ap Some read.0; reads = read.1 }

pub was_read-again : (tables : Tables) (process : ℕ) (keyword : Keyword) (words : List (List ℕ)) (line : Line) → AreDistinct tables → WasRead tables process keyword words line → IsReadBack tables process line (line_words tables line)
was_read-again tables process keyword words line distinct was =
    spelled-read_back tables process line (line_words tables line) distinct (line-written tables process line (keyword_word keyword ∷ words) (was_read-spelled tables process keyword words line was))
