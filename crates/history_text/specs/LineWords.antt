-- How a line is written.
use Rattle.std.specs.Prelude.{ℕ, Bool, true, false, List, [], ◌∷◌, ◌++◌, flat_map, map, codes, decimal}
use Rattle.dk_base.specs.declared.request.Request.TheVariants as request
use Rattle.line_text.specs.Words.{joined_words, quoted_text}
use Rattle.line_forms.specs.Words.{attribute_words, mode_word, param_word, poll_word, release_mark, value_word, wait_words}
use Rattle.spec_requests.specs.Words.{what_word}
use Rattle.history_text.specs.declared.line.Asked.TheVariants.{Enter, GoOn}
use Rattle.history_text.specs.declared.line.Ending.TheVariants.{Complete, Stalled, Open}
use Rattle.history_text.specs.declared.line.Line.TheVariants.{Process, Child, Name, Procedure, Path, Event, End}
use Rattle.history_text.specs.Types.{Asked, Ending, Fd, Line, Member, Pass, Request}
use Rattle.history_text.specs.Names.{Names}
use Rattle.history_text.specs.Lookups.{path_word, procedure_word, process_word, thread_word}

-- the first line of a history
abbrev pub header : List ℕ
header = codes "doors history 1"

-- requests

abbrev pub fd_word : Fd → List ℕ
fd_word fd = decimal fd.0

abbrev pub pass_word : Pass → List ℕ
pass_word pass = fd_word pass.fd ++ release_mark pass.release

abbrev pub desc_words : List Pass → List (List ℕ)
desc_words [] = []
desc_words (pass ∷ passes) = codes "desc" ∷ map pass_word (pass ∷ passes)

-- The words of a request. A task and a line for a name table have no place in a history; they have words so that each request does.
abbrev pub request_words : Names → Request → List (List ℕ)
request_words names (request.Create entry cookie attrs) = codes "create" ∷ procedure_word names entry ∷ decimal cookie ∷ attribute_words attrs
request_words names (request.Call door bytes pass rsize) = codes "call" ∷ fd_word door ∷ quoted_text bytes ∷ desc_words pass ++ codes "rsize" ∷ decimal rsize ∷ []
request_words names (request.Return bytes pass) = codes "return" ∷ quoted_text bytes ∷ desc_words pass
request_words names (request.Revoke fd) = codes "revoke" ∷ fd_word fd ∷ []
request_words names (request.Bind fd) = codes "bind" ∷ fd_word fd ∷ []
request_words names request.Unbind = codes "unbind" ∷ []
request_words names (request.Info fd) = codes "info" ∷ fd_word fd ∷ []
request_words names request.InfoQuery = codes "info" ∷ codes "query" ∷ []
request_words names (request.GetParam fd param) = codes "getparam" ∷ fd_word fd ∷ param_word param ∷ []
request_words names (request.SetParam fd param value) = codes "setparam" ∷ fd_word fd ∷ param_word param ∷ value_word value ∷ []
request_words names request.Cred = codes "cred" ∷ []
request_words names request.TestCancel = codes "testcancel" ∷ []
request_words names (request.Close fd) = codes "close" ∷ fd_word fd ∷ []
request_words names (request.Dup fd) = codes "dup" ∷ fd_word fd ∷ []
request_words names (request.Attach fd path) = codes "attach" ∷ fd_word fd ∷ path_word names path ∷ []
request_words names (request.Detach path) = codes "detach" ∷ path_word names path ∷ []
request_words names (request.Open path) = codes "open" ∷ path_word names path ∷ []
request_words names (request.Await path) = codes "await" ∷ path_word names path ∷ []
request_words names request.Pipe = codes "pipe" ∷ []
request_words names (request.Write fd bytes) = codes "write" ∷ fd_word fd ∷ quoted_text bytes ∷ []
request_words names (request.Read fd most) = codes "read" ∷ fd_word fd ∷ decimal most ∷ []
request_words names request.PortCreate = codes "pcreate" ∷ []
request_words names (request.Associate port object events user) = codes "associate" ∷ fd_word port ∷ fd_word object ∷ poll_word events ∷ decimal user ∷ []
request_words names (request.Dissociate port object) = codes "dissociate" ∷ fd_word port ∷ fd_word object ∷ []
request_words names (request.Get port wait) = codes "get" ∷ fd_word port ∷ wait_words wait
request_words names (request.GetN port most least wait) = codes "getn" ∷ fd_word port ∷ decimal most ∷ decimal least ∷ wait_words wait
request_words names (request.Send port events user) = codes "send" ∷ fd_word port ∷ decimal events ∷ decimal user ∷ []
request_words names (request.SendN ports events user) = codes "sendn" ∷ decimal events ∷ decimal user ∷ map fd_word ports
request_words names (request.Alert port mode events user) = codes "alert" ∷ fd_word port ∷ mode_word mode ∷ decimal events ∷ decimal user ∷ []
request_words names (request.TimerCreate port user) = codes "tcreate" ∷ fd_word port ∷ decimal user ∷ []
request_words names (request.TimerSet timer first interval) = codes "tset" ∷ decimal timer ∷ decimal first ∷ decimal interval ∷ []
request_words names (request.TimerDelete timer) = codes "tdelete" ∷ decimal timer ∷ []
request_words names (request.Advance by) = codes "advance" ∷ decimal by ∷ []
request_words names (request.Interrupt thread) = codes "interrupt" ∷ thread_word names thread ∷ []
request_words names (request.Kill process) = codes "kill" ∷ process_word names process ∷ []
request_words names request.Exit = codes "exit" ∷ []
request_words names (request.Fork child) = codes "fork" ∷ process_word names child ∷ []
request_words names (request.Work op bytes) = codes "work" ∷ []
request_words names (request.Ncd line) = codes "ncd" ∷ []

abbrev pub asked_words : Names → Asked → List (List ℕ)
asked_words names (Enter request) = request_words names request
asked_words names (GoOn what) = what_word what ∷ []

-- lines

abbrev pub member_kind : Bool → List ℕ
member_kind true = codes "spare"
member_kind false = codes "thread"

abbrev pub member_words : Member → List (List ℕ)
member_words member = member_kind member.spare ∷ member.name ∷ []

abbrev pub ending_word : Ending → List ℕ
ending_word Complete = codes "complete"
ending_word Stalled = codes "stalled"
ending_word Open = codes "open"

-- the words of a line, of an event those before its `=`
abbrev pub line_words : Names → Line → List (List ℕ)
line_words names (Process name limit members) = codes "process" ∷ name ∷ codes "limit" ∷ decimal limit ∷ flat_map member_words members
line_words names (Child name parent members) = codes "child" ∷ name ∷ codes "of" ∷ process_word names parent ∷ flat_map member_words members
line_words names (Name child name members) = codes "name" ∷ process_word names child ∷ name ∷ members
line_words names (Procedure name process) = codes "proc" ∷ name ∷ codes "of" ∷ process_word names process ∷ []
line_words names (Path name text) = codes "path" ∷ name ∷ quoted_text text ∷ []
line_words names (Event number thread root asked answer) = decimal number ∷ thread_word names thread ∷ thread_word names root ∷ asked_words names asked
line_words names (End ending number threads) = codes "end" ∷ ending_word ending ∷ decimal number ∷ map (thread_word names) threads

-- what stands after these words
abbrev pub answer_part : Line → List ℕ
answer_part (Event number thread root asked answer) = codes " = " ++ answer
answer_part line = []

-- a line without its line feed, where these names are declared before it
abbrev pub line_text : Names → Line → List ℕ
line_text names line = joined_words (line_words names line) ++ answer_part line
