-- What is read after a keyword is spelled, one line for each command.
use Rattle.std.proofs.Common.{◌≡◌, ℕ, Bool, true, false, cond, List, [], ◌∷◌, Ok, refl, sym, subst}
use Rattle.std.specs.Prelude.{codes, bytes_eq}
use Rattle.line_reader.specs.Types.{Keyword, Line}
use Rattle.line_forms.specs.declared.keyword.Keyword.TheVariants as keyword
use Rattle.line_forms.specs.declared.line.Line.TheVariants.{Create, Call, Return, Serve, Revoke, Bind, Unbind, Info, InfoQuery, GetParam, SetParam, Cred, TestCancel, Exit, Close, Dup, Attach, Detach, Open, Await, Pipe, Write, Read, PortCreate, Associate, Dissociate, Get, GetN, Send, SendN, Alert, TimerCreate, TimerSet, TimerDelete, Advance, Interrupt, Kill, Fork, Work, Ncd, Repeat, If, End}
use Rattle.line_forms.specs.Words.{HasPaths, SpellsLine, Tables, greatest_32, greatest_64, keyword_word}
use Rattle.line_reader.specs.Words.{Reader, Rest, advance_line, alert_line, associate_line, attach_line, await_line, bind_line, call_line, close_line, create_line, cred_line, detach_line, dissociate_line, dup_line, end_line, exit_line, fork_line, get_line, getn_line, getparam_line, if_line, info_after, info_line, interrupt_line, kill_line, line_with, ncd_line, open_line, pcreate_line, pipe_line, pure, read_line, repeat_line, rest_of, return_line, revoke_line, send_line, sendn_line, serve_line, setparam_line, tcreate_line, tdelete_line, testcancel_line, then_read, tset_line, unbind_line, value_at_end, value_with_rest, work_line, write_line}
use Rattle.law_lines.proofs.WordKinds.{AName, AProcedure, AThread, AProcess, AChild, APath, ANumber, AnFd, APoll, AParam, AMode, AnOp, ACond, AValue}
use Rattle.law_lines.proofs.LastOperands.{NoMore, TheAttributes, TheWait, ThePorts, TheData, DataPasses, DataPassesRsize}
use Rattle.std.proofs.lemmas.Slice.Eq.{bytes_eq-Decides}
use Rattle.law_lines.proofs.Given.{ended_given}
use Rattle.law_lines.proofs.Formats.{line_by}

-- the line that a reading gave is spelled by the keyword and the words
abbrev pub IsSpelledLine : Tables → ℕ → List ℕ → List (List ℕ) → Reader Line → Type 0
IsSpelledLine tables of keyword words read = (line : Line) (new : Rest) → read (rest_of words) ≡ Ok (line, new) → new.known ≡ true → HasPaths tables line → SpellsLine tables of line (keyword ∷ words)

create_line-found : (tables : Tables) (of : ℕ) (words : List (List ℕ)) → IsSpelledLine tables of (codes "create") words (create_line tables of)
unfolding create_line
create_line-found tables of words line new e known has =
    line_by tables of (AName ∷ AProcedure ∷ ANumber 0 greatest_64 ∷ []) TheAttributes (λ v. Create v.0 v.1.0 v.1.1.0 v.1.1.1) (codes "create") words line new (λ xs p. p) (λ xs s. (refl, s)) refl e known has

call_line-found : (tables : Tables) (of : ℕ) (words : List (List ℕ)) → IsSpelledLine tables of (codes "call") words call_line
unfolding call_line
call_line-found tables of words line new e known has =
    line_by tables of (AName ∷ AnFd ∷ []) DataPassesRsize (λ v. Call v.0 v.1.0 v.1.1.0 v.1.1.1 v.1.1.2) (codes "call") words line new (λ xs p. p) (λ xs s. (refl, s)) refl e known has

return_line-found : (tables : Tables) (of : ℕ) (words : List (List ℕ)) → IsSpelledLine tables of (codes "return") words return_line
unfolding return_line
return_line-found tables of words line new e known has =
    line_by tables of [] DataPasses (λ v. Return v.0 v.1) (codes "return") words line new (λ xs p. p) (λ xs s. (refl, s)) refl e known has

serve_line-found : (tables : Tables) (of : ℕ) (words : List (List ℕ)) → IsSpelledLine tables of (codes "serve") words serve_line
unfolding serve_line
serve_line-found tables of words line new e known has =
    line_by tables of [] NoMore (λ v. Serve) (codes "serve") words line new (λ xs p. p) (λ xs s. (refl, s)) refl e known has

revoke_line-found : (tables : Tables) (of : ℕ) (words : List (List ℕ)) → IsSpelledLine tables of (codes "revoke") words revoke_line
unfolding revoke_line
revoke_line-found tables of words line new e known has =
    line_by tables of (AnFd ∷ []) NoMore (λ v. Revoke v.0) (codes "revoke") words line new (λ xs p. p) (λ xs s. (refl, s)) refl e known has

bind_line-found : (tables : Tables) (of : ℕ) (words : List (List ℕ)) → IsSpelledLine tables of (codes "bind") words bind_line
unfolding bind_line
bind_line-found tables of words line new e known has =
    line_by tables of (AnFd ∷ []) NoMore (λ v. Bind v.0) (codes "bind") words line new (λ xs p. p) (λ xs s. (refl, s)) refl e known has

unbind_line-found : (tables : Tables) (of : ℕ) (words : List (List ℕ)) → IsSpelledLine tables of (codes "unbind") words unbind_line
unfolding unbind_line
unbind_line-found tables of words line new e known has =
    line_by tables of [] NoMore (λ v. Unbind) (codes "unbind") words line new (λ xs p. p) (λ xs s. (refl, s)) refl e known has

getparam_line-found : (tables : Tables) (of : ℕ) (words : List (List ℕ)) → IsSpelledLine tables of (codes "getparam") words getparam_line
unfolding getparam_line
getparam_line-found tables of words line new e known has =
    line_by tables of (AnFd ∷ AParam ∷ []) NoMore (λ v. GetParam v.0 v.1.0) (codes "getparam") words line new (λ xs p. p) (λ xs s. (refl, s)) refl e known has

setparam_line-found : (tables : Tables) (of : ℕ) (words : List (List ℕ)) → IsSpelledLine tables of (codes "setparam") words setparam_line
unfolding setparam_line
setparam_line-found tables of words line new e known has =
    line_by tables of (AnFd ∷ AParam ∷ AValue ∷ []) NoMore (λ v. SetParam v.0 v.1.0 v.1.1.0) (codes "setparam") words line new (λ xs p. p) (λ xs s. (refl, s)) refl e known has

cred_line-found : (tables : Tables) (of : ℕ) (words : List (List ℕ)) → IsSpelledLine tables of (codes "cred") words cred_line
unfolding cred_line
cred_line-found tables of words line new e known has =
    line_by tables of [] NoMore (λ v. Cred) (codes "cred") words line new (λ xs p. p) (λ xs s. (refl, s)) refl e known has

testcancel_line-found : (tables : Tables) (of : ℕ) (words : List (List ℕ)) → IsSpelledLine tables of (codes "testcancel") words testcancel_line
unfolding testcancel_line
testcancel_line-found tables of words line new e known has =
    line_by tables of [] NoMore (λ v. TestCancel) (codes "testcancel") words line new (λ xs p. p) (λ xs s. (refl, s)) refl e known has

exit_line-found : (tables : Tables) (of : ℕ) (words : List (List ℕ)) → IsSpelledLine tables of (codes "exit") words exit_line
unfolding exit_line
exit_line-found tables of words line new e known has =
    line_by tables of [] NoMore (λ v. Exit) (codes "exit") words line new (λ xs p. p) (λ xs s. (refl, s)) refl e known has

close_line-found : (tables : Tables) (of : ℕ) (words : List (List ℕ)) → IsSpelledLine tables of (codes "close") words close_line
unfolding close_line
close_line-found tables of words line new e known has =
    line_by tables of (AnFd ∷ []) NoMore (λ v. Close v.0) (codes "close") words line new (λ xs p. p) (λ xs s. (refl, s)) refl e known has

dup_line-found : (tables : Tables) (of : ℕ) (words : List (List ℕ)) → IsSpelledLine tables of (codes "dup") words dup_line
unfolding dup_line
dup_line-found tables of words line new e known has =
    line_by tables of (AName ∷ AnFd ∷ []) NoMore (λ v. Dup v.0 v.1.0) (codes "dup") words line new (λ xs p. p) (λ xs s. (refl, s)) refl e known has

attach_line-found : (tables : Tables) (of : ℕ) (words : List (List ℕ)) → IsSpelledLine tables of (codes "attach") words (attach_line tables)
unfolding attach_line
attach_line-found tables of words line new e known has =
    line_by tables of (AnFd ∷ APath ∷ []) NoMore (λ v. Attach v.0 v.1.0) (codes "attach") words line new (λ xs p. p) (λ xs s. (refl, s)) refl e known has

detach_line-found : (tables : Tables) (of : ℕ) (words : List (List ℕ)) → IsSpelledLine tables of (codes "detach") words (detach_line tables)
unfolding detach_line
detach_line-found tables of words line new e known has =
    line_by tables of (APath ∷ []) NoMore (λ v. Detach v.0) (codes "detach") words line new (λ xs p. p) (λ xs s. (refl, s)) refl e known has

open_line-found : (tables : Tables) (of : ℕ) (words : List (List ℕ)) → IsSpelledLine tables of (codes "open") words (open_line tables)
unfolding open_line
open_line-found tables of words line new e known has =
    line_by tables of (AName ∷ APath ∷ []) NoMore (λ v. Open v.0 v.1.0) (codes "open") words line new (λ xs p. p) (λ xs s. (refl, s)) refl e known has

await_line-found : (tables : Tables) (of : ℕ) (words : List (List ℕ)) → IsSpelledLine tables of (codes "await") words (await_line tables)
unfolding await_line
await_line-found tables of words line new e known has =
    line_by tables of (APath ∷ []) NoMore (λ v. Await v.0) (codes "await") words line new (λ xs p. p) (λ xs s. (refl, s)) refl e known has

pipe_line-found : (tables : Tables) (of : ℕ) (words : List (List ℕ)) → IsSpelledLine tables of (codes "pipe") words pipe_line
unfolding pipe_line
pipe_line-found tables of words line new e known has =
    line_by tables of (AName ∷ AName ∷ []) NoMore (λ v. Pipe v.0 v.1.0) (codes "pipe") words line new (λ xs p. p) (λ xs s. (refl, s)) refl e known has

write_line-found : (tables : Tables) (of : ℕ) (words : List (List ℕ)) → IsSpelledLine tables of (codes "write") words write_line
unfolding write_line
write_line-found tables of words line new e known has =
    line_by tables of (AnFd ∷ []) TheData (λ v. Write v.0 v.1) (codes "write") words line new (λ xs p. p) (λ xs s. (refl, s)) refl e known has

read_line-found : (tables : Tables) (of : ℕ) (words : List (List ℕ)) → IsSpelledLine tables of (codes "read") words read_line
unfolding read_line
read_line-found tables of words line new e known has =
    line_by tables of (AName ∷ AnFd ∷ ANumber 1 4096 ∷ []) NoMore (λ v. Read v.0 v.1.0 v.1.1.0) (codes "read") words line new (λ xs p. p) (λ xs s. (refl, s)) refl e known has

pcreate_line-found : (tables : Tables) (of : ℕ) (words : List (List ℕ)) → IsSpelledLine tables of (codes "pcreate") words pcreate_line
unfolding pcreate_line
pcreate_line-found tables of words line new e known has =
    line_by tables of (AName ∷ []) NoMore (λ v. PortCreate v.0) (codes "pcreate") words line new (λ xs p. p) (λ xs s. (refl, s)) refl e known has

associate_line-found : (tables : Tables) (of : ℕ) (words : List (List ℕ)) → IsSpelledLine tables of (codes "associate") words associate_line
unfolding associate_line
associate_line-found tables of words line new e known has =
    line_by tables of (AnFd ∷ AnFd ∷ APoll ∷ ANumber 0 greatest_64 ∷ []) NoMore (λ v. Associate v.0 v.1.0 v.1.1.0 v.1.1.1.0) (codes "associate") words line new (λ xs p. p) (λ xs s. (refl, s)) refl e known has

dissociate_line-found : (tables : Tables) (of : ℕ) (words : List (List ℕ)) → IsSpelledLine tables of (codes "dissociate") words dissociate_line
unfolding dissociate_line
dissociate_line-found tables of words line new e known has =
    line_by tables of (AnFd ∷ AnFd ∷ []) NoMore (λ v. Dissociate v.0 v.1.0) (codes "dissociate") words line new (λ xs p. p) (λ xs s. (refl, s)) refl e known has

get_line-found : (tables : Tables) (of : ℕ) (words : List (List ℕ)) → IsSpelledLine tables of (codes "get") words get_line
unfolding get_line
get_line-found tables of words line new e known has =
    line_by tables of (AnFd ∷ []) TheWait (λ v. Get v.0 v.1) (codes "get") words line new (λ xs p. p) (λ xs s. (refl, s)) refl e known has

getn_line-found : (tables : Tables) (of : ℕ) (words : List (List ℕ)) → IsSpelledLine tables of (codes "getn") words getn_line
unfolding getn_line
getn_line-found tables of words line new e known has =
    line_by tables of (AnFd ∷ ANumber 0 64 ∷ ANumber 0 64 ∷ []) TheWait (λ v. GetN v.0 v.1.0 v.1.1.0 v.1.1.1) (codes "getn") words line new (λ xs p. p) (λ xs s. (refl, s)) refl e known has

send_line-found : (tables : Tables) (of : ℕ) (words : List (List ℕ)) → IsSpelledLine tables of (codes "send") words send_line
unfolding send_line
send_line-found tables of words line new e known has =
    line_by tables of (AnFd ∷ ANumber 0 greatest_32 ∷ ANumber 0 greatest_64 ∷ []) NoMore (λ v. Send v.0 v.1.0 v.1.1.0) (codes "send") words line new (λ xs p. p) (λ xs s. (refl, s)) refl e known has

sendn_line-found : (tables : Tables) (of : ℕ) (words : List (List ℕ)) → IsSpelledLine tables of (codes "sendn") words sendn_line
unfolding sendn_line
sendn_line-found tables of words line new e known has =
    line_by tables of (ANumber 0 greatest_32 ∷ ANumber 0 greatest_64 ∷ []) ThePorts (λ v. SendN v.0 v.1.0 v.1.1) (codes "sendn") words line new (λ xs p. p) (λ xs s. (refl, s)) refl e known has

alert_line-found : (tables : Tables) (of : ℕ) (words : List (List ℕ)) → IsSpelledLine tables of (codes "alert") words alert_line
unfolding alert_line
alert_line-found tables of words line new e known has =
    line_by tables of (AnFd ∷ AMode ∷ ANumber 0 greatest_32 ∷ ANumber 0 greatest_64 ∷ []) NoMore (λ v. Alert v.0 v.1.0 v.1.1.0 v.1.1.1.0) (codes "alert") words line new (λ xs p. p) (λ xs s. (refl, s)) refl e known has

tcreate_line-found : (tables : Tables) (of : ℕ) (words : List (List ℕ)) → IsSpelledLine tables of (codes "tcreate") words tcreate_line
unfolding tcreate_line
tcreate_line-found tables of words line new e known has =
    line_by tables of (AnFd ∷ ANumber 0 greatest_64 ∷ []) NoMore (λ v. TimerCreate v.0 v.1.0) (codes "tcreate") words line new (λ xs p. p) (λ xs s. (refl, s)) refl e known has

tset_line-found : (tables : Tables) (of : ℕ) (words : List (List ℕ)) → IsSpelledLine tables of (codes "tset") words tset_line
unfolding tset_line
tset_line-found tables of words line new e known has =
    line_by tables of (ANumber 0 31 ∷ ANumber 0 1000000000 ∷ ANumber 0 1000000000 ∷ []) NoMore (λ v. TimerSet v.0 v.1.0 v.1.1.0) (codes "tset") words line new (λ xs p. p) (λ xs s. (refl, s)) refl e known has

tdelete_line-found : (tables : Tables) (of : ℕ) (words : List (List ℕ)) → IsSpelledLine tables of (codes "tdelete") words tdelete_line
unfolding tdelete_line
tdelete_line-found tables of words line new e known has =
    line_by tables of (ANumber 0 31 ∷ []) NoMore (λ v. TimerDelete v.0) (codes "tdelete") words line new (λ xs p. p) (λ xs s. (refl, s)) refl e known has

advance_line-found : (tables : Tables) (of : ℕ) (words : List (List ℕ)) → IsSpelledLine tables of (codes "advance") words advance_line
unfolding advance_line
advance_line-found tables of words line new e known has =
    line_by tables of (ANumber 1 10000 ∷ []) NoMore (λ v. Advance v.0) (codes "advance") words line new (λ xs p. p) (λ xs s. (refl, s)) refl e known has

interrupt_line-found : (tables : Tables) (of : ℕ) (words : List (List ℕ)) → IsSpelledLine tables of (codes "interrupt") words (interrupt_line tables)
unfolding interrupt_line
interrupt_line-found tables of words line new e known has =
    line_by tables of (AThread ∷ []) NoMore (λ v. Interrupt v.0) (codes "interrupt") words line new (λ xs p. p) (λ xs s. (refl, s)) refl e known has

kill_line-found : (tables : Tables) (of : ℕ) (words : List (List ℕ)) → IsSpelledLine tables of (codes "kill") words (kill_line tables)
unfolding kill_line
kill_line-found tables of words line new e known has =
    line_by tables of (AProcess ∷ []) NoMore (λ v. Kill v.0) (codes "kill") words line new (λ xs p. p) (λ xs s. (refl, s)) refl e known has

fork_line-found : (tables : Tables) (of : ℕ) (words : List (List ℕ)) → IsSpelledLine tables of (codes "fork") words (fork_line tables of)
unfolding fork_line
fork_line-found tables of words line new e known has =
    line_by tables of (AChild ∷ []) NoMore (λ v. Fork v.0) (codes "fork") words line new (λ xs p. p) (λ xs s. (refl, s)) refl e known has

work_line-found : (tables : Tables) (of : ℕ) (words : List (List ℕ)) → IsSpelledLine tables of (codes "work") words work_line
unfolding work_line
work_line-found tables of words line new e known has =
    line_by tables of (AName ∷ AnOp ∷ []) TheData (λ v. Work v.0 v.1.0 v.1.1) (codes "work") words line new (λ xs p. p) (λ xs s. (refl, s)) refl e known has

ncd_line-found : (tables : Tables) (of : ℕ) (words : List (List ℕ)) → IsSpelledLine tables of (codes "ncd") words ncd_line
unfolding ncd_line
ncd_line-found tables of words line new e known has =
    line_by tables of (AName ∷ []) TheData (λ v. Ncd v.0 v.1) (codes "ncd") words line new (λ xs p. p) (λ xs s. (refl, s)) refl e known has

repeat_line-found : (tables : Tables) (of : ℕ) (words : List (List ℕ)) → IsSpelledLine tables of (codes "repeat") words repeat_line
unfolding repeat_line
repeat_line-found tables of words line new e known has =
    line_by tables of (ANumber 1 1000000 ∷ []) NoMore (λ v. Repeat v.0) (codes "repeat") words line new (λ xs p. p) (λ xs s. (refl, s)) refl e known has

if_line-found : (tables : Tables) (of : ℕ) (words : List (List ℕ)) → IsSpelledLine tables of (codes "if") words if_line
unfolding if_line
if_line-found tables of words line new e known has =
    line_by tables of (ACond ∷ []) NoMore (λ v. If v.0) (codes "if") words line new (λ xs p. p) (λ xs s. (refl, s)) refl e known has

end_line-found : (tables : Tables) (of : ℕ) (words : List (List ℕ)) → IsSpelledLine tables of (codes "end") words end_line
unfolding end_line
end_line-found tables of words line new e known has =
    line_by tables of [] NoMore (λ v. End) (codes "end") words line new (λ xs p. p) (λ xs s. (refl, s)) refl e known has

-- `query` or a descriptor

query-found : (tables : Tables) (of : ℕ) (word : List ℕ) (words : List (List ℕ)) (line : Line) (new : Rest) → word ≡ codes "query" → value_at_end InfoQuery (rest_of words) ≡ Ok (line, new) → HasPaths tables line → SpellsLine tables of line (codes "info" ∷ word ∷ words)
query-found tables of word words line new is e has =
    let end = ended_given InfoQuery (rest_of words) line new e in
    subst (λ l. SpellsLine tables of l (codes "info" ∷ word ∷ words)) (sym end.is) (refl, (is, end.words))

info_if : (test : Bool) (tables : Tables) (of : ℕ) (word : List ℕ) (words : List (List ℕ)) (line : Line) (new : Rest) → bytes_eq word (codes "query") ≡ test → then_read info_after (cond test (value_with_rest words true) (pure false) (rest_of (word ∷ words))) ≡ Ok (line, new) → new.known ≡ true → HasPaths tables line
    → SpellsLine tables of line (codes "info" ∷ word ∷ words)
info_if true tables of word words line new is e known has = query-found tables of word words line new ((bytes_eq-Decides word (codes "query")).0 is) e has
info_if false tables of word words line new is e known has =
    line_by tables of (AnFd ∷ []) NoMore (λ v. Info v.0) (codes "info") (word ∷ words) line new (λ xs p. p) (λ xs s. (refl, s)) refl e known has

info_line-found : (tables : Tables) (of : ℕ) (words : List (List ℕ)) → IsSpelledLine tables of (codes "info") words info_line
unfolding info_line
info_line-found tables of [] line new e known has = line_by tables of (AnFd ∷ []) NoMore (λ v. Info v.0) (codes "info") [] line new (λ xs p. p) (λ xs s. (refl, s)) refl e known has
info_line-found tables of (word ∷ words) line new e known has = info_if (bytes_eq word (codes "query")) tables of word words line new refl e known has

-- what is read after a keyword is spelled
pub line-found : (tables : Tables) (of : ℕ) (keyword : Keyword) (words : List (List ℕ)) → IsSpelledLine tables of (keyword_word keyword) words (line_with tables of keyword)
line-found tables of keyword.Create words = create_line-found tables of words
line-found tables of keyword.Call words = call_line-found tables of words
line-found tables of keyword.Return words = return_line-found tables of words
line-found tables of keyword.Serve words = serve_line-found tables of words
line-found tables of keyword.Revoke words = revoke_line-found tables of words
line-found tables of keyword.Bind words = bind_line-found tables of words
line-found tables of keyword.Unbind words = unbind_line-found tables of words
line-found tables of keyword.Info words = info_line-found tables of words
line-found tables of keyword.GetParam words = getparam_line-found tables of words
line-found tables of keyword.SetParam words = setparam_line-found tables of words
line-found tables of keyword.Cred words = cred_line-found tables of words
line-found tables of keyword.TestCancel words = testcancel_line-found tables of words
line-found tables of keyword.Exit words = exit_line-found tables of words
line-found tables of keyword.Close words = close_line-found tables of words
line-found tables of keyword.Dup words = dup_line-found tables of words
line-found tables of keyword.Attach words = attach_line-found tables of words
line-found tables of keyword.Detach words = detach_line-found tables of words
line-found tables of keyword.Open words = open_line-found tables of words
line-found tables of keyword.Await words = await_line-found tables of words
line-found tables of keyword.Pipe words = pipe_line-found tables of words
line-found tables of keyword.Write words = write_line-found tables of words
line-found tables of keyword.Read words = read_line-found tables of words
line-found tables of keyword.PortCreate words = pcreate_line-found tables of words
line-found tables of keyword.Associate words = associate_line-found tables of words
line-found tables of keyword.Dissociate words = dissociate_line-found tables of words
line-found tables of keyword.Get words = get_line-found tables of words
line-found tables of keyword.GetN words = getn_line-found tables of words
line-found tables of keyword.Send words = send_line-found tables of words
line-found tables of keyword.SendN words = sendn_line-found tables of words
line-found tables of keyword.Alert words = alert_line-found tables of words
line-found tables of keyword.TimerCreate words = tcreate_line-found tables of words
line-found tables of keyword.TimerSet words = tset_line-found tables of words
line-found tables of keyword.TimerDelete words = tdelete_line-found tables of words
line-found tables of keyword.Advance words = advance_line-found tables of words
line-found tables of keyword.Interrupt words = interrupt_line-found tables of words
line-found tables of keyword.Kill words = kill_line-found tables of words
line-found tables of keyword.Fork words = fork_line-found tables of words
line-found tables of keyword.Work words = work_line-found tables of words
line-found tables of keyword.Ncd words = ncd_line-found tables of words
line-found tables of keyword.Repeat words = repeat_line-found tables of words
line-found tables of keyword.If words = if_line-found tables of words
line-found tables of keyword.End words = end_line-found tables of words
