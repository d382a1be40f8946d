-- What is spelled is read, one line for each command.
use Rattle.std.proofs.Common.{◌≡◌, ℕ, Bool, true, false, cond, List, [], ◌∷◌, Ok, refl, ap, sym, ◌∙◌}
use Rattle.std.specs.Prelude.{codes, bytes_eq}
use Rattle.line_reader.specs.Types.{FdArg, Line}
use Rattle.line_forms.specs.declared.line.Line.TheVariants.{Create, Call, Return, Serve, Revoke, Bind, Unbind, Info, InfoQuery, GetParam, SetParam, Cred, TestCancel, Exit, Close, Dup, Attach, Detach, Open, Await, Pipe, Write, Read, PortCreate, Associate, Dissociate, Get, GetN, Send, SendN, Alert, TimerCreate, TimerSet, TimerDelete, Advance, Interrupt, Kill, Fork, Work, Ncd, Repeat, If, End}
use Rattle.line_forms.specs.Words.{AreDistinct, Ends, SpellsFd, SpellsLine, Tables, greatest_32, greatest_64, keyword_of_line, keyword_word}
use Rattle.line_reader.specs.Words.{advance_line, alert_line, associate_line, attach_line, await_line, bind_line, call_line, close_line, create_line, cred_line, detach_line, dissociate_line, dup_line, end_line, exit_line, fd_from_word, fork_line, get_line, getn_line, getparam_line, if_line, info_after, info_line, interrupt_line, kill_line, line_with, ncd_line, open_line, pcreate_line, pipe_line, pure, read_line, repeat_line, rest_of, return_line, revoke_line, send_line, sendn_line, serve_line, setparam_line, tcreate_line, tdelete_line, testcancel_line, then_read, tset_line, unbind_line, value_with_rest, work_line, write_line}
use Rattle.law_lines.proofs.WordKinds.{AName, AProcedure, AThread, AProcess, AChild, APath, ANumber, AnFd, APoll, AParam, AMode, AnOp, ACond, AValue}
use Rattle.law_lines.proofs.LastOperands.{NoMore, TheAttributes, TheWait, ThePorts, TheData, DataPasses, DataPassesRsize, end_again}
use Rattle.law_lines.proofs.Given.{no_answer}
use Rattle.law_lines.proofs.DescriptorWords.{fd_again}
use Rattle.law_lines.proofs.Formats.{Values, SpellsAll, all_again}
use Rattle.std.proofs.lemmas.Slice.Eq.{bytes_eq-Decides}

-- the words after a keyword are read as the line
abbrev pub IsRead : Tables → ℕ → Line → List (List ℕ) → Type 0
IsRead tables of line words = line_with tables of (keyword_of_line line) (rest_of words) ≡ Ok (line, rest_of [])

create_line-again : (tables : Tables) (of : ℕ) (v : Values (AName ∷ AProcedure ∷ ANumber 0 greatest_64 ∷ []) TheAttributes) (words : List (List ℕ)) → AreDistinct tables → SpellsAll tables of (AName ∷ AProcedure ∷ ANumber 0 greatest_64 ∷ []) TheAttributes v words → create_line tables of (rest_of words) ≡ Ok (Create v.0 v.1.0 v.1.1.0 v.1.1.1, rest_of [])
unfolding create_line
create_line-again tables of v words distinct spells = all_again tables of (AName ∷ AProcedure ∷ ANumber 0 greatest_64 ∷ []) TheAttributes (λ v. Create v.0 v.1.0 v.1.1.0 v.1.1.1) v words refl distinct spells

call_line-again : (tables : Tables) (of : ℕ) (v : Values (AName ∷ AnFd ∷ []) DataPassesRsize) (words : List (List ℕ)) → AreDistinct tables → SpellsAll tables of (AName ∷ AnFd ∷ []) DataPassesRsize v words → call_line (rest_of words) ≡ Ok (Call v.0 v.1.0 v.1.1.0 v.1.1.1 v.1.1.2, rest_of [])
unfolding call_line
call_line-again tables of v words distinct spells = all_again tables of (AName ∷ AnFd ∷ []) DataPassesRsize (λ v. Call v.0 v.1.0 v.1.1.0 v.1.1.1 v.1.1.2) v words refl distinct spells

return_line-again : (tables : Tables) (of : ℕ) (v : Values [] DataPasses) (words : List (List ℕ)) → AreDistinct tables → SpellsAll tables of [] DataPasses v words → return_line (rest_of words) ≡ Ok (Return v.0 v.1, rest_of [])
unfolding return_line
return_line-again tables of v words distinct spells = all_again tables of [] DataPasses (λ v. Return v.0 v.1) v words refl distinct spells

serve_line-again : (tables : Tables) (of : ℕ) (v : Values [] NoMore) (words : List (List ℕ)) → AreDistinct tables → SpellsAll tables of [] NoMore v words → serve_line (rest_of words) ≡ Ok (Serve, rest_of [])
unfolding serve_line
serve_line-again tables of v words distinct spells = all_again tables of [] NoMore (λ v. Serve) v words refl distinct spells

revoke_line-again : (tables : Tables) (of : ℕ) (v : Values (AnFd ∷ []) NoMore) (words : List (List ℕ)) → AreDistinct tables → SpellsAll tables of (AnFd ∷ []) NoMore v words → revoke_line (rest_of words) ≡ Ok (Revoke v.0, rest_of [])
unfolding revoke_line
revoke_line-again tables of v words distinct spells = all_again tables of (AnFd ∷ []) NoMore (λ v. Revoke v.0) v words refl distinct spells

bind_line-again : (tables : Tables) (of : ℕ) (v : Values (AnFd ∷ []) NoMore) (words : List (List ℕ)) → AreDistinct tables → SpellsAll tables of (AnFd ∷ []) NoMore v words → bind_line (rest_of words) ≡ Ok (Bind v.0, rest_of [])
unfolding bind_line
bind_line-again tables of v words distinct spells = all_again tables of (AnFd ∷ []) NoMore (λ v. Bind v.0) v words refl distinct spells

unbind_line-again : (tables : Tables) (of : ℕ) (v : Values [] NoMore) (words : List (List ℕ)) → AreDistinct tables → SpellsAll tables of [] NoMore v words → unbind_line (rest_of words) ≡ Ok (Unbind, rest_of [])
unfolding unbind_line
unbind_line-again tables of v words distinct spells = all_again tables of [] NoMore (λ v. Unbind) v words refl distinct spells

getparam_line-again : (tables : Tables) (of : ℕ) (v : Values (AnFd ∷ AParam ∷ []) NoMore) (words : List (List ℕ)) → AreDistinct tables → SpellsAll tables of (AnFd ∷ AParam ∷ []) NoMore v words → getparam_line (rest_of words) ≡ Ok (GetParam v.0 v.1.0, rest_of [])
unfolding getparam_line
getparam_line-again tables of v words distinct spells = all_again tables of (AnFd ∷ AParam ∷ []) NoMore (λ v. GetParam v.0 v.1.0) v words refl distinct spells

setparam_line-again : (tables : Tables) (of : ℕ) (v : Values (AnFd ∷ AParam ∷ AValue ∷ []) NoMore) (words : List (List ℕ)) → AreDistinct tables → SpellsAll tables of (AnFd ∷ AParam ∷ AValue ∷ []) NoMore v words → setparam_line (rest_of words) ≡ Ok (SetParam v.0 v.1.0 v.1.1.0, rest_of [])
unfolding setparam_line
setparam_line-again tables of v words distinct spells = all_again tables of (AnFd ∷ AParam ∷ AValue ∷ []) NoMore (λ v. SetParam v.0 v.1.0 v.1.1.0) v words refl distinct spells

cred_line-again : (tables : Tables) (of : ℕ) (v : Values [] NoMore) (words : List (List ℕ)) → AreDistinct tables → SpellsAll tables of [] NoMore v words → cred_line (rest_of words) ≡ Ok (Cred, rest_of [])
unfolding cred_line
cred_line-again tables of v words distinct spells = all_again tables of [] NoMore (λ v. Cred) v words refl distinct spells

testcancel_line-again : (tables : Tables) (of : ℕ) (v : Values [] NoMore) (words : List (List ℕ)) → AreDistinct tables → SpellsAll tables of [] NoMore v words → testcancel_line (rest_of words) ≡ Ok (TestCancel, rest_of [])
unfolding testcancel_line
testcancel_line-again tables of v words distinct spells = all_again tables of [] NoMore (λ v. TestCancel) v words refl distinct spells

exit_line-again : (tables : Tables) (of : ℕ) (v : Values [] NoMore) (words : List (List ℕ)) → AreDistinct tables → SpellsAll tables of [] NoMore v words → exit_line (rest_of words) ≡ Ok (Exit, rest_of [])
unfolding exit_line
exit_line-again tables of v words distinct spells = all_again tables of [] NoMore (λ v. Exit) v words refl distinct spells

close_line-again : (tables : Tables) (of : ℕ) (v : Values (AnFd ∷ []) NoMore) (words : List (List ℕ)) → AreDistinct tables → SpellsAll tables of (AnFd ∷ []) NoMore v words → close_line (rest_of words) ≡ Ok (Close v.0, rest_of [])
unfolding close_line
close_line-again tables of v words distinct spells = all_again tables of (AnFd ∷ []) NoMore (λ v. Close v.0) v words refl distinct spells

dup_line-again : (tables : Tables) (of : ℕ) (v : Values (AName ∷ AnFd ∷ []) NoMore) (words : List (List ℕ)) → AreDistinct tables → SpellsAll tables of (AName ∷ AnFd ∷ []) NoMore v words → dup_line (rest_of words) ≡ Ok (Dup v.0 v.1.0, rest_of [])
unfolding dup_line
dup_line-again tables of v words distinct spells = all_again tables of (AName ∷ AnFd ∷ []) NoMore (λ v. Dup v.0 v.1.0) v words refl distinct spells

attach_line-again : (tables : Tables) (of : ℕ) (v : Values (AnFd ∷ APath ∷ []) NoMore) (words : List (List ℕ)) → AreDistinct tables → SpellsAll tables of (AnFd ∷ APath ∷ []) NoMore v words → attach_line tables (rest_of words) ≡ Ok (Attach v.0 v.1.0, rest_of [])
unfolding attach_line
attach_line-again tables of v words distinct spells = all_again tables of (AnFd ∷ APath ∷ []) NoMore (λ v. Attach v.0 v.1.0) v words refl distinct spells

detach_line-again : (tables : Tables) (of : ℕ) (v : Values (APath ∷ []) NoMore) (words : List (List ℕ)) → AreDistinct tables → SpellsAll tables of (APath ∷ []) NoMore v words → detach_line tables (rest_of words) ≡ Ok (Detach v.0, rest_of [])
unfolding detach_line
detach_line-again tables of v words distinct spells = all_again tables of (APath ∷ []) NoMore (λ v. Detach v.0) v words refl distinct spells

open_line-again : (tables : Tables) (of : ℕ) (v : Values (AName ∷ APath ∷ []) NoMore) (words : List (List ℕ)) → AreDistinct tables → SpellsAll tables of (AName ∷ APath ∷ []) NoMore v words → open_line tables (rest_of words) ≡ Ok (Open v.0 v.1.0, rest_of [])
unfolding open_line
open_line-again tables of v words distinct spells = all_again tables of (AName ∷ APath ∷ []) NoMore (λ v. Open v.0 v.1.0) v words refl distinct spells

await_line-again : (tables : Tables) (of : ℕ) (v : Values (APath ∷ []) NoMore) (words : List (List ℕ)) → AreDistinct tables → SpellsAll tables of (APath ∷ []) NoMore v words → await_line tables (rest_of words) ≡ Ok (Await v.0, rest_of [])
unfolding await_line
await_line-again tables of v words distinct spells = all_again tables of (APath ∷ []) NoMore (λ v. Await v.0) v words refl distinct spells

pipe_line-again : (tables : Tables) (of : ℕ) (v : Values (AName ∷ AName ∷ []) NoMore) (words : List (List ℕ)) → AreDistinct tables → SpellsAll tables of (AName ∷ AName ∷ []) NoMore v words → pipe_line (rest_of words) ≡ Ok (Pipe v.0 v.1.0, rest_of [])
unfolding pipe_line
pipe_line-again tables of v words distinct spells = all_again tables of (AName ∷ AName ∷ []) NoMore (λ v. Pipe v.0 v.1.0) v words refl distinct spells

write_line-again : (tables : Tables) (of : ℕ) (v : Values (AnFd ∷ []) TheData) (words : List (List ℕ)) → AreDistinct tables → SpellsAll tables of (AnFd ∷ []) TheData v words → write_line (rest_of words) ≡ Ok (Write v.0 v.1, rest_of [])
unfolding write_line
write_line-again tables of v words distinct spells = all_again tables of (AnFd ∷ []) TheData (λ v. Write v.0 v.1) v words refl distinct spells

read_line-again : (tables : Tables) (of : ℕ) (v : Values (AName ∷ AnFd ∷ ANumber 1 4096 ∷ []) NoMore) (words : List (List ℕ)) → AreDistinct tables → SpellsAll tables of (AName ∷ AnFd ∷ ANumber 1 4096 ∷ []) NoMore v words → read_line (rest_of words) ≡ Ok (Read v.0 v.1.0 v.1.1.0, rest_of [])
unfolding read_line
read_line-again tables of v words distinct spells = all_again tables of (AName ∷ AnFd ∷ ANumber 1 4096 ∷ []) NoMore (λ v. Read v.0 v.1.0 v.1.1.0) v words refl distinct spells

pcreate_line-again : (tables : Tables) (of : ℕ) (v : Values (AName ∷ []) NoMore) (words : List (List ℕ)) → AreDistinct tables → SpellsAll tables of (AName ∷ []) NoMore v words → pcreate_line (rest_of words) ≡ Ok (PortCreate v.0, rest_of [])
unfolding pcreate_line
pcreate_line-again tables of v words distinct spells = all_again tables of (AName ∷ []) NoMore (λ v. PortCreate v.0) v words refl distinct spells

associate_line-again : (tables : Tables) (of : ℕ) (v : Values (AnFd ∷ AnFd ∷ APoll ∷ ANumber 0 greatest_64 ∷ []) NoMore) (words : List (List ℕ)) → AreDistinct tables → SpellsAll tables of (AnFd ∷ AnFd ∷ APoll ∷ ANumber 0 greatest_64 ∷ []) NoMore v words → associate_line (rest_of words) ≡ Ok (Associate v.0 v.1.0 v.1.1.0 v.1.1.1.0, rest_of [])
unfolding associate_line
associate_line-again tables of v words distinct spells = all_again tables of (AnFd ∷ AnFd ∷ APoll ∷ ANumber 0 greatest_64 ∷ []) NoMore (λ v. Associate v.0 v.1.0 v.1.1.0 v.1.1.1.0) v words refl distinct spells

dissociate_line-again : (tables : Tables) (of : ℕ) (v : Values (AnFd ∷ AnFd ∷ []) NoMore) (words : List (List ℕ)) → AreDistinct tables → SpellsAll tables of (AnFd ∷ AnFd ∷ []) NoMore v words → dissociate_line (rest_of words) ≡ Ok (Dissociate v.0 v.1.0, rest_of [])
unfolding dissociate_line
dissociate_line-again tables of v words distinct spells = all_again tables of (AnFd ∷ AnFd ∷ []) NoMore (λ v. Dissociate v.0 v.1.0) v words refl distinct spells

get_line-again : (tables : Tables) (of : ℕ) (v : Values (AnFd ∷ []) TheWait) (words : List (List ℕ)) → AreDistinct tables → SpellsAll tables of (AnFd ∷ []) TheWait v words → get_line (rest_of words) ≡ Ok (Get v.0 v.1, rest_of [])
unfolding get_line
get_line-again tables of v words distinct spells = all_again tables of (AnFd ∷ []) TheWait (λ v. Get v.0 v.1) v words refl distinct spells

getn_line-again : (tables : Tables) (of : ℕ) (v : Values (AnFd ∷ ANumber 0 64 ∷ ANumber 0 64 ∷ []) TheWait) (words : List (List ℕ)) → AreDistinct tables → SpellsAll tables of (AnFd ∷ ANumber 0 64 ∷ ANumber 0 64 ∷ []) TheWait v words → getn_line (rest_of words) ≡ Ok (GetN v.0 v.1.0 v.1.1.0 v.1.1.1, rest_of [])
unfolding getn_line
getn_line-again tables of v words distinct spells = all_again tables of (AnFd ∷ ANumber 0 64 ∷ ANumber 0 64 ∷ []) TheWait (λ v. GetN v.0 v.1.0 v.1.1.0 v.1.1.1) v words refl distinct spells

send_line-again : (tables : Tables) (of : ℕ) (v : Values (AnFd ∷ ANumber 0 greatest_32 ∷ ANumber 0 greatest_64 ∷ []) NoMore) (words : List (List ℕ)) → AreDistinct tables → SpellsAll tables of (AnFd ∷ ANumber 0 greatest_32 ∷ ANumber 0 greatest_64 ∷ []) NoMore v words → send_line (rest_of words) ≡ Ok (Send v.0 v.1.0 v.1.1.0, rest_of [])
unfolding send_line
send_line-again tables of v words distinct spells = all_again tables of (AnFd ∷ ANumber 0 greatest_32 ∷ ANumber 0 greatest_64 ∷ []) NoMore (λ v. Send v.0 v.1.0 v.1.1.0) v words refl distinct spells

sendn_line-again : (tables : Tables) (of : ℕ) (v : Values (ANumber 0 greatest_32 ∷ ANumber 0 greatest_64 ∷ []) ThePorts) (words : List (List ℕ)) → AreDistinct tables → SpellsAll tables of (ANumber 0 greatest_32 ∷ ANumber 0 greatest_64 ∷ []) ThePorts v words → sendn_line (rest_of words) ≡ Ok (SendN v.0 v.1.0 v.1.1, rest_of [])
unfolding sendn_line
sendn_line-again tables of v words distinct spells = all_again tables of (ANumber 0 greatest_32 ∷ ANumber 0 greatest_64 ∷ []) ThePorts (λ v. SendN v.0 v.1.0 v.1.1) v words refl distinct spells

alert_line-again : (tables : Tables) (of : ℕ) (v : Values (AnFd ∷ AMode ∷ ANumber 0 greatest_32 ∷ ANumber 0 greatest_64 ∷ []) NoMore) (words : List (List ℕ)) → AreDistinct tables → SpellsAll tables of (AnFd ∷ AMode ∷ ANumber 0 greatest_32 ∷ ANumber 0 greatest_64 ∷ []) NoMore v words → alert_line (rest_of words) ≡ Ok (Alert v.0 v.1.0 v.1.1.0 v.1.1.1.0, rest_of [])
unfolding alert_line
alert_line-again tables of v words distinct spells = all_again tables of (AnFd ∷ AMode ∷ ANumber 0 greatest_32 ∷ ANumber 0 greatest_64 ∷ []) NoMore (λ v. Alert v.0 v.1.0 v.1.1.0 v.1.1.1.0) v words refl distinct spells

tcreate_line-again : (tables : Tables) (of : ℕ) (v : Values (AnFd ∷ ANumber 0 greatest_64 ∷ []) NoMore) (words : List (List ℕ)) → AreDistinct tables → SpellsAll tables of (AnFd ∷ ANumber 0 greatest_64 ∷ []) NoMore v words → tcreate_line (rest_of words) ≡ Ok (TimerCreate v.0 v.1.0, rest_of [])
unfolding tcreate_line
tcreate_line-again tables of v words distinct spells = all_again tables of (AnFd ∷ ANumber 0 greatest_64 ∷ []) NoMore (λ v. TimerCreate v.0 v.1.0) v words refl distinct spells

tset_line-again : (tables : Tables) (of : ℕ) (v : Values (ANumber 0 31 ∷ ANumber 0 1000000000 ∷ ANumber 0 1000000000 ∷ []) NoMore) (words : List (List ℕ)) → AreDistinct tables → SpellsAll tables of (ANumber 0 31 ∷ ANumber 0 1000000000 ∷ ANumber 0 1000000000 ∷ []) NoMore v words → tset_line (rest_of words) ≡ Ok (TimerSet v.0 v.1.0 v.1.1.0, rest_of [])
unfolding tset_line
tset_line-again tables of v words distinct spells = all_again tables of (ANumber 0 31 ∷ ANumber 0 1000000000 ∷ ANumber 0 1000000000 ∷ []) NoMore (λ v. TimerSet v.0 v.1.0 v.1.1.0) v words refl distinct spells

tdelete_line-again : (tables : Tables) (of : ℕ) (v : Values (ANumber 0 31 ∷ []) NoMore) (words : List (List ℕ)) → AreDistinct tables → SpellsAll tables of (ANumber 0 31 ∷ []) NoMore v words → tdelete_line (rest_of words) ≡ Ok (TimerDelete v.0, rest_of [])
unfolding tdelete_line
tdelete_line-again tables of v words distinct spells = all_again tables of (ANumber 0 31 ∷ []) NoMore (λ v. TimerDelete v.0) v words refl distinct spells

advance_line-again : (tables : Tables) (of : ℕ) (v : Values (ANumber 1 10000 ∷ []) NoMore) (words : List (List ℕ)) → AreDistinct tables → SpellsAll tables of (ANumber 1 10000 ∷ []) NoMore v words → advance_line (rest_of words) ≡ Ok (Advance v.0, rest_of [])
unfolding advance_line
advance_line-again tables of v words distinct spells = all_again tables of (ANumber 1 10000 ∷ []) NoMore (λ v. Advance v.0) v words refl distinct spells

interrupt_line-again : (tables : Tables) (of : ℕ) (v : Values (AThread ∷ []) NoMore) (words : List (List ℕ)) → AreDistinct tables → SpellsAll tables of (AThread ∷ []) NoMore v words → interrupt_line tables (rest_of words) ≡ Ok (Interrupt v.0, rest_of [])
unfolding interrupt_line
interrupt_line-again tables of v words distinct spells = all_again tables of (AThread ∷ []) NoMore (λ v. Interrupt v.0) v words refl distinct spells

kill_line-again : (tables : Tables) (of : ℕ) (v : Values (AProcess ∷ []) NoMore) (words : List (List ℕ)) → AreDistinct tables → SpellsAll tables of (AProcess ∷ []) NoMore v words → kill_line tables (rest_of words) ≡ Ok (Kill v.0, rest_of [])
unfolding kill_line
kill_line-again tables of v words distinct spells = all_again tables of (AProcess ∷ []) NoMore (λ v. Kill v.0) v words refl distinct spells

fork_line-again : (tables : Tables) (of : ℕ) (v : Values (AChild ∷ []) NoMore) (words : List (List ℕ)) → AreDistinct tables → SpellsAll tables of (AChild ∷ []) NoMore v words → fork_line tables of (rest_of words) ≡ Ok (Fork v.0, rest_of [])
unfolding fork_line
fork_line-again tables of v words distinct spells = all_again tables of (AChild ∷ []) NoMore (λ v. Fork v.0) v words refl distinct spells

work_line-again : (tables : Tables) (of : ℕ) (v : Values (AName ∷ AnOp ∷ []) TheData) (words : List (List ℕ)) → AreDistinct tables → SpellsAll tables of (AName ∷ AnOp ∷ []) TheData v words → work_line (rest_of words) ≡ Ok (Work v.0 v.1.0 v.1.1, rest_of [])
unfolding work_line
work_line-again tables of v words distinct spells = all_again tables of (AName ∷ AnOp ∷ []) TheData (λ v. Work v.0 v.1.0 v.1.1) v words refl distinct spells

ncd_line-again : (tables : Tables) (of : ℕ) (v : Values (AName ∷ []) TheData) (words : List (List ℕ)) → AreDistinct tables → SpellsAll tables of (AName ∷ []) TheData v words → ncd_line (rest_of words) ≡ Ok (Ncd v.0 v.1, rest_of [])
unfolding ncd_line
ncd_line-again tables of v words distinct spells = all_again tables of (AName ∷ []) TheData (λ v. Ncd v.0 v.1) v words refl distinct spells

repeat_line-again : (tables : Tables) (of : ℕ) (v : Values (ANumber 1 1000000 ∷ []) NoMore) (words : List (List ℕ)) → AreDistinct tables → SpellsAll tables of (ANumber 1 1000000 ∷ []) NoMore v words → repeat_line (rest_of words) ≡ Ok (Repeat v.0, rest_of [])
unfolding repeat_line
repeat_line-again tables of v words distinct spells = all_again tables of (ANumber 1 1000000 ∷ []) NoMore (λ v. Repeat v.0) v words refl distinct spells

if_line-again : (tables : Tables) (of : ℕ) (v : Values (ACond ∷ []) NoMore) (words : List (List ℕ)) → AreDistinct tables → SpellsAll tables of (ACond ∷ []) NoMore v words → if_line (rest_of words) ≡ Ok (If v.0, rest_of [])
unfolding if_line
if_line-again tables of v words distinct spells = all_again tables of (ACond ∷ []) NoMore (λ v. If v.0) v words refl distinct spells

end_line-again : (tables : Tables) (of : ℕ) (v : Values [] NoMore) (words : List (List ℕ)) → AreDistinct tables → SpellsAll tables of [] NoMore v words → end_line (rest_of words) ≡ Ok (End, rest_of [])
unfolding end_line
end_line-again tables of v words distinct spells = all_again tables of [] NoMore (λ v. End) v words refl distinct spells

-- a descriptor is no `query`
no_query : (word : List ℕ) (test : Bool) (door : FdArg) → SpellsFd door word → bytes_eq word (codes "query") ≡ test → test ≡ false
no_query word true door spells is =
    let e : fd_from_word (codes "query") (rest_of []) ≡ Ok (door, rest_of []) = ap (λ w. fd_from_word w (rest_of [])) (sym ((bytes_eq-Decides word (codes "query")).0 is)) ∙ fd_again door word (rest_of []) spells in
    absurd (no_answer e)
no_query word false door spells is = refl

info_line-again : (tables : Tables) (of : ℕ) (v : Values (AnFd ∷ []) NoMore) (words : List (List ℕ)) → AreDistinct tables → SpellsAll tables of (AnFd ∷ []) NoMore v words → info_line (rest_of words) ≡ Ok (Info v.0, rest_of [])
unfolding info_line
info_line-again tables of v [] distinct spells = absurd spells
info_line-again tables of v (word ∷ words) distinct spells =
    ap (λ test. then_read info_after (cond test (value_with_rest words true) (pure false) (rest_of (word ∷ words)))) (no_query word (bytes_eq word (codes "query")) v.0 spells.0 refl) ∙
    all_again tables of (AnFd ∷ []) NoMore (λ v. Info v.0) v (word ∷ words) refl distinct spells

query-again : (word : List ℕ) (words : List (List ℕ)) → word ≡ codes "query" → Ends words → info_line (rest_of (word ∷ words)) ≡ Ok (InfoQuery, rest_of [])
unfolding info_line
query-again word words is ends = ap (λ w. info_line (rest_of (w ∷ words))) is ∙ end_again InfoQuery words ends

-- what is spelled is read after its keyword
pub line-again : (tables : Tables) (of : ℕ) (line : Line) (word : List ℕ) (words : List (List ℕ)) → AreDistinct tables → SpellsLine tables of line (word ∷ words) → (word ≡ keyword_word (keyword_of_line line)) × IsRead tables of line words
line-again tables of (Create var entry cookie attrs) word words distinct spells = (spells.0, create_line-again tables of (var, (entry, (cookie, attrs))) words distinct spells.1)
line-again tables of (Call var door bytes pass room) word words distinct spells = (spells.0, call_line-again tables of (var, (door, (bytes, pass, room))) words distinct spells.1)
line-again tables of (Return bytes pass) word words distinct spells = (spells.0, return_line-again tables of (bytes, pass) words distinct spells.1)
line-again tables of Serve word words distinct spells = (spells.0, serve_line-again tables of tt words distinct spells.1)
line-again tables of (Revoke door) word words distinct spells = (spells.0, revoke_line-again tables of (door, tt) words distinct spells.1)
line-again tables of (Bind door) word words distinct spells = (spells.0, bind_line-again tables of (door, tt) words distinct spells.1)
line-again tables of Unbind word words distinct spells = (spells.0, unbind_line-again tables of tt words distinct spells.1)
line-again tables of (Info door) word words distinct spells = (spells.0, info_line-again tables of (door, tt) words distinct spells.1)
line-again tables of InfoQuery word [] distinct spells = absurd spells.1
line-again tables of InfoQuery word (query ∷ words) distinct spells = (spells.0, query-again query words spells.1.0 spells.1.1)
line-again tables of (GetParam door what) word words distinct spells = (spells.0, getparam_line-again tables of (door, (what, tt)) words distinct spells.1)
line-again tables of (SetParam door what n) word words distinct spells = (spells.0, setparam_line-again tables of (door, (what, (n, tt))) words distinct spells.1)
line-again tables of Cred word words distinct spells = (spells.0, cred_line-again tables of tt words distinct spells.1)
line-again tables of TestCancel word words distinct spells = (spells.0, testcancel_line-again tables of tt words distinct spells.1)
line-again tables of Exit word words distinct spells = (spells.0, exit_line-again tables of tt words distinct spells.1)
line-again tables of (Close what) word words distinct spells = (spells.0, close_line-again tables of (what, tt) words distinct spells.1)
line-again tables of (Dup var what) word words distinct spells = (spells.0, dup_line-again tables of (var, (what, tt)) words distinct spells.1)
line-again tables of (Attach door at) word words distinct spells = (spells.0, attach_line-again tables of (door, (at, tt)) words distinct spells.1)
line-again tables of (Detach at) word words distinct spells = (spells.0, detach_line-again tables of (at, tt) words distinct spells.1)
line-again tables of (Open var at) word words distinct spells = (spells.0, open_line-again tables of (var, (at, tt)) words distinct spells.1)
line-again tables of (Await at) word words distinct spells = (spells.0, await_line-again tables of (at, tt) words distinct spells.1)
line-again tables of (Pipe reading writing) word words distinct spells = (spells.0, pipe_line-again tables of (reading, (writing, tt)) words distinct spells.1)
line-again tables of (Write to bytes) word words distinct spells = (spells.0, write_line-again tables of (to, bytes) words distinct spells.1)
line-again tables of (Read var from most) word words distinct spells = (spells.0, read_line-again tables of (var, (from, (most, tt))) words distinct spells.1)
line-again tables of (PortCreate var) word words distinct spells = (spells.0, pcreate_line-again tables of (var, tt) words distinct spells.1)
line-again tables of (Associate port object events user) word words distinct spells = (spells.0, associate_line-again tables of (port, (object, (events, (user, tt)))) words distinct spells.1)
line-again tables of (Dissociate port object) word words distinct spells = (spells.0, dissociate_line-again tables of (port, (object, tt)) words distinct spells.1)
line-again tables of (Get port wait) word words distinct spells = (spells.0, get_line-again tables of (port, wait) words distinct spells.1)
line-again tables of (GetN port most least wait) word words distinct spells = (spells.0, getn_line-again tables of (port, (most, (least, wait))) words distinct spells.1)
line-again tables of (Send port events user) word words distinct spells = (spells.0, send_line-again tables of (port, (events, (user, tt))) words distinct spells.1)
line-again tables of (SendN events user to) word words distinct spells = (spells.0, sendn_line-again tables of (events, (user, to)) words distinct spells.1)
line-again tables of (Alert port how events user) word words distinct spells = (spells.0, alert_line-again tables of (port, (how, (events, (user, tt)))) words distinct spells.1)
line-again tables of (TimerCreate port user) word words distinct spells = (spells.0, tcreate_line-again tables of (port, (user, tt)) words distinct spells.1)
line-again tables of (TimerSet timer first interval) word words distinct spells = (spells.0, tset_line-again tables of (timer, (first, (interval, tt))) words distinct spells.1)
line-again tables of (TimerDelete timer) word words distinct spells = (spells.0, tdelete_line-again tables of (timer, tt) words distinct spells.1)
line-again tables of (Advance by) word words distinct spells = (spells.0, advance_line-again tables of (by, tt) words distinct spells.1)
line-again tables of (Interrupt whom) word words distinct spells = (spells.0, interrupt_line-again tables of (whom, tt) words distinct spells.1)
line-again tables of (Kill whom) word words distinct spells = (spells.0, kill_line-again tables of (whom, tt) words distinct spells.1)
line-again tables of (Fork begins) word words distinct spells = (spells.0, fork_line-again tables of (begins, tt) words distinct spells.1)
line-again tables of (Work var what bytes) word words distinct spells = (spells.0, work_line-again tables of (var, (what, bytes)) words distinct spells.1)
line-again tables of (Ncd var bytes) word words distinct spells = (spells.0, ncd_line-again tables of (var, bytes) words distinct spells.1)
line-again tables of (Repeat times) word words distinct spells = (spells.0, repeat_line-again tables of (times, tt) words distinct spells.1)
line-again tables of (If what) word words distinct spells = (spells.0, if_line-again tables of (what, tt) words distinct spells.1)
line-again tables of End word words distinct spells = (spells.0, end_line-again tables of tt words distinct spells.1)
