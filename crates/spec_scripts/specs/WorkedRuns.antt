-- Scripts as text, and the texts of their runs.
use Rattle.std.specs.Prelude.{ℕ, ◌≡◌, List, Option, Some, None, Ok, codes}
use Rattle.script_lang.specs.Words.{ScriptValue, parse_result}
use Rattle.spec_requests.specs.Words.{refused_text}
use Rattle.spec_scripts.specs.ScriptRuns.{run, turns_of_play, Refusal, refusal, turns_before}
use Rattle.spec_scripts.specs.RunText.{text_of_history}

abbrev pub text_up_to_refusal : ScriptValue → Option Refusal → List ℕ
text_up_to_refusal script None = text_of_history script (run script (turns_of_play script))
text_up_to_refusal script (Some refused) =
    refused_text script (run script (turns_before script refused)).events refused.turn (record { 0 = refused.thread })

-- the text of the run that `play` makes of a script
abbrev pub text_of_play : ScriptValue → List ℕ
text_of_play script = text_up_to_refusal script (refusal script)

-- a text spells a script, and the run that `play` makes of it has this text
pub record PlaysAs (text run : List ℕ) : Type 0 where
  pub script : ScriptValue
  pub spelled : parse_result text ≡ Ok script
  pub trace : text_of_play script ≡ run

-- an echo door and a client
abbrev pub echo_script : List ℕ
echo_script =
    codes
    "doors script 1\nprocess srv\nthread s\n create d echo 7\n attach $d path\n serve\nend\nproc echo\n return $arg\nend\nprocess cli\nthread c\n await path\n open d path\n call r $d \"hi\"\nend\n"

abbrev pub echo_trace : List ℕ
echo_trace =
    codes
    "1 s s create ok fd 0\n2 s s attach ok\n3 s s return wait\n4 c c await ok\n5 c c open ok fd 0\n6 c c call wait c1\n7 s c accept enter c1 echo 7 \"hi\"\n8 s c return wait\n9 c c collect ok \"hi\"\n10 c c exit ok\nend complete 10\n"

-- the client has room for one byte of results
abbrev pub grown_script : List ℕ
grown_script =
    codes
    "doors script 1\nprocess srv\nthread s\ncreate d echo 7\nattach $d echo\nserve\nend\nproc echo\nreturn $arg\nend\nprocess cli\nthread c\nawait echo\nopen d echo\ncall r $d \"hi\" rsize 1\nend\n"

abbrev pub grown_trace : List ℕ
grown_trace =
    codes
    "1 s s create ok fd 0\n2 s s attach ok\n3 s s return wait\n4 c c await ok\n5 c c open ok fd 0\n6 c c call wait c1\n7 s c accept enter c1 echo 7 \"hi\"\n8 s c return wait\n9 c c collect ok \"hi\" grown\n10 c c exit ok\nend complete 10\n"

-- a budget that is used up before the run is done
abbrev pub budget_script : List ℕ
budget_script =
    codes
    "doors script 1\nbudget 4\nprocess srv\nthread s\ncreate d echo 7\nattach $d echo\nserve\nend\nproc echo\nreturn $arg\nend\nprocess cli\nthread c\nawait echo\nopen d echo\ncall r $d \"hi\"\nend\n"

abbrev pub budget_trace : List ℕ
budget_trace =
    codes
    "1 s s create ok fd 0\n2 s s attach ok\n3 s s return wait\n4 c c await ok\nend budget 4\n"

-- a schedule whose third turn is that of a thread that waits
abbrev pub refused_script : List ℕ
refused_script =
    codes
    "doors script 1\nprocess srv\nthread s\ncreate d echo 7\nattach $d echo\nserve\nend\nproc echo\nreturn $arg\nend\nprocess cli\nthread c\nawait echo\nopen d echo\ncall r $d \"hi\"\nend\nschedule s c c\n"

abbrev pub refused_trace : List ℕ
refused_trace = codes "1 s s create ok fd 0\n2 c c await wait\nrefused turn 3 c\n"

-- A loop in a loop, and tests in tests: of both turns of the outer loop each `open d x` fails; so the first test holds in
-- neither and the second in both. The path `y` is free in the first turn and taken in the second.
abbrev pub loops_script : List ℕ
loops_script =
    codes
    "doors script 1\nprocess p\nthread t\nrepeat 2\n open d x\n repeat 2\n  open d x\n end\n if ok\n  open d y\n  if ok\n   open d y\n  end\n end\n if ENOENT\n  create d e 5\n  if ok\n   attach $d y\n  end\n  if EBUSY\n   open d y\n  end\n end\nend\nend\nproc e\nend\n"

abbrev pub loops_trace : List ℕ
loops_trace =
    codes
    "1 t t open ENOENT\n2 t t open ENOENT\n3 t t open ENOENT\n4 t t create ok fd 0\n5 t t attach ok\n6 t t open ENOENT\n7 t t open ENOENT\n8 t t open ENOENT\n9 t t create ok fd 1\n10 t t attach EBUSY\n11 t t open ok fd 2\n12 t t exit ok\nend complete 12\n"

-- A client is interrupted while its server waits in a call of its own. That call goes on, and its thread works for the server, which
-- is told by its test; what the server returns goes nowhere.
abbrev pub interrupted_script : List ℕ
interrupted_script =
    codes
    "doors script 1\nprocess back\nthread g\ncreate d find 3\nattach $d back\nserve\nend\nproc find\nreturn \"found \" + $arg\nend\nprocess front\nthread f\ncreate d ask 4\nattach $d front\nserve\nend\nproc ask\nopen e back\ncall r $e $arg\ntestcancel\nreturn $r\nend\nprocess cli\nthread c\nawait front\nopen d front\ncall r $d \"q\"\nend\nprocess other\nthread k\ninterrupt c\nend\nschedule g g g f f f c c c f f f k g\n"

abbrev pub interrupted_trace : List ℕ
interrupted_trace =
    codes
    "1 g g create ok fd 0\n2 g g attach ok\n3 g g return wait\n4 f f create ok fd 0\n5 f f attach ok\n6 f f return wait\n7 c c await ok\n8 c c open ok fd 0\n9 c c call wait c1\n10 f c accept enter c1 ask 4 \"q\"\n11 f c open ok fd 1\n12 f c call wait c2\n13 k k interrupt ok\n14 g f accept enter c2 find 3 \"q\"\n15 g f return wait\n16 f f collect ok \"found q\"\n17 f f testcancel ok yes\n18 f f return wait\n19 c c collect EINTR\n20 c c exit ok\n21 k k exit ok\nend complete 21\n"

-- The references to two doors fall to one twice each: of the first a notice is made once, and of the second each time. A notice brings no
-- descriptors.
abbrev pub noticed_script : List ℕ
noticed_script =
    codes
    "doors script 1\nprocess srv\nthread s\ncreate d p 7 unref\ncreate m p 9 unref-multi\nrepeat 2\ndup e $d\nclose $e\ndup e $m\nclose $e\nend\nserve\nend\nproc p\nif unref\nclose $arg\nend\nend\n"

abbrev pub noticed_trace : List ℕ
noticed_trace =
    codes
    "1 s s create ok fd 0\n2 s s create ok fd 1\n3 s s dup ok fd 2\n4 s s close ok\n5 s s dup ok fd 2\n6 s s close ok\n7 s s dup ok fd 2\n8 s s close ok\n9 s s dup ok fd 2\n10 s s close ok\n11 s s return wait\n12 s s accept enter n1 p 7 unref\n13 s s close EBADF\n14 s s return wait\n15 s s accept enter n2 p 9 unref\n16 s s close EBADF\n17 s s return wait\n18 s s accept enter n3 p 9 unref\n19 s s close EBADF\n20 s s return wait\nend complete 20\n"
