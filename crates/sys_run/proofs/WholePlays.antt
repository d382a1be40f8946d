-- What the turns of a schedule make, and those after them.
use Rattle.std.proofs.Common.{◌≡◌, ℕ, ◌-◌, List, [], ◌++◌, length, refl, ap, ap₂, sym, ◌∙◌}
use Rattle.script_lang.specs.Words.{ScriptValue}
use Rattle.spec_scripts.specs.Words.{History, Refusal, least_runnable_turns, refusal, run, run_from, scheduled_turns, threads_of_events, turns_before, turns_of_play}
use Rattle.spec_scripts.proofs.Histories.{length-threads_of_events}
use Rattle.sys_run.specs.Schedules.{HasPlayed, IsRefused, IsPlay, IsBefore}
use Rattle.sys_run.specs.Sys.{SysValue, with_journal, history, with_turns, turns_left}
use Rattle.sys_run.proofs.Finishing.{history-with_turns, script-with_turns, history-from_new, run-then, threads-with_turns}

least_runnable_turns-same :
    (s s' : ScriptValue) (n n' : ℕ) (h h' : History) → s ≡ s' → n ≡ n' → h ≡ h' →
    least_runnable_turns s (s.budget - n) h ≡ least_runnable_turns s' (s'.budget - n') h'
least_runnable_turns-same s s' n n' h h' es en eh = rw (es, en, eh) refl

run_from-same : (s s' : ScriptValue) (h h' : History) (ts ts' : List ℕ) → s ≡ s' → h ≡ h' → ts ≡ ts' → run_from s h ts ≡ run_from s' h' ts'
run_from-same s s' h h' ts ts' es eh et = rw (es, eh, et) refl

-- the schedule's turns from an empty journal, and then all that are left
pub whole-play :
    (script : ScriptValue) (new p q : SysValue) → new ≡ with_journal script [] → HasPlayed new p →
    q ≡ with_turns p (turns_left p) → IsPlay script q
unfolding turns_of_play
whole-play script new p q n is h =
    let begun : p ≡ with_turns (with_journal script []) (scheduled_turns script) =
    is.turns ∙ ap (λ (r : SysValue). with_turns r (scheduled_turns r.script)) n
    in let after : history p ≡ run script (scheduled_turns script) = ap history begun ∙ history-from_new script (scheduled_turns script)
    in let same : p.script ≡ script = ap (λ (r : SysValue). r.script) begun ∙ script-with_turns (scheduled_turns script) (with_journal script [])
    in let threads : threads_of_events p.journal ≡ scheduled_turns script = ap (λ (r : SysValue). threads_of_events r.journal) begun ∙ threads-with_turns (scheduled_turns script) (with_journal script [])
    in let count : length p.journal ≡ length (scheduled_turns script) = sym (length-threads_of_events p.journal) ∙ ap length threads
    in let left : turns_left p ≡ least_runnable_turns script (script.budget - length (scheduled_turns script)) (run script (scheduled_turns script)) =
    least_runnable_turns-same p.script script (length p.journal) (length (scheduled_turns script)) (history p) (run script (scheduled_turns script)) same count after
    in record {
      not_refused = ap (λ (r : SysValue). refusal r.script) (sym n) ∙ is.not_refused;
      same_script = ap (λ (r : SysValue). r.script) h ∙ script-with_turns (turns_left p) p ∙ same;
      same_run =
          ap history h
          ∙ history-with_turns (turns_left p) p
          ∙ run_from-same p.script script (history p) (run script (scheduled_turns script)) (turns_left p) _ same after left
          ∙ sym (run-then script (scheduled_turns script) (least_runnable_turns script (script.budget - length (scheduled_turns script)) (run script (scheduled_turns script))));
      same_turns =
          ap (λ (r : SysValue). threads_of_events r.journal) h
          ∙ threads-with_turns (turns_left p) p
          ∙ ap₂ (λ ts us. ts ++ us) threads left;
    }

-- the turns before a refused one, from an empty journal
pub refused-play :
    (script : ScriptValue) (refused : Refusal) (new p : SysValue) → new ≡ with_journal script [] → IsRefused new p refused →
    IsBefore script refused p
refused-play script refused new p n is =
    let whole : p ≡ with_turns (with_journal script []) (turns_before script refused) =
    is.turns ∙ ap (λ (r : SysValue). with_turns r (turns_before r.script refused)) n
    in record {
      refusal = ap (λ (r : SysValue). refusal r.script) (sym n) ∙ is.refusal;
      same_script = ap (λ (r : SysValue). r.script) whole ∙ script-with_turns (turns_before script refused) (with_journal script []);
      same_run = ap history whole ∙ history-from_new script (turns_before script refused);
      same_turns = ap (λ (r : SysValue). threads_of_events r.journal) whole ∙ threads-with_turns (turns_before script refused) (with_journal script []);
    }
