-- What is told of a run of a load.
use Rattle.std.specs.Prelude.{ℕ, ◌≡◌, None}
use Rattle.script_lang.specs.Words.{ScriptValue}
use Rattle.spec_scripts.specs.Words.{ending_of, refusal}
use Rattle.sys_run.specs.Words.{IsPlay, LawsOf, SysValue, history}
use Rattle.load_gen.specs.Summaries.{summary_of}
use Rattle.load_gen.specs.declared.summary_line.SummaryLine.{SummaryLine}

-- the summary tells of a run of the script: where no turn of the schedule is refused, of the run that `play` makes
pub record IsSummaryOf (n : ℕ) (script : ScriptValue) (summary : SummaryLine) : Type 0 where
  pub run : SysValue
  pub same_script : run.script ≡ script
  pub played : refusal script ≡ None → IsPlay script run
  pub laws : LawsOf run
  pub line : summary.line ≡ summary_of n (history run)
  pub ending : summary.ending ≡ ending_of (history run).state
