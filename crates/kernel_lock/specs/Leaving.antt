-- Why the driver of a thread leaves.
use Rattle.std.specs.Prelude.{ℕ, ◌≡◌, true}
use Rattle.sys_run.specs.declared.asked.SharedRun.{Ghosts}
use Rattle.kernel_lock.specs.Ends.{has_ended, is_member}
use Rattle.kernel_lock.specs.declared.running.looks.Left.{Left}
use Rattle.kernel_lock.specs.declared.running.looks.Left.TheVariants as left

-- a look found that the run had ended, or that the start of this very thread was marked as refused
abbrev pub IsLeft : {S : Type 0} {G : Ghosts S} → ℕ → Left S G → Type 0
IsLeft {S} {G} t (left.Ended look) = has_ended (G.run look.run.value) look.stopped ≡ true
IsLeft {S} {G} t (left.Refused look) = is_member look.marks.value.items t ≡ true
