-- The states after a leaving: its threads, its calls and its notices, each from the same before it.
use Rattle.std.proofs.Common.{◌≡◌, ℕ, Bool, true, false, if◌then◌else◌, List, length, map, refl, ap, ◌∙◌}
use Rattle.std.proofs.lemmas.List.{length-map}
use Rattle.spec_kernel.specs.Types.{Notice, NoticeStage, Thread}
use Rattle.spec_records.specs.declared.record.NoticeStage.TheVariants as notice
use Rattle.spec_records.specs.Words.{Leaving, left_call, left_notice, left_notice_at, left_thread_of, process_end}
use Rattle.spec_kernel.specs.State.{State, now}
use Rattle.spec_kernel.specs.Leaving.{leave, leave_process}
use Rattle.spec_records.proofs.Lists.{map-map_same}
use Rattle.spec_kernel.proofs.Threads.{threads-end_process}

-- notices

-- a notice stays, or gets another stage
pub left_notice-case :
    (P : Notice → Type 0) (who : Leaving) (n : Notice) → P n → ((s : NoticeStage) → P (record n { stage = s })) → P (left_notice who n)
left_notice-case P who n same changed = go n.stage
  where
    dropped : (b : Bool) → P (if b then record n { stage = notice.Dropped } else n)
    dropped true = changed notice.Dropped
    dropped false = same

    over : (b : Bool) → P (if b then record n { stage = notice.Over } else n)
    over true = changed notice.Over
    over false = same

    go : (s : NoticeStage) → P (left_notice_at who s n)
    go notice.Waiting = dropped (who.loses n.door)
    go (notice.Given u) = over (who.ends u.0)
    go (notice.Entered u) = over (who.ends u.0)
    go notice.Dropped = same
    go notice.Over = same

pub left_notice-same :
    {Y : Type 0} (f : Notice → Y) → ((s : NoticeStage) (n : Notice) → f (record n { stage = s }) ≡ f n) → (who : Leaving) (n : Notice) →
    f (left_notice who n) ≡ f n
left_notice-same f same who n = left_notice-case (λ k. f k ≡ f n) who n refl (λ s. same s n)

pub map-left_notices :
    {Y : Type 0} (f : Notice → Y) → ((s : NoticeStage) (n : Notice) → f (record n { stage = s }) ≡ f n) → (who : Leaving) (ns : List Notice) →
    map f (map (left_notice who) ns) ≡ map f ns
map-left_notices f same who ns = map-map_same f (left_notice who) (left_notice-same f same who) ns

-- threads

abbrev thread_number : Thread → ℕ
thread_number x = x.number

module _ (m : State) (who : Leaving) where
  -- what a thread becomes
  abbrev pub left_in : Thread → Thread
  left_in x = left_thread_of who (now m) m.call_tree.calls x

  pub threads-leave : length (leave m who).process_table.threads ≡ length m.process_table.threads
  threads-leave = length-map m.process_table.threads left_in

  pub calls-leave : length (leave m who).call_tree.calls ≡ length m.call_tree.calls
  calls-leave = length-map m.call_tree.calls (left_call who)

-- the threads of a process that ends are those of its leaving
pub threads-leave_process :
    (m : State) (p : ℕ) →
    (leave_process m p).process_table.threads ≡ (leave m (process_end m.process_table m.doors p)).process_table.threads
threads-leave_process m p = threads-end_process (leave m (process_end m.process_table m.doors p)).process_table p

pub threads_of-leave_process : (m : State) (p : ℕ) → length (leave_process m p).process_table.threads ≡ length m.process_table.threads
threads_of-leave_process m p =
    ap length (threads-leave_process m p) ∙ threads-leave m (process_end m.process_table m.doors p)
