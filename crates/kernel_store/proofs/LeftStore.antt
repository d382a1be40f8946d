-- The whole of leaving: what the exit paths need of a store, and what becomes of notices by those who left.
use Rattle.std.proofs.Common.{◌≡◌, ℕ, ◌+◌, ◌<◌, ◌≤◌, ◌==◌, Bool, false, List, Some, map, refl, sym, subst, ap, ◌∙◌, arith}
use Rattle.std.proofs.Math.Path.{fun_ext}
use Rattle.dk_base.specs.ByNumber.{at_number}
use Rattle.dk_base.specs.declared.object.Item.{Item}
use Rattle.spec_records.specs.declared.leaving.Leaver.{Leaver}
use Rattle.spec_records.specs.declared.leaving.Leaver.TheVariants.{Interrupted, Ended, EndedProcess, Revoked, Forked}
use Rattle.spec_records.specs.declared.record.NoticeStage.TheVariants as notice
use Rattle.spec_records.specs.Words.{CallTree, Leaving, NoticeList, ProcessTable, is_owned_by, leaving_of, left_notice, left_notice_at, left_notices, left_threads, parked_at}
use Rattle.spec_kernel.specs.Types.{Call, Door, Notice, NoticeStage, Parked}
use Rattle.unref_notice.specs.Words.{AreAllLeft}
use Rattle.exit_paths.proofs.LeftThreads.{process_kept}
use Rattle.server_pool.specs.Words.{PoolsValue, stack_in}
use Rattle.law_pools.specs.Words.{Agrees, IsListed}
use Rattle.law_pools.proofs.Readers.{is_pool-self}
use Rattle.kernel_store.specs.Stored.{IsAgreed, StoreValue}

-- no thread parked later than the latest
pub parked_early :
    {n : ℕ} {table : ProcessTable} {doors : List Door} {tree : CallTree} {list : NoticeList} {v : PoolsValue} → Agrees n table doors tree list v →
    (t : ℕ) (x : Parked) → parked_at table v.bindings t ≡ Some x → x.since ≤ n
parked_early {n} {table} {doors} {tree} {list} {v} h t x e =
    let s = h.stacks x.pool in
    let k : IsListed (stack_in v x.pool) x = s.all t x e (is_pool-self x.pool) in
    (s.parked k.place x k.there).since

module _ {s now : StoreValue} (h : IsAgreed s) (same : s ≡ now) where
  pub early : now.latest ≤ now.events → s.latest < s.events + 1
  early first = let l : s.latest ≤ s.events = subst (λ (v : StoreValue). v.latest ≤ v.events) (sym same) first in omega arith

-- the threads that leave end the same notices as before they left

-- what is interrupted does not matter for a notice
alike_at : (f g h loses : ℕ → Bool) (s : NoticeStage) (n : Notice) → left_notice_at (record { ends = f; interrupts = g; loses = loses }) s n ≡ left_notice_at (record { ends = f; interrupts = h; loses = loses }) s n
alike_at f g h loses notice.Waiting n = refl
alike_at f g h loses (notice.Given u) n = refl
alike_at f g h loses (notice.Entered u) n = refl
alike_at f g h loses notice.Over n = refl
alike_at f g h loses notice.Dropped n = refl

module _ (table : ProcessTable) (doors : List Door) (l : Leaving) (now : ℕ) (calls : List Call) where
  left_alike : (who : Leaver) (n : Notice) → left_notice (leaving_of (left_threads l now calls table) doors who) n ≡ left_notice (leaving_of table doors who) n
  left_alike (Interrupted t) n = refl
  left_alike (Ended t) n = refl
  left_alike (Revoked d) n = refl
  left_alike (Forked t) n =
      alike_at (λ u. false) (leaving_of (left_threads l now calls table) doors (Forked t)).interrupts (leaving_of table doors (Forked t)).interrupts (λ d. false) n.stage n
  left_alike (EndedProcess p) n =
      ap (λ (f : ℕ → Bool). left_notice (record { ends = f; interrupts = λ u. false; loses = λ d. is_owned_by p.0 (at_number doors d) }) n)
      (fun_ext (λ u. ap (λ k. k == p.0) (process_kept l now calls table u)))

  pub notices_alike : (who : Leaver) (list : NoticeList) → left_notices (leaving_of (left_threads l now calls table) doors who) list ≡ left_notices (leaving_of table doors who) list
  notices_alike who list = ap (λ (f : Notice → Notice). record list { notices = map f list.notices }) (fun_ext (left_alike who))

  pub all_left_alike : (who : Leaver) (items : List Item) (ns : List Notice) → AreAllLeft (leaving_of table doors who) items ns → AreAllLeft (leaving_of (left_threads l now calls table) doors who) items ns
  all_left_alike who items ns h i x e none = left_alike who x ∙ h i x e none
