-- Pools that hold the same threads, items and spares, and pools that hold no more: what that keeps.
use Rattle.std.proofs.Common.{◌≡◌, ℕ, List, length, refl, sym, ap, ◌∙◌, subst, subst₂}
use Rattle.spec_records.specs.Words.{CallTree, NoticeList, ProcessTable}
use Rattle.spec_kernel.specs.Types.{Door, Pool}
use Rattle.server_pool.specs.Words.{PoolValue, PoolsValue, change_pool, spares_of, with_room}
use Rattle.law_pools.specs.Words.{Agrees, IsQueueOf, IsStackOf}
use Rattle.law_pools.proofs.Leaving.{read_kept}
use Rattle.law_pools.proofs.Readers.{bindings-change_pool, common-change_pool, private-change_pool, spares-change_pool}
pub use Rattle.exit_paths.specs.Words.{HoldsSame}

-- room for a door, and for a thread and an item of a pool
pub same_in_room :
    (v u w : PoolsValue) (doors threads items : ℕ) (pool : Pool) → u ≡ record v { door_room = doors } →
    w ≡ change_pool u pool (with_room threads items) → HoldsSame v w
same_in_room v u w doors threads items pool e f =
    subst (HoldsSame v) (sym (f ∙ ap (λ x. change_pool x pool (with_room threads items)) e)) same
  where
    x : PoolsValue
    x = record v { door_room = doors }

    room : PoolValue → PoolValue
    room = with_room threads items

    same : HoldsSame v (change_pool x pool room)
    same =
        record {
          bindings = bindings-change_pool x pool room;
          stacks = read_kept (λ (y : PoolValue). y.parked) room (λ y. refl) x pool;
          queues = read_kept (λ (y : PoolValue). y.waiting) room (λ y. refl) x pool;
          spares = λ p. ap (λ spares. spares_of (record v { spares = spares }) p) (spares-change_pool x pool room);
          common = common-change_pool x pool room;
          spare_lists = ap length (spares-change_pool x pool room);
          private = private-change_pool x pool room;
        }

pub agrees_same :
    {n : ℕ} {table : ProcessTable} {doors : List Door} {tree : CallTree} {list : NoticeList} {v w : PoolsValue} →
    Agrees n table doors tree list v → HoldsSame v w → Agrees n table doors tree list w
agrees_same {n} {table} {doors} {tree} {list} {v} {w} h same =
    record {
      stacks = λ q. subst₂ (λ b s. IsStackOf table b n q s) (sym same.bindings) (sym (same.stacks q)) (h.stacks q);
      queues = λ q. subst (IsQueueOf doors tree.calls list.notices q) (sym (same.queues q)) (h.queues q);
      spares = λ p. same.spares p ∙ h.spares p;
      calls = h.calls;
      call_dates = h.call_dates;
      notices = h.notices;
      notice_dates = h.notice_dates;
      kept = h.kept;
      common = same.common ∙ h.common;
      spare_lists = same.spare_lists ∙ h.spare_lists;
      private = same.private ∙ h.private;
    }
