-- A notice that is made, and the room that it leaves for others.
use Rattle.std.proofs.Common.{◌≡◌, inl, inr, ⊎_elim, true≢false, ℕ, ◌+◌, ◌<◌, ◌≤◌, Bool, true, false, ◌||◌, if◌then◌else◌, List, ◌∷◌, count_by, is_some, length, refl, sym, ap, ◌∙◌, subst, arith}
use Rattle.dk_base.specs.ByNumber.{at_number}
use Rattle.dk_base.specs.Words.{RoomValue}
use Rattle.spec_records.specs.Words.{is_pool, pool_in}
use Rattle.spec_kernel.specs.Types.{Door, Pool, Waiting}
use Rattle.spec_kernel.specs.Words.{pool_of}
use Rattle.server_pool.specs.Words.{change_pool, enqueue_in, item_room_in, pool_at}
use Rattle.unref_notice.specs.declared.notices.TheConstants.{NOTICES_MAX}
use Rattle.law_pools.proofs.Readers.{is_pool-self, is_pool-sym}
use Rattle.spec_kernel.specs.Words.{has_lost_door}
use Rattle.spec_kernel.proofs.Giving.{same_pool}
use Rattle.server_pool.specs.Words.{PoolsValue}
use Rattle.unref_notice.specs.Words.{NoticesValue}
use Rattle.dk_base.specs.declared.thread_set.ThreadSet.{ThreadSet}
use Rattle.dk_base.specs.Words.{has}
use Rattle.law_pools.specs.Words.{own_pool}
use Rattle.law_pools.proofs.Readers.{bindings-change_pool, queue-change_other, stack-change_other}
use Rattle.kernel_store.specs.Frames.{AreIn, CanSettle, IsGivenOutToOthers, serves_any}
use Rattle.kernel_store.specs.Stored.{CanMake, StoreValue, count_served, stored_state}
use Rattle.kernel_store.proofs.ItemRoom.{count_cons, room_elsewhere, room_enqueued, there_changed}

module _ {s now : StoreValue} (same : s ≡ now) (d : ℕ) (room : (ds : List ℕ) × CanMake now (d ∷ ds)) where
  can : CanMake s (d ∷ room.0)
  can = subst (λ v. CanMake v (d ∷ room.0)) (sym same) room.1

  pub record_room : 0 < s.notices.spare
  record_room = let l : length (d ∷ room.0) ≤ s.notices.spare = can.records in omega arith

  pub listing_left : 0 < s.short_room
  listing_left = let l : length (d ∷ room.0) ≤ s.short_room = can.short in omega arith

  pub number_left : s.notices.list.made < NOTICES_MAX
  number_left = let l : s.notices.list.made + length (d ∷ room.0) ≤ NOTICES_MAX = can.numbers in omega arith

  pub place_left : (pool : Pool) → pool ≡ pool_of (stored_state s) d → is_some (pool_at s.pools pool) ≡ true → 0 < item_room_in s.pools pool
  place_left pool own there =
      let l : count_served (stored_state s) pool (d ∷ room.0) ≤ item_room_in s.pools pool = can.items pool there in
      one (is_pool pool (pool_of (stored_state s) d)) (ap (is_pool pool) (sym own) ∙ is_pool-self pool)
      (subst (λ k. k ≤ item_room_in s.pools pool) (count_cons (λ k. is_pool pool (pool_of (stored_state s) k)) d room.0) l)
    where
      one :
          (b : Bool) → b ≡ true → (if b then 1 else 0) + count_served (stored_state s) pool room.0 ≤ item_room_in s.pools pool →
          0 < item_room_in s.pools pool
      one true e l = omega arith
      one false e l = cc

-- the notices of the other doors can still be made
pub can_make_others :
    (s after : StoreValue) (d : ℕ) (ds : List ℕ) (pool : Pool) (w : Waiting) → pool ≡ pool_of (stored_state s) d →
    after.pools ≡ change_pool s.pools pool (enqueue_in w) → after.doors ≡ s.doors → s.notices.spare ≤ after.notices.spare + 1 →
    after.notices.list.made ≡ s.notices.list.made + 1 → s.short_room ≤ after.short_room + 1 → CanMake s (d ∷ ds) → CanMake after ds
can_make_others s after d ds pool w own pools doors spare made listed make =
    record {
      records = let l : length (d ∷ ds) ≤ s.notices.spare = make.records in omega arith;
      numbers = let l : s.notices.list.made + length (d ∷ ds) ≤ NOTICES_MAX = make.numbers in omega arith;
      short = let l : length (d ∷ ds) ≤ s.short_room = make.short in omega (arith, l, listed);
      items =
          λ q there.
          let before : is_some (pool_at s.pools q) ≡ true =
          sym (there_changed s.pools pool q (enqueue_in w)) ∙ ap (λ v. is_some (pool_at v q)) (sym pools) ∙ there in
          subst (λ (x : RoomValue Door). count_by (λ k. is_pool q (pool_in (at_number x.items k))) ds ≤ item_room_in after.pools q) (sym doors)
          (subst (λ v. count_served (stored_state s) q ds ≤ item_room_in v q) (sym pools)
          (left q (is_pool q (pool_of (stored_state s) d)) refl
          (subst (λ k. k ≤ item_room_in s.pools q) (count_cons (λ k. is_pool q (pool_of (stored_state s) k)) d ds) (make.items q before))));
    }
  where
    left :
        (q : Pool) (b : Bool) → is_pool q (pool_of (stored_state s) d) ≡ b →
        (if b then 1 else 0) + count_served (stored_state s) q ds ≤ item_room_in s.pools q →
        count_served (stored_state s) q ds ≤ item_room_in (change_pool s.pools pool (enqueue_in w)) q
    left q true e l =
        let k : item_room_in s.pools q ≤ item_room_in (change_pool s.pools pool (enqueue_in w)) q + 1 = room_enqueued s.pools pool w q in omega arith
    left q false e l =
        let k : item_room_in (change_pool s.pools pool (enqueue_in w)) q ≡ item_room_in s.pools q =
        room_elsewhere s.pools pool q (enqueue_in w) (ap (λ p. is_pool p q) own ∙ is_pool-sym (pool_of (stored_state s) d) q ∙ e) in omega arith

-- a notice of one of the doors that are served leaves the pools of others, and the threads, as they were
pub served_made :
    (s : StoreValue) (notices : NoticesValue) (pools : PoolsValue) (latest short : ℕ) (d : ℕ) (pool : Pool) (w : Waiting) (touched : Pool) (parked : ThreadSet)
    (ds : List ℕ) → pool ≡ pool_of (stored_state s) d → pools ≡ change_pool s.pools pool (enqueue_in w) →
    serves_any (stored_state s) ds (pool_of (stored_state s) d) ≡ true → CanSettle touched parked ds s →
    CanSettle touched parked ds (record s { pools = pools; notices = notices; latest = latest; short_room = short })
served_made s notices pools latest short d pool w touched parked ds own left served h =
    subst (λ v. CanSettle touched parked ds (record s { pools = v; notices = notices; latest = latest; short_room = short })) (sym left)
    (record {
      given_out = λ other e f. kept other f (is_pool pool other) refl (h.given_out other e f);
      lost =
          λ t e.
          ap (λ b. is_pool touched (own_pool (record (stored_state s) { bindings = b }) t) || has parked t) same
          ∙ h.lost t (sym (ap (λ b. has_lost_door (record (stored_state s) { bindings = b; notice_list = notices.list }) t) same) ∙ e);
    })
  where
    same : (change_pool s.pools pool (enqueue_in w)).bindings ≡ s.pools.bindings
    same = bindings-change_pool s.pools pool (enqueue_in w)

    kept :
        (other : Pool) → serves_any (stored_state s) ds other ≡ false → (b : Bool) → is_pool pool other ≡ b → IsGivenOutToOthers parked s.pools other →
        IsGivenOutToOthers parked (change_pool s.pools pool (enqueue_in w)) other
    kept other f true g out =
        let here : pool_of (stored_state s) d ≡ other = sym own ∙ same_pool pool other g in
        absurd (true≢false (sym served ∙ ap (serves_any (stored_state s) ds) here ∙ f))
    kept other f false g out =
        ⊎_elim (λ a. inl (subst (AreIn parked) (sym (stack-change_other s.pools pool other (enqueue_in w) g)) a))
        (λ k. inr (queue-change_other s.pools pool other (enqueue_in w) g ∙ k)) out
