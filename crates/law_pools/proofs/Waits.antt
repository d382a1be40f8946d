-- One queue: what waits in it, as calls and notices are made, and as its oldest item leaves it.
use Rattle.std.proofs.Common.{◌≡◌, inl, inr, ℕ, ◌<◌, ◌≤◌, ◌==◌, ◌&&◌, ◌||◌, nat_lt, Bool, true, false, not, if◌then◌else◌, List, [], ◌∷◌, ◌++◌, map, filter, refl, sym, subst, ap, ◌∙◌, append-nil, arith}
use Rattle.std.proofs.lemmas.Bool.Decides.{nat_tests}
use Rattle.std.proofs.lemmas.List.Elements.{filter-append}
use Rattle.dk_base.specs.ByNumber.{at_number}
use Rattle.dk_base.specs.declared.object.Item.TheVariants as item
use Rattle.spec_records.specs.declared.record.CallStage.TheVariants as stage
use Rattle.spec_records.specs.declared.record.NoticeStage.TheVariants as notice
use Rattle.spec_records.specs.Words.{IsAscending, at_stage, call_number, change_first, is_pool, is_queued, is_queued_as, is_queued_in, is_waiting_notice_as, is_waiting_stage, notice_at, notice_number, pool_in, tid, waiting_call, waiting_notice}
use Rattle.spec_kernel.specs.Types.{Call, Door, Notice, Pool, Waiting}
use Rattle.spec_kernel.proofs.Places.{IsIn}
use Rattle.spec_kernel.proofs.Waits.{Passes, from_filter}
use Rattle.server_pool.specs.Words.{is_waiting_call}
use Rattle.server_pool.proofs.Order.{ordered_push}
use Rattle.law_pools.specs.Words.{AreDated, IsQueue, IsQueueOf, WaitsBefore, date_of_call, date_of_notice, is_notice_waiting, is_waiting_notice_in, notices_waiting_in, waiting_in}
use Rattle.law_pools.proofs.Dated.{dated_in}
use Rattle.law_pools.proofs.Merged.{earlier_before}
use Rattle.law_pools.proofs.Parked.{all_in}
use Rattle.law_pools.proofs.Parking.{to_filter}
use Rattle.law_pools.proofs.WaitingLists.{IsOldest, call_kind, filter-given, filter-given_elsewhere, notice_kind, oldest, waiting_push}

-- items of lists

from_map : {X Y : Type 0} (f : X → Y) (xs : List X) (y : Y) → IsIn y (map f xs) → (x : X) × IsIn x xs × (y ≡ f x)
from_map f [] y h = absurd h
from_map f (x ∷ xs) y (inl e) = (x, inl refl, e)
from_map f (x ∷ xs) y (inr k) = let r : (x : _) × IsIn x xs × (y ≡ f x) = from_map f xs y k in (r.0, inr r.1, r.2)

-- a test that only items pass that another keeps
filter_within :
    {X : Type 0} (p keep : X → Bool) → ((x : X) → p x ≡ true → keep x ≡ true) → (xs : List X) → filter p (filter keep xs) ≡ filter p xs
filter_within p keep h [] = refl
filter_within p keep h (x ∷ xs) = go (p x) (keep x) refl refl (filter_within p keep h xs)
  where
    go :
        (b c : Bool) → p x ≡ b → keep x ≡ c → filter p (filter keep xs) ≡ filter p xs →
        filter p (if c then x ∷ filter keep xs else filter keep xs) ≡ (if b then x ∷ filter p xs else filter p xs)
    go true true e f ih = ap (λ d. if d then x ∷ filter p (filter keep xs) else filter p (filter keep xs)) e ∙ ap (λ ys. x ∷ ys) ih
    go true false e f ih = let g : keep x ≡ true = h x e in cc
    go false true e f ih = ap (λ d. if d then x ∷ filter p (filter keep xs) else filter p (filter keep xs)) e ∙ ih
    go false false e f ih = ih

-- which waits before which

before_notice : (w : Waiting) (n : Notice) → w.made ≤ n.made → WaitsBefore w (waiting_notice n)
before_notice w n l = go (nat_lt w.made n.made) (w.made == n.made) (is_waiting_call w) (grind (arith, nat_tests))
  where
    go : (a b c : Bool) → (a || b) ≡ true → (a || (b && (c || true))) ≡ true
    go true b c e = refl
    go false true true e = refl
    go false true false e = refl
    go false false c e = e

-- a queue

pub queue_kept :
    {doors : List Door} {calls : List Call} {notices : List Notice} {pool : Pool} {queue : List Waiting}
    (others : List Door) (rs : List Call) (ns : List Notice) → waiting_in others rs pool ≡ waiting_in doors calls pool →
    notices_waiting_in others ns pool ≡ notices_waiting_in doors notices pool → IsQueueOf doors calls notices pool queue →
    IsQueueOf others rs ns pool queue
queue_kept others rs ns e f h = record { calls_wait = h.calls_wait ∙ sym e; notices_wait = h.notices_wait ∙ sym f; in_order = h.in_order }

module _
    {doors : List Door} {calls : List Call} {notices : List Notice} {pool : Pool} {queue : List Waiting}
    (h : IsQueueOf doors calls notices pool queue) where
  -- nothing in it was made after the last of the calls and notices
  made_by :
      (n : ℕ) → AreDated 0 n (map date_of_call calls) → AreDated 0 n (map date_of_notice notices) → (w : Waiting) → IsIn w queue → w.made ≤ n
  made_by n cs ns w i = go (is_waiting_call w) refl
    where
      call : IsIn w (waiting_in doors calls pool) → w.made ≤ n
      call k =
          let r : (r : Call) × IsIn r (filter (is_queued_in doors pool) calls) × (w ≡ waiting_call r) =
          from_map waiting_call (filter (is_queued_in doors pool) calls) w k in
          let p : Passes (is_queued_in doors pool) calls r.0 = from_filter (is_queued_in doors pool) calls r.0 r.1 in
          subst (λ (x : Waiting). x.made ≤ n) (sym r.2) (dated_in date_of_call calls 0 n r.0 cs p.is_in)

      notice : IsIn w (notices_waiting_in doors notices pool) → w.made ≤ n
      notice k =
          let r : (x : Notice) × IsIn x (filter (is_waiting_notice_in doors pool) notices) × (w ≡ waiting_notice x) =
          from_map waiting_notice (filter (is_waiting_notice_in doors pool) notices) w k in
          let p : Passes (is_waiting_notice_in doors pool) notices r.0 = from_filter (is_waiting_notice_in doors pool) notices r.0 r.1 in
          subst (λ (x : Waiting). x.made ≤ n) (sym r.2) (dated_in date_of_notice notices 0 n r.0 ns p.is_in)

      go : (b : Bool) → is_waiting_call w ≡ b → w.made ≤ n
      go true e = call (subst (IsIn w) h.calls_wait (to_filter is_waiting_call queue w i e))
      go false e = notice (subst (IsIn w) h.notices_wait (to_filter is_notice_waiting queue w i (ap not e)))

  -- one more item, behind the others

  pub call_pushed :
      (r : Call) (n : ℕ) → AreDated 0 n (map date_of_call calls) → AreDated 0 n (map date_of_notice notices) → n < r.made →
      is_queued r.stage ≡ true → (b : Bool) → is_pool pool (pool_in (at_number doors r.door)) ≡ b →
      IsQueueOf doors (calls ++ r ∷ []) notices pool (if b then queue ++ waiting_call r ∷ [] else queue)
  call_pushed r n cs ns l queued true served =
      record {
        calls_wait =
            filter-append is_waiting_call queue (waiting_call r ∷ [])
            ∙ ap (λ ws. ws ++ waiting_call r ∷ []) h.calls_wait
            ∙ sym
            (waiting_push call_kind doors pool calls r queued
            ∙ ap (λ b. if b then waiting_in doors calls pool ++ waiting_call r ∷ [] else waiting_in doors calls pool) served);
        notices_wait = filter-append is_notice_waiting queue (waiting_call r ∷ []) ∙ append-nil (filter is_notice_waiting queue) ∙ h.notices_wait;
        in_order =
            ordered_push WaitsBefore queue (waiting_call r) h.in_order
            (all_in (λ w. WaitsBefore w (waiting_call r)) queue
            (λ w i. earlier_before w (waiting_call r) (let m : w.made ≤ n = made_by n cs ns w i in omega arith)));
      }
  call_pushed r n cs ns l queued false served =
      queue_kept doors (calls ++ r ∷ []) notices
      (waiting_push call_kind doors pool calls r queued
      ∙ ap (λ b. if b then waiting_in doors calls pool ++ waiting_call r ∷ [] else waiting_in doors calls pool) served) refl h

  pub notice_pushed :
      (x : Notice) (n : ℕ) → AreDated 0 n (map date_of_call calls) → AreDated 0 n (map date_of_notice notices) → n ≤ x.made →
      is_waiting_stage x.stage ≡ true → (b : Bool) → is_pool pool (pool_in (at_number doors x.door)) ≡ b →
      IsQueueOf doors calls (notices ++ x ∷ []) pool (if b then queue ++ waiting_notice x ∷ [] else queue)
  notice_pushed x n cs ns l waits true served =
      record {
        calls_wait = filter-append is_waiting_call queue (waiting_notice x ∷ []) ∙ append-nil (filter is_waiting_call queue) ∙ h.calls_wait;
        notices_wait =
            filter-append is_notice_waiting queue (waiting_notice x ∷ [])
            ∙ ap (λ ws. ws ++ waiting_notice x ∷ []) h.notices_wait
            ∙ sym
            (waiting_push notice_kind doors pool notices x waits
            ∙ ap (λ b. if b then notices_waiting_in doors notices pool ++ waiting_notice x ∷ [] else notices_waiting_in doors notices pool) served);
        in_order =
            ordered_push WaitsBefore queue (waiting_notice x) h.in_order
            (all_in (λ w. WaitsBefore w (waiting_notice x)) queue
            (λ w i. before_notice w x (let m : w.made ≤ n = made_by n cs ns w i in omega arith)));
      }
  notice_pushed x n cs ns l waits false served =
      queue_kept doors calls (notices ++ x ∷ []) refl
      (waiting_push notice_kind doors pool notices x waits
      ∙ ap (λ b. if b then notices_waiting_in doors notices pool ++ waiting_notice x ∷ [] else notices_waiting_in doors notices pool) served) h

  -- an item leaves, wherever it stands

  -- the oldest item
  module _ (w : Waiting) (ws : List Waiting) (e : queue ≡ w ∷ ws) where
    calls_are : (b : Bool) → is_waiting_call w ≡ b → waiting_in doors calls pool ≡ (if b then w ∷ filter is_waiting_call ws else filter is_waiting_call ws)
    calls_are b f =
        sym h.calls_wait ∙ ap (filter is_waiting_call) e ∙ ap (λ c. if c then w ∷ filter is_waiting_call ws else filter is_waiting_call ws) f

    notices_are :
        (b : Bool) → is_notice_waiting w ≡ b →
        notices_waiting_in doors notices pool ≡ (if b then w ∷ filter is_notice_waiting ws else filter is_notice_waiting ws)
    notices_are b f =
        sym h.notices_wait ∙ ap (filter is_notice_waiting) e ∙ ap (λ c. if c then w ∷ filter is_notice_waiting ws else filter is_notice_waiting ws) f

    rest_in_order : IsQueue ws
    rest_in_order = let o : IsQueue (w ∷ ws) = subst IsQueue e h.in_order in o.1

    -- a call, given to a thread
    module _ (c : ℕ) (is_call : w.item ≡ item.Call c) where
      first_call : IsOldest call_kind doors pool calls w (filter is_waiting_call ws)
      first_call =
          oldest call_kind doors pool calls w (filter is_waiting_call ws) (calls_are true (ap (λ i. is_waiting_call (record w { item = i })) is_call))

      its_number : first_call.oldest.number ≡ c
      its_number =
          let same : item.Call first_call.oldest.number ≡ item.Call c = ap (λ (x : Waiting). x.item) first_call.same ∙ is_call in cc

      pub call_left : (t made : ℕ) → IsAscending call_number 0 made calls → IsQueueOf doors (change_first (is_queued_as c) (at_stage (stage.Given (tid t))) calls) notices pool ws
      call_left t made order =
          record {
            calls_wait =
                sym first_call.rest
                ∙ ap (map waiting_call)
                (sym (filter-given call_kind doors pool (at_stage (stage.Given (tid t))) (λ r. refl) c made first_call.oldest first_call.others its_number calls 0 order first_call.first));
            notices_wait = sym (notices_are false (ap (λ i. is_notice_waiting (record w { item = i })) is_call));
            in_order = rest_in_order;
          }

      -- the other queues stay
      pub call_left_elsewhere :
          (t made : ℕ) (other : Pool) → IsAscending call_number 0 made calls → is_pool pool other ≡ false →
          waiting_in doors (change_first (is_queued_as c) (at_stage (stage.Given (tid t))) calls) other ≡ waiting_in doors calls other
      call_left_elsewhere t made other order f =
          ap (map waiting_call)
          (filter-given_elsewhere call_kind doors pool (at_stage (stage.Given (tid t))) (λ r. refl) c made first_call.oldest first_call.others its_number other f calls 0 order first_call.first)

    -- and so a notice
    module _ (c : ℕ) (is_notice : w.item ≡ item.Notice c) where
      first_notice : IsOldest notice_kind doors pool notices w (filter is_notice_waiting ws)
      first_notice =
          oldest notice_kind doors pool notices w (filter is_notice_waiting ws)
          (notices_are true (ap (λ i. is_notice_waiting (record w { item = i })) is_notice))

      its_notice_number : first_notice.oldest.number ≡ c
      its_notice_number =
          let same : item.Notice first_notice.oldest.number ≡ item.Notice c = ap (λ (x : Waiting). x.item) first_notice.same ∙ is_notice in cc

      pub notice_left : (t made : ℕ) → IsAscending notice_number 0 made notices → IsQueueOf doors calls (change_first (is_waiting_notice_as c) (notice_at (notice.Given (tid t))) notices) pool ws
      notice_left t made order =
          record {
            calls_wait = sym (calls_are false (ap (λ i. is_waiting_call (record w { item = i })) is_notice));
            notices_wait =
                sym first_notice.rest
                ∙ ap (map waiting_notice)
                (sym (filter-given notice_kind doors pool (notice_at (notice.Given (tid t))) (λ n. refl) c made first_notice.oldest first_notice.others its_notice_number notices 0 order first_notice.first));
            in_order = rest_in_order;
          }

      pub notice_left_elsewhere :
          (t made : ℕ) (other : Pool) → IsAscending notice_number 0 made notices → is_pool pool other ≡ false →
          notices_waiting_in doors (change_first (is_waiting_notice_as c) (notice_at (notice.Given (tid t))) notices) other ≡ notices_waiting_in doors notices other
      notice_left_elsewhere t made other order f =
          ap (map waiting_notice)
          (filter-given_elsewhere notice_kind doors pool (notice_at (notice.Given (tid t))) (λ n. refl) c made first_notice.oldest first_notice.others its_notice_number other f notices 0 order first_notice.first)
