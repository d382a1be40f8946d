-- What becomes of a notice: why it is at its stage, and that each reason has its effect.
use Rattle.std.specs.Prelude.{ℕ, ◌≡◌, ◌+◌, ◌<◌, ◌≤◌, ◌⊎◌, List, Option, Bool, true, false, Some, None, zero, suc, length, slice_get}
use Rattle.std.proofs.Common.{refl, sym, ap, subst, ◌∙◌, add-one, inl, inr}
use native.Mathlib.Omega.{arith}
use Rattle.std.proofs.lemmas.Option.{slice_get_within}
use Rattle.spec_kernel.specs.Types.{Answer, Inv, Item, Notice, NoticeStage, Request}
use Rattle.dk_base.specs.declared.object.Item.TheVariants as item
use Rattle.spec_records.specs.declared.record.ThreadState.TheVariants as is
use Rattle.spec_records.specs.declared.record.NoticeStage.TheVariants as notice
use Rattle.spec_records.specs.Words.{tid}
use Rattle.spec_kernel.specs.Words.{State, Turn, invocation_of, is_valid, state_at, state_of}
use Rattle.law_states.specs.Core.{core, is_outside, notice_in}
use Rattle.law_states.specs.Coherent.{IsCoherent}
use Rattle.law_states.specs.Records.{item_in, notice_of}
use Rattle.law_places.specs.Places.{HasEnteredNotice, notice_stage_of, process_at}
use Rattle.law_runs.specs.Notices.{IsDroppedAt, IsCutOffAt, IsLostAt, IsNeverEntered, IsReturnedAt, IsUnentered, NoticeFate}
use Rattle.law_runs.specs.Notices.NoticeFate.{waits, is_given, is_entered, dropped as was_dropped, lost, returned as was_returned, cut_off}
use Rattle.law_places.proofs.Known.{Known, TurnAt, invariant_before, next, turn_at}
use Rattle.law_places.proofs.NoticeChanges.{NoticeChange, is_new_stage, rank_in_notice, rank_of_notice, stage_rank}
use Rattle.law_places.proofs.NoticeChanges.NoticeChange.{made, given, entered, returned, dropped, ended}
use Rattle.law_runs.proofs.Events.{step_drops}
use Rattle.law_places.proofs.NoticePlaces.{NoticeChangeAt, not_entered_before, notice_rank, notice_stays_or_changes, passed_over, past_stays}
use Rattle.law_runs.proofs.Entered.{given_enters, number_at}
use Rattle.law_places.proofs.ReturnRefusals.{no_return_refusal}
use Rattle.law_places.proofs.Invocations.{return_ends}
use Rattle.law_places.proofs.Validity.{step_loses}

abbrev FateIn : State → List Turn → ℕ → ℕ → Option Notice → Type 0
FateIn m xs i c None = Unit {0}
FateIn m xs i c (Some x) = NoticeFate m xs i c x.stage

-- where a notice comes that a thread has

abbrev is_taken : NoticeStage → Bool
is_taken (notice.Given u) = true
is_taken (notice.Entered u) = true
is_taken _ = false

data GoesTo (t : ℕ) (s : NoticeStage) : Option NoticeStage → Type 0 where
  enters : s ≡ notice.Given (tid t) → GoesTo t s (Some (notice.Entered (tid t)))
  over : GoesTo t s (Some notice.Over)

waiting_not_taken : (s : NoticeStage) → s ≡ notice.Waiting → is_taken s ≡ true → ⊥
waiting_not_taken s e f = absurd (cc (sym f ∙ ap is_taken e))

goes_to :
    (m : State) (t : ℕ) (q : Option Request) (a : Answer) (n : State) (o p : Option Notice) (s : NoticeStage) → NoticeChange m t q a n o p →
    notice_in o ≡ Some s → is_taken s ≡ true → GoesTo t s (notice_in p)
goes_to m t q a n o p s (made x d e f g w at) h k = absurd (cc h)
goes_to m t q a n o p s (given x u e) h k = absurd (waiting_not_taken s (sym (cc h) ∙ e) k)
goes_to m t q a n o p s (entered x e f g v) h k = enters (sym (cc h) ∙ g)
goes_to m t q a n o p s (returned x bytes pass e f g) h k = over
goes_to m t q a n o p s (dropped x e f g) h k = absurd (waiting_not_taken s (sym (cc h) ∙ e) k)
goes_to m t q a n o p s (ended x u e f) h k = over

given_or_entered : (u v : ℕ) → notice.Entered (tid u) ≡ notice.Given (tid v) → ⊥
given_or_entered u v e = cc

abbrev thread_given : NoticeStage → ℕ
thread_given (notice.Given u) = u.0
thread_given _ = 0

same_given : (u v : ℕ) → notice.Given (tid u) ≡ notice.Given (tid v) → v ≡ u
same_given u v e = ap thread_given (sym e)

none_is : (v : Option Inv) (w : Item) → v ≡ None → item_in v ≡ Some w → ⊥
none_is v w e f = absurd (cc (sym (ap item_in e) ∙ f))

module _ (m : State) (xs : List Turn) (k : Known m xs) where
  unentered : (i c : ℕ) → i ≤ length xs → notice_rank m xs k c i < 3 → IsUnentered m xs i c
  unentered i c b r j l w = not_entered_before m xs k c i j b r l w

  later :
      (i j c : ℕ) (s : NoticeStage) → i ≤ j → j ≤ length xs → notice_rank m xs k c j ≡ rank_of_notice s → NoticeFate m xs i c s →
      NoticeFate m xs j c s
  later i j c s l b r (waits w) = waits (unentered j c b (omega (arith, r)))
  later i j c s l b r (is_given u w) = is_given u (unentered j c b (omega (arith, r)))
  later i j c s l b r (is_entered u w) =
      is_entered u
      (record {
        at = w.at;
        turn = w.turn;
        earlier = omega (arith, w.earlier, l);
        found = w.found;
        accept = w.accept;
        same_thread = w.same_thread;
      })
  later i j c s l b r (was_dropped at g w n) = was_dropped at (omega (arith, g, l)) w n
  later i j c s l b r (lost at u g w n) = lost at u (omega (arith, g, l)) w n
  later i j c s l b r (was_returned at g w) = was_returned at (omega (arith, g, l)) w
  later i j c s l b r (cut_off at u g w) = cut_off at u (omega (arith, g, l)) w

  new_fate :
      (i c : ℕ) (s : NoticeStage) → i ≤ length xs → is_new_stage s ≡ true → notice_rank m xs k c i ≡ rank_of_notice s →
      NoticeFate m xs i c s
  new_fate i c notice.Waiting b w r = waits (unentered i c b (omega (arith, r)))
  new_fate i c (notice.Given u) b w r = is_given u.0 (unentered i c b (omega (arith, r)))
  new_fate i c (notice.Entered u) b w r = absurd (cc w)
  new_fate i c notice.Over b w r = absurd (cc w)
  new_fate i c notice.Dropped b w r = absurd (cc w)

  never :
      (i c : ℕ) (o p : Option Notice) → i < length xs → notice_of (state_at m xs i) c ≡ o → notice_of (state_at m xs (i + 1)) c ≡ p →
      rank_in_notice o < 3 → 3 < rank_in_notice p → IsNeverEntered m xs c
  never i c o p l b a r s j w =
      passed_over m xs k c i j l (omega (arith, ap rank_in_notice b, r)) (omega (arith, ap rank_in_notice a, s)) w

  by_change :
      (i c : ℕ) (t : Turn) (o p : Option Notice) → slice_get xs i ≡ Some t → i < length xs → notice_of (state_at m xs i) c ≡ o →
      notice_of (state_at m xs (i + 1)) c ≡ p → NoticeChangeAt m xs i t o p → FateIn m xs (i + 1) c p
  by_change i c t o p e l b a (made x d f g h w at) = new_fate (i + 1) c x.stage (omega (arith, l)) w (ap rank_in_notice a)
  by_change i c t o p e l b a (given x u f) = is_given u (unentered (i + 1) c (omega (arith, l)) (omega (arith, ap rank_in_notice a)))
  by_change i c t o p e l b a (entered x q f g h) =
      is_entered t.thread
      (record {
        at = i;
        turn = t;
        earlier = omega arith;
        found = e;
        accept = given_enters m xs k i c t e q (f ∙ ap (λ (j : ℕ). is.Given (item.Notice j)) (number_at m xs k i c x b));
        same_thread = refl;
      })
  by_change i c t o p e l b a (returned x bytes pass q f g) =
      was_returned i (omega arith)
      (record {
        turn = t;
        found = e;
        bytes = bytes;
        pass = pass;
        is_return =
            record {
              asked = q;
              not_refused =
                  no_return_refusal (state_at m xs i) (invariant_before m xs k i t e) t.thread (process_at m xs i t.thread) bytes pass f;
            };
        was_entered = ap notice_in b ∙ ap (λ (s : NoticeStage). Some s) g;
      })
  by_change i c t o p e l b a (dropped x f g h) =
      was_dropped i (omega arith)
      (record { within = l; waiting = x; there = b; waits = f; valid_before = g; invalid_after = h })
      (never i c _ _ l b a (omega (arith, ap rank_of_notice f)) (omega arith))
  by_change i c t o p e l b a (ended x u (inl f) g) =
      lost i u (omega arith)
      (record { within = l; was_given = ap notice_in b ∙ ap (λ (s : NoticeStage). Some s) f; ends = g })
      (never i c _ _ l b a (omega (arith, ap rank_of_notice f)) (omega arith))
  by_change i c t o p e l b a (ended x u (inr f) g) =
      cut_off i u (omega arith)
      (record { within = l; was_entered = ap notice_in b ∙ ap (λ (s : NoticeStage). Some s) f; ends = g })

  fate_in : (i c : ℕ) → i ≤ length xs → FateIn m xs i c (notice_of (state_at m xs i) c)
  fate_in zero c l = subst (FateIn m xs 0 c) (sym (k.no_notice c)) tt
  fate_in (suc i) c l =
      subst (λ j. FateIn m xs j c (notice_of (state_at m xs j) c)) (add-one i) (go (turn_at xs i (omega (arith, l))) (fate_in i c (omega (arith, l))))
    where
      still : (o : Option Notice) → notice_of (state_at m xs (i + 1)) c ≡ o → FateIn m xs i c o → FateIn m xs (i + 1) c o
      still None e f = tt
      still (Some x) e f = later i (i + 1) c x.stage (omega arith) (omega (arith, l)) (ap rank_in_notice e) f

      by :
          (t : Turn) → slice_get xs i ≡ Some t → FateIn m xs i c (notice_of (state_at m xs i) c) →
          (notice_of (state_at m xs (i + 1)) c ≡ notice_of (state_at m xs i) c)
          ⊎ NoticeChangeAt m xs i t (notice_of (state_at m xs i) c) (notice_of (state_at m xs (i + 1)) c) →
          FateIn m xs (i + 1) c (notice_of (state_at m xs (i + 1)) c)
      by t e f (inl same) = still _ refl (subst (FateIn m xs i c) (sym same) f)
      by t e f (inr w) = by_change i c t _ _ e (omega (arith, l)) refl refl w

      go : TurnAt xs i → FateIn m xs i c (notice_of (state_at m xs i) c) → FateIn m xs (i + 1) c (notice_of (state_at m xs (i + 1)) c)
      go t f = by t.turn t.found f (notice_stays_or_changes m xs k c i t.turn t.found)

  pub fate : (i c : ℕ) (x : Notice) → i ≤ length xs → notice_of (state_at m xs i) c ≡ Some x → NoticeFate m xs i c x.stage
  fate i c x l e = subst (FateIn m xs i c) e (fate_in i c l)

  -- each reason has its effect

  -- a past stage is one for ever
  for_ever :
      (i j c : ℕ) (s : NoticeStage) → i < j → j ≤ length xs → rank_of_notice s ≡ 4 → notice_stage_of (state_at m xs (i + 1)) c ≡ Some s →
      notice_stage_of (state_at m xs j) c ≡ Some s
  for_ever i j c s l b r e =
      ap notice_in
      (past_stays m xs k (i + 1) j c (omega (arith, l)) b (stage_rank (notice_of (state_at m xs (i + 1)) c) s e ∙ r))
      ∙ e

  over_after :
      (i c : ℕ) (t : Turn) (s : NoticeStage) → slice_get xs i ≡ Some t → notice_stage_of (state_at m xs i) c ≡ Some s → is_taken s ≡ true →
      (notice_stage_of (state_at m xs (i + 1)) c ≡ Some s → ⊥) →
      (s ≡ notice.Given (tid t.thread) → HasEnteredNotice (state_at m xs (i + 1)) t.thread c → ⊥) →
      notice_stage_of (state_at m xs (i + 1)) c ≡ Some notice.Over
  over_after i c t s e b h not_same not_entered = go (notice_stays_or_changes m xs k c i t e)
    where
      by : (o : Option NoticeStage) → notice_stage_of (state_at m xs (i + 1)) c ≡ o → GoesTo t.thread s o → o ≡ Some notice.Over
      by o f (enters g) = absurd (not_entered g f)
      by o f over = refl

      go :
          (notice_of (state_at m xs (i + 1)) c ≡ notice_of (state_at m xs i) c)
          ⊎ NoticeChangeAt m xs i t (notice_of (state_at m xs i) c) (notice_of (state_at m xs (i + 1)) c) →
          notice_stage_of (state_at m xs (i + 1)) c ≡ Some notice.Over
      go (inl same) = absurd (not_same (ap notice_in same ∙ b))
      go (inr w) = by _ refl (goes_to _ _ _ _ _ _ _ s w b h)

  coherent_after : (i : ℕ) → i < length xs → IsCoherent (core (state_at m xs (i + 1)))
  coherent_after i l = (k.invariant (i + 1) (omega (arith, l))).consistent.coherent

  -- a thread that is Done has none, nor has one without an invocation entered one

  not_given_when_done :
      (i c u : ℕ) → i < length xs → state_of (state_at m xs (i + 1)) u ≡ is.Done →
      notice_stage_of (state_at m xs (i + 1)) c ≡ Some (notice.Given (tid u)) → ⊥
  not_given_when_done i c u l d e = absurd (cc (sym d ∙ (coherent_after i l).notices_given.notice_given c u e))

  not_entered_outside :
      (i c u : ℕ) → i < length xs → invocation_of (state_at m xs (i + 1)) u ≡ None → HasEnteredNotice (state_at m xs (i + 1)) u c → ⊥
  not_entered_outside i c u l v e = none_is _ (item.Notice c) v ((coherent_after i l).notices_entered.notice_entered c u e)

  done_outside : (i u : ℕ) → i < length xs → state_of (state_at m xs (i + 1)) u ≡ is.Done → invocation_of (state_at m xs (i + 1)) u ≡ None
  done_outside i u l d = (coherent_after i l).servers.outside u (ap is_outside d)

  pub lost_then : (i j c u : ℕ) → i < j → j ≤ length xs → IsLostAt m xs i c u → notice_stage_of (state_at m xs j) c ≡ Some notice.Over
  lost_then i j c u l b w = for_ever i j c notice.Over l b refl (go (turn_at xs i w.within))
    where
      entered : (v : ℕ) → v ≡ u → HasEnteredNotice (state_at m xs (i + 1)) v c → ⊥
      entered v e =
          subst (λ (n : ℕ). HasEnteredNotice (state_at m xs (i + 1)) n c → ⊥) (sym e)
          (not_entered_outside i c u w.within (done_outside i u w.within w.ends.after))

      go : TurnAt xs i → notice_stage_of (state_at m xs (i + 1)) c ≡ Some notice.Over
      go t =
          over_after i c t.turn (notice.Given (tid u)) t.found w.was_given refl (not_given_when_done i c u w.within w.ends.after)
          (λ e. entered t.turn.thread (same_given u t.turn.thread e))

  pub cut_off_then : (i j c u : ℕ) → i < j → j ≤ length xs → IsCutOffAt m xs i c u → notice_stage_of (state_at m xs j) c ≡ Some notice.Over
  cut_off_then i j c u l b w = for_ever i j c notice.Over l b refl (go (turn_at xs i w.within))
    where
      go : TurnAt xs i → notice_stage_of (state_at m xs (i + 1)) c ≡ Some notice.Over
      go t =
          over_after i c t.turn (notice.Entered (tid u)) t.found w.was_entered refl
          (not_entered_outside i c u w.within (done_outside i u w.within w.ends.after))
          (λ e f. given_or_entered u t.turn.thread e)

  pub returned_then : (i j c : ℕ) → i < j → j ≤ length xs → IsReturnedAt m xs i c → notice_stage_of (state_at m xs j) c ≡ Some notice.Over
  returned_then i j c l b w =
      for_ever i j c notice.Over l b refl
      (over_after i c w.turn (notice.Entered (tid w.turn.thread)) w.found w.was_entered refl
      (not_entered_outside i c w.turn.thread (slice_get_within xs i w.turn w.found) (return_ends m xs k i w.turn w.bytes w.pass w.found w.is_return))
      (λ e f. given_or_entered w.turn.thread w.turn.thread e))

  pub dropped_then : (i j c : ℕ) → i < j → j ≤ length xs → IsDroppedAt m xs i c → notice_stage_of (state_at m xs j) c ≡ Some notice.Dropped
  dropped_then i j c l b w = for_ever i j c notice.Dropped l b refl (go (turn_at xs i w.within))
    where
      go : TurnAt xs i → notice_stage_of (state_at m xs (i + 1)) c ≡ Some notice.Dropped
      go t =
          ap (λ n. notice_stage_of n c) (next m xs k i t.turn t.found)
          ∙ step_drops (state_at m xs i) t.turn.thread t.turn.request c w.waiting w.there w.waits
          (step_loses (state_at m xs i) t.turn.thread t.turn.request w.waiting.door w.valid_before
          (ap (λ n. is_valid n w.waiting.door) (sym (next m xs k i t.turn t.found)) ∙ w.invalid_after))
