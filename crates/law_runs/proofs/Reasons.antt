-- A notice is over, or dropped, for one reason.
use Rattle.std.specs.Prelude.{ℕ, ◌≡◌, ◌+◌, ◌<◌, List, Some, length}
use Rattle.std.proofs.Common.{refl, sym, ap, subst, ◌∙◌}
use native.Mathlib.Omega.{arith}
use Rattle.std.proofs.lemmas.Option.{slice_get_within}
use Rattle.spec_kernel.specs.Types.{NoticeStage}
use Rattle.spec_records.specs.declared.record.NoticeStage.TheVariants as notice
use Rattle.spec_records.specs.Words.{tid}
use Rattle.spec_kernel.specs.Words.{State, Turn, state_at}
use Rattle.law_states.specs.Arrows.{EndsNow}
use Rattle.law_states.specs.Core.{notice_in}
use Rattle.law_states.specs.Records.{notice_of}
use Rattle.law_places.specs.Places.{notice_stage_of}
use Rattle.law_runs.specs.Notices.{IsDroppedAt, IsCutOffAt, IsLostAt, IsReturnedAt, IsSameReason, NoticeFate}
use Rattle.law_runs.specs.Notices.NoticeFate.{waits, is_given, is_entered, dropped, lost, returned, cut_off}
use Rattle.law_places.proofs.Done.{is_leaving_turn, none_ends_at}
use Rattle.law_places.proofs.Known.{Known}
use Rattle.law_places.proofs.NoticeChanges.{rank_of_notice, stage_rank}
use Rattle.law_runs.proofs.Fates.{dropped_then, cut_off_then, lost_then, returned_then}
use Rattle.law_places.proofs.NoticePlaces.{notice_rank, rank_passes_once}

abbrev thread_of_stage : NoticeStage → ℕ
thread_of_stage (notice.Given u) = u.0
thread_of_stage (notice.Entered u) = u.0
thread_of_stage _ = 0

same_given : (u v : ℕ) → notice.Given (tid u) ≡ notice.Given (tid v) → u ≡ v
same_given u v e = ap thread_of_stage e

same_entered : (u v : ℕ) → notice.Entered (tid u) ≡ notice.Entered (tid v) → u ≡ v
same_entered u v e = ap thread_of_stage e

some_stage : (s r : NoticeStage) → Some s ≡ Some r → s ≡ r
some_stage s r e = cc

module _ (m : State) (xs : List Turn) (k : Known m xs) where
  -- the place at which a notice comes to a past stage
  record IsLast (c a : ℕ) : Type 0 where
    within : a < length xs
    below : notice_rank m xs k c a < 4
    past : notice_rank m xs k c (a + 1) ≡ 4

  same_last : (c a b : ℕ) → IsLast c a → IsLast c b → a ≡ b
  same_last c a b h g =
      rank_passes_once m xs k c a b 4 h.within g.within h.below g.below (omega (arith, h.past)) (omega (arith, g.past))

  is_last :
      (c a : ℕ) (s r : NoticeStage) → a < length xs → notice_stage_of (state_at m xs a) c ≡ Some s → rank_of_notice s < 4 →
      notice_stage_of (state_at m xs (a + 1)) c ≡ Some r → rank_of_notice r ≡ 4 → IsLast c a
  is_last c a s r l b g e f =
      record {
        within = l;
        below = omega (arith, stage_rank (notice_of (state_at m xs a) c) s b, g);
        past = stage_rank (notice_of (state_at m xs (a + 1)) c) r e ∙ f;
      }

  last_of_drop : (c a : ℕ) → IsDroppedAt m xs a c → IsLast c a
  last_of_drop c a w =
      is_last c a notice.Waiting notice.Dropped w.within (ap notice_in w.there ∙ ap (λ (s : NoticeStage). Some s) w.waits) (omega arith)
      (dropped_then m xs k a (a + 1) c (omega arith) (omega (arith, w.within)) w)
      (omega arith)

  last_of_loss : (c a u : ℕ) → IsLostAt m xs a c u → IsLast c a
  last_of_loss c a u w =
      is_last c a (notice.Given (tid u)) notice.Over w.within w.was_given (omega arith)
      (lost_then m xs k a (a + 1) c u (omega arith) (omega (arith, w.within)) w)
      (omega arith)

  last_of_return : (c a : ℕ) → IsReturnedAt m xs a c → IsLast c a
  last_of_return c a w =
      is_last c a (notice.Entered (tid w.turn.thread)) notice.Over (slice_get_within xs a w.turn w.found) w.was_entered (omega arith)
      (returned_then m xs k a (a + 1) c (omega arith) (omega (arith, slice_get_within xs a w.turn w.found)) w)
      (omega arith)

  last_of_cut : (c a u : ℕ) → IsCutOffAt m xs a c u → IsLast c a
  last_of_cut c a u w =
      is_last c a (notice.Entered (tid u)) notice.Over w.within w.was_entered (omega arith)
      (cut_off_then m xs k a (a + 1) c u (omega arith) (omega (arith, w.within)) w)
      (omega arith)

  -- at one place it is at one stage
  one_stage :
      (c a b : ℕ) (s r : NoticeStage) → a ≡ b → notice_stage_of (state_at m xs a) c ≡ Some s → notice_stage_of (state_at m xs b) c ≡ Some r → s ≡ r
  one_stage c a b s r e f g = some_stage s r (sym f ∙ ap (λ (n : ℕ). notice_stage_of (state_at m xs n) c) e ∙ g)

  not_given_and_entered : (c a b u v : ℕ) → IsLostAt m xs a c u → a ≡ b → notice_stage_of (state_at m xs b) c ≡ Some (notice.Entered (tid v)) → ⊥
  not_given_and_entered c a b u v w e f = absurd (cc (one_stage c a b (notice.Given (tid u)) (notice.Entered (tid v)) e w.was_given f))

  -- no thread ends by a Return
  not_returned_and_cut_off : (c a b u : ℕ) → IsReturnedAt m xs a c → IsCutOffAt m xs b c u → a ≡ b → ⊥
  not_returned_and_cut_off c a b u w v e =
      none_ends_at m xs k a w.turn w.found (ap is_leaving_turn w.is_return.asked) u
      (subst (λ (n : ℕ). EndsNow (state_at m xs n) (state_at m xs (n + 1)) u) (sym e) v.ends)

  one_reason_at : (i c : ℕ) (s r : NoticeStage) (p : NoticeFate m xs i c s) (q : NoticeFate m xs i c r) → s ≡ r → IsSameReason m xs i c s r p q
  one_reason_at i c s r (waits n) (waits h) e = tt
  one_reason_at i c s r (is_given u n) (is_given v h) e = same_given u v e
  one_reason_at i c s r (is_entered u w) (is_entered v x) e = same_entered u v e
  one_reason_at i c s r (dropped a f w n) (dropped b g x h) e = same_last c a b (last_of_drop c a w) (last_of_drop c b x)
  one_reason_at i c s r (lost a u f w n) (lost b v g x h) e =
      let same : a ≡ b = same_last c a b (last_of_loss c a u w) (last_of_loss c b v x) in
      (same, same_given u v (one_stage c a b (notice.Given (tid u)) (notice.Given (tid v)) same w.was_given x.was_given))
  one_reason_at i c s r (lost a u f w n) (returned b g x) e =
      absurd (not_given_and_entered c a b u x.turn.thread w (same_last c a b (last_of_loss c a u w) (last_of_return c b x)) x.was_entered)
  one_reason_at i c s r (lost a u f w n) (cut_off b v g x) e =
      absurd (not_given_and_entered c a b u v w (same_last c a b (last_of_loss c a u w) (last_of_cut c b v x)) x.was_entered)
  one_reason_at i c s r (returned a f w) (lost b v g x h) e =
      absurd (not_given_and_entered c b a v w.turn.thread x (same_last c b a (last_of_loss c b v x) (last_of_return c a w)) w.was_entered)
  one_reason_at i c s r (returned a f w) (returned b g x) e = same_last c a b (last_of_return c a w) (last_of_return c b x)
  one_reason_at i c s r (returned a f w) (cut_off b v g x) e =
      absurd (not_returned_and_cut_off c a b v w x (same_last c a b (last_of_return c a w) (last_of_cut c b v x)))
  one_reason_at i c s r (cut_off a u f w) (lost b v g x h) e =
      absurd (not_given_and_entered c b a v u x (same_last c b a (last_of_loss c b v x) (last_of_cut c a u w)) w.was_entered)
  one_reason_at i c s r (cut_off a u f w) (returned b g x) e =
      absurd (not_returned_and_cut_off c b a u x w (same_last c b a (last_of_return c b x) (last_of_cut c a u w)))
  one_reason_at i c s r (cut_off a u f w) (cut_off b v g x) e =
      let same : a ≡ b = same_last c a b (last_of_cut c a u w) (last_of_cut c b v x) in
      (same, same_entered u v (one_stage c a b (notice.Entered (tid u)) (notice.Entered (tid v)) same w.was_entered x.was_entered))
  one_reason_at i c s r p q e = absurd (cc e)

  pub one_reason : (i c : ℕ) (s : NoticeStage) (p q : NoticeFate m xs i c s) → IsSameReason m xs i c s s p q
  one_reason i c s p q = one_reason_at i c s s p q refl
