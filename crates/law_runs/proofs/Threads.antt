-- A notice that is with a thread, given to it or entered by it, waits no more and is with no other thread later.
use Rattle.std.specs.Prelude.{ℕ, ◌≡◌, ◌+◌, ◌<◌, ◌≤◌, ◌⊎◌, List, Option, Some, length, slice_get}
use Rattle.std.proofs.Common.{refl, sym, ap, subst, ◌∙◌, inl, inr}
use native.Mathlib.Omega.{arith}
use Rattle.std.proofs.lemmas.Option.{slice_get_within}
use Rattle.spec_kernel.specs.Types.{Answer, Notice, NoticeStage, Request}
use Rattle.spec_records.specs.declared.record.NoticeStage.TheVariants as notice
use Rattle.spec_records.specs.Words.{tid}
use Rattle.spec_kernel.specs.Words.{State, Turn, state_at}
use Rattle.law_states.specs.Core.{notice_in}
use Rattle.law_states.specs.Records.{notice_of}
use Rattle.law_places.specs.Places.{notice_stage_of}
use Rattle.law_runs.specs.Notices.{IsNoticeWith}
use Rattle.law_places.proofs.Known.{Known, stays}
use Rattle.law_places.proofs.NoticeChanges.{NoticeChange, most_rank, rank_in_notice, stage_rank}
use Rattle.law_places.proofs.NoticeChanges.NoticeChange.{made, given, entered, returned, dropped, ended}
use Rattle.law_places.proofs.NoticePlaces.{NoticeChangeAt, notice_rank, notice_stays_or_changes, rank_grows}

-- stages

abbrev IsHad : Option NoticeStage → ℕ → Type 0
IsHad s t = (s ≡ Some (notice.Given (tid t))) ⊎ (s ≡ Some (notice.Entered (tid t)))

abbrev thread_of : Option NoticeStage → ℕ
thread_of (Some (notice.Given u)) = u.0
thread_of (Some (notice.Entered u)) = u.0
thread_of _ = 0

of_thread : (s : Option NoticeStage) (t : ℕ) → IsHad s t → thread_of s ≡ t
of_thread s t (inl e) = ap thread_of e
of_thread s t (inr e) = ap thread_of e

waiting_not_had : (s : NoticeStage) (t : ℕ) → s ≡ notice.Waiting → IsHad (Some s) t → ⊥
waiting_not_had s t e (inl f) = absurd (cc (e, f))
waiting_not_had s t e (inr f) = absurd (cc (e, f))

had_rank : (o : Option Notice) (t : ℕ) → IsHad (notice_in o) t → (2 ≤ rank_in_notice o) × (rank_in_notice o < 4)
had_rank o t (inl e) = (omega (arith, stage_rank o (notice.Given (tid t)) e), omega (arith, stage_rank o (notice.Given (tid t)) e))
had_rank o t (inr e) = (omega (arith, stage_rank o (notice.Entered (tid t)) e), omega (arith, stage_rank o (notice.Entered (tid t)) e))

-- one change leaves it with its thread, or brings it to a past stage
had_then :
    (m : State) (t : ℕ) (q : Option Request) (a : Answer) (n : State) (o p : Option Notice) (u : ℕ) → NoticeChange m t q a n o p →
    IsHad (notice_in o) u → IsHad (notice_in p) u ⊎ (rank_in_notice p ≡ 4)
had_then m t q a n o p u (made x d e f g w at) (inl h) = absurd (cc h)
had_then m t q a n o p u (made x d e f g w at) (inr h) = absurd (cc h)
had_then m t q a n o p u (given x v e) h = absurd (waiting_not_had x.stage u e h)
had_then m t q a n o p u (entered x e f g v) h =
    let same : t ≡ u = sym (ap (λ (s : NoticeStage). thread_of (Some s)) g) ∙ of_thread (Some x.stage) u h in
    inl (inr (ap (λ (z : ℕ). Some (notice.Entered (tid z))) same))
had_then m t q a n o p u (returned x bytes pass e f g) h = inr refl
had_then m t q a n o p u (dropped x e f g) h = inr refl
had_then m t q a n o p u (ended x v e f) h = inr refl

module _ (m : State) (xs : List Turn) (k : Known m xs) where
  abbrev StaysWith : ℕ → ℕ → ℕ → Type 0
  StaysWith j c t = IsNoticeWith (state_at m xs j) c t ⊎ (notice_rank m xs k c j ≡ 4)

  stays_next : (j c t : ℕ) (x : Turn) → slice_get xs j ≡ Some x → StaysWith j c t → StaysWith (j + 1) c t
  stays_next j c t x f (inr r) =
      inr
      (omega (
        arith,
        r,
        slice_get_within xs j x f,
        rank_grows m xs k c j (j + 1) (omega arith) (omega (arith, slice_get_within xs j x f)),
        most_rank (notice_of (state_at m xs (j + 1)) c),
      ))
  stays_next j c t x f (inl w) = by (notice_stays_or_changes m xs k c j x f)
    where
      by :
          (notice_of (state_at m xs (j + 1)) c ≡ notice_of (state_at m xs j) c)
          ⊎ NoticeChangeAt m xs j x (notice_of (state_at m xs j) c) (notice_of (state_at m xs (j + 1)) c) →
          StaysWith (j + 1) c t
      by (inl same) = inl (subst (λ o. IsHad (notice_in o) t) (sym same) w)
      by (inr d) = had_then _ _ _ _ _ _ _ t d w

  stays_with : (i j c t : ℕ) → i ≤ j → j ≤ length xs → IsNoticeWith (state_at m xs i) c t → StaysWith j c t
  stays_with i j c t l b w = stays m xs (λ n. IsNoticeWith n c t ⊎ (rank_in_notice (notice_of n c) ≡ 4)) i (λ a x h f. stays_next a c t x f) j l b (inl w)

  pub waits_no_more :
      (i j c t : ℕ) → i ≤ j → j ≤ length xs → IsNoticeWith (state_at m xs i) c t → notice_stage_of (state_at m xs j) c ≡ Some notice.Waiting → ⊥
  waits_no_more i j c t l b w e =
      omega (
        arith,
        (had_rank (notice_of (state_at m xs i) c) t w).0,
        rank_grows m xs k c i j l b,
        stage_rank (notice_of (state_at m xs j) c) notice.Waiting e,
      )

  pub same_thread :
      (i j c t u : ℕ) → i ≤ j → j ≤ length xs → IsNoticeWith (state_at m xs i) c t → IsNoticeWith (state_at m xs j) c u → u ≡ t
  same_thread i j c t u l b w v = go (stays_with i j c t l b w)
    where
      go : StaysWith j c t → u ≡ t
      go (inl h) = sym (of_thread (notice_stage_of (state_at m xs j) c) u v) ∙ of_thread (notice_stage_of (state_at m xs j) c) t h
      go (inr r) = absurd (omega (arith, r, (had_rank (notice_of (state_at m xs j) c) u v).1))
