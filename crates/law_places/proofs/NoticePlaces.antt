-- What the arrows of notices say of each place of a run: a record stays or changes, its rank never falls, and what it keeps.
use Rattle.std.specs.Prelude.{ℕ, ◌≡◌, ◌+◌, ◌<◌, ◌≤◌, ◌⊎◌, List, Option, Bool, true, false, Some, length, slice_get}
use Rattle.std.proofs.Common.{refl, sym, ap, subst, ◌∙◌, inl, inr}
use native.Mathlib.Omega.{arith}
use Rattle.spec_kernel.specs.Types.{Notice}
use Rattle.spec_kernel.specs.Words.{State, Turn, state_after_turn, state_at}
use Rattle.law_states.specs.Records.{notice_of}
use Rattle.law_places.specs.Places.{NoticeBecomesEntered, answer_at, is_entered_notice_in}
use Rattle.law_places.proofs.Known.{Known, TurnAt, false_not_true, never_falls, changed, next, not_below, rises_once, stays, turn_at}
use Rattle.law_places.proofs.NoticeChanges.{EnteredNoticeRow, IsOfNotice, NoticeChange, change_keeps_notice, entered_notice_rank, entered_notice_row, most_rank, notice_change, notice_rises, rank_in_notice}

abbrev pub NoticeChangeAt : State → List Turn → ℕ → Turn → Option Notice → Option Notice → Type 0
NoticeChangeAt m xs i x o p = NoticeChange (state_at m xs i) x.thread x.request (answer_at m xs i x) (state_at m xs (i + 1)) o p

pub of_itself : (x : Notice) (o : Option Notice) → o ≡ Some x → IsOfNotice x o
of_itself x o e = record { notice = x; there = e; number = refl; door = refl; made = refl }

of_next : (x : Notice) (o p : Option Notice) → IsOfNotice x o → ((y : Notice) → o ≡ Some y → IsOfNotice y p) → IsOfNotice x p
of_next x o p h f = go (f h.notice h.there)
  where
    go : IsOfNotice h.notice p → IsOfNotice x p
    go g =
        record {
          notice = g.notice;
          there = g.there;
          number = g.number ∙ h.number;
          door = g.door ∙ h.door;
          made = g.made ∙ h.made;
        }

module _ (m : State) (xs : List Turn) (k : Known m xs) where
  pub notice_stays_or_changes :
      (c i : ℕ) (x : Turn) → slice_get xs i ≡ Some x →
      (notice_of (state_at m xs (i + 1)) c ≡ notice_of (state_at m xs i) c)
      ⊎ NoticeChangeAt m xs i x (notice_of (state_at m xs i) c) (notice_of (state_at m xs (i + 1)) c)
  notice_stays_or_changes c i x e =
      subst
      (λ n.
      (notice_of n c ≡ notice_of (state_at m xs i) c)
      ⊎ NoticeChange (state_at m xs i) x.thread x.request (answer_at m xs i x) n (notice_of (state_at m xs i) c) (notice_of n c))
      (sym (next m xs k i x e))
      (notice_change (state_at m xs i) x.thread x.request (answer_at m xs i x) (state_after_turn (state_at m xs i) x) _ _ ((k.keeps i x e).notices c))

  -- where a test of it differs, it changes
  pub notice_changes :
      (c i : ℕ) (x : Turn) (test : Option Notice → Bool) (a b : Bool) → slice_get xs i ≡ Some x → (a ≡ b → ⊥) →
      test (notice_of (state_at m xs i) c) ≡ a → test (notice_of (state_at m xs (i + 1)) c) ≡ b →
      NoticeChangeAt m xs i x (notice_of (state_at m xs i) c) (notice_of (state_at m xs (i + 1)) c)
  notice_changes c i x test a b e d before after = changed test _ _ _ a b d before after (notice_stays_or_changes c i x e)

  pub notice_entered_by :
      (i c : ℕ) (x : Turn) → slice_get xs i ≡ Some x → NoticeBecomesEntered m xs c i →
      EnteredNoticeRow (state_at m xs i) x.thread x.request (notice_of (state_at m xs i) c)
  notice_entered_by i c x e b =
      entered_notice_row _ _ _ _ _ _ _ (notice_changes c i x is_entered_notice_in false true e false_not_true b.before b.after) b.after

  abbrev pub notice_rank : ℕ → ℕ → ℕ
  notice_rank c i = rank_in_notice (notice_of (state_at m xs i) c)

  never_less : (c i : ℕ) → i < length xs → notice_rank c i ≤ notice_rank c (i + 1)
  never_less c i l = go (turn_at xs i l)
    where
      go : TurnAt xs i → notice_rank c i ≤ notice_rank c (i + 1)
      go t = not_below rank_in_notice _ _ _ (notice_rises _ _ _ _ _ _ _) (notice_stays_or_changes c i t.turn t.found)

  pub rank_grows : (c i j : ℕ) → i ≤ j → j ≤ length xs → notice_rank c i ≤ notice_rank c j
  rank_grows c i j l b = never_falls (notice_rank c) (length xs) (never_less c) i j l b

  -- it comes from below a rank to it or above it at one place
  pub rank_passes_once :
      (c i j r : ℕ) → i < length xs → j < length xs → notice_rank c i < r → notice_rank c j < r → r ≤ notice_rank c (i + 1) →
      r ≤ notice_rank c (j + 1) → i ≡ j
  rank_passes_once c i j r = rises_once (notice_rank c) (length xs) r i j (never_less c)

  -- it is entered where its rank comes to 3

  pub rank_before_entry : (c i : ℕ) → NoticeBecomesEntered m xs c i → notice_rank c i < 3
  rank_before_entry c i b = go (turn_at xs i b.within)
    where
      go : TurnAt xs i → notice_rank c i < 3
      go t =
          omega (
            arith,
            entered_notice_rank _ b.after,
            notice_rises _ _ _ _ _ _ _ (notice_changes c i t.turn is_entered_notice_in false true t.found false_not_true b.before b.after),
          )

  pub rank_after_entry : (c i : ℕ) → NoticeBecomesEntered m xs c i → notice_rank c (i + 1) ≡ 3
  rank_after_entry c i b = entered_notice_rank _ b.after

  pub notice_entered_once : (c i j : ℕ) → NoticeBecomesEntered m xs c i → NoticeBecomesEntered m xs c j → i ≡ j
  notice_entered_once c i j a b =
      rank_passes_once c i j 3 a.within b.within (rank_before_entry c i a) (rank_before_entry c j b)
      (omega (arith, rank_after_entry c i a)) (omega (arith, rank_after_entry c j b))

  -- not before a place where its rank is below that
  pub not_entered_before : (c i j : ℕ) → i ≤ length xs → notice_rank c i < 3 → j < i → NoticeBecomesEntered m xs c j → ⊥
  not_entered_before c i j l r h b =
      omega (arith, rank_after_entry c j b, rank_grows c (j + 1) i (omega (arith, h)) l, r)

  -- and never where it passes that rank at one event
  pub passed_over : (c i j : ℕ) → i < length xs → notice_rank c i < 3 → 3 < notice_rank c (i + 1) → NoticeBecomesEntered m xs c j → ⊥
  passed_over c i j l r s b =
      let same : i ≡ j =
      rank_passes_once c i j 3 l b.within r (rank_before_entry c j b) (omega (arith, s)) (omega (arith, rank_after_entry c j b)) in
      absurd (omega (arith, s, rank_after_entry c j b, ap (notice_rank c) same, ap (λ (n : ℕ). notice_rank c (n + 1)) same))

  -- what is there stays, and keeps its number, door and date

  notice_kept :
      (i c : ℕ) (x : Notice) (t : Turn) → slice_get xs i ≡ Some t → notice_of (state_at m xs i) c ≡ Some x →
      IsOfNotice x (notice_of (state_at m xs (i + 1)) c)
  notice_kept i c x t f e = by (notice_stays_or_changes c i t f)
    where
      by :
          (notice_of (state_at m xs (i + 1)) c ≡ notice_of (state_at m xs i) c)
          ⊎ NoticeChangeAt m xs i t (notice_of (state_at m xs i) c) (notice_of (state_at m xs (i + 1)) c) →
          IsOfNotice x (notice_of (state_at m xs (i + 1)) c)
      by (inl same) = of_itself x _ (same ∙ e)
      by (inr w) = change_keeps_notice _ _ _ _ _ _ _ x w e

  pub notice_kept_ever :
      (i j c : ℕ) (x : Notice) → i ≤ j → j ≤ length xs → notice_of (state_at m xs i) c ≡ Some x →
      IsOfNotice x (notice_of (state_at m xs j) c)
  notice_kept_ever i j c x l b e =
      stays m xs (λ n. IsOfNotice x (notice_of n c)) i (λ a t h f g. of_next x _ _ g (λ y q. notice_kept a c y t f q)) j l b
      (of_itself x _ e)

  -- what has the highest rank stays at its stage
  pub past_stays :
      (i j c : ℕ) → i ≤ j → j ≤ length xs → notice_rank c i ≡ 4 → notice_of (state_at m xs j) c ≡ notice_of (state_at m xs i) c
  past_stays i j c l b r = stays m xs (λ n. notice_of n c ≡ notice_of (state_at m xs i) c) i one j l b refl
    where
      one :
          (a : ℕ) (t : Turn) → i ≤ a → slice_get xs a ≡ Some t → notice_of (state_at m xs a) c ≡ notice_of (state_at m xs i) c →
          notice_of (state_at m xs (a + 1)) c ≡ notice_of (state_at m xs i) c
      one a t h f e = by (notice_stays_or_changes c a t f) ∙ e
        where
          by :
              (notice_of (state_at m xs (a + 1)) c ≡ notice_of (state_at m xs a) c)
              ⊎ NoticeChangeAt m xs a t (notice_of (state_at m xs a) c) (notice_of (state_at m xs (a + 1)) c) →
              notice_of (state_at m xs (a + 1)) c ≡ notice_of (state_at m xs a) c
          by (inl same) = same
          by (inr w) =
              absurd (omega (arith, ap rank_in_notice e, r, notice_rises _ _ _ _ _ _ _ w, most_rank (notice_of (state_at m xs (a + 1)) c)))
