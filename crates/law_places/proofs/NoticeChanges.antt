-- What one event does to a notice's record, as one row: the table of arrows together with the giving that may follow. A record that
-- stays has no row. Each row raises the rank of the record.
use Rattle.std.specs.Prelude.{ℕ, ◌≡◌, ◌<◌, ◌≤◌, ◌⊎◌, List, Option, Bool, true, false, Some, None}
use Rattle.std.proofs.Common.{refl, sym, ap, subst, inl, inr}
use native.Mathlib.Omega.{arith}
use Rattle.spec_kernel.specs.Types.{Answer, Door, Notice, NoticeStage, Pass, Request}
use Rattle.dk_base.specs.declared.object.Item.TheVariants as item
use Rattle.dk_base.specs.declared.request.Request.TheVariants as request
use Rattle.dk_base.specs.declared.answer.Answer.TheVariants as answer
use Rattle.spec_records.specs.declared.record.ThreadState.TheVariants as is
use Rattle.spec_records.specs.declared.record.NoticeStage.TheVariants as notice
use Rattle.spec_records.specs.Words.{cookie_of, entry_of, first_refusal, is_waiting_stage, notice_at, tid}
use Rattle.spec_kernel.specs.Words.{State, door_of, falls_to_one, is_valid, may_have_notice, now, process_of, return_tests, state_of}
use Rattle.law_states.specs.Core.{notice_in}
use Rattle.law_states.specs.Arrows.{EndsNow, NoticeArrow, NoticeByAct, NoticeByGiving}
use Rattle.law_states.specs.Arrows.NoticeByAct.{stays, makes, enters, returns, drops, ends}
use Rattle.law_states.specs.Arrows.NoticeByGiving.{stays as keeps, gives}
use Rattle.law_places.specs.Places.{is_entered_notice_in, is_entered_notice_stage}

-- the stages of a notice that no thread has taken yet
abbrev pub is_new_stage : NoticeStage → Bool
is_new_stage notice.Waiting = true
is_new_stage (notice.Given u) = true
is_new_stage _ = false

-- by an event of thread t, with request q or the end of its wait and answer a, from state m to state n
pub data NoticeChange (m : State) (t : ℕ) (q : Option Request) (a : Answer) (n : State) : Option Notice → Option Notice → Type 0 where
  made :
      (x : Notice) (d : Door) → door_of n x.door ≡ Some d → may_have_notice m x.door d ≡ true → falls_to_one m n x.door ≡ true →
      is_new_stage x.stage ≡ true → x.made ≡ now m → NoticeChange m t q a n None (Some x)
  given :
      (x : Notice) (u : ℕ) → x.stage ≡ notice.Waiting → NoticeChange m t q a n (Some x) (Some (notice_at (notice.Given (tid u)) x))
  entered :
      (x : Notice) → q ≡ None → state_of m t ≡ is.Given (item.Notice x.number) → x.stage ≡ notice.Given (tid t) →
      a ≡ answer.EnteredNotice x.number (entry_of (door_of m x.door)) (cookie_of (door_of m x.door)) →
      NoticeChange m t q a n (Some x) (Some (notice_at (notice.Entered (tid t)) x))
  returned :
      (x : Notice) (bytes : List ℕ) (pass : List Pass) → q ≡ Some (request.Return bytes pass) →
      first_refusal (return_tests m t (process_of m t) bytes pass) ≡ None → x.stage ≡ notice.Entered (tid t) →
      NoticeChange m t q a n (Some x) (Some (notice_at notice.Over x))
  dropped :
      (x : Notice) → x.stage ≡ notice.Waiting → is_valid m x.door ≡ true → is_valid n x.door ≡ false →
      NoticeChange m t q a n (Some x) (Some (notice_at notice.Dropped x))
  ended :
      (x : Notice) (u : ℕ) → (x.stage ≡ notice.Given (tid u)) ⊎ (x.stage ≡ notice.Entered (tid u)) → EndsNow m n u →
      NoticeChange m t q a n (Some x) (Some (notice_at notice.Over x))

-- giving changes only a record that is Waiting

abbrev is_waiting_in : Option Notice → Bool
is_waiting_in None = false
is_waiting_in (Some x) = is_waiting_stage x.stage

same_given : (o p : Option Notice) → NoticeByGiving o p → is_waiting_in o ≡ false → p ≡ o
same_given o p keeps h = refl
same_given o p (gives x u e) h = absurd (grind arith)

module _ (m : State) (t : ℕ) (q : Option Request) (a : Answer) (n : State) where
  only_given : (o p : Option Notice) → NoticeByGiving o p → (p ≡ o) ⊎ NoticeChange m t q a n o p
  only_given o p keeps = inl refl
  only_given o p (gives x u e) = inr (given x u e)

  -- what comes to no record that waits stays as it is
  stays_then : (o b p : Option Notice) → NoticeChange m t q a n o b → NoticeByGiving b p → is_waiting_in b ≡ false → (p ≡ o) ⊎ NoticeChange m t q a n o p
  stays_then o b p c g h = inr (subst (λ z. NoticeChange m t q a n o z) (sym (same_given b p g h)) c)

  made_then :
      (x : Notice) (d : Door) (b p : Option Notice) → door_of n x.door ≡ Some d → may_have_notice m x.door d ≡ true →
      falls_to_one m n x.door ≡ true → x.stage ≡ notice.Waiting → x.made ≡ now m → b ≡ Some x → NoticeByGiving b p → NoticeChange m t q a n None p
  made_then x d b p e f g w at l keeps =
      subst (λ z. NoticeChange m t q a n None z) (sym l) (made x d e f g (ap is_new_stage w) at)
  made_then x d b p e f g w at l (gives y u h) =
      let same : x ≡ y = cc in
      subst (λ (z : Notice). NoticeChange m t q a n None (Some (notice_at (notice.Given (tid u)) z))) same
      (made (notice_at (notice.Given (tid u)) x) d e f g refl at)

  act_then : (o b p : Option Notice) → NoticeByAct m t q a n o b → NoticeByGiving b p → (p ≡ o) ⊎ NoticeChange m t q a n o p
  act_then o b p stays g = only_given o p g
  act_then o b p (makes x d e f k w at) g = inr (made_then x d b p e f k w at refl g)
  act_then o b p (enters x e f k v) g = stays_then o b p (entered x e f k v) g refl
  act_then o b p (returns x bytes pass e f k) g = stays_then o b p (returned x bytes pass e f k) g refl
  act_then o b p (drops x e f k) g = stays_then o b p (dropped x e f k) g refl
  act_then o b p (ends x u e f) g = stays_then o b p (ended x u e f) g refl

  pub notice_change : (o p : Option Notice) → NoticeArrow m t q a n o p → (p ≡ o) ⊎ NoticeChange m t q a n o p
  notice_change o p w = act_then o w.between p w.act w.giving

-- ranks

abbrev pub rank_of_notice : NoticeStage → ℕ
rank_of_notice notice.Waiting = 1
rank_of_notice (notice.Given u) = 2
rank_of_notice (notice.Entered u) = 3
rank_of_notice notice.Over = 4
rank_of_notice notice.Dropped = 4

abbrev pub rank_in_notice : Option Notice → ℕ
rank_in_notice None = 0
rank_in_notice (Some x) = rank_of_notice x.stage

new_rank : (s : NoticeStage) → is_new_stage s ≡ true → 1 ≤ rank_of_notice s
new_rank s e = grind arith

pub notice_rises :
    (m : State) (t : ℕ) (q : Option Request) (a : Answer) (n : State) (o p : Option Notice) → NoticeChange m t q a n o p →
    rank_in_notice o < rank_in_notice p
notice_rises m t q a n o p (made x d e f g w at) = omega (arith, new_rank x.stage w)
notice_rises m t q a n o p (given x u e) = grind arith
notice_rises m t q a n o p (entered x e f g k) = grind arith
notice_rises m t q a n o p (returned x bytes pass e f g) = grind arith
notice_rises m t q a n o p (dropped x e f g) = grind arith
notice_rises m t q a n o p (ended x u (inl e) f) = grind arith
notice_rises m t q a n o p (ended x u (inr e) f) = grind arith

-- what stages say of ranks

pub entered_notice_rank : (o : Option Notice) → is_entered_notice_in o ≡ true → rank_in_notice o ≡ 3
entered_notice_rank o e = grind arith

pub stage_rank : (o : Option Notice) (s : NoticeStage) → notice_in o ≡ Some s → rank_in_notice o ≡ rank_of_notice s
stage_rank o s e = grind arith

pub most_rank : (o : Option Notice) → rank_in_notice o ≤ 4
most_rank o = grind arith

-- what a change keeps

pub record IsOfNotice (x : Notice) (p : Option Notice) : Type 0 where
  pub notice : Notice
  pub there : p ≡ Some notice
  pub number : notice.number ≡ x.number
  pub door : notice.door ≡ x.door
  pub made : notice.made ≡ x.made

at_other_stage : (x y : Notice) (s : NoticeStage) → x ≡ y → IsOfNotice y (Some (notice_at s x))
at_other_stage x y s e =
    record {
      notice = notice_at s x;
      there = refl;
      number = ap (λ (z : Notice). z.number) e;
      door = ap (λ (z : Notice). z.door) e;
      made = ap (λ (z : Notice). z.made) e;
    }

pub change_keeps_notice :
    (m : State) (t : ℕ) (q : Option Request) (a : Answer) (n : State) (o p : Option Notice) (y : Notice) → NoticeChange m t q a n o p →
    o ≡ Some y → IsOfNotice y p
change_keeps_notice m t q a n o p y (made x d e f g w at) h = absurd (cc h)
change_keeps_notice m t q a n o p y (given x u e) h = at_other_stage x y _ (cc h)
change_keeps_notice m t q a n o p y (entered x e f g k) h = at_other_stage x y _ (cc h)
change_keeps_notice m t q a n o p y (returned x bytes pass e f g) h = at_other_stage x y _ (cc h)
change_keeps_notice m t q a n o p y (dropped x e f g) h = at_other_stage x y _ (cc h)
change_keeps_notice m t q a n o p y (ended x u e f) h = at_other_stage x y _ (cc h)

-- the row by which one is entered

pub record EnteredNoticeRow (m : State) (t : ℕ) (q : Option Request) (o : Option Notice) : Type 0 where
  pub notice : Notice
  pub before : o ≡ Some notice
  pub asked : q ≡ None
  pub given : state_of m t ≡ is.Given (item.Notice notice.number)

not_entered : (s : NoticeStage) → is_new_stage s ≡ true → is_entered_notice_stage s ≡ true → ⊥
not_entered s e f = grind arith

pub entered_notice_row :
    (m : State) (t : ℕ) (q : Option Request) (a : Answer) (n : State) (o p : Option Notice) → NoticeChange m t q a n o p →
    is_entered_notice_in p ≡ true → EnteredNoticeRow m t q o
entered_notice_row m t q a n o p (made x d e f g w at) h = absurd (not_entered x.stage w h)
entered_notice_row m t q a n o p (given x u e) h = absurd (cc h)
entered_notice_row m t q a n o p (entered x e f g k) h = record { notice = x; before = refl; asked = e; given = f }
entered_notice_row m t q a n o p (returned x bytes pass e f g) h = absurd (cc h)
entered_notice_row m t q a n o p (dropped x e f g) h = absurd (cc h)
entered_notice_row m t q a n o p (ended x u e f) h = absurd (cc h)
