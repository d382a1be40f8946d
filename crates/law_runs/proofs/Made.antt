-- A notice is made exactly where its door is due, just one there, with the next number; and it stays.
use Rattle.std.specs.Prelude.{ℕ, ◌≡◌, ◌+◌, ◌<◌, ◌≤◌, ◌↔◌, ◌⊎◌, ◌&&◌, List, Option, Bool, true, false, ◌==◌, Some, None, zero, suc, is_some, length, nat_lt, slice_get}
use Rattle.std.proofs.Common.{refl, sym, ap, subst, ◌∙◌, add-one, inl, inr}
use native.Mathlib.Omega.{arith}
use Rattle.std.proofs.lemmas.Bool.Decides.{nat_tests}
use Rattle.spec_kernel.specs.Types.{Answer, Door, Notice, NoticeStage, Request}
use Rattle.spec_records.specs.declared.record.NoticeStage.TheVariants as notice
use Rattle.spec_records.specs.Words.{has_notice, is_valid_door, is_valid_in, tid}
use Rattle.spec_kernel.specs.Words.{State, Turn, door_of, falls_to_one, may_have_notice, now, reference_count, state_after_turn, state_at}
use Rattle.law_states.specs.Records.{notice_of}
use Rattle.law_states.specs.Invariant.{IsConsistent}
use Rattle.law_states.specs.Events.{IsMade, IsNoticed}
use Rattle.law_places.specs.Counts.{has_attribute}
use Rattle.law_places.specs.References.{references}
use Rattle.law_places.proofs.References.{references_are}
use Rattle.law_places.specs.Places.{IsKept}
use Rattle.law_runs.specs.Notices.{IsDue, IsFresh, IsKeptNotice, MakesJustOne, MakesNotice, TakesOneMore, WasMadeNotice}
use Rattle.law_runs.specs.Notices.TakesOneMore.{first, again}
use Rattle.law_places.proofs.DoorPlaces.{keeps_ever}
use Rattle.law_places.proofs.Known.{Known, TurnAt, false_not_true, invariant_before, next, turn_at, number_of_event}
use Rattle.law_places.proofs.NoticeChanges.{IsOfNotice, NoticeChange, is_new_stage, rank_in_notice, rank_of_notice}
use Rattle.law_places.proofs.NoticeChanges.NoticeChange.{made, given, entered, returned, dropped, ended}
use Rattle.law_runs.proofs.Events.{step_orders}
use Rattle.law_runs.proofs.Numbers.{has_notice_of, notice_of_has, numbers_are, numbers_found, at_most_or_past}
use Rattle.law_places.proofs.NoticePlaces.{notice_changes, notice_kept_ever, rank_passes_once}

-- which doors take one more

record MayHave (m : State) (d : ℕ) (x : Door) : Type 0 where
  valid : is_valid_door x ≡ true
  takes : TakesOneMore m d x.attrs

may_is : (m : State) (d : ℕ) (x : Door) → may_have_notice m d x ≡ true → MayHave m d x
may_is m d x e = record { valid = grind arith; takes = go (has_attribute 1 x.attrs) (has_attribute 16 x.attrs) (has_notice m.notice_list d) refl refl refl }
  where
    go :
        (a b c : Bool) → has_attribute 1 x.attrs ≡ a → has_attribute 16 x.attrs ≡ b → has_notice m.notice_list d ≡ c → TakesOneMore m d x.attrs
    go a true c f g h = again g
    go true false false f g h = first f (λ w. absurd (cc (sym (has_notice_of m d w) ∙ h)))
    go true false true f g h = absurd (grind (arith, e, f, g, h))
    go false false c f g h = absurd (grind (arith, e, f, g))

may_of : (m : State) (d : ℕ) (x : Door) → IsConsistent m → is_valid_door x ≡ true → TakesOneMore m d x.attrs → may_have_notice m d x ≡ true
may_of m d x h v (again f) = grind (arith, f, v)
may_of m d x h v (first t none) = go (has_notice m.notice_list d) refl
  where
    go : (b : Bool) → has_notice m.notice_list d ≡ b → may_have_notice m d x ≡ true
    go true f = absurd (none (notice_of_has m d h f))
    go false f = grind (arith, t, v, f)

-- a new record is of a door that is due

record IsDueHere (m n : State) (x : Notice) : Type 0 where
  door : Door
  there : door_of n x.door ≡ Some door
  may : may_have_notice m x.door door ≡ true
  falls : falls_to_one m n x.door ≡ true
  new : is_new_stage x.stage ≡ true
  dated : x.made ≡ now m

new_is_due :
    (m : State) (t : ℕ) (q : Option Request) (a : Answer) (n : State) (o p : Option Notice) (x : Notice) → NoticeChange m t q a n o p →
    o ≡ None → p ≡ Some x → IsDueHere m n x
new_is_due m t q a n o p x (made y d f g k w at) e h =
    let same : y ≡ x = cc in
    subst (λ (z : Notice). IsDueHere m n z) same (record { door = d; there = f; may = g; falls = k; new = w; dated = at })
new_is_due m t q a n o p x (given y u f) e h = absurd (cc e)
new_is_due m t q a n o p x (entered y f g k w) e h = absurd (cc e)
new_is_due m t q a n o p x (returned y bytes pass f g k) e h = absurd (cc e)
new_is_due m t q a n o p x (dropped y f g k) e h = absurd (cc e)
new_is_due m t q a n o p x (ended y u f g) e h = absurd (cc e)

new_is : (s : NoticeStage) → is_new_stage s ≡ true → (s ≡ notice.Waiting) ⊎ ((u : ℕ) × (s ≡ notice.Given (tid u)))
new_is notice.Waiting e = inl refl
new_is (notice.Given u) e = inr (u.0, refl)
new_is s e = absurd (cc e)

falls_is : (a b : ℕ) → (nat_lt 1 a && (b == 1)) ≡ true → (1 < a) × (b ≡ 1)
falls_is a b e = (grind (arith, nat_tests), grind (arith, nat_tests))

falls_of : (a b : ℕ) → 1 < a → b ≡ 1 → (nat_lt 1 a && (b == 1)) ≡ true
falls_of a b l e = grind (arith, nat_tests)

some_rank : (x : Notice) → 1 ≤ rank_in_notice (Some x)
some_rank x = go x.stage
  where
    go : (s : NoticeStage) → 1 ≤ rank_of_notice s
    go s = grind arith

three_ways : (i j : ℕ) → (i < j) ⊎ ((i ≡ j) ⊎ (j < i))
three_ways i j = grind arith

module _ (m : State) (xs : List Turn) (k : Known m xs) where
  due_here : (i c d : ℕ) (w : MakesNotice m xs i c d) → IsDueHere (state_at m xs i) (state_at m xs (i + 1)) w.made
  due_here i c d w = go (turn_at xs i w.within)
    where
      go : TurnAt xs i → IsDueHere (state_at m xs i) (state_at m xs (i + 1)) w.made
      go t =
          new_is_due _ _ _ _ _ _ _ w.made
          (notice_changes m xs k c i t.turn is_some false true t.found false_not_true (ap is_some w.none_before) (ap is_some w.there))
          w.none_before
          w.there

  pub fresh : (i c d : ℕ) (w : MakesNotice m xs i c d) → IsFresh i w.made
  fresh i c d w =
      let h : IsDueHere (state_at m xs i) (state_at m xs (i + 1)) w.made = due_here i c d w in
      record {
        dated = h.dated ∙ number_of_event m xs k i w.within;
        stage = new_is w.made.stage h.new;
      }

  pub made_where_due : (i c d : ℕ) → MakesNotice m xs i c d → IsDue m xs i d
  made_where_due i c d w = subst (IsDue m xs i) w.door (by (due_here i c d w))
    where
      by : IsDueHere (state_at m xs i) (state_at m xs (i + 1)) w.made → IsDue m xs i w.made.door
      by h =
          let may : MayHave (state_at m xs i) w.made.door h.door = may_is (state_at m xs i) w.made.door h.door h.may in
          let falls = falls_is (reference_count (state_at m xs i) w.made.door) (reference_count (state_at m xs (i + 1)) w.made.door) h.falls in
          let before : references (state_at m xs i) w.made.door ≡ reference_count (state_at m xs i) w.made.door =
          references_are (state_at m xs i) w.made.door in
          let after : references (state_at m xs (i + 1)) w.made.door ≡ reference_count (state_at m xs (i + 1)) w.made.door =
          references_are (state_at m xs (i + 1)) w.made.door in
          record {
            door = h.door;
            there = h.there;
            valid = ap is_valid_in h.there ∙ may.valid;
            takes = may.takes;
            more_before = omega (arith, falls.0, before);
            one_after = after ∙ falls.1;
          }

  pub due_makes : (i d : ℕ) → i < length xs → IsDue m xs i d → MakesJustOne m xs i d
  due_makes i d l w = go (turn_at xs i l)
    where
      may : (t : TurnAt xs i) → may_have_notice (state_at m xs i) d w.door ≡ true
      may t =
          may_of (state_at m xs i) d w.door (invariant_before m xs k i t.turn t.found).consistent
          (sym (ap is_valid_in w.there) ∙ w.valid) w.takes

      falls : falls_to_one (state_at m xs i) (state_at m xs (i + 1)) d ≡ true
      falls = falls_of (reference_count (state_at m xs i) d) (reference_count (state_at m xs (i + 1)) d)
          (omega (arith, w.more_before, references_are (state_at m xs i) d)) (sym (references_are (state_at m xs (i + 1)) d) ∙ w.one_after)

      by : IsNoticed (state_at m xs i) (state_at m xs (i + 1)) d → MakesJustOne m xs i d
      by n =
          record {
            number = n.number;
            makes = record { within = l; none_before = n.none_before; made = n.notice; there = n.there; door = n.door };
            only = λ c v. n.only c v.made v.none_before v.there v.door;
          }

      go : TurnAt xs i → MakesJustOne m xs i d
      go t =
          by
          (subst (λ n. IsNoticed (state_at m xs i) n d) (sym (next m xs k i t.turn t.found))
          ((k.keeps i t.turn t.found).noticed d w.door (there t) (may t) (falls_now t)))
        where
          there : (t : TurnAt xs i) → door_of (state_after_turn (state_at m xs i) t.turn) d ≡ Some w.door
          there t = ap (λ n. door_of n d) (sym (next m xs k i t.turn t.found)) ∙ w.there

          falls_now : (t : TurnAt xs i) → falls_to_one (state_at m xs i) (state_after_turn (state_at m xs i) t.turn) d ≡ true
          falls_now t = ap (λ n. falls_to_one (state_at m xs i) n d) (sym (next m xs k i t.turn t.found)) ∙ falls

  pub made_once : (c i j d e : ℕ) → MakesNotice m xs i c d → MakesNotice m xs j c e → i ≡ j
  made_once c i j d e a b =
      rank_passes_once m xs k c i j 1 a.within b.within (omega (arith, ap rank_in_notice a.none_before)) (omega (arith, ap rank_in_notice b.none_before))
      (omega (arith, ap rank_in_notice a.there, some_rank a.made))
      (omega (arith, ap rank_in_notice b.there, some_rank b.made))

  -- a record that is there

  pub kept :
      (i j c : ℕ) (x : Notice) → i ≤ j → j ≤ length xs → notice_of (state_at m xs i) c ≡ Some x → IsKeptNotice (state_at m xs j) c x
  kept i j c x l b e = go (notice_kept_ever m xs k i j c x l b e)
    where
      go : IsOfNotice x (notice_of (state_at m xs j) c) → IsKeptNotice (state_at m xs j) c x
      go h = record { later = h.notice; there = h.there; number = h.number; door = h.door; made = h.made }

  pub was_made : (i c : ℕ) (x : Notice) → i ≤ length xs → notice_of (state_at m xs i) c ≡ Some x → WasMadeNotice m xs i c x.door
  was_made zero c x l e = absurd (cc (sym (k.no_notice c) ∙ e))
  was_made (suc i) c x l e =
      go (notice_of (state_at m xs i) c) refl (λ y f. was_made i c y (omega (arith, l)) f)
    where
      after : notice_of (state_at m xs (i + 1)) c ≡ Some x
      after = ap (λ j. notice_of (state_at m xs j) c) (add-one i) ∙ e

      later : (y : Notice) → IsKeptNotice (state_at m xs (i + 1)) c y → WasMadeNotice m xs i c y.door → WasMadeNotice m xs (suc i) c x.door
      later y h w =
          let same : h.later ≡ x = cc (sym h.there ∙ after) in
          record {
            at = w.at;
            earlier = omega (arith, w.earlier);
            makes = subst (MakesNotice m xs w.at c) (sym h.door ∙ ap (λ (z : Notice). z.door) same) w.makes;
          }

      go :
          (o : Option Notice) → notice_of (state_at m xs i) c ≡ o →
          ((y : Notice) → notice_of (state_at m xs i) c ≡ Some y → WasMadeNotice m xs i c y.door) → WasMadeNotice m xs (suc i) c x.door
      go None f ih =
          record {
            at = i;
            earlier = omega arith;
            makes = record { within = omega (arith, l); none_before = f; made = x; there = after; door = refl };
          }
      go (Some y) f ih = later y (kept i (i + 1) c y (omega arith) (omega (arith, l)) f) (ih y f)

  pub numbered :
      (i c : ℕ) → i ≤ length xs → IsMade (notice_of (state_at m xs i) c) ↔ ((1 ≤ c) × (c ≤ (state_at m xs i).notice_list.made))
  numbered i c l = (
    numbers_are (state_at m xs i) (k.invariant i l).consistent c,
    λ h. numbers_found (state_at m xs i) (k.invariant i l).consistent c h.0 h.1,
  )

  -- what is made at a place is there from the next one on
  pub there_from : (i j c d : ℕ) → i < j → j ≤ length xs → (w : MakesNotice m xs i c d) → IsKeptNotice (state_at m xs j) c w.made
  there_from i j c d l b w = kept (i + 1) j c w.made (omega (arith, l)) b w.there

  pub in_order : (i j c d e f : ℕ) → i < j → MakesNotice m xs i c e → MakesNotice m xs j d f → c < d
  in_order i j c d e f l a b = go (at_most_or_past d (state_at m xs j).notice_list.made) (there_from i j c e l within a)
    where
      within : j ≤ length xs
      within = omega (arith, b.within)

      here : IsConsistent (state_at m xs j)
      here = (k.invariant j within).consistent

      positive : 1 ≤ d
      positive =
          (numbers_are (state_at m xs (j + 1)) (k.invariant (j + 1) (omega (arith, b.within))).consistent d (record { made = b.made; there = b.there })).0

      none : IsMade (notice_of (state_at m xs j) d) → ⊥
      none h = absurd (cc (sym b.none_before ∙ h.there))

      go : (d ≤ (state_at m xs j).notice_list.made) ⊎ ((state_at m xs j).notice_list.made < d) → IsKeptNotice (state_at m xs j) c a.made → c < d
      go (inl g) h = absurd (none (numbers_found (state_at m xs j) here d positive g))
      go (inr g) h = omega (arith, g, (numbers_are (state_at m xs j) here c (record { made = h.later; there = h.there })).1)

  -- those of one event, by door
  pub by_door : (i c d e f : ℕ) → MakesNotice m xs i c e → MakesNotice m xs i d f → e < f → c < d
  by_door i c d e f a b l = go (turn_at xs i a.within)
    where
      at_turn :
          (t : Turn) → slice_get xs i ≡ Some t → (n : ℕ) (x : Notice) → notice_of (state_at m xs (i + 1)) n ≡ Some x →
          notice_of (state_after_turn (state_at m xs i) t) n ≡ Some x
      at_turn t g n x h = ap (λ z. notice_of z n) (sym (next m xs k i t g)) ∙ h

      go : TurnAt xs i → c < d
      go t =
          step_orders (state_at m xs i) t.turn.thread t.turn.request (invariant_before m xs k i t.turn t.found) (k.may i t.turn t.found) c d
          a.made b.made a.none_before b.none_before (at_turn t.turn t.found c a.made a.there) (at_turn t.turn t.found d b.made b.there)
          (omega (arith, a.door, b.door, l))

  -- a door that takes no second one
  pub one_ever :
      (i j b c d : ℕ) (door : Door) → MakesNotice m xs i b d → MakesNotice m xs j c d → door_of (state_at m xs (i + 1)) d ≡ Some door →
      has_attribute 16 door.attrs ≡ false → b ≡ c
  one_ever i j b c d door v w e f = go (three_ways i j)
    where
      -- the door is the same at the later place
      none_later :
          (p r : ℕ) (x y : Door) → p ≤ r → r < length xs → door_of (state_at m xs (p + 1)) d ≡ Some x →
          door_of (state_at m xs (r + 1)) d ≡ Some y → x.attrs ≡ y.attrs
      none_later p r x y l g h q = by (keeps_ever m xs k (p + 1) (r + 1) d x (omega (arith, l)) (omega (arith, g)) h)
        where
          by : IsKept x (door_of (state_at m xs (r + 1)) d) → x.attrs ≡ y.attrs
          by z =
              let same : z.door ≡ y = cc (sym z.there ∙ q) in
              sym z.same.attrs ∙ ap (λ (u : Door). u.attrs) same

      -- a door that has one, and takes one more, has DOOR_UNREF_MULTI
      has_multi :
          (p r a n : ℕ) (u : MakesNotice m xs p a d) → MakesNotice m xs r n d → p < r → (x : Door) →
          TakesOneMore (state_at m xs r) d x.attrs → has_attribute 16 x.attrs ≡ true
      has_multi p r a n u z l x (again g) = g
      has_multi p r a n u z l x (first g none) =
          let h : IsKeptNotice (state_at m xs r) a u.made = there_from p r a d l (omega (arith, z.within)) u in
          absurd (none (record { number = a; had = h.later; there = h.there; door = h.door ∙ u.door }))

      here : IsDue m xs i d
      here = made_where_due i b d v

      there : IsDue m xs j d
      there = made_where_due j c d w

      same_here : here.door ≡ door
      same_here = cc (sym here.there ∙ e)

      not_many : (x : Door) → x.attrs ≡ door.attrs → has_attribute 16 x.attrs ≡ true → ⊥
      not_many x g h = absurd (cc (sym f ∙ ap (has_attribute 16) (sym g) ∙ h))

      at_one : MakesJustOne m xs i d → MakesNotice m xs i c d → b ≡ c
      at_one o z = o.only b v ∙ sym (o.only c z)

      go : (i < j) ⊎ ((i ≡ j) ⊎ (j < i)) → b ≡ c
      go (inl l) =
          absurd
          (not_many there.door (sym (none_later i j door there.door (omega (arith, l)) w.within e there.there))
          (has_multi i j b c v w l there.door there.takes))
      go (inr (inl g)) = at_one (due_makes i d v.within here) (subst (λ n. MakesNotice m xs n c d) (sym g) w)
      go (inr (inr l)) =
          absurd
          (not_many here.door (ap (λ (x : Door). x.attrs) same_here) (has_multi j i c b w v l here.door here.takes))
