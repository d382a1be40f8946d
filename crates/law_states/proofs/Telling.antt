-- Once ports are told, every association that is left names its object and none is to fire, and the process of every timer that is left
-- lives; and where that holds, nothing is told.
use Rattle.std.specs.Prelude.{ℕ, ◌≡◌, List, [], ◌∷◌, Option, Bool, true, false, if◌then◌else◌, not, All, filter, map}
use Rattle.std.proofs.Common.{refl, ap, ap₂, ◌∙◌}
use Rattle.std.proofs.lemmas.List.Elements.{All-cons, All-head, All-nil, All-tail}
use Rattle.spec_kernel.specs.Types.{Obj}
use Rattle.dk_base.specs.declared.set.PollSet.{PollSet}
use Rattle.spec_records.specs.declared.association.Association.{Association}
use Rattle.spec_records.specs.declared.timer.Timer.{Timer}
use Rattle.spec_records.specs.Words.{disarmed, disarmed_where, fired_where, has_lost_its_row, is_timer_of_ended, is_timer_of_live, is_to_fire, names_its_object, post_fired, withdraw_events, withdraw_timers}
use Rattle.spec_kernel.specs.Words.{State, associations_in, end_lost, end_timers, fire, is_live_process, ready_at, tell, timers_in, with_channels}
use Rattle.law_states.specs.Told.{AreTold}

module _ (tables : List (List (Option Obj))) (ready : Obj → PollSet) where
  abbrev Names : Association → Type 0
  Names a = names_its_object tables a ≡ true

  abbrev Waits : Association → Type 0
  Waits a = is_to_fire ready a ≡ false

  told_names : (a : Association) → Names a → Names (disarmed_where ready a)
  told_names a h = go (is_to_fire ready a)
    where
      go : (b : Bool) → Names (if b then disarmed a else a)
      go true = h
      go false = h

  told_waits : (a : Association) → Waits (disarmed_where ready a)
  told_waits a = go (is_to_fire ready a) refl
    where
      go : (b : Bool) → is_to_fire ready a ≡ b → Waits (if b then disarmed a else a)
      go true e = refl
      go false e = e

  left_name : (xs : List Association) → All Names (map (disarmed_where ready) (filter (names_its_object tables) xs))
  left_name [] = All-nil Names
  left_name (a ∷ xs) = go (names_its_object tables a) refl (left_name xs)
    where
      go :
          (b : Bool) → names_its_object tables a ≡ b → All Names (map (disarmed_where ready) (filter (names_its_object tables) xs)) →
          All Names (map (disarmed_where ready) (if b then a ∷ filter (names_its_object tables) xs else filter (names_its_object tables) xs))
      go true e rest =
          All-cons Names (disarmed_where ready a) (map (disarmed_where ready) (filter (names_its_object tables) xs)) (told_names a e) rest
      go false e rest = rest

  all_wait : (xs : List Association) → All Waits (map (disarmed_where ready) xs)
  all_wait [] = All-nil Waits
  all_wait (a ∷ xs) = All-cons Waits (disarmed_where ready a) (map (disarmed_where ready) xs) (told_waits a) (all_wait xs)

  -- conversely

  none_lost : (xs : List Association) → All Names xs → filter (has_lost_its_row tables) xs ≡ []
  none_lost [] h = refl
  none_lost (a ∷ xs) h =
      ap₂ (λ (b : Bool) (ys : List Association). if not b then a ∷ ys else ys) (All-head Names a xs h) (none_lost xs (All-tail Names a xs h))

  all_left : (xs : List Association) → All Names xs → filter (names_its_object tables) xs ≡ xs
  all_left [] h = refl
  all_left (a ∷ xs) h =
      ap₂ (λ (b : Bool) (ys : List Association). if b then a ∷ ys else ys) (All-head Names a xs h) (all_left xs (All-tail Names a xs h))

  none_fire : (xs : List Association) → All Waits xs → filter (is_to_fire ready) xs ≡ []
  none_fire [] h = refl
  none_fire (a ∷ xs) h =
      ap₂ (λ (b : Bool) (ys : List Association). if b then a ∷ ys else ys) (All-head Waits a xs h) (none_fire xs (All-tail Waits a xs h))

  all_stay : (xs : List Association) → All Waits xs → map (disarmed_where ready) xs ≡ xs
  all_stay [] h = refl
  all_stay (a ∷ xs) h =
      ap₂ (λ (b : Bool) (ys : List Association). (if b then disarmed a else a) ∷ ys) (All-head Waits a xs h) (all_stay xs (All-tail Waits a xs h))

-- timers, where these processes live
module _ (lives : ℕ → Bool) where
  abbrev Lives : Timer → Type 0
  Lives t = lives t.process.0 ≡ true

  left_live : (ts : List Timer) → All Lives (filter (is_timer_of_live lives) ts)
  left_live [] = All-nil Lives
  left_live (t ∷ ts) = go (lives t.process.0) refl (left_live ts)
    where
      go :
          (b : Bool) → lives t.process.0 ≡ b → All Lives (filter (is_timer_of_live lives) ts) →
          All Lives (if b then t ∷ filter (is_timer_of_live lives) ts else filter (is_timer_of_live lives) ts)
      go true e rest = All-cons Lives t (filter (is_timer_of_live lives) ts) e rest
      go false e rest = rest

  none_ended : (ts : List Timer) → All Lives ts → filter (is_timer_of_ended lives) ts ≡ []
  none_ended [] h = refl
  none_ended (t ∷ ts) h =
      ap₂ (λ (b : Bool) (us : List Timer). if not b then t ∷ us else us) (All-head Lives t ts h) (none_ended ts (All-tail Lives t ts h))

  all_live : (ts : List Timer) → All Lives ts → filter (is_timer_of_live lives) ts ≡ ts
  all_live [] h = refl
  all_live (t ∷ ts) h =
      ap₂ (λ (b : Bool) (us : List Timer). if b then t ∷ us else us) (All-head Lives t ts h) (all_live ts (All-tail Lives t ts h))

pub tells : (m : State) → AreTold (tell m)
tells m =
    record {
      rows = left_name m.tables (ready_at (end_lost m)) (associations_in m);
      wait = all_wait m.tables (ready_at (end_lost m)) (associations_in (end_lost m));
      timers = left_live (is_live_process m) (timers_in m);
    }

ends_none : (m : State) → AreTold m → end_lost m ≡ m
ends_none m h =
    ap₂ {A = List Association} {B = List Association} {C = State}
    (λ lost left.
    with_channels m
    (record m.channels {
      ports = withdraw_events m.channels.ports lost;
      associations = record m.channels.associations { associations = left };
    }))
    (none_lost m.tables (ready_at m) (associations_in m) h.rows)
    (all_left m.tables (ready_at m) (associations_in m) h.rows)

ends_no_timer : (m : State) → AreTold m → end_timers m ≡ m
ends_no_timer m h =
    ap₂ {A = List Timer} {B = List Timer} {C = State}
    (λ lost left.
    with_channels m
    (record m.channels {
      ports = withdraw_timers m.channels.ports lost;
      timers = record m.channels.timers { timers = left };
    }))
    (none_ended (is_live_process m) (timers_in m) h.timers)
    (all_live (is_live_process m) (timers_in m) h.timers)

fires_none : (m : State) → AreTold m → fire m ≡ m
fires_none m h =
    ap₂ {A = List Association} {B = List Association} {C = State}
    (λ fired left.
    with_channels m
    (record m.channels {
      ports = post_fired m.channels.ports (map (fired_where (ready_at m)) fired);
      associations = record m.channels.associations { associations = left };
    }))
    (none_fire m.tables (ready_at m) (associations_in m) h.wait)
    (all_stay m.tables (ready_at m) (associations_in m) h.wait)

pub tells_nothing : (m : State) → AreTold m → tell m ≡ m
tells_nothing m h = ap (λ n. fire (end_timers n)) (ends_none m h) ∙ ap fire (ends_no_timer m h) ∙ fires_none m h
