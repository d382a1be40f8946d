-- What an act leaves to tell ports.
use Rattle.std.specs.Prelude.{ℕ, ◌≡◌, ◌==◌, ◌++◌, ◌&&◌, ◌||◌, List, [], ◌∷◌, map, filter, Option, Bool, true, false, if◌then◌else◌, not, Some, None, is_none, All}
use Rattle.std.proofs.Common.{refl, sym, ap, ap₂, ◌∙◌}
use native.Mathlib.Omega.{arith}
use Rattle.std.specs.List.{list_any}
use Rattle.std.specs.Option.{option_to_list}
use Rattle.std.proofs.lemmas.Bool.{or_left, or_right}
use Rattle.std.proofs.lemmas.Bool.Decides.{nat_tests}
use Rattle.std.proofs.lemmas.List.Elements.{All-filter, All-weaker}
use Rattle.spec_kernel.specs.Types.{Fd, Obj, Request}
use Rattle.dk_base.specs.declared.object.Obj.TheVariants as obj
use Rattle.dk_base.specs.declared.request.Request.TheVariants as request
use Rattle.spec_records.specs.declared.association.Association.{Association}
use Rattle.spec_records.specs.declared.association.AssocKey.{AssocKey}
use Rattle.spec_records.specs.Words.{descriptor, has_lost_its_row, is_object, is_this_object, is_to_fire, names_its_object, watches, withdraw_events}
use Rattle.spec_kernel.specs.Words.{State, associations_in, end_lost, object_at, ready_at, references_of, with_channels}
use Rattle.law_states.specs.Told.{AreTold}
use Rattle.law_channels.proofs.Rows.{IsRowAfter}
use Rattle.law_channels.specs.Ends.{is_end, other_end}
use Rattle.law_channels.specs.Closed.{Closing, closed_rows, closes, is_acting, is_closed, is_descriptor}
use Rattle.law_channels.specs.Changed.{IsAfterAct, IsMade, ListsGone, UnbornHaveNoRows, changed_objects, is_changed, is_gone, readied}
use Rattle.law_channels.specs.Ended.{closing, empty_rows, ended_by, is_empty_row}
use Rattle.law_channels.specs.Told.{LeavesToTell}
use Rattle.law_channels.proofs.Changed.{act_all, changes, row_after, stand}
use Rattle.law_channels.proofs.Ended.{always, closes_is, closing_ends, is_ending, never}
use Rattle.law_channels.proofs.Ready.{fires_since}
use Rattle.law_channels.proofs.TimerChanges.{timers_end}
use Rattle.law_channels.proofs.Withdrawn.{filter-same}

is_itself : (o : Obj) → is_object o o ≡ true
is_itself (obj.Door n) = grind (arith, nat_tests)
is_itself (obj.Port n) = grind (arith, nat_tests)
is_itself (obj.PipeIn n) = grind (arith, nat_tests)
is_itself (obj.PipeOut n) = grind (arith, nat_tests)

-- objects, by their numbers

is_other : (o r : Obj) → is_object o r ≡ true → is_object r o ≡ true
is_other (obj.Door a) (obj.Door b) e = grind (arith, nat_tests)
is_other (obj.Port a) (obj.Port b) e = grind (arith, nat_tests)
is_other (obj.PipeIn a) (obj.PipeIn b) e = grind (arith, nat_tests)
is_other (obj.PipeOut a) (obj.PipeOut b) e = grind (arith, nat_tests)
is_other x y e = absurd (cc e)

both_ends : (o : Obj) → is_end o ≡ true → is_end (other_end o) ≡ true
both_ends (obj.PipeIn n) e = refl
both_ends (obj.PipeOut n) e = refl
both_ends (obj.Door n) e = e
both_ends (obj.Port n) e = e

other_way : (o g : Obj) → is_object (other_end o) g ≡ is_object (other_end g) o
other_way (obj.PipeIn a) (obj.PipeOut b) = grind (arith, nat_tests)
other_way (obj.PipeOut a) (obj.PipeIn b) = grind (arith, nat_tests)
other_way (obj.Door a) (obj.Door b) = grind (arith, nat_tests)
other_way (obj.Port a) (obj.Port b) = grind (arith, nat_tests)
other_way x y = refl

other_listed : (o : Obj) (gone : List Obj) → list_any (is_object (other_end o)) gone ≡ true → list_any (λ x. is_object x o) (map other_end gone) ≡ true
other_listed o [] e = e
other_listed o (g ∷ gone) e = go (is_object (other_end o) g) (other_way o g) e (λ f. other_listed o gone f)
  where
    go :
        (b : Bool) → b ≡ is_object (other_end g) o → b || list_any (is_object (other_end o)) gone ≡ true →
        (list_any (is_object (other_end o)) gone ≡ true → list_any (λ x. is_object x o) (map other_end gone) ≡ true) →
        is_object (other_end g) o || list_any (λ x. is_object x o) (map other_end gone) ≡ true
    go true f h rest = or_left (is_object (other_end g) o) _ (sym f)
    go false f h rest = or_right (is_object (other_end g) o) _ (rest h)

left_of : (b c : Bool) → b && c ≡ true → b ≡ true
left_of true c e = refl
left_of false c e = e

right_of : (b c : Bool) → b && c ≡ true → c ≡ true
right_of true c e = e
right_of false c e = cc

-- what names its object before has lost its row where that is closed
lost_row : (o : Obj) (c : Bool) (r s : Option Obj) → IsRowAfter c r s → is_this_object o r ≡ true → not (is_this_object o s) ≡ c
lost_row o c None s h e = cc
lost_row o true (Some x) s h e = ap (λ z. not (is_this_object o z)) h
lost_row o false (Some x) s h e = ap (λ z. not (is_this_object o z)) h ∙ ap not e

not_not : (b c : Bool) → not b ≡ c → b ≡ not c
not_not true c e = ap not e
not_not false c e = ap not e

-- where all rows of a process are closed, the entry is not refused
process_acts : (m : State) (t : ℕ) (q : Option Request) (p : ℕ) → closed_rows m t q ≡ Closing.process p → is_acting m t q ≡ true
process_acts m t None p e = refl
process_acts m t (Some (request.Kill u)) p e = refl
process_acts m t (Some request.Exit) p e = refl
process_acts m t (Some r) p e = absurd (cc e)

-- a row is among those that are named and empty where it is named and empty

same_descriptor : (f g : Fd) → (f.0 == g.0) ≡ true → f ≡ g
same_descriptor f g e = let same : f.0 ≡ g.0 = grind (arith, nat_tests) in ap descriptor same

among_empty :
    (empty : Fd → Bool) (fd : Fd) (fds : List Fd) → list_any (is_descriptor fd) (filter empty fds) ≡ list_any (is_descriptor fd) fds && empty fd
among_empty empty fd [] = refl
among_empty empty fd (g ∷ fds) = go (fd.0 == g.0) refl (empty g) refl (among_empty empty fd fds)
  where
    go :
        (b : Bool) → (fd.0 == g.0) ≡ b → (c : Bool) → empty g ≡ c →
        list_any (is_descriptor fd) (filter empty fds) ≡ list_any (is_descriptor fd) fds && empty fd →
        list_any (is_descriptor fd) (if c then g ∷ filter empty fds else filter empty fds) ≡ (b || list_any (is_descriptor fd) fds) && empty fd
    go true e true f rest =
        or_left (fd.0 == g.0) (list_any (is_descriptor fd) (filter empty fds)) e ∙ sym (ap empty (same_descriptor fd g e) ∙ f)
    go true e false f rest =
        let here : empty fd ≡ false = ap empty (same_descriptor fd g e) ∙ f in
        rest ∙ ap (λ b. list_any (is_descriptor fd) fds && b) here ∙ never (list_any (is_descriptor fd) fds) ∙ sym here
    go false e true f rest = ap (λ b. b || list_any (is_descriptor fd) (filter empty fds)) e ∙ rest
    go false e false f rest = rest

-- a row that named something is empty where it is closed
closed_empty : (o : Obj) (c : Bool) (r s : Option Obj) → IsRowAfter c r s → is_this_object o r ≡ true → is_none s ≡ c
closed_empty o c None s h e = cc
closed_empty o true (Some x) s h e = ap is_none h
closed_empty o false (Some x) s h e = ap is_none h

empty_closed :
    (n : State) (closed : Closing) (acting : Bool) (o : Obj) (p : ℕ) (fd : Fd) (r : Option Obj) →
    ((u : ℕ) → closed ≡ Closing.process u → acting ≡ true) → IsRowAfter (is_closed closed p fd && acting) r (object_at n p fd) →
    is_this_object o r ≡ true → is_closed closed p fd && acting ≡ is_closed (empty_rows n closed) p fd
empty_closed n Closing.nothing acting o p fd r whole h e = refl
empty_closed n (Closing.process u) acting o p fd r whole h e =
    ap (λ b. (p == u) && b) (whole u refl) ∙ always (p == u)
empty_closed n (Closing.rows u fds) acting o p fd r whole h e = go (p == u) refl
  where
    L : Bool
    L = list_any (is_descriptor fd) fds

    empty : is_empty_row n p fd ≡ ((p == u) && L) && acting
    empty = closed_empty o (((p == u) && L) && acting) r (object_at n p fd) h e

    named : (a b : Bool) → b ≡ (true && a) && acting → a && b ≡ a && acting
    named true b f = f
    named false b f = refl

    go : (b : Bool) → (p == u) ≡ b → (b && L) && acting ≡ b && list_any (is_descriptor fd) (filter (is_empty_row n u) fds)
    go false f = refl
    go true f =
        let same : u ≡ p = grind (arith, nat_tests) in
        sym
        (ap (λ i. list_any (is_descriptor fd) (filter (is_empty_row n i) fds)) same
        ∙ among_empty (is_empty_row n p) fd fds
        ∙ named L (is_empty_row n p fd) (empty ∙ ap (λ b. (b && L) && acting) f))

module _ (m : State) (t : ℕ) (q : Option Request) (n : State) (u : UnbornHaveNoRows m) (k : IsAfterAct m t q n) (told : AreTold m) where
  -- the one that is made too
  made_names : (a : Association) → IsMade m t q a → names_its_object m.tables a ≡ true
  made_names a y =
      ap (λ (key : AssocKey). is_this_object a.object (object_at m key.process.0 key.fd)) (ap (λ (b : Association). b.key) y.made)
      ∙ ap (is_this_object a.object) y.names
      ∙ is_itself a.object

  named : All (λ a. names_its_object m.tables a ≡ true) (associations_in n)
  named = act_all (λ a. names_its_object m.tables a ≡ true) m t told.rows q n k made_names

  lost : All (λ a. has_lost_its_row n.tables a ≡ closes m t q a.key.process.0 a.key.fd) (associations_in n)
  lost =
      All-weaker (λ a. names_its_object m.tables a ≡ true) (λ a. has_lost_its_row n.tables a ≡ closes m t q a.key.process.0 a.key.fd)
      (λ a e. lost_row a.object (closes m t q a.key.process.0 a.key.fd) _ _ (row_after m t q n u k a.key.process.0 a.key.fd) e)
      (associations_in n) named

  -- those end that are of rows which are closed

  module _ (closed : Closing) where
    abbrev Ends : Association → Type 0
    Ends a = has_lost_its_row n.tables a ≡ is_ending closed a

    abbrev Stays : Association → Type 0
    Stays a = names_its_object n.tables a ≡ not (is_ending closed a)

    ended_as : All Ends (associations_in n) → end_lost n ≡ with_channels n (ended_by n.channels closed)
    ended_as ends =
        ap₂
        (λ (lost left : List Association).
        with_channels n
        (record n.channels {
          ports = withdraw_events n.channels.ports lost;
          associations = record n.channels.associations { associations = left };
        }))
        (filter-same (has_lost_its_row n.tables) (is_ending closed) (associations_in n) ends)
        (filter-same (names_its_object n.tables) (λ a. not (is_ending closed a)) (associations_in n)
        (All-weaker Ends Stays (λ a e. not_not (names_its_object n.tables a) (is_ending closed a) e) (associations_in n) ends))
        ∙ ap (with_channels n) (closing_ends n.channels closed)

  ended : end_lost n ≡ with_channels n (ended_by n.channels (closing m t q))
  ended =
      ended_as (closing m t q)
      (All-weaker (λ a. has_lost_its_row n.tables a ≡ closes m t q a.key.process.0 a.key.fd) (Ends (closing m t q))
      (λ a e. e ∙ closes_is m t q a.key.process.0 a.key.fd) (associations_in n) lost)

  -- and these are the rows that the request names and that are empty

  row_empty :
      (a : Association) → names_its_object m.tables a ≡ true →
      closes m t q a.key.process.0 a.key.fd ≡ is_closed (empty_rows n (closed_rows m t q)) a.key.process.0 a.key.fd
  row_empty a e =
      empty_closed n (closed_rows m t q) (is_acting m t q) a.object a.key.process.0 a.key.fd (object_at m a.key.process.0 a.key.fd)
      (λ p f. process_acts m t q p f) (row_after m t q n u k a.key.process.0 a.key.fd) e

  ended_empty : end_lost n ≡ with_channels n (ended_by n.channels (empty_rows n (closed_rows m t q)))
  ended_empty =
      ended_as (empty_rows n (closed_rows m t q))
      (All-weaker (λ a. names_its_object m.tables a ≡ true) (Ends (empty_rows n (closed_rows m t q)))
      (λ a e. lost_row a.object (closes m t q a.key.process.0 a.key.fd) _ _ (row_after m t q n u k a.key.process.0 a.key.fd) e ∙ row_empty a e)
      (associations_in n) named)

  -- what fires

  waited_fires : (a : Association) → is_to_fire (ready_at m) a ≡ false → is_to_fire (ready_at n) a ≡ true → is_changed m t q n a.object ≡ true
  waited_fires a e f = go (is_this_object a.object (readied m t q)) refl
    where
      go : (b : Bool) → is_this_object a.object (readied m t q) ≡ b → b || (is_end a.object && is_gone m n (other_end a.object)) ≡ true
      go true g = refl
      go false g =
          fires_since m.channels.pipes n.channels.pipes (references_of m) (references_of n) a e f ((changes m t q n u k).no_more a.object g)

  made_readied : (a : Association) → IsMade m t q a → is_changed m t q n a.object ≡ true
  made_readied a y =
      ap (λ b. b || (is_end a.object && is_gone m n (other_end a.object)))
      (ap (λ r. is_this_object a.object (readied m t r)) y.asked ∙ ap (is_this_object a.object) y.names ∙ is_itself a.object)

  abbrev FiresByChange : Association → Type 0
  FiresByChange a = is_to_fire (ready_at n) a ≡ true → is_changed m t q n a.object ≡ true

  fires : All FiresByChange (associations_in n)
  fires =
      act_all FiresByChange m t
      (All-weaker (λ a. is_to_fire (ready_at m) a ≡ false) FiresByChange waited_fires (associations_in m) told.wait)
      q n k (λ a y e. made_readied a y)

  -- by a list of objects

  module _ (gone : List Obj) (lists : ListsGone m n gone) where
    listed : (o : Obj) → is_changed m t q n o ≡ true → list_any (λ x. is_object x o) (changed_objects m t q gone) ≡ true
    listed o e = go (readied m t q) refl e
      where
        other : is_end o && is_gone m n (other_end o) ≡ true → list_any (λ x. is_object x o) (map other_end gone) ≡ true
        other f =
            other_listed o gone
            (lists (other_end o) (both_ends o (left_of (is_end o) (is_gone m n (other_end o)) f)) (right_of (is_end o) (is_gone m n (other_end o)) f))

        either :
            (r : Obj) (b : Bool) → is_object o r ≡ b → b || (is_end o && is_gone m n (other_end o)) ≡ true →
            is_object r o || list_any (λ x. is_object x o) (map other_end gone) ≡ true
        either r true f g = or_left (is_object r o) (list_any (λ x. is_object x o) (map other_end gone)) (is_other o r f)
        either r false f g = or_right (is_object r o) (list_any (λ x. is_object x o) (map other_end gone)) (other g)

        go :
            (r : Option Obj) → readied m t q ≡ r → is_this_object o r || (is_end o && is_gone m n (other_end o)) ≡ true →
            list_any (λ x. is_object x o) (option_to_list r ++ map other_end gone) ≡ true
        go None f g = other g
        go (Some r) f g = either r (is_object o r) refl g

    abbrev Watches : Association → Type 0
    Watches a = is_to_fire (ready_at n) a ≡ true → list_any (λ o. watches o a) (changed_objects m t q gone) ≡ true

    watch : All Watches (associations_in (end_lost n))
    watch =
        All-filter (names_its_object n.tables) Watches (associations_in n)
        (All-weaker FiresByChange Watches (λ a h e. listed a.object (h e)) (associations_in n) fires)

  pub leaves_to_tell : LeavesToTell m t q n
  leaves_to_tell =
      record {
        stand = stand m t q n k;
        lost = lost;
        ended = ended;
        ended_empty = ended_empty;
        timers = timers_end m t q n k told;
        fires = fires;
        watch = watch;
      }
