-- All that is to fire, where one after the other fires.
use Rattle.std.proofs.Common.{◌≡◌, ◌&&◌, ◌||◌, Bool, true, false, if◌then◌else◌, List, [], ◌∷◌, Option, None, Some, All, filter, find, map, option_map, refl, sym, subst, ap, ap₂, ◌∙◌, IfSome}
use Rattle.std.proofs.lemmas.List.Elements.{All-cons, All-contains, All-head, All-tail}
use Rattle.dk_base.specs.declared.object.Obj.{Obj}
use Rattle.dk_base.specs.declared.set.PollSet.{PollSet}
use Rattle.spec_records.specs.declared.association.Association.{Association}
use Rattle.spec_records.specs.declared.association.Fired.{Fired}
use Rattle.spec_records.specs.Words.{AssociationList, Port, all_fired, change_first, disarmed, disarmed_where, fire_all, fire_first, fired_of, fired_where, first_fired, is_fired_by, is_object, is_to_fire, is_told, post_event, post_fired}
use Rattle.spec_records.proofs.NumberedLists.{find-passes}
use Rattle.port_assoc.proofs.Watching.{one_object}
use Rattle.kernel_ports.specs.declared.changed.Changed.{Changed}
use Rattle.kernel_ports.specs.Firing.{AreAllChanged, IsNext, IsSaid, is_fired_among, is_fired_as, is_watched_among, is_watched_by}

-- of lists: a change of the first that meets a test

module _ {X : Type 0} (p : X → Bool) (d : X → X) (off : (x : X) → p (d x) ≡ false) where
  abbrev changed : X → X
  changed x = if p x then d x else x

  -- once it has changed, the others that meet the test are left, and changing all of them is changing all

  others_pass : (xs : List X) (a : X) → find p xs ≡ Some a → filter p xs ≡ a ∷ filter p (change_first p d xs)
  others_pass [] a h = cc
  others_pass (x ∷ xs) a h = go (p x) refl h (others_pass xs a)
    where
      go :
          (b : Bool) → p x ≡ b → (if b then Some x else find p xs) ≡ Some a → (find p xs ≡ Some a → filter p xs ≡ a ∷ filter p (change_first p d xs)) →
          (if b then x ∷ filter p xs else filter p xs) ≡ a ∷ filter p (if b then d x ∷ xs else x ∷ change_first p d xs)
      go true e h ih =
          let same : x ≡ a = cc in
          ap (λ y. y ∷ filter p xs) same ∙ ap (λ b. a ∷ (if b then d x ∷ filter p xs else filter p xs)) (sym (off x))
      go false e h ih = ih h ∙ ap (λ b. a ∷ (if b then x ∷ filter p (change_first p d xs) else filter p (change_first p d xs))) (sym e)

  all_changed : (xs : List X) → map changed (change_first p d xs) ≡ map changed xs
  all_changed [] = refl
  all_changed (x ∷ xs) = go (p x) refl (all_changed xs)
    where
      go :
          (b : Bool) → p x ≡ b → map changed (change_first p d xs) ≡ map changed xs →
          map changed (if b then d x ∷ xs else x ∷ change_first p d xs) ≡ (if b then d x else x) ∷ map changed xs
      go true e ih = ap (λ b. (if b then d (d x) else d x) ∷ map changed xs) (off x)
      go false e ih = ap₂ (λ b ys. (if b then d x else x) ∷ ys) e ih

  none_pass : (xs : List X) → find p xs ≡ None → filter p xs ≡ []
  none_pass [] h = refl
  none_pass (x ∷ xs) h = go (p x) h (none_pass xs)
    where
      go : (b : Bool) → (if b then Some x else find p xs) ≡ None → (find p xs ≡ None → filter p xs ≡ []) → (if b then x ∷ filter p xs else filter p xs) ≡ []
      go true h ih = cc
      go false h ih = ih h

  none_changed : (xs : List X) → find p xs ≡ None → map changed xs ≡ xs
  none_changed [] h = refl
  none_changed (x ∷ xs) h = go (p x) h (none_changed xs)
    where
      go : (b : Bool) → (if b then Some x else find p xs) ≡ None → (find p xs ≡ None → map changed xs ≡ xs) → (if b then d x else x) ∷ map changed xs ≡ x ∷ xs
      go true h ih = cc
      go false h ih = ap (λ ys. x ∷ ys) (ih h)

-- tests that find the same item first change the same
change_first-same :
    {X : Type 0} (p q : X → Bool) (d : X → X) (xs : List X) (a : X) → find p xs ≡ Some a → find q xs ≡ Some a → change_first p d xs ≡ change_first q d xs
change_first-same p q d [] a e f = refl
change_first-same p q d (x ∷ xs) a e f = go (p x) (q x) refl refl e f (change_first-same p q d xs a)
  where
    go :
        (b c : Bool) → p x ≡ b → q x ≡ c → (if b then Some x else find p xs) ≡ Some a → (if c then Some x else find q xs) ≡ Some a →
        (find p xs ≡ Some a → find q xs ≡ Some a → change_first p d xs ≡ change_first q d xs) →
        (if b then d x ∷ xs else x ∷ change_first p d xs) ≡ (if c then d x ∷ xs else x ∷ change_first q d xs)
    go true true g h e f ih = refl
    go true false g h e f ih = let same : x ≡ a = cc in let passes = find-passes q xs a f in let fails = ap q same in cc
    go false true g h e f ih = let same : x ≡ a = cc in let passes = find-passes p xs a e in let fails = ap p same in cc
    go false false g h e f ih = ap (λ ys. x ∷ ys) (ih e f)

-- what is kept of each but the first that passes, and of that as it is changed
All-change_first :
    {X : Type 0} (P : X → Type 0) (p : X → Bool) (d : X → X) → ((x : X) → P (d x)) → (xs : List X) → All P xs → All P (change_first p d xs)
All-change_first P p d off [] h = h
All-change_first P p d off (x ∷ xs) h = go (p x) (All-change_first P p d off xs (All-tail P x xs h))
  where
    go : (b : Bool) → All P (change_first p d xs) → All P (if b then d x ∷ xs else x ∷ change_first p d xs)
    go true ih = All-cons P (d x) xs (off x) (All-tail P x xs h)
    go false ih = All-cons P x (change_first p d xs) (All-head P x xs h) ih

module _ (ready : Obj → PollSet) where
  abbrev Said : Changed → Type 0
  Said c = IsSaid ready c

  abbrev Watched : List Changed → Association → Type 0
  Watched cs a = is_to_fire ready a ≡ true → is_watched_among cs a ≡ true

  -- what is listed fires what is to fire

  fired_as : (c : Changed) (a : Association) → Said c → is_fired_as a c ≡ (is_watched_by a c && is_to_fire ready a)
  fired_as c a said = go (is_object c.object a.object) refl
    where
      both : (x y : Bool) → ((x && true) && y) ≡ (x && y)
      both true y = refl
      both false y = refl

      none : (x y : Bool) → ((x && false) && y) ≡ false
      none true y = refl
      none false y = refl

      go : (b : Bool) → is_object c.object a.object ≡ b → ((a.armed && b) && is_told c.ready a) ≡ (b && is_to_fire ready a)
      go true e =
          both a.armed (is_told c.ready a)
          ∙ ap (λ (r : PollSet). a.armed && is_told r a) (said ∙ ap ready (one_object c.object a.object e))
      go false e = none a.armed (is_told c.ready a)

  among : (cs : List Changed) (a : Association) → All Said cs → is_fired_among cs a ≡ (is_watched_among cs a && is_to_fire ready a)
  among [] a h = refl
  among (c ∷ cs) a h =
      ap₂ (λ x y. x || y) (fired_as c a (All-head Said c cs h)) (among cs a (All-tail Said c cs h))
      ∙ both (is_watched_by a c) (is_watched_among cs a) (is_to_fire ready a)
    where
      both : (x y z : Bool) → ((x && z) || (y && z)) ≡ ((x || y) && z)
      both true true true = refl
      both true true false = refl
      both true false true = refl
      both true false false = refl
      both false y z = refl

  as_to_fire : (cs : List Changed) (a : Association) → All Said cs → Watched cs a → is_fired_among cs a ≡ is_to_fire ready a
  as_to_fire cs a said watched = among cs a said ∙ go (is_to_fire ready a) refl
    where
      none : (x : Bool) → (x && false) ≡ false
      none true = refl
      none false = refl

      go : (b : Bool) → is_to_fire ready a ≡ b → (is_watched_among cs a && b) ≡ b
      go true e = ap (λ x. x && true) (watched e)
      go false e = none (is_watched_among cs a)

  found : (cs : List Changed) (xs : List Association) → All Said cs → All (Watched cs) xs → find (is_fired_among cs) xs ≡ find (is_to_fire ready) xs
  found cs [] said h = refl
  found cs (x ∷ xs) said h =
      ap₂ (λ b r. if b then Some x else r) (as_to_fire cs x said (All-head (Watched cs) x xs h)) (found cs xs said (All-tail (Watched cs) x xs h))

  fired_off : (a : Association) → is_to_fire ready (disarmed a) ≡ false
  fired_off a = refl

  -- none is left

  module _ (cs : List Changed) (list : AssociationList) (h : AreAllChanged ready cs list.associations) (next : IsNext list.associations cs None) where
    none_left : find (is_to_fire ready) list.associations ≡ None
    none_left = sym (found cs list.associations h.said h.watched) ∙ next

    pub none_fires : fire_all list ready ≡ list
    none_fires =
        ap (λ (xs : List Association). record list { associations = xs })
        (none_changed (is_to_fire ready) disarmed fired_off list.associations none_left)

    pub none_posted : (ports : List Port) → post_fired ports (all_fired ready list.associations) ≡ ports
    none_posted ports =
        ap (λ (xs : List Association). post_fired ports (map (fired_where ready) xs))
        (none_pass (is_to_fire ready) disarmed fired_off list.associations none_left)

  -- one fires

  module _ (cs : List Changed) (list : AssociationList) (c : Changed) (next : IsNext list.associations cs (Some c)) (h : AreAllChanged ready cs list.associations) where
    abbrev xs : List Association
    xs = list.associations

    first : find (is_to_fire ready) xs ≡ Some next.1.0
    first = sym (found cs xs h.said h.watched) ∙ next.1.2

    after : change_first (is_fired_by c.object c.ready) disarmed xs ≡ change_first (is_to_fire ready) disarmed xs
    after = change_first-same (is_fired_by c.object c.ready) (is_to_fire ready) disarmed xs next.1.0 next.1.1 first

    pub still_changed : AreAllChanged ready cs (fire_first list c.object c.ready).associations
    still_changed = record {
      said = h.said;
      watched = All-change_first (Watched cs) (is_fired_by c.object c.ready) disarmed (λ a e. cc) xs h.watched;
    }

    pub fires_all : fire_all (fire_first list c.object c.ready) ready ≡ fire_all list ready
    fires_all =
        ap (λ (ys : List Association). record list { associations = map (disarmed_where ready) ys }) after
        ∙ ap (λ (ys : List Association). record list { associations = ys }) (all_changed (is_to_fire ready) disarmed fired_off xs)

    watches_it : (a : Association) → is_fired_by c.object c.ready a ≡ true → is_object c.object a.object ≡ true
    watches_it a = go a.armed (is_object c.object a.object) (is_told c.ready a)
      where
        go : (x y z : Bool) → ((x && y) && z) ≡ true → y ≡ true
        go true true z e = refl
        go true false z e = e
        go false true z e = refl
        go false false z e = e

    event : fired_of c.ready next.1.0 ≡ fired_where ready next.1.0
    event =
        let a = next.1.0 in
        let object = one_object c.object a.object (watches_it a (find-passes (is_fired_by c.object c.ready) xs a next.1.1)) in
        ap (λ (r : PollSet). fired_of r a) (All-contains Said cs c h.said next.0 ∙ ap ready object)

    pub posts_all :
        (old new : List Port) → IfSome (first_fired c.object c.ready xs) (λ f. new ≡ post_event old f.port f.queued) →
        post_fired new (all_fired ready (fire_first list c.object c.ready).associations) ≡ post_fired old (all_fired ready xs)
    posts_all old new posted =
        let a = next.1.0 in
        let one : new ≡ post_event old (fired_of c.ready a).port (fired_of c.ready a).queued =
        subst (λ (o : Option Association). IfSome (option_map (fired_of c.ready) o) (λ f. new ≡ post_event old f.port f.queued)) next.1.1 posted in
        ap₂ (λ (ports : List Port) (ys : List Association). post_fired ports (all_fired ready ys)) one after
        ∙ ap
        (λ (f : Fired). post_fired (post_event old f.port f.queued) (map (fired_where ready) (filter (is_to_fire ready) (change_first (is_to_fire ready) disarmed xs))))
        event
        ∙ ap (λ (ys : List Association). post_fired old (map (fired_where ready) ys)) (sym (others_pass (is_to_fire ready) disarmed fired_off xs a first))
