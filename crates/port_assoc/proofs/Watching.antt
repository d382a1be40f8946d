-- The armed associations of each object, as one ends, is made, or fires.
use Rattle.std.proofs.Common.{◌≡◌, ◌&&◌, Bool, true, false, if◌then◌else◌, List, [], ◌∷◌, ◌++◌, None, Some, find, filter, refl, sym, ap, ◌∙◌, arith}
use Rattle.std.proofs.lemmas.Bool.Decides.{nat_tests}
use Rattle.std.proofs.lemmas.List.Elements.{filter-append}
use Rattle.dk_base.specs.declared.object.Obj.{Obj}
use Rattle.dk_base.specs.declared.object.Obj.TheVariants as obj
use Rattle.dk_base.specs.declared.set.PollSet.{PollSet}
use Rattle.spec_records.specs.declared.association.AssocKey.{AssocKey}
use Rattle.spec_records.specs.declared.association.Association.{Association}
use Rattle.spec_records.specs.Words.{association_at, change_first, disarmed, has_key, is_fired_by, is_object, is_told, is_watcher}
use Rattle.spec_records.proofs.Places.{change_first-none}
use Rattle.port_assoc.specs.Lists.{without_first}
use Rattle.port_assoc.specs.Table.{HaveDistinctKeys}
use Rattle.port_assoc.specs.Watchers.{WatchLists, watchers_of}
use Rattle.port_assoc.specs.Value.{IsWatched}
use Rattle.port_assoc.proofs.Apart.{changed_by_key}
use Rattle.port_assoc.proofs.Lists.{append-nothing, filter-left, filter-others, filter-stays, filter-turned, find-filter}

-- one ends
pub watches_ended :
    (xs : List Association) (old new : WatchLists) (key : AssocKey) (a : Association) → association_at xs key ≡ Some a → IsWatched xs old →
    ((o : Obj) → watchers_of new o ≡ (if is_watcher o a then without_first (has_key key) (watchers_of old o) else watchers_of old o)) →
    IsWatched (without_first (has_key key) xs) new
watches_ended xs old new key a found watched left o = left o ∙ go (is_watcher o a) refl
  where
    go :
        (b : Bool) → is_watcher o a ≡ b →
        (if b then without_first (has_key key) (watchers_of old o) else watchers_of old o) ≡ filter (is_watcher o) (without_first (has_key key) xs)
    go true e = ap (without_first (has_key key)) (watched o) ∙ sym (filter-left (is_watcher o) (has_key key) xs a found e)
    go false e = watched o ∙ sym (filter-stays (is_watcher o) (has_key key) xs a found e)

-- one is made

module _ (xs : List Association) (old new : WatchLists) (a : Association) where
  pub armed_made :
      a.armed ≡ true → IsWatched xs old →
      ((o : Obj) → watchers_of new o ≡ (if is_object o a.object then watchers_of old o ++ a ∷ [] else watchers_of old o)) →
      IsWatched (xs ++ a ∷ []) new
  armed_made armed watched made o = made o ∙ go (is_object o a.object) refl ∙ sym (filter-append (is_watcher o) xs (a ∷ []))
    where
      go :
          (b : Bool) → is_object o a.object ≡ b →
          (if b then watchers_of old o ++ a ∷ [] else watchers_of old o) ≡ filter (is_watcher o) xs ++ filter (is_watcher o) (a ∷ [])
      go true e =
          let one : is_watcher o a ≡ true = ap (λ b. b && is_object o a.object) armed ∙ e in
          ap (λ ys. ys ++ a ∷ []) (watched o) ∙ ap (λ b. filter (is_watcher o) xs ++ (if b then a ∷ [] else [])) (sym one)
      go false e =
          let none : is_watcher o a ≡ false = ap (λ b. b && is_object o a.object) armed ∙ e in
          watched o ∙ sym (append-nothing (filter (is_watcher o) xs)) ∙ ap (λ b. filter (is_watcher o) xs ++ (if b then a ∷ [] else [])) (sym none)

-- one fires

pub one_object : (o p : Obj) → is_object o p ≡ true → o ≡ p
one_object (obj.Door a) (obj.Door b) e = let h : a ≡ b = grind (arith, nat_tests) in ap (λ n. obj.Door n) h
one_object (obj.Port a) (obj.Port b) e = let h : a ≡ b = grind (arith, nat_tests) in ap (λ n. obj.Port n) h
one_object (obj.PipeIn a) (obj.PipeIn b) e = let h : a ≡ b = grind (arith, nat_tests) in ap (λ n. obj.PipeIn n) h
one_object (obj.PipeOut a) (obj.PipeOut b) e = let h : a ≡ b = grind (arith, nat_tests) in ap (λ n. obj.PipeOut n) h
one_object (obj.Door a) (obj.Port b) e = cc
one_object (obj.Door a) (obj.PipeIn b) e = cc
one_object (obj.Door a) (obj.PipeOut b) e = cc
one_object (obj.Port a) (obj.Door b) e = cc
one_object (obj.Port a) (obj.PipeIn b) e = cc
one_object (obj.Port a) (obj.PipeOut b) e = cc
one_object (obj.PipeIn a) (obj.Door b) e = cc
one_object (obj.PipeIn a) (obj.Port b) e = cc
one_object (obj.PipeIn a) (obj.PipeOut b) e = cc
one_object (obj.PipeOut a) (obj.Door b) e = cc
one_object (obj.PipeOut a) (obj.Port b) e = cc
one_object (obj.PipeOut a) (obj.PipeIn b) e = cc

watches_it : (object : Obj) (ready : PollSet) (x : Association) → is_fired_by object ready x ≡ true → is_object object x.object ≡ true
watches_it object ready x = go x.armed (is_object object x.object) (is_told ready x)
  where
    go : (a b c : Bool) → ((a && b) && c) ≡ true → b ≡ true
    go true true c h = refl
    go true false c h = h
    go false true c h = refl
    go false false c h = h

and_none : (b : Bool) → (b && false) ≡ false
and_none true = refl
and_none false = refl

-- the first that is told something
pub first_watched :
    (xs : List Association) (lists : WatchLists) (object : Obj) (ready : PollSet) → IsWatched xs lists →
    find (is_told ready) (watchers_of lists object) ≡ find (is_fired_by object ready) xs
first_watched xs lists object ready watched = ap (find (is_told ready)) (watched object) ∙ find-filter (is_watcher object) (is_told ready) xs

module _ (xs : List Association) (old new : WatchLists) (object : Obj) (ready : PollSet) (watched : IsWatched xs old) (told : (o : Obj) → watchers_of new o ≡ (if is_object o object then without_first (is_told ready) (watchers_of old o) else watchers_of old o)) where
  pub watched_fired : IsWatched (change_first (is_fired_by object ready) disarmed xs) new
  watched_fired o = told o ∙ go (is_object o object) refl
    where
      go :
          (b : Bool) → is_object o object ≡ b →
          (if b then without_first (is_told ready) (watchers_of old o) else watchers_of old o) ≡ filter (is_watcher o) (change_first (is_fired_by object ready) disarmed xs)
      go true e =
          ap (without_first (is_told ready)) (watched o) ∙ sym (filter-turned (is_watcher o) (is_told ready) disarmed (λ x. refl) xs)
          ∙ ap (λ p. filter (is_watcher o) (change_first (is_fired_by p ready) disarmed xs)) (one_object o object e)
      go false e =
          watched o
          ∙ sym (filter-others (is_watcher o) (is_fired_by object ready) disarmed (λ x h. other x (ap (is_object o) (sym (one_object object x.object (watches_it object ready x h))) ∙ e)) (λ x h. refl) xs)
        where
          other : (x : Association) → is_object o x.object ≡ false → is_watcher o x ≡ false
          other x h = ap (λ b. x.armed && b) h ∙ and_none x.armed

  pub watched_still : find (is_told ready) (watchers_of old object) ≡ None → IsWatched xs new
  watched_still none = rw (← change_first-none (is_fired_by object ready) disarmed xs (sym (first_watched xs old object ready watched) ∙ none)) watched_fired

  pub disarmed_first : (a : Association) → HaveDistinctKeys xs → find (is_told ready) (watchers_of old object) ≡ Some a → change_first (has_key a.key) disarmed xs ≡ change_first (is_fired_by object ready) disarmed xs
  disarmed_first a apart found = changed_by_key (is_fired_by object ready) disarmed xs a apart (sym (first_watched xs old object ready watched) ∙ found)
