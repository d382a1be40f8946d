-- How many are armed, and the room of ports, as one fires.
use Rattle.std.proofs.Common.{◌≡◌, ℕ, suc, ◌+◌, ◌≤◌, ◌==◌, ◌&&◌, Bool, true, false, cond, if◌then◌else◌, List, [], ◌∷◌, ◌++◌, Option, None, Some, IfSome, filter, find, length, option_map, refl, sym, subst, ap, ◌∙◌, arith}
use Rattle.std.proofs.lemmas.Bool.Decides.{nat_tests}
use Rattle.std.proofs.lemmas.List.Sums.{sum_by-cons}
use Rattle.dk_base.specs.ByNumber.{at_number}
use Rattle.dk_base.specs.declared.object.Obj.{Obj}
use Rattle.dk_base.specs.declared.set.PollSet.{PollSet}
use Rattle.spec_records.specs.declared.association.Association.{Association}
use Rattle.spec_records.specs.declared.association.Fired.{Fired}
use Rattle.spec_records.specs.Words.{armed_at, change_first, disarmed, fired_of, first_fired, is_armed_at, is_fired_by, is_object, is_told, is_user_event}
use Rattle.spec_records.proofs.NumberedLists.{find-passes}
use Rattle.spec_records.proofs.Places.{change_first-none}
use Rattle.event_port.specs.Words.{HasRoomAt, KeepsRoom, KeepsRoomAtOthers, KeepsRoomButOne}
use Rattle.kernel_ports.specs.Firing.{HasRoomForArmed, KeepsRoomBeside}

abbrev once : Bool → ℕ
once b = if b then 1 else 0

abbrev is_armed : Association → Bool
is_armed a = a.armed

abbrev pub armed_in : List Association → ℕ
armed_in xs = length (filter is_armed xs)

fired_armed : (object : Obj) (ready : PollSet) (a : Association) → is_fired_by object ready a ≡ true → a.armed ≡ true
fired_armed object ready a = go a.armed (is_object object a.object) (is_told ready a)
  where
    go : (x y z : Bool) → ((x && y) && z) ≡ true → x ≡ true
    go true y z e = refl
    go false y z e = e

counted : (q : ℕ) (x : Association) (xs : List Association) → armed_at (x ∷ xs) q ≡ once (is_armed_at q x) + armed_at xs q
counted q x xs = sum_by-cons (λ y. cond (is_armed_at q y) 1 0) x xs

module _ (test : Association → Bool) where
  armed_fewer :
      (xs : List Association) (a : Association) → find test xs ≡ Some a → a.armed ≡ true → armed_in (change_first test disarmed xs) + 1 ≡ armed_in xs
  armed_fewer [] a h armed = cc
  armed_fewer (x ∷ xs) a h armed = go (test x) h (λ f. armed_fewer xs a f armed)
    where
      go :
          (b : Bool) → (if b then Some x else find test xs) ≡ Some a → (find test xs ≡ Some a → armed_in (change_first test disarmed xs) + 1 ≡ armed_in xs) →
          armed_in (if b then disarmed x ∷ xs else x ∷ change_first test disarmed xs) + 1 ≡ armed_in (x ∷ xs)
      go true h ih =
          let same : x ≡ a = cc in
          let one : armed_in xs + 1 ≡ suc (armed_in xs) = omega arith in
          one ∙ ap (λ c. length (if c then x ∷ filter is_armed xs else filter is_armed xs)) (sym (ap is_armed same ∙ armed))
      go false h ih = rest x.armed (ih h)
        where
          rest :
              (c : Bool) → armed_in (change_first test disarmed xs) + 1 ≡ armed_in xs →
              length (if c then x ∷ filter is_armed (change_first test disarmed xs) else filter is_armed (change_first test disarmed xs)) + 1
              ≡ length (if c then x ∷ filter is_armed xs else filter is_armed xs)
          rest true e = omega (arith, e)
          rest false e = e

  armed_less :
      (q : ℕ) (xs : List Association) (a : Association) → find test xs ≡ Some a → a.armed ≡ true →
      armed_at xs q ≡ once (a.key.port == q) + armed_at (change_first test disarmed xs) q
  armed_less q [] a h armed = cc
  armed_less q (x ∷ xs) a h armed = go (test x) h (λ f. armed_less q xs a f armed)
    where
      go :
          (b : Bool) → (if b then Some x else find test xs) ≡ Some a →
          (find test xs ≡ Some a → armed_at xs q ≡ once (a.key.port == q) + armed_at (change_first test disarmed xs) q) →
          armed_at (x ∷ xs) q ≡ once (a.key.port == q) + armed_at (if b then disarmed x ∷ xs else x ∷ change_first test disarmed xs) q
      go true h ih =
          let same : x ≡ a = cc in
          let more = counted q x xs in
          let none = counted q (disarmed x) xs in
          let is : once (is_armed_at q x) ≡ once (a.key.port == q) =
          ap (λ y. once (is_armed_at q y)) same ∙ ap (λ b. once (b && (a.key.port == q))) armed in omega (arith, more, none, is)
      go false h ih =
          let e = ih h in
          let more = counted q x xs in
          let other = counted q x (change_first test disarmed xs) in omega (arith, e, more, other)

room_for : (rooms : List ℕ) (q m n : ℕ) → n ≤ m → HasRoomAt rooms q m → HasRoomAt rooms q n
room_for rooms q m n le h = go (at_number rooms q) h
  where
    go : (o : Option ℕ) → IfSome o (λ room. m ≤ room) → IfSome o (λ room. n ≤ room)
    go None h = h
    go (Some room) h = omega (arith, h, le)

-- what fired

pub fired_from : (object : Obj) (ready : PollSet) (xs : List Association) (f : Fired) → Some f ≡ first_fired object ready xs →
    (a : Association) × (find (is_fired_by object ready) xs ≡ Some a) × (f ≡ fired_of ready a)
fired_from object ready xs f h = go (find (is_fired_by object ready) xs) refl h
  where
    go :
        (o : Option Association) → find (is_fired_by object ready) xs ≡ o → Some f ≡ option_map (fired_of ready) o →
        (a : Association) × (find (is_fired_by object ready) xs ≡ Some a) × (f ≡ fired_of ready a)
    go None e h = cc
    go (Some a) e h = let same : f ≡ fired_of ready a = cc in (a, e, same)

pub no_user_event : (object : Obj) (ready : PollSet) (xs : List Association) (f : Fired) → Some f ≡ first_fired object ready xs → is_user_event f.queued ≡ false
no_user_event object ready xs f h = ap (λ (g : Fired). is_user_event g.queued) (fired_from object ready xs f h).2

module _ (object : Obj) (ready : PollSet) (xs : List Association) (a : Association) (found : find (is_fired_by object ready) xs ≡ Some a) where
  abbrev left : List Association
  left = change_first (is_fired_by object ready) disarmed xs

  armed : a.armed ≡ true
  armed = fired_armed object ready a (find-passes (is_fired_by object ready) xs a found)

  pub fewer_armed : armed_in left + 1 ≡ armed_in xs
  fewer_armed = armed_fewer (is_fired_by object ready) xs a found armed

  one_there : (p : ℕ) → p ≡ a.key.port → armed_at xs p ≡ 1 + armed_at left p
  one_there p is = armed_less (is_fired_by object ready) p xs a found armed ∙ ap (λ b. once b + armed_at left p) here
    where
      here : (a.key.port == p) ≡ true
      here = grind (arith, nat_tests)

  pub room_to_post : (rooms : List ℕ) (p : ℕ) → p ≡ a.key.port → HasRoomForArmed xs rooms → HasRoomAt rooms p 1
  room_to_post rooms p is h = let one = one_there p is in room_for rooms p (armed_at xs p) 1 (omega (arith, one)) (h p)

  pub room_beside :
      (p : ℕ) (old new : List ℕ) → p ≡ a.key.port → KeepsRoomButOne old new → KeepsRoomAtOthers p old new → KeepsRoomBeside xs left old new
  room_beside p old new is one others = λ q n h. go q n (a.key.port == q) refl h
    where
      go : (q n : ℕ) (b : Bool) → (a.key.port == q) ≡ b → HasRoomAt old q (n + armed_at xs q) → HasRoomAt new q (n + armed_at left q)
      go q n true e h =
          let here : q ≡ a.key.port = grind (arith, nat_tests) in
          let there = one_there q here in
          let enough : n + armed_at left q + 1 ≤ n + armed_at xs q = omega (arith, there) in
          one q (n + armed_at left q) (room_for old q (n + armed_at xs q) (n + armed_at left q + 1) enough h)
      go q n false e h =
          let there = armed_less (is_fired_by object ready) q xs a found armed ∙ ap (λ b. once b + armed_at left q) e in
          let apart : q ≡ p → ⊥ = λ same. grind (arith, nat_tests) in
          let enough : n + armed_at left q ≤ n + armed_at xs q = omega (arith, there) in
          others q (n + armed_at left q) apart (room_for old q (n + armed_at xs q) (n + armed_at left q) enough h)

-- none fired
pub still_beside :
    (object : Obj) (ready : PollSet) (xs : List Association) (rooms : List ℕ) → None ≡ first_fired object ready xs →
    KeepsRoomBeside xs (change_first (is_fired_by object ready) disarmed xs) rooms rooms
still_beside object ready xs rooms h = λ q n room. subst (λ ys. HasRoomAt rooms q (n + armed_at ys q)) (sym same) room
  where
    none : (o : Option Association) → None ≡ option_map (fired_of ready) o → o ≡ None
    none None e = refl
    none (Some a) e = cc

    same : change_first (is_fired_by object ready) disarmed xs ≡ xs
    same = change_first-none (is_fired_by object ready) disarmed xs (none (find (is_fired_by object ready) xs) h)

pub room_beside_all : (xs ys : List Association) (old new : List ℕ) → KeepsRoomBeside xs ys old new → HasRoomForArmed xs old → HasRoomForArmed ys new
room_beside_all xs ys old new keeps h = λ q. room_for new q (0 + armed_at ys q) (armed_at ys q) (omega arith) (keeps q 0 (room_for old q (armed_at xs q) (0 + armed_at xs q) (omega arith) (h q)))

-- another is armed

module _ (keep : Association → Bool) (a : Association) (q : ℕ) where
  armed_made : (xs : List Association) → armed_at (filter keep xs ++ a ∷ []) q ≤ armed_at xs q + once (a.key.port == q)
  armed_made [] = let one = counted q a [] in go a.armed one
    where
      go : (b : Bool) → armed_at (a ∷ []) q ≡ once (b && (a.key.port == q)) + 0 → armed_at (a ∷ []) q ≤ 0 + once (a.key.port == q)
      go true e = omega (arith, e)
      go false e = omega (arith, e)
  armed_made (x ∷ xs) = go (keep x) (armed_made xs)
    where
      go :
          (b : Bool) → armed_at (filter keep xs ++ a ∷ []) q ≤ armed_at xs q + once (a.key.port == q) →
          armed_at ((if b then x ∷ filter keep xs else filter keep xs) ++ a ∷ []) q ≤ armed_at (x ∷ xs) q + once (a.key.port == q)
      go true ih = let more = counted q x xs in let other = counted q x (filter keep xs ++ a ∷ []) in omega (arith, ih, more, other)
      go false ih = let more = counted q x xs in omega (arith, ih, more)

pub room_made :
    (keep : Association → Bool) (xs : List Association) (a : Association) (p : ℕ) (old new : List ℕ) → a.key.port ≡ p → KeepsRoom old new →
    HasRoomAt new p (armed_at xs p + 1) → HasRoomForArmed xs old → HasRoomForArmed (filter keep xs ++ a ∷ []) new
room_made keep xs a p old new is keeps one h = λ q. go q (a.key.port == q) refl
  where
    go : (q : ℕ) (b : Bool) → (a.key.port == q) ≡ b → HasRoomAt new q (armed_at (filter keep xs ++ a ∷ []) q)
    go q true e =
        let here : p ≡ q = grind (arith, nat_tests) in
        let few = armed_made keep a q xs in
        let at = ap once e in
        room_for new q (armed_at xs q + 1) (armed_at (filter keep xs ++ a ∷ []) q) (omega (arith, few, at)) (subst (λ k. HasRoomAt new k (armed_at xs k + 1)) here one)
    go q false e =
        let few = armed_made keep a q xs in
        let at = ap once e in
        room_for new q (armed_at xs q) (armed_at (filter keep xs ++ a ∷ []) q) (omega (arith, few, at)) (keeps q (armed_at xs q) (h q))
