-- The room that ports keep where each port of a list is sent to.
use Rattle.std.proofs.Common.{◌≡◌, ℕ, ◌+◌, ◌<◌, ◌≤◌, ◌==◌, Bool, true, false, List, Option, Some, None, IfSome, get_or, length, refl, take, ap, subst, arith}
use Rattle.std.proofs.lemmas.Bool.Decides.{nat_tests}
use Rattle.std.proofs.lemmas.List.{take_all}
use Rattle.std.proofs.lemmas.List.Sums.{count_by_more_no, count_by_more_yes}
use Rattle.dk_base.specs.ByNumber.{at_number}
use Rattle.event_port.specs.Words.{HasRoomAt, KeepsRoom, KeepsRoomAtOthers, KeepsRoomButNamed, KeepsRoomButOne, times_named}

room_for : (rooms : List ℕ) (q m n : ℕ) → m ≡ n → HasRoomAt rooms q m → HasRoomAt rooms q n
room_for rooms q m n e h = subst (HasRoomAt rooms q) e h

less_room : (rooms : List ℕ) (q n k : ℕ) → HasRoomAt rooms q (n + k) → HasRoomAt rooms q n
less_room rooms q n k h = go (at_number rooms q) h
  where
    go : (o : Option ℕ) → IfSome o (λ room. n + k ≤ room) → IfSome o (λ room. n ≤ room)
    go None h = h
    go (Some room) h = omega (arith, h)

-- none is named so far, one more is named, all are named

pub none_named : (ps rooms : List ℕ) → KeepsRoomButNamed (take 0 ps) rooms rooms
none_named ps rooms = λ q n h. less_room rooms q n (times_named q (take 0 ps)) h

pub one_more_named :
    (ps : List ℕ) (i d : ℕ) (old between new : List ℕ) → i < length ps → KeepsRoomButNamed (take i ps) old between →
    KeepsRoomButOne between new → KeepsRoomAtOthers (get_or ps i d) between new → KeepsRoomButNamed (take (i + 1) ps) old new
one_more_named ps i d old between new within so_far one others = λ q n h. go q n (get_or ps i d == q) refl h
  where
    go :
        (q n : ℕ) (b : Bool) → (get_or ps i d == q) ≡ b → HasRoomAt old q (n + times_named q (take (i + 1) ps)) →
        HasRoomAt new q n
    go q n true e h =
        let more = count_by_more_yes (λ p. p == q) ps i d within e in
        let counted : n + times_named q (take (i + 1) ps) ≡ n + 1 + times_named q (take i ps) = omega (arith, more) in
        one q n (so_far q (n + 1) (room_for old q (n + times_named q (take (i + 1) ps)) (n + 1 + times_named q (take i ps)) counted h))
    go q n false e h =
        let same = count_by_more_no (λ p. p == q) ps i d within e in
        let apart : q ≡ get_or ps i d → ⊥ = λ is. grind (arith, nat_tests) in
        others q n apart (so_far q n (room_for old q (n + times_named q (take (i + 1) ps)) (n + times_named q (take i ps)) (ap (λ k. n + k) same) h))

pub all_named : (ps old new : List ℕ) (i : ℕ) → length ps ≤ i → KeepsRoomButNamed (take i ps) old new → KeepsRoomButNamed ps old new
all_named ps old new i past h = subst (λ qs. KeepsRoomButNamed qs old new) (take_all i ps past) h

-- room that is taken before

pub named_after_room : (ps old between new : List ℕ) → KeepsRoom old between → KeepsRoomButNamed ps between new → KeepsRoomButNamed ps old new
named_after_room ps old between new f g = λ q n h. g q n (f q (n + times_named q ps) h)

pub named_not_sent : (ps old new : List ℕ) → KeepsRoom old new → KeepsRoomButNamed ps old new
named_not_sent ps old new f = λ q n h. f q n (less_room old q n (times_named q ps) h)
