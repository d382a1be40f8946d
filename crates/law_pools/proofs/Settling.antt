-- Settling by pools is settling by the records: the pools say which processes lost their last idle thread, and spares start for those
-- and for the one that got its first common door.
use Rattle.std.proofs.Common.{◌≡◌, ℕ, zero, suc, ◌+◌, ◌==◌, ◌&&◌, ◌||◌, Bool, true, false, not, if◌then◌else◌, nat_le, List, [], ◌∷◌, Option, None, Some, is_none, is_some, length, map, refl, sym, ap, ap₂, true≢false, ◌∙◌, arith}
use Rattle.std.specs.List.{fold, list_any}
use Rattle.std.proofs.lemmas.Bool.Decides.{nat_tests}
use Rattle.std.proofs.lemmas.List.Folds.{list_any-append}
use Rattle.dk_base.specs.declared.request.Param.TheVariants as param
use Rattle.dk_base.specs.declared.request.Request.TheVariants as request
use Rattle.spec_records.specs.Words.{end_owner, first_refusal, has_common_door, is_common_of, is_private, later_parked, new_door, revoke_door, revoked_door, set_param, with_owner_ended, with_param}
use Rattle.spec_kernel.specs.Types.{Attrs, Door, Errno, Param, Parked, Request}
use Rattle.spec_kernel.specs.Words.{ActResult, State, act, create, create_tests, door_at, enter, fail_returns, give, has_first_common_door, has_given_last, needs_spare, process_of, start_each, start_one, unless_refused}
use Rattle.spec_kernel.proofs.Doors.{map-change_door}
use Rattle.spec_kernel.proofs.Moves.{Moves, act_moves}
use Rattle.spec_records.proofs.Lists.{map-map_same}
use Rattle.spec_kernel.proofs.Settling.{fail_returns-alone, give-all}
use Rattle.server_pool.specs.Words.{pick_of}
use Rattle.law_pools.specs.Words.{first_common_of, is_this, makes_first_common}
use Rattle.law_pools.proofs.Swaps.{give_one-doors}

-- stacks

pub some_picked : (xs : List Parked) → is_some (pick_of xs) ≡ not (length xs == 0)
some_picked [] = refl
some_picked (x ∷ xs) = some_after x xs ∙ grind (arith, nat_tests)
  where
    some_after : (best : Parked) (xs : List Parked) → is_some (fold later_parked (Some best) xs) ≡ true
    some_after best [] = refl
    some_after best (x ∷ xs) = go (nat_le best.since x.since) (some_after x xs) (some_after best xs)
      where
        go :
            (b : Bool) → is_some (fold later_parked (Some x) xs) ≡ true → is_some (fold later_parked (Some best) xs) ≡ true →
            is_some (fold later_parked (if b then Some x else Some best) xs) ≡ true
        go true e f = e
        go false e f = f

-- where no thread is picked none is parked
pub none_picked : (xs : List Parked) → is_some (pick_of xs) ≡ false → xs ≡ []
none_picked [] e = refl
none_picked (x ∷ xs) e = absurd (true≢false (sym (some_picked (x ∷ xs) ∙ grind (arith, nat_tests)) ∙ e))

-- spares

-- a process needs a spare where it is one of the two
pub needs :
    (before m given : State) (first last : Option ℕ) → ((p : ℕ) → has_first_common_door before given p ≡ is_this p first) →
    ((p : ℕ) → has_given_last m given p ≡ is_this p last) → (p : ℕ) →
    needs_spare before m given p ≡ (is_this p first || is_this p last)
needs before m given first last f l p = ap₂ (λ b c. b || c) (f p) (l p)

starts_none :
    (before m given : State) → ((p : ℕ) → needs_spare before m given p ≡ false) → (n : ℕ) → start_each before m given n ≡ given
starts_none before m given h zero = refl
starts_none before m given h (suc n) =
    ap (start_one (start_each before m given n) (suc n)) (h (suc n)) ∙ starts_none before m given h n

-- the first common door of a process

has_common-same :
    (p : ℕ) (before after : List Door) → map (is_common_of p) after ≡ map (is_common_of p) before →
    has_common_door after p ≡ has_common_door before p
has_common-same p before after e = any-map after ∙ ap (list_any (λ b. b)) e ∙ sym (any-map before)
  where
    any-map : (doors : List Door) → list_any (is_common_of p) doors ≡ list_any (λ b. b) (map (is_common_of p) doors)
    any-map [] = refl
    any-map (d ∷ ds) = ap (λ b. is_common_of p d || b) (any-map ds)

-- a change that leaves a process as many common doors makes no first one
none_first :
    (m : State) (p : ℕ) (doors : List Door) → has_common_door doors p ≡ has_common_door m.doors p →
    not (has_common_door m.doors p) && has_common_door doors p ≡ false
none_first m p doors e = ap (λ b. not (has_common_door m.doors p) && b) e ∙ not_and (has_common_door m.doors p)
  where
    not_and : (b : Bool) → not b && b ≡ false
    not_and true = refl
    not_and false = refl

common-with_param : (p : ℕ) (x : Param) (value : ℕ) (d : Door) → is_common_of p (with_param x value d) ≡ is_common_of p d
common-with_param p param.DataMax value d = refl
common-with_param p param.DataMin value d = refl
common-with_param p param.DescMax value d = refl

common-with_owner_ended : (p q : ℕ) (d : Door) → is_common_of p (with_owner_ended q d) ≡ is_common_of p d
common-with_owner_ended p q d = go (d.owner.0 == q)
  where
    go : (b : Bool) → is_common_of p (if b then record d { owner_ended = true } else d) ≡ is_common_of p d
    go true = refl
    go false = refl

has_common-set_param :
    (m : State) (p d : ℕ) (x : Param) (value : ℕ) → has_common_door (set_param m.doors d x value) p ≡ has_common_door m.doors p
has_common-set_param m p d x value =
    has_common-same p m.doors (set_param m.doors d x value)
    (map-change_door (is_common_of p) m.doors d (with_param x value) (common-with_param p x value))

has_common-end_owner : (m : State) (p q : ℕ) → has_common_door (end_owner m.doors q) p ≡ has_common_door m.doors p
has_common-end_owner m p q =
    has_common-same p m.doors (end_owner m.doors q)
    (map-map_same (is_common_of p) (with_owner_ended q) (common-with_owner_ended p q) m.doors)

has_common-revoke : (m : State) (p d : ℕ) → has_common_door (revoke_door m.doors d) p ≡ has_common_door m.doors p
has_common-revoke m p d =
    has_common-same p m.doors (revoke_door m.doors d) (map-change_door (is_common_of p) m.doors d revoked_door (λ x. refl))

-- all acts but a create leave a process as many common doors

abbrev is_create : Option Request → Bool
is_create (Some (request.Create entry cookie attrs)) = true
is_create _ = false

has_common-move :
    (m : State) (t : ℕ) (q : Option Request) (a : ActResult) → Moves m t q a → is_create q ≡ false → (p : ℕ) →
    has_common_door a.state.doors p ≡ has_common_door m.doors p
has_common-move m t q a (Moves.makes entry cookie attrs f) e p = absurd (true≢false e)
has_common-move m t q a (Moves.parameter fd x value f) e p = has_common-set_param m p (door_at m (process_of m t) fd) x value
has_common-move m t q a (Moves.revokes fd f) e p = has_common-revoke m p (door_at m (process_of m t) fd)
has_common-move m t q a (Moves.ends r ended _) e p = has_common-end_owner m p ended
has_common-move m t q a _ e p = refl

none_by_act :
    (m : State) (t : ℕ) (q : Option Request) → is_create q ≡ false → (p : ℕ) →
    not (has_common_door m.doors p) && has_common_door (act m t q).state.doors p ≡ false
none_by_act m t q e p = none_first m p (act m t q).state.doors (has_common-move m t q (act m t q) (act_moves m t q) e p)

-- a new door of process q is the first common door of p where p is q, q had none (`there`), and the door is not private (`closed`)
first_of : (here there closed : Bool) (p q : ℕ) → (q ≡ p → there ≡ here) →
    not here && (here || ((q == p) && not closed || false)) ≡ is_this p (if not closed && not there then Some q else None)
first_of true true true p q e = refl
first_of true true false p q e = refl
first_of true false true p q e = refl
first_of true false false p q e = grind (arith, nat_tests)
first_of false there true p q e = grind (arith, nat_tests)
first_of false true false p q e = grind (arith, nat_tests)
first_of false false false p q e = grind (arith, nat_tests)

first_by_create :
    (m : State) (t p q entry cookie : ℕ) (attrs : Attrs) →
    not (has_common_door m.doors p) && has_common_door (enter m t q (request.Create entry cookie attrs)).state.doors p
    ≡ is_this p (if makes_first_common m q attrs then Some q else None)
first_by_create m t p q entry cookie attrs = go (first_refusal (create_tests m q attrs))
  where
    go :
        (o : Option Errno) →
        not (has_common_door m.doors p) && has_common_door (unless_refused m o (create m q entry cookie attrs)).state.doors p
        ≡ is_this p (if is_none o && (not (is_private attrs) && not (has_common_door m.doors q)) then Some q else None)
    go (Some e) = none_first m p m.doors refl
    go None =
        ap (λ b. not (has_common_door m.doors p) && b)
        (list_any-append (is_common_of p) m.doors (new_door (length m.doors + 1) q entry cookie attrs ∷ []))
        ∙ first_of (has_common_door m.doors p) (has_common_door m.doors q) (is_private attrs) p q (ap (has_common_door m.doors))

first_by_entry :
    (m : State) (t : ℕ) (r : Request) (p : ℕ) →
    not (has_common_door m.doors p) && has_common_door (act m t (Some r)).state.doors p ≡ is_this p (first_common_of m t r)
first_by_entry m t (request.Create entry cookie attrs) p = first_by_create m t p (process_of m t) entry cookie attrs
first_by_entry m t r p = none_by_act m t (Some r) refl p

-- notices that are made, threads that fail and items that are given leave doors as they are

pub doors-give : (m : State) → (give m).doors ≡ m.doors
doors-give m =
    give-all (λ given. given.doors ≡ m.doors) (λ given w x e f. give_one-doors given w.item x.thread.0 ∙ f) m refl

pub doors-fail_returns : (m : State) → (fail_returns m).doors ≡ m.doors
doors-fail_returns m = ap (λ (n : State). n.doors) (fail_returns-alone m)

-- so that an act made the first common door of a process is seen in the state after the giving

first_given :
    (m : State) (t : ℕ) (q : Option Request) (p : ℕ) →
    has_first_common_door m (give (act m t q).state) p
    ≡ (not (has_common_door m.doors p) && has_common_door (act m t q).state.doors p)
first_given m t q p = ap (λ doors. not (has_common_door m.doors p) && has_common_door doors p) (doors-give (act m t q).state)

pub first_common :
    (m : State) (t : ℕ) (r : Request) (p : ℕ) →
    has_first_common_door m (give (act m t (Some r)).state) p ≡ is_this p (first_common_of m t r)
first_common m t r p = first_given m t (Some r) p ∙ first_by_entry m t r p

-- the end of a wait makes no door
pub no_first_common : (m : State) (t p : ℕ) → has_first_common_door m (give (act m t None).state) p ≡ is_this p None
no_first_common m t p = first_given m t None p ∙ none_by_act m t None refl p
