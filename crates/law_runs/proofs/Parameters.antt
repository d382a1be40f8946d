-- What a parameter of a door is before and after an event.
use Rattle.std.specs.Prelude.{ℕ, ◌≡◌, ◌+◌, ◌==◌, ◌⊎◌, ◌∷◌, [], List, Option, Bool, true, false, if◌then◌else◌, Some, None, is_some, slice_get}
use Rattle.std.specs.Option.{option_map}
use Rattle.std.proofs.Common.{refl, sym, ap, subst, ◌∙◌, inl, inr}
use native.Mathlib.Omega.{arith}
use Rattle.std.proofs.lemmas.Bool.Decides.{nat_tests}
use Rattle.spec_kernel.specs.Types.{Attrs, Door, Fd, Param, Request}
use Rattle.dk_base.specs.declared.request.Param.TheVariants as param
use Rattle.dk_base.specs.declared.request.Request.TheVariants as request
use Rattle.dk_base.specs.declared.answer.Answer.TheVariants as answer
use Rattle.dk_base.specs.ByNumber.{at_number}
use Rattle.spec_records.specs.Words.{change_door, first_refusal, is_valid_in, new_door, revoked_door, set_param, set_param_tests, with_owner_ended, with_param}
use Rattle.spec_records.proofs.Lists.{at_number-map, numbered_front}
use Rattle.spec_kernel.specs.Words.{ActResult, State, Turn, act, door_at, door_of, effect, state_at, unless_refused}
use Rattle.spec_kernel.proofs.Doors.{at_number-change_door}
use Rattle.spec_kernel.proofs.Moves.{IsFree, Moves, act_moves}
use Rattle.law_places.specs.Places.{answer_at, process_at}
use Rattle.law_runs.specs.Parameters.{IsSet, ParameterChange, Parameters, Sets, first_value, value_in}
use Rattle.law_places.proofs.Known.{Known, next}
use Rattle.law_runs.proofs.InvalidDoors.{names_it, new_is}
use Rattle.law_runs.proofs.RowChanges.{answers, doors-step}
use Rattle.law_runs.proofs.Tables.{not_refused}

-- what a change of doors makes of the value of a parameter

-- a change of one door that leaves it
changed :
    (y : Param) (ds : List Door) (e d : ℕ) (change : Door → Door) → ((z : Door) → value_in y (Some (change z)) ≡ value_in y (Some z)) →
    value_in y (at_number (change_door ds e change) d) ≡ value_in y (at_number ds d)
changed y ds e d change same = ap (value_in y) (at_number-change_door ds e d change) ∙ go (d == e) refl
  where
    mapped : (o : Option Door) → value_in y (option_map change o) ≡ value_in y o
    mapped None = refl
    mapped (Some z) = same z

    go : (b : Bool) → (d == e) ≡ b → value_in y (if b then option_map change (at_number ds e) else at_number ds d) ≡ value_in y (at_number ds d)
    go false f = refl
    go true f = let here : e ≡ d = grind (arith, nat_tests) in mapped (at_number ds e) ∙ ap (λ n. value_in y (at_number ds n)) here

-- one of the same parameter
set_here :
    (y : Param) (ds : List Door) (d value : ℕ) → is_some (at_number ds d) ≡ true →
    value_in y (at_number (set_param ds d y value) d) ≡ value
set_here y ds d value v =
    let here : (d == d) ≡ true = grind (arith, nat_tests) in
    ap (value_in y) (at_number-change_door ds d d (with_param y value))
    ∙ ap (λ (b : Bool). value_in y (if b then option_map (with_param y value) (at_number ds d) else at_number ds d)) here
    ∙ there y (at_number ds d) v
  where
    there : (p : Param) (o : Option Door) → is_some o ≡ true → value_in p (option_map (with_param p value) o) ≡ value
    there p None w = absurd (cc w)
    there param.DataMax (Some z) w = refl
    there param.DataMin (Some z) w = refl
    there param.DescMax (Some z) w = refl

set_valid : (p : ℕ) (o : Option Door) (y : Param) (value : ℕ) → first_refusal (set_param_tests p o y value) ≡ None → is_valid_in o ≡ true
set_valid p o y value f = grind arith

-- a door that is made
new_first :
    (y : Param) (z : Door) (number p entry cookie : ℕ) (attrs : Attrs) → z ≡ new_door number p entry cookie attrs →
    value_in y (Some z) ≡ first_value y z
new_first y z number p entry cookie attrs e = subst (λ w. value_in y (Some w) ≡ first_value y w) (sym e) (go y)
  where
    go : (y : Param) → value_in y (Some (new_door number p entry cookie attrs)) ≡ first_value y (new_door number p entry cookie attrs)
    go param.DataMax = refl
    go param.DataMin = refl
    go param.DescMax = refl

-- of the same parameter or of another
same_or_other : (y z : Param) (value : ℕ) → (y ≡ z) ⊎ ((d : Door) → value_in y (Some (with_param z value d)) ≡ value_in y (Some d))
same_or_other param.DataMax param.DataMax value = inl refl
same_or_other param.DataMin param.DataMin value = inl refl
same_or_other param.DescMax param.DescMax value = inl refl
same_or_other y z value = inr (λ d. refl)

revoked_same : (y : Param) (z : Door) → value_in y (Some (revoked_door z)) ≡ value_in y (Some z)
revoked_same param.DataMax z = refl
revoked_same param.DataMin z = refl
revoked_same param.DescMax z = refl

ended_same : (y : Param) (p : ℕ) (z : Door) → value_in y (Some (with_owner_ended p z)) ≡ value_in y (Some z)
ended_same y p z = go y (z.owner.0 == p)
  where
    go : (y : Param) (b : Bool) → value_in y (Some (if b then record z { owner_ended = true } else z)) ≡ value_in y (Some z)
    go y false = refl
    go param.DataMax true = refl
    go param.DataMin true = refl
    go param.DescMax true = refl

module _ (m : State) (xs : List Turn) (k : Known m xs) (i : ℕ) (x : Turn) (e : slice_get xs i ≡ Some x) where
  abbrev was : State
  was = state_at m xs i

  abbrev own : ℕ
  own = process_at m xs i x.thread

  sets :
      (fd : Fd) (y : Param) (value : ℕ) → IsFree was x.thread (request.SetParam fd y value) →
      x.request ≡ Some (request.SetParam fd y value) → Sets m xs i x (door_at was own fd) y value
  sets fd y value f g = record { fd = fd; asked = g; named = names_it was own _ fd refl (set_valid own _ y value f) }

  module _ (d : ℕ) (y : Param) (door : Door) (l : door_of was d ≡ Some door) where
    abbrev Moved : List Door → Type 0
    Moved ds = ParameterChange m xs i x d y (value_in y (door_of was d)) (value_in y (at_number ds d))

    kept : (ds : List Door) → value_in y (at_number ds d) ≡ value_in y (door_of was d) → Moved ds
    kept ds f = subst (λ v. ParameterChange m xs i x d y (value_in y (door_of was d)) v) (sym f) ParameterChange.stays

    act_sets : (q : Option Request) (a : ActResult) → Moves was x.thread q a → x.request ≡ q → answer_at m xs i x ≡ a.answer → Moved a.state.doors
    act_sets q a (Moves.parameter fd z value f) g h = go (same_or_other y z value) (d == door_at was own fd) refl
      where
        go :
            (y ≡ z) ⊎ ((w : Door) → value_in y (Some (with_param z value w)) ≡ value_in y (Some w)) → (b : Bool) →
            (d == door_at was own fd) ≡ b → Moved (set_param was.doors (door_at was own fd) z value)
        go (inr same) b c = kept _ (changed y was.doors (door_at was own fd) d (with_param z value) same)
        go (inl same) false c =
            kept _
            (ap (value_in y)
            (at_number-change_door was.doors (door_at was own fd) d (with_param z value)
            ∙ ap (λ (b : Bool). if b then option_map (with_param z value) (at_number was.doors (door_at was own fd)) else at_number was.doors d) c))
        go (inl same) true c =
            let here : door_at was own fd ≡ d = grind (arith, nat_tests) in
            subst (λ (p : Param). Moved (set_param was.doors (door_at was own fd) p value)) same
            (subst (λ n. Moved (set_param was.doors n y value)) (sym here)
            (subst (λ v. ParameterChange m xs i x d y (value_in y (door_of was d)) v) (sym (set_here y was.doors d value (ap is_some l)))
            (ParameterChange.sets _ value
            (subst (λ n. Sets m xs i x n y value) here
            (subst (λ (p : Param). Sets m xs i x (door_at was own fd) p value) (sym same) (sets fd z value f g)))
            h)))
    act_sets q a (Moves.makes entry cookie attrs f) g h = kept _ (ap (value_in y) (numbered_front was.doors (_ ∷ []) d door l ∙ sym l))
    act_sets q a (Moves.revokes fd f) g h = kept _ (changed y was.doors (door_at was own fd) d revoked_door (revoked_same y))
    act_sets q a (Moves.ends r p _) g h =
        kept _
        (ap (value_in y) (at_number-map (with_owner_ended p) was.doors d ∙ ap (option_map (with_owner_ended p)) l)
        ∙ ended_same y p door
        ∙ ap (value_in y) (sym l))
    act_sets q a _ g h = ParameterChange.stays

    each : ParameterChange m xs i x d y (value_in y (Some door)) (value_in y (door_of (state_at m xs (i + 1)) d))
    each =
        subst (λ o. ParameterChange m xs i x d y (value_in y o) (value_in y (door_of (state_at m xs (i + 1)) d))) l
        (subst Moved
        (sym (ap (λ (n : State). n.doors) (next m xs k i x e) ∙ doors-step was x.thread x.request))
        (act_sets x.request _ (act_moves was x.thread x.request) refl (answers was x.thread x.request)))

  set : (fd : Fd) (y : Param) (value : ℕ) → x.request ≡ Some (request.SetParam fd y value) → answer_at m xs i x ≡ answer.Done → IsSet m xs i x y value
  set fd y value f g =
      record {
        door = _;
        sets = sets fd y value free f;
        has =
            ap (λ ds. value_in y (at_number ds (door_at was own fd)))
            (ap (λ (n : State). n.doors) (next m xs k i x e)
            ∙ doors-step was x.thread x.request
            ∙ ap (λ q. (act was x.thread q).state.doors) f
            ∙ ap (λ o. (unless_refused was o (effect was x.thread own (request.SetParam fd y value))).state.doors) free)
            ∙ set_here y was.doors (door_at was own fd) value (is_there _ (set_valid own _ y value free));
      }
    where
      free : IsFree was x.thread (request.SetParam fd y value)
      free = not_refused was x.thread x.request (request.SetParam fd y value) answer.Done f g (λ z h. cc)

      is_there : (o : Option Door) → is_valid_in o ≡ true → is_some o ≡ true
      is_there o h = grind arith

pub parameters_hold : (m : State) (xs : List Turn) → Known m xs → Parameters m xs
parameters_hold m xs k =
    record {
      first = λ i d x y door e b a. new_first y door _ _ door.entry door.cookie door.attrs (new_is m xs k i d x door e b a);
      each = λ i d x y door e l. each m xs k i x e d y door l;
      set = λ i x fd y value e. set m xs k i x e fd y value;
    }
