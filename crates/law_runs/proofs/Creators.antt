-- A door comes only by a Create, of the process of its thread, and stays the same.
use Rattle.std.specs.Prelude.{ℕ, ◌≡◌, ◌+◌, ◌≤◌, List, Option, Some, None, zero, suc, length, slice_get, take}
use Rattle.std.proofs.Common.{refl, sym, ap, subst, ◌∙◌, add-one}
use native.Mathlib.Omega.{arith}
use Rattle.spec_kernel.specs.Types.{Door, Fd, Request}
use Rattle.dk_base.specs.declared.request.Request.TheVariants as request
use Rattle.dk_base.specs.declared.answer.Answer.TheVariants as answer
use Rattle.spec_kernel.specs.Words.{State, Turn, door_of, state_at}
use Rattle.spec_kernel.proofs.Runs.{process_of-state_after}
use Rattle.law_states.specs.Records.{door_at, door_of_call, owner_in, record_of}
use Rattle.law_states.specs.Events.{DoorArrow, IsCreated, IsSameDoor}
use Rattle.law_states.specs.Events.DoorArrow.{none, kept, created}
use Rattle.law_places.specs.Places.{IsKept, IsOf, answer_at}
use Rattle.law_runs.specs.Once.{Enters}
use Rattle.law_runs.specs.MadeByCreator.{IsCreate, MadeByCreator, WasMade}
use Rattle.law_places.proofs.Known.{Known, TurnAt, invariant_after, turn_at}
use Rattle.law_runs.proofs.Once.{accepts}
use Rattle.law_places.proofs.Invocations.{entered_by}
use Rattle.law_runs.proofs.Match.{Shows, shows}
use Rattle.law_places.proofs.DoorPlaces.{arrow_at, is_of, keeps_door, keeps_ever}
use Rattle.law_runs.proofs.Readers.{EnteredRowAt, table_at}
use Rattle.spec_records.specs.Words.{new_descriptors}

new_door :
    (m : State) (t : ℕ) (q : Option Request) (o p : Option Door) (x : Door) → DoorArrow m t q o p → o ≡ None → p ≡ Some x →
    IsCreated m t q x
new_door m t q o p x none e f = absurd (cc)
new_door m t q o p x (kept d y s) e f = absurd (cc)
new_door m t q o p x (created d h) e f =
    let same : d ≡ x = cc in
    subst (IsCreated m t q) same h

same_door : (o : Option Door) (d x : Door) → o ≡ Some d → o ≡ Some x → d ≡ x
same_door o d x e f = cc

same_request : (d e : Door) → IsSameDoor d e → request.Create d.entry d.cookie d.attrs ≡ request.Create e.entry e.cookie e.attrs
same_request d e s = cc (s.entry, s.cookie, s.attrs)

create_same :
    (m : State) (xs : List Turn) (i d : ℕ) (x : Turn) (y z : Door) → IsSameDoor y z → IsCreate m xs i d x y → IsCreate m xs i d x z
create_same m xs i d x y z s c =
    record {
      created =
          record {
            request = c.created.request ∙ ap (λ (r : Request). Some r) (same_request y z s);
            owner = ap (λ p. p.0) s.owner ∙ c.created.owner;
          };
      number = s.number ∙ c.number;
    }

module _ (m : State) (xs : List Turn) (k : Known m xs) where
  pub made :
      (i d : ℕ) (x : Turn) (door : Door) → slice_get xs i ≡ Some x → door_of (state_at m xs i) d ≡ None →
      door_of (state_at m xs (i + 1)) d ≡ Some door → IsCreate m xs i d x door
  made i d x door e b a =
      record {
        created = new_door (state_at m xs i) x.thread x.request _ _ door (arrow_at m xs k i d x e) b a;
        number = (invariant_after m xs k i x e).consistent.coherent.doors.door_number d door a;
      }

  made_later : (i d : ℕ) (y z : Door) → IsSameDoor y z → WasMade m xs i d y → WasMade m xs (i + 1) d z
  made_later i d y z s w =
      record {
        at = w.at;
        turn = w.turn;
        earlier = omega (arith, w.earlier);
        found = w.found;
        create = create_same m xs w.at d w.turn y z s w.create;
        none_before = w.none_before;
        there_after = w.there_after;
      }

  was_made : (i d : ℕ) (door : Door) → i ≤ length xs → door_of (state_at m xs i) d ≡ Some door → WasMade m xs i d door
  was_made zero d door l e = absurd (cc (k.no_door d))
  was_made (suc i) d door l e =
      subst (λ j. WasMade m xs j d door) (add-one i)
      (go (door_of (state_at m xs i) d) refl (λ y f. was_made i d y (omega arith) f) (turn_at xs i (omega arith)))
    where
      after : door_of (state_at m xs (i + 1)) d ≡ Some door
      after = ap (λ j. door_of (state_at m xs j) d) (add-one i) ∙ e

      before : (y : Door) → IsKept y (door_of (state_at m xs (i + 1)) d) → WasMade m xs i d y → WasMade m xs (i + 1) d door
      before y h w =
          made_later i d y door (subst (λ (z : Door). IsSameDoor y z) (same_door _ h.door door h.there after) h.same) w

      go :
          (o : Option Door) → door_of (state_at m xs i) d ≡ o →
          ((y : Door) → door_of (state_at m xs i) d ≡ Some y → WasMade m xs i d y) → TurnAt xs i → WasMade m xs (i + 1) d door
      go None f h t =
          record { at = i; turn = t.turn; earlier = omega arith; found = t.found; create = made i d t.turn door t.found f after; none_before = f; there_after = record { made = door; there = after } }
      go (Some y) f h t = before y (keeps_door m xs k i d y t.turn t.found f) (h y f)

  entered_there :
      (i c entry cookie : ℕ) (x : Turn) (bytes : List ℕ) (fds : List Fd) → slice_get xs i ≡ Some x →
      answer_at m xs i x ≡ answer.Entered c entry cookie bytes fds → IsOf (door_of_call (state_at m xs i) c) entry cookie
  entered_there i c entry cookie x bytes fds e f = go (accepts m xs k i c entry cookie x bytes fds e f)
    where
      by :
          Enters m xs i x c →
          (w : EnteredRowAt m xs i x (record_of (state_at m xs i) c) (record_of (state_at m xs (i + 1)) c)) →
          Shows entry cookie bytes fds (new_descriptors (table_at m xs i x) w.call.objects) (door_of (state_at m xs i) w.call.door) w.call → IsOf (door_of_call (state_at m xs i) c) entry cookie
      by n w s =
          subst (λ o. IsOf o entry cookie) (sym (ap (door_at (state_at m xs i)) w.before))
          (is_of _ entry cookie _ (sym (ap (λ o. owner_in (door_at (state_at m xs i) o)) w.before) ∙ n.of_the_owner) s.same_entry s.same_cookie)

      row :
          Enters m xs i x c →
          EnteredRowAt m xs i x (record_of (state_at m xs i) c) (record_of (state_at m xs (i + 1)) c) →
          IsOf (door_of_call (state_at m xs i) c) entry cookie
      row n w = by n w (shows c entry cookie bytes fds _ _ w.call (answer_at m xs i x) f w.answers)

      go : Enters m xs i x c → IsOf (door_of_call (state_at m xs i) c) entry cookie
      go n = row n (entered_by m xs k i c x e n.entered)

  pub made_by_creator : MadeByCreator m xs
  made_by_creator =
      record {
        none_at_first = k.no_door;
        made = made;
        was_made = was_made;
        kept = keeps_ever m xs k;
        same_process = λ i t. process_of-state_after m (take i xs) t;
        entered_there = entered_there;
      }
