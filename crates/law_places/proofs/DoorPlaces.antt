-- A door stays the same at all later places.
use Rattle.std.specs.Prelude.{ℕ, ◌≡◌, ◌+◌, ◌≤◌, List, Option, Some, None, length, slice_get}
use Rattle.std.proofs.Common.{refl, sym, subst, ◌∙◌}
use Rattle.spec_kernel.specs.Types.{Door, Request}
use Rattle.spec_records.specs.Words.{cookie_of, entry_of}
use Rattle.spec_kernel.specs.Words.{State, Turn, door_of, state_at}
use Rattle.law_states.specs.Records.{owner_in}
use Rattle.law_states.specs.Events.{DoorArrow, IsSameDoor}
use Rattle.law_states.specs.Events.DoorArrow.{none, kept, created}
use Rattle.law_places.specs.Places.{IsKept, IsOf}
use Rattle.law_places.proofs.Known.{Known, next, stays}

pub is_of : (o : Option Door) (entry cookie p : ℕ) → owner_in o ≡ Some p → entry ≡ entry_of o → cookie ≡ cookie_of o → IsOf o entry cookie
is_of None entry cookie p e f g = absurd (cc)
is_of (Some d) entry cookie p e f g = record { door = d; there = refl; same_entry = f; same_cookie = g }

old_door :
    (m : State) (t : ℕ) (q : Option Request) (o p : Option Door) (x : Door) → DoorArrow m t q o p → o ≡ Some x → IsKept x p
old_door m t q o p x none e = absurd (cc)
old_door m t q o p x (kept d y s) e =
    let same : d ≡ x = cc in
    record { door = y; there = refl; same = subst (λ (z : Door). IsSameDoor z y) same s }
old_door m t q o p x (created d h) e = absurd (cc)

same_itself : (d : Door) → IsSameDoor d d
same_itself d = record { number = refl; owner = refl; entry = refl; cookie = refl; attrs = refl }

kept_here : (d : Door) (o : Option Door) → o ≡ Some d → IsKept d o
kept_here d o e = record { door = d; there = e; same = same_itself d }

kept_then : (d : Door) (o p : Option Door) → IsKept d o → ((y : Door) → o ≡ Some y → IsKept y p) → IsKept d p
kept_then d o p h f = go (f h.door h.there)
  where
    go : IsKept h.door p → IsKept d p
    go g =
        record {
          door = g.door;
          there = g.there;
          same =
              record {
                number = g.same.number ∙ h.same.number;
                owner = g.same.owner ∙ h.same.owner;
                entry = g.same.entry ∙ h.same.entry;
                cookie = g.same.cookie ∙ h.same.cookie;
                attrs = g.same.attrs ∙ h.same.attrs;
              };
        }

module _ (m : State) (xs : List Turn) (k : Known m xs) where
  pub arrow_at :
      (i d : ℕ) (x : Turn) → slice_get xs i ≡ Some x →
      DoorArrow (state_at m xs i) x.thread x.request (door_of (state_at m xs i) d) (door_of (state_at m xs (i + 1)) d)
  arrow_at i d x e =
      subst (λ n. DoorArrow (state_at m xs i) x.thread x.request (door_of (state_at m xs i) d) (door_of n d)) (sym (next m xs k i x e))
      ((k.keeps i x e).doors d)

  pub keeps_door :
      (i d : ℕ) (door : Door) (x : Turn) → slice_get xs i ≡ Some x → door_of (state_at m xs i) d ≡ Some door →
      IsKept door (door_of (state_at m xs (i + 1)) d)
  keeps_door i d door x f e = old_door (state_at m xs i) x.thread x.request _ _ door (arrow_at i d x f) e

  pub keeps_ever :
      (i j d : ℕ) (door : Door) → i ≤ j → j ≤ length xs → door_of (state_at m xs i) d ≡ Some door →
      IsKept door (door_of (state_at m xs j) d)
  keeps_ever i j d door l b e =
      stays m xs (λ n. IsKept door (door_of n d)) i (λ a x h f g. kept_then door _ _ g (λ y q. keeps_door a d y x f q)) j l b
      (kept_here door _ e)
