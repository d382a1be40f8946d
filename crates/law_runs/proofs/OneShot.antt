-- Associations of every run: from what holds of them between two events.
use Rattle.std.specs.Prelude.{ℕ, ◌≡◌, ◌+◌, ◌≤◌, ◌==◌, ◌&&◌, List, [], ◌∷◌, Option, Bool, true, false, if◌then◌else◌, not, Some, None, bit_and, bit_or, count_by, All}
use Rattle.std.proofs.Common.{cond, refl, sym, ap, ap₂, subst, ◌∙◌}
use native.Mathlib.Omega.{arith}
use Rattle.std.proofs.lemmas.Bool.Decides.{nat_tests}
use Rattle.std.proofs.lemmas.List.Elements.{All-head, All-tail}
use Rattle.std.proofs.lemmas.List.Recursion.{is_count_by}
use Rattle.dk_base.specs.declared.object.Obj.TheVariants as obj
use Rattle.spec_records.specs.declared.association.Association.{Association}
use Rattle.spec_records.specs.Words.{IsAscending, Port, association_number, is_event_of, is_number, is_this_object, is_to_fire, names_its_object, port_in, told_events}
use Rattle.spec_kernel.specs.Types.{Obj, Queued}
use Rattle.spec_kernel.specs.Words.{State, Turn, associations_in, ready_at, state_at}
use Rattle.law_channels.proofs.Tally.{count-above, count-cons, count-weaker}
use Rattle.law_channels.specs.Associations.{is_queued_at}
use Rattle.law_places.proofs.References.{readers_left_are, writers_left_are}
use Rattle.law_runs.specs.Channels.{pipe_under, port_under}
use Rattle.law_runs.specs.OneShot.{OneShot, count_from, has_queued_at, is_due, is_from, queue_in, ready_events, ready_where, under}
use Rattle.law_runs.proofs.Channels.{KnownChannels}
use Rattle.law_runs.proofs.Entries.{empty_pipe_is, full_pipe_is, some_is}

-- what holds of all holds of the one of a number
under_all : (P : Association → Type 0) (n : ℕ) (xs : List Association) (a : Association) → All P xs → under n xs ≡ Some a → P a
under_all P n [] a all e = cc
under_all P n (x ∷ xs) a all e = go (x.number == n) e (under_all P n xs a (All-tail P x xs all))
  where
    go : (b : Bool) → (if b then Some x else under n xs) ≡ Some a → (under n xs ≡ Some a → P a) → P a
    go true f rest = let same : x ≡ a = cc in subst P same (All-head P x xs all)
    go false f rest = rest f

-- the object that is named
pub same_object : (o : Obj) (r : Option Obj) → is_this_object o r ≡ true → r ≡ Some o
same_object o None e = cc
same_object (obj.Door a) (Some (obj.Door b)) e = let same : a ≡ b = grind (arith, nat_tests) in ap (λ n. Some (obj.Door n)) (sym same)
same_object (obj.Port a) (Some (obj.Port b)) e = let same : a ≡ b = grind (arith, nat_tests) in ap (λ n. Some (obj.Port n)) (sym same)
same_object (obj.PipeIn a) (Some (obj.PipeIn b)) e = let same : a ≡ b = grind (arith, nat_tests) in ap (λ n. Some (obj.PipeIn n)) (sym same)
same_object (obj.PipeOut a) (Some (obj.PipeOut b)) e = let same : a ≡ b = grind (arith, nat_tests) in ap (λ n. Some (obj.PipeOut n)) (sym same)
same_object x (Some y) e = absurd (cc e)

-- what an object is ready for

both : (b c : Bool) → bit_or (if b then 1 else 0) (if c then 16 else 0) ≡ ready_where b 1 + ready_where c 16
both true true = refl
both true false = refl
both false true = refl
both false false = refl

other_both : (b c : Bool) → bit_or (if b then 4 else 0) (if c then 8 else 0) ≡ ready_where b 4 + ready_where c 8
other_both true true = refl
other_both true false = refl
other_both false true = refl
other_both false false = refl

pub ready_is : (m : State) (o : Obj) → (ready_at m o).0 ≡ ready_events m o
ready_is m (obj.PipeIn n) =
    both _ _
    ∙ ap₂ (λ (b c : Bool). ready_where b 1 + ready_where c 16)
    (some_is _ ∙ ap not (empty_pipe_is (pipe_under m n)))
    (ap (λ k. k == 0) (sym (writers_left_are m n)))
ready_is m (obj.PipeOut n) =
    other_both _ _
    ∙ ap₂ (λ (b c : Bool). ready_where b 4 + ready_where c 8)
    (ap₂ (λ (b c : Bool). not b && c) (full_pipe_is (pipe_under m n)) (some_is _ ∙ ap (λ k. not (k == 0)) (sym (readers_left_are m n))))
    (ap (λ k. k == 0) (sym (readers_left_are m n)))
ready_is m (obj.Door n) = refl
ready_is m (obj.Port n) = refl

pub not_due : (m : State) (a : Association) → is_to_fire (ready_at m) a ≡ false → a.armed ≡ true → is_due m a ≡ false
not_due m a e f =
    ap (λ k. not (bit_and k (bit_or a.events.0 24) == 0)) (sym (ready_is m a.object))
    ∙ ap (λ b. b && not (told_events (ready_at m a.object) a.events == 0)) (sym f)
    ∙ e

-- how many are queued

pub from_is : (n : ℕ) (o : Option ℕ) → is_from n o ≡ is_number n o
from_is n None = refl
from_is n (Some k) = refl

pub counted_from : (n : ℕ) (es : List Queued) → count_by (is_event_of n) es ≡ count_from n es
counted_from n es =
    sym (is_count_by (count_from n) (is_event_of n) refl (λ e rest. ap (λ b. if b then 1 + count_from n rest else count_from n rest) (from_is n e.assoc)) es)

has_it : (n q : ℕ) (a : Association) → is_queued_at n q a ≡ true → (association_number a == n) ≡ true
has_it n q a e = grind (arith, nat_tests)

none_above : (n low made q : ℕ) (xs : List Association) → n ≤ low → IsAscending association_number low made xs → count_by (is_queued_at n q) xs ≡ 0
none_above n low made q xs l h =
    omega (
      arith,
      count-weaker (is_queued_at n q) (λ a. association_number a == n) (has_it n q) xs,
      count-above association_number low made n xs l h,
    )

pub counted_under :
    (n q low made : ℕ) (xs : List Association) → IsAscending association_number low made xs →
    count_by (is_queued_at n q) xs ≡ (if has_queued_at q (under n xs) then 1 else 0)
counted_under n q low made [] h = refl
counted_under n q low made (a ∷ xs) h = go (a.number == n) refl (counted_under n q a.number made xs h.2)
  where
    one : (c : Bool) → cond c 1 0 + 0 ≡ (if c then 1 else 0)
    one true = refl
    one false = refl

    go :
        (b : Bool) → (a.number == n) ≡ b → count_by (is_queued_at n q) xs ≡ (if has_queued_at q (under n xs) then 1 else 0) →
        count_by (is_queued_at n q) (a ∷ xs) ≡ (if has_queued_at q (if b then Some a else under n xs) then 1 else 0)
    go true e rest =
        let same : a.number ≡ n = grind (arith, nat_tests) in
        count-cons (is_queued_at n q) a xs
        ∙ ap₂ (λ (b : Bool) (k : ℕ). cond (b && ((a.key.port == q) && not a.armed)) 1 0 + k) e (none_above n a.number made q xs (omega arith) h.2)
        ∙ one ((a.key.port == q) && not a.armed)
    go false e rest =
        omega (arith, count-cons (is_queued_at n q) a xs ∙ ap (λ (b : Bool). cond (b && ((a.key.port == q) && not a.armed)) 1 0 + count_by (is_queued_at n q) xs) e, rest)

queue_is : (o : Option Port) → (port_in o).queue ≡ queue_in o
queue_is None = refl
queue_is (Some x) = refl

pub one_shot_holds : (m : State) (xs : List Turn) → KnownChannels m xs → OneShot m xs
one_shot_holds m xs k =
    record {
      in_order = λ i l. (k.fits i l).associations.in_order;
      names = λ i n a l e.
          same_object a.object _
          (under_all (λ b. names_its_object (state_at m xs i).tables b ≡ true) n (associations_in (state_at m xs i)) a (k.known.invariant i l).told.rows e);
      waits = λ i n a l e f.
          not_due (state_at m xs i) a
          (under_all (λ b. is_to_fire (ready_at (state_at m xs i)) b ≡ false) n (associations_in (state_at m xs i)) a (k.known.invariant i l).told.wait e) f;
      queued = λ i n q l.
          ap (count_from n) (sym (queue_is (port_under (state_at m xs i) q)))
          ∙ sym (counted_from n (port_in (port_under (state_at m xs i) q)).queue)
          ∙ (k.fits i l).associations.queued n q
          ∙ counted_under n q 0 _ (associations_in (state_at m xs i)) (k.fits i l).associations.in_order;
    }
