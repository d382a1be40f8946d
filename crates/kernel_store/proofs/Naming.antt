-- What an act leaves to tell is named by its pipe, and by the ends of pipes that lost their references.
use Rattle.std.proofs.Common.{◌≡◌, ℕ, ◌+◌, ◌≤◌, ◌==◌, ◌&&◌, ◌||◌, ◌++◌, Bool, true, false, not, List, [], ◌∷◌, Option, None, Some, All, bit_and, bit_or, map, nat_lt, true≢false, refl, sym, ap, ap₂, subst, ◌∙◌, arith}
use Rattle.std.specs.List.{list_any}
use Rattle.std.specs.Option.{option_to_list}
use Rattle.std.proofs.lemmas.Bool.Decides.{nat_tests}
use Rattle.std.proofs.lemmas.List.Elements.{All-weaker}
use Rattle.std.proofs.lemmas.Nat.{and_le_l}
use Rattle.law_channels.specs.Changed.{changed_objects, is_gone, readied}
use Rattle.law_channels.specs.Closed.{Closing}
use Rattle.law_channels.specs.Ended.{empty_rows, ended_by, timers_ended}
use Rattle.law_channels.specs.Ends.{is_end}
use Rattle.law_channels.specs.Ends.{other_end as other}
use Rattle.law_channels.specs.Told.{LeavesToTell}
use Rattle.law_channels.proofs.Told.{leaves_to_tell}
use Rattle.kernel_store.specs.declared.told.ClosedRows.{ClosedRows}
use Rattle.dk_base.specs.declared.object.Obj.TheVariants as obj
use Rattle.spec_records.specs.declared.association.Association.{Association}
use Rattle.spec_records.specs.Words.{Pipe, is_object, is_to_fire, is_told, ready_object, watches}
use Rattle.kernel_store.specs.Telling.{AreGone, AreNamed, IsLeftToTell, ReadiesAtMost, closing_of, is_named, is_of_pipe}
use Rattle.port_assoc.proofs.Watching.{one_object}
use Rattle.kernel_ports.proofs.Others.{is_other_of, others_among}
use Rattle.kernel_ports.specs.Words.{other_end}
use Rattle.unref_notice.specs.Words.{ObjectCounts, count_of, is_pipe_end}
use Rattle.spec_kernel.specs.Types.{Obj, Request}
use Rattle.spec_kernel.specs.Words.{State, associations_in, end_lost, end_timers, ready_at, references_of, with_channels}

same_other : (o : Obj) → other o ≡ other_end o
same_other (obj.Door n) = refl
same_other (obj.Port n) = refl
same_other (obj.PipeIn n) = refl
same_other (obj.PipeOut n) = refl

same_end : (o : Obj) → is_pipe_end o ≡ is_end o
same_end (obj.Door n) = refl
same_end (obj.Port n) = refl
same_end (obj.PipeIn n) = refl
same_end (obj.PipeOut n) = refl

-- what fires watches an end of a pipe

never_told : (asked : ℕ) → not (bit_and 0 (bit_or asked 24) == 0) ≡ true → ⊥
never_told asked e =
    let least : bit_and 0 (bit_or asked 24) ≤ 0 = and_le_l 0 (bit_or asked 24) in
    let none : bit_and 0 (bit_or asked 24) ≡ 0 = omega (arith, least) in
    true≢false (sym e ∙ ap (λ n. not (n == 0)) none)

both : (b c : Bool) → b && c ≡ true → c ≡ true
both true c e = e
both false c e = cc

fires_end : (pipes : List Pipe) (refs : Obj → ℕ) (a : Association) → is_to_fire (ready_object pipes refs) a ≡ true → is_end a.object ≡ true
fires_end pipes refs a e = go a.object (both a.armed (is_told (ready_object pipes refs a.object) a) e)
  where
    go : (o : Obj) → is_told (ready_object pipes refs o) a ≡ true → is_end o ≡ true
    go (obj.Door n) f = absurd (never_told a.events.0 f)
    go (obj.Port n) f = absurd (never_told a.events.0 f)
    go (obj.PipeIn n) f = refl
    go (obj.PipeOut n) f = refl

-- one that watches what has changed is named

among_gone : (gone : List Obj) (a : Association) → list_any (λ o. watches o a) (map other gone) ≡ list_any (is_other_of a.object) gone
among_gone [] a = refl
among_gone (g ∷ gs) a = ap₂ (λ b c. b || c) (ap (λ o. is_object o a.object) (same_other g)) (among_gone gs a)

left : (b c : Bool) → b ≡ true → b || c ≡ true
left true c e = refl
left false c e = cc

right : (b c : Bool) → c ≡ true → b || c ≡ true
right true c e = refl
right false c e = e

by_other : (pipe : Option ℕ) (gone : List Obj) (a : Association) → list_any (λ o. watches o a) (map other gone) ≡ true → is_named pipe gone a.object ≡ true
by_other pipe gone a h =
    right (is_of_pipe pipe a.object) (list_any (is_object (other_end a.object)) gone) (sym (others_among a.object gone) ∙ sym (among_gone gone a) ∙ h)

by_change :
    (pipe : Option ℕ) (r : Option Obj) (gone : List Obj) (a : Association) → ((o : Obj) → r ≡ Some o → is_end o ≡ true → is_of_pipe pipe o ≡ true) →
    is_end a.object ≡ true → list_any (λ o. watches o a) (option_to_list r ++ map other gone) ≡ true → is_named pipe gone a.object ≡ true
by_change pipe None gone a fit e h = by_other pipe gone a h
by_change pipe (Some o) gone a fit e h = go (is_object o a.object) refl h
  where
    go : (b : Bool) → is_object o a.object ≡ b → b || list_any (λ x. watches x a) (map other gone) ≡ true → is_named pipe gone a.object ≡ true
    go true same k =
        let one : o ≡ a.object = one_object o a.object same in
        left (is_of_pipe pipe a.object) (list_any (is_object (other_end a.object)) gone)
        (ap (is_of_pipe pipe) (sym one) ∙ fit o refl (ap is_end one ∙ e))
    go false same k = by_other pipe gone a k

-- the ends that are listed

pub gone_is :
    (m n : State) (opening : ObjectCounts) (o : Obj) → count_of opening o ≡ references_of m o →
    (is_pipe_end o && (nat_lt 0 (count_of opening o) && (references_of n o == 0))) ≡ (is_end o && is_gone m n o)
gone_is m n opening o opened =
    ap (λ b. b && (nat_lt 0 (count_of opening o) && (references_of n o == 0))) (same_end o)
    ∙ ap (λ k. is_end o && (nat_lt 0 k && (references_of n o == 0))) opened
    ∙ ap (λ b. is_end o && (b && (references_of n o == 0))) (some (references_of m o))
  where
    some : (k : ℕ) → nat_lt 0 k ≡ not (k == 0)
    some k = grind (arith, nat_tests)

none_left : (m n : State) (o : Obj) → is_end o && is_gone m n o ≡ true → references_of n o ≡ 0
none_left m n o e =
    let b = both (not (references_of m o == 0)) (references_of n o == 0) (both (is_end o) (is_gone m n o) e) in
    grind (arith, nat_tests)

-- what an act leaves to tell, once associations and timers have ended

pub left_named :
    (m : State) (t : ℕ) (q : Option Request) (n k : State) (pipe : Option ℕ) (gone : List Obj) → LeavesToTell m t q n → k ≡ end_timers (end_lost n) →
    ReadiesAtMost m t q pipe → AreGone m n gone → AreNamed k pipe gone
left_named m t q n k pipe gone leaves ended fit listed =
    subst (λ (x : State). AreNamed x pipe gone) (sym ended)
    (record {
      none_left = λ o h. none_left m n o (sym (listed o) ∙ h);
      fires =
          All-weaker (λ a. is_to_fire (ready_at (end_lost n)) a ≡ true → list_any (λ o. watches o a) (changed_objects m t q gone) ≡ true)
          (λ a. is_to_fire (ready_at (end_lost n)) a ≡ true → is_named pipe gone a.object ≡ true)
          (λ a h f. by_change pipe (readied m t q) gone a fit (fires_end n.channels.pipes (references_of n) a f) (h f)) (associations_in (end_lost n))
          (leaves.watch gone (λ o e f. listed o ∙ ap₂ (λ b c. b && c) e f));
    })

-- so all that the act left to tell ends by its rows
pub ended_lost :
    {m : State} {t : ℕ} {q : Option Request} {closed : ClosedRows} {pipe : Option ℕ} {gone : List Obj} {n : State} → IsLeftToTell m t q closed pipe gone n →
    with_channels n (ended_by n.channels (empty_rows n (closing_of closed))) ≡ end_lost n
ended_lost {m} {t} {q} {closed} {pipe} {gone} {n} h =
    ap (λ (x : Closing). with_channels n (ended_by n.channels (empty_rows n x))) h.rows ∙ sym (leaves_to_tell m t q n h.unborn h.after h.told).ended_empty

-- and the timers of a process that ends
pub ended_timers :
    {m : State} {t : ℕ} {q : Option Request} {closed : ClosedRows} {pipe : Option ℕ} {gone : List Obj} {n : State} → IsLeftToTell m t q closed pipe gone n →
    with_channels (end_lost n) (timers_ended (end_lost n).channels (closing_of closed)) ≡ end_timers (end_lost n)
ended_timers {m} {t} {q} {closed} {pipe} {gone} {n} h =
    ap (λ (x : Closing). with_channels n (timers_ended (end_lost n).channels x)) h.rows ∙ sym ((leaves_to_tell m t q n h.unborn h.after h.told).timers h.live)
