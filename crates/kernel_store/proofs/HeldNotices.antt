-- The notices that threads have, and those that wait at lost doors, are all that leave.
use Rattle.std.proofs.Common.{◌≡◌, ◌⊎◌, inl, inr, nat_le, ℕ, ◌+◌, ◌<◌, ◌≤◌, ◌==◌, ◌||◌, ◌&&◌, Bool, true, false, if◌then◌else◌, List, [], ◌∷◌, ◌++◌, Option, None, Some, length, refl, sym, subst, ap, ◌∙◌, arith, true≢false}
use Rattle.std.proofs.lemmas.Bool.Decides.{nat_tests}
use Rattle.std.proofs.lemmas.List.Folds.{list_any-append}
use Rattle.std.specs.List.{list_any}
use Rattle.dk_base.specs.declared.number.Tid.{Tid}
use Rattle.dk_base.specs.declared.object.Item.TheVariants as item
use Rattle.spec_records.specs.declared.record.NoticeStage.TheVariants as notice
use Rattle.spec_records.specs.declared.leaving.Leaver.TheVariants.{Ended}
use Rattle.spec_records.specs.Words.{Leaving, ProcessTable, is_entered_stage, is_given_stage, is_waiting_stage, left_notice, left_notice_at, invocation_in, leaving_of, process_end, process_in, state_in, thread_at}
use Rattle.spec_records.proofs.Lists.{numbered_within}
use Rattle.spec_kernel.specs.Types.{Door, Item, Notice, NoticeStage, Thread}
use Rattle.server_pool.specs.Words.{is_item}
use Rattle.exit_paths.specs.Words.{TellsUntaken}
use Rattle.unref_notice.specs.Words.{AreAllLeft, IsAllEntered, is_notice_item}
use Rattle.proc_table.specs.Words.{is_of}
use Rattle.kernel_store.specs.Held.{AreHeldIn, TellsHeld, held_as, held_at}

same_item : (c : ℕ) (items : List Item) → list_any (is_item (item.Notice c)) items ≡ list_any (is_notice_item c) items
same_item c [] = refl
same_item c (item.Notice d ∷ items) = ap (λ b. (c == d) || b) (same_item c items)
same_item c (item.Call d ∷ items) = same_item c items

neither : (b c : Bool) → (b || c) ≡ false → (b ≡ false) × (c ≡ false)
neither true c e = absurd (true≢false e)
neither false c e = (refl, e)

self_test : (t : ℕ) → (t == t) ≡ true
self_test t = grind (arith, nat_tests)

either_true : (b : Bool) → (b || true) ≡ true
either_true true = refl
either_true false = refl

-- a thread has something only where it is there
pub held_there : (table : ProcessTable) (t : ℕ) (i : Item) → held_at table t ≡ Some i → (1 ≤ t) × (t ≤ length table.threads)
held_there table t i e = go (thread_at table t) refl
  where
    go : (o : Option Thread) → thread_at table t ≡ o → (1 ≤ t) × (t ≤ length table.threads)
    go None f = absurd (cc)
    go (Some x) f = numbered_within table.threads t x f

-- what a thread serves is the one notice that it has entered
pub entered_held : (table : ProcessTable) (ns : List Notice) (t : ℕ) → AreHeldIn table ns → IsAllEntered (held_at table t) t ns
entered_held table ns t held i x e f = held i t x e (ap (λ b. is_given_stage t x.stage || b) f ∙ either_true (is_given_stage t x.stage))

pub all_are_left :
    (who : Leaving) (table : ProcessTable) (ns : List Notice) (untaken items : List Item) → AreHeldIn table ns → TellsUntaken who ns untaken →
    TellsHeld who table (length table.threads) items → AreAllLeft who (untaken ++ items) ns
all_are_left who table ns untaken items held waiting ending i x e none =
    go x.stage refl
  where
    apart : (list_any (is_notice_item x.number) untaken ≡ false) × (list_any (is_notice_item x.number) items ≡ false)
    apart = neither (list_any (is_notice_item x.number) untaken) (list_any (is_notice_item x.number) items) (sym (list_any-append (is_notice_item x.number) untaken items) ∙ none)

    ends_not : (u : ℕ) → (is_given_stage u x.stage || is_entered_stage u x.stage) ≡ true → who.ends u ≡ false
    ends_not u has = on (who.ends u) refl
      where
        on : (b : Bool) → who.ends u ≡ b → b ≡ false
        on true f =
            let h = held i u x e has in
            let w = held_there table u (item.Notice x.number) h in
            absurd (true≢false (sym (ending u x.number w.1 f h) ∙ apart.1))
        on false f = refl

    go : (s : NoticeStage) → x.stage ≡ s → left_notice who x ≡ x
    go notice.Waiting f =
        let lost : who.loses x.door ≡ false =
        ap (λ s. is_waiting_stage s && who.loses x.door) (sym f) ∙ sym (waiting i x e) ∙ same_item x.number untaken ∙ apart.0 in
        ap (λ s. left_notice_at who s x) f ∙ ap (λ b. if b then record x { stage = notice.Dropped } else x) lost
    go (notice.Given u) f =
        let stays = ends_not u.0 (ap (λ s. is_given_stage u.0 s || is_entered_stage u.0 s) f ∙ ap (λ b. b || false) (self_test u.0)) in
        ap (λ s. left_notice_at who s x) f ∙ ap (λ b. if b then record x { stage = notice.Over } else x) stays
    go (notice.Entered u) f =
        let stays = ends_not u.0 (ap (λ s. is_given_stage u.0 s || is_entered_stage u.0 s) f ∙ self_test u.0) in
        ap (λ s. left_notice_at who s x) f ∙ ap (λ b. if b then record x { stage = notice.Over } else x) stays
    go notice.Over f = ap (λ s. left_notice_at who s x) f
    go notice.Dropped f = ap (λ s. left_notice_at who s x) f

-- only the thread that ends
pub one_tells :
    (table : ProcessTable) (doors : List Door) (thread : Tid) (items : List Item) →
    ((c : ℕ) → (leaving_of table doors (Ended thread)).ends thread.0 ≡ true → held_at table thread.0 ≡ Some (item.Notice c) → list_any (is_notice_item c) items ≡ true) →
    TellsHeld (leaving_of table doors (Ended thread)) table (length table.threads) items
one_tells table doors thread items noted u c l e f =
    let same : u ≡ thread.0 = grind (arith, nat_tests) in
    noted c (self_test thread.0) (subst (λ k. held_at table k ≡ Some (item.Notice c)) same f)

-- the threads of a process end with it

pub ends_as : (table : ProcessTable) (doors : List Door) (p t : ℕ) → is_of p (thread_at table t) ≡ true → (process_end table doors p).ends t ≡ true
ends_as table doors p t e = go (thread_at table t) e
  where
    go : (o : Option Thread) → is_of p o ≡ true → (process_in o == p) ≡ true
    go None f = cc
    go (Some x) f = f

pub held_of : (table : ProcessTable) (doors : List Door) (p t : ℕ) (i : Item) → held_at table t ≡ Some i → (process_end table doors p).ends t ≡ true → is_of p (thread_at table t) ≡ true
held_of table doors p t i h e = go (thread_at table t) h e
  where
    go : (o : Option Thread) → held_as (state_in o) (invocation_in o) ≡ Some i → (process_in o == p) ≡ true → is_of p o ≡ true
    go None f g = absurd (cc)
    go (Some x) f g = g
