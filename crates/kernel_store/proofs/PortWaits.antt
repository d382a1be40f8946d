-- A port changes: what is known of the threads that wait at ports, where those that wait at this one are asked.
use Rattle.std.proofs.Common.{ℕ, suc, ◌+◌, ◌≡◌, ◌≢◌, ◌==◌, ◌||◌, Bool, true, false, true≢false, cond, length, List, [], ◌∷◌, Option, Some, None, filter, if◌then◌else◌, inl, inr, is_none, refl, sym, ap, ap₂, ◌∙◌, arith}
use Rattle.std.proofs.lemmas.Bool.{cases_eq}
use Rattle.std.proofs.lemmas.Bool.Decides.{nat_tests}
use Rattle.dk_base.specs.ByNumber.{at_number}
use Rattle.dk_base.specs.declared.object.Obj.TheVariants as obj
use Rattle.spec_records.specs.declared.record.ThreadState.TheVariants as is
use Rattle.spec_records.specs.declared.association.AssocKey.{AssocKey}
use Rattle.spec_records.specs.declared.association.Association.{Association}
use Rattle.spec_records.specs.declared.timer.Timer.{Timer}
use Rattle.kernel_ports.specs.Words.{port_told}
use Rattle.spec_records.specs.Words.{Port, ProcessTable, change_at_number, change_found, count_object, has_key, is_ready_for, make_port, new_port, port_in, port_of, send_error, send_event, send_if_allowed, state_in, thread_at, user_event, with_event, withdraw_event, withdraw_events, without_event, without_queued, without_timer_event}
use Rattle.spec_records.proofs.Lists.{at_number-push, at_number-renumbered_there}
use Rattle.spec_kernel.specs.Types.{ThreadState}
use Rattle.proc_table.specs.Words.{is_getting}
use Rattle.dk_base.specs.declared.thread_set.ThreadSet.{ThreadSet}
use Rattle.dk_base.specs.Words.{has, with_thread}
use Rattle.kernel_holdings.specs.Words.{HoldingsValue, references_of}
use Rattle.kernel_store.specs.Turning.{IsSamePort, KnowsPorts, has_ended_at, waits_at}

pub port_elsewhere : (ports : List Port) (q : ℕ) (change : Port → Port) (p : ℕ) → p ≢ q → port_of (change_at_number ports q change) p ≡ port_of ports p
port_elsewhere ports q change p other = go (at_number ports q) refl
  where
    go : (o : Option Port) → at_number ports q ≡ o → port_of (change_found ports q change o) p ≡ port_of ports p
    go None e = refl
    go (Some x) e = ap port_in (at_number-renumbered_there ports q p (change x) x e ∙ ap (λ b. if b then Some (change x) else at_number ports p) apart)
      where
        apart : (p == q) ≡ false
        apart = grind (arith, nat_tests, other)

pub waits_at_port :
    (table : ProcessTable) (had held : HoldingsValue) (before after : List Port) (q : ℕ) (old now : ThreadSet) → ((p : ℕ) → p ≢ q → IsSamePort p had before held after) →
    ((t : ℕ) → waits_at q (state_in (thread_at table t)) ≡ true → has now t ≡ has_ended_at held after (state_in (thread_at table t))) →
    ((t : ℕ) → waits_at q (state_in (thread_at table t)) ≡ false → has now t ≡ has old t) → KnowsPorts table had before old → KnowsPorts table held after now
waits_at_port table had held before after q old now others asked unasked k = record { known = λ t e. go t (waits_at q (state_in (thread_at table t))) refl e }
  where
    unequal : (p : ℕ) → (p == q) ≡ false → p ≢ q
    unequal p e same = absurd (grind (arith, nat_tests, e, same))

    same : (s : ThreadState) → waits_at q s ≡ false → has_ended_at had before s ≡ has_ended_at held after s
    same (is.Getting p max nget one true) w = refl
    same (is.Getting p max nget one false) w = let kept = others p (unequal p w) in ap₂ (λ n x. (n == 0) || is_ready_for nget x) (sym kept.1) (sym kept.0)
    same s w = refl

    go : (t : ℕ) (b : Bool) → waits_at q (state_in (thread_at table t)) ≡ b → is_getting (state_in (thread_at table t)) ≡ true → has now t ≡ has_ended_at held after (state_in (thread_at table t))
    go t true w e = asked t w
    go t false w e = unasked t w ∙ k.known t e ∙ same (state_in (thread_at table t)) w

-- who waits at a port is among those that wait at ports
pub waiting_at : (q : ℕ) (s : ThreadState) → is_getting s ≡ false → waits_at q s ≡ false
waiting_at q (is.Getting p max nget one true) e = refl
waiting_at q (is.Getting p max nget one false) e = cc
waiting_at q s e = refl

-- of the threads that are not left over, those that wait at the port were asked
pub record AreAsked (q : ℕ) (table : ProcessTable) (held : HoldingsValue) (ports : List Port) (old now rest : ThreadSet) : Type 0 where
  pub asked : (u : ℕ) → has rest u ≡ false → waits_at q (state_in (thread_at table u)) ≡ true → has now u ≡ has_ended_at held ports (state_in (thread_at table u))
  pub others : (u : ℕ) → waits_at q (state_in (thread_at table u)) ≡ false → has now u ≡ has old u

pub none_asked :
    (q : ℕ) (table : ProcessTable) (held : HoldingsValue) (ports : List Port) (old rest : ThreadSet) → ((u : ℕ) → has rest u ≡ is_getting (state_in (thread_at table u))) →
    AreAsked q table held ports old old rest
none_asked q table held ports old rest getting =
    record {
      asked = λ u out w. absurd (true≢false (sym w ∙ waiting_at q (state_in (thread_at table u)) (sym (getting u) ∙ out)));
      others = λ u w. refl;
    }

left_over : (rest left : ThreadSet) (t u : ℕ) → has left u ≡ with_thread rest t false u → u ≢ t → has left u ≡ false → has rest u ≡ false
left_over rest left t u e other out = sym (e ∙ ap (λ b. if b then false else has rest u) apart) ∙ out
  where
    apart : (u == t) ≡ false
    apart = grind (arith, nat_tests, other)

pub one_asked :
    (q : ℕ) (table : ProcessTable) (held : HoldingsValue) (ports : List Port) (old now next rest left : ThreadSet) (t : ℕ) → ((u : ℕ) → has left u ≡ with_thread rest t false u) →
    (waits_at q (state_in (thread_at table t)) ≡ true → has next t ≡ has_ended_at held ports (state_in (thread_at table t))) →
    (waits_at q (state_in (thread_at table t)) ≡ false → has next t ≡ has now t) → ((u : ℕ) → u ≢ t → has next u ≡ has now u) →
    AreAsked q table held ports old now rest → AreAsked q table held ports old next left
one_asked q table held ports old now next rest left t taken here not_here others before =
    record {
      asked = λ u out w. elim (cases_eq u t) [
        | inl same ↦
            let at = ap (λ n. state_in (thread_at table n)) same in
            ap (has next) same ∙ here (ap (waits_at q) (sym at) ∙ w) ∙ ap (has_ended_at held ports) (sym at)
        | inr n ↦ others u n ∙ before.asked u (left_over rest left t u (taken u) n out) w
      ];
      others = λ u w. elim (cases_eq u t) [
        | inl same ↦
            let at = ap (λ n. state_in (thread_at table n)) same in
            ap (has next) same ∙ not_here (ap (waits_at q) (sym at) ∙ w) ∙ ap (has now) (sym same) ∙ before.others u w
        | inr n ↦ others u n ∙ before.others u w
      ];
    }

-- which ports change

pub sent_elsewhere : (ports : List Port) (q events user p : ℕ) → p ≢ q → port_of (send_if_allowed ports q events user) p ≡ port_of ports p
sent_elsewhere ports q events user p other = go (is_none (send_error ports q))
  where
    go : (b : Bool) → port_of (if b then send_event ports q events user else ports) p ≡ port_of ports p
    go true = port_elsewhere ports q (with_event (user_event events user)) p other
    go false = refl

-- the events of a key are withdrawn from its port alone
pub withdrawn_elsewhere :
    (key : AssocKey) (xs : List Association) (ports : List Port) (p : ℕ) → p ≢ key.port → port_of (withdraw_events ports (filter (has_key key) xs)) p ≡ port_of ports p
withdrawn_elsewhere key [] ports p other = refl
withdrawn_elsewhere key (a ∷ xs) ports p other = go (has_key key a) refl (λ left. withdrawn_elsewhere key xs left p other)
  where
    apart : has_key key a ≡ true → p ≢ a.key.port
    apart e same = absurd (grind (arith, nat_tests, e, same, other))

    go :
        (b : Bool) → has_key key a ≡ b → ((left : List Port) → port_of (withdraw_events left (filter (has_key key) xs)) p ≡ port_of left p) →
        port_of (withdraw_events ports (if b then a ∷ filter (has_key key) xs else filter (has_key key) xs)) p ≡ port_of ports p
    go true e rest = rest (withdraw_event ports a.key.port a.number) ∙ port_elsewhere ports a.key.port (without_event a.number) p (apart e)
    go false e rest = rest ports

-- what a timer queued is withdrawn from its port alone
pub unqueued_elsewhere : (ports : List Port) (o : Option Timer) (q p : ℕ) → port_told o ≡ Some q → p ≢ q → port_of (without_queued ports o) p ≡ port_of ports p
unqueued_elsewhere ports None q p e other = cc
unqueued_elsewhere ports (Some t) q p e other =
    let same : t.port ≡ q = cc in
    port_elsewhere ports t.port (without_timer_event t.number) p (λ (f : p ≡ t.port). other (f ∙ same))

pub none_unqueued : (ports : List Port) (o : Option Timer) → port_told o ≡ None → without_queued ports o ≡ ports
none_unqueued ports None e = refl
none_unqueued ports (Some t) e = cc

-- another port is made
pub made_elsewhere : (ports : List Port) (p : ℕ) → p ≢ length ports + 1 → port_of (make_port ports) p ≡ port_of ports p
made_elsewhere ports p other = ap port_in (at_number-push ports (new_port (length ports + 1)) p ∙ ap (λ b. if b then Some (new_port (length ports + 1)) else at_number ports p) apart)
  where
    apart : (p == suc (length ports)) ≡ false
    apart = grind (arith, nat_tests, other)

pub not_this_port : (p q : ℕ) → p ≢ q → count_object (obj.Port p) (obj.Port q ∷ []) ≡ 0
not_this_port p q other = go (p == q) (grind (arith, nat_tests, other))
  where
    go : (b : Bool) → b ≡ false → 0 + cond b 1 0 ≡ 0
    go true e = absurd (true≢false e)
    go false e = refl
