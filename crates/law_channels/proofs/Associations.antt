-- What holds of associations and of what they have queued holds after each change of them and of ports.
use Rattle.std.proofs.Common.{◌≡◌, ℕ, zero, suc, ◌+◌, ◌≤◌, ◌==◌, ◌&&◌, List, [], ◌∷◌, ◌++◌, Option, Some, None, is_none, Bool, true, false, if◌then◌else◌, not, cond, drop, filter, filter_map, length, map, take, refl, sym, ap, subst, ◌∙◌, arith, count_by}
use Rattle.std.specs.Prelude.{All}
use Rattle.std.specs.List.{cons_option}
use Rattle.std.proofs.lemmas.List.{length-append}
use Rattle.std.proofs.lemmas.Bool.Decides.{nat_tests}
use Rattle.std.proofs.lemmas.List.Elements.{All-filter, All-map, All-nil, All-push, All-weaker}
use Rattle.dk_base.specs.declared.set.PollSet.{PollSet}
use Rattle.dk_base.specs.ByNumber.{at_number}
use Rattle.spec_records.specs.declared.association.AssocKey.{AssocKey}
use Rattle.spec_records.specs.declared.association.Association.{Association}
use Rattle.spec_records.specs.declared.port.Alert.{Alert}
use Rattle.spec_records.specs.Words.{AssociationList, IsAscending, Port, alert_port, all_fired, association_number, association_of, associations_of, disarmed, disarmed_where, events_found, fire_all, found_at, has_key, has_other_key, has_other_number, is_event_of, is_number, is_to_fire, left_at, make_port, new_association, new_port, port_in, port_of, post_fired, retrieve_association, retrieve_associations, send_event, take_events, user_event, with_alert, with_event, withdraw_events, without_found}
use Rattle.spec_records.proofs.Lists.{at_number-suc}
use Rattle.spec_records.proofs.NumberedLists.{ascending-filter, ascending-push}
use Rattle.spec_kernel.specs.Types.{Obj, Queued}
use Rattle.spec_kernel.specs.Words.{Channels, after_sending, after_sending_each, associated, dissociated, port_named, ports_without, sending_error}
use Rattle.law_channels.specs.Associations.{AreAssociations, IsOfPort, is_queued_at}
use Rattle.law_channels.proofs.Bounds.{length-change_at_number}
use Rattle.law_channels.proofs.Queues.{fires_at, is_of, length-post_fired, length-withdraw_events, queue-change, tally, tally-made, tally-post_fired, tally-same, tally-withdraw_events}
use Rattle.law_channels.proofs.Tally.{ascending-changed, count-apart, count-append, count-cons, count-cut, count-once, count-parted, count-weaker, has}

-- tests of one association

queued_is_of : (n q : ℕ) (a : Association) → is_queued_at n q a ≡ true → is_of n q a ≡ true
queued_is_of n q a e = grind (arith, nat_tests)

of_has : (n q : ℕ) (a : Association) → is_of n q a ≡ true → has association_number n a ≡ true
of_has n q a e = grind (arith, nat_tests)

queued_has : (n q : ℕ) (a : Association) → is_queued_at n q a ≡ true → has association_number n a ≡ true
queued_has n q a e = grind (arith, nat_tests)

-- an association has queued at one port only
queued_apart :
    (n p q : ℕ) → (p == q) ≡ false → (a : Association) →
    cond (is_queued_at n p a) 1 0 + cond (is_queued_at n q a) 1 0 ≤ cond (has association_number n a) 1 0
queued_apart n p q other a = grind (arith, nat_tests)

module _ (ports : List Port) (list : AssociationList) (h : AreAssociations ports list) where
  abbrev xs : List Association
  xs = list.associations

  once : (n : ℕ) → count_by (has association_number n) xs ≤ 1
  once n = count-once association_number 0 list.made n xs h.in_order

  -- what queues and takes no event of an association
  pub same_queued :
      (others : List Port) → length others ≡ length ports → ((n q : ℕ) → tally n others q ≡ tally n ports q) → AreAssociations others list
  same_queued others long same =
      record {
        in_order = h.in_order;
        of_ports = subst (λ k. All (IsOfPort k) xs) (sym long) h.of_ports;
        queued = λ n q. same n q ∙ h.queued n q;
      }

  -- some end, and what they have queued is withdrawn
  pub end_some :
      (keep leave : Association → Bool) → ((a : Association) → leave a ≡ not (keep a)) →
      AreAssociations (withdraw_events ports (filter leave xs)) (record list { associations = filter keep xs })
  end_some keep leave other =
      record {
        in_order = ascending-filter association_number keep xs 0 list.made h.in_order;
        of_ports =
            subst (λ k. All (IsOfPort k) (filter keep xs)) (sym (length-withdraw_events ports (filter leave xs)))
            (All-filter keep (IsOfPort (length ports)) xs h.of_ports);
        queued = λ n q. tally-withdraw_events ports (filter leave xs) n q ∙ go n q (count_by (is_of n q) (filter leave xs)) refl;
      }
    where
      past : (k : ℕ) → (suc k == 0) ≡ false
      past k = grind (arith, nat_tests)

      go :
          (n q k : ℕ) → count_by (is_of n q) (filter leave xs) ≡ k →
          (if k == 0 then tally n ports q else 0) ≡ count_by (is_queued_at n q) (filter keep xs)
      go n q zero e =
          omega (
            arith,
            h.queued n q,
            count-parted (is_queued_at n q) keep leave other xs,
            count-weaker (is_queued_at n q) (is_of n q) (queued_is_of n q) (filter leave xs),
            e,
          )
      go n q (suc k) e =
          ap (λ b. if b then tally n ports q else 0) (past k)
          ∙ omega (
            arith,
            once n,
            count-parted (has association_number n) keep leave other xs,
            count-weaker (is_queued_at n q) (has association_number n) (queued_has n q) (filter keep xs),
            count-weaker (is_of n q) (has association_number n) (of_has n q) (filter leave xs),
            e,
          )

  -- an association is made, of a port that is there
  pub make_one :
      (key : AssocKey) (object : Obj) (events : PollSet) (user : ℕ) → (1 ≤ key.port) × (key.port ≤ length ports) →
      AreAssociations ports
      (record { made = list.made + 1; associations = xs ++ new_association (list.made + 1) key object events user ∷ [] })
  make_one key object events user there =
      record {
        in_order = ascending-push association_number xs 0 list.made made (omega arith) refl h.in_order;
        of_ports = All-push (IsOfPort (length ports)) xs made h.of_ports there;
        queued = λ n q. omega (arith, h.queued n q, count-append (is_queued_at n q) xs (made ∷ []), count-cons (is_queued_at n q) made [], armed n q);
      }
    where
      made : Association
      made = new_association (list.made + 1) key object events user

      armed : (n q : ℕ) → ◌≡◌ {A = ℕ} (cond (is_queued_at n q made) 1 0) 0
      armed n q = grind (arith, nat_tests)

  -- those that fire have queued, and are not armed
  pub fire_some :
      (ready : Obj → PollSet) → AreAssociations (post_fired ports (all_fired ready xs)) (fire_all list ready)
  fire_some ready =
      record {
        in_order = ascending-changed association_number (disarmed_where ready) same_number xs 0 list.made h.in_order;
        of_ports =
            subst (λ k. All (IsOfPort k) (map (disarmed_where ready) xs)) (sym (length-post_fired ports (all_fired ready xs)))
            (All-map (IsOfPort (length ports)) (disarmed_where ready) xs (All-weaker (IsOfPort (length ports)) (λ a. IsOfPort (length ports) (disarmed_where ready a)) same_port xs h.of_ports));
        queued = λ n q. tally-post_fired ready ports xs n q h.of_ports ∙ ap (λ k. k + count_by (fires_at ready n q) xs) (h.queued n q) ∙ sym (counted n q xs);
      }
    where
      same_number : (a : Association) → (disarmed_where ready a).number ≡ a.number
      same_number a = go (is_to_fire ready a)
        where
          go : (b : Bool) → association_number (if b then disarmed a else a) ≡ a.number
          go true = refl
          go false = refl

      same_port : (a : Association) → IsOfPort (length ports) a → IsOfPort (length ports) (disarmed_where ready a)
      same_port a k = go (is_to_fire ready a)
        where
          go : (b : Bool) → IsOfPort (length ports) (if b then disarmed a else a)
          go true = k
          go false = k

      one :
          (n q : ℕ) (a : Association) →
          ◌≡◌ {A = ℕ} (cond (is_queued_at n q (disarmed_where ready a)) 1 0) (cond (is_queued_at n q a) 1 0 + cond (fires_at ready n q a) 1 0)
      one n q a = go (is_to_fire ready a) refl
        where
          go :
              (b : Bool) → is_to_fire ready a ≡ b →
              ◌≡◌ {A = ℕ} (cond (is_queued_at n q (if b then disarmed a else a)) 1 0) (cond (is_queued_at n q a) 1 0 + cond (b && is_of n q a) 1 0)
          go true e = grind (arith, nat_tests)
          go false e = grind (arith, nat_tests)

      counted :
          (n q : ℕ) (ys : List Association) →
          count_by (is_queued_at n q) (map (disarmed_where ready) ys) ≡ count_by (is_queued_at n q) ys + count_by (fires_at ready n q) ys
      counted n q [] = omega arith
      counted n q (a ∷ ys) =
          omega (
            arith,
            counted n q ys,
            one n q a,
            count-cons (is_queued_at n q) a ys,
            count-cons (fires_at ready n q) a ys,
            count-cons (is_queued_at n q) (disarmed_where ready a) (map (disarmed_where ready) ys),
          )

-- how often a number is among those taken
abbrev pub occurs : ℕ → List ℕ → ℕ
occurs n ns = count_by (λ m. m == n) ns

pub counted_taken : (n : ℕ) (es : List Queued) → count_by (is_event_of n) es ≡ occurs n (filter_map association_of es)
counted_taken n [] = refl
counted_taken n (e ∷ es) = count-cons (is_event_of n) e es ∙ go e.assoc (counted_taken n es)
  where
    go :
        (o : Option ℕ) → count_by (is_event_of n) es ≡ occurs n (filter_map association_of es) →
        cond (is_number n o) 1 0 + count_by (is_event_of n) es ≡ occurs n (cons_option o (filter_map association_of es))
    go None rest = omega (arith, rest)
    go (Some m) rest = omega (arith, rest, count-cons (λ k. k == n) m (filter_map association_of es))

-- what ends by them
module _ (n : ℕ) (test : Association → Bool) (only : (a : Association) → test a ≡ true → (a.number == n) ≡ true) where
  no_other : (a : Association) → (a.number == n) ≡ false → test a ≡ false
  no_other a f = go (test a) (only a)
    where
      go : (b : Bool) → (b ≡ true → (a.number == n) ≡ true) → b ≡ false
      go true w = let here : (a.number == n) ≡ true = w refl in cc
      go false w = refl

  without_one : (m : ℕ) (xs : List Association) → count_by test (filter (has_other_number m) xs) ≡ (if m == n then 0 else count_by test xs)
  without_one m [] = go (m == n)
    where
      go : (b : Bool) → ◌≡◌ {A = ℕ} 0 (if b then 0 else 0)
      go true = refl
      go false = refl
  without_one m (a ∷ xs) = go (a.number == m) refl (m == n) refl (without_one m xs)
    where
      go :
          (b : Bool) → (a.number == m) ≡ b → (c : Bool) → (m == n) ≡ c →
          count_by test (filter (has_other_number m) xs) ≡ (if c then 0 else count_by test xs) →
          count_by test (if not b then a ∷ filter (has_other_number m) xs else filter (has_other_number m) xs)
          ≡ (if c then 0 else count_by test (a ∷ xs))
      go true f true g rest = rest
      go true f false g rest =
          rest ∙ sym (omega (arith, count-cons test a xs ∙ ap (λ b. cond b 1 0 + count_by test xs) (no_other a (grind (arith, nat_tests)))))
      go false f true g rest =
          omega (
            arith,
            rest,
            count-cons test a (filter (has_other_number m) xs)
                ∙ ap (λ b. cond b 1 0 + count_by test (filter (has_other_number m) xs)) (no_other a (grind (arith, nat_tests))),
          )
      go false f false g rest = omega (arith, rest, count-cons test a xs, count-cons test a (filter (has_other_number m) xs))

  pub without_taken :
      (ns : List ℕ) (list : AssociationList) →
      count_by test (retrieve_associations list ns).associations ≡ (if occurs n ns == 0 then count_by test list.associations else 0)
  without_taken [] list = refl
  without_taken (m ∷ ns) list =
      without_taken ns (retrieve_association list m)
      ∙ ap (λ k. if occurs n ns == 0 then k else 0) (without_one m list.associations)
      ∙ by (m == n) (occurs n ns) (count_by test list.associations)
      ∙ ap (λ j. if j == 0 then count_by test list.associations else 0) (sym (count-cons (λ k. k == n) m ns))
    where
      by : (b : Bool) (k c : ℕ) → (if k == 0 then (if b then 0 else c) else 0) ≡ (if cond b 1 0 + k == 0 then c else 0)
      by true k c = grind (arith, nat_tests)
      by false k c = grind (arith, nat_tests)

-- none is made by it
pub made_left : (ns : List ℕ) (list : AssociationList) → (retrieve_associations list ns).made ≡ list.made
made_left [] list = refl
made_left (n ∷ ns) list = made_left ns (retrieve_association list n)

order_left : (ns : List ℕ) (list : AssociationList) → IsAscending association_number 0 list.made list.associations → IsAscending association_number 0 (retrieve_associations list ns).made (retrieve_associations list ns).associations
order_left [] list h = h
order_left (n ∷ ns) list h =
    order_left ns (retrieve_association list n) (ascending-filter association_number (has_other_number n) list.associations 0 list.made h)

ports_left : (made : ℕ) (ns : List ℕ) (list : AssociationList) → All (IsOfPort made) list.associations → All (IsOfPort made) (retrieve_associations list ns).associations
ports_left made [] list h = h
ports_left made (n ∷ ns) list h =
    ports_left made ns (retrieve_association list n) (All-filter (has_other_number n) (IsOfPort made) list.associations h)

drop_nothing : (max : ℕ) → drop {A = Queued} max [] ≡ []
drop_nothing zero = refl
drop_nothing (suc max) = refl

-- what is found and what is left
pub parted : (n max : ℕ) (a : Option Alert) (queue : List Queued) → count_by (is_event_of n) (left_at max a queue) + occurs n (associations_of (found_at max a queue)) ≡ count_by (is_event_of n) queue
parted n max None queue = omega (arith, count-cut (is_event_of n) max queue, counted_taken n (take max queue))
parted n max (Some a) queue = omega arith

module _ (ports : List Port) (list : AssociationList) (h : AreAssociations ports list) (p max : ℕ) where
  abbrev taken : List ℕ
  taken = associations_of (events_found max (port_of ports p))

  -- events are taken, and the associations end that queued them
  pub take_some : AreAssociations (take_events ports p max) (retrieve_associations list taken)
  take_some =
      record {
        in_order = order_left taken list h.in_order;
        of_ports =
            subst (λ k. All (IsOfPort k) (retrieve_associations list taken).associations)
            (sym (length-change_at_number ports p (without_found max))) (ports_left (length ports) taken list h.of_ports);
        queued = λ n q.
            ap (count_by (is_event_of n)) (queue-change ports p q (without_found max) (λ none. drop_nothing max))
            ∙ go n q (q == p) refl (occurs n taken) refl
            ∙ sym (without_taken n (is_queued_at n q) (queued_has n q) taken list);
      }
    where
      past : (k : ℕ) → (suc k == 0) ≡ false
      past k = grind (arith, nat_tests)

      there : (n : ℕ) → count_by (is_event_of n) (left_at max (port_of ports p).alert (port_of ports p).queue) + occurs n taken ≡ tally n ports p
      there n = parted n max (port_of ports p).alert (port_of ports p).queue

      go :
          (n q : ℕ) (b : Bool) → (q == p) ≡ b → (k : ℕ) → occurs n taken ≡ k →
          count_by (is_event_of n) (if b then (without_found max (port_of ports q)).queue else (port_of ports q).queue)
          ≡ (if k == 0 then count_by (is_queued_at n q) list.associations else 0)
      go n q true e zero f =
          let same : q ≡ p = grind (arith, nat_tests) in
          ap (λ r. count_by (is_event_of n) (without_found max (port_of ports r)).queue) same
          ∙ omega (arith, there n, f)
          ∙ ap (tally n ports) (sym same)
          ∙ h.queued n q
      go n q false e zero f = h.queued n q
      go n q true e (suc k) f =
          let same : q ≡ p = grind (arith, nat_tests) in
          ap (λ r. count_by (is_event_of n) (without_found max (port_of ports r)).queue) same
          ∙ omega (
            arith,
            there n,
            f,
            h.queued n p,
            count-weaker (is_queued_at n p) (has association_number n) (queued_has n p) list.associations,
            once ports list h n,
          )
          ∙ ap (λ b. if b then count_by (is_queued_at n q) list.associations else 0) (sym (past k))
      go n q false e (suc k) f =
          omega (
            arith,
            there n,
            f,
            h.queued n p,
            h.queued n q,
            count-apart (is_queued_at n p) (is_queued_at n q) (has association_number n) (queued_apart n p q (grind (arith, nat_tests))) list.associations,
            once ports list h n,
          )
          ∙ ap (λ b. if b then count_by (is_queued_at n q) list.associations else 0) (sym (past k))

-- what port_send(3C), port_sendn(3C), port_alert(3C) and port_create(3C) leave

module _ (ports : List Port) (list : AssociationList) (h : AreAssociations ports list) where
  pub send_same : (p events user : ℕ) → AreAssociations (send_event ports p events user) list
  send_same p events user =
      same_queued ports list h (send_event ports p events user) (length-change_at_number ports p (with_event (user_event events user)))
      (λ n q. tally-same ports p q (with_event (user_event events user)) n
      (λ x. omega (arith, count-append (is_event_of n) x.queue (user_event events user ∷ []))))

  pub alert_same : (p events user : ℕ) → AreAssociations (alert_port ports p events user) list
  alert_same p events user =
      same_queued ports list h (alert_port ports p events user) (length-change_at_number ports p (with_alert events user))
      (λ n q. tally-same ports p q (with_alert events user) n (λ x. refl))

  pub port_more : AreAssociations (make_port ports) list
  port_more =
      record {
        in_order = h.in_order;
        of_ports =
            All-weaker (IsOfPort (length ports)) (IsOfPort (length (make_port ports)))
            (λ a k. (k.0, omega (arith, k.1, length-append ports (new_port (length ports + 1) ∷ [])))) list.associations h.of_ports;
        queued = λ n q. tally-made ports n q ∙ h.queued n q;
      }

pub sent_same : (ports : List Port) (list : AssociationList) (o : Option Obj) (events user : ℕ) → AreAssociations ports list → AreAssociations (after_sending ports o events user) list
sent_same ports list o events user h = go (is_none (sending_error ports o))
  where
    go : (b : Bool) → AreAssociations (if b then send_event ports (port_named o) events user else ports) list
    go true = send_same ports list h (port_named o) events user
    go false = h

pub all_sent_same :
    (ports : List Port) (list : AssociationList) (os : List (Option Obj)) (events user : ℕ) → AreAssociations ports list →
    AreAssociations (after_sending_each ports os events user) list
all_sent_same ports list [] events user h = h
all_sent_same ports list (o ∷ os) events user h =
    all_sent_same (after_sending ports o events user) list os events user (sent_same ports list o events user h)

-- port_associate(3C) and port_dissociate(3C)

leaves_key : (key : AssocKey) (a : Association) → has_key key a ≡ not (has_other_key key a)
leaves_key key a = go (has_key key a)
  where
    go : (b : Bool) → b ≡ not (not b)
    go true = refl
    go false = refl

module _ (c : Channels) (h : AreAssociations c.ports c.associations) (key : AssocKey) where
  pub dissociate_one : AreAssociations (dissociated c key).ports (dissociated c key).associations
  dissociate_one = end_some c.ports c.associations h (has_other_key key) (has_key key) (leaves_key key)

  pub associate_one :
      (object : Obj) (events : PollSet) (user : ℕ) → (1 ≤ key.port) × (key.port ≤ length c.ports) →
      AreAssociations (associated c key object events user).ports (associated c key object events user).associations
  associate_one object events user there =
      make_one (ports_without c key) (dissociated c key).associations dissociate_one key object events user
      (there.0, subst (λ k. key.port ≤ k) (sym (length-withdraw_events c.ports (filter (has_key key) c.associations.associations))) there.1)

-- none is made at first
pub no_association : AreAssociations [] (record { made = 0; associations = [] })
no_association =
    record {
      in_order = tt;
      of_ports = All-nil (IsOfPort 0);
      queued = λ n q. ap (λ o. count_by (is_event_of n) (port_in o).queue) (none q);
    }
  where
    none : (q : ℕ) → at_number {X = Port} [] q ≡ None
    none zero = refl
    none (suc k) = at_number-suc [] k
