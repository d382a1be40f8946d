-- What an association that fires has queued: its event, as the state after the event has it.
use Rattle.std.specs.Prelude.{ℕ, ◌≡◌, ◌+◌, ◌++◌, ◌≤◌, ◌<◌, ◌==◌, ◌&&◌, List, [], ◌∷◌, Option, Bool, true, false, if◌then◌else◌, Some, None, count_by, filter, find, length, map, All}
use Rattle.std.proofs.Common.{true≢false, cond, refl, sym, ap, subst, ◌∙◌}
use native.Mathlib.Omega.{arith}
use Rattle.std.proofs.lemmas.Bool.Decides.{nat_tests}
use Rattle.std.proofs.lemmas.List.Elements.{All-head, All-tail}
use Rattle.dk_base.specs.declared.set.PollSet.{PollSet}
use Rattle.dk_base.specs.ByNumber.{at_number}
use Rattle.spec_records.specs.declared.association.Association.{Association}
use Rattle.spec_records.specs.Words.{IsAscending, Port, all_fired, association_number, fired_where, is_event_of, is_to_fire, port_of, post_event, post_fired, with_event}
use Rattle.spec_records.proofs.Lists.{numbered_there}
use Rattle.spec_kernel.specs.Types.{Obj, Queued}
use Rattle.law_channels.specs.Associations.{IsOfPort}
use Rattle.law_channels.proofs.Bounds.{length-change_at_number}
use Rattle.law_channels.proofs.Queues.{queue-change, tally, tally-post}
use Rattle.law_channels.proofs.Tally.{count-cons}
use Rattle.law_runs.specs.OneShot.{under}

module _ {X : Type 0} (p : X → Bool) where
  find-other : (xs : List X) (x : X) → p x ≡ false → find p (xs ++ x ∷ []) ≡ find p xs
  find-other [] x e = ap (λ (b : Bool). if b then Some x else None) e
  find-other (y ∷ ys) x e = ap (λ o. if p y then Some y else o) (find-other ys x e)

  find-last : (xs : List X) (x : X) → p x ≡ true → count_by p xs ≡ 0 → find p (xs ++ x ∷ []) ≡ Some x
  find-last [] x e c = ap (λ (b : Bool). if b then Some x else None) e
  find-last (y ∷ ys) x e c = go (p y) refl (λ d. find-last ys x e d)
    where
      go : (b : Bool) → p y ≡ b → (count_by p ys ≡ 0 → find p (ys ++ x ∷ []) ≡ Some x) → (if b then Some y else find p (ys ++ x ∷ [])) ≡ Some x
      go true f rest = absurd (omega (arith, c, count-cons p y ys ∙ ap (λ b. cond b 1 0 + count_by p ys) f))
      go false f rest = rest (omega (arith, c, count-cons p y ys ∙ ap (λ b. cond b 1 0 + count_by p ys) f))

-- the event of a number in the queue of a port
abbrev pub queued_event : ℕ → List Port → ℕ → Option Queued
queued_event n ports q = find (is_event_of n) (port_of ports q).queue

missing : (ports : List Port) (p : ℕ) → (1 ≤ p) × (p ≤ length ports) → at_number ports p ≡ None → ⊥
missing ports p h none = cc (numbered_there ports p h.0 h.1)

module _ (n : ℕ) (ports : List Port) (p q : ℕ) (e : Queued) (there : (1 ≤ p) × (p ≤ length ports)) where
  posted-queue : (port_of (post_event ports p e) q).queue ≡ (if q == p then (port_of ports q).queue ++ e ∷ [] else (port_of ports q).queue)
  posted-queue = queue-change ports p q (with_event e) (λ none. absurd (missing ports p there none))

  posted-other : is_event_of n e ≡ false → queued_event n (post_event ports p e) q ≡ queued_event n ports q
  posted-other f = ap (find (is_event_of n)) posted-queue ∙ go (q == p)
    where
      go : (b : Bool) → find (is_event_of n) (if b then (port_of ports q).queue ++ e ∷ [] else (port_of ports q).queue) ≡ queued_event n ports q
      go true = find-other (is_event_of n) (port_of ports q).queue e f
      go false = refl

  posted-here : is_event_of n e ≡ true → (q == p) ≡ true → tally n ports q ≡ 0 → queued_event n (post_event ports p e) q ≡ Some e
  posted-here f g c =
      ap (find (is_event_of n)) posted-queue
      ∙ ap (λ (b : Bool). find (is_event_of n) (if b then (port_of ports q).queue ++ e ∷ [] else (port_of ports q).queue)) g
      ∙ find-last (is_event_of n) (port_of ports q).queue e f c

module _ (n : ℕ) (ready : Obj → PollSet) where
  -- where none has the number, nothing of it is queued
  fired-others :
      (ports : List Port) (xs : List Association) (q low made : ℕ) → n ≤ low → IsAscending association_number low made xs → All (IsOfPort (length ports)) xs →
      queued_event n (post_fired ports (all_fired ready xs)) q ≡ queued_event n ports q
  fired-others ports [] q low made l h all = refl
  fired-others ports (a ∷ xs) q low made l h all =
      go (is_to_fire ready a) (λ k same. fired-others k xs q a.number made (omega (arith, h.0)) h.2 (subst (λ z. All (IsOfPort z) xs) (sym same) (All-tail (IsOfPort (length ports)) a xs all)))
    where
      other : is_event_of n (fired_where ready a).queued ≡ false
      other = let high : low < a.number = h.0 in grind (arith, nat_tests)

      go :
          (b : Bool) → ((k : List Port) → length k ≡ length ports → queued_event n (post_fired k (all_fired ready xs)) q ≡ queued_event n k q) →
          queued_event n (post_fired ports (map (fired_where ready) (if b then a ∷ filter (is_to_fire ready) xs else filter (is_to_fire ready) xs))) q ≡ queued_event n ports q
      go true rest =
          rest (post_event ports a.key.port (fired_where ready a).queued) (length-change_at_number ports a.key.port (with_event (fired_where ready a).queued))
          ∙ posted-other n ports a.key.port q (fired_where ready a).queued (All-head (IsOfPort (length ports)) a xs all) other
      go false rest = rest ports refl

  pub fired-event :
      (ports : List Port) (xs : List Association) (low made : ℕ) (a : Association) → IsAscending association_number low made xs →
      All (IsOfPort (length ports)) xs → under n xs ≡ Some a → is_to_fire ready a ≡ true → tally n ports a.key.port ≡ 0 →
      queued_event n (post_fired ports (all_fired ready xs)) a.key.port ≡ Some (fired_where ready a).queued
  fired-event ports [] low made a h all e f c = cc
  fired-event ports (x ∷ xs) low made a h all e f c =
      go (x.number == n) refl e (is_to_fire ready x) refl
      (λ k same l g. fired-event k xs x.number made a h.2 (subst (λ z. All (IsOfPort z) xs) (sym same) (All-tail (IsOfPort (length ports)) x xs all)) l f g)
    where
      go :
          (b : Bool) → (x.number == n) ≡ b → (if b then Some x else under n xs) ≡ Some a → (d : Bool) → is_to_fire ready x ≡ d →
          ((k : List Port) → length k ≡ length ports → under n xs ≡ Some a → tally n k a.key.port ≡ 0 → queued_event n (post_fired k (all_fired ready xs)) a.key.port ≡ Some (fired_where ready a).queued) →
          queued_event n (post_fired ports (map (fired_where ready) (if d then x ∷ filter (is_to_fire ready) xs else filter (is_to_fire ready) xs))) a.key.port ≡ Some (fired_where ready a).queued
      go true g l false r rest = let same : x ≡ a = cc in absurd (true≢false (sym (ap (is_to_fire ready) same ∙ f) ∙ r))
      go true g l true r rest =
          let same : x ≡ a = cc in
          let number : x.number ≡ n = grind (arith, nat_tests) in
          let port : (a.key.port == x.key.port) ≡ true = grind (arith, nat_tests) in
          fired-others (post_event ports x.key.port (fired_where ready x).queued) xs a.key.port x.number made (omega arith) h.2
          (subst (λ z. All (IsOfPort z) xs) (sym (length-change_at_number ports x.key.port (with_event (fired_where ready x).queued))) (All-tail (IsOfPort (length ports)) x xs all))
          ∙ posted-here n ports x.key.port a.key.port (fired_where ready x).queued (All-head (IsOfPort (length ports)) x xs all) g port c
          ∙ ap (λ (y : Association). Some (fired_where ready y).queued) same
      go false g l true r rest =
          rest (post_event ports x.key.port (fired_where ready x).queued) (length-change_at_number ports x.key.port (with_event (fired_where ready x).queued)) l
          (omega (
            arith,
            c,
            tally-post ports x.key.port n a.key.port (fired_where ready x).queued (All-head (IsOfPort (length ports)) x xs all)
                ∙ ap (λ (b : Bool). tally n ports a.key.port + cond (b && (x.key.port == a.key.port)) 1 0) g,
          ))
      go false g l false r rest = rest ports refl l c
