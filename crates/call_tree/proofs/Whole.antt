-- The whole invariant: what it says of keys, and what each change of the calls keeps of it.
use Rattle.std.proofs.lemmas.Bool.Decides.{nat_tests}
use Rattle.std.proofs.Common.{◌≡◌, inl, inr, ◌<◌, ◌≤◌, ◌+◌, ◌-◌, ◌==◌, ℕ, zero, suc, Bool, true, List, [], ◌∷◌, ◌++◌, Some, None, find, length, set, refl, sym, ap, ◌∙◌, arith, subst}
use Rattle.std.proofs.lemmas.List.{get_or-set_same, get_or-set_other}
use Rattle.std.proofs.lemmas.Bool.{cases_eq}
use Rattle.dk_base.specs.declared.error.Errno.TheVariants.{EINTR}
use Rattle.spec_records.specs.declared.record.Call.{Call}
use Rattle.spec_records.specs.declared.record.CallStage.{CallStage}
use Rattle.spec_records.specs.declared.record.CallStage.TheVariants as stage
use Rattle.spec_records.specs.Words.{at_stage, is_given_to, is_served_by, is_to_collect, tid, without_arguments_at}
use Rattle.call_tree.specs.Words.{IsFound, calls_in, look, with_call, without_key}
use Rattle.call_tree.specs.Words.{CanLink, LinksValue, Linked, Sets, at}
use Rattle.call_tree.specs.Calls.{IsThread, is_called_by, is_given}
use Rattle.call_tree.specs.Index.{AreSingle, IsSound, IsWhole, Released, moved_to, server_number, stage_server}
use Rattle.call_tree.proofs.Looks.{find_no, test_same, test_other}
use Rattle.call_tree.proofs.Ties.{is_of_true}
use Rattle.call_tree.proofs.Changes.{look_new, look_old, apart_new, look_changed, look_kept, apart_changed, none_found, look_gone, look_left, apart_left, rising_changed, rising_left, rising_new}
use Rattle.call_tree.proofs.Indexing.{Indexed-ended, Indexed-given, Indexed-kept, Indexed-opened, Indexed-removed, none_or, server_is}
use Rattle.call_tree.proofs.Looks.{same_some}

pub set_sets : (xs : List ℕ) (i v : ℕ) → i < length xs → Sets (at xs) (at (set xs i v)) i v
set_sets xs i v h = record {
  changed = get_or-set_same xs i v 0 h;
  others = λ k n. get_or-set_other xs i k v 0 n;
}

at_within : (xs : List ℕ) (t : ℕ) → 0 < at xs t → t < length xs
at_within [] t h = absurd (omega arith)
at_within (x ∷ xs) zero h = omega arith
at_within (x ∷ xs) (suc t) h = omega (arith, at_within xs t h)

-- a call that is returned or has ended

unserved : (r : Call) (t : ℕ) → is_to_collect r.stage ≡ true → is_served_by t r ≡ true → ⊥
unserved r t h q = grind (arith, nat_tests)

no_server : (r : Call) → is_to_collect r.stage ≡ true → server_number r ≡ 0
no_server r h = grind (arith, nat_tests)

sound_ended : (r : Call) (s : CallStage) (a : Bool) → is_to_collect s ≡ true → IsSound r → IsSound (moved_to s a r)
sound_ended r s a h q =
    record {
      live = grind (arith, nat_tests);
      plain = λ k. grind (arith, nat_tests);
      bare = λ k. refl;
      caller = q.caller;
      server = λ t k. absurd (unserved (moved_to s a r) t h k);
    }

serves_number : (r : Call) → 0 < server_number r → is_served_by (server_number r) r ≡ true
serves_number r h = grind (arith, nat_tests)

-- a call that was given

pub given_stage : (s : CallStage) → is_given s ≡ true → (t : ℕ) × (is_given_to t s ≡ true)
given_stage s h = (stage_server s, grind (arith, nat_tests))

entered_served : (t u : ℕ) (r : Call) → is_given_to t r.stage ≡ true → is_served_by u (without_arguments_at (stage.Entered (tid t)) r) ≡ is_served_by u r
entered_served t u r g = grind (arith, nat_tests)

entered_number : (t : ℕ) (r : Call) → is_given_to t r.stage ≡ true → server_number (without_arguments_at (stage.Entered (tid t)) r) ≡ server_number r
entered_number t r g = grind (arith, nat_tests)

sound_entered : (t : ℕ) (r : Call) → is_given_to t r.stage ≡ true → IsSound r → IsSound (without_arguments_at (stage.Entered (tid t)) r)
sound_entered t r g w =
    record {
      live = refl;
      plain = λ q. w.plain (grind (arith, nat_tests));
      bare = λ q. refl;
      caller = w.caller;
      server = λ u q. w.server u (sym (entered_served t u r g) ∙ q);
    }

sound_given : (u : ℕ) (r : Call) → r.stage ≡ stage.Queued → IsThread u → IsSound r → IsSound (at_stage (stage.Given (tid u)) r)
sound_given u r q h w =
    record {
      live = refl;
      plain = λ k. w.plain (rw q refl);
      bare = λ k. absurd (cc);
      caller = w.caller;
      server = λ t k. grind (arith, nat_tests, h.0);
    }

-- the call of a key is the one that is known of
pub queued_there : (k : ℕ) (es : List (ℕ × Call)) (r : Call) → look k es ≡ Some r → (x : Call) × (look k es ≡ Some x) × (x.stage ≡ stage.Queued) → r.stage ≡ stage.Queued
queued_there k es r e h = ap (λ y. y.stage) (same_some r h.0 (sym e ∙ h.1)) ∙ h.2

pub given_there : (k : ℕ) (es : List (ℕ × Call)) (r : Call) → look k es ≡ Some r → (x : Call) × (look k es ≡ Some x) × (is_given x.stage ≡ true) → is_given r.stage ≡ true
given_there k es r e h = ap (λ y. is_given y.stage) (same_some r h.0 (sym e ∙ h.1)) ∙ h.2

module _ {links : LinksValue} {es : List (ℕ × Call)} {ck sk : List ℕ} (s : IsWhole links es ck sk) where
  pub single : AreSingle es
  single =
      record {
        apart = s.apart;
        caller = λ k j r x l m e. omega (arith, s.indexed.caller k r l, s.indexed.caller j x m, ap (at ck) e);
        number = s.indexed.once;
        server = λ t k j r x l m p q. omega (arith, s.indexed.server k t r l p, s.indexed.server j t x m q);
        below = λ k j r x l m q.
            let p = s.indexed.server j r.caller.0 x m q in
            omega (arith, (s.indexed.up_is r.caller.0 j x p m).1, (s.indexed.later k r l).0);
        sound = s.indexed.sound;
      }

  pub caller_none : (t : ℕ) → at ck t ≡ 0 → find (is_called_by t) (calls_in es) ≡ None
  caller_none t e = find_no (is_called_by t) es s.apart (λ k r l q. omega (arith, ap (at ck) (is_of_true r.caller.0 t q), s.indexed.caller k r l, e))

  pub caller_some : (t n : ℕ) → n ≡ at ck t → 0 < n → IsFound (is_called_by t) es (Some (n - 1))
  caller_some t n e h = let v = s.indexed.called t (n - 1) (omega (arith, e, h)) in (v.0, v.1, ap (λ x. x == t) v.2 ∙ test_same t)

  pub server_none : (t : ℕ) → at sk t ≡ 0 → find (is_served_by t) (calls_in es) ≡ None
  server_none t e = find_no (is_served_by t) es s.apart (λ k r l q. omega (arith, s.indexed.server k t r l q, e))

  pub server_some : (t n : ℕ) → n ≡ at sk t → 0 < n → IsFound (is_served_by t) es (Some (n - 1))
  server_some t n e h = s.indexed.serving t (n - 1) (omega (arith, e, h))

  pub caller_free : (t : ℕ) → find (is_called_by t) (calls_in es) ≡ None → at ck t ≡ 0
  caller_free t h = elim (none_or (at ck t)) [
    | inl e ↦ e
    | inr w ↦ let v = s.indexed.called t w.0 w.1 in absurd (none_found (is_called_by t) es h w.0 v.0 v.1 (ap (λ x. x == t) v.2 ∙ test_same t))
  ]

  pub server_free : (t : ℕ) → find (is_served_by t) (calls_in es) ≡ None → at sk t ≡ 0
  server_free t h = elim (none_or (at sk t)) [
    | inl e ↦ e
    | inr w ↦ let v = s.indexed.serving t w.0 w.1 in absurd (none_found (is_served_by t) es h w.0 v.0 v.1 v.2)
  ]

  pub opened :
      (k : ℕ) (r : Call) → length ck ≡ 65 → look k es ≡ None → r.stage ≡ stage.Queued → find (is_called_by r.caller.0) (calls_in es) ≡ None → IsSound r → r.number ≡ links.top + 1 →
      IsWhole (record links { top = r.number }) (es ++ (k, r) ∷ []) (set ck r.caller.0 (k + 1)) sk
  opened k r long fk q none sound number =
      let one : k + 1 ≡ suc k = omega arith in
      let sets = set_sets ck r.caller.0 (suc k) (omega (arith, sound.caller.1, long)) in
      rw one (record {
        apart = apart_new es k r fk s.apart;
        rising = rising_new es 0 links.top k r (omega arith) number s.rising;
        indexed = Indexed-opened s.indexed k r fk q (none_found (is_called_by r.caller.0) es none) sound (omega (arith, number)) refl (look_new es k r fk) (look_old es k r) sets;
      })

  queued_server : (r : Call) → r.stage ≡ stage.Queued → server_number r ≡ 0
  queued_server r e = grind (arith, nat_tests)

  pub can_link : (k u : ℕ) (r : Call) → look k es ≡ Some r → r.stage ≡ stage.Queued → find (is_served_by u) (calls_in es) ≡ None → find (is_called_by u) (calls_in es) ≡ None → IsThread u → CanLink links r.caller.0 u r.number
  can_link k u r is queued f i un =
      let free = server_free u f in
      let idle = caller_free u i in
      let l = s.indexed.later k r is in
      let n = (s.indexed.sound k r is).caller in
      let p = s.indexed.caller k r is in
      record {
        apart = λ e. omega (arith, ap (at ck) e, p, idle);
        caller = s.indexed.down_is r.caller.0 k r p is ∙ queued_server r queued;
        server = (s.indexed.up_none u free).0;
        idle = s.indexed.down_none u idle;
        later = l.0;
        made = l.1;
        caller_in = (n.0, omega (arith, n.1));
        server_in = (un.0, omega (arith, un.1));
      }

  pub given :
      (next : LinksValue) (k u : ℕ) (r : Call) → look k es ≡ Some r → r.stage ≡ stage.Queued → length sk ≡ 65 → find (is_served_by u) (calls_in es) ≡ None → find (is_called_by u) (calls_in es) ≡ None → IsThread u →
      Linked links next r.caller.0 u r.number → IsWhole next (with_call k (at_stage (stage.Given (tid u)) r) es) ck (set sk u (at ck r.caller.0))
  given next k u r is q long f i un l =
      let r' = at_stage (stage.Given (tid u)) r in
      rw (s.indexed.caller k r is) (record {
        apart = apart_changed es k r' s.apart;
        rising = rw l.top (rising_changed es 0 links.top k r r' is refl s.rising);
        indexed = rw l.top (Indexed-given s.indexed k u r is q (server_free u f) (caller_free u i) (sound_given u r q un (s.indexed.sound k r is)) (look_changed es k r' r is) (look_kept es k r') (set_sets sk u (suc k) (omega (arith, un.1, long))) l.up l.down l.rank);
      })

  pub entered : (k t : ℕ) (r : Call) → look k es ≡ Some r → is_given_to t r.stage ≡ true → IsWhole links (with_call k (without_arguments_at (stage.Entered (tid t)) r) es) ck sk
  entered k t r is g =
      let r' = without_arguments_at (stage.Entered (tid t)) r in
      record {
        apart = apart_changed es k r' s.apart;
        rising = rising_changed es 0 links.top k r r' is refl s.rising;
        indexed = Indexed-kept s.indexed k r r' is refl refl (λ u. entered_served t u r g) (entered_number t r g) (sound_entered t r g (s.indexed.sound k r is)) (look_changed es k r' r is) (look_kept es k r');
      }

  pub can_release : (k : ℕ) (r : Call) → look k es ≡ Some r → length sk ≡ 65 → 0 < server_number r → (server_number r ≤ 64) × (0 < at links.up (server_number r))
  can_release k r is long h =
      let q = serves_number r h in
      let p = s.indexed.server k (server_number r) r is q in
      let u = (s.indexed.up_is (server_number r) k r p is).0 in
      let c = (s.indexed.sound k r is).caller in
      (omega (arith, at_within sk (server_number r) (omega (arith, p)), long), omega (arith, u, c.0))

  pub ended :
      (next : LinksValue) (sk' : List ℕ) (k : ℕ) (r : Call) (t : CallStage) (a : Bool) → look k es ≡ Some r → is_to_collect t ≡ true → length sk ≡ 65 → Released (server_number r) links next sk sk' →
      IsWhole next (with_call k (moved_to t a r) es) ck sk'
  ended next sk' k r t a is h long l =
      by_server (server_number r) refl l
    where
      by_server : (n : ℕ) → server_number r ≡ n → Released n links next sk sk' → IsWhole next (with_call k (moved_to t a r) es) ck sk'
      by_server zero e l =
          let r' = moved_to t a r in
          let sound = s.indexed.sound k r is in
          let no : (u : ℕ) → is_served_by u r ≡ true → ⊥ = λ u q. omega (arith, sound.server u q, server_is r u q, e) in
          rw (l.0, l.1) (record {
            apart = apart_changed es k r' s.apart;
            rising = rising_changed es 0 links.top k r r' is refl s.rising;
            indexed = Indexed-kept s.indexed k r r' is refl refl (λ u. both_false (is_served_by u r') (is_served_by u r) (unserved r' u h) (no u)) (no_server r' h ∙ sym e) (sound_ended r t a h sound) (look_changed es k r' r is) (look_kept es k r');
          })
        where
          both_false : (b d : Bool) → (b ≡ true → ⊥) → (d ≡ true → ⊥) → b ≡ d
          both_false b d x y = grind (arith, nat_tests)
      by_server (suc u) e l =
          let r' = moved_to t a r in
          let q = subst (λ n. is_served_by n r ≡ true) e (serves_number r (omega (arith, e))) in
          let p = s.indexed.server k (suc u) r is q in
          let d = subst (λ x. Sets (at links.down) (at next.down) x 0) ((s.indexed.up_is (suc u) k r p is).0) l.0.down in
          rw l.1 (record {
            apart = apart_changed es k r' s.apart;
            rising = rw l.0.top (rising_changed es 0 links.top k r r' is refl s.rising);
            indexed = rw l.0.top (Indexed-ended s.indexed k (suc u) r r' is q refl refl (λ v z. unserved r' v h z) (no_server r' h) (sound_ended r t a h (s.indexed.sound k r is)) (look_changed es k r' r is) (look_kept es k r') (set_sets sk (suc u) 0 (at_within sk (suc u) (omega (arith, p)))) l.0.up d l.0.rank);
          })

  unserved_removed : (k : ℕ) (r : Call) → look k es ≡ Some r → is_to_collect r.stage ≡ true → length ck ≡ 65 → IsWhole links (without_key k es) (set ck r.caller.0 0) sk
  unserved_removed k r is h long =
      record {
        apart = apart_left es k s.apart;
        rising = rising_left es 0 links.top k s.rising;
        indexed = Indexed-removed s.indexed k r is (λ u q. unserved r u h q) (no_server r h) (look_gone es k s.apart) (look_left es k) (set_sets ck r.caller.0 0 (omega (arith, (s.indexed.sound k r is).caller.1, long)));
      }

removed_same : (k : ℕ) (r : Call) (es : List (ℕ × Call)) → without_key k (with_call k r es) ≡ without_key k es
removed_same k r [] = refl
removed_same k r (e ∷ es) = elim (cases_eq e.0 k) [
  | inl z ↦ rw (z, test_same k, test_same k) refl
  | inr n ↦ rw (test_other e.0 k n, test_other e.0 k n) (ap (λ xs. e ∷ xs) (removed_same k r es))
]

pub removed :
    {links : LinksValue} {es : List (ℕ × Call)} {ck sk : List ℕ} (s : IsWhole links es ck sk) (next : LinksValue) (sk' : List ℕ) (k : ℕ) (r : Call) →
    look k es ≡ Some r → length ck ≡ 65 → length sk ≡ 65 → Released (server_number r) links next sk sk' → IsWhole next (without_key k es) (set ck r.caller.0 0) sk'
removed {links} {es} {ck} {sk} s next sk' k r is long_c long_s l =
    let r' = moved_to (stage.Ended EINTR) true r in
    let w = ended s next sk' k r (stage.Ended EINTR) true is refl long_s l in
    subst (λ xs. IsWhole next xs (set ck r.caller.0 0) sk') (removed_same k r' es) (unserved_removed w k r' (look_changed es k r' r is) refl long_c)
