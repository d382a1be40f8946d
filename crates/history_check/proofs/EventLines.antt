-- What is found at an event, by what its thread may do.
use Rattle.std.proofs.Common.{◌≡◌, ℕ, Bool, true, false, List, Some, Result, Ok, Err, IfOk, refl}
use Rattle.std.specs.Prelude.{bytes_eq, codes}
use Rattle.spec_kernel.specs.Types.{Request, Tid}
use Rattle.spec_kernel.specs.Words.{Turn}
use Rattle.spec_histories.specs.Histories.{History, entry_of, grown}
use Rattle.history_text.specs.declared.line.Asked.TheVariants.{Enter, GoOn}
use Rattle.history_text.specs.declared.place.Stage.TheVariants.{Body}
use Rattle.history_text.specs.Words.{Names}
use Rattle.dk_base.specs.declared.event.What.{What}
use Rattle.history_check.specs.declared.finding.Finding.{Finding}
use Rattle.history_check.specs.declared.finding.Finding.TheVariants.{Illegal}
use Rattle.history_check.specs.Findings.{Finds, finding_of, reached}
use Rattle.history_check.specs.Judging.{found_at_event, found_at_turn, text_of_turn, wait_ends, wanted_of_waiting}
use Rattle.history_check.specs.Places.{Reached, state_of}
use Rattle.history_check.specs.Turns.{may_enter, may_go_on}

-- a finding by a comparison is the definition's, where the text is compared with the turn's line
by_test : (p : Reached) (text : List ℕ) (names : Names) (turn : Turn) (history : History) (test : Bool) →
    bytes_eq text (text_of_turn p turn) ≡ test → history ≡ grown p.history (entry_of (state_of p) turn) →
    Finds (found_at_turn p text names turn) (reached names Body history) (finding_of test (text_of_turn p turn))
by_test p text names turn history true e h = rw (e, h) refl
by_test p text names turn history false e h = rw e refl

same_line : (p : Reached) (text want : List ℕ) (names : Names) (turn : Turn) (history : History) (found : Finding) →
    want ≡ text_of_turn p turn → history ≡ grown p.history (entry_of (state_of p) turn) → found ≡ finding_of (bytes_eq text want) want →
    Finds (found_at_turn p text names turn) (reached names Body history) found
same_line p text want names turn history found w h f =
    rw (f, w) (by_test p text names turn history (bytes_eq text (text_of_turn p turn)) refl h)

pub took_turn : {E : Type 0} (r : Result Finding E) (p : Reached) (text want : List ℕ) (names after : Names) (turn : Turn) (history : History) →
    want ≡ text_of_turn p turn → after ≡ names → history ≡ grown p.history (entry_of (state_of p) turn) →
    IfOk r (λ found. found ≡ finding_of (bytes_eq text want) want) →
    IfOk r (λ found. Finds (found_at_turn p text names turn) (reached after Body history) found)
took_turn (Ok found) p text want names after turn history w n h f = rw n (same_line p text want names turn history found w h f)
took_turn (Err e) p text want names after turn history w n h f = f

pub entered : {E : Type 0} (r : Result Finding E) (p : Reached) (text : List ℕ) (names : Names) (now : Reached) (t : Tid) (request : Request) →
    may_enter (state_of p) t.0 request ≡ true →
    IfOk r (λ found. Finds (found_at_turn p text names (record { thread = t.0; request = Some request })) now found) →
    IfOk r (λ found. Finds (found_at_event p text names t (Enter request)) now found)
entered r p text names now t request may h = rw may h

pub not_entered : {E : Type 0} (r : Result Finding E) (p : Reached) (text : List ℕ) (names : Names) (now : Reached) (t : Tid) (request : Request) →
    may_enter (state_of p) t.0 request ≡ false → IfOk r (λ found. found ≡ Illegal (wanted_of_waiting p t)) →
    IfOk r (λ found. Finds (found_at_event p text names t (Enter request)) now found)
not_entered (Ok found) p text names now t request may h = rw (h, may) refl
not_entered (Err e) p text names now t request may h = h

pub went_on : {E : Type 0} (r : Result Finding E) (p : Reached) (text : List ℕ) (names : Names) (now : Reached) (t : Tid) (what : What) →
    may_go_on (state_of p) t.0 ≡ true →
    IfOk r (λ found. Finds (found_at_turn p text names (wait_ends t)) now found) →
    IfOk r (λ found. Finds (found_at_event p text names t (GoOn what)) now found)
went_on r p text names now t what may h = rw may h

pub not_went_on : {E : Type 0} (r : Result Finding E) (p : Reached) (text : List ℕ) (names : Names) (now : Reached) (t : Tid) (what : What) →
    may_go_on (state_of p) t.0 ≡ false → IfOk r (λ found. found ≡ Illegal (codes "turn")) →
    IfOk r (λ found. Finds (found_at_event p text names t (GoOn what)) now found)
not_went_on (Ok found) p text names now t what may h = rw (h, may) refl
not_went_on (Err e) p text names now t what may h = h

pub wanted_turn : {E : Type 0} (r : Result Finding E) (p : Reached) (t : Tid) →
    may_go_on (state_of p) t.0 ≡ false → IfOk r (λ found. found ≡ Illegal (codes "turn")) →
    IfOk r (λ found. found ≡ Illegal (wanted_of_waiting p t))
wanted_turn r p t may h = rw may h

pub wanted_end : {E : Type 0} (r : Result Finding E) (p : Reached) (t : Tid) (want : List ℕ) →
    may_go_on (state_of p) t.0 ≡ true → want ≡ text_of_turn p (wait_ends t) → IfOk r (λ found. found ≡ Illegal want) →
    IfOk r (λ found. found ≡ Illegal (wanted_of_waiting p t))
wanted_end r p t want may w h = rw (may, ← w) h
