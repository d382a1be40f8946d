-- A legal history with one more entry, and one that begins.
use Rattle.std.proofs.Common.{◌≡◌, ◌<◌, ◌≤◌, ℕ, List, [], ◌∷◌, ◌++◌, Option, None, Some, length, refl, sym, subst, ◌∙◌, arith}
use Rattle.std.proofs.lemmas.List.{length-map}
use Rattle.dk_base.specs.declared.limits.TheConstants.{EVENTS_MAX}
use Rattle.spec_kernel.specs.Types.{Request}
use Rattle.spec_kernel.specs.Words.{IsOpening, MayTurn, StandsFor, State, state_after, state_after_turn, step}
use Rattle.spec_kernel.proofs.Opening.{forget-opening, opened}
use Rattle.spec_kernel.proofs.Runs.{events-state_after}
use Rattle.spec_kernel.proofs.Steps.{events-step}
use Rattle.spec_histories.specs.Histories.{Entry, Follows, History, IsHistory, IsLegal, IsRecord, begun, end, grown, next, turn_of, turns_of}

state-grown : (m : State) (es : List Entry) (e : Entry) → state_after m (turns_of (es ++ e ∷ [])) ≡ state_after_turn (state_after m (turns_of es)) e.turn
state-grown m [] e = refl
state-grown m (x ∷ es) e = state-grown (state_after_turn m x.turn) es e

legal-grown : (m : State) (es : List Entry) (e : Entry) → IsLegal m es → Follows (state_after m (turns_of es)) e → IsLegal m (es ++ e ∷ [])
legal-grown m [] e l f = (f, tt)
legal-grown m (x ∷ es) e l f = (l.0, legal-grown (state_after_turn m x.turn) es e l.1 f)

history-grown : (h : History) (t : ℕ) (q : Option Request) → IsHistory h → MayTurn (end h) t q → IsHistory (grown h (next h t q))
history-grown h t q is may =
    record { opens = is.opens; legal = legal-grown h.opening h.entries (next h t q) is.legal (record { may = may; is = refl }) }

-- a kernel that did the step stands at the end of the history with its entry
pub record-grown :
    (kernel after : State) (h now : History) (t : ℕ) (q : Option Request) → IsRecord kernel h → now ≡ grown h (next h t q) → MayTurn (end h) t q →
    StandsFor after (step (end h) t q).state → IsRecord after now
record-grown kernel after h now t q is same may stands =
    subst (IsRecord after) (sym same)
    (record {
      history = history-grown h t q is.history may;
      stands = subst (StandsFor after) (sym (state-grown h.opening h.entries (next h t q))) stands;
    })

pub record-begun : (kernel opening : State) (h : History) → h ≡ begun opening → kernel ≡ opening → IsOpening kernel → IsRecord kernel h
record-begun kernel opening h is same opens =
    let o : IsOpening opening = subst IsOpening same opens in
    subst (IsRecord kernel) (sym is) (record { history = record { opens = o; legal = tt }; stands = same ∙ sym (forget-opening o) })

-- how many events there were at the end of a legal history
pub events-end : (h : History) → IsHistory h → (end h).events ≡ length h.entries
events-end h is =
    let opening : h.opening.events ≡ 0 = (opened is.opens).events in
    let turns : length (turns_of h.entries) ≡ length h.entries = length-map h.entries turn_of in
    omega (arith, events-state_after h.opening (turns_of h.entries))

few-turn : (m : State) (t : ℕ) (q : Option Request) → MayTurn m t q → m.events < EVENTS_MAX
few-turn m t (Some r) may = may.few
few-turn m t None may = may.few

few-after : (m : State) (es : List Entry) → IsLegal m es → m.events ≤ EVENTS_MAX → (state_after m (turns_of es)).events ≤ EVENTS_MAX
few-after m [] l few = few
few-after m (e ∷ es) l few =
    let before = few-turn m e.turn.thread e.turn.request l.0.may in
    few-after (state_after_turn m e.turn) es l.1 (omega (arith, events-step m e.turn.thread e.turn.request))

pub few-end : (h : History) → IsHistory h → (end h).events ≤ EVENTS_MAX
few-end h is = let opening : h.opening.events ≡ 0 = (opened is.opens).events in few-after h.opening h.entries is.legal (omega arith)
