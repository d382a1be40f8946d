-- What a call of a seat does, put together from its turn and what it did there.
use Rattle.std.proofs.Common.{◌≡◌, ℕ, List, [], ◌∷◌, ◌++◌, length, ap, refl, subst, sym, ◌∙◌, arith}
use mathlib.Core.List.{IsPrefix}
use Rattle.spec_kernel.specs.Words.{State}
use Rattle.spec_histories.specs.declared.call.SeatAct.{SeatAct}
use Rattle.spec_histories.specs.declared.call.SeatReply.{SeatReply}
use Rattle.seat_table.specs.Rule.{InTurn, TakesTurn, left, opened, told}
use Rattle.seat_table.proofs.Entries.{by-mine}
use Rattle.spec_histories.specs.declared.entry.SeatEntry.{SeatEntry}
use Rattle.seat_api.specs.History.{IsLegal, by, reply_of, state_after}
use Rattle.seat_api.specs.Seating.{Chair, Extends, Sits, Sitting, entry_of}
use Rattle.seat_desk.proofs.Histories.{legal-last}

-- a desk is seen as its history, of whose entries each tells its seat

abbrev whole_of : List SeatEntry → List SeatEntry
whole_of es = es

abbrev seat_of : SeatEntry → ℕ
seat_of e = e.seat

-- over plain lists: `whole` is the history before the entry
extends_whole :
    (opening : State) (v w : Chair) (act : SeatAct) (reply : SeatReply) (whole : List SeatEntry) → IsPrefix v.seen whole →
    v.mine ≡ by v.number whole → w.seen ≡ whole ++ entry_of v act reply ∷ [] → w.mine ≡ by v.number (whole ++ entry_of v act reply ∷ []) →
    IsLegal opening (whole ++ entry_of v act reply ∷ []) → Extends opening v w act reply
extends_whole opening v w act reply whole begins was seen mine legal =
    let e : SeatEntry = entry_of v act reply in
    record {
      between = begins.0;
      seen = seen ∙ ap (λ es. es ++ e ∷ []) (sym begins.1);
      position =
          subst (λ es. reply ≡ reply_of (state_after opening es) v.thread.0 act) (sym begins.1) (legal-last opening [] whole e legal).reply;
      legal = subst (IsLegal opening) (sym seen) legal;
      mine = mine ∙ (by-mine seat_of v.number whole e (λ i. v.number) ∙ ap (λ es. es ++ e ∷ []) (sym was));
      all_mine = ap (by v.number) seen ∙ sym mine;
    }

-- `m` is the seat before its turn, and `n` in it, with the history `d`
module _ (m n : Sitting) (d : List SeatEntry) (turn : TakesTurn whole_of seat_of m n d) where
  pub in_turn : m.0.sits ≡ 1 → InTurn n
  in_turn sits = (ap (λ (s : Sitting). s.0.sits) turn.1 ∙ sits, (turn.0, ap (λ (s : Sitting). s.0.stage) turn.1), ap (λ (s : Sitting). s.1) turn.1)

  pub counted : (number made : ℕ) → m.0.number ≡ number → length m.0.mine ≡ made → made ≡ length (by number d)
  counted number made is count = sym count ∙ (ap (λ (es : List SeatEntry). length es) turn.2.mine ∙ ap (λ (i : ℕ). length (by i d)) is)

  pub is_whole : (es : List SeatEntry) → es ≡ d → es ≡ n.0.whole
  is_whole es is = is ∙ sym (ap (λ (s : Sitting). s.0.whole) turn.1)

  pub has_entry :
      (all : List SeatEntry) (e : SeatEntry) → all ≡ d ++ e ∷ [] → m.0.number ≡ e.seat →
      (e : SeatEntry) × (all ≡ n.0.whole ++ e ∷ []) × (e.seat ≡ n.0.number)
  has_entry all e is number = (
    e,
    is ∙ ap (λ (es : List SeatEntry). es ++ e ∷ []) (sym (ap (λ (s : Sitting). s.0.whole) turn.1)),
    sym (ap (λ (s : Sitting). s.0.number) turn.1 ∙ number),
  )

  -- `k` is the seat after its turn
  pub extends :
      (opening : State) (k : Sitting) (all : List SeatEntry) (v w : Chair) (act : SeatAct) (reply : SeatReply) (made : ℕ) →
      k ≡ (left (told seat_of n.0 all), []) →
      all ≡ d ++ record { seat = v.number; number = made; thread = v.thread; act = act; reply = reply } ∷ [] → IsLegal opening all →
      m.0.number ≡ v.number → length m.0.mine ≡ made → v.seen ≡ m.0.seen → v.mine ≡ m.0.mine → w.seen ≡ k.0.seen → w.mine ≡ k.0.mine →
      Extends opening v w act reply
  extends opening k all v w act reply made after all_is legal number count seen mine seen_now mine_now =
      let its_number : n.0.number ≡ v.number = ap (λ (s : Sitting). s.0.number) turn.1 ∙ number in
      let its_count : made ≡ length v.mine = sym count ∙ ap (λ (es : List SeatEntry). length es) (sym mine) in
      let is : all ≡ d ++ entry_of v act reply ∷ [] =
      all_is
      ∙ ap (λ (i : ℕ). d ++ record { seat = v.number; number = i; thread = v.thread; act = act; reply = reply } ∷ []) its_count in
      extends_whole opening v w act reply d (subst (λ (es : List SeatEntry). IsPrefix es d) (sym seen) turn.2.seen)
      (mine ∙ (turn.2.mine ∙ ap (λ (i : ℕ). by i d) number))
      (seen_now ∙ (ap (λ (s : Sitting). s.0.seen) after ∙ is))
      (mine_now ∙ (ap (λ (s : Sitting). s.0.mine) after ∙ (ap (λ (i : ℕ). by i all) its_number ∙ ap (by v.number) is)))
      (subst (IsLegal opening) is legal)

-- the seat that comes with a table
pub sits_first : (m : Sitting) → m ≡ (opened, []) → Sits m 0 0 0 1
sits_first m is =
    subst (λ m. Sits m 0 0 0 1) (sym is)
    record {
      empty = refl;
      out = refl;
      sits = refl;
      whole = refl;
      number_is = refl;
      made_is = refl;
      calls_are = refl;
      next_is = refl;
      first = λ _. omega arith;
      few = (omega arith, omega arith, omega arith);
    }
