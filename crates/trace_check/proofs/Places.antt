-- Where the first line `trace` begins, byte by byte.
use Rattle.std.proofs.Common.{◌≡◌, ℕ, ◌+◌, ◌-◌, ◌<◌, ◌≤◌, ◌==◌, Bool, true, false, List, ◌∷◌, length, take, drop, get_or, Option, Some, None, refl, sym, ap, ◌∙◌, subst, arith, add-one, drop-cons, length-drop}
use Rattle.std.specs.Prelude.{option_map, ◌&&◌, if◌then◌else◌}
use Rattle.std.proofs.lemmas.List.{take_all}
use Rattle.spec_traces.specs.Words.{begins_with_trace_line, trace_place, trace_place_from}

-- a place counted from so many bytes before
abbrev pub place_behind : ℕ → Option ℕ → Option ℕ
place_behind i place = option_map (λ k. k + i) place

-- it begins where it begins in the bytes from i on, of which the flag tells whether they begin a line
pub record IsPlaceFrom (input : List ℕ) (begins : Bool) (i : ℕ) : Type 0 where
  pub place : trace_place input ≡ place_behind i (trace_place_from begins (drop i input))

behind_none : (place : Option ℕ) → place ≡ place_behind 0 place
behind_none None = refl
behind_none (Some k) = ap Some (omega arith)

behind_one : (i : ℕ) (place : Option ℕ) → place_behind i (option_map (λ k. k + 1) place) ≡ place_behind (i + 1) place
behind_one i None = refl
behind_one i (Some k) = ap Some (omega arith)

pub place_at_start : (input : List ℕ) → IsPlaceFrom input true 0
unfolding trace_place
place_at_start input = record { place = behind_none (trace_place_from true input) }

from_byte : (begins : Bool) (b : ℕ) (rest bytes : List ℕ) → bytes ≡ b ∷ rest →
    trace_place_from begins bytes
    ≡ (if begins && begins_with_trace_line bytes then Some 0 else option_map (λ k. k + 1) (trace_place_from (b == 10) rest))
from_byte begins b rest bytes e =
    subst
    (λ (x : List ℕ). trace_place_from begins x ≡ (if begins && begins_with_trace_line x then Some 0 else option_map (λ k. k + 1) (trace_place_from (b == 10) rest)))
    (sym e)
    refl

byte_at : (input : List ℕ) (i : ℕ) → i < length input → drop i input ≡ get_or input i 0 ∷ drop (i + 1) input
byte_at input i within = rw (add-one, drop-cons input i 0)

at_place : (input : List ℕ) (begins : Bool) (i : ℕ) → i < length input →
    trace_place_from begins (drop i input)
    ≡ (if begins && begins_with_trace_line (drop i input)
    then Some 0
    else option_map (λ k. k + 1) (trace_place_from (get_or input i 0 == 10) (drop (i + 1) input)))
at_place input begins i within = from_byte begins (get_or input i 0) (drop (i + 1) input) (drop i input) (byte_at input i within)

-- it does not begin here
pub place_later : (input : List ℕ) (begins : Bool) (i : ℕ) → IsPlaceFrom input begins i → i < length input →
    (begins && begins_with_trace_line (drop i input)) ≡ false → IsPlaceFrom input (get_or input i 0 == 10) (i + 1)
place_later input begins i is within here =
    let rest : Option ℕ = trace_place_from (get_or input i 0 == 10) (drop (i + 1) input) in
    let later : trace_place_from begins (drop i input) ≡ option_map (λ k. k + 1) rest =
    at_place input begins i within ∙ ap (λ (b : Bool). if b then Some 0 else option_map (λ k. k + 1) rest) here in
    record { place = is.place ∙ ap (place_behind i) later ∙ behind_one i rest }

-- all bytes from i on
pub rest_whole : (i : ℕ) (s : List ℕ) → take (length s - i) (drop i s) ≡ drop i s
rest_whole i s =
    let count : length (drop i s) ≤ length s - i = rw length-drop (omega arith) in
    take_all (length s - i) (drop i s) count
