-- A script and the trace that stands after it, in one input.
use Rattle.std.specs.Prelude.{ℕ, ◌≡◌, ◌+◌, ◌==◌, ◌&&◌, ◌||◌, ◌⊎◌, Bool, true, false, List, [], ◌∷◌, ◌++◌, Option, Some, None, option_map, take, drop, length, bytes_eq, codes, if◌then◌else◌}
use Rattle.std.specs.List.{list_any}
use Rattle.line_text.specs.Words.{lines_of}

-- the line after which the trace stands
abbrev pub trace_line : List ℕ
trace_line = codes "trace"

abbrev pub is_trace_line : List ℕ → Bool
is_trace_line line = bytes_eq line trace_line

-- the bytes begin with that line; it may lack its line feed, which is 10, where they end with it
abbrev pub begins_with_trace_line : List ℕ → Bool
begins_with_trace_line bytes = bytes_eq bytes trace_line || bytes_eq (trace_line ++ 10 ∷ []) (take 6 bytes)

-- where the first line begins that is exactly `trace`; the flag tells whether these bytes begin a line
abbrev pub trace_place_from : Bool → List ℕ → Option ℕ
trace_place_from begins [] = None
trace_place_from begins (b ∷ bs) =
    if begins && begins_with_trace_line (b ∷ bs) then Some 0 else option_map (λ place. place + 1) (trace_place_from (b == 10) bs)

unfoldable pub trace_place : List ℕ → Option ℕ
trace_place input = trace_place_from true input

abbrev pub before_place : List ℕ → Option ℕ → List ℕ
before_place input None = input
before_place input (Some place) = take place input

-- all lines before the first that is exactly `trace`, or the whole input where there is no such line
abbrev pub script_part : List ℕ → List ℕ
script_part input = before_place input (trace_place input)

-- what stands after that line
abbrev pub trace_part : List ℕ → Option (List ℕ)
trace_part input = option_map (λ place. drop (place + 6) input) (trace_place input)

-- the number of the line after the last of a text
abbrev pub line_after_last : List ℕ → ℕ
line_after_last text = length (lines_of text) + 1

-- what the two parts are, with no search: the first line that is exactly `trace` stands between them
pub record AreParts (input script trace : List ℕ) : Type 0 where
  -- byte by byte: the line may lack its line feed where nothing follows
  pub bytes : (input ≡ script ++ trace_line ++ 10 ∷ trace) ⊎ ((input ≡ script ++ trace_line) × (trace ≡ []))
  -- line by line
  pub lines : lines_of input ≡ lines_of script ++ trace_line ∷ lines_of trace
  -- it is the first
  pub first : list_any is_trace_line (lines_of script) ≡ false

-- no line of the input is exactly `trace`, and all of it is the script's
pub record HasNoTrace (input : List ℕ) : Type 0 where
  pub whole : script_part input ≡ input
  pub none : list_any is_trace_line (lines_of input) ≡ false
