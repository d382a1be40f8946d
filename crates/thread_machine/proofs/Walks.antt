-- How a place moves over one line, by its kind.
use Rattle.std.proofs.Common.{◌≡◌, ℕ, ◌+◌, Bool, List, [], ◌∷◌, ◌++◌, length, drop, Some, None, refl, ap, ◌∙◌, subst, append_assoc, arith, zero, suc, add-one}
use Rattle.std.specs.Prelude.{slice_get, if◌then◌else◌}
use Rattle.script_lang.specs.Types.{Cond, Line}
use Rattle.line_forms.specs.declared.line.Kind.TheVariants.{Act}
use Rattle.line_forms.specs.Words.{kind_of}
use Rattle.spec_requests.specs.Words.{BodyStep, blocks_of, copies, innermost_block, line_before, next_steps, outer_blocks, steps_of_body}
use Rattle.spec_requests.specs.Steps.BodyStep.{Do, When}
use Rattle.thread_machine.specs.declared.place.Place.{Place}
use Rattle.thread_machine.specs.declared.stack.Turns.{Turns}
use Rattle.thread_machine.specs.Places.{steps_from_blocks, steps_from, blocks_at, AtCommand, IsNestedLine, IsNested, AreOpen, StandsAt}
use Rattle.thread_machine.proofs.Positions.{drop-at, drop-end}

abbrev pub place_at : ℕ → List Turns → Place
place_at position blocks = record { position = position; blocks = blocks }

-- what is open around a place is told by the blocks around its own

pub AreOpen-same :
    (body : List Line) (turns : List Turns) (xs ys : List (List BodyStep)) → outer_blocks xs ≡ outer_blocks ys → AreOpen body turns xs →
    AreOpen body turns ys
AreOpen-same body [] xs ys e h = tt
AreOpen-same body (turns ∷ outer) xs ys e h = (
  λ left. record {
    around = (h.0 left).around ∙ e;
    nested = (h.0 left).nested;
    command = (h.0 left).command;
  },
  subst (λ (zs : List (List BodyStep)). AreOpen body outer zs) e h.1,
)

pub steps_from_blocks-same :
    (body : List Line) (turns : List Turns) (xs ys : List (List BodyStep)) → innermost_block xs ≡ innermost_block ys →
    outer_blocks xs ≡ outer_blocks ys → steps_from_blocks body turns xs ≡ steps_from_blocks body turns ys
steps_from_blocks-same body [] xs ys first others = first
steps_from_blocks-same body (turns ∷ outer) xs ys first others = rw (first, others) refl

-- steps before the innermost block are ahead of all
pub steps_from_blocks-before :
    (body : List Line) (turns : List Turns) (steps : List BodyStep) (xs ys : List (List BodyStep)) →
    innermost_block xs ≡ steps ++ innermost_block ys → outer_blocks xs ≡ outer_blocks ys →
    steps_from_blocks body turns xs ≡ steps ++ steps_from_blocks body turns ys
steps_from_blocks-before body [] steps xs ys first others = first
steps_from_blocks-before body (turns ∷ outer) steps xs ys first others =
    rw (first, others)
    (append_assoc steps (innermost_block ys) (copies turns.left (steps_of_body (drop turns.start body)) ++ steps_from_blocks body outer (outer_blocks ys)))

-- the lines from a position on
pub record LineAt (body : List Line) (position : ℕ) (line : Line) : Type 0 where
  pub lines : drop position body ≡ line ∷ drop (position + 1) body
  pub blocks : blocks_at body position ≡ line_before line (kind_of line) (blocks_at body (position + 1))

pub line-at : (body : List Line) (position : ℕ) (line : Line) → slice_get body position ≡ Some line → LineAt body position line
line-at body position line h =
    let e : drop position body ≡ line ∷ drop (suc position) body = drop-at body position line h
    in let there : drop position body ≡ line ∷ drop (position + 1) body = rw add-one e
    in record { lines = there; blocks = ap blocks_of there }

pub nested-here :
    (body : List Line) (position depth : ℕ) (line : Line) → LineAt body position line → IsNested depth (drop position body) →
    IsNestedLine (kind_of line) depth line (drop (position + 1) body) (λ after. IsNested after (drop (position + 1) body))
nested-here body position depth line l h = subst (λ (lines : List Line). IsNested depth lines) l.lines h

-- after a command
pub record Advanced (body : List Line) (position : ℕ) (turns : List Turns) (line : Line) : Type 0 where
  pub stands : StandsAt body (place_at (position + 1) turns)
  pub ahead : steps_from body (place_at position turns) ≡ Do line ∷ steps_from body (place_at (position + 1) turns)

pub advance :
    (body : List Line) (position : ℕ) (turns : List Turns) (line : Line) → slice_get body position ≡ Some line →
    kind_of line ≡ Act → StandsAt body (place_at position turns) → Advanced body position turns line
advance body position turns line at act h =
    let l : LineAt body position line = line-at body position line at
    in let e : blocks_at body position ≡ line_before line Act (blocks_at body (position + 1)) = rw act at l.blocks
    in let nested : IsNested (length turns) (drop (position + 1) body) =
    rw act at (nested-here body position (length turns) line l h.nested)
    in record {
      stands = record {
        few = h.few;
        nested = nested;
        around = AreOpen-same body turns (blocks_at body position) (blocks_at body (position + 1)) (ap outer_blocks e) h.around;
      };
      ahead =
          steps_from_blocks-before
          body
          turns
          (Do line ∷ [])
          (blocks_at body position)
          (blocks_at body (position + 1))
          (ap innermost_block e)
          (ap outer_blocks e);
    }

-- no step is ahead at the end of the lines
pub steps_from-end :
    (body : List Line) (position : ℕ) (turns : List Turns) → slice_get body position ≡ None →
    StandsAt body (place_at position turns) → steps_from body (place_at position turns) ≡ []
steps_from-end body position [] at h = rw (drop-end body position at) refl
steps_from-end body position (turns ∷ outer) at h =
    let nested : suc (length outer) ≡ 0 = rw (drop-end body position at) at h.nested in absurd (omega arith)

-- at a command or at the end no test is ahead
pub next_steps-command :
    (is_met : Cond → Bool) (body : List Line) (position : ℕ) (turns : List Turns) → AtCommand (drop position body) →
    StandsAt body (place_at position turns) →
    next_steps is_met 0 (steps_from body (place_at position turns)) ≡ steps_from body (place_at position turns)
next_steps-command is_met body position turns command h = by_line (slice_get body position) refl
  where
    by_line :
        (found : _) → slice_get body position ≡ found →
        next_steps is_met 0 (steps_from body (place_at position turns)) ≡ steps_from body (place_at position turns)
    by_line None at = rw (steps_from-end body position turns at h) refl
    by_line (Some line) at =
        let act : kind_of line ≡ Act = subst AtCommand (drop-at body position line at) command
        in rw ((advance body position turns line at act h).ahead) refl

-- the tests of skipped steps are not asked
pub next_steps-skipped :
    (is_met : Cond → Bool) (xs ys : List BodyStep) → next_steps is_met (length xs) (xs ++ ys) ≡ next_steps is_met 0 ys
next_steps-skipped is_met [] ys = refl
next_steps-skipped is_met (x ∷ xs) ys = next_steps-skipped is_met xs ys

pub next_steps-same :
    (f g : Cond → Bool) (skip : ℕ) (steps : List BodyStep) → ((cond : Cond) → f cond ≡ g cond) →
    next_steps f skip steps ≡ next_steps g skip steps
next_steps-same f g skip [] h = refl
next_steps-same f g (suc skip) (step ∷ steps) h = next_steps-same f g skip steps h
next_steps-same f g zero (Do line ∷ steps) h = refl
next_steps-same f g zero (When cond n ∷ steps) h =
    let e : f cond ≡ g cond = h cond in rw e (next_steps-same f g (if g cond then 0 else n) steps h)
