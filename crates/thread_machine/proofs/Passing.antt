-- A place passes a line that is no command.
use Rattle.std.proofs.Common.{◌≡◌, ℕ, ◌+◌, ◌-◌, ◌<◌, ◌≤◌, Bool, true, false, List, [], ◌∷◌, ◌++◌, length, drop, Some, None, refl, ap, ◌∙◌, sym, subst, append_assoc, arith, zero, suc}
use Rattle.std.specs.Prelude.{slice_get, ◌==◌, if◌then◌else◌}
use Rattle.std.proofs.lemmas.Bool.Decides.{nat_tests}
use Rattle.std.proofs.lemmas.Option.{slice_get_within}
use Rattle.script_lang.specs.Types.{Cond, Line}
use Rattle.line_forms.specs.declared.line.Kind.TheVariants.{Act, Loop, Test, Closing}
use Rattle.line_forms.specs.Words.{kind_of}
use Rattle.spec_requests.specs.Words.{BodyStep, copies, innermost_block, line_before, next_steps, outer_blocks, steps_of_body, tested_condition, tested_steps, times_of}
use Rattle.thread_machine.specs.declared.place.Place.{Place}
use Rattle.thread_machine.specs.declared.stack.Turns.{Turns}
use Rattle.thread_machine.specs.Places.{steps_from_blocks, steps_from, blocks_at, AtCommand, BeginsWithCommand, IsNestedLine, IsNested, IsStart, AreOpen, StandsAt, PassesLine, Leaves, place_in_block, place_after_end, is_left}
use Rattle.thread_machine.proofs.Positions.{drop-at, drop-end}
use Rattle.thread_machine.proofs.Walks.{place_at, LineAt, line-at, nested-here, AreOpen-same, steps_from_blocks-before, next_steps-skipped}

at-command : (lines : List Line) → BeginsWithCommand lines → AtCommand lines
at-command [] h = absurd h
at-command (line ∷ lines) h = h

-- nothing to pass
pub passes-command :
    (body : List Line) (is_met : Cond → Bool) (place : Place) (line : Line) → slice_get body place.position ≡ Some line →
    kind_of line ≡ Act → StandsAt body place → PassesLine body is_met place false place
passes-command body is_met place line there act h =
    record {
      stands = h;
      ahead = refl;
      command = λ e. subst AtCommand (sym (drop-at body place.position line there)) act;
      moved = λ e. cc;
    }

pub passes-end :
    (body : List Line) (is_met : Cond → Bool) (place : Place) → slice_get body place.position ≡ None → StandsAt body place →
    PassesLine body is_met place false place
passes-end body is_met place there h =
    record {
      stands = h;
      ahead = refl;
      command = λ e. subst AtCommand (sym (drop-end body place.position there)) tt;
      moved = λ e. cc;
    }

-- what a loop's line asks
pub record IsLoop (line : Line) (depth : ℕ) : Type 0 where
  pub few : depth < 8
  pub times : 1 ≤ times_of line

pub is-loop :
    (body : List Line) (place : Place) (line : Line) → slice_get body place.position ≡ Some line → kind_of line ≡ Loop →
    StandsAt body place → IsLoop line (length place.blocks)
is-loop body place line there loop h =
    let n : IsNestedLine Loop (length place.blocks) line (drop (place.position + 1) body) (λ after. IsNested after (drop (place.position + 1) body)) =
    rw loop at (nested-here body place.position (length place.blocks) line (line-at body place.position line there) h.nested)
    in record { few = n.0; times = n.1 }

pub test-few :
    (body : List Line) (place : Place) (line : Line) → slice_get body place.position ≡ Some line → kind_of line ≡ Test →
    StandsAt body place → length place.blocks < 8
test-few body place line there test h =
    let n : IsNestedLine Test (length place.blocks) line (drop (place.position + 1) body) (λ after. IsNested after (drop (place.position + 1) body)) =
    rw test at (nested-here body place.position (length place.blocks) line (line-at body place.position line there) h.nested)
    in n.0

pub test-nested :
    (body : List Line) (place : Place) (line : Line) → slice_get body place.position ≡ Some line → kind_of line ≡ Test →
    StandsAt body place → IsNested (suc (length place.blocks)) (drop (place.position + 1) body)
test-nested body place line there test h =
    let n : IsNestedLine Test (length place.blocks) line (drop (place.position + 1) body) (λ after. IsNested after (drop (place.position + 1) body)) =
    rw test at (nested-here body place.position (length place.blocks) line (line-at body place.position line there) h.nested)
    in n.1

copies-more : (times : ℕ) (block rest : List BodyStep) → 1 ≤ times → copies times block ++ rest ≡ block ++ (copies (times - 1) block ++ rest)
copies-more zero block rest h = absurd (omega arith)
copies-more (suc n) block rest h =
    let e : suc n - 1 ≡ n = omega arith in rw e (append_assoc block (copies n block) rest)

-- into a block
stands-place_in_block :
    (body : List Line) (place : Place) (left : ℕ) → length place.blocks < 8 →
    IsNested (suc (length place.blocks)) (drop (place.position + 1) body) →
    (0 < left → BeginsWithCommand (drop (place.position + 1) body)) →
    AreOpen body place.blocks (outer_blocks (blocks_at body (place.position + 1))) → StandsAt body (place_in_block place left)
stands-place_in_block body place left few nested command around =
    record {
      few = omega arith;
      nested = nested;
      around = (λ more. record { around = refl; nested = nested; command = command more }, around);
    }

pub passes-loop :
    (body : List Line) (is_met : Cond → Bool) (place : Place) (line : Line) → slice_get body place.position ≡ Some line →
    kind_of line ≡ Loop → StandsAt body place → PassesLine body is_met place false (place_in_block place (times_of line - 1))
passes-loop body is_met place line there loop h =
    let l : LineAt body place.position line = line-at body place.position line there
    in let n : IsNestedLine Loop (length place.blocks) line (drop (place.position + 1) body) (λ after. IsNested after (drop (place.position + 1) body)) =
    rw loop at (nested-here body place.position (length place.blocks) line l h.nested)
    in let e : blocks_at body place.position ≡ line_before line Loop (blocks_at body (place.position + 1)) = rw loop at l.blocks
    in let rest : List BodyStep = steps_from_blocks body place.blocks (outer_blocks (blocks_at body (place.position + 1)))
    in let old : steps_from body place ≡ copies (times_of line) (innermost_block (blocks_at body (place.position + 1))) ++ rest =
    steps_from_blocks-before
    body
    place.blocks
    (copies (times_of line) (innermost_block (blocks_at body (place.position + 1))))
    (blocks_at body place.position)
    (outer_blocks (blocks_at body (place.position + 1)))
    (ap innermost_block e)
    (ap outer_blocks e)
    in record {
      stands =
          stands-place_in_block
          body
          place
          (times_of line - 1)
          n.0
          n.3
          (λ more. n.2)
          (AreOpen-same
          body
          place.blocks
          (blocks_at body place.position)
          (outer_blocks (blocks_at body (place.position + 1)))
          (ap outer_blocks e)
          h.around);
      ahead =
          ap
          (next_steps is_met 0)
          (old ∙ copies-more (times_of line) (innermost_block (blocks_at body (place.position + 1))) rest n.1);
      command = λ e. at-command (drop (place.position + 1) body) n.2;
      moved = λ e. cc;
    }

-- the steps ahead at a test
test-steps_from :
    (body : List Line) (place : Place) (line : Line) → slice_get body place.position ≡ Some line → kind_of line ≡ Test →
    steps_from body place
    ≡ tested_steps (tested_condition line) (innermost_block (blocks_at body (place.position + 1)))
    ++ steps_from_blocks body place.blocks (outer_blocks (blocks_at body (place.position + 1)))
test-steps_from body place line there test =
    let l : LineAt body place.position line = line-at body place.position line there
    in let e : blocks_at body place.position ≡ line_before line Test (blocks_at body (place.position + 1)) = rw test at l.blocks
    in steps_from_blocks-before
    body
    place.blocks
    (tested_steps (tested_condition line) (innermost_block (blocks_at body (place.position + 1))))
    (blocks_at body place.position)
    (outer_blocks (blocks_at body (place.position + 1)))
    (ap innermost_block e)
    (ap outer_blocks e)

test-around :
    (body : List Line) (place : Place) (line : Line) → slice_get body place.position ≡ Some line → kind_of line ≡ Test →
    StandsAt body place → AreOpen body place.blocks (outer_blocks (blocks_at body (place.position + 1)))
test-around body place line there test h =
    let l : LineAt body place.position line = line-at body place.position line there
    in let e : blocks_at body place.position ≡ line_before line Test (blocks_at body (place.position + 1)) = rw test at l.blocks
    in AreOpen-same
    body
    place.blocks
    (blocks_at body place.position)
    (outer_blocks (blocks_at body (place.position + 1)))
    (ap outer_blocks e)
    h.around

pub passes-test :
    (body : List Line) (is_met : Cond → Bool) (place : Place) (line : Line) → slice_get body place.position ≡ Some line →
    kind_of line ≡ Test → is_met (tested_condition line) ≡ true → StandsAt body place → PassesLine body is_met place true (place_in_block place 0)
passes-test body is_met place line there test good h =
    let old = test-steps_from body place line there test
    in record {
      stands =
          stands-place_in_block
          body
          place
          0
          (test-few body place line there test h)
          (test-nested body place line there test h)
          (λ more. absurd (omega arith))
          (test-around body place line there test h);
      ahead =
          ap (next_steps is_met 0) old
          ∙ ap
          (λ b. next_steps
          is_met
          (if b then 0 else length (innermost_block (blocks_at body (place.position + 1))))
          (innermost_block (blocks_at body (place.position + 1))
          ++ steps_from_blocks body place.blocks (outer_blocks (blocks_at body (place.position + 1)))))
          good;
      command = λ e. cc;
      moved =
          λ e. let inside : place.position < length body = slice_get_within body place.position line there
          in (omega arith, inside);
    }

pub passes-block :
    (body : List Line) (is_met : Cond → Bool) (place : Place) (line : Line) (to : ℕ) → slice_get body place.position ≡ Some line →
    kind_of line ≡ Test → is_met (tested_condition line) ≡ false → StandsAt body place →
    Leaves body (length place.blocks) (place.position + 1) to →
    PassesLine body is_met place true (record { position = to; blocks = place.blocks })
passes-block body is_met place line to there test bad h leaves =
    let old = test-steps_from body place line there test
    in let blocks : blocks_at body to ≡ outer_blocks (blocks_at body (place.position + 1)) = leaves.blocks
    in let rest : List BodyStep = steps_from_blocks body place.blocks (outer_blocks (blocks_at body (place.position + 1)))
    in record {
      stands = record {
        few = h.few;
        nested = leaves.nested;
        around =
            subst
            (λ (open_ones : List (List BodyStep)). AreOpen body place.blocks open_ones)
            (sym blocks)
            (test-around body place line there test h);
      };
      ahead =
          ap (next_steps is_met 0) old
          ∙ ap
          (λ b. next_steps
          is_met
          (if b then 0 else length (innermost_block (blocks_at body (place.position + 1))))
          (innermost_block (blocks_at body (place.position + 1)) ++ rest))
          bad
          ∙ next_steps-skipped is_met (innermost_block (blocks_at body (place.position + 1))) rest
          ∙ ap (λ (blocks : List (List BodyStep)). next_steps is_met 0 (steps_from_blocks body place.blocks blocks)) (sym blocks);
      command = λ e. cc;
      moved =
          λ e. let inside : place.position < length body = slice_get_within body place.position line there
          in let later : place.position + 1 ≤ to = leaves.later
          in (omega arith, inside);
    }

-- at a block's end

some_left : (left : ℕ) → (suc left == 0) ≡ false
some_left left = grind (arith, nat_tests)

close-turned :
    (body : List Line) (is_met : Cond → Bool) (position start left : ℕ) (outer : List Turns) (line : Line) →
    slice_get body position ≡ Some line → kind_of line ≡ Closing →
    StandsAt body (place_at position (record { start = start; left = left } ∷ outer)) →
    PassesLine
    body
    is_met
    (place_at position (record { start = start; left = left } ∷ outer))
    (is_left (record { start = start; left = left } ∷ outer))
    (place_after_end (place_at position (record { start = start; left = left } ∷ outer)))
close-turned body is_met position start zero outer line there close h =
    let l : LineAt body position line = line-at body position line there
    in let e : blocks_at body position ≡ [] ∷ blocks_at body (position + 1) = rw close at l.blocks
    in let n : IsNested (length outer) (drop (position + 1) body) =
    rw close at (nested-here body position (suc (length outer)) line l h.nested)
    in let around : AreOpen body outer (blocks_at body (position + 1)) =
    subst (λ (blocks : List (List BodyStep)). AreOpen body outer (outer_blocks blocks)) e h.around.1
    in let few : suc (length outer) ≤ 8 = h.few
    in record {
      stands = record { few = omega arith; nested = n; around = around };
      ahead = rw e refl;
      command = λ e. cc;
      moved =
          λ e. let inside : position < length body = slice_get_within body position line there in (omega arith, inside);
    }
close-turned body is_met position start (suc left) outer line there close h =
    let l : LineAt body position line = line-at body position line there
    in let e : blocks_at body position ≡ [] ∷ blocks_at body (position + 1) = rw close at l.blocks
    in let more : 0 < suc left = omega arith
    in let less : suc left - 1 ≡ left = omega arith
    in let s : IsStart body start (length outer) (blocks_at body position) = h.around.0 more
    in let after : outer_blocks (blocks_at body start) ≡ blocks_at body (position + 1) = s.around ∙ ap outer_blocks e
    in let around : AreOpen body outer (outer_blocks (blocks_at body start)) =
    subst (λ (blocks : List (List BodyStep)). AreOpen body outer blocks) (sym s.around) h.around.1
    in let more_left : (suc left == 0) ≡ false = some_left left
    in let next : Place = place_at start (record { start = start; left = suc left - 1 } ∷ outer)
    in let passes : PassesLine body is_met (place_at position (record { start = start; left = suc left } ∷ outer)) false next =
    record {
      stands = record {
        few = h.few;
        nested = s.nested;
        around = (λ again. record { around = refl; nested = s.nested; command = s.command }, around);
      };
      ahead =
          rw (e, less, after)
          (ap
          (next_steps is_met 0)
          (append_assoc
          (steps_of_body (drop start body))
          (copies left (steps_of_body (drop start body)))
          (steps_from_blocks body outer (blocks_at body (position + 1)))));
      command = λ e. at-command (drop start body) s.command;
      moved = λ e. cc;
    }
    in subst
    (λ (b : Bool).
    PassesLine
    body
    is_met
    (place_at position (record { start = start; left = suc left } ∷ outer))
    b
    (if b then place_at (position + 1) outer else next))
    (sym more_left)
    passes

pub passes-close :
    (body : List Line) (is_met : Cond → Bool) (position : ℕ) (blocks : List Turns) (line : Line) →
    slice_get body position ≡ Some line → kind_of line ≡ Closing → StandsAt body (place_at position blocks) →
    PassesLine body is_met (place_at position blocks) (is_left blocks) (place_after_end (place_at position blocks))
passes-close body is_met position [] line there close h =
    let n : ⊥ = rw close at (nested-here body position 0 line (line-at body position line there) h.nested) in absurd n
passes-close body is_met position (turns ∷ outer) line there close h =
    close-turned body is_met position turns.start turns.left outer line there close h
