-- From inside a block to the lines after it.
use Rattle.std.proofs.Common.{◌≡◌, ℕ, ◌+◌, ◌-◌, ◌<◌, ◌≤◌, List, length, drop, Some, refl, ap, ◌∙◌, sym, subst, arith, zero, suc}
use Rattle.std.specs.Prelude.{slice_get}
use Rattle.script_lang.specs.Types.{Kind, Line}
use Rattle.line_forms.specs.declared.line.Kind.TheVariants.{Act, Loop, Test, Closing}
use Rattle.line_forms.specs.Words.{kind_of}
use Rattle.spec_requests.specs.Words.{BodyStep, line_before, outer_blocks}
use Rattle.thread_machine.specs.Places.{blocks_at, IsNested, IsNestedLine, Leaves, depth_after_line}
use Rattle.thread_machine.proofs.Positions.{drop-past}
use Rattle.thread_machine.proofs.Walks.{LineAt, line-at, nested-here}

-- the blocks around so many inner ones
abbrev pub around : ℕ → List (List BodyStep) → List (List BodyStep)
around zero blocks = blocks
around (suc n) blocks = around n (outer_blocks blocks)

-- on the way, where so many blocks are open
pub record OnTheWay (body : List Line) (depth from at count : ℕ) : Type 0 where
  pub inner : ℕ
  pub is : count ≡ depth + suc inner
  pub few : count ≤ 8
  pub nested : IsNested count (drop at body)
  pub blocks : around (suc inner) (blocks_at body at) ≡ outer_blocks (blocks_at body from)
  pub later : from ≤ at

pub on-the-way-first : (body : List Line) (depth from : ℕ) → depth < 8 → IsNested (suc depth) (drop from body) → OnTheWay body depth from from (depth + 1)
on-the-way-first body depth from few h =
    let e : suc depth ≡ depth + 1 = omega arith
    in record {
      inner = 0;
      is = omega arith;
      few = omega arith;
      nested = subst (λ (n : ℕ). IsNested n (drop from body)) e h;
      blocks = refl;
      later = omega arith;
    }

-- what is asked of a line that is met on the way
pub record IsMet (line : Line) (count : ℕ) : Type 0 where
  pub closes : kind_of line ≡ Closing → 0 < count
  pub few : count < 9

met-kind :
    (line : Line) (kind : Kind) (count : ℕ) (lines : List Line) (After : ℕ → Type 0) → IsNestedLine kind count line lines After →
    kind ≡ Closing → 0 < count
met-kind line Closing zero lines After h e = absurd h
met-kind line Closing (suc count) lines After h e = omega arith
met-kind line Act count lines After h e = cc
met-kind line Loop count lines After h e = cc
met-kind line Test count lines After h e = cc

pub closes-met :
    (body : List Line) (depth from at count : ℕ) (line : Line) → OnTheWay body depth from at count →
    slice_get body at ≡ Some line → kind_of line ≡ Closing → 0 < count
closes-met body depth from at count line h there e =
    met-kind
    line
    (kind_of line)
    count
    (drop (at + 1) body)
    (λ after. IsNested after (drop (at + 1) body))
    (nested-here body at count line (line-at body at line there) h.nested)
    e

-- after one line more, still on the way or after the block
pub record Next (body : List Line) (depth from at count : ℕ) : Type 0 where
  pub after : count ≡ depth → Leaves body depth from at
  pub inside : (count ≡ depth → ⊥) → OnTheWay body depth from at count

next-kind :
    (body : List Line) (depth from at inner : ℕ) (line : Line) (kind : Kind) →
    around (suc inner) (line_before line kind (blocks_at body (at + 1))) ≡ outer_blocks (blocks_at body from) →
    IsNestedLine kind (depth + suc inner) line (drop (at + 1) body) (λ after. IsNested after (drop (at + 1) body)) →
    depth + suc inner ≤ 8 → from ≤ at → Next body depth from (at + 1) (depth_after_line (depth + suc inner) kind)
next-kind body depth from at inner line Act blocks nested few later =
    record {
      after = λ e. absurd (omega arith);
      inside = λ other. record { inner = inner; is = refl; few = few; nested = nested; blocks = blocks; later = omega arith };
    }
next-kind body depth from at inner line Loop blocks nested few later =
    let e : suc (depth + suc inner) ≡ depth + suc inner + 1 = omega arith
    in record {
      after = λ e. absurd (omega arith);
      inside =
          λ other. record {
            inner = suc inner;
            is = omega arith;
            few = let less : depth + suc inner < 8 = nested.0 in omega arith;
            nested = subst (λ (n : ℕ). IsNested n (drop (at + 1) body)) e nested.3;
            blocks = blocks;
            later = omega arith;
          };
    }
next-kind body depth from at inner line Test blocks nested few later =
    let e : suc (depth + suc inner) ≡ depth + suc inner + 1 = omega arith
    in record {
      after = λ e. absurd (omega arith);
      inside =
          λ other. record {
            inner = suc inner;
            is = omega arith;
            few = let less : depth + suc inner < 8 = nested.0 in omega arith;
            nested = subst (λ (n : ℕ). IsNested n (drop (at + 1) body)) e nested.1;
            blocks = blocks;
            later = omega arith;
          };
    }
next-kind body depth from at zero line Closing blocks nested few later =
    let e : depth + 1 ≡ suc depth = omega arith
    in let inside : IsNested depth (drop (at + 1) body) =
    subst
    (λ (n : ℕ). IsNestedLine Closing n line (drop (at + 1) body) (λ after. IsNested after (drop (at + 1) body)))
    e
    nested
    in record {
      after = λ same. record { blocks = blocks; nested = inside; later = omega arith };
      inside = λ other. absurd (other (omega arith));
    }
next-kind body depth from at (suc inner) line Closing blocks nested few later =
    let e : depth + suc (suc inner) ≡ suc (depth + suc inner) = omega arith
    in let less : depth + suc (suc inner) - 1 ≡ depth + suc inner = omega arith
    in let inside : IsNested (depth + suc inner) (drop (at + 1) body) =
    subst
    (λ (n : ℕ). IsNestedLine Closing n line (drop (at + 1) body) (λ after. IsNested after (drop (at + 1) body)))
    e
    nested
    in record {
      after = λ same. absurd (omega arith);
      inside =
          λ other. record {
            inner = inner;
            is = less;
            few = omega arith;
            nested = subst (λ (n : ℕ). IsNested n (drop (at + 1) body)) (sym less) inside;
            blocks = blocks;
            later = omega arith;
          };
    }

pub next-line :
    (body : List Line) (depth from at count after : ℕ) (line : Line) → OnTheWay body depth from at count →
    slice_get body at ≡ Some line → after ≡ depth_after_line count (kind_of line) → Next body depth from (at + 1) after
next-line body depth from at count after line h there e =
    let l : LineAt body at line = line-at body at line there
    in let here : after ≡ depth_after_line (depth + suc h.inner) (kind_of line) = e ∙ ap (λ (n : ℕ). depth_after_line n (kind_of line)) h.is
    in subst
    (λ (n : ℕ). Next body depth from (at + 1) n)
    (sym here)
    (next-kind
    body
    depth
    from
    at
    h.inner
    line
    (kind_of line)
    (subst (λ (blocks : List (List BodyStep)). around (suc h.inner) blocks ≡ outer_blocks (blocks_at body from)) l.blocks h.blocks)
    (subst
    (λ (n : ℕ). IsNestedLine (kind_of line) n line (drop (at + 1) body) (λ inner. IsNested inner (drop (at + 1) body)))
    h.is
    (nested-here body at count line l h.nested))
    (subst (λ (n : ℕ). n ≤ 8) h.is h.few)
    h.later)

-- the block ends before the lines do
pub ends-before :
    (body : List Line) (depth from at count : ℕ) → OnTheWay body depth from at count → length body ≤ at → ⊥
ends-before body depth from at count h past =
    let none : count ≡ 0 = rw (drop-past body at past) at h.nested
    in let is : count ≡ depth + suc h.inner = h.is
    in omega arith
