-- What the parts of a line are, by its first space.
use Rattle.std.proofs.Common.{◌≡◌, ℕ, ◌+◌, ◌==◌, ◌&&◌, Bool, true, false, cond, List, [], ◌∷◌, Option, Some, None, length, nat_le, refl, ap, ◌∙◌, arith}
use Rattle.std.specs.List.{list_all, onto_first}
use Rattle.std.proofs.lemmas.Bool.Decides.{nat_tests}
use Rattle.line_text.specs.Words.{parts_at}
use Rattle.line_text.specs.Parts.{with_first}
use Rattle.ncd_app.specs.Commands.{command_about_two, command_in, is_visible, is_word, parts_of}
use Rattle.ncd_app.specs.declared.line.Command.TheVariants.{Bad}
use Rattle.ncd_app.specs.declared.line.Command.{Command}

abbrev parted : List ℕ → Option (List ℕ × List ℕ) → List (List ℕ)
parted line None = line ∷ []
parted line (Some p) = p.0 ∷ parts_of p.1

first_more : (b : ℕ) (bs : List ℕ) (o : Option (List ℕ × List ℕ)) → onto_first b (parted bs o) ≡ parted (b ∷ bs) (with_first b o)
first_more b bs None = refl
first_more b bs (Some p) = refl

first_or_more : (space : Bool) (b : ℕ) (bs : List ℕ) (o : Option (List ℕ × List ℕ)) → parts_of bs ≡ parted bs o → cond space ([] ∷ parts_of bs) (onto_first b (parts_of bs)) ≡ parted (b ∷ bs) (cond space (Some ([], bs)) (with_first b o))
first_or_more true b bs o e = refl
first_or_more false b bs o e = ap (onto_first b) e ∙ first_more b bs o

pub parts_are : (line : List ℕ) → parts_of line ≡ parted line (parts_at 32 line)
parts_are [] = refl
parts_are (b ∷ bs) = first_or_more (b == 32) b bs (parts_at 32 bs) (parts_are bs)

-- the parts of a line without a space, and of one with a space
pub parts_alone : (line : List ℕ) → parts_at 32 line ≡ None → parts_of line ≡ line ∷ []
parts_alone line e = parts_are line ∙ ap (parted line) e

pub parts_both : (line front rest : List ℕ) → parts_at 32 line ≡ Some (front, rest) → parts_of line ≡ front ∷ parts_of rest
parts_both line front rest e = parts_are line ∙ ap (parted line) e

-- how long a line with a space is
abbrev fits : List ℕ → Option (List ℕ × List ℕ) → Type 0
fits line None = Unit {0}
fits line (Some p) = length line ≡ length p.0 + 1 + length p.1

fits_more : (space : Bool) (b : ℕ) (bs : List ℕ) (o : Option (List ℕ × List ℕ)) → fits bs o → fits (b ∷ bs) (cond space (Some ([], bs)) (with_first b o))
fits_more true b bs o h = omega arith
fits_more false b bs None h = tt
fits_more false b bs (Some p) h = omega arith

line_fits : (line : List ℕ) → fits line (parts_at 32 line)
line_fits [] = tt
line_fits (b ∷ bs) = fits_more (b == 32) b bs (parts_at 32 bs) (line_fits bs)

pub length_both : (line front rest : List ℕ) → parts_at 32 line ≡ Some (front, rest) → length line ≡ length front + 1 + length rest
length_both line front rest e = rw e at (line_fits line)

-- a word has no space
visible_first : (b : ℕ) (rest : Bool) → (is_visible b && rest) ≡ true → ((b == 32) ≡ false) × (rest ≡ true)
visible_first b rest h = (grind (arith, nat_tests), grind (arith, nat_tests))

unparted : (word : List ℕ) → list_all is_visible word ≡ true → parts_at 32 word ≡ None
unparted [] h = refl
unparted (b ∷ bs) h =
    let parts = visible_first b (list_all is_visible bs) h in
    (λ i. cond (parts.0 i) (Some ([], bs)) (with_first b (unparted bs parts.1 i)))

all_visible : (a b c : Bool) → (a && b && c) ≡ true → c ≡ true
all_visible true true c h = h
all_visible true false c h = cc
all_visible false b c h = cc

pub word_alone : (word : List ℕ) → is_word word ≡ true → parts_of word ≡ word ∷ []
word_alone word h = parts_alone word (unparted word (all_visible (nat_le 1 (length word)) (nat_le (length word) 32) (list_all is_visible word) h))

-- what is no word
neither : (a b : Bool) (x : Command) → (a && b) ≡ false → cond (a && b) x Bad ≡ Bad
neither a b x h = ap (λ c. cond c x Bad) h

four_parts : (verb key word rest : List ℕ) (o : Option (List ℕ × List ℕ)) → command_in (verb ∷ key ∷ word ∷ parted rest o) ≡ Bad
four_parts verb key word rest None = refl
four_parts verb key word rest (Some p) = refl

by_parts : (verb key word : List ℕ) (o : Option (List ℕ × List ℕ)) → (is_word key && is_word word) ≡ false → command_in (verb ∷ key ∷ parted word o) ≡ Bad
by_parts verb key word None h = neither (is_word key) (is_word word) (command_about_two verb key word) h
by_parts verb key word (Some p) h = ap (λ ps. command_in (verb ∷ key ∷ p.0 ∷ ps)) (parts_are p.1) ∙ four_parts verb key p.0 p.1 (parts_at 32 p.1)

pub no_words : (verb key word : List ℕ) → (is_word key && is_word word) ≡ false → command_in (verb ∷ key ∷ parts_of word) ≡ Bad
no_words verb key word h = ap (λ ps. command_in (verb ∷ key ∷ ps)) (parts_are word) ∙ by_parts verb key word (parts_at 32 word) h

and-false : (a : Bool) → (a && false) ≡ false
and-false true = refl
and-false false = refl

pub no_word : (verb key word : List ℕ) → is_word word ≡ false → command_in (verb ∷ key ∷ parts_of word) ≡ Bad
no_word verb key word h = no_words verb key word (ap (λ b. is_word key && b) h ∙ and-false (is_word key))

pub two_words : (verb key word : List ℕ) → is_word key ≡ true → is_word word ≡ true → command_in (verb ∷ key ∷ parts_of word) ≡ command_about_two verb key word
two_words verb key word k w =
    ap (λ ps. command_in (verb ∷ key ∷ ps)) (word_alone word w)
    ∙ (λ i. cond (k i && w i) (command_about_two verb key word) Bad)
