-- Words put together of parts, and taken apart again.
use Rattle.std.proofs.Common.{◌≡◌, ℕ, Bool, true, false, cond, ◌&&◌, ◌==◌, not, nat_le, length, Option, Some, None, option_map, List, [], ◌∷◌, ◌++◌, refl, sym, ap, ◌∙◌, arith}
use Rattle.std.specs.List.{list_any, list_all}
use Rattle.std.proofs.lemmas.Bool.{false≢true, or_parts, eqb-true, eq-eqb, ne_eqb, and_parts}
use Rattle.std.proofs.lemmas.Bool.Decides.{nat_tests}
use Rattle.line_text.specs.Parts.{with_first, parts_at, part_before_last}
use Rattle.line_text.specs.Names.{is_name, is_name_byte, is_letter}
use Rattle.line_text.specs.LineWords.{is_plain_byte, is_plain}
use Rattle.line_text.proofs.PartsAt.{ends_with}

-- parts at a byte

-- a word has this byte
abbrev pub has : ℕ → List ℕ → Bool
has mark word = list_any (λ b. b == mark) word

-- what was put before and after a byte that does not stand before
pub parts_again : (mark : ℕ) (front rest : List ℕ) → has mark front ≡ false → parts_at mark (front ++ mark ∷ rest) ≡ Some (front, rest)
parts_again mark [] rest h = grind (arith, nat_tests)
parts_again mark (b ∷ front) rest h =
    let p = or_parts (b == mark) (has mark front) h in
    rw (p.0, parts_again mark front rest p.1) refl

-- nothing is parted by a byte that does not stand there
pub parts_none : (mark : ℕ) (word : List ℕ) → has mark word ≡ false → parts_at mark word ≡ None
parts_none mark [] h = refl
parts_none mark (b ∷ word) h =
    let p = or_parts (b == mark) (has mark word) h in
    rw (p.0, parts_none mark word p.1) refl

-- what parts say of their word
pub record ArePartsAt (mark : ℕ) (word : List ℕ) (parts : List ℕ × List ℕ) : Type 0 where
  pub put_together : word ≡ parts.0 ++ mark ∷ parts.1
  pub first : has mark parts.0 ≡ false

parts_here : (mark b : ℕ) (word : List ℕ) (parts : List ℕ × List ℕ) → b ≡ mark → Some ([], word) ≡ Some parts → ArePartsAt mark (b ∷ word) parts
parts_here mark b word parts e h =
    let same : ◌≡◌ {A = List ℕ × List ℕ} ([], word) parts = cc in
    rw (← same) (record { put_together = ap (λ c. c ∷ word) e; first = refl })

parts_later : (mark b : ℕ) (word : List ℕ) (o : Option (List ℕ × List ℕ)) (parts : List ℕ × List ℕ) → (b == mark) ≡ false
    → ((p : List ℕ × List ℕ) → o ≡ Some p → ArePartsAt mark word p) → with_first b o ≡ Some parts → ArePartsAt mark (b ∷ word) parts
parts_later mark b word None parts other found h = cc
parts_later mark b word (Some p) parts other found h =
    let same : ◌≡◌ {A = List ℕ × List ℕ} (b ∷ p.0, p.1) parts = cc in
    let were = found p refl in
    rw (← same) (record { put_together = ap (λ rest. b ∷ rest) were.put_together; first = rw other were.first })

parts_cases : (mark b : ℕ) (word : List ℕ) (parts : List ℕ × List ℕ) (here : Bool) → (b == mark) ≡ here
    → ((p : List ℕ × List ℕ) → parts_at mark word ≡ Some p → ArePartsAt mark word p)
    → cond here (Some ([], word)) (with_first b (parts_at mark word)) ≡ Some parts → ArePartsAt mark (b ∷ word) parts
parts_cases mark b word parts true e found h = parts_here mark b word parts (eqb-true b mark e) h
parts_cases mark b word parts false e found h = parts_later mark b word (parts_at mark word) parts e found h

-- a word is its parts, put together
pub parts_found : (mark : ℕ) (word : List ℕ) (parts : List ℕ × List ℕ) → parts_at mark word ≡ Some parts → ArePartsAt mark word parts
parts_found mark [] parts h = cc
parts_found mark (b ∷ word) parts h = parts_cases mark b word parts _ refl (parts_found mark word) h

whole_cases : (mark b : ℕ) (word : List ℕ) (o : Option (List ℕ × List ℕ)) (here : Bool) → (b == mark) ≡ here → (o ≡ None → has mark word ≡ false)
    → cond here (Some ([], word)) (with_first b o) ≡ None → has mark (b ∷ word) ≡ false
whole_cases mark b word o true e found h = cc
whole_cases mark b word None false e found h = rw e (found refl)
whole_cases mark b word (Some p) false e found h = cc

-- a word that has no parts lacks the byte
pub none_parted : (mark : ℕ) (word : List ℕ) → parts_at mark word ≡ None → has mark word ≡ false
none_parted mark [] h = refl
none_parted mark (b ∷ word) h = whole_cases mark b word (parts_at mark word) _ refl (none_parted mark word) h

-- the last byte

pub front_again : (mark : ℕ) (front : List ℕ) → part_before_last mark (front ++ mark ∷ []) ≡ Some front
front_again mark front = ends_with mark front mark ∙ rw (eq-eqb mark mark refl) refl

-- what stands before a last byte is the word without it
pub front_found : (mark : ℕ) (word front : List ℕ) → part_before_last mark word ≡ Some front → word ≡ front ++ mark ∷ []
front_found mark [] front h = cc
front_found mark (b ∷ []) front h = alone _ refl h
  where
    alone : (here : Bool) → (b == mark) ≡ here → cond here (Some []) None ≡ Some front → b ∷ [] ≡ front ++ mark ∷ []
    alone true e h = let none : [] ≡ front = cc in rw (← none) (ap (λ c. c ∷ []) (eqb-true b mark e))
    alone false e h = cc
front_found mark (b ∷ c ∷ word) front h = longer _ (front_found mark (c ∷ word)) h
  where
    longer : (o : Option (List ℕ)) → ((f : List ℕ) → o ≡ Some f → c ∷ word ≡ f ++ mark ∷ []) → option_map (λ rest. b ∷ rest) o ≡ Some front → b ∷ c ∷ word ≡ front ++ mark ∷ []
    longer None found h = cc
    longer (Some f) found h = let same : b ∷ f ≡ front = cc in rw (← same) (ap (λ rest. b ∷ rest) (found f refl))

-- a word that ends with another byte, or with none
pub front_none : (mark : ℕ) (front : List ℕ) (last : ℕ) → (last == mark) ≡ false → part_before_last mark (front ++ last ∷ []) ≡ None
front_none mark front last other = ends_with mark front last ∙ rw other refl

-- names

name_byte_is_plain : (b : ℕ) → is_name_byte b ≡ true → is_plain_byte b ≡ true
name_byte_is_plain b h = grind (arith, nat_tests)

name_byte_lacks : (mark b : ℕ) → is_name_byte mark ≡ false → is_name_byte b ≡ true → (b == mark) ≡ false
name_byte_lacks mark b other named = ne_eqb b mark (λ e. false≢true (sym other ∙ ap is_name_byte (sym e) ∙ named))

name_bytes_are_plain : (bs : List ℕ) → list_all is_name_byte bs ≡ true → list_all is_plain_byte bs ≡ true
name_bytes_are_plain [] h = refl
name_bytes_are_plain (b ∷ bs) h =
    let p = and_parts (is_name_byte b) (list_all is_name_byte bs) h in
    rw (name_byte_is_plain b p.0) (name_bytes_are_plain bs p.1)

name_bytes_lack : (mark : ℕ) (bs : List ℕ) → is_name_byte mark ≡ false → list_all is_name_byte bs ≡ true → has mark bs ≡ false
name_bytes_lack mark [] other h = refl
name_bytes_lack mark (b ∷ bs) other h =
    let p = and_parts (is_name_byte b) (list_all is_name_byte bs) h in
    rw (name_byte_lacks mark b other p.0) (name_bytes_lack mark bs other p.1)

letter_is_name_byte : (b : ℕ) → is_letter b ≡ true → is_name_byte b ≡ true
letter_is_name_byte b h = grind (arith, nat_tests)

letter_is_no_quote : (b : ℕ) → is_letter b ≡ true → not (b == 34) ≡ true
letter_is_no_quote b h = grind (arith, nat_tests)

-- the bytes of a name
pub name_bytes : (name : List ℕ) → is_name name ≡ true → list_all is_name_byte name ≡ true
name_bytes [] h = absurd (false≢true h)
name_bytes (b ∷ bs) h =
    let p = and_parts (is_letter b && nat_le (length bs) 15) (list_all is_name_byte bs) h in
    let q = and_parts (is_letter b) (nat_le (length bs) 15) p.0 in
    rw (letter_is_name_byte b q.0) p.1

-- a name is a plain word
pub is_plain-name : (name : List ℕ) → is_name name ≡ true → is_plain name ≡ true
is_plain-name [] h = absurd (false≢true h)
is_plain-name (b ∷ bs) h =
    let p = and_parts (is_letter b && nat_le (length bs) 15) (list_all is_name_byte bs) h in
    let q = and_parts (is_letter b) (nat_le (length bs) 15) p.0 in
    rw (letter_is_no_quote b q.0) (name_bytes_are_plain (b ∷ bs) (name_bytes (b ∷ bs) h))

-- a name has no byte that names have not
pub name_lacks : (mark : ℕ) (name : List ℕ) → is_name_byte mark ≡ false → is_name name ≡ true → has mark name ≡ false
name_lacks mark name other h = name_bytes_lack mark name other (name_bytes name h)
