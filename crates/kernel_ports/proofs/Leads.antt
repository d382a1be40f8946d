-- What is next of so many changed objects, as one more is looked at.
use Rattle.std.proofs.Common.{◌≡◌, ℕ, ◌+◌, ◌<◌, ◌≤◌, ◌||◌, Bool, true, false, if◌then◌else◌, List, [], ◌∷◌, ◌++◌, Option, None, Some, Contains, find, get_or, length, nat_le, take, refl, subst, sym, ap, ◌∙◌, arith}
use Rattle.std.proofs.lemmas.Bool.Decides.{nat_tests}
use Rattle.std.proofs.lemmas.List.{take_more}
use Rattle.std.proofs.lemmas.List.Elements.{Contains-append_left, Contains-push}
use Rattle.std.proofs.lemmas.List.Folds.{list_any-append}
use Rattle.spec_records.specs.declared.association.Association.{Association}
use Rattle.spec_records.specs.Words.{IsAscending, association_number, is_fired_by, number_in}
use Rattle.kernel_ports.specs.declared.changed.Changed.{Changed}
use Rattle.kernel_ports.specs.declared.next.Next.{Next}
use Rattle.kernel_ports.specs.Firing.{earlier, is_fired_among, is_fired_as}
use Rattle.kernel_ports.proofs.Earliest.{find-nothing, find-same, first_alone, first_earlier, second_alone, second_earlier}

-- none of these fires any, or this one fires the first that they fire, which has this number
abbrev pub Leads : List Association → List Changed → Option Next → Type 0
Leads xs cs None = find (is_fired_among cs) xs ≡ None
Leads xs cs (Some n) =
    Contains cs n.changed
    × ((a : Association) × (find (is_fired_by n.changed.object n.changed.ready) xs ≡ Some a) × (find (is_fired_among cs) xs ≡ Some a) × (a.number ≡ n.number))

pub leads_none : (xs : List Association) → Leads xs [] None
leads_none xs = find-nothing xs

one_more : (b : Bool) → (b || false) ≡ b
one_more true = refl
one_more false = refl

abbrev fires : Changed → Association → Bool
fires c a = is_fired_by c.object c.ready a

among_more : (cs : List Changed) (c : Changed) (a : Association) → is_fired_among (cs ++ c ∷ []) a ≡ (is_fired_among cs a || fires c a)
among_more cs c a = list_any-append (is_fired_as a) cs (c ∷ []) ∙ ap (λ b. is_fired_among cs a || b) (one_more (fires c a))

module _ (xs : List Association) (made : ℕ) (up : IsAscending association_number 0 made xs) (cs : List Changed) (c : Changed) where
  found_more : find (is_fired_among (cs ++ c ∷ [])) xs ≡ find (λ a. is_fired_among cs a || fires c a) xs
  found_more = find-same (is_fired_among (cs ++ c ∷ [])) (λ a. is_fired_among cs a || fires c a) (among_more cs c) xs

  pub leads_more : (next : Option Next) → Leads xs cs next → Leads xs (cs ++ c ∷ []) (earlier next (number_in (find (fires c) xs)) c)
  leads_more next h = go next (find (fires c) xs) refl h
    where
      which :
          (n : Next) (b : Association) → find (fires c) xs ≡ Some b → Leads xs cs (Some n) → (k : Bool) → nat_le n.number b.number ≡ k →
          Leads xs (cs ++ c ∷ []) (if k then Some n else Some (record { number = b.number; changed = c }))
      which n b e h true k =
          let a = h.1.0 in
          let same = h.1.3 in
          let le : a.number ≤ b.number = grind (arith, nat_tests) in
          (Contains-append_left cs (c ∷ []) n.changed h.0, (a, h.1.1, found_more ∙ first_earlier association_number (is_fired_among cs) (fires c) xs 0 made a b up h.1.2 e le, h.1.3))
      which n b e h false k =
          let a = h.1.0 in
          let same = h.1.3 in
          let lt : b.number < a.number = grind (arith, nat_tests) in
          (Contains-push cs c, (b, e, found_more ∙ second_earlier association_number (is_fired_among cs) (fires c) xs 0 made a b up h.1.2 e lt, refl))

      go :
          (next : Option Next) (o : Option Association) → find (fires c) xs ≡ o → Leads xs cs next →
          Leads xs (cs ++ c ∷ []) (earlier next (number_in o) c)
      go None None e h = found_more ∙ second_alone (is_fired_among cs) (fires c) xs h ∙ e
      go None (Some b) e h = (Contains-push cs c, (b, e, found_more ∙ second_alone (is_fired_among cs) (fires c) xs h ∙ e, refl))
      go (Some n) None e h =
          (Contains-append_left cs (c ∷ []) n.changed h.0, (h.1.0, h.1.1, found_more ∙ first_alone (is_fired_among cs) (fires c) xs e ∙ h.1.2, h.1.3))
      go (Some n) (Some b) e h = which n b e h (nat_le n.number b.number) refl

pub leads_next :
    (xs : List Association) (made : ℕ) → IsAscending association_number 0 made xs → (cs : List Changed) (i : ℕ) (d : Changed)
    (next : Option Next) (n : Option ℕ) (new : Option Next) → i < length cs → Leads xs (take i cs) next →
    n ≡ number_in (find (is_fired_by (get_or cs i d).object (get_or cs i d).ready) xs) → new ≡ earlier next n (get_or cs i d) →
    Leads xs (take (i + 1) cs) new
leads_next xs made up cs i d next n new lt h number is =
    subst (λ ds. Leads xs ds new) (sym (take_more cs i d lt))
    (subst (Leads xs (take i cs ++ get_or cs i d ∷ [])) (sym (is ∙ ap (λ m. earlier next m (get_or cs i d)) number))
    (leads_more xs made up (take i cs) (get_or cs i d) next h))
