-- That `==` holds of equal values alone: of lists and of enums, from the same of their items and fields.
use Rattle.std.specs.Prelude.{◌≡◌, Bool, true, false, ◌&&◌, List, [], ◌∷◌}
use Rattle.std.specs.Bool.{Decides}
use Rattle.std.specs.Cmp.Lexicographic.{pointwise}
use Rattle.std.proofs.lemmas.Bool.Decides.{Decides-like, Decides-and}
use Rattle.std.proofs.lemmas.Slice.Eq.{slice_eq-Decides}
use Rattle.std.proofs.Common.{refl, ap}
use mathlib.Core.Logic.{inl, inr}
use denote.Struct.Field.{Field}
use denote.Struct.Values.{Values}
use denote.Enum.Declared.{Record, Choice, values_one}
use denote.Enum.Compared.{Each, by}

pub lists_exact : {A : Type 0} {E : A → A → Bool} → ((x y : A) → Decides (E x y) (x ≡ y)) → (xs ys : List A) → Decides (pointwise E xs ys) (xs ≡ ys)
lists_exact {A} {E} each xs ys = slice_eq-Decides each xs ys (pointwise E xs ys) refl

-- each variant's comparison holds of equal fields alone
abbrev pub AreExact : (Fss : List (List Field)) → Each Bool Fss → Type 0
AreExact [] es = Unit {0}
AreExact (Fs ∷ Fss) es = ((x y : Values Fs) → Decides (es.0 x y) (x ≡ y)) × AreExact Fss es.1

choices_exact : (Fss : List (List Field)) (es : Each Bool Fss) → AreExact Fss es → (c d : Choice Fss) → Decides (by false false Fss es c d) (c ≡ d)
choices_exact [] es all c d = absurd c
choices_exact (Fs ∷ Fss) es all (inl x) (inl y) = Decides-like (es.0 x y) (ap inl) (λ e. cc) (all.0 x y)
choices_exact (Fs ∷ Fss) es all (inl x) (inr y) = (λ e. cc, λ e. cc)
choices_exact (Fs ∷ Fss) es all (inr x) (inl y) = (λ e. cc, λ e. cc)
choices_exact (Fs ∷ Fss) es all (inr x) (inr y) = Decides-like (by false false Fss es.1 x y) (ap inr) (λ e. cc) (choices_exact Fss es.1 all.1 x y)

-- a derived `==` of an enum
pub enum_exact : (N : Record) (es : Each Bool N.parts) → AreExact N.parts es → (x y : N.D) → Decides (by false false N.parts es (N.as_values x) (N.as_values y)) (x ≡ y)
enum_exact N es all x y =
    Decides-like (by false false N.parts es (N.as_values x) (N.as_values y)) (values_one N x y) (ap N.as_values)
    (choices_exact N.parts es all (N.as_values x) (N.as_values y))

-- a variant with no field
pub none_exact : (x y : Unit {0}) → Decides true (x ≡ y)
none_exact x y = (λ _. refl, λ _. refl)

-- a variant's last field
pub last_exact : {A : Type 0} {E : A → A → Bool} → ((a b : A) → Decides (E a b) (a ≡ b)) → (x y : A × Unit {0}) → Decides (E x.0 y.0) (x ≡ y)
last_exact {A} {E} each x y = Decides-like (E x.0 y.0) (λ e i. (e i, tt)) (ap (λ z. z.0)) (each x.0 y.0)

-- a field before others
pub field_exact : {A B : Type 0} {E : A → A → Bool} {F : B → B → Bool} → ((a b : A) → Decides (E a b) (a ≡ b)) → ((a b : B) → Decides (F a b) (a ≡ b)) → (x y : A × B) → Decides (E x.0 y.0 && F x.1 y.1) (x ≡ y)
field_exact {A} {B} {E} {F} first others x y =
    Decides-like (E x.0 y.0 && F x.1 y.1) (λ e i. (e.0 i, e.1 i)) (λ e. (ap (λ z. z.0) e, ap (λ z. z.1) e))
    (Decides-and (E x.0 y.0) (F x.1 y.1) (first x.0 y.0) (others x.1 y.1))
