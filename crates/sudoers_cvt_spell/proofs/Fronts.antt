-- A text begins with what it had before something was appended.
use Rattle.std.proofs.Common.{◌≡◌, ℕ, List, [], ◌∷◌, ◌++◌, Bool, true, false, Result, length, take, refl, sym, ap, subst, drop, ◌∙◌, append_assoc, append-nil, OnOk, OnErr, Ok, Err, if◌then◌else◌}
use Rattle.std.specs.List.{insert}
use Rattle.std.proofs.lemmas.List.{take_at}
use Rattle.sudoers_cvt_spell.specs.internal.Fronts.{IsFront}

pub text_is_its_own_front : (a : List ℕ) → IsFront a a
unfolding IsFront
text_is_its_own_front a = ([], sym (append-nil a))

pub text_appended_or_not_keeps_front : (a b more : List ℕ) (appended : Bool) → b ≡ (if appended then a ++ more else a) → IsFront a b
unfolding IsFront
text_appended_or_not_keeps_front a b more true is = (more, is)
text_appended_or_not_keeps_front a b more false is = ([], is ∙ sym (append-nil a))

pub text_with_number_or_not_keeps_front : {E : Type 0} (a b more : List ℕ) (appended : Result (Unit {0}) E) → OnOk appended (b ≡ a ++ more) → OnErr appended (b ≡ a) → IsFront a b
unfolding IsFront
text_with_number_or_not_keeps_front a b more (Ok done) is same = (more, is)
text_with_number_or_not_keeps_front a b more (Err error) is same = ([], same ∙ sym (append-nil a))

pub front_of_front_is_front : (a b c : List ℕ) → IsFront a b → IsFront b c → IsFront a c
unfolding IsFront
front_of_front_is_front a b c first second = (first.0 ++ second.0, second.1 ∙ ap (λ t. t ++ second.0) first.1 ∙ append_assoc a first.0 second.0)

pub front_is_what_is_left : (a b : List ℕ) → IsFront a b → take (length a) b ≡ a
unfolding IsFront
front_is_what_is_left a b front = ap (λ t. take (length a) t) front.1 ∙ take_at a front.0 (length a) refl

pub text_cut_to_its_front : (front old new : List ℕ) (n : ℕ) → new ≡ take n old → n ≡ length front → IsFront front old → new ≡ front
text_cut_to_its_front front old new n cut place begins = cut ∙ ap (λ k. take k old) place ∙ front_is_what_is_left front old begins

pub text_keeps_front_before_insertion : (old new front : List ℕ) (start b : ℕ) → new ≡ insert old start b → length front ≡ start → IsFront front old → IsFront front new
unfolding IsFront
text_keeps_front_before_insertion old new front start b is place begins = (
  b ∷ drop start old,
  is ∙ ap (λ t. t ++ (b ∷ drop start old)) (ap (λ n. take n old) (sym place) ∙ front_is_what_is_left front old begins),
)

pub front_of_text_that_is_another : {A : Type 0} (items : A → List ℕ) (front : List ℕ) (a b : A) → b ≡ a → IsFront front (items a) → IsFront front (items b)
front_of_text_that_is_another items front a b same begins = subst (λ t. IsFront front (items t)) (sym same) begins
