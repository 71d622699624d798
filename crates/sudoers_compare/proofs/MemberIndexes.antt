-- Members that are found by their numbers are those of the list.
use Rattle.std.proofs.Common.{◌≡◌, inl, inr, ℕ, zero, suc, Bool, true, false, ◌||◌, ◌==◌, List, [], ◌∷◌, Option, Some, None, if◌then◌else◌, refl, sym, ap, ◌∙◌, true≢false, eq-eqb, eqb-true, length, ◌<◌, arith}
use Rattle.std.specs.Prelude.{map, slice_get, slice_index_or}
use Rattle.std.specs.List.{list_any}
use Rattle.sudoers_match_list.specs.Flat.{SignedAtom}
use Rattle.laws_compare.specs.Decided.{is_same_signed_atom}
use Rattle.laws_compare.proofs.SameAtoms.{alike_signed_atoms_are_same}
use Rattle.sudoers_compare.specs.AtomNumbers.{atom_number}
use Rattle.sudoers_compare.specs.MemberIndex.{has_number}
use Rattle.sudoers_compare.proofs.Chains.{true_or_false}
use Rattle.sudoers_compare.proofs.FoundRows.{nothing_is_no_item, one_item_is_the_other}

pub list_without_number_has_no_member : (s : SignedAtom) (fs : List SignedAtom) → list_any (has_number (atom_number s.atom)) fs ≡ false → list_any (is_same_signed_atom s) fs ≡ false
list_without_number_has_no_member s [] e = refl
list_without_number_has_no_member s (t ∷ fs) e = elim (true_or_false (is_same_signed_atom s t)) as (λ _. list_any (is_same_signed_atom s) (t ∷ fs) ≡ false) [
  | inl same ↦
      let number : has_number (atom_number s.atom) t ≡ true = eq-eqb (atom_number s.atom) (atom_number t.atom) (ap (λ (u : SignedAtom). atom_number u.atom) (alike_signed_atoms_are_same s t same)) in
      absurd (true≢false (sym (ap (λ (b : Bool). b || list_any (has_number (atom_number s.atom)) fs) number) ∙ e))
  | inr other ↦ ap (λ (b : Bool). b || list_any (is_same_signed_atom s) fs) other ∙ list_without_number_has_no_member s fs (rest (has_number (atom_number s.atom) t) (list_any (has_number (atom_number s.atom)) fs) e)
]
  where
    rest : (a b : Bool) → (a || b) ≡ false → b ≡ false
    rest true b e = absurd (true≢false e)
    rest false b e = e

pub list_has_found_member : (s t : SignedAtom) (fs : List SignedAtom) (place : ℕ) → slice_get fs place ≡ Some t → is_same_signed_atom s t ≡ true → list_any (is_same_signed_atom s) fs ≡ true
list_has_found_member s t [] place e same = absurd (nothing_is_no_item e)
list_has_found_member s t (u ∷ fs) zero e same = ap (λ (v : SignedAtom). is_same_signed_atom s v || list_any (is_same_signed_atom s) fs) (one_item_is_the_other e) ∙ ap (λ (b : Bool). b || list_any (is_same_signed_atom s) fs) same
list_has_found_member s t (u ∷ fs) (suc place) e same = ap (λ (b : Bool). is_same_signed_atom s u || b) (list_has_found_member s t fs place e same) ∙ either (is_same_signed_atom s u)
  where
    either : (b : Bool) → (b || true) ≡ true
    either true = refl
    either false = refl

-- one more member is indexed
pub one_more_number_is_found : (number : ℕ) (s : SignedAtom) (fs all : List SignedAtom) (before now : Option ℕ) (place : ℕ) → (before ≡ None → list_any (has_number number) (s ∷ fs) ≡ false → list_any (has_number number) all ≡ false)
    → now ≡ (if atom_number s.atom == number then Some place else before) → now ≡ None → list_any (has_number number) fs ≡ false → list_any (has_number number) all ≡ false
one_more_number_is_found number s fs all before now place so_far is none rest = elim (true_or_false (atom_number s.atom == number)) as (λ _. list_any (has_number number) all ≡ false) [
  | inl same ↦ absurd (nothing_is_no_item (sym none ∙ is ∙ ap (λ (b : Bool). if b then Some place else before) same))
  | inr other ↦ so_far (sym (ap (λ (b : Bool). if b then Some place else before) other) ∙ sym is ∙ none) (ap (λ (b : Bool). b || list_any (has_number number) fs) (turned other) ∙ rest)
]
  where
    turned : (atom_number s.atom == number) ≡ false → has_number number s ≡ false
    turned e = elim (true_or_false (has_number number s)) as (λ _. has_number number s ≡ false) [
      | inl same ↦ absurd (true≢false (sym (eq-eqb (atom_number s.atom) number (sym (eqb-true number (atom_number s.atom) same))) ∙ e))
      | inr other ↦ other
    ]

pub member_stands_at_place : {X Y Z : Type 0} (f : Y → Z) (g : X → Y) (xs : List X) (i : ℕ) (x : X) → i < length xs → x ≡ slice_index_or xs i x → slice_get (map f (map g xs)) i ≡ Some (f (g x))
member_stands_at_place f g [] i x below e = absurd (omega (arith, below))
member_stands_at_place f g (y ∷ xs) zero x below e = ap (λ z. Some (f (g z))) (sym e)
member_stands_at_place f g (y ∷ xs) (suc i) x below e = member_stands_at_place f g xs i x (omega (arith, below)) e
