-- A list that is wider than another gives the bits that the other needs.
use Rattle.std.proofs.Common.{◌≡◌, ◌⊎◌, inl, inr, ℕ, ◌<◌, ◌-◌, ◌^◌, Bool, true, false, not, ◌&&◌, ◌||◌, ◌==◌, List, [], ◌∷◌, if◌then◌else◌, refl, sym, ap, subst, ◌∙◌, true≢false, eq-eqb, arith, max, min}
use Rattle.std.proofs.lemmas.Bool.{and_parts}
use Rattle.std.proofs.lemmas.Nat.{and_comm, and_mask, and_or_self}
use Rattle.std.proofs.lemmas.Nat.Bits.{bit_at_and, bit_at_or, same_from_bits}
use Rattle.std.specs.Int.{bit_at}
use Rattle.std.specs.Int.Bits.{bit_and, bit_or}
use Rattle.std.specs.List.{list_any}
use Rattle.sudoers_match_list.specs.Flat.{SignedAtom}
use Rattle.laws_compare.specs.Decided.{has_all_in_force, has_each_unnegated_atom, has_no_negation, is_list_wider, is_same_flat_list, is_same_signed_atom}
use Rattle.laws_compare.proofs.SameAtoms.{alike_signed_atoms_are_same}
use Rattle.sudoers_compare.specs.AtomNumbers.{atom_bits, bits_with_unnegated, given_bits, needed_bits}
use Rattle.sudoers_compare.proofs.Chains.{true_or_false}
use Rattle.sudoers_compare.proofs.SameRows.{alike_flat_lists_are_same}

-- the bits with more have what they had
max_keeps_min_with_smaller : (x y z : ℕ) → min x z ≡ z → min (max x y) z ≡ z
max_keeps_min_with_smaller x y z is = omega arith

or_keeps_bits : (a b m : ℕ) → bit_and a m ≡ m → bit_and (bit_or a b) m ≡ m
or_keeps_bits a b m has = same_from_bits (bit_and (bit_or a b) m) m (λ i.
    bit_at_and (bit_or a b) m i
    ∙ ap (λ x. min x (bit_at m i)) (bit_at_or a b i)
    ∙ max_keeps_min_with_smaller (bit_at a i) (bit_at b i) (bit_at m i) (sym (bit_at_and a m i) ∙ ap (λ n. bit_at n i) has))

one_member_keeps_bits : (allow : Bool) (a b m : ℕ) → bit_and a m ≡ m → bit_and (if allow then bit_or a b else a) m ≡ m
one_member_keeps_bits true a b m has = or_keeps_bits a b m has
one_member_keeps_bits false a b m has = has

members_keep_bits : (fs : List SignedAtom) (a m : ℕ) → bit_and a m ≡ m → bit_and (bits_with_unnegated a fs) m ≡ m
members_keep_bits [] a m has = has
members_keep_bits (s ∷ fs) a m has = members_keep_bits fs (if s.allow then bit_or a (atom_bits s.atom) else a) m (one_member_keeps_bits s.allow a (atom_bits s.atom) m has)

first_member_gives_bits : (s : SignedAtom) (fs : List SignedAtom) (a : ℕ) → s.allow ≡ true → bit_and (bits_with_unnegated a (s ∷ fs)) (atom_bits s.atom) ≡ atom_bits s.atom
first_member_gives_bits s fs a allows =
    ap (λ (b : Bool). bit_and (bits_with_unnegated (if b then bit_or a (atom_bits s.atom) else a) fs) (atom_bits s.atom)) allows
    ∙ members_keep_bits fs (bit_or a (atom_bits s.atom)) (atom_bits s.atom) (and_or_self (atom_bits s.atom) a)

-- ---- what each list needs

member_gives_bits : (s : SignedAtom) (fs : List SignedAtom) (a : ℕ) → s.allow ≡ true → list_any (is_same_signed_atom s) fs ≡ true → bit_and (bits_with_unnegated a fs) (atom_bits s.atom) ≡ atom_bits s.atom
member_gives_bits s [] a allows has = absurd (true≢false (sym has))
member_gives_bits s (t ∷ fs) a allows has = elim (true_or_false (is_same_signed_atom s t)) as (λ _. bit_and (bits_with_unnegated a (t ∷ fs)) (atom_bits s.atom) ≡ atom_bits s.atom) [
  | inl same ↦ subst (λ (u : SignedAtom). bit_and (bits_with_unnegated a (u ∷ fs)) (atom_bits s.atom) ≡ atom_bits s.atom) (alike_signed_atoms_are_same s t same) (first_member_gives_bits s fs a allows)
  | inr other ↦ member_gives_bits s fs (if t.allow then bit_or a (atom_bits t.atom) else a) allows (sym (ap (λ (b : Bool). b || list_any (is_same_signed_atom s) fs) other) ∙ has)
]

nothing_is_needed : (n : ℕ) → bit_and n 0 ≡ 0
nothing_is_needed n = and_mask n 0 ∙ omega arith

list_gives_what_it_needs : (fs : List SignedAtom) (a : ℕ) → bit_and (bits_with_unnegated a fs) (needed_bits fs) ≡ needed_bits fs
list_gives_what_it_needs [] a = nothing_is_needed a
list_gives_what_it_needs (s ∷ fs) a = elim (true_or_false s.allow) as (λ _. bit_and (bits_with_unnegated a (s ∷ fs)) (needed_bits (s ∷ fs)) ≡ needed_bits (s ∷ fs)) [
  | inl allows ↦ subst (λ (n : ℕ). bit_and (bits_with_unnegated a (s ∷ fs)) n ≡ n) (sym (ap (λ (b : Bool). if b then atom_bits s.atom else needed_bits fs) allows)) (first_member_gives_bits s fs a allows)
  | inr denies ↦ subst (λ (n : ℕ). bit_and (bits_with_unnegated a (s ∷ fs)) n ≡ n) (sym (ap (λ (b : Bool). if b then atom_bits s.atom else needed_bits fs) denies))
      (list_gives_what_it_needs fs (if s.allow then bit_or a (atom_bits s.atom) else a))
]

list_with_members_gives_bits : (wide fs : List SignedAtom) → has_each_unnegated_atom wide fs ≡ true → bit_and (bits_with_unnegated 0 wide) (needed_bits fs) ≡ needed_bits fs
list_with_members_gives_bits wide [] e = nothing_is_needed (bits_with_unnegated 0 wide)
list_with_members_gives_bits wide (s ∷ fs) e =
    let both = and_parts (not s.allow || list_any (is_same_signed_atom s) wide) (has_each_unnegated_atom wide fs) e in
    elim (true_or_false s.allow) as (λ _. bit_and (bits_with_unnegated 0 wide) (needed_bits (s ∷ fs)) ≡ needed_bits (s ∷ fs)) [
      | inl allows ↦ subst (λ (n : ℕ). bit_and (bits_with_unnegated 0 wide) n ≡ n) (sym (ap (λ (b : Bool). if b then atom_bits s.atom else needed_bits fs) allows))
          (member_gives_bits s wide 0 allows (sym (ap (λ (b : Bool). not b || list_any (is_same_signed_atom s) wide) allows) ∙ both.0))
      | inr denies ↦ subst (λ (n : ℕ). bit_and (bits_with_unnegated 0 wide) n ≡ n) (sym (ap (λ (b : Bool). if b then atom_bits s.atom else needed_bits fs) denies))
          (list_with_members_gives_bits wide fs both.1)
    ]

-- ---- wider lists

all_bits_are_given : (m : ℕ) → m < 2 ^ 64 → bit_and (2 ^ 64 - 1) m ≡ m
all_bits_are_given m small = and_comm (2 ^ 64 - 1) m ∙ and_mask m 64 ∙ omega (arith, small)

true_disjunction : (a b : Bool) → (a || b) ≡ true → (a ≡ true) ⊎ (b ≡ true)
true_disjunction true b e = inl refl
true_disjunction false b e = inr e

wider_list_without_all_gives_bits : (wide narrow : List SignedAtom) → has_all_in_force wide ≡ false → is_list_wider wide narrow ≡ true → bit_and (bits_with_unnegated 0 wide) (needed_bits narrow) ≡ needed_bits narrow
wider_list_without_all_gives_bits wide narrow no_all wider =
    elim (true_disjunction (is_same_flat_list wide narrow || has_all_in_force wide) (has_no_negation wide && has_each_unnegated_atom wide narrow) wider) as (λ _. bit_and (bits_with_unnegated 0 wide) (needed_bits narrow) ≡ needed_bits narrow) [
      | inl other ↦ elim (true_disjunction (is_same_flat_list wide narrow) (has_all_in_force wide) other) as (λ _. bit_and (bits_with_unnegated 0 wide) (needed_bits narrow) ≡ needed_bits narrow) [
        | inl same ↦ subst (λ (fs : List SignedAtom). bit_and (bits_with_unnegated 0 wide) (needed_bits fs) ≡ needed_bits fs) (alike_flat_lists_are_same wide narrow same) (list_gives_what_it_needs wide 0)
        | inr all ↦ absurd (true≢false (sym all ∙ no_all))
      ]
      | inr members ↦ list_with_members_gives_bits wide narrow (and_parts (has_no_negation wide) (has_each_unnegated_atom wide narrow) members).1
    ]

wider_list_gives_bits : (wide narrow : List SignedAtom) → needed_bits narrow < 2 ^ 64 → is_list_wider wide narrow ≡ true → bit_and (given_bits wide) (needed_bits narrow) ≡ needed_bits narrow
wider_list_gives_bits wide narrow small wider = elim (true_or_false (has_all_in_force wide)) as (λ _. bit_and (given_bits wide) (needed_bits narrow) ≡ needed_bits narrow) [
  | inl all ↦ ap (λ (b : Bool). bit_and (if b then 2 ^ 64 - 1 else bits_with_unnegated 0 wide) (needed_bits narrow)) all ∙ all_bits_are_given (needed_bits narrow) small
  | inr none ↦ ap (λ (b : Bool). bit_and (if b then 2 ^ 64 - 1 else bits_with_unnegated 0 wide) (needed_bits narrow)) none ∙ wider_list_without_all_gives_bits wide narrow none wider
]

pub list_without_needed_bits_is_not_wider : (wide narrow : List SignedAtom) (given needed : ℕ) → given ≡ given_bits wide → needed ≡ needed_bits narrow → needed < 2 ^ 64
    → (bit_and given needed == needed) ≡ false → is_list_wider wide narrow ≡ false
list_without_needed_bits_is_not_wider wide narrow given needed is_given is_needed small lacks = elim (true_or_false (is_list_wider wide narrow)) as (λ _. is_list_wider wide narrow ≡ false) [
  | inl wider ↦
      let gives = wider_list_gives_bits wide narrow (subst (λ (n : ℕ). n < 2 ^ 64) is_needed small) wider in
      let same : bit_and given needed ≡ needed = ap (λ (n : ℕ). bit_and n needed) is_given ∙ ap (bit_and (given_bits wide)) is_needed ∙ gives ∙ sym is_needed in
      absurd (true≢false (sym (eq-eqb (bit_and given needed) needed same) ∙ lacks))
  | inr not_wider ↦ not_wider
]
