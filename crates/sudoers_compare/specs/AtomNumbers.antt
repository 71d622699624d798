-- Numbers of members, and bits of lists, by which most lists are told apart. A device of the code, which no public contract cites.
use Rattle.std.specs.Prelude.{ℕ, ◌+◌, ◌-◌, ◌*◌, ◌^◌, ◌/◌, ◌%◌, List, [], ◌∷◌, if◌then◌else◌}
use Rattle.std.specs.Int.Bits.{bit_or}
use Rattle.sudoers_grammar.specs.declared.node.Atom.{Atom}
use Rattle.sudoers_grammar.specs.declared.node.Atom.TheVariants as atom
use Rattle.sudoers_match_list.specs.Flat.{SignedAtom}
use Rattle.laws_compare.specs.Decided.{has_all_in_force}

-- the number that these bytes lead to from the number n
abbrev pub text_number_after : ℕ → List ℕ → ℕ
text_number_after n [] = n
text_number_after n (b ∷ bytes) = text_number_after ((n * 257 + b) % 36028797018963913) bytes

-- A number of a member without its sign. Members may share it.
abbrev pub atom_number : Atom → ℕ
atom_number (atom.Alias a) = text_number_after 1 a
atom_number (atom.Name a) = text_number_after 2 a
atom_number (atom.Id n) = n
atom_number (atom.Group a) = text_number_after 3 a
atom_number (atom.GroupId n) = n
atom_number (atom.NonUnix a) = text_number_after 4 a
atom_number (atom.Netgroup a) = text_number_after 5 a
atom_number (atom.Host a) = text_number_after 6 a
atom_number (atom.Address a) = a.number
atom_number (atom.Network a m) = a.number
atom_number (atom.Path a m) = text_number_after 7 a
atom_number other = 0

-- two bits of 64, which may be the same
abbrev pub atom_bits : Atom → ℕ
atom_bits a = bit_or (2 ^ (atom_number a % 64)) (2 ^ (atom_number a / 64 % 64))

-- these bits, and those of the members that are not negated
abbrev pub bits_with_unnegated : ℕ → List SignedAtom → ℕ
bits_with_unnegated bits [] = bits
bits_with_unnegated bits (s ∷ fs) = bits_with_unnegated (if s.allow then bit_or bits (atom_bits s.atom) else bits) fs

-- A list that is wider than another gives the bits that the other needs.
abbrev pub given_bits : List SignedAtom → ℕ
given_bits fs = if has_all_in_force fs then 2 ^ 64 - 1 else bits_with_unnegated 0 fs

-- the bits of the first member that is not negated
abbrev pub needed_bits : List SignedAtom → ℕ
needed_bits [] = 0
needed_bits (s ∷ fs) = if s.allow then atom_bits s.atom else needed_bits fs
