-- Lists of hosts, as the code compares them; a list is the same as itself.
use Rattle.std.proofs.Common.{◌≡◌, ℕ, Bool, true, false, not, ◌&&◌, ◌==◌, List, [], ◌∷◌, map, nat_eq, refl, sym, ap, ap₂, ◌∙◌, eq-eqb}
use Rattle.std.proofs.lemmas.Slice.Eq.{bytes_eq-Decides}
use Rattle.std.specs.Str.{bytes_eq}
use Rattle.sudoers_grammar.specs.Node.{Digest, Member}
use Rattle.sudoers_grammar.specs.declared.node.Args.{Args}
use Rattle.sudoers_grammar.specs.declared.node.Args.TheVariants as args
use Rattle.sudoers_grammar.specs.declared.node.Atom.{Atom}
use Rattle.sudoers_grammar.specs.declared.node.Atom.TheVariants as atom
use Rattle.sudoers_grammar.specs.declared.node.DigestKind.{DigestKind}
use Rattle.sudoers_grammar.specs.declared.node.DigestKind.TheVariants as digest
use Rattle.sudoers_grammar.specs.declared.node.Mask.{Mask}
use Rattle.sudoers_grammar.specs.declared.node.Mask.TheVariants as mask
use Rattle.sudoers_line_rows.specs.Alike.{are_lists_alike, is_same_args, is_same_atom, is_same_bool, is_same_digest, is_same_digest_kind, is_same_mask, is_same_member}
use Rattle.sudoers_match_list.specs.Flat.{SignedAtom, signed_atom_of_member}
use Rattle.laws_compare.specs.Decided.{is_same_flat_list, is_same_signed_atom}

-- ---- members are the same exactly if their signed atoms are

opposites_are_alike : (a b : Bool) → is_same_bool a b ≡ is_same_bool (not a) (not b)
opposites_are_alike true true = refl
opposites_are_alike true false = refl
opposites_are_alike false true = refl
opposites_are_alike false false = refl

members_are_alike_as_signed_atoms : (m n : Member) → is_same_member m n ≡ is_same_signed_atom (signed_atom_of_member m) (signed_atom_of_member n)
members_are_alike_as_signed_atoms m n = ap (λ same. same && are_lists_alike is_same_digest m.digests n.digests && is_same_atom m.atom n.atom) (opposites_are_alike m.negated n.negated)

pub lists_are_alike_as_flat_lists : (ms ns : List Member)
    → are_lists_alike is_same_member ms ns ≡ is_same_flat_list (map signed_atom_of_member ms) (map signed_atom_of_member ns)
lists_are_alike_as_flat_lists [] [] = refl
lists_are_alike_as_flat_lists [] (n ∷ ns) = refl
lists_are_alike_as_flat_lists (m ∷ ms) [] = refl
lists_are_alike_as_flat_lists (m ∷ ms) (n ∷ ns) = ap₂ (λ a b. a && b) (members_are_alike_as_signed_atoms m n) (lists_are_alike_as_flat_lists ms ns)

-- ---- each is the same as itself

both_true : {a b : Bool} → a ≡ true → b ≡ true → (a && b) ≡ true
both_true e d = ap₂ (λ a b. a && b) e d

bytes_are_alike : (bytes : List ℕ) → bytes_eq bytes bytes ≡ true
bytes_are_alike bytes = (bytes_eq-Decides bytes bytes).1 refl

number_is_alike : (n : ℕ) → (n == n) ≡ true
number_is_alike n = eq-eqb n n refl

truth_value_is_alike : (a : Bool) → is_same_bool a a ≡ true
truth_value_is_alike true = refl
truth_value_is_alike false = refl

list_is_alike : {X : Type 0} (alike : X → X → Bool) → ((x : X) → alike x x ≡ true) → (xs : List X) → are_lists_alike alike xs xs ≡ true
list_is_alike alike one [] = refl
list_is_alike alike one (x ∷ xs) = both_true (one x) (list_is_alike alike one xs)

digest_kind_is_alike : (a : DigestKind) → is_same_digest_kind a a ≡ true
digest_kind_is_alike digest.Sha224 = refl
digest_kind_is_alike digest.Sha256 = refl
digest_kind_is_alike digest.Sha384 = refl
digest_kind_is_alike digest.Sha512 = refl

digest_is_alike : (a : Digest) → is_same_digest a a ≡ true
digest_is_alike a = both_true (digest_kind_is_alike a.kind) (bytes_are_alike a.text)

mask_is_alike : (a : Mask) → is_same_mask a a ≡ true
mask_is_alike (mask.Bits n) = number_is_alike n
mask_is_alike (mask.Dotted d) = number_is_alike d.number

args_are_alike : (a : Args) → is_same_args a a ≡ true
args_are_alike args.Any = refl
args_are_alike args.Nothing = refl
args_are_alike (args.Pattern p) = bytes_are_alike p

atom_is_alike : (a : Atom) → is_same_atom a a ≡ true
atom_is_alike atom.All = refl
atom_is_alike (atom.Alias a) = bytes_are_alike a
atom_is_alike (atom.Name a) = bytes_are_alike a
atom_is_alike (atom.Id a) = number_is_alike a
atom_is_alike (atom.Group a) = bytes_are_alike a
atom_is_alike (atom.GroupId a) = number_is_alike a
atom_is_alike (atom.NonUnix a) = bytes_are_alike a
atom_is_alike (atom.Netgroup a) = bytes_are_alike a
atom_is_alike (atom.Host a) = bytes_are_alike a
atom_is_alike (atom.Address a) = number_is_alike a.number
atom_is_alike (atom.Network a m) = both_true (number_is_alike a.number) (mask_is_alike m)
atom_is_alike atom.Listing = refl
atom_is_alike (atom.Path a m) = both_true (bytes_are_alike a) (args_are_alike m)
atom_is_alike (atom.Sudoedit m) = args_are_alike m

signed_atom_is_alike : (s : SignedAtom) → is_same_signed_atom s s ≡ true
signed_atom_is_alike s = both_true (both_true (truth_value_is_alike s.allow) (list_is_alike is_same_digest digest_is_alike s.digests)) (atom_is_alike s.atom)

pub flat_list_is_alike : (fs : List SignedAtom) → is_same_flat_list fs fs ≡ true
flat_list_is_alike fs = list_is_alike is_same_signed_atom signed_atom_is_alike fs

pub same_place_is_behind : (line other : ℕ) (hosts others : List SignedAtom) → line ≡ other → others ≡ hosts → true ≡ (nat_eq line other && is_same_flat_list hosts others)
same_place_is_behind line other hosts others e d = sym (both_true (eq-eqb line other e) (ap (is_same_flat_list hosts) d ∙ flat_list_is_alike hosts))
