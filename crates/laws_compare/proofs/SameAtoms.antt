-- Signed atoms that are decided to be the same are the same.
use Rattle.std.proofs.Common.{◌≡◌, ℕ, Bool, true, false, ◌&&◌, ◌==◌, List, [], ◌∷◌, refl, sym, ap, ap₂, ◌∙◌, true≢false, eqb-true}
use Rattle.std.proofs.lemmas.Bool.{and_parts}
use Rattle.std.proofs.lemmas.Slice.Eq.{bytes_eq-Decides}
use Rattle.std.specs.Str.{bytes_eq}
use Rattle.sudoers_grammar.specs.Node.{Digest}
use Rattle.sudoers_grammar.specs.declared.node.Address.{Address}
use Rattle.sudoers_grammar.specs.declared.node.Args.{Args}
use Rattle.sudoers_grammar.specs.declared.node.Args.TheVariants as args
use Rattle.sudoers_grammar.specs.declared.node.Atom.{Atom}
use Rattle.sudoers_grammar.specs.declared.node.Atom.TheVariants as atom
use Rattle.sudoers_grammar.specs.declared.node.DigestKind.{DigestKind}
use Rattle.sudoers_grammar.specs.declared.node.DigestKind.TheVariants as digest
use Rattle.sudoers_grammar.specs.declared.node.Mask.{Mask}
use Rattle.sudoers_grammar.specs.declared.node.Mask.TheVariants as mask
use Rattle.sudoers_match_list.specs.Flat.{SignedAtom}
use Rattle.sudoers_line_rows.specs.Alike.{are_lists_alike, is_same_bool, is_same_digest_kind, is_same_digest, is_same_mask, is_same_args, is_same_atom}
use Rattle.laws_compare.specs.Decided.{is_same_signed_atom}

pub alike_bytes_are_same : (a b : List ℕ) → bytes_eq a b ≡ true → a ≡ b
alike_bytes_are_same a b e = (bytes_eq-Decides a b).0 e

pub alike_truth_values_are_same : (a b : Bool) → is_same_bool a b ≡ true → a ≡ b
alike_truth_values_are_same true true e = refl
alike_truth_values_are_same false false e = refl
alike_truth_values_are_same a b e = absurd (true≢false (sym e))

alike_digest_kinds_are_same : (a b : DigestKind) → is_same_digest_kind a b ≡ true → a ≡ b
alike_digest_kinds_are_same digest.Sha224 digest.Sha224 e = refl
alike_digest_kinds_are_same digest.Sha256 digest.Sha256 e = refl
alike_digest_kinds_are_same digest.Sha384 digest.Sha384 e = refl
alike_digest_kinds_are_same digest.Sha512 digest.Sha512 e = refl
alike_digest_kinds_are_same a b e = absurd (true≢false (sym e))

abbrev the_digest : DigestKind → List ℕ → Digest
the_digest kind text = record { kind = kind; text = text }

alike_digests_are_same : (a b : Digest) → is_same_digest a b ≡ true → a ≡ b
alike_digests_are_same a b e = let both = and_parts _ _ e in ap₂ the_digest (alike_digest_kinds_are_same a.kind b.kind both.0) (alike_bytes_are_same a.text b.text both.1)

abbrev the_address : ℕ → Address
the_address n = record { number = n }

addresses_of_equal_number_are_same : (a b : Address) → (a.number == b.number) ≡ true → a ≡ b
addresses_of_equal_number_are_same a b e = ap the_address (eqb-true a.number b.number e)

alike_masks_are_same : (a b : Mask) → is_same_mask a b ≡ true → a ≡ b
alike_masks_are_same (mask.Bits a) (mask.Bits b) e = ap mask.Bits (eqb-true a b e)
alike_masks_are_same (mask.Dotted a) (mask.Dotted b) e = ap mask.Dotted (addresses_of_equal_number_are_same a b e)
alike_masks_are_same a b e = absurd (true≢false (sym e))

alike_arguments_are_same : (a b : Args) → is_same_args a b ≡ true → a ≡ b
alike_arguments_are_same args.Any args.Any e = refl
alike_arguments_are_same args.Nothing args.Nothing e = refl
alike_arguments_are_same (args.Pattern a) (args.Pattern b) e = ap args.Pattern (alike_bytes_are_same a b e)
alike_arguments_are_same a b e = absurd (true≢false (sym e))

pub alike_atoms_are_same : (a b : Atom) → is_same_atom a b ≡ true → a ≡ b
alike_atoms_are_same atom.All atom.All e = refl
alike_atoms_are_same (atom.Alias a) (atom.Alias b) e = ap atom.Alias (alike_bytes_are_same a b e)
alike_atoms_are_same (atom.Name a) (atom.Name b) e = ap atom.Name (alike_bytes_are_same a b e)
alike_atoms_are_same (atom.Id a) (atom.Id b) e = ap atom.Id (eqb-true a b e)
alike_atoms_are_same (atom.Group a) (atom.Group b) e = ap atom.Group (alike_bytes_are_same a b e)
alike_atoms_are_same (atom.GroupId a) (atom.GroupId b) e = ap atom.GroupId (eqb-true a b e)
alike_atoms_are_same (atom.NonUnix a) (atom.NonUnix b) e = ap atom.NonUnix (alike_bytes_are_same a b e)
alike_atoms_are_same (atom.Netgroup a) (atom.Netgroup b) e = ap atom.Netgroup (alike_bytes_are_same a b e)
alike_atoms_are_same (atom.Host a) (atom.Host b) e = ap atom.Host (alike_bytes_are_same a b e)
alike_atoms_are_same (atom.Address a) (atom.Address b) e = ap atom.Address (addresses_of_equal_number_are_same a b e)
alike_atoms_are_same (atom.Network a m) (atom.Network b n) e = let both = and_parts _ _ e in ap₂ atom.Network (addresses_of_equal_number_are_same a b both.0) (alike_masks_are_same m n both.1)
alike_atoms_are_same atom.Listing atom.Listing e = refl
alike_atoms_are_same (atom.Path a m) (atom.Path b n) e = let both = and_parts _ _ e in ap₂ atom.Path (alike_bytes_are_same a b both.0) (alike_arguments_are_same m n both.1)
alike_atoms_are_same (atom.Sudoedit m) (atom.Sudoedit n) e = ap atom.Sudoedit (alike_arguments_are_same m n e)
alike_atoms_are_same a b e = absurd (true≢false (sym e))

pub alike_lists_are_same : {X : Type 0} (alike : X → X → Bool) → ((x y : X) → alike x y ≡ true → x ≡ y) → (xs ys : List X) → are_lists_alike alike xs ys ≡ true → xs ≡ ys
alike_lists_are_same alike one [] [] e = refl
alike_lists_are_same alike one [] (y ∷ ys) e = absurd (true≢false (sym e))
alike_lists_are_same alike one (x ∷ xs) [] e = absurd (true≢false (sym e))
alike_lists_are_same alike one (x ∷ xs) (y ∷ ys) e =
    let both = and_parts _ _ e in ap₂ (λ z zs. z ∷ zs) (one x y both.0) (alike_lists_are_same alike one xs ys both.1)

abbrev pub the_signed_atom : Bool → List Digest → Atom → SignedAtom
the_signed_atom allow digests a = record { allow = allow; digests = digests; atom = a }

pub alike_signed_atoms_are_same : (s t : SignedAtom) → is_same_signed_atom s t ≡ true → s ≡ t
alike_signed_atoms_are_same s t e =
    let outer = and_parts (is_same_bool s.allow t.allow && are_lists_alike is_same_digest s.digests t.digests) (is_same_atom s.atom t.atom) e in
    let inner = and_parts (is_same_bool s.allow t.allow) (are_lists_alike is_same_digest s.digests t.digests) outer.0 in
    ap₂ (λ allow digests. the_signed_atom allow digests s.atom) (alike_truth_values_are_same s.allow t.allow inner.0)
    (alike_lists_are_same is_same_digest alike_digests_are_same s.digests t.digests inner.1)
    ∙ ap (the_signed_atom t.allow t.digests) (alike_atoms_are_same s.atom t.atom outer.1)
