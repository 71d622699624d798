-- Members and definitions that are alike are the same, wherever in their lines they stand.
use Rattle.std.proofs.Common.{◌≡◌, ℕ, Bool, true, false, ◌&&◌, ◌==◌, List, [], ◌∷◌, refl, sym, ap, ap₂}
use Rattle.std.proofs.lemmas.Bool.{and_parts, eqb-true}
use Rattle.std.proofs.lemmas.Slice.Eq.{bytes_eq-Decides}
use Rattle.std.specs.Str.{bytes_eq}
use Rattle.sudoers_grammar.specs.declared.node.Address.{Address}
use Rattle.sudoers_grammar.specs.declared.node.Args.{Args}
use Rattle.sudoers_grammar.specs.declared.node.Args.TheVariants as args
use Rattle.sudoers_grammar.specs.declared.node.Atom.{Atom}
use Rattle.sudoers_grammar.specs.declared.node.Atom.TheVariants as atom
use Rattle.sudoers_grammar.specs.declared.node.DigestKind.{DigestKind}
use Rattle.sudoers_grammar.specs.declared.node.DigestKind.TheVariants as digest
use Rattle.sudoers_grammar.specs.declared.node.Mask.{Mask}
use Rattle.sudoers_grammar.specs.declared.node.Mask.TheVariants as mask
use Rattle.sudoers_grammar.specs.Node.{Digest, Member}
use Rattle.sudoers_match_list.specs.Alike.{IsPointwiseRelated, IsMemberWithAtomMapped, unchanged_atom}
use Rattle.sudoers_line_rows.specs.Alike.{are_lists_alike, is_same_bool, is_same_digest_kind, is_same_digest, is_same_mask, is_same_args, is_same_atom, is_same_member}

alike_bytes_are_same : (a b : List ℕ) → bytes_eq a b ≡ true → a ≡ b
alike_bytes_are_same a b h = (bytes_eq-Decides a b).0 h

alike_truth_values_are_same : (a b : Bool) → is_same_bool a b ≡ true → a ≡ b
alike_truth_values_are_same true true h = refl
alike_truth_values_are_same false false h = refl
alike_truth_values_are_same true false h = absurd cc
alike_truth_values_are_same false true h = absurd cc

alike_digest_kinds_are_same : (a b : DigestKind) → is_same_digest_kind a b ≡ true → a ≡ b
alike_digest_kinds_are_same digest.Sha224 digest.Sha224 h = refl
alike_digest_kinds_are_same digest.Sha256 digest.Sha256 h = refl
alike_digest_kinds_are_same digest.Sha384 digest.Sha384 h = refl
alike_digest_kinds_are_same digest.Sha512 digest.Sha512 h = refl
alike_digest_kinds_are_same a b h = absurd cc

alike_digests_are_same : (a b : Digest) → is_same_digest a b ≡ true → a ≡ b
alike_digests_are_same a b h =
    let p = and_parts (is_same_digest_kind a.kind b.kind) (bytes_eq a.text b.text) h in
    ap₂ (λ (kind : DigestKind) (text : List ℕ). the_digest kind text) (alike_digest_kinds_are_same a.kind b.kind p.0) (alike_bytes_are_same a.text b.text p.1)
  where
    the_digest : DigestKind → List ℕ → Digest
    the_digest kind text = record { kind = kind; text = text }

alike_digest_lists_are_same : (ds es : List Digest) → are_lists_alike is_same_digest ds es ≡ true → ds ≡ es
alike_digest_lists_are_same [] [] h = refl
alike_digest_lists_are_same [] (e ∷ es) h = absurd cc
alike_digest_lists_are_same (d ∷ ds) [] h = absurd cc
alike_digest_lists_are_same (d ∷ ds) (e ∷ es) h =
    let p = and_parts (is_same_digest d e) (are_lists_alike is_same_digest ds es) h in
    ap₂ (λ (x : Digest) (xs : List Digest). x ∷ xs) (alike_digests_are_same d e p.0) (alike_digest_lists_are_same ds es p.1)

addresses_of_equal_number_are_same : (a b : Address) → (a.number == b.number) ≡ true → a ≡ b
addresses_of_equal_number_are_same a b h = ap (λ n. the_address n) (eqb-true a.number b.number h)
  where
    the_address : ℕ → Address
    the_address n = record { number = n }

alike_masks_are_same : (a b : Mask) → is_same_mask a b ≡ true → a ≡ b
alike_masks_are_same (mask.Bits a) (mask.Bits b) h = ap mask.Bits (eqb-true a b h)
alike_masks_are_same (mask.Dotted a) (mask.Dotted b) h = ap mask.Dotted (addresses_of_equal_number_are_same a b h)
alike_masks_are_same a b h = absurd cc

alike_arguments_are_same : (a b : Args) → is_same_args a b ≡ true → a ≡ b
alike_arguments_are_same args.Any args.Any h = refl
alike_arguments_are_same args.Nothing args.Nothing h = refl
alike_arguments_are_same (args.Pattern a) (args.Pattern b) h = ap args.Pattern (alike_bytes_are_same a b h)
alike_arguments_are_same a b h = absurd cc

alike_atoms_are_same : (a b : Atom) → is_same_atom a b ≡ true → a ≡ b
alike_atoms_are_same atom.All atom.All h = refl
alike_atoms_are_same (atom.Alias a) (atom.Alias b) h = ap atom.Alias (alike_bytes_are_same a b h)
alike_atoms_are_same (atom.Name a) (atom.Name b) h = ap atom.Name (alike_bytes_are_same a b h)
alike_atoms_are_same (atom.Id a) (atom.Id b) h = ap atom.Id (eqb-true a b h)
alike_atoms_are_same (atom.Group a) (atom.Group b) h = ap atom.Group (alike_bytes_are_same a b h)
alike_atoms_are_same (atom.GroupId a) (atom.GroupId b) h = ap atom.GroupId (eqb-true a b h)
alike_atoms_are_same (atom.NonUnix a) (atom.NonUnix b) h = ap atom.NonUnix (alike_bytes_are_same a b h)
alike_atoms_are_same (atom.Netgroup a) (atom.Netgroup b) h = ap atom.Netgroup (alike_bytes_are_same a b h)
alike_atoms_are_same (atom.Host a) (atom.Host b) h = ap atom.Host (alike_bytes_are_same a b h)
alike_atoms_are_same (atom.Address a) (atom.Address b) h = ap atom.Address (addresses_of_equal_number_are_same a b h)
alike_atoms_are_same (atom.Network a m) (atom.Network b n) h =
    let p = and_parts (a.number == b.number) (is_same_mask m n) h in
    ap₂ (λ (x : Address) (y : Mask). atom.Network x y) (addresses_of_equal_number_are_same a b p.0) (alike_masks_are_same m n p.1)
alike_atoms_are_same atom.Listing atom.Listing h = refl
alike_atoms_are_same (atom.Path a m) (atom.Path b n) h =
    let p = and_parts (bytes_eq a b) (is_same_args m n) h in
    ap₂ (λ (x : List ℕ) (y : Args). atom.Path x y) (alike_bytes_are_same a b p.0) (alike_arguments_are_same m n p.1)
alike_atoms_are_same (atom.Sudoedit m) (atom.Sudoedit n) h = ap atom.Sudoedit (alike_arguments_are_same m n h)
alike_atoms_are_same a b h = absurd cc

alike_member_is_rewritten_unchanged : (m n : Member) → is_same_member m n ≡ true → IsMemberWithAtomMapped unchanged_atom m n
alike_member_is_rewritten_unchanged m n h =
    let p = and_parts (is_same_bool m.negated n.negated && are_lists_alike is_same_digest m.digests n.digests) (is_same_atom m.atom n.atom) h in
    let q = and_parts (is_same_bool m.negated n.negated) (are_lists_alike is_same_digest m.digests n.digests) p.0 in
    record {
      negated = sym (alike_truth_values_are_same m.negated n.negated q.0);
      digests = sym (alike_digest_lists_are_same m.digests n.digests q.1);
      atom = sym (alike_atoms_are_same m.atom n.atom p.1);
    }

-- Lists of members that are alike are the same, places aside.
pub alike_members_are_rewritten_unchanged : (ms ns : List Member) → are_lists_alike is_same_member ms ns ≡ true → IsPointwiseRelated (IsMemberWithAtomMapped unchanged_atom) ms ns
alike_members_are_rewritten_unchanged [] [] h = tt
alike_members_are_rewritten_unchanged [] (n ∷ ns) h = absurd cc
alike_members_are_rewritten_unchanged (m ∷ ms) [] h = absurd cc
alike_members_are_rewritten_unchanged (m ∷ ms) (n ∷ ns) h =
    let p = and_parts (is_same_member m n) (are_lists_alike is_same_member ms ns) h in
    (alike_member_is_rewritten_unchanged m n p.0, alike_members_are_rewritten_unchanged ms ns p.1)
