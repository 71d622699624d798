-- Definitions that are alike: each is alike to itself, and what is alike to the same is alike.
use Rattle.sudoers_edit.proofs.Common.{Atom, Bool, Def, Digest, List, Member, [], and_parts, ap, are_lists_alike, bytes_eq, bytes_eq-Decides, eq-eqb, eqb-true, false, is_same_args, is_same_atom, is_same_bool}
use Rattle.sudoers_edit.proofs.Common.{is_same_def, is_same_digest, is_same_digest_kind, is_same_mask, is_same_member, length, refl, remove, subst, suc, sym, true, zero, ℕ, ◌&&◌, ◌++◌, ◌==◌, ◌∙◌, ◌∷◌, ◌≡◌}
use Rattle.sudoers_grammar.specs.declared.node.Args.{Args}
use Rattle.sudoers_grammar.specs.declared.node.Args.TheVariants as args
use Rattle.sudoers_grammar.specs.declared.node.Atom.TheVariants as atom
use Rattle.sudoers_grammar.specs.declared.node.DigestKind.{DigestKind}
use Rattle.sudoers_grammar.specs.declared.node.DigestKind.TheVariants as digest
use Rattle.sudoers_grammar.specs.declared.node.Mask.{Mask}
use Rattle.sudoers_grammar.specs.declared.node.Mask.TheVariants as mask

-- ---- two tests

both_truths_imply_conjunction : (a b : Bool) → a ≡ true → b ≡ true → (a && b) ≡ true
both_truths_imply_conjunction a b x y = rw (x, y) refl

three_truths_imply_conjunction : (a b c : Bool) → a ≡ true → b ≡ true → c ≡ true → (a && b && c) ≡ true
three_truths_imply_conjunction a b c x y z = rw (x, y, z) refl

number_is_alike_itself : (n : ℕ) → (n == n) ≡ true
number_is_alike_itself n = eq-eqb n n refl

number_alikeness_is_transitive : (a b c : ℕ) → (a == b) ≡ true → (b == c) ≡ true → (a == c) ≡ true
number_alikeness_is_transitive a b c h k = eq-eqb a c (eqb-true a b h ∙ eqb-true b c k)

alike_bytes_are_equal : (a b : List ℕ) → bytes_eq a b ≡ true → a ≡ b
alike_bytes_are_equal a b h = (bytes_eq-Decides a b).0 h

bytes_are_alike_themselves : (a : List ℕ) → bytes_eq a a ≡ true
bytes_are_alike_themselves a = (bytes_eq-Decides a a).1 refl

bytes_alikeness_is_transitive : (a b c : List ℕ) → bytes_eq a b ≡ true → bytes_eq b c ≡ true → bytes_eq a c ≡ true
bytes_alikeness_is_transitive a b c h k = subst (λ (x : List ℕ). bytes_eq x c ≡ true) (sym (alike_bytes_are_equal a b h)) k

-- ---- lists

-- each is alike to itself
abbrev IsReflexiveAlikeness : {X : Type 0} → (X → X → Bool) → Type 0
IsReflexiveAlikeness alike = (x : _) → alike x x ≡ true

-- what is alike to the same is alike
abbrev IsTransitiveAlikeness : {X : Type 0} → (X → X → Bool) → Type 0
IsTransitiveAlikeness alike = (x y z : _) → alike x y ≡ true → alike y z ≡ true → alike x z ≡ true

list_is_alike_itself : {X : Type 0} (alike : X → X → Bool) → IsReflexiveAlikeness alike → (xs : List X) → are_lists_alike alike xs xs ≡ true
list_is_alike_itself alike self [] = refl
list_is_alike_itself alike self (x ∷ xs) = both_truths_imply_conjunction (alike x x) (are_lists_alike alike xs xs) (self x) (list_is_alike_itself alike self xs)

list_alikeness_is_transitive : {X : Type 0} (alike : X → X → Bool) → IsTransitiveAlikeness alike → (xs ys zs : List X) → are_lists_alike alike xs ys ≡ true → are_lists_alike alike ys zs ≡ true
    → are_lists_alike alike xs zs ≡ true
list_alikeness_is_transitive alike through [] [] zs h k = k
list_alikeness_is_transitive alike through [] (y ∷ ys) zs h k = absurd (cc)
list_alikeness_is_transitive alike through (x ∷ xs) [] zs h k = absurd (cc)
list_alikeness_is_transitive alike through (x ∷ xs) (y ∷ ys) [] h k = absurd (cc)
list_alikeness_is_transitive alike through (x ∷ xs) (y ∷ ys) (z ∷ zs) h k =
    let a = and_parts (alike x y) (are_lists_alike alike xs ys) h in
    let b = and_parts (alike y z) (are_lists_alike alike ys zs) k in
    both_truths_imply_conjunction (alike x z) (are_lists_alike alike xs zs) (through x y z a.0 b.0) (list_alikeness_is_transitive alike through xs ys zs a.1 b.1)

pub removal_keeps_alike_lists : {X : Type 0} (alike : X → X → Bool) (xs ys : List X) (at : ℕ) → are_lists_alike alike xs ys ≡ true
    → are_lists_alike alike (remove xs at) (remove ys at) ≡ true
removal_keeps_alike_lists alike [] [] zero h = refl
removal_keeps_alike_lists alike [] [] (suc at) h = refl
removal_keeps_alike_lists alike [] (y ∷ ys) at h = absurd (cc)
removal_keeps_alike_lists alike (x ∷ xs) [] at h = absurd (cc)
removal_keeps_alike_lists alike (x ∷ xs) (y ∷ ys) zero h = (and_parts (alike x y) (are_lists_alike alike xs ys) h).1
removal_keeps_alike_lists alike (x ∷ xs) (y ∷ ys) (suc at) h =
    let a = and_parts (alike x y) (are_lists_alike alike xs ys) h in
    both_truths_imply_conjunction (alike x y) (are_lists_alike alike (remove xs at) (remove ys at)) a.0 (removal_keeps_alike_lists alike xs ys at a.1)

pub alike_lists_have_equal_length : {X : Type 0} (alike : X → X → Bool) (xs ys : List X) → are_lists_alike alike xs ys ≡ true → length xs ≡ length ys
alike_lists_have_equal_length alike [] [] h = refl
alike_lists_have_equal_length alike [] (y ∷ ys) h = absurd (cc)
alike_lists_have_equal_length alike (x ∷ xs) [] h = absurd (cc)
alike_lists_have_equal_length alike (x ∷ xs) (y ∷ ys) h = ap suc (alike_lists_have_equal_length alike xs ys (and_parts (alike x y) (are_lists_alike alike xs ys) h).1)

-- ---- members

truth_value_is_alike_itself : (a : Bool) → is_same_bool a a ≡ true
truth_value_is_alike_itself true = refl
truth_value_is_alike_itself false = refl

truth_value_alikeness_is_transitive : (a b c : Bool) → is_same_bool a b ≡ true → is_same_bool b c ≡ true → is_same_bool a c ≡ true
truth_value_alikeness_is_transitive true true c h k = k
truth_value_alikeness_is_transitive false false c h k = k
truth_value_alikeness_is_transitive a b c h k = absurd (cc)

digest_kind_is_alike_itself : (a : DigestKind) → is_same_digest_kind a a ≡ true
digest_kind_is_alike_itself digest.Sha224 = refl
digest_kind_is_alike_itself digest.Sha256 = refl
digest_kind_is_alike_itself digest.Sha384 = refl
digest_kind_is_alike_itself digest.Sha512 = refl

digest_kind_alikeness_is_transitive : (a b c : DigestKind) → is_same_digest_kind a b ≡ true → is_same_digest_kind b c ≡ true → is_same_digest_kind a c ≡ true
digest_kind_alikeness_is_transitive digest.Sha224 digest.Sha224 c h k = k
digest_kind_alikeness_is_transitive digest.Sha256 digest.Sha256 c h k = k
digest_kind_alikeness_is_transitive digest.Sha384 digest.Sha384 c h k = k
digest_kind_alikeness_is_transitive digest.Sha512 digest.Sha512 c h k = k
digest_kind_alikeness_is_transitive a b c h k = absurd (cc)

digest_is_alike_itself : (a : Digest) → is_same_digest a a ≡ true
digest_is_alike_itself a = both_truths_imply_conjunction (is_same_digest_kind a.kind a.kind) (bytes_eq a.text a.text) (digest_kind_is_alike_itself a.kind) (bytes_are_alike_themselves a.text)

digest_alikeness_is_transitive : (a b c : Digest) → is_same_digest a b ≡ true → is_same_digest b c ≡ true → is_same_digest a c ≡ true
digest_alikeness_is_transitive a b c h k =
    let x = and_parts (is_same_digest_kind a.kind b.kind) (bytes_eq a.text b.text) h in
    let y = and_parts (is_same_digest_kind b.kind c.kind) (bytes_eq b.text c.text) k in
    both_truths_imply_conjunction (is_same_digest_kind a.kind c.kind) (bytes_eq a.text c.text) (digest_kind_alikeness_is_transitive a.kind b.kind c.kind x.0 y.0) (bytes_alikeness_is_transitive a.text b.text c.text x.1 y.1)

mask_is_alike_itself : (a : Mask) → is_same_mask a a ≡ true
mask_is_alike_itself (mask.Bits a) = number_is_alike_itself a
mask_is_alike_itself (mask.Dotted a) = number_is_alike_itself a.number

mask_alikeness_is_transitive : (a b c : Mask) → is_same_mask a b ≡ true → is_same_mask b c ≡ true → is_same_mask a c ≡ true
mask_alikeness_is_transitive (mask.Bits a) (mask.Bits b) (mask.Bits c) h k = number_alikeness_is_transitive a b c h k
mask_alikeness_is_transitive (mask.Dotted a) (mask.Dotted b) (mask.Dotted c) h k = number_alikeness_is_transitive a.number b.number c.number h k
mask_alikeness_is_transitive a b c h k = absurd (cc)

args_are_alike_themselves : (a : Args) → is_same_args a a ≡ true
args_are_alike_themselves args.Any = refl
args_are_alike_themselves args.Nothing = refl
args_are_alike_themselves (args.Pattern a) = bytes_are_alike_themselves a

args_alikeness_is_transitive : (a b c : Args) → is_same_args a b ≡ true → is_same_args b c ≡ true → is_same_args a c ≡ true
args_alikeness_is_transitive args.Any args.Any c h k = k
args_alikeness_is_transitive args.Nothing args.Nothing c h k = k
args_alikeness_is_transitive (args.Pattern a) (args.Pattern b) (args.Pattern c) h k = bytes_alikeness_is_transitive a b c h k
args_alikeness_is_transitive a b c h k = absurd (cc)

pub atom_is_alike_itself : (a : Atom) → is_same_atom a a ≡ true
atom_is_alike_itself atom.All = refl
atom_is_alike_itself (atom.Alias a) = bytes_are_alike_themselves a
atom_is_alike_itself (atom.Name a) = bytes_are_alike_themselves a
atom_is_alike_itself (atom.Id a) = number_is_alike_itself a
atom_is_alike_itself (atom.Group a) = bytes_are_alike_themselves a
atom_is_alike_itself (atom.GroupId a) = number_is_alike_itself a
atom_is_alike_itself (atom.NonUnix a) = bytes_are_alike_themselves a
atom_is_alike_itself (atom.Netgroup a) = bytes_are_alike_themselves a
atom_is_alike_itself (atom.Host a) = bytes_are_alike_themselves a
atom_is_alike_itself (atom.Address a) = number_is_alike_itself a.number
atom_is_alike_itself (atom.Network a m) = both_truths_imply_conjunction (a.number == a.number) (is_same_mask m m) (number_is_alike_itself a.number) (mask_is_alike_itself m)
atom_is_alike_itself atom.Listing = refl
atom_is_alike_itself (atom.Path a m) = both_truths_imply_conjunction (bytes_eq a a) (is_same_args m m) (bytes_are_alike_themselves a) (args_are_alike_themselves m)
atom_is_alike_itself (atom.Sudoedit m) = args_are_alike_themselves m

-- an atom that is alike to one with these bytes
atom_of_alike_bytes_is_alike : (make : List ℕ → Atom) (a b : List ℕ) (c : Atom) → bytes_eq a b ≡ true → is_same_atom (make b) c ≡ true → is_same_atom (make a) c ≡ true
atom_of_alike_bytes_is_alike make a b c h k = subst (λ (x : List ℕ). is_same_atom (make x) c ≡ true) (sym (alike_bytes_are_equal a b h)) k

atom_of_alike_number_is_alike : (make : ℕ → Atom) (a b : ℕ) (c : Atom) → (a == b) ≡ true → is_same_atom (make b) c ≡ true → is_same_atom (make a) c ≡ true
atom_of_alike_number_is_alike make a b c h k = subst (λ (x : ℕ). is_same_atom (make x) c ≡ true) (sym (eqb-true a b h)) k

atom_alikeness_is_transitive : (a b c : Atom) → is_same_atom a b ≡ true → is_same_atom b c ≡ true → is_same_atom a c ≡ true
atom_alikeness_is_transitive atom.All atom.All c h k = k
atom_alikeness_is_transitive (atom.Alias a) (atom.Alias b) c h k = atom_of_alike_bytes_is_alike (λ x. atom.Alias x) a b c h k
atom_alikeness_is_transitive (atom.Name a) (atom.Name b) c h k = atom_of_alike_bytes_is_alike (λ x. atom.Name x) a b c h k
atom_alikeness_is_transitive (atom.Id a) (atom.Id b) c h k = atom_of_alike_number_is_alike (λ x. atom.Id x) a b c h k
atom_alikeness_is_transitive (atom.Group a) (atom.Group b) c h k = atom_of_alike_bytes_is_alike (λ x. atom.Group x) a b c h k
atom_alikeness_is_transitive (atom.GroupId a) (atom.GroupId b) c h k = atom_of_alike_number_is_alike (λ x. atom.GroupId x) a b c h k
atom_alikeness_is_transitive (atom.NonUnix a) (atom.NonUnix b) c h k = atom_of_alike_bytes_is_alike (λ x. atom.NonUnix x) a b c h k
atom_alikeness_is_transitive (atom.Netgroup a) (atom.Netgroup b) c h k = atom_of_alike_bytes_is_alike (λ x. atom.Netgroup x) a b c h k
atom_alikeness_is_transitive (atom.Host a) (atom.Host b) c h k = atom_of_alike_bytes_is_alike (λ x. atom.Host x) a b c h k
atom_alikeness_is_transitive (atom.Address a) (atom.Address b) c h k = by c k
  where
    by : (c : Atom) → is_same_atom (atom.Address b) c ≡ true → is_same_atom (atom.Address a) c ≡ true
    by (atom.Address c) k = number_alikeness_is_transitive a.number b.number c.number h k
    by c k = absurd (cc)
atom_alikeness_is_transitive (atom.Network a m) (atom.Network b n) c h k = by c k
  where
    by : (c : Atom) → is_same_atom (atom.Network b n) c ≡ true → is_same_atom (atom.Network a m) c ≡ true
    by (atom.Network c o) k =
        let x = and_parts (a.number == b.number) (is_same_mask m n) h in
        let y = and_parts (b.number == c.number) (is_same_mask n o) k in
        both_truths_imply_conjunction (a.number == c.number) (is_same_mask m o) (number_alikeness_is_transitive a.number b.number c.number x.0 y.0) (mask_alikeness_is_transitive m n o x.1 y.1)
    by c k = absurd (cc)
atom_alikeness_is_transitive atom.Listing atom.Listing c h k = k
atom_alikeness_is_transitive (atom.Path a m) (atom.Path b n) c h k = by c k
  where
    by : (c : Atom) → is_same_atom (atom.Path b n) c ≡ true → is_same_atom (atom.Path a m) c ≡ true
    by (atom.Path c o) k =
        let x = and_parts (bytes_eq a b) (is_same_args m n) h in
        let y = and_parts (bytes_eq b c) (is_same_args n o) k in
        both_truths_imply_conjunction (bytes_eq a c) (is_same_args m o) (bytes_alikeness_is_transitive a b c x.0 y.0) (args_alikeness_is_transitive m n o x.1 y.1)
    by c k = absurd (cc)
atom_alikeness_is_transitive (atom.Sudoedit m) (atom.Sudoedit n) c h k = by c k
  where
    by : (c : Atom) → is_same_atom (atom.Sudoedit n) c ≡ true → is_same_atom (atom.Sudoedit m) c ≡ true
    by (atom.Sudoedit o) k = args_alikeness_is_transitive m n o h k
    by c k = absurd (cc)
atom_alikeness_is_transitive a b c h k = absurd (cc)

member_is_alike_itself : (m : Member) → is_same_member m m ≡ true
member_is_alike_itself m =
    three_truths_imply_conjunction (is_same_bool m.negated m.negated) (are_lists_alike is_same_digest m.digests m.digests) (is_same_atom m.atom m.atom) (truth_value_is_alike_itself m.negated)
    (list_is_alike_itself is_same_digest digest_is_alike_itself m.digests) (atom_is_alike_itself m.atom)

member_alikeness_is_transitive : (a b c : Member) → is_same_member a b ≡ true → is_same_member b c ≡ true → is_same_member a c ≡ true
member_alikeness_is_transitive a b c h k =
    let x = and_parts (is_same_bool a.negated b.negated && are_lists_alike is_same_digest a.digests b.digests) (is_same_atom a.atom b.atom) h in
    let y = and_parts (is_same_bool b.negated c.negated && are_lists_alike is_same_digest b.digests c.digests) (is_same_atom b.atom c.atom) k in
    let u = and_parts (is_same_bool a.negated b.negated) (are_lists_alike is_same_digest a.digests b.digests) x.0 in
    let v = and_parts (is_same_bool b.negated c.negated) (are_lists_alike is_same_digest b.digests c.digests) y.0 in
    three_truths_imply_conjunction (is_same_bool a.negated c.negated) (are_lists_alike is_same_digest a.digests c.digests) (is_same_atom a.atom c.atom)
    (truth_value_alikeness_is_transitive a.negated b.negated c.negated u.0 v.0) (list_alikeness_is_transitive is_same_digest digest_alikeness_is_transitive a.digests b.digests c.digests u.1 v.1)
    (atom_alikeness_is_transitive a.atom b.atom c.atom x.1 y.1)

-- ---- definitions

definition_is_alike_itself : (d : Def) → is_same_def d d ≡ true
definition_is_alike_itself d =
    both_truths_imply_conjunction (bytes_eq d.name d.name) (are_lists_alike is_same_member d.members d.members) (bytes_are_alike_themselves d.name) (list_is_alike_itself is_same_member member_is_alike_itself d.members)

definition_alikeness_is_transitive : (a b c : Def) → is_same_def a b ≡ true → is_same_def b c ≡ true → is_same_def a c ≡ true
definition_alikeness_is_transitive a b c h k =
    let x = and_parts (bytes_eq a.name b.name) (are_lists_alike is_same_member a.members b.members) h in
    let y = and_parts (bytes_eq b.name c.name) (are_lists_alike is_same_member b.members c.members) k in
    both_truths_imply_conjunction (bytes_eq a.name c.name) (are_lists_alike is_same_member a.members c.members) (bytes_alikeness_is_transitive a.name b.name c.name x.0 y.0)
    (list_alikeness_is_transitive is_same_member member_alikeness_is_transitive a.members b.members c.members x.1 y.1)

pub definitions_are_alike_themselves : (defs : List Def) → are_lists_alike is_same_def defs defs ≡ true
definitions_are_alike_themselves defs = list_is_alike_itself is_same_def definition_is_alike_itself defs

pub definitions_alikeness_is_transitive : (xs ys zs : List Def) → are_lists_alike is_same_def xs ys ≡ true → are_lists_alike is_same_def ys zs ≡ true → are_lists_alike is_same_def xs zs ≡ true
definitions_alikeness_is_transitive xs ys zs h k = list_alikeness_is_transitive is_same_def definition_alikeness_is_transitive xs ys zs h k

pub removal_behind_front_leaves_front_and_rest : {X : Type 0} (front : List X) (x : X) (rest : List X) → remove (front ++ x ∷ rest) (length front) ≡ front ++ rest
removal_behind_front_leaves_front_and_rest [] x rest = refl
removal_behind_front_leaves_front_and_rest (first ∷ front) x rest = ap (λ xs. first ∷ xs) (removal_behind_front_leaves_front_and_rest front x rest)
