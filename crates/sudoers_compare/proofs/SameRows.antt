-- Rows are decided to be the same exactly if they are.
use Rattle.std.proofs.Common.{◌≡◌, ℕ, Bool, true, false, ◌&&◌, ◌==◌, List, [], ◌∷◌, Option, Some, None, refl, sym, ap, ap₂, ◌∙◌, true≢false, eq-eqb}
use Rattle.std.proofs.lemmas.Bool.{and_parts}
use Rattle.std.proofs.lemmas.Slice.Eq.{bytes_eq-Decides}
use Rattle.std.specs.Str.{bytes_eq}
use Rattle.sudoers_grammar.specs.Node.{Digest}
use Rattle.sudoers_grammar.specs.declared.node.Args.{Args}
use Rattle.sudoers_grammar.specs.declared.node.Args.TheVariants as args
use Rattle.sudoers_grammar.specs.declared.node.Atom.{Atom}
use Rattle.sudoers_grammar.specs.declared.node.Atom.TheVariants as atom
use Rattle.sudoers_grammar.specs.declared.node.DigestKind.{DigestKind}
use Rattle.sudoers_grammar.specs.declared.node.DigestKind.TheVariants as digest
use Rattle.sudoers_grammar.specs.declared.node.Mask.{Mask}
use Rattle.sudoers_grammar.specs.declared.node.Mask.TheVariants as mask
use Rattle.sudoers_line_rows.specs.Alike.{are_lists_alike, is_same_bool, is_same_digest_kind, is_same_digest, is_same_mask, is_same_args, is_same_atom}
use Rattle.sudoers_match_list.specs.Flat.{SignedAtom}
use Rattle.sudoers_match.specs.declared.tags.CommandTags.{CommandTags}
use Rattle.sudoers_match.specs.Values.{OptionValues}
use Rattle.laws_compare.specs.Content.{FlatRunasSpec, flat_runas_spec_of_lists, Grant, FlatPrivilegeRow}
use Rattle.laws_compare.specs.Decided.{is_same_flat_list, is_same_signed_atom}
use Rattle.laws_compare.proofs.SameAtoms.{alike_bytes_are_same, alike_lists_are_same, alike_signed_atoms_are_same, alike_truth_values_are_same}
use Rattle.sudoers_compare.specs.SameRow.{are_options_alike, are_same_option_values, are_same_runas_lists, are_same_tags, is_same_flat_row, is_same_flat_runas_spec, is_same_grant, is_same_option_value, is_same_optional_flat_list, is_same_tag}

applied_same : {X Y : Type 0} {f g : X → Y} {x y : X} → f ≡ g → x ≡ y → f x ≡ g y
applied_same e d = ap₂ (λ f x. f x) e d

pub both_true : {a b : Bool} → a ≡ true → b ≡ true → (a && b) ≡ true
both_true e d = ap₂ (λ a b. a && b) e d

-- ---- what is decided to be the same is the same

alike_options_are_same : {X : Type 0} (alike : X → X → Bool) → ((x y : X) → alike x y ≡ true → x ≡ y) → (a b : Option X) → are_options_alike alike a b ≡ true → a ≡ b
alike_options_are_same alike one None None e = refl
alike_options_are_same alike one None (Some y) e = absurd (true≢false (sym e))
alike_options_are_same alike one (Some x) None e = absurd (true≢false (sym e))
alike_options_are_same alike one (Some x) (Some y) e = ap Some (one x y e)

pub alike_flat_lists_are_same : (fs gs : List SignedAtom) → is_same_flat_list fs gs ≡ true → fs ≡ gs
alike_flat_lists_are_same fs gs e = alike_lists_are_same is_same_signed_atom alike_signed_atoms_are_same fs gs e

alike_runas_lists_are_same : (a b : FlatRunasSpec) → are_same_runas_lists a b ≡ true → a ≡ b
alike_runas_lists_are_same a b e =
    let both = and_parts (is_same_optional_flat_list a.users b.users) (is_same_optional_flat_list a.groups b.groups) e in
    ap₂ flat_runas_spec_of_lists (alike_options_are_same is_same_flat_list alike_flat_lists_are_same a.users b.users both.0)
    (alike_options_are_same is_same_flat_list alike_flat_lists_are_same a.groups b.groups both.1)

alike_values_are_same : (a b : Option (List ℕ)) → is_same_option_value a b ≡ true → a ≡ b
alike_values_are_same a b e = alike_options_are_same bytes_eq alike_bytes_are_same a b e

abbrev the_values : Option (List ℕ) → Option (List ℕ) → Option (List ℕ) → Option (List ℕ) → Option (List ℕ) → Option (List ℕ) → Option (List ℕ) → Option (List ℕ) → Option (List ℕ) → Option (List ℕ) → OptionValues
the_values role kind apparmor_profile privs limitprivs notbefore notafter timeout cwd chroot = record { role = role; kind = kind; apparmor_profile = apparmor_profile; privs = privs; limitprivs = limitprivs; notbefore = notbefore; notafter = notafter; timeout = timeout; cwd = cwd; chroot = chroot }

alike_option_values_are_same : (a b : OptionValues) → are_same_option_values a b ≡ true → a ≡ b
alike_option_values_are_same a b e =
    let p9 = and_parts (is_same_option_value a.role b.role && is_same_option_value a.kind b.kind && is_same_option_value a.apparmor_profile b.apparmor_profile && is_same_option_value a.privs b.privs && is_same_option_value a.limitprivs b.limitprivs && is_same_option_value a.notbefore b.notbefore && is_same_option_value a.notafter b.notafter && is_same_option_value a.timeout b.timeout && is_same_option_value a.cwd b.cwd) (is_same_option_value a.chroot b.chroot) e in
    let p8 = and_parts (is_same_option_value a.role b.role && is_same_option_value a.kind b.kind && is_same_option_value a.apparmor_profile b.apparmor_profile && is_same_option_value a.privs b.privs && is_same_option_value a.limitprivs b.limitprivs && is_same_option_value a.notbefore b.notbefore && is_same_option_value a.notafter b.notafter && is_same_option_value a.timeout b.timeout) (is_same_option_value a.cwd b.cwd) p9.0 in
    let p7 = and_parts (is_same_option_value a.role b.role && is_same_option_value a.kind b.kind && is_same_option_value a.apparmor_profile b.apparmor_profile && is_same_option_value a.privs b.privs && is_same_option_value a.limitprivs b.limitprivs && is_same_option_value a.notbefore b.notbefore && is_same_option_value a.notafter b.notafter) (is_same_option_value a.timeout b.timeout) p8.0 in
    let p6 = and_parts (is_same_option_value a.role b.role && is_same_option_value a.kind b.kind && is_same_option_value a.apparmor_profile b.apparmor_profile && is_same_option_value a.privs b.privs && is_same_option_value a.limitprivs b.limitprivs && is_same_option_value a.notbefore b.notbefore) (is_same_option_value a.notafter b.notafter) p7.0 in
    let p5 = and_parts (is_same_option_value a.role b.role && is_same_option_value a.kind b.kind && is_same_option_value a.apparmor_profile b.apparmor_profile && is_same_option_value a.privs b.privs && is_same_option_value a.limitprivs b.limitprivs) (is_same_option_value a.notbefore b.notbefore) p6.0 in
    let p4 = and_parts (is_same_option_value a.role b.role && is_same_option_value a.kind b.kind && is_same_option_value a.apparmor_profile b.apparmor_profile && is_same_option_value a.privs b.privs) (is_same_option_value a.limitprivs b.limitprivs) p5.0 in
    let p3 = and_parts (is_same_option_value a.role b.role && is_same_option_value a.kind b.kind && is_same_option_value a.apparmor_profile b.apparmor_profile) (is_same_option_value a.privs b.privs) p4.0 in
    let p2 = and_parts (is_same_option_value a.role b.role && is_same_option_value a.kind b.kind) (is_same_option_value a.apparmor_profile b.apparmor_profile) p3.0 in
    let p1 = and_parts (is_same_option_value a.role b.role) (is_same_option_value a.kind b.kind) p2.0 in
    applied_same (applied_same (applied_same (applied_same (applied_same (applied_same (applied_same (applied_same (applied_same (ap the_values (alike_values_are_same a.role b.role p1.0)) (alike_values_are_same a.kind b.kind p1.1)) (alike_values_are_same a.apparmor_profile b.apparmor_profile p2.1)) (alike_values_are_same a.privs b.privs p3.1)) (alike_values_are_same a.limitprivs b.limitprivs p4.1)) (alike_values_are_same a.notbefore b.notbefore p5.1)) (alike_values_are_same a.notafter b.notafter p6.1)) (alike_values_are_same a.timeout b.timeout p7.1)) (alike_values_are_same a.cwd b.cwd p8.1)) (alike_values_are_same a.chroot b.chroot p9.1)

one_tag_is_the_other : (a b : Option Bool) → is_same_tag a b ≡ true → a ≡ b
one_tag_is_the_other a b e = alike_options_are_same is_same_bool alike_truth_values_are_same a b e

abbrev the_tags : Option Bool → Option Bool → Option Bool → Option Bool → Option Bool → Option Bool → Option Bool → Option Bool → CommandTags
the_tags exec follow intercept log_input log_output mail passwd setenv = record { exec = exec; follow = follow; intercept = intercept; log_input = log_input; log_output = log_output; mail = mail; passwd = passwd; setenv = setenv }

alike_tags_are_same : (a b : CommandTags) → are_same_tags a b ≡ true → a ≡ b
alike_tags_are_same a b e =
    let p7 = and_parts (is_same_tag a.exec b.exec && is_same_tag a.follow b.follow && is_same_tag a.intercept b.intercept && is_same_tag a.log_input b.log_input && is_same_tag a.log_output b.log_output && is_same_tag a.mail b.mail && is_same_tag a.passwd b.passwd) (is_same_tag a.setenv b.setenv) e in
    let p6 = and_parts (is_same_tag a.exec b.exec && is_same_tag a.follow b.follow && is_same_tag a.intercept b.intercept && is_same_tag a.log_input b.log_input && is_same_tag a.log_output b.log_output && is_same_tag a.mail b.mail) (is_same_tag a.passwd b.passwd) p7.0 in
    let p5 = and_parts (is_same_tag a.exec b.exec && is_same_tag a.follow b.follow && is_same_tag a.intercept b.intercept && is_same_tag a.log_input b.log_input && is_same_tag a.log_output b.log_output) (is_same_tag a.mail b.mail) p6.0 in
    let p4 = and_parts (is_same_tag a.exec b.exec && is_same_tag a.follow b.follow && is_same_tag a.intercept b.intercept && is_same_tag a.log_input b.log_input) (is_same_tag a.log_output b.log_output) p5.0 in
    let p3 = and_parts (is_same_tag a.exec b.exec && is_same_tag a.follow b.follow && is_same_tag a.intercept b.intercept) (is_same_tag a.log_input b.log_input) p4.0 in
    let p2 = and_parts (is_same_tag a.exec b.exec && is_same_tag a.follow b.follow) (is_same_tag a.intercept b.intercept) p3.0 in
    let p1 = and_parts (is_same_tag a.exec b.exec) (is_same_tag a.follow b.follow) p2.0 in
    applied_same (applied_same (applied_same (applied_same (applied_same (applied_same (applied_same (ap the_tags (one_tag_is_the_other a.exec b.exec p1.0)) (one_tag_is_the_other a.follow b.follow p1.1)) (one_tag_is_the_other a.intercept b.intercept p2.1)) (one_tag_is_the_other a.log_input b.log_input p3.1)) (one_tag_is_the_other a.log_output b.log_output p4.1)) (one_tag_is_the_other a.mail b.mail p5.1)) (one_tag_is_the_other a.passwd b.passwd p6.1)) (one_tag_is_the_other a.setenv b.setenv p7.1)

abbrev the_grant : Option FlatRunasSpec → OptionValues → CommandTags → SignedAtom → Grant
the_grant runas options tags s = record { runas = runas; options = options; tags = tags; atom = s }

alike_grants_are_same : (a b : Grant) → is_same_grant a b ≡ true → a ≡ b
alike_grants_are_same a b e =
    let outer = and_parts (is_same_flat_runas_spec a.runas b.runas && are_same_option_values a.options b.options && are_same_tags a.tags b.tags) (is_same_signed_atom a.atom b.atom) e in
    let inner = and_parts (is_same_flat_runas_spec a.runas b.runas && are_same_option_values a.options b.options) (are_same_tags a.tags b.tags) outer.0 in
    let first = and_parts (is_same_flat_runas_spec a.runas b.runas) (are_same_option_values a.options b.options) inner.0 in
    applied_same (applied_same (applied_same (ap the_grant (alike_options_are_same are_same_runas_lists alike_runas_lists_are_same a.runas b.runas first.0))
    (alike_option_values_are_same a.options b.options first.1)) (alike_tags_are_same a.tags b.tags inner.1)) (alike_signed_atoms_are_same a.atom b.atom outer.1)

abbrev the_row : List SignedAtom → List SignedAtom → Grant → FlatPrivilegeRow
the_row users hosts grant = record { users = users; hosts = hosts; grant = grant }

pub alike_rows_are_same : (a b : FlatPrivilegeRow) → is_same_flat_row a b ≡ true → a ≡ b
alike_rows_are_same a b e =
    let outer = and_parts (is_same_flat_list a.users b.users && is_same_flat_list a.hosts b.hosts) (is_same_grant a.grant b.grant) e in
    let inner = and_parts (is_same_flat_list a.users b.users) (is_same_flat_list a.hosts b.hosts) outer.0 in
    applied_same (applied_same (ap the_row (alike_flat_lists_are_same a.users b.users inner.0)) (alike_flat_lists_are_same a.hosts b.hosts inner.1))
    (alike_grants_are_same a.grant b.grant outer.1)

-- ---- what is the same is decided to be

pub bytes_are_alike : (a : List ℕ) → bytes_eq a a ≡ true
bytes_are_alike a = (bytes_eq-Decides a a).1 refl

truth_values_are_alike : (a : Bool) → is_same_bool a a ≡ true
truth_values_are_alike true = refl
truth_values_are_alike false = refl

numbers_are_alike : (n : ℕ) → (n == n) ≡ true
numbers_are_alike n = eq-eqb n n refl

option_is_alike : {X : Type 0} (alike : X → X → Bool) → ((x : X) → alike x x ≡ true) → (a : Option X) → are_options_alike alike a a ≡ true
option_is_alike alike one None = refl
option_is_alike alike one (Some x) = one x

pub list_is_alike : {X : Type 0} (alike : X → X → Bool) → ((x : X) → alike x x ≡ true) → (xs : List X) → are_lists_alike alike xs xs ≡ true
list_is_alike alike one [] = refl
list_is_alike alike one (x ∷ xs) = both_true (one x) (list_is_alike alike one xs)

digest_kind_is_alike : (a : DigestKind) → is_same_digest_kind a a ≡ true
digest_kind_is_alike digest.Sha224 = refl
digest_kind_is_alike digest.Sha256 = refl
digest_kind_is_alike digest.Sha384 = refl
digest_kind_is_alike digest.Sha512 = refl

digest_is_alike : (a : Digest) → is_same_digest a a ≡ true
digest_is_alike a = both_true (digest_kind_is_alike a.kind) (bytes_are_alike a.text)

mask_is_alike : (a : Mask) → is_same_mask a a ≡ true
mask_is_alike (mask.Bits n) = numbers_are_alike n
mask_is_alike (mask.Dotted d) = numbers_are_alike d.number

arguments_are_alike : (a : Args) → is_same_args a a ≡ true
arguments_are_alike args.Any = refl
arguments_are_alike args.Nothing = refl
arguments_are_alike (args.Pattern p) = bytes_are_alike p

atom_is_alike : (a : Atom) → is_same_atom a a ≡ true
atom_is_alike atom.All = refl
atom_is_alike (atom.Alias a) = bytes_are_alike a
atom_is_alike (atom.Name a) = bytes_are_alike a
atom_is_alike (atom.Id a) = numbers_are_alike a
atom_is_alike (atom.Group a) = bytes_are_alike a
atom_is_alike (atom.GroupId a) = numbers_are_alike a
atom_is_alike (atom.NonUnix a) = bytes_are_alike a
atom_is_alike (atom.Netgroup a) = bytes_are_alike a
atom_is_alike (atom.Host a) = bytes_are_alike a
atom_is_alike (atom.Address a) = numbers_are_alike a.number
atom_is_alike (atom.Network a m) = both_true (numbers_are_alike a.number) (mask_is_alike m)
atom_is_alike atom.Listing = refl
atom_is_alike (atom.Path a m) = both_true (bytes_are_alike a) (arguments_are_alike m)
atom_is_alike (atom.Sudoedit m) = arguments_are_alike m

signed_atom_is_alike : (s : SignedAtom) → is_same_signed_atom s s ≡ true
signed_atom_is_alike s = both_true (both_true (truth_values_are_alike s.allow) (list_is_alike is_same_digest digest_is_alike s.digests)) (atom_is_alike s.atom)

pub flat_list_is_alike : (fs : List SignedAtom) → is_same_flat_list fs fs ≡ true
flat_list_is_alike fs = list_is_alike is_same_signed_atom signed_atom_is_alike fs

runas_lists_are_alike : (a : FlatRunasSpec) → are_same_runas_lists a a ≡ true
runas_lists_are_alike a = both_true (option_is_alike is_same_flat_list flat_list_is_alike a.users) (option_is_alike is_same_flat_list flat_list_is_alike a.groups)

value_is_alike : (a : Option (List ℕ)) → is_same_option_value a a ≡ true
value_is_alike a = option_is_alike bytes_eq bytes_are_alike a

pub option_values_are_alike : (a : OptionValues) → are_same_option_values a a ≡ true
option_values_are_alike a =
    both_true (both_true (both_true (both_true (both_true (both_true (both_true (both_true (both_true (value_is_alike a.role) (value_is_alike a.kind)) (value_is_alike a.apparmor_profile)) (value_is_alike a.privs)) (value_is_alike a.limitprivs)) (value_is_alike a.notbefore)) (value_is_alike a.notafter)) (value_is_alike a.timeout)) (value_is_alike a.cwd)) (value_is_alike a.chroot)

tag_is_alike : (a : Option Bool) → is_same_tag a a ≡ true
tag_is_alike a = option_is_alike is_same_bool truth_values_are_alike a

pub tags_are_alike : (a : CommandTags) → are_same_tags a a ≡ true
tags_are_alike a =
    both_true (both_true (both_true (both_true (both_true (both_true (both_true (tag_is_alike a.exec) (tag_is_alike a.follow)) (tag_is_alike a.intercept)) (tag_is_alike a.log_input)) (tag_is_alike a.log_output)) (tag_is_alike a.mail)) (tag_is_alike a.passwd)) (tag_is_alike a.setenv)

grant_is_alike : (a : Grant) → is_same_grant a a ≡ true
grant_is_alike a =
    both_true (both_true (both_true (option_is_alike are_same_runas_lists runas_lists_are_alike a.runas) (option_values_are_alike a.options)) (tags_are_alike a.tags))
    (signed_atom_is_alike a.atom)

pub row_is_alike : (a : FlatPrivilegeRow) → is_same_flat_row a a ≡ true
row_is_alike a = both_true (both_true (flat_list_is_alike a.users) (flat_list_is_alike a.hosts)) (grant_is_alike a.grant)

pub same_rows_are_alike : (a b : FlatPrivilegeRow) → a ≡ b → is_same_flat_row a b ≡ true
same_rows_are_alike a b e = ap (λ (r : FlatPrivilegeRow). is_same_flat_row a r) (sym e) ∙ row_is_alike a
