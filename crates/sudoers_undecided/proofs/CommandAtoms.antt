-- The atoms of a command that match, or are not decided.
use Rattle.std.proofs.Common.{◌≡◌, ◌⊎◌, inl, inr, ◌&&◌, ◌||◌, if◌then◌else◌, Bool, true, false, not, List, [], ◌∷◌, ◌++◌, Option, Some, None, is_some, refl, sym, ap, subst, ◌∙◌}
use Rattle.std.specs.Str.{bytes_eq}
use Rattle.sudoers_grammar.specs.declared.node.Atom.{Atom}
use Rattle.sudoers_grammar.specs.declared.node.Atom.TheVariants as atom
use Rattle.sudoers_check.specs.Chain.{ListHasElement}
use Rattle.sudoers_match_member.specs.declared.people_and_commands.CommandLine.{CommandLine}
use Rattle.sudoers_match_member.specs.declared.request.Request.{Request}
use Rattle.sudoers_match_member.specs.declared.wildcards.GlobMode.TheVariants as mode
use Rattle.sudoers_match_member.specs.Hits.{is_command_args_match, is_command_atom_match, is_command_path_match, path_split_at_last_slash}
use Rattle.sudoers_match_list.specs.declared.verdict.MemberHit.{MemberHit}
use Rattle.sudoers_match_list.specs.Flat.{SignedAtom, has_no_digests, hit_of_signed_atom, is_all_atom, last_hit_of_list, later_hit_if_any}
use Rattle.sudoers_match.specs.Answer.{command_with_joined_arguments_of_request, is_request_command_hit}
use Rattle.sudoers_undecided.specs.declared.list_sway.ListSway.{ListSway}
use Rattle.sudoers_undecided.specs.ListSway.{may_list_match, sway_of_atoms, sway_of_one_atom, sway_unless_later_hit}
use Rattle.sudoers_undecided.specs.MatchTests.{is_same_last_name_elsewhere, undecided_by_files_or_paths}
use Rattle.sudoers_undecided.proofs.RowCounts.{and_parts, hit_is_of_match}

-- ---- a list that may match has an atom that matches, or is not decided

module _ (undecided : SignedAtom → Bool) (test : Atom → Bool) where
  abbrev Matters : SignedAtom → Type 0
  Matters s = ((test s.atom && has_no_digests s.digests) ≡ true) ⊎ (undecided s ≡ true)

  in_first_or_later : (h a d p q : Bool) → ((h || (a || p)) || (d || q)) ≡ true → (((h || a) || d) ≡ true) ⊎ ((p || q) ≡ true)
  in_first_or_later true a d p q e = inl refl
  in_first_or_later false true d p q e = inl refl
  in_first_or_later false false true p q e = inl refl
  in_first_or_later false false false p q e = inr e

  after_hit : (h p q : Bool) → (p || q) ≡ true → ((h || p) || q) ≡ true
  after_hit true p q e = refl
  after_hit false p q e = e

  one_of_two : (a b : ListSway) → may_list_match (sway_unless_later_hit b.hit a b) ≡ true → (may_list_match a ≡ true) ⊎ (may_list_match b ≡ true)
  one_of_two a b e = by b.hit refl e
    where
      by : (h : Option MemberHit) → b.hit ≡ h → may_list_match (sway_unless_later_hit h a b) ≡ true → (may_list_match a ≡ true) ⊎ (may_list_match b ≡ true)
      by (Some x) is e = inr e
      by None is e = elim (in_first_or_later (is_some a.hit) a.to_allow a.to_deny b.to_allow b.to_deny e) as (λ _. (may_list_match a ≡ true) ⊎ (may_list_match b ≡ true)) [
        | inl x ↦ inl x
        | inr x ↦ inr (after_hit (is_some b.hit) b.to_allow b.to_deny x)
      ]

  of_one : (m u a : Bool) (x : MemberHit) → ((is_some {T = MemberHit} (if m then Some x else None) || (u && a)) || (u && not a)) ≡ true → (m ≡ true) ⊎ (u ≡ true)
  of_one true u a x e = inl refl
  of_one false true a x e = inr refl
  of_one false false a x e = absurd cc

  pub matching_list_has_atom : (fs : List SignedAtom) → may_list_match (sway_of_atoms undecided test fs) ≡ true → (s : SignedAtom) × ListHasElement fs s × Matters s
  matching_list_has_atom [] e = absurd cc
  matching_list_has_atom (t ∷ fs) e = by (one_of_two (sway_of_one_atom undecided test t) (sway_of_atoms undecided test fs) e) (matching_list_has_atom fs)
    where
      by : (may_list_match (sway_of_one_atom undecided test t) ≡ true) ⊎ (may_list_match (sway_of_atoms undecided test fs) ≡ true)
          → (may_list_match (sway_of_atoms undecided test fs) ≡ true → (s : SignedAtom) × ListHasElement fs s × Matters s) → (s : SignedAtom) × ListHasElement (t ∷ fs) s × Matters s
      by (inl x) ih = (t, inl refl, of_one (test t.atom && has_no_digests t.digests) (undecided t) t.allow (record { allow = t.allow; by_all = is_all_atom t.atom }) x)
      by (inr x) ih = let w = ih x in (w.0, inr w.1, w.2)

-- ---- the last atom that matches

pub record HasLastMatch (test : Atom → Bool) (flat : List SignedAtom) : Type 0 where
  pub before : List SignedAtom
  pub after : List SignedAtom
  pub atom : SignedAtom
  pub stands : flat ≡ before ++ atom ∷ after
  pub matches : (test atom.atom && has_no_digests atom.digests) ≡ true
  pub none_behind : last_hit_of_list test after ≡ None

pub hit_is_of_last_match : (test : Atom → Bool) (fs : List SignedAtom) → is_some (last_hit_of_list test fs) ≡ true → HasLastMatch test fs
hit_is_of_last_match test [] e = absurd cc
hit_is_of_last_match test (t ∷ fs) e = by (last_hit_of_list test fs) refl e (hit_is_of_last_match test fs)
  where
    by : (l : Option MemberHit) → last_hit_of_list test fs ≡ l → is_some (later_hit_if_any (hit_of_signed_atom test t) l) ≡ true → (is_some (last_hit_of_list test fs) ≡ true → HasLastMatch test fs) → HasLastMatch test (t ∷ fs)
    by None is e ih =
        record { before = []; after = fs; atom = t; stands = refl; matches = hit_is_of_match (test t.atom && has_no_digests t.digests) (record { allow = t.allow; by_all = is_all_atom t.atom }) e; none_behind = is }
    by (Some x) is e ih =
        let w = ih (ap is_some is) in record { before = t ∷ w.before; after = w.after; atom = w.atom; stands = ap (λ u. t ∷ u) w.stands; matches = w.matches; none_behind = w.none_behind }

-- ---- places in a list

pub place_of_element : {X : Type 0} (xs : List X) (x : X) → ListHasElement xs x → (before after : List X) × (xs ≡ before ++ x ∷ after)
place_of_element [] x h = absurd h
place_of_element (y ∷ ys) x (inl e) = ([], ys, ap (λ z. z ∷ ys) e)
place_of_element (y ∷ ys) x (inr h) = let w = place_of_element ys x h in (y ∷ w.0, w.1, ap (λ zs. y ∷ zs) w.2)

pub stands_behind : {X : Type 0} (before after xs : List X) (x : X) → xs ≡ before ++ x ∷ after → (y : X) → ListHasElement after y → ListHasElement xs y
stands_behind {X} before after xs x e y h = subst (λ ys. ListHasElement ys y) (sym e) (behind before)
  where
    behind : (ys : List X) → ListHasElement (ys ++ x ∷ after) y
    behind [] = inr h
    behind (z ∷ zs) = inr (behind zs)

-- ---- what is not decided matches nothing

not_false : (b : Bool) → not b ≡ true → b ≡ false
not_false true e = absurd cc
not_false false e = refl

path_elsewhere_matches_not : (c : CommandLine) (a : Atom) → is_same_last_name_elsewhere c a ≡ true → is_command_atom_match c a ≡ true → ⊥
path_elsewhere_matches_not c atom.All e m = absurd cc
path_elsewhere_matches_not c (atom.Alias name) e m = absurd cc
path_elsewhere_matches_not c (atom.Name name) e m = absurd cc
path_elsewhere_matches_not c (atom.Id n) e m = absurd cc
path_elsewhere_matches_not c (atom.Group name) e m = absurd cc
path_elsewhere_matches_not c (atom.GroupId n) e m = absurd cc
path_elsewhere_matches_not c (atom.NonUnix name) e m = absurd cc
path_elsewhere_matches_not c (atom.Netgroup name) e m = absurd cc
path_elsewhere_matches_not c (atom.Host name) e m = absurd cc
path_elsewhere_matches_not c (atom.Address address) e m = absurd cc
path_elsewhere_matches_not c (atom.Network address mask) e m = absurd cc
path_elsewhere_matches_not c atom.Listing e m = absurd cc
path_elsewhere_matches_not c (atom.Sudoedit args) e m = absurd cc
path_elsewhere_matches_not c (atom.Path path args) e m =
    let elsewhere : is_command_path_match c.path path ≡ false =
    not_false (is_command_path_match c.path path)
    (and_parts (bytes_eq (path_split_at_last_slash path).1 (path_split_at_last_slash c.path).1 && is_command_args_match mode.Args c.args args) (not (is_command_path_match c.path path)) e).1 in
    let clash : true ≡ false = sym (and_parts (is_command_path_match c.path path) (is_command_args_match mode.Args c.args args) m).0 ∙ elsewhere in
    absurd cc

pub undecided_command_matches_not : (r : Request) (s : SignedAtom) → (undecided_by_files_or_paths r).command s ≡ true → is_request_command_hit r s ≡ true → ⊥
undecided_command_matches_not r s u m = by (is_command_atom_match (command_with_joined_arguments_of_request r) s.atom) (has_no_digests s.digests) (is_same_last_name_elsewhere (command_with_joined_arguments_of_request r) s.atom) u m
    (path_elsewhere_matches_not (command_with_joined_arguments_of_request r) s.atom)
  where
    by : (a d n : Bool) → ((a && not d) || n) ≡ true → (a && d) ≡ true → (n ≡ true → a ≡ true → ⊥) → ⊥
    by false d n e m not_there = let clash : false ≡ true = m in cc
    by true false n e m not_there = let clash : false ≡ true = m in cc
    by true true n e m not_there = not_there e refl
