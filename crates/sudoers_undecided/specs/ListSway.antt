-- What a list says, and whether undecided members could make it allow or deny. The value is put together list by list, alias by alias.
use Rattle.std.specs.Prelude.{◌&&◌, ◌||◌, not, Bool, true, false, List, [], ◌∷◌, Option, Some, None, if◌then◌else◌}
use Rattle.std.specs.Option.{is_some}
use Rattle.sudoers_grammar.specs.declared.node.Atom.{Atom}
use Rattle.sudoers_match_list.specs.declared.verdict.MemberHit.{MemberHit}
use Rattle.sudoers_undecided.specs.declared.list_sway.ListSway.{ListSway}
use Rattle.sudoers_match_list.specs.Flat.{SignedAtom, has_no_digests, hit_of_signed_atom, hit_under_negation}

abbrev pub sway_of_empty_list : ListSway
sway_of_empty_list = record { hit = None; to_allow = false; to_deny = false }

-- a list that goes on with another
abbrev pub sway_unless_later_hit : Option MemberHit → ListSway → ListSway → ListSway
sway_unless_later_hit None before after = record { hit = before.hit; to_allow = before.to_allow || after.to_allow; to_deny = before.to_deny || after.to_deny }
sway_unless_later_hit (Some hit) before after = after

abbrev pub sway_of_joined_lists : ListSway → ListSway → ListSway
sway_of_joined_lists before after = sway_unless_later_hit after.hit before after

-- under an odd number of `!`
abbrev pub sway_under_negation : Bool → ListSway → ListSway
sway_under_negation negated s = record {
  hit = hit_under_negation negated s.hit;
  to_allow = if negated then s.to_deny else s.to_allow;
  to_deny = if negated then s.to_allow else s.to_deny;
}

-- what a list sways where these signed atoms are not decided
abbrev pub sway_of_one_atom : (SignedAtom → Bool) → (Atom → Bool) → SignedAtom → ListSway
sway_of_one_atom undecided test s = record {
  hit = hit_of_signed_atom test s;
  to_allow = undecided s && s.allow;
  to_deny = undecided s && not s.allow;
}

abbrev pub sway_of_atoms : (SignedAtom → Bool) → (Atom → Bool) → List SignedAtom → ListSway
sway_of_atoms undecided test [] = sway_of_empty_list
sway_of_atoms undecided test (s ∷ fs) = sway_of_joined_lists (sway_of_one_atom undecided test s) (sway_of_atoms undecided test fs)

-- a signed atom without digests whose atom is not decided
abbrev pub is_bare_and_undecided : (Atom → Bool) → SignedAtom → Bool
is_bare_and_undecided undecided s = undecided s.atom && has_no_digests s.digests

-- the same where atoms without digests are not decided
abbrev pub sway_of_signed_atom : (Atom → Bool) → (Atom → Bool) → SignedAtom → ListSway
sway_of_signed_atom undecided test = sway_of_one_atom (is_bare_and_undecided undecided) test

abbrev pub sway_of_flat_list : (Atom → Bool) → (Atom → Bool) → List SignedAtom → ListSway
sway_of_flat_list undecided test = sway_of_atoms (is_bare_and_undecided undecided) test

-- an undecided member could make the list say the contrary of this
abbrev pub could_be_swayed_from : Bool → ListSway → Bool
could_be_swayed_from true s = s.to_deny
could_be_swayed_from false s = s.to_allow

-- a member matches, or one behind the last that does is undecided
abbrev pub may_list_match : ListSway → Bool
may_list_match s = is_some s.hit || s.to_allow || s.to_deny
