-- Whether a flat list allows, member by member.
use Rattle.std.proofs.Common.{◌≡◌, Bool, true, false, ◌&&◌, List, ◌∷◌, Option, Some, None, refl, sym, ap, ◌∙◌, if◌then◌else◌}
use Rattle.sudoers_grammar.specs.declared.node.Atom.{Atom}
use Rattle.sudoers_match_list.specs.declared.verdict.MemberHit.{MemberHit}
use Rattle.sudoers_match_list.specs.declared.verdict.Verdict.TheVariants.{Allow, Deny}
use Rattle.sudoers_match_list.specs.Flat.{SignedAtom, has_no_digests, hit_of_signed_atom, is_all_atom, last_hit_of_list, later_hit_if_any, verdict_of_hit}
use Rattle.laws_compare.specs.Effective.{is_allow_verdict, is_allowed_by_flat_list}
use Rattle.sudoers_review_users.specs.FlatRows.{is_allowed_behind, is_allowed_with_member}

verdict_allows_as_hit : (hit : Option MemberHit) → is_allow_verdict (verdict_of_hit hit) ≡ is_allowed_behind false hit
verdict_allows_as_hit None = refl
verdict_allows_as_hit (Some hit) = by hit.allow
  where
    by : (b : Bool) → is_allow_verdict (if b then Allow else Deny) ≡ b
    by true = refl
    by false = refl

pub list_allows_as_last_hit : (test : Atom → Bool) (fs : List SignedAtom) → is_allowed_behind false (last_hit_of_list test fs) ≡ is_allowed_by_flat_list test fs
list_allows_as_last_hit test fs = sym (verdict_allows_as_hit (last_hit_of_list test fs))

one_member_allows : (test : Atom → Bool) (so_far : Bool) (s : SignedAtom) → is_allowed_behind so_far (hit_of_signed_atom test s) ≡ is_allowed_with_member test so_far s
one_member_allows test so_far s = by (test s.atom && has_no_digests s.digests)
  where
    by : (b : Bool) → is_allowed_behind so_far (if b then Some (record { allow = s.allow; by_all = is_all_atom s.atom }) else None) ≡ (if b then s.allow else so_far)
    by true = refl
    by false = refl

later_hit_counts : (so_far : Bool) (first behind : Option MemberHit) → is_allowed_behind so_far (later_hit_if_any first behind) ≡ is_allowed_behind (is_allowed_behind so_far first) behind
later_hit_counts so_far first None = refl
later_hit_counts so_far first (Some hit) = refl

pub one_member_more_allows : (test : Atom → Bool) (so_far : Bool) (s : SignedAtom) (fs : List SignedAtom)
    → is_allowed_behind (is_allowed_with_member test so_far s) (last_hit_of_list test fs) ≡ is_allowed_behind so_far (last_hit_of_list test (s ∷ fs))
one_member_more_allows test so_far s fs =
    sym (later_hit_counts so_far (hit_of_signed_atom test s) (last_hit_of_list test fs)
    ∙ ap (λ (b : Bool). is_allowed_behind b (last_hit_of_list test fs)) (one_member_allows test so_far s))
