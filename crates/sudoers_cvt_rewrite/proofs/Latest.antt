-- What the latest hit of a list is.
use Rattle.sudoers_cvt_rewrite.proofs.Common.{Atom, Bool, IsFlatListOf, IsLastHitOfList, Kind, Line, List, Member, Option, SignedAtom, ap, definitions_of_lines, fully_expanded_list, inl, inr}
use Rattle.sudoers_cvt_rewrite.proofs.Common.{last_hit_in_expanded_list, last_hit_of_list, length, map, signed_atom_of_member, sym, ◌∙◌, ◌≡◌}
use Rattle.sudoers_match_list.specs.declared.verdict.MemberHit.{MemberHit}
use Rattle.sudoers_match_list.proofs.Cycles.{not_to_cycle}
use Rattle.sudoers_match_list.proofs.Depth.{is_flat, replaced}
use Rattle.sudoers_match_list.proofs.Exists.{flat_or_cycle}
use Rattle.sudoers_match_list.proofs.Unique.{one_flat}

-- The flat list of a list is what replacing its aliases comes to.
flat_list_is_fully_expanded_list : (k : Kind) (lines : List Line) (ms : List Member) (fs : List SignedAtom) → IsFlatListOf k lines ms fs → fs ≡ map signed_atom_of_member (fully_expanded_list k lines ms)
flat_list_is_fully_expanded_list k lines ms fs f = elim (flat_or_cycle k lines ms) [
  | inl g ↦
      let n = length (definitions_of_lines lines) in
      one_flat k lines ms fs g.0 f (is_flat k lines n ms g.0 g.1) ∙ replaced k lines n ms g.0 g.1
  | inr l ↦ absurd (not_to_cycle k lines ms fs f l)
]

-- What the last matching member says is the latest hit.
pub last_hit_is_that_of_expanded_list : (k : Kind) (lines : List Line) (test : Atom → Bool) (ms : List Member) (hit : Option MemberHit) → IsLastHitOfList k lines test ms hit → last_hit_in_expanded_list lines k test ms ≡ hit
last_hit_is_that_of_expanded_list k lines test ms hit latest = ap (last_hit_of_list test) (sym (flat_list_is_fully_expanded_list k lines ms latest.flat latest.is_flat)) ∙ latest.is_last
