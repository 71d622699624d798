use Rattle.std.proofs.Common.{◌≡◌, take}
use Rattle.sudoers_check.specs.Chain.{ListHasElement}
use Rattle.sudoers_line_rows.specs.View.{members_of_view}
use Rattle.sudoers_match_list.specs.Flat.{SignedAtom}
use Rattle.sudoers_undecided.specs.declared.undecided_member.UndecidedMember.{UndecidedMember}
use Rattle.sudoers_undecided.specs.declared.wanted_members.CountedList.{CountedList}
use Rattle.sudoers_undecided.specs.FoundMembers.{HasAtomInPart}
use Rattle.sudoers_undecided.specs.internal.Collected.{IsCollectorOfLists, IsMemberUndecided, IsSettledCollector}
use Rattle.sudoers_undecided.specs.internal.Decided.{matched_by, undecided_by}
use Rattle.sudoers_undecided.specs.internal.Wanted.{AreFlat, IsWantedOfList}
use Rattle.sudoers_undecided.proofs.member_search.MemberSearch.append_members.Given as goal

abbrev pub invariant-loop-list : goal.invariant-loop-list
invariant-loop-list l = record {
  settled : IsSettledCollector l.numbers.walk l.collector;
  part : l.collector.part ≡ l.fn.part;
  aliases : l.collector.aliases.now ≡ l.fn.aliases;
  found : (list : CountedList) → ListHasElement (take l.list-index l.lists) list → (s : SignedAtom)
      → IsWantedOfList l.fn.aliases.kind l.self.policy.now (undecided_by l.fn.aliases) (matched_by l.fn.aliases) (members_of_view list.members) list.wanted s → HasAtomInPart l.collector.found.items l.collector.part s;
  only : AreFlat l.fn.aliases.kind l.self.policy.now l.lists → IsCollectorOfLists l.self.policy.now l.lists l.collector;
  undecided : (u : UndecidedMember) → ListHasElement l.collector.found.items u → IsMemberUndecided l.fn.aliases u;
}
